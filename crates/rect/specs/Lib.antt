pub mod Numbers
pub mod Spans
pub mod Sums
pub mod Rects

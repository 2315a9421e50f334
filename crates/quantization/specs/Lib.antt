pub mod Quantization

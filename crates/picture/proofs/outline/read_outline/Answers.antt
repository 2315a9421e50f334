use Rattle.std.proofs.Common.{rules}
use Rattle.picture.proofs.Begins.{cut_up}
use Rattle.picture.proofs.outline.read_outline.Goals as goal

pub returns : goal.returns
returns c = record { outlined = search rules; tiles = cut_up c.in_ok-size.size }

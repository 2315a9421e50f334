use Rattle.headers.proofs.Onwards.{main_onward, part_onward}
use Rattle.headers.proofs.laws.segments_onward.Goals as goal

pub returns : goal.returns
returns c = record { main = main_onward; part = part_onward }

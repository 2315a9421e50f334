use Rattle.std.proofs.Common.{◌-◌, length}
use Rattle.main_survey.proofs.Runs.{Run}
use Rattle.main_survey.proofs.header_segments.main_segments.Given as goal

abbrev pub invariant-loop-found : goal.invariant-loop-found
invariant-loop-found l = Run l.header l.room l.reader l.cod l.qcd l.packets

abbrev pub decreases-loop-found : goal.decreases-loop-found
decreases-loop-found l = length l.header.codestream.now - l.reader.place

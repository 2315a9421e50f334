use Rattle.std.proofs.Common.{◌-◌, length}
use Rattle.main_settings.proofs.Runs.{Run}
use Rattle.main_settings.proofs.component_settings.Given as goal

abbrev pub invariant-loop-found : goal.invariant-loop-found
invariant-loop-found l = Run l.header l.reader l.index l.row

abbrev pub decreases-loop-found : goal.decreases-loop-found
decreases-loop-found l = length l.header.codestream.now - l.reader.place

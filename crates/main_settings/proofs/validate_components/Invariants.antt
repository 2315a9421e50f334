use Rattle.main_settings.proofs.Tests.{Passed}
use Rattle.main_settings.proofs.validate_components.Given as goal

abbrev pub invariant-loop-index : goal.invariant-loop-index
invariant-loop-index l = Passed l.header.codestream.now l.header.csiz l.header.segments l.place l.index

use Rattle.std.proofs.Common.{rules}
use Rattle.main_survey.proofs.Verdicts.{sot_tested}
use Rattle.main_survey.proofs.survey.test_at_sot.Goals as goal

pub returns : goal.returns
returns c = search (rules, sot_tested)

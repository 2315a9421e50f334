use Rattle.part_survey.proofs.Once.{one_answer}
use Rattle.part_survey.proofs.laws.one_answer.Goals as goal

pub returns : goal.returns
returns c = one_answer

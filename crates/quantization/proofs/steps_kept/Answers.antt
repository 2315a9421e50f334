use Rattle.quantization.proofs.Stepped.{kept_each}
use Rattle.quantization.proofs.steps_kept.Goals as goal

pub returns : goal.returns
returns c = kept_each

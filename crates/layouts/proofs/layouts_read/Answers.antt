use Rattle.layouts.proofs.Laws.{layouts_read}
use Rattle.layouts.proofs.Tables.{reads_all}
use Rattle.layouts.proofs.layouts_read.Goals as goal

pub returns : goal.returns
returns c = record { tables = reads_all; layouts = layouts_read }

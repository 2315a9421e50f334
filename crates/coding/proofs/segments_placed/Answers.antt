use Rattle.coding.proofs.Places.{cod_at, coc_at}
use Rattle.coding.proofs.segments_placed.Goals as goal

pub returns : goal.returns
returns c = record { cod = cod_at; coc = coc_at }

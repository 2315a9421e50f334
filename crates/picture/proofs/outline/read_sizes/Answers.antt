use Rattle.std.proofs.Common.{rules}
use Rattle.picture.proofs.Begins.{behind_soc}
use Rattle.picture.proofs.outline.read_sizes.Goals as goal

pub returns-in-Ok-eq79 : goal.returns-in-Ok-eq79
returns-in-Ok-eq79 c =
    behind_soc c.args.codestream.now c.read_marker.new.self c.size_marker.new.reader c.size_marker.result (search rules) (search rules)
    (search rules) c.size_marker.ensures.reads

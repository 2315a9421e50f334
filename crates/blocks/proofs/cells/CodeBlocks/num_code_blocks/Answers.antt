use Rattle.std.proofs.Common.{◌≡◌, ◌*◌, ◌^◌, sym, ◌∙◌, arith}
use Rattle.rect.specs.Rects.{region}
use Rattle.blocks.specs.Asked.{columns, rows}
use Rattle.blocks.proofs.BlockLaws.{blocks_proper}
use Rattle.blocks.proofs.Numbered.{all_of, few_of, number_of, partition_of}
use Rattle.blocks.proofs.cells.CodeBlocks.num_code_blocks.Goals as goal

pub returns : goal.returns
returns c =
    let b = c.args.self.now in
    let n = c.from.result * c.from-2.result in
    let e : n ≡ columns b * rows b = cc in
    record {
      number = e ∙ sym (number_of b);
      closed = all_of b n e;
      areas_add_up = (partition_of b).areas;
      exactly_one = (partition_of b).points;
      all_proper = blocks_proper (2 ^ b.xcb) (2 ^ b.ycb) (region b.rect);
      few = omega (arith, number_of b, few_of b);
    }

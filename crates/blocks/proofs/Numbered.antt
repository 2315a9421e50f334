-- The code-blocks of a precinct as the calls hand them out.
use Rattle.std.proofs.Common.{◌≡◌, ℕ, ◌*◌, ◌^◌, ◌<◌, ◌≤◌, map, length, sym, ◌∙◌, subst, arith, pow_pos}
use Rattle.std.specs.List.{range_with_len}
use Rattle.std.proofs.lemmas.List.FromFn.{fill_by_all}
use Rattle.rect.specs.declared.IntRect.{IntRect}
use Rattle.rect.specs.Rects.{nowhere, region}
use Rattle.rect.specs.Spans.{Rect, area}
use Rattle.rect.specs.Sums.{Partition}
use Rattle.blocks.specs.declared.cells.CodeBlocks.{CodeBlocks}
use Rattle.blocks.specs.CodeBlocks.{Proper}
use Rattle.blocks.specs.Asked.{block_of, blocks_of, columns, rows, BlockIs}
use Rattle.blocks.proofs.BlockLaws.{blocks_partition, few_blocks, listed, number, proper_at}

pub number_of : (b : CodeBlocks) → length (blocks_of b) ≡ columns b * rows b
number_of b = number (2 ^ b.xcb) (2 ^ b.ycb) (pow_pos b.xcb) (pow_pos b.ycb) (region b.rect)

pub all_of : (b : CodeBlocks) (n : ℕ) → n ≡ columns b * rows b → blocks_of b ≡ map (block_of b) (range_with_len 0 n)
all_of b n e =
    fill_by_all (block_of b) (blocks_of b) n nowhere (number_of b ∙ sym e)
    (λ k h. sym (listed (2 ^ b.xcb) (2 ^ b.ycb) (pow_pos b.xcb) (pow_pos b.ycb) (region b.rect) k (omega arith)))

pub partition_of : (b : CodeBlocks) → Partition (region b.rect) (blocks_of b)
partition_of b = blocks_partition (2 ^ b.xcb) (2 ^ b.ycb) (pow_pos b.xcb) (pow_pos b.ycb) (region b.rect)

pub few_of : (b : CodeBlocks) → length (blocks_of b) ≤ area (region b.rect)
few_of b = omega (arith, few_blocks (2 ^ b.xcb) (2 ^ b.ycb) (region b.rect), (partition_of b).areas)

pub block_is : (b : CodeBlocks) (k : ℕ) (r : IntRect) → k < columns b * rows b
    → region r ≡ block_of b k → BlockIs b k r
block_is b k r h e =
    let w = 2 ^ b.xcb in
    let v = 2 ^ b.ycb in
    let there : k < length (blocks_of b) = omega (arith, number_of b) in
    let l = e ∙ listed w v (pow_pos b.xcb) (pow_pos b.ycb) (region b.rect) k h in
    record {
      there = there;
      listed = l;
      closed = e;
      proper = subst (λ (q : Rect). Proper w v q) (sym l) (proper_at w v (region b.rect) k there);
    }

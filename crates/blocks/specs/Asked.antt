-- What the calls on code-blocks answer.
use Rattle.std.specs.Prelude.{◌≡◌, ℕ, ◌^◌, ◌<◌, ◌≤◌, true, false, ◌⊎◌, List, length, Some, None, Ok, Err, Option, Result, slice_index_or, All}
use Rattle.faults.specs.declared.decode.BookError.TheVariants.{NoSuchIndex}
use Rattle.faults.specs.declared.decode.DecodeError.{DecodeError}
use Rattle.faults.specs.declared.decode.DecodeError.TheVariants.{Book}
use Rattle.rect.specs.declared.IntRect.{IntRect}
use Rattle.rect.specs.Rects.{nowhere, region}
use Rattle.rect.specs.Spans.{Rect, meets}
use Rattle.bands.specs.declared.sub_band.SubBandType.{SubBandType}
use Rattle.bands.specs.SubBands.{has}
use Rattle.precincts.specs.Asked.{across, blank, down, PrecinctAnswer}
use Rattle.precincts.specs.Precincts.{Direction, precincts, refusal}
use Rattle.blocks.specs.declared.cells.CodeBlocks.{CodeBlocks}
use Rattle.blocks.specs.declared.grid.BlockGrid.{BlockGrid}
use Rattle.blocks.specs.CodeBlocks.{block_at, block_count_of, block_exponent_of, blocks, Proper}
use Rattle.blocks.specs.Components.{precinct_blocks, sub_band, CutUp}

abbrev pub columns : CodeBlocks → ℕ
columns b = block_count_of (2 ^ b.xcb) (region b.rect).x

abbrev pub rows : CodeBlocks → ℕ
rows b = block_count_of (2 ^ b.ycb) (region b.rect).y

abbrev pub blocks_of : CodeBlocks → List Rect
blocks_of b = blocks (2 ^ b.xcb) (2 ^ b.ycb) (region b.rect)

-- block k in closed form
abbrev pub block_of : CodeBlocks → ℕ → Rect
block_of b k = block_at (2 ^ b.xcb) (2 ^ b.ycb) (region b.rect) k

abbrev pub AllProper : CodeBlocks → Type 0
AllProper b = All (Proper (2 ^ b.xcb) (2 ^ b.ycb)) (blocks_of b)

-- block k is item k of the list, and has its closed form
pub record BlockIs (b : CodeBlocks) (k : ℕ) (r : IntRect) : Type 0 where
  pub there : k < length (blocks_of b)
  pub listed : region r ≡ slice_index_or (blocks_of b) k nowhere
  pub closed : region r ≡ block_of b k
  pub proper : Proper (2 ^ b.xcb) (2 ^ b.ycb) (region r)

abbrev pub BlockAnswer : CodeBlocks → ℕ → Option IntRect → Type 0
BlockAnswer b k None = length (blocks_of b) ≤ k
BlockAnswer b k (Some r) = BlockIs b k r

abbrev pub SubBandIs : Direction → Direction → SubBandType → Result IntRect DecodeError → Type 0
SubBandIs x y b (Ok r) = (has x.r b ≡ true) × (region r ≡ sub_band x y b)
SubBandIs x y b (Err e) = (has x.r b ≡ false) × (e ≡ Book NoSuchIndex)

-- where the precincts are not refused, the code-blocks cut the sub-band up
abbrev pub CutWhereAccepted : BlockGrid → SubBandType → Type 0
CutWhereAccepted g b =
    has (across g.precincts).r b ≡ true → refusal (across g.precincts) (down g.precincts) ≡ None
    → CutUp g.xcb g.ycb (across g.precincts) (down g.precincts) b

-- the code-blocks of sub-band b in precinct k
pub record BlocksAre (g : BlockGrid) (b : SubBandType) (k : ℕ) (c : CodeBlocks) : Type 0 where
  pub has_band : has (across g.precincts).r b ≡ true
  pub accepted : refusal (across g.precincts) (down g.precincts) ≡ None
  pub there : k < length (precincts (across g.precincts) (down g.precincts))
  pub shares : region c.rect
      ≡ meets (region (slice_index_or (precincts (across g.precincts) (down g.precincts)) k blank).rect)
      (sub_band (across g.precincts) (down g.precincts) b)
  pub width : c.xcb ≡ block_exponent_of g.xcb (across g.precincts)
  pub height : c.ycb ≡ block_exponent_of g.ycb (down g.precincts)
  pub same_list : blocks_of c
      ≡ precinct_blocks g.xcb g.ycb (across g.precincts) (down g.precincts) b
      (slice_index_or (precincts (across g.precincts) (down g.precincts)) k blank)
  pub cut_up : CutUp g.xcb g.ycb (across g.precincts) (down g.precincts) b

-- a sub-band that is not there comes first
abbrev pub BlocksAnswer : BlockGrid → SubBandType → ℕ → Result CodeBlocks DecodeError → Type 0
BlocksAnswer g b k (Ok c) = BlocksAre g b k c
BlocksAnswer g b k (Err e) =
    ((has (across g.precincts).r b ≡ false) × (e ≡ Book NoSuchIndex))
    ⊎ ((has (across g.precincts).r b ≡ true) × PrecinctAnswer (across g.precincts) (down g.precincts) k (Err e))

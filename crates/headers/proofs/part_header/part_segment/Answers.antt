use Rattle.std.proofs.Common.{ℕ, ◌+◌, cond, List, sym, ap, ◌∙◌, Bor}
use Rattle.layouts.specs.declared.header.HeaderKind.TheVariants.{TilePart}
use Rattle.coding.specs.Coding.{cod_layout, coc_layout}
use Rattle.layouts.specs.Layouts.{meaning}
use Rattle.packed.specs.Ppt.{ppt_layout}
use Rattle.quantization.specs.Quantization.{qcc_layout}
use Rattle.headers.specs.Standing as standing
use Rattle.faults.specs.declared.decode.DecodeError.TheVariants.{Tile}
use Rattle.faults.specs.declared.decode.TileError.TheVariants.{PpmPptConflict}
use Rattle.headers.specs.Standing.{Standing, ends, refused, as_read, behind_part, in_image}
use Rattle.headers.specs.declared.kind.Kind.{Kind}
use Rattle.headers.proofs.Founds.{read_found}
use Rattle.headers.proofs.part_header.part_segment.Goals as goal

pub returns-in-Cod : goal.returns-in-Cod
returns-in-Cod c =
    let f = c.in_ok-read_marker.ensures in
    let d = c.args.reader.now.«data».now in
    let p = c.args.reader.now.place in (
      read_found (λ s. s) cod_layout standing.cod 82 d p _ c.read_marker.new.self c.cod_found.new.reader c.cod_found.result
          (ap (λ (k : Kind). behind_part d c.args.rules.csiz c.args.rules.packets p k) (sym c.in-Cod.is ∙ c.part_kind-kind.ensures))
          (ap (λ (s : Bor (List ℕ)). s.now) f.same) f.reads.1 c.cod_found.ensures.0,
      c.cod_found.ensures.1 ∙ f.same,
    )

pub returns-in-Coc : goal.returns-in-Coc
returns-in-Coc c =
    let f = c.in_ok-read_marker.ensures in
    let d = c.args.reader.now.«data».now in
    let p = c.args.reader.now.place in (
      read_found (in_image c.args.rules.csiz c.offset-place.result) (coc_layout TilePart c.args.rules.csiz) standing.coc 83 d p _ c.read_marker.new.self c.tile_coc_found.new.reader c.tile_coc_found.result
          (ap (λ (q : ℕ). in_image c.args.rules.csiz q (as_read standing.coc 83 (meaning (coc_layout TilePart c.args.rules.csiz) d (p + 2)))) c.offset-place.ensures
          ∙ ap (λ (k : Kind). behind_part d c.args.rules.csiz c.args.rules.packets p k) (sym c.in-Coc.is ∙ c.part_kind-kind.ensures))
          (ap (λ (s : Bor (List ℕ)). s.now) f.same) f.reads.1 c.tile_coc_found.ensures.0,
      c.tile_coc_found.ensures.1 ∙ f.same,
    )

pub returns-in-Qcc : goal.returns-in-Qcc
returns-in-Qcc c =
    let f = c.in_ok-read_marker.ensures in
    let d = c.args.reader.now.«data».now in
    let p = c.args.reader.now.place in (
      read_found (in_image c.args.rules.csiz c.offset-place.result) (qcc_layout TilePart c.args.rules.csiz) standing.qcc 93 d p _ c.read_marker.new.self c.tile_qcc_found.new.reader c.tile_qcc_found.result
          (ap (λ (q : ℕ). in_image c.args.rules.csiz q (as_read standing.qcc 93 (meaning (qcc_layout TilePart c.args.rules.csiz) d (p + 2)))) c.offset-place.ensures
          ∙ ap (λ (k : Kind). behind_part d c.args.rules.csiz c.args.rules.packets p k) (sym c.in-Qcc.is ∙ c.part_kind-kind.ensures))
          (ap (λ (s : Bor (List ℕ)). s.now) f.same) f.reads.1 c.tile_qcc_found.ensures.0,
      c.tile_qcc_found.ensures.1 ∙ f.same,
    )

pub returns-in-Ppt : goal.returns-in-Ppt
returns-in-Ppt c =
    let f = c.in_ok-read_marker.ensures in
    let d = c.args.reader.now.«data».now in
    let p = c.args.reader.now.place in
    let unless : ℕ → Standing → Standing = λ q s. cond c.args.rules.packets (ends (refused (Tile (PpmPptConflict q)))) s in (
      read_found (unless c.offset-place.result) ppt_layout standing.ppt 97 d p _ c.read_marker.new.self c.ppt_unless.new.reader
          c.ppt_unless.result
          (ap (λ (q : ℕ). unless q (as_read standing.ppt 97 (meaning ppt_layout d (p + 2)))) c.offset-place.ensures
          ∙ ap (λ (k : Kind). behind_part d c.args.rules.csiz c.args.rules.packets p k) (sym c.in-Ppt.is ∙ c.part_kind-kind.ensures))
          (ap (λ (s : Bor (List ℕ)). s.now) f.same) f.reads.1 c.ppt_unless.ensures.0,
      c.ppt_unless.ensures.1 ∙ f.same,
    )

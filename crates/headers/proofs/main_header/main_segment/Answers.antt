use Rattle.std.proofs.Common.{ℕ, List, sym, ap, ◌∙◌, Bor}
use Rattle.layouts.specs.declared.header.HeaderKind.TheVariants.{Main}
use Rattle.coding.specs.Coding.{cod_layout, coc_layout}
use Rattle.quantization.specs.Quantization.{qcc_layout}
use Rattle.headers.specs.Standing as standing
use Rattle.headers.specs.Standing.{behind_main}
use Rattle.headers.specs.declared.kind.Kind.{Kind}
use Rattle.headers.proofs.Founds.{read_found}
use Rattle.headers.proofs.main_header.main_segment.Goals as goal

pub returns-in-Cod : goal.returns-in-Cod
returns-in-Cod c =
    let f = c.in_ok-read_marker.ensures in
    let d = c.args.reader.now.«data».now in
    let p = c.args.reader.now.place in (
      read_found (λ s. s) cod_layout standing.cod 82 d p _ c.read_marker.new.self c.cod_found.new.reader c.cod_found.result
          (ap (λ (k : Kind). behind_main d c.args.csiz p k) (sym c.in-Cod.is ∙ c.main_kind-kind.ensures))
          (ap (λ (s : Bor (List ℕ)). s.now) f.same) f.reads.1 c.cod_found.ensures.0,
      c.cod_found.ensures.1 ∙ f.same,
    )

pub returns-in-Coc : goal.returns-in-Coc
returns-in-Coc c =
    let f = c.in_ok-read_marker.ensures in
    let d = c.args.reader.now.«data».now in
    let p = c.args.reader.now.place in (
      read_found (λ s. s) (coc_layout Main c.args.csiz) standing.coc 83 d p _ c.read_marker.new.self c.coc_found.new.reader c.coc_found.result
          (ap (λ (k : Kind). behind_main d c.args.csiz p k) (sym c.in-Coc.is ∙ c.main_kind-kind.ensures))
          (ap (λ (s : Bor (List ℕ)). s.now) f.same) f.reads.1 c.coc_found.ensures.0,
      c.coc_found.ensures.1 ∙ f.same,
    )

pub returns-in-Qcc : goal.returns-in-Qcc
returns-in-Qcc c =
    let f = c.in_ok-read_marker.ensures in
    let d = c.args.reader.now.«data».now in
    let p = c.args.reader.now.place in (
      read_found (λ s. s) (qcc_layout Main c.args.csiz) standing.qcc 93 d p _ c.read_marker.new.self c.qcc_found.new.reader c.qcc_found.result
          (ap (λ (k : Kind). behind_main d c.args.csiz p k) (sym c.in-Qcc.is ∙ c.main_kind-kind.ensures))
          (ap (λ (s : Bor (List ℕ)). s.now) f.same) f.reads.1 c.qcc_found.ensures.0,
      c.qcc_found.ensures.1 ∙ f.same,
    )

use Rattle.std.proofs.Common.{◌≡◌, ◌∙◌, refl, set, sym, arith, rules}
use Rattle.std.proofs.lemmas.List.{set_past}
use Rattle.quantization.proofs.Stepped.{stepped_none, stepped_more, stepped_all}
use Rattle.quantization.proofs.steps.step_sizes.Goals as goal
use Rattle.quantization.proofs.steps.step_sizes.Goals.{then-k-lt-KEPT, else-k-lt-KEPT}

pub loop-k-init : goal.loop-k-init
loop-k-init g c = (
  stepped_none c.args.style c.args.count c.args.reader.now.«data».now c.args.reader.now.place c.default-steps.result
      c.default-steps.ensures.0 c.default-steps.ensures.1,
  refl,
)

pub loop-k-preserved : goal.loop-k-preserved
loop-k-preserved g c =
    let f = c.in_ok-step.ensures in
    let e : c.loop-k.reader.«data».now ≡ c.args.reader.now.«data».now = cc in
    let put : c.if-k-lt-KEPT.steps ≡ set c.loop-k.steps c.loop-k.k c.in_ok-step.step =
    elim c.if-k-lt-KEPT.branch [
      | then-k-lt-KEPT w ↦ w.steps-is
      | else-k-lt-KEPT w ↦ w.steps-is ∙ sym (set_past c.loop-k.steps c.loop-k.k c.in_ok-step.step (omega arith))
    ] in (
      stepped_more c.args.style c.args.count c.args.reader.now.«data».now c.args.reader.now.place c.loop-k.k
          c.loop-k.reader.place c.loop-k.steps _ c.in_ok-step.step _ _ c.loop-k.invariant.0 (omega arith) (rw e at f.0.0)
          (rw e at f.0.1) put,
      search rules,
    )

pub returns : goal.returns
returns g c = (
  stepped_all c.args.style c.args.count c.args.reader.now.«data».now c.args.reader.now.place c.loop-k.k
      c.loop-k.reader.place c.loop-k.steps c.loop-k.invariant.0 (omega arith) (omega arith),
  search rules,
)

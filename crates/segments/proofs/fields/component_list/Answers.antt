use Rattle.std.proofs.Common.{◌≡◌, refl, arith, rules}
use Rattle.std.proofs.lemmas.Result.{err_from_is_err_and}
use Rattle.segments.specs.Siz.{MadeComponents}
use Rattle.layouts.proofs.Exits.{failed_exit}
use Rattle.segments.proofs.Components.{listed_none, listed_more, listed_failed}
use Rattle.segments.proofs.fields.component_list.Goals as goal

pub loop-k-init : goal.loop-k-init
loop-k-init c = (listed_none c.args.count c.args.reader.now.«data».now c.args.reader.now.place, refl)

pub returns-in_err-sampled : goal.returns-in_err-sampled
returns-in_err-sampled c =
    let p = err_from_is_err_and c.from_residual.result c.from_residual.ensures.1 in
    let f = c.in_err-sampled.ensures in
    let e : c.loop-k.reader.«data».now ≡ c.args.reader.now.«data».now = cc in
    let all =
    listed_failed c.args.count c.args.reader.now.«data».now c.args.reader.now.place c.loop-k._k c.loop-k.reader.place
    c.loop-k.sampled _ _ c.loop-k.invariant.0 (omega arith) (rw e at f.0) in
    (failed_exit _ (MadeComponents c.args.count) c.component_fields.new.reader _ p.0 _ all p.1 p.2, search rules)

pub loop-k-preserved : goal.loop-k-preserved
loop-k-preserved c =
    let f = c.in_ok-sampled.ensures in
    let e : c.loop-k.reader.«data».now ≡ c.args.reader.now.«data».now = cc in (
      listed_more c.args.count c.args.reader.now.«data».now c.args.reader.now.place c.loop-k._k c.loop-k.reader.place
          c.loop-k.sampled c.in_ok-sampled.field-0 _ _ c.loop-k.invariant.0 (omega arith) (rw e at f.0.0) (rw e at f.0.1),
      search rules,
    )

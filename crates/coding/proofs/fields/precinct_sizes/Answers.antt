use Rattle.std.proofs.Common.{◌≡◌, refl, arith, rules}
use Rattle.coding.proofs.Precincts.{rows_none, rows_more, rows_all}
use Rattle.coding.proofs.fields.precinct_sizes.Goals as goal

pub loop-size-init : goal.loop-size-init
loop-size-init g c =
    (rows_none c.args.count c.from.result c.args.reader.now.«data».now c.args.reader.now.place _ c.from.ensures (omega arith) refl refl, refl)

pub loop-size-preserved : goal.loop-size-preserved
loop-size-preserved g c =
    let f = c.in_ok-size.ensures in
    let e : c.loop-size.reader.«data».now ≡ c.args.reader.now.«data».now = cc in (
      rows_more c.args.count c.args.reader.now.«data».now c.args.reader.now.place c.loop-size.size-index c.loop-size.reader.place
          c.loop-size.size-items _ c.in_ok-size.field-0 _ c.loop-size.invariant.0 (omega arith) (rw e at f.0.0) (rw e at f.0.1),
      search rules,
    )

pub returns : goal.returns
returns g c = (
  rows_all c.args.count c.from.result c.args.reader.now.«data».now c.args.reader.now.place c.loop-size.size-index
      c.loop-size.reader.place c.loop-size.size-items _ c.loop-size.invariant.0 (omega arith) (omega arith) c.from.ensures (omega arith)
      refl refl,
  search rules,
)

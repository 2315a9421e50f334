use Rattle.std.proofs.Common.{refl}
use Rattle.settings.proofs.Applied.{applied_more, applied_all, settled_by}
use Rattle.settings.proofs.rows.ComponentSettings.after_all.Goals as goal

pub loop-segment-init : goal.loop-segment-init
loop-segment-init c = refl

pub loop-segment-preserved : goal.loop-segment-preserved
loop-segment-preserved c =
    applied_more c.args.index c.loop-segment.row _ c.args.segments.now c.loop-segment.segment-index c.segment-item.result _
    c.loop-segment-test.true c.segment-item.is c.after-row.ensures c.loop-segment.invariant

pub returns : goal.returns
returns c =
    let e = applied_all c.args.index c.loop-segment.row c.args.segments.now c.loop-segment.segment-index _ c.loop-segment-test.false
    c.loop-segment.invariant in
    record { applied = e; settled = settled_by c.args.index c.args.self.now c.loop-segment.row c.args.segments.now e }

use Rattle.std.proofs.Common.{refl, arith}
use Rattle.main_settings.proofs.Runs.{run_none, run_more, unset, run_ends}
use Rattle.main_settings.proofs.component_settings.Goals as goal
use Rattle.main_settings.proofs.component_settings.Goals.{in-Ok+in_default-found, in_default}

pub loop-found-init : goal.loop-found-init
loop-found-init c =
    run_none c.args.header c.reader-reader.result c.args.index c.blank-row.result c.reader-reader.ensures.of c.reader-reader.ensures.at
    c.blank-row.ensures

pub loop-found-preserved-in-Sets : goal.loop-found-preserved-in-Sets
loop-found-preserved-in-Sets c =
    (run_more c.args.header c.loop-found.reader c.next_main.new.reader c.args.index c.loop-found.row c.after-row.result c.in-Ok.found
    c.in-Stands.segment c.loop-found.invariant c.in-Ok.ensures c.in-Stands.is (rw c.in-Sets.is c.after-row.ensures)).0

pub loop-found-smaller-in-Sets : goal.loop-found-smaller-in-Sets
loop-found-smaller-in-Sets c =
    let t =
    run_more c.args.header c.loop-found.reader c.next_main.new.reader c.args.index c.loop-found.row _ c.in-Ok.found
    c.in-Stands.segment c.loop-found.invariant c.in-Ok.ensures c.in-Stands.is refl in
    omega (arith, t.1, t.2)

pub loop-found-preserved : goal.loop-found-preserved
loop-found-preserved c =
    (run_more c.args.header c.loop-found.reader c.next_main.new.reader c.args.index c.loop-found.row c.loop-found.row c.in-Ok.found
    c.in-Stands.segment c.loop-found.invariant c.in-Ok.ensures c.in-Stands.is
    (unset c.in-Stands.segment c.args.index c.loop-found.row c.in_default-segment.not-Sets)).0

pub loop-found-smaller : goal.loop-found-smaller
loop-found-smaller c =
    let t =
    run_more c.args.header c.loop-found.reader c.next_main.new.reader c.args.index c.loop-found.row _ c.in-Ok.found
    c.in-Stands.segment c.loop-found.invariant c.in-Ok.ensures c.in-Stands.is refl in
    omega (arith, t.1, t.2)

pub returns : goal.returns
returns c =
    run_ends c.args.header c.loop-found.reader c.next_main.new.reader c.args.index c.loop-found.row c.inherited.result
    c.next_main.result c.loop-found.invariant c.next_main.ensures (λ g is.
    elim c.match-next_main.branch [
      | in-Ok+in_default-found w ↦ w.in_default-found.not-Stands g cc
      | in_default w ↦ let e = w.in_default.is in cc
    ]) c.inherited.ensures

use Rattle.std.proofs.Common.{refl, ◌∙◌, ap, arith}
use Rattle.std.proofs.lemmas.Result.{err_from_is_err_and}
use Rattle.headers.specs.declared.found.Segment.TheVariants.{Sets}
use Rattle.main_survey.proofs.Runs.{Met, met, kept_as, run_cod, run_qcd, run_ppm, plain_setting, plain_segment, run_plain, run_sot, run_lost, run_refused, run_full}
use Rattle.main_survey.proofs.header_segments.main_segments.Goals as goal
use Rattle.main_survey.proofs.header_segments.main_segments.Goals.{In-Stands}

stood : (c : In-Stands) → Met c.args.header c.loop-found.reader c.next_main.new.reader c.in-Stands.segment
stood c =
    met c.args.header c.args.room c.loop-found.reader c.next_main.new.reader c.loop-found.cod c.loop-found.qcd c.loop-found.packets
    c.in_ok-found.found c.in-Stands.segment c.loop-found.invariant c.in_ok-found.ensures c.in-Stands.is

pub loop-found-preserved-in-Cod : goal.loop-found-preserved-in-Cod
loop-found-preserved-in-Cod c =
    let m = stood (goal.at.loop-found-preserved-in-Cod c).In-Stands in
    run_cod _ _ _ _ _ _ _ _ c.loop-found.invariant m (kept_as _ _ m.item (c.in-Sets.is ∙ ap Sets c.in-Cod.is) m.kept).0

pub loop-found-smaller-in-Cod : goal.loop-found-smaller-in-Cod
loop-found-smaller-in-Cod c = let m = stood (goal.at.loop-found-smaller-in-Cod c).In-Stands in omega arith

pub loop-found-preserved-in-Qcd : goal.loop-found-preserved-in-Qcd
loop-found-preserved-in-Qcd c =
    let m = stood (goal.at.loop-found-preserved-in-Qcd c).In-Stands in
    run_qcd _ _ _ _ _ _ _ _ c.loop-found.invariant m (kept_as _ _ m.item (c.in-Sets.is ∙ ap Sets c.in-Qcd.is) m.kept).0

pub loop-found-smaller-in-Qcd : goal.loop-found-smaller-in-Qcd
loop-found-smaller-in-Qcd c = let m = stood (goal.at.loop-found-smaller-in-Qcd c).In-Stands in omega arith

pub loop-found-preserved-in_default-setting : goal.loop-found-preserved-in_default-setting
loop-found-preserved-in_default-setting c =
    let m = stood (goal.at.loop-found-preserved-in_default-setting c).In-Stands in
    run_plain _ _ _ _ _ _ _ _ c.loop-found.invariant m
    (plain_setting c.in-Sets.setting _ _ c.in_default-setting.not-Cod c.in_default-setting.not-Qcd (kept_as _ _ m.item c.in-Sets.is m.kept))

pub loop-found-smaller-in_default-setting : goal.loop-found-smaller-in_default-setting
loop-found-smaller-in_default-setting c = let m = stood (goal.at.loop-found-smaller-in_default-setting c).In-Stands in omega arith

pub loop-found-preserved-in-Ppm : goal.loop-found-preserved-in-Ppm
loop-found-preserved-in-Ppm c =
    let m = stood (goal.at.loop-found-preserved-in-Ppm c).In-Stands in
    run_ppm _ _ _ _ _ _ _ c.in-Ppm.count _ c.loop-found.invariant m (kept_as _ _ m.item c.in-Ppm.is m.kept) c.if-count-room.false

pub loop-found-smaller-in-Ppm : goal.loop-found-smaller-in-Ppm
loop-found-smaller-in-Ppm c = let m = stood (goal.at.loop-found-smaller-in-Ppm c).In-Stands in omega arith

pub loop-found-preserved : goal.loop-found-preserved
loop-found-preserved c =
    let m = stood (goal.at.loop-found-preserved c).In-Stands in
    run_plain _ _ _ _ _ _ _ _ c.loop-found.invariant m
    (plain_segment c.in-Stands.segment m.item c.in_default.not-Sets c.in_default.not-Ppm m.kept)

pub loop-found-smaller : goal.loop-found-smaller
loop-found-smaller c = let m = stood (goal.at.loop-found-smaller c).In-Stands in omega arith

pub returns-in_err-found : goal.returns-in_err-found
returns-in_err-found c =
    let p = err_from_is_err_and c.from_residual.result c.from_residual.ensures.1 in
    run_refused _ _ c.loop-found.reader c.next_main.new.reader _ _ _ c.in_err-found.field-0.0 _ c.loop-found.invariant c.in_err-found.ensures
    (rw (p.1, p.2) refl)

pub returns-then-count-room : goal.returns-then-count-room
returns-then-count-room c =
    let m = stood (goal.at.returns-then-count-room c).In-Stands in
    run_full _ _ _ _ _ _ _ c.in-Ppm.count _ c.into.result c.loop-found.invariant m (kept_as _ _ m.item c.in-Ppm.is m.kept) c.if-count-room.true
    c.into.ensures

pub returns-in-Ends : goal.returns-in-Ends
returns-in-Ends c =
    run_sot _ _ c.loop-found.reader c.next_main.new.reader _ _ _ _ c.in_ok-found.found c.loop-found.invariant c.in_ok-found.ensures c.in-Ends.is
    c.offset-place.ensures

pub returns-in-NoMarker : goal.returns-in-NoMarker
returns-in-NoMarker c =
    run_lost _ _ c.loop-found.reader c.next_main.new.reader _ _ _ c.offset-place.result c.in_ok-found.found c.into-in-NoMarker.result
    c.loop-found.invariant c.in_ok-found.ensures c.in-NoMarker.is c.offset-place.ensures c.into-in-NoMarker.ensures

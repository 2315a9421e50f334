use Rattle.std.proofs.lemmas.Result.{err_from_is_err_and}
use Rattle.main_survey.proofs.Verdicts.{Begun, begun, main_refused, main_tested}
use Rattle.main_survey.proofs.survey.survey_main.Goals as goal
use Rattle.main_survey.proofs.survey.survey_main.Goals.{After-offset}
use Rattle.std.proofs.Common.{Ok, Err}

start : (c : After-offset) → Begun c.args.codestream.now c.args.place c.args.room c.in_ok-size.size c.offset.result
start c =
    begun c.args.codestream c.args.place c.args.room c.new-reader.result c.size_marker.new.reader c.in_ok-size.size c.num_tiles-tiles.result
    c.offset.result c.holds.result c.new-reader.ensures.of c.new-reader.ensures.at c.in_ok-size.ensures.reads c.num_tiles-tiles.ensures
    c.holds.ensures c.if-not-holds.false c.offset.ensures

pub returns-in_err-passed-clause-surveyed : goal.returns-in_err-passed-clause-surveyed
returns-in_err-passed-clause-surveyed c =
    let p = err_from_is_err_and c.from_residual-in_err-passed.result c.from_residual-in_err-passed.ensures.1 in
    rw (p.1, p.2)
    (main_refused _ _ _ c.in_ok-size.size c.offset.result _ (start (goal.at.returns-in_err-passed-clause-surveyed c).After-offset) c.in_err-passed.ensures)

pub returns-in_err-test_at_sot-clause-surveyed : goal.returns-in_err-test_at_sot-clause-surveyed
returns-in_err-test_at_sot-clause-surveyed c =
    let p = err_from_is_err_and c.from_residual-in_err-test_at_sot.result c.from_residual-in_err-test_at_sot.ensures.1 in
    rw (p.1, p.2)
    (main_tested _ _ _ c.in_ok-size.size c.offset.result c.in_ok-passed.passed (Err c.in_err-test_at_sot.field-0.0)
    (start (goal.at.returns-in_err-test_at_sot-clause-surveyed c).After-offset) c.in_ok-passed.ensures c.in_err-test_at_sot.ensures)

pub returns-clause-surveyed : goal.returns-clause-surveyed
returns-clause-surveyed c =
    main_tested _ _ _ c.in_ok-size.size c.offset.result c.in_ok-passed.passed (Ok tt) (start (goal.at.returns-clause-surveyed c).After-offset)
    c.in_ok-passed.ensures c.in_ok-test_at_sot.ensures

pub returns-clause-counted : goal.returns-clause-counted
returns-clause-counted c =
    record { tiles = c.num_tiles-tiles.ensures; components = (start (goal.at.returns-clause-counted c).After-offset).components }

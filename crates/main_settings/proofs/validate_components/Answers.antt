use Rattle.std.proofs.lemmas.Result.{err_from_is_err_and}
use Rattle.main_settings.proofs.Tests.{passed_more, refused, all_passed}
use Rattle.main_settings.proofs.validate_components.Goals as goal

pub returns-in_err-validate : goal.returns-in_err-validate
returns-in_err-validate c =
    let p = err_from_is_err_and c.from_residual.result c.from_residual.ensures.1 in
    rw (p.1, p.2)
    (refused c.args.header.codestream.now c.args.header.csiz c.args.header.segments c.args.place c.loop-index.index
    c.component_settings.result c.in_err-validate.field-0.0 c.loop-index.invariant c.loop-index-test.true c.component_settings.ensures
    c.in_err-validate.ensures)

pub loop-index-preserved : goal.loop-index-preserved
loop-index-preserved c =
    passed_more c.args.header.codestream.now c.args.header.csiz c.args.header.segments c.args.place c.loop-index.index
    c.component_settings.result c.in_ok-validate.field-0 c.loop-index.invariant c.loop-index-test.true c.component_settings.ensures
    c.in_ok-validate.ensures

pub returns : goal.returns
returns c =
    all_passed c.args.header.codestream.now c.args.header.csiz c.args.header.segments c.args.place c.loop-index.index tt
    c.loop-index.invariant c.loop-index-test.false

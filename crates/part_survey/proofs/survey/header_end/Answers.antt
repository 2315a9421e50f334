use Rattle.std.proofs.Common.{◌≡◌, ◌+◌, ◌<◌, Err, ap, ◌∙◌, arith}
use Rattle.std.proofs.lemmas.Result.{err_from_is_err_and}
use Rattle.faults.specs.declared.decode.DecodeError.{DecodeError}
use Rattle.headers.specs.Standing.{refused}
use Rattle.part_survey.proofs.Runs.{Run, run_more, run_ends, run_closed, run_cut}
use Rattle.part_survey.proofs.survey.header_end.Goals as goal

pub returns-in_err-segment : goal.returns-in_err-segment
returns-in_err-segment c =
    let e : c.loop-segment.reader.«data».now ≡ c.args.reader.now.«data».now = cc in
    let p = err_from_is_err_and c.from_residual.result c.from_residual.ensures.1 in
    run_ends c.args.reader.now.«data».now c.loop-segment.reader.«data».now c.args.rules.csiz c.args.rules.packets c.args.rules.strict
    c.args.reader.now.place c.loop-segment.reader.place c.loop-segment.headers (refused c.in_err-segment.field-0.0)
    c.from_residual.result c.loop-segment.invariant.0 e c.in_err-segment.ensures.0 (p.1 ∙ ap (λ (x : DecodeError). Err x) p.2)

-- what one turn comes to
turn :
    (c : goal.After-ppt_count-headers)
    → Run c.args.reader.now.«data».now c.args.rules.csiz c.args.rules.packets c.args.rules.strict c.args.reader.now.place
    c.next_part.new.reader.place (c.loop-segment.headers + c.ppt_count-headers.result)
    × (c.loop-segment.reader.place < c.next_part.new.reader.place)
turn c =
    let e : c.loop-segment.reader.«data».now ≡ c.args.reader.now.«data».now = cc in
    run_more c.args.reader.now.«data».now c.loop-segment.reader.«data».now c.args.rules.csiz c.args.rules.packets c.args.rules.strict
    c.args.reader.now.place c.loop-segment.reader.place c.loop-segment.headers c.ppt_count-headers.result c.next_part.new.reader
    c.in_ok-segment.field-0 c.in-Stands.segment c.loop-segment.invariant.0 e c.in_ok-segment.ensures.0 c.in-Stands.is
    c.ppt_count-headers.ensures

pub loop-segment-smaller : goal.loop-segment-smaller
loop-segment-smaller c = let t = turn c in omega (arith, t.1, t.0.inside)

pub loop-segment-preserved : goal.loop-segment-preserved
loop-segment-preserved c = let h = c.in_ok-segment.ensures.1 in ((turn c).0, cc)

pub returns-in-Ends : goal.returns-in-Ends
returns-in-Ends c =
    let e : c.loop-segment.reader.«data».now ≡ c.args.reader.now.«data».now = cc in
    run_closed c.args.reader.now.«data».now c.loop-segment.reader.«data».now c.args.rules.csiz c.args.rules.packets c.args.rules.strict
    c.args.reader.now.place c.loop-segment.reader.place c.loop-segment.headers c.offset.result c.next_part.new.reader
    c.in_ok-segment.field-0 c.loop-segment.invariant.0 e c.in_ok-segment.ensures.0 c.in-Ends.is c.offset.ensures

pub returns-in-NoMarker : goal.returns-in-NoMarker
returns-in-NoMarker c =
    let e : c.loop-segment.reader.«data».now ≡ c.args.reader.now.«data».now = cc in
    run_cut c.args.reader.now.«data».now c.loop-segment.reader.«data».now c.args.rules.csiz c.args.rules.packets c.args.rules.strict
    c.args.reader.now.place c.loop-segment.reader.place c.loop-segment.headers c.offset-in-NoMarker.result c.next_part.new.reader
    c.in_ok-segment.field-0 c.loop-segment.invariant.0 e c.in_ok-segment.ensures.0 c.in-NoMarker.is
    c.offset-in-NoMarker.ensures

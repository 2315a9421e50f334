use Rattle.std.proofs.Common.{Break, Continue, arith, rules}
use Rattle.headers.specs.Standing.{refused}
use Rattle.main_packets.proofs.Headers.{Stood, stood_by, rows_ppm, rows_none, header_ends, header_over, header_here, header_behind}
use Rattle.main_packets.proofs.nth_with_index.Goals as goal
use Rattle.main_packets.proofs.nth_with_index.Goals.{In-Stands, In-Ppm}

pub returns-in_default : goal.returns-in_default
returns-in_default c =
    c.loop-found.invariant.onward (Continue _)
    (header_ends _ _ _ c.args.zppm c.loop-found.left (refused c.in_default.field-0)
    (rw c.loop-found.invariant.stream at c.in_default.ensures.0))

pub returns-in_default-found : goal.returns-in_default-found
returns-in_default-found c =
    c.loop-found.invariant.onward (Continue _)
    (header_over c.args.header.codestream.now c.args.header.csiz c.loop-found.reader.place c.args.zppm c.loop-found.left c.next_main.new.reader
    c.in-Ok.found (rw (c.loop-found.invariant.stream, c.in-Ok.is) at c.next_main.ensures.0) c.in_default-found.not-Stands)

-- the segment that was found
stood :
    (c : In-Stands)
    → Stood c.args.header.codestream.now c.args.header.csiz c.loop-found.reader.place c.next_main.new.reader.place c.in-Stands.segment
stood c =
    stood_by c.args.header.codestream.now c.args.header.csiz c.loop-found.reader.place c.next_main.new.reader c.in-Stands.segment
    (rw (c.in-Stands.is, c.loop-found.invariant.stream) at c.in-Ok.ensures.0)

pub overflow_add-place : goal.overflow_add-place
overflow_add-place c = let s = stood (goal.at.overflow_add-place c).In-Stands in search rules

pub returns-in_err-left : goal.returns-in_err-left
returns-in_err-left c =
    let s = stood (goal.at.returns-in_err-left c).In-Stands in
    rw c.from_residual.ensures
    (c.loop-found.invariant.onward (Break c.in_err-left.field-0.0)
    (header_here s c.args.zppm c.loop-found.left c.in_err-left.field-0.0
    (rows_ppm s c.args.zppm c.loop-found.left c.in-Ppm.field-0 (Break c.in_err-left.field-0.0) c.in-Ppm.is
    (rw c.offset-place.ensures at c.in_err-left.ensures))))

pub loop-found-preserved-in-Ppm : goal.loop-found-preserved-in-Ppm
loop-found-preserved-in-Ppm c =
    let s = stood (goal.at.loop-found-preserved-in-Ppm c).In-Stands in
    record {
      onward =
          λ r h.
          c.loop-found.invariant.onward r
          (header_behind s c.args.zppm c.loop-found.left c.in_ok-left.left r
          (rows_ppm s c.args.zppm c.loop-found.left c.in-Ppm.field-0 (Continue c.in_ok-left.left) c.in-Ppm.is
          (rw c.offset-place.ensures at c.in_ok-left.ensures)) h);
      stream = cc;
    }

pub loop-found-preserved : goal.loop-found-preserved
loop-found-preserved c =
    let s = stood (goal.at.loop-found-preserved c).In-Stands in
    record {
      onward =
          λ r h.
          c.loop-found.invariant.onward r
          (header_behind s c.args.zppm c.loop-found.left c.loop-found.left r
          (rows_none s c.args.zppm c.loop-found.left c.in_default-segment.not-Ppm) h);
      stream = cc;
    }

pub loop-found-smaller : goal.loop-found-smaller
loop-found-smaller c = let s = stood (goal.at.loop-found-smaller c).In-Stands in omega arith

pub loop-found-smaller-in-Ppm : goal.loop-found-smaller-in-Ppm
loop-found-smaller-in-Ppm c = let s = stood (goal.at.loop-found-smaller-in-Ppm c).In-Stands in omega arith

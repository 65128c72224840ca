-- `sizes_verdict` meets its contract: at each return, the tests on the way there are the definition's.
use mathlib.Core.Path.{sym}
use native.Mathlib.Omega.{arith}
use Rattle.book.proofs.Turns.{heads-first, oversize, cut-sizes, crowded, cut, surplus, long, wrong-sum, right-sum}
use Rattle.book.proofs.sizes.sizes_verdict.Goals as goal

pub returns-then-n-gt-BOOK : goal.returns-then-n-gt-BOOK
returns-then-n-gt-BOOK c = sym (oversize _ c.if-n-gt-BOOK.true)

pub returns-then-n-lt-SIZE : goal.returns-then-n-lt-SIZE
returns-then-n-lt-SIZE c = sym (cut-sizes _ c.if-n-gt-BOOK.false c.if-n-lt-SIZE.true)

pub returns-then-segments-gt-SEGMENTS : goal.returns-then-segments-gt-SEGMENTS
returns-then-segments-gt-SEGMENTS c = sym (crowded _ c.if-n-gt-BOOK.false c.if-n-lt-SIZE.false c.segment_count-segments.ensures.0 c.if-segments-gt-SEGMENTS.true)

pub returns-then-n-whole : goal.returns-then-n-whole
returns-then-n-whole c =
    sym (cut _ c.if-n-gt-BOOK.false c.if-n-lt-SIZE.false c.segment_count-segments.ensures.0 c.if-segments-gt-SEGMENTS.false c.body_offset-start.ensures.0 c.sizes.ensures c.if-n-whole.true)

pub returns-then-whole-n : goal.returns-then-whole-n
returns-then-whole-n c =
    sym (surplus _ c.if-n-gt-BOOK.false c.if-n-lt-SIZE.false c.segment_count-segments.ensures.0 c.if-segments-gt-SEGMENTS.false c.body_offset-start.ensures.0 c.sizes.ensures c.if-n-whole.false c.if-whole-n.true)

pub too_long-requires : goal.too_long-requires
too_long-requires c = record { segments_value = omega arith; segments_in_bounds = omega (arith, heads-first c.args.book.now) }

pub returns-then-too_long : goal.returns-then-too_long
returns-then-too_long c =
    sym (long _ c.if-n-gt-BOOK.false c.if-n-lt-SIZE.false c.segment_count-segments.ensures.0 c.if-segments-gt-SEGMENTS.false c.body_offset-start.ensures.0 c.sizes.ensures c.if-n-whole.false c.if-whole-n.false c.too_long.ensures c.if-too_long.true)

pub bodies_end-requires : goal.bodies_end-requires
bodies_end-requires c = record { start_value = omega arith; start_bound = omega arith; segments_bound = omega arith; segments_in_bounds = omega (arith, heads-first c.args.book.now) }

pub returns-then-bodies_end-n : goal.returns-then-bodies_end-n
returns-then-bodies_end-n c =
    sym (wrong-sum _ c.if-n-gt-BOOK.false c.if-n-lt-SIZE.false c.segment_count-segments.ensures.0 c.if-segments-gt-SEGMENTS.false c.body_offset-start.ensures.0 c.sizes.ensures c.if-n-whole.false c.if-whole-n.false c.too_long.ensures c.if-too_long.false c.bodies_end.ensures c.if-bodies_end-n.true)

pub returns : goal.returns
returns c =
    sym (right-sum _ c.if-n-gt-BOOK.false c.if-n-lt-SIZE.false c.segment_count-segments.ensures.0 c.if-segments-gt-SEGMENTS.false c.body_offset-start.ensures.0 c.sizes.ensures c.if-n-whole.false c.if-whole-n.false c.too_long.ensures c.if-too_long.false c.bodies_end.ensures c.if-bodies_end-n.false)

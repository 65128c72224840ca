-- The loop: no equal stands below j.
use mathlib.Core.Path.{sym}
use Prim.Native.Nat.{◌<◌}
use native.Mathlib.Omega.{arith}
use Rattle.graph.proofs.FirstOfEqualsLaws.{none_first, not_same, repeated}
use Rattle.graph.proofs.first_of_equals.none_from.Goals as goal

pub next_alike-j-requires : goal.next_alike-j-requires
next_alike-j-requires c =
    let p = c.requires in
    record {
      end_bound = omega (arith, p.k_bound, c.from-end.ensures);
      word_end_in_bounds = p.word_end_in_bounds;
      word_value = (c.head_word-word.ensures, c.entry_word-last.ensures);
      none_below = rw c.from-end.ensures p.none_below;
    }

pub loop-j-init : goal.loop-j-init
loop-j-init c = rw c.from-end.ensures at c.next_alike-j.ensures.1

pub returns-then-same_segment : goal.returns-then-same_segment
returns-then-same_segment c =
    let l : c.loop-j.j < c.args.k = omega (arith, c.loop-j-test.true, c.from-end.ensures) in
    sym (repeated c.loop-j.invariant l c.same_segment.ensures c.requires.k_bound c.if-same_segment.true)

pub next_alike-j-requires-in-loop-j : goal.next_alike-j-requires-in-loop-j
next_alike-j-requires-in-loop-j c =
    let p = c.requires in
    let l : c.loop-j.j < c.args.k = omega (arith, c.loop-j-test.true, c.from-end.ensures) in
    let n = not_same c.loop-j.invariant l c.same_segment.ensures c.if-same_segment.false in
    record {
      end_bound = omega (arith, p.k_bound, c.from-end.ensures);
      word_end_in_bounds = p.word_end_in_bounds;
      word_value = (c.head_word-word.ensures, c.entry_word-last.ensures);
      none_below = rw c.from-end.ensures n;
    }

pub loop-j-smaller : goal.loop-j-smaller
loop-j-smaller c = let n = c.next_alike-j-in-loop-j.ensures in omega arith

pub loop-j-preserved : goal.loop-j-preserved
loop-j-preserved c = rw c.from-end.ensures at c.next_alike-j-in-loop-j.ensures.1

pub returns : goal.returns
returns c = sym (none_first c.loop-j.invariant (omega (arith, c.loop-j-test.false, c.from-end.ensures)))

-- The loop: the positions before k are told, and their marks are seen.
use native.Mathlib.Omega.{arith}
use mathlib.Core.Path.{refl, ◌∙◌}
use lib.ListN.{length-set}
use Rattle.graph.proofs.FirstOfEqualsLaws.{mark-small, unseen-first, seen_bytes, firsts-start, seen_start, firsts-turn, seen-turn, firsts-all}
use Rattle.graph.proofs.first_of_equals.firsts_of.Goals as goal

pub loop-k-init : goal.loop-k-init
loop-k-init c = (refl, refl, firsts-start _ _, seen_start _ 256)

pub bounds-seen-m : goal.bounds-seen-m
bounds-seen-m c = let l = c.loop-k.invariant in omega (arith, mark-small _ c.mark_of.ensures, c.from-m.ensures)

pub first_at-requires : goal.first_at-requires
first_at-requires c =
    let s = c.loop-k.invariant.3 in
    let m = c.from-m.ensures ∙ c.mark_of.ensures in
    record {
      k_bound = omega arith;
      k_value = (λ z. unseen-first _ _ _ s m z);
      word_end_in_bounds = (λ d. seen_bytes _ _ _ s c.args.opened.now.ready.ok (omega arith) _ d);
    }

pub bounds-seen-m-in-loop-k : goal.bounds-seen-m-in-loop-k
bounds-seen-m-in-loop-k c = let l = c.loop-k.invariant in omega (arith, mark-small _ c.mark_of.ensures, c.from-m.ensures)

pub loop-k-preserved : goal.loop-k-preserved
loop-k-preserved c =
    let l = c.loop-k in
    rw c.from.ensures (
      simp length-set l.invariant.0,
      simp length-set l.invariant.1,
      firsts-turn _ l.k l.firsts l.invariant.2 (omega arith) c.first_at.ensures,
      seen-turn _ l.k l.seen l.invariant.3 (omega (arith, mark-small _ c.mark_of.ensures, c.from-m.ensures)) (c.from-m.ensures ∙ c.mark_of.ensures),
    )

pub returns : goal.returns
returns c = firsts-all _ c.loop-k.invariant.2 (omega arith)

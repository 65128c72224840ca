-- The loop: the positions from k on are planned.
use Prim.Native.Nat.{◌+◌}
use native.Mathlib.Omega.{arith}
use mathlib.Core.Path.{refl}
use mathlib.Core.Bool.{false}
use lib.ListN.{length-set, replicate}
use Rattle.spec.specs.Limits.{max_segments}
use Rattle.graph.proofs.SearchPlan.{next-end, plan-start, next-turn, plan-turn, plan-all}
use Rattle.graph.proofs.search.plan_of.Goals as goal

pub loop-k-init : goal.loop-k-init
loop-k-init c =
    let few = c.requires.count_value.1 in
    (omega arith, refl, simp length-set, next-end _ _ _, rw c.from.ensures (plan-start _ _ _ _ few (replicate max_segments false) (replicate (max_segments + 1) 0) refl))

pub begins_and_arrives-ends-requires : goal.begins_and_arrives-ends-requires
begins_and_arrives-ends-requires c =
    let p = c.requires in
    record { k_bound = omega arith; cores_value = p.cores_value; first_value = rw c.from-in-loop-k.ensures (c.firsts_of-firsts.ensures.each _ (omega arith)) }

pub loop-k-preserved : goal.loop-k-preserved
loop-k-preserved c =
    let l = c.loop-k in
    let ends = c.begins_and_arrives-ends.ensures in
    let few = c.requires.count_value.1 in
    let next = next-turn _ _ _ l.k (omega arith) (omega arith) ends.1 l.invariant.3 c.next_at-next.ensures in
    rw (c.from-in-loop-k-2.ensures, c.from-in-loop-k-3.ensures) (
      omega arith,
      simp length-set l.invariant.1,
      simp length-set l.invariant.2,
      next,
      plan-turn _ _ _ _ few l.begins l.nexts l.invariant.2 l.invariant.1 l.k (omega arith) (omega arith) ends.0 next l.invariant.4,
    )

pub returns : goal.returns
returns c = plan-all c.loop-k.invariant.4 (omega arith)

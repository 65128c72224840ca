-- Equal ends have no chain; else the positions are counted and planned, and all are searched.
use native.Mathlib.Omega.{arith}
use Rattle.graph.proofs.PushedTurns.{pushes-as, pushes-none}
use Rattle.graph.proofs.SearchBounds.{counted}
use Rattle.graph.proofs.SearchTurns.{found_none, found_all}
use Rattle.graph.proofs.VertexTests.{as_eq}
use Rattle.graph.proofs.search.search.Goals as goal

pub returns-then-eq : goal.returns-then-eq
returns-then-eq c = pushes-none (omega arith) (found_none _ _ _ _ (as_eq _ _ c.eq.ensures) c.if-eq.true)

pub overflow_add-count : goal.overflow_add-count
overflow_add-count c =
    let p = c.requires in
    let z = counted _ c.args.opened.now.ready.ok _ c.sizes-sizes.ensures in
    omega arith

pub overflow_cast-count : goal.overflow_cast-count
overflow_cast-count c =
    let p = c.requires in
    let z = counted _ c.args.opened.now.ready.ok _ c.sizes-sizes.ensures in
    omega arith

pub overflow_cast-q : goal.overflow_cast-q
overflow_cast-q c =
    let p = c.requires in
    let z = counted _ c.args.opened.now.ready.ok _ c.sizes-sizes.ensures in
    omega arith

pub plan_of-plan-requires : goal.plan_of-plan-requires
plan_of-plan-requires c =
    let p = c.requires in
    let z = counted _ c.args.opened.now.ready.ok _ c.sizes-sizes.ensures in record { count_value = (z.count, z.small); cores_value = z.cores }

pub invariant_of-searching : goal.invariant_of-searching
invariant_of-searching c =
    let z = counted _ c.args.opened.now.ready.ok _ c.sizes-sizes.ensures in
    record { prepared = record { planned = c.plan_of-plan.ensures; cores = z.cores; count = z.count; within = omega arith; small = z.small } }

pub returns : goal.returns
returns c =
    let p = c.requires in
    let z = counted _ c.args.opened.now.ready.ok _ c.sizes-sizes.ensures in
    pushes-as c.all_chains.ensures (found_all _ _ _ _ (as_eq _ _ c.eq.ensures) _ c.if-eq.false z.count)

-- `is_chain` meets its contract. The loop's invariant: the answer is that from edge x on, from where the edges before it have come.
use mathlib.Core.Path.{refl, sym, ◌∙◌}
use native.Mathlib.Omega.{arith}
use Rattle.graph.specs.RecordWalk.{begun}
use Rattle.graph.proofs.RecordWalkTurns.{bounded-two, bounded-further, all-passed, edge-gone, edge-astray, edge-passed}
use Rattle.graph.proofs.chains.is_chain.Goals as goal

pub loop-x-init : goal.loop-x-init
loop-x-init c = (record { cost = omega arith; kinds = omega arith }, refl)

pub returns-in_default : goal.returns-in_default
unfolding begun
returns-in_default c = sym (c.loop-x.invariant.1 ∙ edge-gone _ _ _ _ _ _ c.loop-x-test.true c.edge-id.ensures _ c.edge_of.ensures c.in_default.is)

pub returns-then-not-goes_on : goal.returns-then-not-goes_on
unfolding begun
returns-then-not-goes_on c = sym (c.loop-x.invariant.1 ∙ edge-astray _ _ _ _ _ _ c.loop-x-test.true c.edge-id.ensures _ c.edge_of.ensures c.in-Some.is c.goes_on.ensures c.if-not-goes_on.true)

pub one_further-reached-requires : goal.one_further-reached-requires
one_further-reached-requires c = bounded-two _ _ (omega (arith, c.requires.count_le_max_edges)) c.loop-x.invariant.0

pub loop-x-preserved : goal.loop-x-preserved
loop-x-preserved c = (
  bounded-further _ _ _ (omega (arith, c.requires.count_le_max_edges)) c.loop-x.invariant.0 c.one_further-reached.ensures.0 c.one_further-reached.ensures.1,
  c.loop-x.invariant.1 ∙ edge-passed _ _ _ _ _ _ c.loop-x-test.true c.edge-id.ensures _ c.edge_of.ensures c.in-Some.is c.goes_on.ensures c.if-not-goes_on.false c.one_further-reached.ensures.0,
)

pub returns : goal.returns
unfolding begun
returns c = c.arrives.ensures ∙ sym (c.loop-x.invariant.1 ∙ all-passed _ _ _ _ _ _ c.loop-x-test.false)

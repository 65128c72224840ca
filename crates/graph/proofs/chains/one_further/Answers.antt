-- `one_further` meets its contract.
use native.Mathlib.Omega.{arith}
use Rattle.graph.specs.RecordWalk.{one_further}
use Rattle.graph.proofs.RecordWalkTurns.{kinds-next}
use Rattle.graph.proofs.chains.one_further.Goals as goal

pub overflow_add-result : goal.overflow_add-result
overflow_add-result c = omega (arith, c.requires.cost, c.weight.ensures.1)

pub overflow_mul-result : goal.overflow_mul-result
overflow_mul-result c = omega (arith, c.requires.kinds)

pub overflow_add-result-2 : goal.overflow_add-result-2
overflow_add-result-2 c = omega (arith, kinds-next _ _ c.requires.kinds c.bit.ensures.0)

pub returns : goal.returns
unfolding one_further
returns c = let w = c.weight.ensures in let b = c.bit.ensures.0 in (cc, omega (arith, w.1))

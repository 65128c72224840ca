-- The record of a chain of one edge is pushed.
use native.Mathlib.Omega.{arith}
use mathlib.Core.Path.{refl}
use Rattle.spec.specs.Basics.{sum}
use Rattle.spec.specs.Order.{cost, weight_of}
use Rattle.graph.proofs.PushedRecords.{solution-is, pushes-one}
use Rattle.graph.proofs.slots.push_one.Goals as goal

pub returns : goal.returns
unfolding cost sum weight_of
returns c = pushes-one _ _ _ _ _ _ _ c.push.ensures (solution-is _ _ _ _ _ c.new-s.ensures (omega arith) refl (cc)) (omega arith) (omega arith)

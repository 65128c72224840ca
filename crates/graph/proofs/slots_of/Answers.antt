-- `slots_of` meets its contract. Assumes nothing.
use native.Mathlib.Omega.{arith}
use Rattle.spec.specs.Records.{slots}
use Rattle.graph.proofs.slots_of.Goals as goal

pub returns : goal.returns
unfolding slots
returns c = omega (arith, c.min.ensures)

-- `entry_of` meets its contract.
use native.Mathlib.Omega.{arith}
use Rattle.path.proofs.Standing.{from-along, from-against}
use Rattle.path.proofs.places.entry_of.Goals as goal

pub returns-then-e : goal.returns-then-e
returns-then-e c = rw c.from.ensures (from-along _ _ _ c.if-e.true, omega arith)

pub returns : goal.returns
returns c = (from-against _ _ _ c.if-e.false, omega arith)

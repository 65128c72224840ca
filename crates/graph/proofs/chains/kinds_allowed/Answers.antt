-- `kinds_allowed` meets its contract.
use native.Mathlib.Omega.{arith}
use Rattle.graph.proofs.RecordWalkTurns.{one-allowed, two-allowed, three-allowed}
use Rattle.graph.proofs.chains.kinds_allowed.Goals as goal

pub returns-in-1 : goal.returns-in-1
returns-in-1 c = one-allowed _ _ c.in-1.is

pub returns-in-2 : goal.returns-in-2
returns-in-2 c = two-allowed _ _ (λ e. omega (arith, e, c.in-2.is)) c.in-2.is

pub returns-in_default : goal.returns-in_default
returns-in_default c = three-allowed _ _ (λ e. omega (arith, e)) (λ e. omega (arith, e))

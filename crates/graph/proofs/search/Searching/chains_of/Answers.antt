-- The chains of an edge, where there is one.
use native.Mathlib.Omega.{arith}
use Rattle.graph.proofs.PushedTurns.{pushes-as, pushes-none}
use Rattle.graph.proofs.SearchTurns.{of-edge, of-nothing}
use Rattle.graph.proofs.search.Searching.chains_of.Goals as goal

pub returns-in-Some : goal.returns-in-Some
returns-in-Some c = pushes-as c.chains_from.ensures (of-edge _ _ _ c.in-Some.is)

pub returns-in-None : goal.returns-in-None
returns-in-None c = pushes-none (omega arith) (of-nothing _ _ c.in-None.is)

-- The edge of a core segment that follows, where there is one.
use native.Mathlib.Omega.{arith}
use Rattle.graph.proofs.PushedTurns.{pushes-as, pushes-none}
use Rattle.graph.proofs.SearchTurns.{core_at, core-ends, across-found, across-nothing}
use Rattle.graph.proofs.search.Searching.across_in.Goals as goal

pub core_leaving-found-requires : goal.core_leaving-found-requires
core_leaving-found-requires c =
    let p = c.requires in record { k_bound = omega arith; k_value = core_at _ _ (omega arith) }

pub across_with-requires : goal.across_with-requires
across_with-requires c =
    let p = c.requires in record { f_value = core-ends _ _ _ _ _ (omega arith) c.core_leaving-found.ensures c.in-Some.is; room = p.room }

pub returns-in-Some : goal.returns-in-Some
returns-in-Some c =
    let p = c.requires in
    pushes-as c.across_with.ensures
    (across-found _ _ _ _ _ _ (omega arith) p.core_value c.core_leaving-found.ensures c.in-Some.is)

pub returns-in-None : goal.returns-in-None
returns-in-None c =
    let p = c.requires in
    pushes-none (omega arith) (across-nothing _ _ _ _ _ (omega arith) p.core_value c.core_leaving-found.ensures c.in-None.is)

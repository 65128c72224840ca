-- A last edge is pushed where one is found.
use native.Mathlib.Omega.{arith}
use Rattle.graph.specs.declared.search.Before.TheVariants.{Link, One, Two}
use Rattle.graph.proofs.PushedTurns.{pushes-as, pushes-none}
use Rattle.graph.proofs.EdgeFoundLaws.{none-whole, edge-whole}
use Rattle.graph.proofs.SearchTurns.{last-edge-found, last-edge-missing}
use Rattle.graph.proofs.search.Searching.last_edge_in.Goals as goal

pub returns-in_default : goal.returns-in_default
returns-in_default c = pushes-none (omega arith) (last-edge-missing _ _ _ _ _ _ c.requires.book_bound.0 (none-whole _ _ _ _ c.edge_from.ensures c.in_default.is))

pub returns-in-Link : goal.returns-in-Link
returns-in-Link c = pushes-as c.push_two.ensures
    (last-edge-found _ _ _ _ _ _ c.requires.book_bound.0 Link c.in-Link.is (edge-whole _ _ _ _ c.edge_from.ensures c.in-Some.is c.whole_edge-g.ensures))

pub returns-in-One : goal.returns-in-One
returns-in-One c = pushes-as c.push_two-in-One.ensures
    (last-edge-found _ _ _ _ _ _ c.requires.book_bound.0 One c.in-One.is (edge-whole _ _ _ _ c.edge_from.ensures c.in-Some.is c.whole_edge-g.ensures))

pub returns-in-Two : goal.returns-in-Two
returns-in-Two c = pushes-as c.push_three.ensures
    (last-edge-found _ _ _ _ _ _ c.requires.book_bound.0 Two c.in-Two.is (edge-whole _ _ _ _ c.edge_from.ensures c.in-Some.is c.whole_edge-g.ensures))

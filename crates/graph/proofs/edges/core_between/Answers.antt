-- `core_between` meets its contract.
use mathlib.Core.Path.{ap, ◌∙◌}
use mathlib.Core.List.{[], ◌∷◌}
use Rattle.graph.specs.Lookup.{found_edges}
use Rattle.graph.proofs.EdgeReads.{core-made, core-none, between-peering}
use Rattle.graph.proofs.VertexTests.{as_eq}
use Rattle.graph.proofs.edges.core_between.Goals as goal

pub returns-in_default : goal.returns-in_default
unfolding found_edges
returns-in_default c =
    let p = c.requires in
    between-peering _ _ p.k_value p.filled.count p.filled.some c.in_default.is _

pub edge_of_core-requires : goal.edge_of_core-requires
edge_of_core-requires c = c.requires.filled.some

pub returns-then-joins : goal.returns-then-joins
unfolding found_edges
returns-then-joins c =
    let p = c.requires in
    ap (λ x. x ∷ []) c.edge_of_core.ensures
    ∙ core-made c.args.opened.now.book.now c.args.k p.k_value p.filled.count p.filled.some c.in-AS.is
    c.as_at.ensures p.last_value _ c.joins.ensures c.if-joins.true (as_eq _ _ c.eq.ensures)

pub returns : goal.returns
unfolding found_edges
returns c =
    let p = c.requires in
    core-none c.args.opened.now.book.now c.args.k p.k_value p.filled.count p.filled.some c.in-AS.is
    c.as_at.ensures p.last_value _ c.joins.ensures c.if-joins.false

-- No entries, a core segment, or by the leaf.
use native.Mathlib.Omega.{arith}
use mathlib.Core.Path.{sym, ap, ◌∙◌}
use Rattle.graph.specs.Lookup.{found_edges}
use Rattle.graph.proofs.OpenedReads.{leaf-read}
use Rattle.graph.proofs.EdgeReads.{empty-between}
use Rattle.graph.proofs.EdgeFoundLaws.{none-whole, edge-whole}
use Rattle.graph.proofs.edges.between.Goals as goal

pub returns-then-n-eq0 : goal.returns-then-n-eq0
unfolding found_edges
returns-then-n-eq0 c = empty-between _ c.count_of-n.ensures.0 c.if-n-eq0.true _ _

pub core_between-requires : goal.core_between-requires
core_between-requires c =
    let n = c.count_of-n.ensures.0 in
    let p = c.requires in record { filled = record { below = p.k_bound; count = n; some = omega arith }; k_value = sym c.is_core.ensures ∙ c.if-is_core.true; last_value = leaf-read _ n c.as_at-leaf.ensures }

pub edge_at_leaf-requires : goal.edge_at_leaf-requires
edge_at_leaf-requires c =
    let n = c.count_of-n.ensures.0 in
    let p = c.requires in record { filled = record { below = p.k_bound; count = n; some = omega arith }; k_value = sym c.is_core.ensures ∙ c.if-is_core.false; leaf_value = leaf-read _ n c.as_at-leaf.ensures }

pub returns : goal.returns
unfolding found_edges
returns c = edge-whole _ _ _ _ c.edge_at_leaf.ensures c.in_ok-j.was c.whole_edge.ensures

pub returns-in_err-j : goal.returns-in_err-j
unfolding found_edges
returns-in_err-j c = ap found_edges c.from_residual.ensures ∙ none-whole _ _ _ _ c.edge_at_leaf.ensures c.in_err-j.was

-- No entries, or by the leaf.
use mathlib.Core.Path.{refl}
use Rattle.graph.proofs.OpenedReads.{leaf-read}
use Rattle.graph.proofs.EdgeReads.{empty-between}
use Rattle.graph.proofs.EdgeFoundLaws.{whole-none, join-to, join-from, join-none}
use Rattle.graph.proofs.VertexTests.{as_eq}
use Rattle.graph.proofs.edges.edge_between_ases.Goals as goal

pub returns-then-n-eq0 : goal.returns-then-n-eq0
returns-then-n-eq0 c = whole-none _ _ _ _ refl (empty-between _ c.count_of-n.ensures.0 c.if-n-eq0.true _ _)

pub returns-then-eq : goal.returns-then-eq
returns-then-eq c = let n = c.count_of-n.ensures.0 in
    join-to _ c.requires.k_value n _ _ _ (leaf-read _ n c.as_at-leaf.ensures) _ (as_eq _ _ c.eq.ensures) refl c.if-eq.true c.as_edge_found.ensures

pub returns-then-eq-2 : goal.returns-then-eq-2
returns-then-eq-2 c = let n = c.count_of-n.ensures.0 in
    join-from _ c.requires.k_value n _ _ _ (leaf-read _ n c.as_at-leaf.ensures) _ (as_eq _ _ c.eq.ensures) refl c.if-eq.false (as_eq _ _ c.eq-2.ensures) c.if-eq-2.true c.as_edge_found-then-eq-2.ensures

pub returns : goal.returns
returns c = let n = c.count_of-n.ensures.0 in
    join-none _ c.requires.k_value n _ _ _ (leaf-read _ n c.as_at-leaf.ensures) _ (as_eq _ _ c.eq.ensures) refl c.if-eq.false (as_eq _ _ c.eq-2.ensures) c.if-eq-2.false refl

-- `core_leaving` meets its contract.
use native.Mathlib.Omega.{arith}
use mathlib.Core.Path.{ap, ◌∙◌}
use mathlib.Core.List.{[], ◌∷◌}
use Rattle.graph.specs.Lookup.{found_edges}
use Rattle.graph.proofs.OpenedReads.{leaf-read}
use Rattle.graph.proofs.EdgeReads.{empty-leaving, leaving-first, leaving-last, leaving-none, leaving-peering}
use Rattle.graph.proofs.VertexTests.{as_eq}
use Rattle.graph.proofs.edges.core_leaving.Goals as goal

pub returns-then-n-eq0 : goal.returns-then-n-eq0
unfolding found_edges
returns-then-n-eq0 c = empty-leaving _ c.count_of-n.ensures.0 c.if-n-eq0.true _

pub returns-in_default : goal.returns-in_default
unfolding found_edges
returns-in_default c =
    leaving-peering _ _ c.requires.k_value c.count_of-n.ensures.0 (omega arith) c.in_default.is

pub returns-then-eq : goal.returns-then-eq
unfolding found_edges
returns-then-eq c =
    ap (λ x. x ∷ []) c.edge_of_core.ensures
    ∙ leaving-first c.args.opened.now.book.now c.args.k c.requires.k_value c.count_of-n.ensures.0 (omega arith) c.in-AS.is
    c.as_at-first.ensures (leaf-read _ c.count_of-n.ensures.0 c.as_at-last.ensures) (as_eq _ _ c.eq.ensures) c.if-eq.true

pub returns-then-eq-2 : goal.returns-then-eq-2
unfolding found_edges
returns-then-eq-2 c =
    ap (λ x. x ∷ []) c.edge_of_core-then-eq-2.ensures
    ∙ leaving-last c.args.opened.now.book.now c.args.k c.requires.k_value c.count_of-n.ensures.0 (omega arith) c.in-AS.is
    c.as_at-first.ensures (leaf-read _ c.count_of-n.ensures.0 c.as_at-last.ensures) (as_eq _ _ c.eq.ensures) c.if-eq.false
    (as_eq _ _ c.eq-2.ensures) c.if-eq-2.true

pub returns : goal.returns
unfolding found_edges
returns c =
    leaving-none c.args.opened.now.book.now c.args.k c.requires.k_value c.count_of-n.ensures.0 (omega arith) c.in-AS.is
    c.as_at-first.ensures (leaf-read _ c.count_of-n.ensures.0 c.as_at-last.ensures) (as_eq _ _ c.eq.ensures) c.if-eq.false
    (as_eq _ _ c.eq-2.ensures) c.if-eq-2.false

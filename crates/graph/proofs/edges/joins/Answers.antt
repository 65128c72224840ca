-- `joins` meets its contract.
use Rattle.std.proofs.lemmas.Bool.{and_from}
use mathlib.Core.Path.{◌≡◌, refl, sym, ap, ◌∙◌}
use mathlib.Core.Bool.{false, ◌&&◌}
use Rattle.spec.specs.Book.{same_as}
use Rattle.graph.proofs.EdgeReads.{joins-first, joins-second, first-not, second-not}
use Rattle.graph.proofs.VertexTests.{as_eq}
use Rattle.graph.proofs.edges.joins.Goals as goal
use Rattle.graph.proofs.edges.joins.Goals.{else-eq-via-then-eq+else-eq-2, else-eq-via-else-eq}

pub returns-then-eq-2 : goal.returns-then-eq-2
returns-then-eq-2 c =
    joins-first _ _ _ _
    (sym (and_from _ _ (sym (as_eq _ _ c.eq.ensures) ∙ c.if-eq.true) (sym (as_eq _ _ c.eq-then-eq.ensures) ∙ c.if-eq-2.true))) refl

pub returns-then-eq-3 : goal.returns-then-eq-3
returns-then-eq-3 c =
    let a = c.args in
    let n : (same_as a.first a.a && same_as a.last a.c) ≡ false =
    elim c.else-eq.branch [
      | else-eq-via-then-eq+else-eq-2 w ↦ second-not _ (sym (as_eq _ _ w.eq-then-eq.ensures) ∙ w.if-eq-2.false)
      | else-eq-via-else-eq w ↦ first-not _ (sym (as_eq _ _ c.eq.ensures) ∙ w.if-eq.false)
    ] in
    joins-second _ _ _ _ refl n (as_eq _ _ c.eq-then-eq-3.ensures ∙ sym (ap (λ x. x && same_as a.first a.c) (sym (as_eq _ _ c.eq-2.ensures) ∙ c.if-eq-3.true)))

pub returns-else-eq-3 : goal.returns-else-eq-3
returns-else-eq-3 c =
    let a = c.args in
    let n : (same_as a.first a.a && same_as a.last a.c) ≡ false =
    elim c.else-eq.branch [
      | else-eq-via-then-eq+else-eq-2 w ↦ second-not _ (sym (as_eq _ _ w.eq-then-eq.ensures) ∙ w.if-eq-2.false)
      | else-eq-via-else-eq w ↦ first-not _ (sym (as_eq _ _ c.eq.ensures) ∙ w.if-eq.false)
    ] in
    joins-second _ _ _ _ refl n (c.if-eq-3.false ∙ sym (ap (λ x. x && same_as a.first a.c) (sym (as_eq _ _ c.eq-2.ensures) ∙ c.if-eq-3.false)))

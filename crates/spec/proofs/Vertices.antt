-- The tests of equal ASes and vertices decide equality.
-- Assumes nothing.

use Rattle.std.proofs.lemmas.Bool.{and_from}
use mathlib.Core.Path.{◌≡◌, refl, ap, subst}
use mathlib.Core.Bool.{true, ◌&&◌, false≢true}
use lib.Dec.{eqb}
use borrow.Author.Tests.{eqb-true, eq-eqb}
use Rattle.spec.specs.declared.IsdAsn.{IsdAsn}
use Rattle.spec.specs.declared.Vertex.{Vertex}
use Rattle.spec.specs.declared.Vertex.TheVariants.{AS, Peering}
use Rattle.spec.specs.Book.{same_as}
use Rattle.spec.specs.Edges.{same_vertex}
use Rattle.spec.proofs.Membership.{and-true}

pub same_as-eq : (a b : IsdAsn) → same_as a b ≡ true → a ≡ b
unfolding same_as
same_as-eq a b e = ap {B = IsdAsn} (λ n. record { 0 = n }) (eqb-true a.0 b.0 e)

pub same_as-refl : (a : IsdAsn) → same_as a a ≡ true
unfolding same_as
same_as-refl a = eq-eqb a.0 a.0 refl

pub same_vertex-eq : (v w : Vertex) → same_vertex v w ≡ true → v ≡ w
unfolding same_vertex
same_vertex-eq (AS a) (AS b) e = ap AS (same_as-eq a b e)
same_vertex-eq (AS a) (Peering l i p j) e = absurd (false≢true e)
same_vertex-eq (Peering l i p j) (AS b) e = absurd (false≢true e)
same_vertex-eq (Peering l i p j) (Peering l' i' p' j') e =
    let h₃ = and-true (same_as l l' && eqb i i' && same_as p p') (eqb j j') e in
    let h₂ = and-true (same_as l l' && eqb i i') (same_as p p') h₃.0 in
    let h₁ = and-true (same_as l l') (eqb i i') h₂.0 in
    let el : l ≡ l' = same_as-eq l l' h₁.0 in
    let ei : i ≡ i' = eqb-true i i' h₁.1 in
    let ep : p ≡ p' = same_as-eq p p' h₂.1 in
    let ej : j ≡ j' = eqb-true j j' h₃.1 in
    cc

pub same_vertex-refl : (v : Vertex) → same_vertex v v ≡ true
unfolding same_vertex
same_vertex-refl (AS a) = same_as-refl a
same_vertex-refl (Peering l i p j) =
    and_from _ _ (and_from _ _ (and_from _ _ (same_as-refl l) (eq-eqb i i refl)) (same_as-refl p)) (eq-eqb j j refl)

pub eq-same_vertex : (v w : Vertex) → v ≡ w → same_vertex v w ≡ true
eq-same_vertex v w q = subst (λ u. same_vertex v u ≡ true) q (same_vertex-refl v)

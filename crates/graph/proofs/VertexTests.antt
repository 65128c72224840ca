-- What `==` and `!=` of ASes and of vertices ensure, as the tests of the definitions.
-- Assumes nothing.
use mathlib.Core.Path.{◌≡◌, refl, ap, ◌∙◌}
use mathlib.Core.Bool.{Bool, true, false, not, false≢true}
use lib.Dec.{eqb}
use Rattle.spec.specs.declared.IsdAsn.{IsdAsn}
use Rattle.spec.specs.declared.Vertex.{Vertex}
use Rattle.spec.specs.Book.{same_as}
use Rattle.spec.specs.Edges.{same_vertex}
use Rattle.spec.proofs.Membership.{not-both}
use Rattle.spec.proofs.Vertices.{same_vertex-eq, eq-same_vertex}

pub as_eq : (a c : IsdAsn) {u : Bool} → u ≡ eqb a.0 c.0 → u ≡ same_as a c
unfolding same_as
as_eq a c q = q

pub as_ne : (a c : IsdAsn) {u : Bool} → u ≡ not (eqb a.0 c.0) → not u ≡ same_as a c
unfolding same_as
as_ne a c q = ap not q ∙ twice (eqb a.0 c.0)
  where
    twice : (t : Bool) → not (not t) ≡ t
    twice true = refl
    twice false = refl

module _ (v w : Vertex) where
  pub vertex_eq : {u : Bool} → (u ≡ true → v ≡ w) → (v ≡ w → u ≡ true) → u ≡ same_vertex v w
  vertex_eq {u} f g = go u f g (same_vertex v w) refl
    where
      go : (u : Bool) → (u ≡ true → v ≡ w) → (v ≡ w → u ≡ true) → (t : Bool) → same_vertex v w ≡ t → u ≡ t
      go true f g true q = refl
      go true f g false q = not-both (eq-same_vertex v w (f refl)) q
      go false f g true q = absurd (false≢true (g (same_vertex-eq v w q)))
      go false f g false q = refl

  pub vertex_ne : {u : Bool} → (u ≡ false → v ≡ w) → (v ≡ w → u ≡ false) → not u ≡ same_vertex v w
  vertex_ne {u} f g = vertex_eq (λ p. f (back u p)) (λ p. ap not (g p))
    where
      back : (u : Bool) → not u ≡ true → u ≡ false
      back true p = absurd (false≢true p)
      back false p = refl

-- Which edge a non-core segment stores from a vertex to an AS, by what the code is told of it.
-- Assumes nothing.
use Prim.Native.Nat.{ℕ, ◌-◌, ◌≤◌, ◌<◌}
use mathlib.Core.Path.{◌≡◌, sym, ap, ◌∙◌}
use mathlib.Core.Bool.{Bool, true, false}
use mathlib.Core.List.{List, [], ◌∷◌}
use Rattle.spec.specs.declared.IsdAsn.{IsdAsn}
use Rattle.spec.specs.declared.Vertex.{Vertex}
use Rattle.spec.specs.declared.Vertex.TheVariants.{AS, Peering}
use Rattle.spec.specs.declared.Edge.{Edge}
use Rattle.std.specs.Prelude.{Option, Some, None}
use Rattle.spec.specs.Book.{same_as, Segment, segment_at}
use Rattle.spec.specs.Edges.{leaf_as, in_construction}
use Rattle.spec.specs.Loopless.{Apart}
use Rattle.spec.proofs.Membership.{not-both}
use Rattle.spec.proofs.Vertices.{same_as-eq}
use Rattle.graph.specs.declared.vertices.Link.{Link}
use Rattle.graph.specs.declared.edges.EdgeFound.{EdgeFound}
use Rattle.graph.specs.Lookup.{between}
use Rattle.graph.specs.Leaving.{entry_count, entry_with, peer_linked, as_edge_at, down_peer_edge}
use Rattle.graph.specs.Link.{end_of}
use Rattle.graph.specs.EdgeFound.{whole_edge, whole_edges}
use Rattle.graph.proofs.LookupLaws.{as-eq, eq-same_as, as-not-peering}
use Rattle.graph.proofs.EdgeReads.{leaf-arrives, as-made, as_none, peer-made, peer-past, peer-missing, to-as, to-link, from-as, from-none}

-- ---- found or not

module _ (k : ℕ) (v : Vertex) (w : IsdAsn) (j : Option EdgeFound) where
  whole-nothing : j ≡ None → whole_edges k v w j ≡ []
  unfolding whole_edges
  whole-nothing q = ap (whole_edges k v w) q

  -- none where there is none
  pub whole-none : {l : List Edge} → j ≡ None → [] ≡ l → whole_edges k v w j ≡ l
  whole-none q p = whole-nothing q ∙ p

  pub none-whole : {l : List Edge} → whole_edges k v w j ≡ l → j ≡ None → [] ≡ l
  none-whole p q = sym (whole-nothing q) ∙ p

  pub edge-whole : {l : List Edge} {e : Edge} {x : EdgeFound} → whole_edges k v w j ≡ l → j ≡ Some x → e ≡ whole_edge k v w x → (e ∷ []) ≡ l
  unfolding whole_edges
  edge-whole p q r = ap (λ x. x ∷ []) r ∙ sym (ap (whole_edges k v w) q) ∙ p

-- a vertex that is an AS
pub whole-at : (seg : Segment) (k : ℕ) (w : IsdAsn) (j : Option EdgeFound) {v : Vertex} {a : IsdAsn} → v ≡ AS a → whole_edges k (AS a) w j ≡ between seg (AS a) (AS w)
    → whole_edges k v w j ≡ between seg v (AS w)
whole-at seg k w j at p = ap (λ x. whole_edges k x w j) at ∙ p ∙ ap (λ x. between seg x (AS w)) (sym at)

-- ---- as the code makes them

abbrev joined : Bool → ℕ → ℕ → ℕ → EdgeFound
joined c i q weight = record { construction = c; shortcut = i; peer = q; weight = weight }

module _ (b : List ℕ) (k : ℕ) (nc : (segment_at b k).core ≡ false) {n : ℕ} (count : n ≡ entry_count (segment_at b k)) where
  abbrev seg : Segment
  seg = segment_at b k

  module _ (a : IsdAsn) {i : ℕ} (found : i ≡ entry_with seg a (n - 1)) where
    pub as-joined : i < n - 1 → (c : Bool) (v : Vertex) (w : IsdAsn) → c ≡ in_construction seg (AS w)
        → whole_edges k v w (Some (joined c i 0 (n - 1 - i))) ≡ as_edge_at seg v (AS w) (entry_with seg a (n - 1))
    unfolding whole_edges whole_edge
    as-joined h c v w p = as-made b k v (AS w) n i count _ c false found h p (sym nc)

    pub as-none : n - 1 ≤ i → (j : Option EdgeFound) → j ≡ None → (v : Vertex) (w : IsdAsn) → whole_edges k v w j ≡ as_edge_at seg v (AS w) (entry_with seg a (n - 1))
    as-none h j f v w = whole-none k v w j f (as_none b k v (AS w) n i count _ found h)

  module _ (l : Link) {i : ℕ} (found : i ≡ entry_with seg l.local n) where
    pub link-joined : {q : ℕ} → i < n → q ≡ peer_linked seg (end_of l) i → 0 < q → (v : Vertex) (w : IsdAsn) → true ≡ in_construction seg (AS w)
        → whole_edges k v w (Some (joined true i q (n - 1 - i))) ≡ down_peer_edge seg v (AS w) l
    unfolding whole_edges whole_edge
    link-joined {q} g f e v w p = peer-made b k v (AS w) n i count l found q true false f g e p (sym nc)

    pub link-missing : {q : ℕ} → q ≡ peer_linked seg (end_of l) i → q ≤ 0 → (j : Option EdgeFound) → j ≡ None → (v : Vertex) (w : IsdAsn)
        → whole_edges k v w j ≡ down_peer_edge seg v (AS w) l
    link-missing {q} f e j z v w = whole-none k v w j z (peer-missing b k v (AS w) n i count l found q f e)

    pub link-none : (j : Option EdgeFound) → n ≤ i → j ≡ None → (v : Vertex) (w : IsdAsn) → whole_edges k v w j ≡ down_peer_edge seg v (AS w) l
    link-none j g f v w = whole-none k v w j f (peer-past b k v (AS w) n i count l found g)

-- ---- one of the two is the leaf

module _ (seg : Segment) (nc : seg.core ≡ false) {n : ℕ} (count : n ≡ entry_count seg) (k : ℕ) (v : Vertex) (w : IsdAsn) {leaf : IsdAsn} (last : leaf ≡ leaf_as seg)
    (j : Option EdgeFound) {u : Bool} (test : u ≡ same_as leaf w) where
  at_leaf : (a : IsdAsn) {u t : Bool} → u ≡ same_as leaf a → u ≡ t → same_as (leaf_as seg) a ≡ t
  at_leaf a p q = ap (λ x. same_as x a) (sym last) ∙ sym p ∙ q

  module _ {l p : IsdAsn} {i o : ℕ} (at : v ≡ Peering l i p o) where
    pub join-other : u ≡ false → j ≡ None → whole_edges k v w j ≡ between seg v (AS w)
    join-other q f = whole-none k v w j f (from-none seg w nc n count (at_leaf w test q) v (λ e. as-not-peering (e ∙ at)))

    abbrev link : Link
    link = record { local = p; ingress = o; peer = l; interface = i }

    pub join-link : Apart seg → u ≡ true
        → ((x : Vertex) (y : IsdAsn) → true ≡ in_construction seg (AS y) → whole_edges k x y j ≡ down_peer_edge seg x (AS y) link)
        → whole_edges k v w j ≡ between seg v (AS w)
    join-link apart q f =
        f v w (leaf-arrives seg w true (at_leaf w test q)) ∙ to-link seg w nc n count (at_leaf w test q) apart v link at

  module _ {a : IsdAsn} (at : v ≡ AS a) where
    pub join-to : u ≡ true
        → ((x : Vertex) (y : IsdAsn) → true ≡ in_construction seg (AS y) → whole_edges k x y j ≡ as_edge_at seg x (AS y) (entry_with seg a (n - 1)))
        → whole_edges k v w j ≡ between seg v (AS w)
    join-to q f = f v w (leaf-arrives seg w true (at_leaf w test q)) ∙ to-as seg w nc n count (at_leaf w test q) v a at

    module _ (q : u ≡ false) {t : Bool} (p : t ≡ same_as leaf a) where
      pub join-from : t ≡ true
          → ((x : Vertex) (y : IsdAsn) → false ≡ in_construction seg (AS y) → whole_edges k x y j ≡ as_edge_at seg x (AS y) (entry_with seg w (n - 1)))
          → whole_edges k v w j ≡ between seg v (AS w)
      join-from s f =
          f v w (leaf-arrives seg w false (at_leaf w test q))
          ∙ from-as seg w nc n count (at_leaf w test q) v (at ∙ ap AS (sym (same_as-eq _ _ (at_leaf a p s))))

      pub join-none : t ≡ false → j ≡ None → whole_edges k v w j ≡ between seg v (AS w)
      join-none s f =
          whole-none k v w j f
          (from-none seg w nc n count (at_leaf w test q) v (λ e. not-both (eq-same_as _ _ (as-eq (e ∙ at))) (at_leaf a p s)))

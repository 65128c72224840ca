-- The edges that the code makes of what it reads of a segment are those that it stores.
-- Assumes nothing.
use Rattle.std.proofs.lemmas.Bool.{and_from}
use Prim.Native.Nat.{ℕ, ◌+◌, ◌-◌, ◌≤◌, ◌<◌}
use native.Mathlib.Omega.{arith}
use mathlib.Core.Path.{◌≡◌, refl, sym, ap, ap₂, ◌∙◌, subst}
use mathlib.Core.Bool.{Bool, true, false, ◌&&◌, ◌||◌, and-false}
use mathlib.Core.List.{List, [], ◌∷◌}
use lib.Dec.{ltb, eqb}
use borrow.Author.Tests.{ltb-true, ltb-false, lt-ltb, le-ltb, eq-eqb, ne_eqb}
use Rattle.spec.specs.declared.IsdAsn.{IsdAsn}
use Rattle.spec.specs.declared.Vertex.{Vertex}
use Rattle.spec.specs.declared.Vertex.TheVariants.{AS, Peering}
use Rattle.spec.specs.declared.Edge.{Edge}
use Rattle.std.specs.Prelude.{if◌then◌else◌}
use Rattle.spec.specs.Basics.{filter, range}
use Rattle.spec.specs.Book.{same_as, Segment, segment_at}
use Rattle.spec.specs.Edges.{same_vertex, as_of, leaf_as, in_construction, edge_of}
use Rattle.spec.proofs.Membership.{not-both}
use Rattle.spec.proofs.RouterLaws.{eqb-sym}
use Rattle.spec.proofs.Vertices.{same_as-eq, same_vertex-eq, same_vertex-refl, eq-same_vertex}
use Rattle.spec.proofs.OnceLaws.{any-mem, segment-position}
use Rattle.spec.proofs.BookLaws.{mem-range}
use Rattle.graph.specs.declared.vertices.Link.{Link}
use Rattle.spec.specs.Chains.{leaves}
use Rattle.spec.specs.Loopless.{Apart}
use Rattle.graph.specs.Lookup.{has_ends, between, leaving_of}
use Rattle.graph.specs.Leaving.{joins, entry_count, peer_count_of, link_of, is_entry_of, entry_with, has_as, is_link, peer_linked, as_edge_at, peer_edge_at, down_peer_edge, core_edge, core_edge_from, peer_stands, as_up, peer_up}
use Rattle.graph.specs.Scan.{first_with}
use Rattle.graph.specs.Link.{end_of}
use Rattle.graph.proofs.LookupScan.{when, any-first, first_passes, last-above}
use Rattle.graph.proofs.LookupLaws.{as-eq, eq-same_as, sole, up-as, down-as, down-link, no-leaf, core-as, core-peering, core-leaving, none-stored}
use Rattle.graph.proofs.OpenedReads.{leaf-is}

-- a test of two fails by its first, or by its second
pub first-not : {x : Bool} (y : Bool) → x ≡ false → (x && y) ≡ false
first-not y q = ap (λ t. t && y) q

pub second-not : (x : Bool) {y : Bool} → y ≡ false → (x && y) ≡ false
second-not true q = q
second-not false q = refl

-- two ASes and two others
module _ (first last a c : IsdAsn) where
  pub joins-first : {u : Bool} → u ≡ (same_as first a && same_as last c) → u ≡ true → true ≡ joins first last a c
  unfolding joins
  joins-first p q = sym (ap (λ x. x || (same_as last a && same_as first c)) (sym p ∙ q))

  pub joins-second : {u v : Bool} → u ≡ (same_as first a && same_as last c) → u ≡ false → v ≡ (same_as last a && same_as first c) → v ≡ joins first last a c
  unfolding joins
  joins-second p q r = r ∙ sym (ap (λ x. x || (same_as last a && same_as first c)) (sym p ∙ q))

-- no AS edge at the leaf or past it
as-past : (seg : Segment) (v w : Vertex) (i : ℕ) → entry_count seg - 1 ≤ i → [] ≡ as_edge_at seg v w i
unfolding as_edge_at
as-past seg v w i h = sym (ap (λ x. when x (edge_of seg v w (entry_count seg - 1 - i) i 0)) (le-ltb i (entry_count seg - 1) h))

module _ (b : List ℕ) (k : ℕ) where
  abbrev seg : Segment
  seg = segment_at b k

  -- an edge of the segment, as the code makes it
  abbrev pub made : Vertex → Vertex → ℕ → ℕ → ℕ → Bool → Bool → Edge
  made v w weight i q c t = record { src = v; dst = w; weight = weight; shortcut = i; peer = q; position = k; construction = c; core = t }

  pub edge-made : (v w : Vertex) (weight i q : ℕ) (c t : Bool) → c ≡ in_construction seg w → t ≡ seg.core → made v w weight i q c t ≡ edge_of seg v w weight i q
  unfolding edge_of
  edge-made v w weight i q c t p r =
      ap₂ (λ (x y : Bool). made v w weight i q x y) p r ∙ ap (λ n. place v w weight i q n) (sym (segment-position b k))
    where
      place : Vertex → Vertex → ℕ → ℕ → ℕ → ℕ → Edge
      place v w weight i q n =
          record { src = v; dst = w; weight = weight; shortcut = i; peer = q; position = n; construction = in_construction seg w; core = seg.core }

  module _ (v w : Vertex) (n i : ℕ) (count : n ≡ entry_count seg) where
    pub as-made : (j : ℕ) (c t : Bool) → i ≡ j → i < n - 1 → c ≡ in_construction seg w → t ≡ seg.core → (made v w (n - 1 - i) i 0 c t ∷ []) ≡ as_edge_at seg v w j
    unfolding as_edge_at
    as-made j c t e l p q =
        ap (λ x. x ∷ []) (edge-made v w (n - 1 - i) i 0 c t p q)
        ∙ ap₂ (λ m o. edge_of seg v w (m - 1 - o) o 0 ∷ []) count e
        ∙ sym (ap (λ x. when x (edge_of seg v w (entry_count seg - 1 - j) j 0)) (lt-ltb j (entry_count seg - 1) (omega arith)))

    pub as_none : (j : ℕ) → i ≡ j → n - 1 ≤ i → [] ≡ as_edge_at seg v w j
    as_none j e l = as-past seg v w j (omega arith)

    module _ (l : Link) (found : i ≡ entry_with seg l.local n) where
      abbrev down : ℕ → Edge
      down o = edge_of seg v w (entry_count seg - 1 - o) o (peer_linked seg (end_of l) o)

      down-at : when (ltb i (entry_count seg) && ltb 0 (peer_linked seg (end_of l) i)) (down i) ≡ down_peer_edge seg v w l
      unfolding down_peer_edge peer_edge_at
      down-at =
          ap (λ o. when (ltb o (entry_count seg) && ltb 0 (peer_linked seg (end_of l) o)) (down o)) (found ∙ ap (entry_with seg l.local) count)

      pub peer-made : (q : ℕ) (c t : Bool) → q ≡ peer_linked seg (end_of l) i → i < n → 0 < q → c ≡ in_construction seg w → t ≡ seg.core
          → (made v w (n - 1 - i) i q c t ∷ []) ≡ down_peer_edge seg v w l
      peer-made q c t f g some p s =
          ap (λ x. x ∷ []) (edge-made v w (n - 1 - i) i q c t p s)
          ∙ ap₂ (λ m o. edge_of seg v w (m - 1 - i) i o ∷ []) count f
          ∙ sym (ap (λ x. when x (down i)) (and_from (ltb i (entry_count seg)) _ (lt-ltb i (entry_count seg) (omega arith)) (lt-ltb 0 (peer_linked seg (end_of l) i) (omega arith))))
          ∙ down-at

      pub peer-past : n ≤ i → [] ≡ down_peer_edge seg v w l
      peer-past g = sym (ap (λ x. when (x && ltb 0 (peer_linked seg (end_of l) i)) (down i)) (le-ltb i (entry_count seg) (omega arith))) ∙ down-at

      pub peer-missing : (q : ℕ) → q ≡ peer_linked seg (end_of l) i → q ≤ 0 → [] ≡ down_peer_edge seg v w l
      peer-missing q f g =
          sym (ap (λ x. when (ltb i (entry_count seg) && x) (down i)) (le-ltb 0 (peer_linked seg (end_of l) i) (omega arith))
          ∙ ap (λ x. when x (down i)) (and-false (ltb i (entry_count seg))))
          ∙ down-at

-- ---- which edge is between two vertices

module _ (seg : Segment) (w : IsdAsn) where
  pub leaf-arrives : (u : Bool) → same_as (leaf_as seg) w ≡ u → u ≡ in_construction seg (AS w)
  unfolding in_construction same_vertex same_as
  leaf-arrives u h = sym h ∙ eqb-sym (leaf_as seg).0 w.0

  module _ (nc : seg.core ≡ false) (n : ℕ) (count : n ≡ entry_count seg) where
    -- to the leaf
    module _ (here : same_as (leaf_as seg) w ≡ true) where
      leaf-w : AS (leaf_as seg) ≡ AS w
      leaf-w = ap AS (same_as-eq (leaf_as seg) w here)

      pub to-as : (v : Vertex) (a : IsdAsn) → v ≡ AS a → as_edge_at seg v (AS w) (entry_with seg a (n - 1)) ≡ between seg v (AS w)
      to-as v a q =
          ap (λ m. as_edge_at seg v (AS w) (entry_with seg a (m - 1))) count
          ∙ ap₂ (λ x y. as_edge_at seg x y (entry_with seg a (entry_count seg - 1))) q (sym leaf-w)
          ∙ sym (down-as seg nc a)
          ∙ ap₂ (between seg) (sym q) leaf-w

      pub to-link : Apart seg → (v : Vertex) (m : Link) → v ≡ Peering m.peer m.interface m.local m.ingress
          → down_peer_edge seg v (AS w) m ≡ between seg v (AS w)
      to-link apart v m q =
          ap (λ x. down_peer_edge seg v x m) (sym leaf-w) ∙ sym (down-link seg nc apart m v q) ∙ ap (between seg v) leaf-w

    -- to another AS
    module _ (away : same_as (leaf_as seg) w ≡ false) where
      pub from-as : (v : Vertex) → v ≡ AS (leaf_as seg) → as_edge_at seg v (AS w) (entry_with seg w (n - 1)) ≡ between seg v (AS w)
      from-as v q =
          ap₂ (λ m x. as_edge_at seg x (AS w) (entry_with seg w (m - 1))) count q ∙ sym (up-as seg nc w) ∙ ap (λ x. between seg x (AS w)) (sym q)

      pub from-none : (v : Vertex) → (AS (leaf_as seg) ≡ v → ⊥) → [] ≡ between seg v (AS w)
      from-none v f = sym (no-leaf seg nc v (AS w) f (λ q. not-both (eq-same_as (leaf_as seg) w (as-eq q)) away))

-- ---- a segment with no entries

module _ (seg : Segment) {n : ℕ} (count : n ≡ entry_count seg) (none : n ≡ 0) where
  pub empty-leaving : (v : Vertex) → [] ≡ leaving_of v seg
  unfolding leaving_of
  empty-leaving v = sym (ap (filter (leaves v)) (none-stored seg (sym count ∙ none)) ∙ unfold filter in refl)

  pub empty-between : (v w : Vertex) → [] ≡ between seg v w
  unfolding between
  empty-between v w = sym (ap (filter (has_ends v w)) (none-stored seg (sym count ∙ none)) ∙ unfold filter in refl)

-- ---- an AS that no entry of a non-core segment has

module _ (seg : Segment) (nc : seg.core ≡ false) (a : IsdAsn) (none : has_as seg a ≡ false) where
  other-entry : (i : ℕ) → i < entry_count seg → is_entry_of seg a i ≡ true → ⊥
  unfolding has_as entry_with
  other-entry i h q =
      let e : 0 + entry_count seg ≡ entry_count seg = omega arith in
      not-both (any-mem (is_entry_of seg a) (range 0 (entry_count seg)) (mem-range 0 (entry_count seg) i (omega arith) (omega arith)) q)
      (any-first (is_entry_of seg a) 0 (entry_count seg) ∙ ap (ltb (first_with (is_entry_of seg a) 0 (entry_count seg))) e ∙ none)

  pub other-leaf : 0 < entry_count seg → same_as (leaf_as seg) a ≡ false
  other-leaf h = go (same_as (leaf_as seg) a) refl
    where
      go : (x : Bool) → same_as (leaf_as seg) a ≡ x → x ≡ false
      go true q = absurd (other-entry (entry_count seg - 1) (omega arith) (unfold is_entry_of in ap (λ c. same_as c a) (leaf-is seg) ∙ q))
      go false q = refl

  past-leaf : entry_count seg - 1 ≤ entry_with seg a (entry_count seg - 1)
  unfolding entry_with
  past-leaf = go (ltb (first_with (is_entry_of seg a) 0 (entry_count seg - 1)) (entry_count seg - 1)) refl
    where
      go : (x : Bool) → ltb (first_with (is_entry_of seg a) 0 (entry_count seg - 1)) (entry_count seg - 1) ≡ x
          → entry_count seg - 1 ≤ first_with (is_entry_of seg a) 0 (entry_count seg - 1)
      go true q =
          let h : first_with (is_entry_of seg a) 0 (entry_count seg - 1) < entry_count seg - 1 = ltb-true _ _ q in
          absurd (other-entry _ (omega arith) (first_passes (is_entry_of seg a) 0 (entry_count seg - 1) (omega arith)))
      go false q = ltb-false _ _ q

  -- no edge arrives there
  pub none-arrives : (v : Vertex) → between seg v (AS a) ≡ []
  none-arrives v = go (ltb 0 (entry_count seg)) refl (same_vertex (AS (leaf_as seg)) v) refl
    where
      go : (x : Bool) → ltb 0 (entry_count seg) ≡ x → (y : Bool) → same_vertex (AS (leaf_as seg)) v ≡ y → between seg v (AS a) ≡ []
      go false p y q = let z : entry_count seg ≤ 0 = ltb-false _ _ p in sym (empty-between seg refl (omega arith) v (AS a))
      go true p true q =
          sym (from-as seg a nc (entry_count seg) refl (other-leaf (ltb-true _ _ p)) v (sym (same_vertex-eq _ _ q)))
          ∙ sym (as-past seg v (AS a) (entry_with seg a (entry_count seg - 1)) past-leaf)
      go true p false q =
          sym (from-none seg a nc (entry_count seg) refl (other-leaf (ltb-true _ _ p)) v (λ e. not-both (eq-same_vertex _ _ e) q))

  -- and none leaves it for the leaf
  pub none-leaves : between seg (AS a) (AS (leaf_as seg)) ≡ []
  none-leaves =
      sym (to-as seg (leaf_as seg) nc (entry_count seg) refl (eq-same_as _ _ refl) (AS a) a refl)
      ∙ sym (as-past seg (AS a) (AS (leaf_as seg)) (entry_with seg a (entry_count seg - 1)) past-leaf)

-- ---- a core segment

module _ (b : List ℕ) (k : ℕ) (core : (segment_at b k).core ≡ true) {n : ℕ} (count : n ≡ entry_count (segment_at b k)) (some : 0 < n) where
  full : entry_count (segment_at b k) ≡ 0 → ⊥
  full q = omega arith

  module _ {v : Vertex} {a first last : IsdAsn} (at : v ≡ AS a) (f : first ≡ as_of (segment_at b k) 0) (l : last ≡ leaf_as (segment_at b k)) where
    -- between two ASes
    module _ (w : IsdAsn) {j : Bool} (test : j ≡ joins first last a w) where
      abbrev edge : Edge
      edge = edge_of (segment_at b k) (AS a) (AS w) (entry_count (segment_at b k) - 1) 0 0

      core_is : when j edge ≡ between (segment_at b k) v (AS w)
      unfolding core_edge
      core_is =
          ap (λ x. when x edge) (test ∙ ap₂ (λ x y. joins x y a w) f l)
          ∙ sym (core-as (segment_at b k) core full a w)
          ∙ ap (λ x. between (segment_at b k) x (AS w)) (sym at)

      pub core-made : {u : Bool} → j ≡ true → u ≡ same_as w last → (made b k (AS a) (AS w) (n - 1) 0 0 u true ∷ []) ≡ between (segment_at b k) v (AS w)
      core-made {u} holds arrives =
          ap (λ x. x ∷ []) (edge-made b k (AS a) (AS w) (n - 1) 0 0 u true (arrives ∙ ap (same_as w) l ∙ construction) (sym core))
          ∙ ap (λ m. edge_of (segment_at b k) (AS a) (AS w) (m - 1) 0 0 ∷ []) count
          ∙ sym (ap (λ x. when x edge) holds)
          ∙ core_is
        where
          construction : same_as w (leaf_as (segment_at b k)) ≡ in_construction (segment_at b k) (AS w)
          construction = unfold in_construction same_vertex in refl

      pub core-none : j ≡ false → [] ≡ between (segment_at b k) v (AS w)
      core-none fails = sym (ap (λ x. when x edge) fails) ∙ core_is

    -- from an AS
    abbrev there : Edge
    there = edge_of (segment_at b k) (AS (as_of (segment_at b k) 0)) (AS (leaf_as (segment_at b k))) (entry_count (segment_at b k) - 1) 0 0

    abbrev back : Edge
    back = edge_of (segment_at b k) (AS (leaf_as (segment_at b k))) (AS (as_of (segment_at b k) 0)) (entry_count (segment_at b k) - 1) 0 0

    leaving-is : {x y : Bool} → x ≡ same_as first a → y ≡ same_as last a
        → (if x then there ∷ [] else if y then back ∷ [] else []) ≡ leaving_of v (segment_at b k)
    unfolding core_edge_from same_vertex
    leaving-is p q =
        ap₂ (λ x y. if x then there ∷ [] else if y then back ∷ [] else []) (p ∙ ap (λ c. same_as c a) f) (q ∙ ap (λ c. same_as c a) l)
        ∙ ap (core_edge_from (segment_at b k)) (sym at)
        ∙ sym (core-leaving (segment_at b k) core full v)

    pub leaving-first : {x : Bool} → x ≡ same_as first a → x ≡ true → (made b k (AS first) (AS last) (n - 1) 0 0 true true ∷ []) ≡ leaving_of v (segment_at b k)
    leaving-first {x} p h =
        ap (λ e. e ∷ []) (edge-made b k (AS first) (AS last) (n - 1) 0 0 true true (leaf-arrives (segment_at b k) last true (eq-same_as _ _ (sym l))) (sym core))
        ∙ ap₂ (λ y z. edge_of (segment_at b k) (AS y) (AS z) (n - 1) 0 0 ∷ []) f l
        ∙ ap (λ m. edge_of (segment_at b k) (AS (as_of (segment_at b k) 0)) (AS (leaf_as (segment_at b k))) (m - 1) 0 0 ∷ []) count
        ∙ sym (ap (λ y. if y then there ∷ [] else if same_as last a then back ∷ [] else []) h)
        ∙ leaving-is p refl

    pub leaving-last : {x y : Bool} → x ≡ same_as first a → x ≡ false → y ≡ same_as last a → y ≡ true
        → (made b k (AS last) (AS first) (n - 1) 0 0 false true ∷ []) ≡ leaving_of v (segment_at b k)
    leaving-last p h q g =
        ap (λ e. e ∷ []) (edge-made b k (AS last) (AS first) (n - 1) 0 0 false true (leaf-arrives (segment_at b k) first false apart) (sym core))
        ∙ ap₂ (λ y z. edge_of (segment_at b k) (AS y) (AS z) (n - 1) 0 0 ∷ []) l f
        ∙ ap (λ m. edge_of (segment_at b k) (AS (leaf_as (segment_at b k))) (AS (as_of (segment_at b k) 0)) (m - 1) 0 0 ∷ []) count
        ∙ sym (ap₂ (λ y z. if y then there ∷ [] else if z then back ∷ [] else []) h g)
        ∙ leaving-is p q
      where
        -- the last AS is the one sought, and the first is not
        apart : same_as (leaf_as (segment_at b k)) first ≡ false
        apart = not_same (same_as (leaf_as (segment_at b k)) first) refl
          where
            not_same : (z : Bool) → same_as (leaf_as (segment_at b k)) first ≡ z → z ≡ false
            not_same true r = not-both (eq-same_as first a (sym (same_as-eq _ _ r) ∙ sym l ∙ same_as-eq last a (sym q ∙ g))) (sym p ∙ h)
            not_same false r = refl

    pub leaving-none : {x y : Bool} → x ≡ same_as first a → x ≡ false → y ≡ same_as last a → y ≡ false → [] ≡ leaving_of v (segment_at b k)
    leaving-none p h q g = sym (ap₂ (λ y z. if y then there ∷ [] else if z then back ∷ [] else []) h g) ∙ leaving-is p q

  -- a peering end
  module _ {v : Vertex} {l p : IsdAsn} {i j : ℕ} (at : v ≡ Peering l i p j) where
    pub leaving-peering : [] ≡ leaving_of v (segment_at b k)
    unfolding core_edge_from same_vertex
    leaving-peering = ap (core_edge_from (segment_at b k)) (sym at) ∙ sym (core-leaving (segment_at b k) core full v)

    pub between-peering : (w : Vertex) → [] ≡ between (segment_at b k) v w
    between-peering w = sym (core-peering (segment_at b k) core full l p i j w) ∙ ap (λ x. between (segment_at b k) x w) (sym at)

-- ---- up from the leaf

module _ (seg : Segment) (i : ℕ) where
  pub up-leaf : {n : ℕ} → n ≡ entry_count seg → i ≡ n - 1 → [] ≡ as_up seg i
  unfolding as_up
  up-leaf count h = as-past seg (AS (leaf_as seg)) (AS (as_of seg i)) i (omega arith)

  -- an entry below the leaf has another AS
  pub below_apart : Apart seg → i < entry_count seg - 1 → same_as (leaf_as seg) (as_of seg i) ≡ false
  below_apart apart l = go (same_as (leaf_as seg) (as_of seg i)) refl
    where
      go : (x : Bool) → same_as (leaf_as seg) (as_of seg i) ≡ x → x ≡ false
      go true q =
          let e : entry_count seg - 1 ≡ i = sole seg apart _ _ (omega arith) (omega arith) (leaf-is seg ∙ same_as-eq _ _ q) in
          absurd (omega arith)
      go false q = refl

module _ (b : List ℕ) (k i : ℕ) {n : ℕ} (count : n ≡ entry_count (segment_at b k)) {leaf : IsdAsn} (last : leaf ≡ leaf_as (segment_at b k)) where
  pub up-made : Apart (segment_at b k) → {x : IsdAsn} {t : Bool} → i < n → (i ≡ n - 1 → ⊥) → x ≡ as_of (segment_at b k) i → t ≡ (segment_at b k).core
      → (made b k (AS leaf) (AS x) (n - 1 - i) i 0 false t ∷ []) ≡ as_up (segment_at b k) i
  unfolding as_up
  up-made apart {x} {t} below other here core =
      let low : i < n - 1 = omega arith in
      as-made b k (AS leaf) (AS x) n i count i false t refl low
      (leaf-arrives (segment_at b k) x false (ap (same_as (leaf_as (segment_at b k))) here ∙ below_apart (segment_at b k) i apart (subst (λ m. i < m - 1) count low))) core
      ∙ ap₂ (λ y z. as_edge_at (segment_at b k) (AS y) (AS z) i) last here

-- ---- up from the leaf to a peering end

module _ (seg : Segment) (i p : ℕ) (l : p < peer_count_of seg i) where
  -- a peer has its own link
  pub link-some : {v : Vertex} {q : ℕ} → v ≡ link_of seg i p → q ≡ peer_linked seg v i → 1 ≤ q
  unfolding peer_linked is_link
  link-some here found =
      let own : p < peer_linked seg (link_of seg i p) i = last-above (is_link seg (link_of seg i p) i) p (peer_count_of seg i) l (same_vertex-refl (link_of seg i p)) in
      omega (arith, found ∙ ap (λ u. peer_linked seg u i) here)

  pub up-later : {v : Vertex} {q : ℕ} → v ≡ link_of seg i p → q ≡ peer_linked seg v i → (q - 1 ≡ p → ⊥) → [] ≡ peer_up seg i p
  unfolding peer_up peer_stands
  up-later here found h =
      sym (ap (λ x. when x (edge_of seg (AS (leaf_as seg)) (link_of seg i p) (entry_count seg - i) i (p + 1)))
      (ne_eqb (peer_linked seg (link_of seg i p) i) (p + 1) (λ e. h (omega (arith, found ∙ ap (λ u. peer_linked seg u i) here)))))

module _ (b : List ℕ) (k i p : ℕ) {n : ℕ} (count : n ≡ entry_count (segment_at b k)) {leaf : IsdAsn} (last : leaf ≡ leaf_as (segment_at b k)) where
  pub peer-up-made : (m : Link) {q : ℕ} {t : Bool} → end_of m ≡ link_of (segment_at b k) i p → q ≡ peer_linked (segment_at b k) (end_of m) i → 1 ≤ q → q - 1 ≡ p
      → t ≡ (segment_at b k).core → (made b k (AS leaf) (end_of m) (n - i) i q false t ∷ []) ≡ peer_up (segment_at b k) i p
  unfolding peer_up peer_stands
  peer-up-made m {q} {t} here found some own core =
      ap (λ e. e ∷ []) (edge-made b k (AS leaf) (end_of m) (n - i) i q false t construction core)
      ∙ ap₂ (λ y z. edge_of (segment_at b k) (AS y) z (n - i) i q ∷ []) last here
      ∙ ap₂ (λ m r. edge_of (segment_at b k) (AS (leaf_as (segment_at b k))) (link_of (segment_at b k) i p) (m - i) i r ∷ []) count next
      ∙ sym (ap (λ y. when y (edge_of (segment_at b k) (AS (leaf_as (segment_at b k))) (link_of (segment_at b k) i p) (entry_count (segment_at b k) - i) i (p + 1))) stands)
    where
      construction : false ≡ in_construction (segment_at b k) (end_of m)
      construction = unfold in_construction same_vertex in refl

      next : q ≡ p + 1
      next = omega arith

      stands : eqb (peer_linked (segment_at b k) (link_of (segment_at b k) i p) i) (p + 1) ≡ true
      stands = eq-eqb _ _ (ap (λ u. peer_linked (segment_at b k) u i) (sym here) ∙ sym found ∙ next)

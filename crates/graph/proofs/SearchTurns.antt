-- What the search finds in one segment, by what the code is told of it.
-- Assumes nothing.
use Prim.Native.Nat.{ℕ, ◌+◌, ◌-◌, ◌≤◌, ◌<◌}
use native.Mathlib.Omega.{arith}
use mathlib.Core.Path.{◌≡◌, refl, sym, ap, ap₂, ◌∙◌, subst}
use mathlib.Core.Logic.{◌⊎◌, inl, inr}
use mathlib.Core.Bool.{Bool, true, false, ◌&&◌, ◌||◌, not}
use mathlib.Core.List.{List, [], ◌∷◌, ◌++◌, map, flat_map, append-nil, append_assoc}
use lib.Dec.{ltb, eqb}
use borrow.Author.Tests.{ltb-true, ltb-false, lt-ltb, le-ltb, eqb-true, eqb-false, eq-eqb, ne_eqb}
use Rattle.spec.specs.declared.IsdAsn.{IsdAsn}
use Rattle.spec.specs.declared.Vertex.{Vertex}
use Rattle.spec.specs.declared.Vertex.TheVariants.{AS, Peering}
use Rattle.spec.specs.declared.Edge.{Edge}
use Rattle.std.specs.Prelude.{if◌then◌else◌, None, Option, Some}
use Rattle.spec.specs.Basics.{range}
use Rattle.spec.specs.Book.{same_as, Segment, segments, segment_at, segment_count, cores}
use Rattle.spec.specs.Edges.{same_vertex, as_of, leaf_as, edge_of, is_first}
use Rattle.graph.specs.declared.search.Before.{Before}
use Rattle.graph.specs.declared.search.Before.TheVariants.{Link, One, Two}
use Rattle.graph.specs.Lookup.{between, leaving_of, found_edges}
use Rattle.graph.specs.Leaving.{entry_count, peer_count_of, as_up, peer_up, ups_at, leaving_in, has_as, core_edge_from}
use Rattle.graph.specs.FirstOfEquals.{first_at}
use Rattle.graph.specs.Prepared.{begins, arrives}
use Rattle.graph.specs.Search.{IsAs, ends_at_as, over_firsts, pair, triple, pairs_in, triples_in, across_with, chains_with, last_in, chains_from, chains_in, found_chains}
use Rattle.spec.proofs.Lists.{flat_map-append}
use Rattle.spec.proofs.Membership.{and-true, not-both}
use Rattle.graph.proofs.LookupLaws.{core-leaving}
use Rattle.graph.proofs.EdgeReads.{other-leaf, none-leaves, empty-leaving}
use Rattle.graph.proofs.SearchLists.{range-turn}
use Rattle.graph.proofs.SearchLaws.{over-split, over_none, from-arrived, from-onward}

-- ---- the kind of a position

pub core_at : (b : List ℕ) (k : ℕ) → k < cores b → (segment_at b k).core ≡ true
unfolding segment_at
core_at b k h = lt-ltb k (cores b) h

pub other_at : (b : List ℕ) (k : ℕ) → cores b ≤ k → (segment_at b k).core ≡ false
unfolding segment_at
other_at b k h = le-ltb k (cores b) h

-- ---- where chains may begin and arrive

module _ (b : List ℕ) (k : ℕ) where
  abbrev first_here : Bool
  first_here = is_first (segments b) (segment_at b k)

  begins-by : (src : IsdAsn) (t u : Bool) → first_here ≡ t → (segment_at b k).core ≡ u → (t && (u || has_as (segment_at b k) src)) ≡ begins b src k
  unfolding begins
  begins-by src t u p q = sym (ap₂ (λ x y. x && (y || has_as (segment_at b k) src)) p q)

  arrives-by : (dst : IsdAsn) (t u : Bool) → first_here ≡ t → (segment_at b k).core ≡ u → (t && (not u && has_as (segment_at b k) dst)) ≡ arrives b dst k
  unfolding arrives
  arrives-by dst t u p q = sym (ap₂ (λ x y. x && (not y && has_as (segment_at b k) dst)) p q)

  -- by what tells the first of equals, and by what the entries have
  module _ (src dst : IsdAsn) {x : Bool} (first : x ≡ first_at b k) where
    told : {t : Bool} → x ≡ t → first_here ≡ t
    unfolding first_at
    told q = sym first ∙ q

    pub ends-later : x ≡ false → (false ≡ begins b src k) × (false ≡ arrives b dst k)
    ends-later z = (begins-by src false _ (told z) refl, arrives-by dst false _ (told z) refl)

    pub ends-core : x ≡ true → k < cores b → (true ≡ begins b src k) × (false ≡ arrives b dst k)
    ends-core d h = (begins-by src true true (told d) (core_at b k h), arrives-by dst true true (told d) (core_at b k h))

    pub ends-other : {u v : Bool} → x ≡ true → cores b ≤ k → u ≡ has_as (segment_at b k) src → v ≡ has_as (segment_at b k) dst
        → (u ≡ begins b src k) × (v ≡ arrives b dst k)
    ends-other d h p q =
        (p ∙ begins-by src true false (told d) (other_at b k h), q ∙ arrives-by dst true false (told d) (other_at b k h))

  -- as the loops use them
  module _ (src : IsdAsn) {x : Bool} (start : x ≡ begins b src k) where
    pub start_first : x ≡ true → first_here ≡ true
    unfolding begins
    start_first h = (and-true first_here ((segment_at b k).core || has_as (segment_at b k) src) (sym start ∙ h)).0

    no_start : x ≡ false → (u : Bool) → (segment_at b k).core ≡ u → first_here ≡ true → (u || has_as (segment_at b k) src) ≡ false
    no_start h u c t = begins-by src true u t c ∙ sym start ∙ h

    pub start-core : {A : Type 0} → k < cores b → x ≡ false → first_here ≡ true → A
    start-core h l t = not-both refl (no_start l true (core_at b k h) t)

  pub arrives-first : (dst : IsdAsn) → arrives b dst k ≡ true → first_here ≡ true
  unfolding arrives
  arrives-first dst q = go first_here q
    where
      go : (t : Bool) → (t && (not (segment_at b k).core && has_as (segment_at b k) dst)) ≡ true → t ≡ true
      go true q = refl
      go false q = q

  pub arrives-none : (dst : IsdAsn) → cores b ≤ k → arrives b dst k ≡ false → first_here ≡ true → has_as (segment_at b k) dst ≡ false
  arrives-none dst h q t = arrives-by dst true false t (other_at b k h) ∙ q

-- ---- what is found

found-edge : (r : Option Edge) (l : List Edge) (g : Edge) → found_edges r ≡ l → r ≡ Some g → l ≡ g ∷ []
unfolding found_edges
found-edge r l g e q = sym e ∙ ap found_edges q

found_nothing : (r : Option Edge) (l : List Edge) → found_edges r ≡ l → r ≡ None → l ≡ []
unfolding found_edges
found_nothing r l e q = sym e ∙ ap found_edges q

-- ---- a core segment's edges

first_ends : List Edge → Bool
first_ends [] = true
first_ends (f ∷ _) = ends_at_as f

core-leaves : (seg : Segment) → seg.core ≡ true → (v : Vertex) → (leaving_of v seg ≡ core_edge_from seg v) ⊎ (leaving_of v seg ≡ [])
core-leaves seg core v = go (eqb (entry_count seg) 0) refl
  where
    go : (t : Bool) → eqb (entry_count seg) 0 ≡ t → (leaving_of v seg ≡ core_edge_from seg v) ⊎ (leaving_of v seg ≡ [])
    go true q = inr (sym (empty-leaving seg {n = entry_count seg} refl (eqb-true _ _ q) v))
    go false q = inl (core-leaving seg core (eqb-false _ _ q) v)

from-ends : (seg : Segment) (v : Vertex) → first_ends (core_edge_from seg v) ≡ true
unfolding core_edge_from edge_of ends_at_as IsAs first_ends
from-ends seg v = go (same_vertex (AS (as_of seg 0)) v) (same_vertex (AS (leaf_as seg)) v)
  where
    go : (x y : Bool)
        → first_ends
        (if x then edge_of seg (AS (as_of seg 0)) (AS (leaf_as seg)) (entry_count seg - 1) 0 0 ∷ []
        else if y then edge_of seg (AS (leaf_as seg)) (AS (as_of seg 0)) (entry_count seg - 1) 0 0 ∷ [] else [])
        ≡ true
    go true y = refl
    go false true = refl
    go false false = refl

-- they end at an AS
pub core-ends : (b : List ℕ) (k : ℕ) (v : Vertex) (r : Option Edge) (f : Edge) → k < cores b → found_edges r ≡ leaving_of v (segment_at b k) → r ≡ Some f
    → ends_at_as f ≡ true
unfolding first_ends
core-ends b k v r f h p q = go (core-leaves (segment_at b k) (core_at b k h) v)
  where
    at : leaving_of v (segment_at b k) ≡ f ∷ []
    at = found-edge r (leaving_of v (segment_at b k)) f p q

    go : (leaving_of v (segment_at b k) ≡ core_edge_from (segment_at b k) v) ⊎ (leaving_of v (segment_at b k) ≡ []) → ends_at_as f ≡ true
    go (inl l) = sym (ap first_ends at) ∙ ap first_ends l ∙ from-ends (segment_at b k) v
    go (inr l) = sym (ap first_ends at) ∙ ap first_ends l

-- such an end is no peering end
pub no-link-end : {A : Type 0} (f : Edge) {l p : IsdAsn} {i o : ℕ} → ends_at_as f ≡ true → f.dst ≡ Peering l i p o → A
unfolding ends_at_as IsAs
no-link-end f q at = not-both q (ap IsAs at)

-- none leaves a peering end
link-leaves : (seg : Segment) → seg.core ≡ true → {v : Vertex} {l p : IsdAsn} {i o : ℕ} → v ≡ Peering l i p o → leaving_of v seg ≡ []
unfolding core_edge_from same_vertex
link-leaves seg core {v} at = go (core-leaves seg core v)
  where
    go : (leaving_of v seg ≡ core_edge_from seg v) ⊎ (leaving_of v seg ≡ []) → leaving_of v seg ≡ []
    go (inl q) = q ∙ ap (core_edge_from seg) at
    go (inr q) = q

module _ (b : List ℕ) (dst : IsdAsn) (e : Edge) (k : ℕ) where
  triples-other : (f : Edge) → cores b ≤ k → triples_in b dst e f (segment_at b k) ≡ map (triple b dst e f) (between (segment_at b k) f.dst (AS dst))
  unfolding triples_in
  triples-other f h = ap (λ t. if t then [] else map (triple b dst e f) (between (segment_at b k) f.dst (AS dst))) (other_at b k h)

  triple-found : (f : Edge) {g : Edge} → cores b ≤ k → (g ∷ []) ≡ between (segment_at b k) f.dst (AS dst)
      → triples_in b dst e f (segment_at b k) ≡ (e ∷ f ∷ g ∷ []) ∷ []
  unfolding triple
  triple-found f h q = triples-other f h ∙ sym (ap (map (triple b dst e f)) q)

  triple-empty : (f : Edge) → cores b ≤ k → [] ≡ between (segment_at b k) f.dst (AS dst) → triples_in b dst e f (segment_at b k) ≡ []
  triple-empty f h q = triples-other f h ∙ sym (ap (map (triple b dst e f)) q)

  pairs-other : cores b ≤ k → chains_with b dst e (segment_at b k) ≡ map (pair b dst e) (between (segment_at b k) e.dst (AS dst))
  unfolding chains_with pairs_in
  pairs-other h =
      ap (λ t. if t then (if e.core then [] else flat_map (across_with b dst e) (leaving_of e.dst (segment_at b k)))
      else map (pair b dst e) (between (segment_at b k) e.dst (AS dst))) (other_at b k h)

  pair_found : {f : Edge} → cores b ≤ k → (f ∷ []) ≡ between (segment_at b k) e.dst (AS dst) → chains_with b dst e (segment_at b k) ≡ (e ∷ f ∷ []) ∷ []
  unfolding pair
  pair_found h q = pairs-other h ∙ sym (ap (map (pair b dst e)) q)

  pair-empty : cores b ≤ k → [] ≡ between (segment_at b k) e.dst (AS dst) → chains_with b dst e (segment_at b k) ≡ []
  pair-empty h q = pairs-other h ∙ sym (ap (map (pair b dst e)) q)

  across-core : k < cores b → e.core ≡ false → chains_with b dst e (segment_at b k) ≡ flat_map (across_with b dst e) (leaving_of e.dst (segment_at b k))
  unfolding chains_with
  across-core h q =
      ap (λ t. if t then (if e.core then [] else flat_map (across_with b dst e) (leaving_of e.dst (segment_at b k))) else pairs_in b dst e (segment_at b k))
      (core_at b k h)
      ∙ ap (λ t. if t then [] else flat_map (across_with b dst e) (leaving_of e.dst (segment_at b k))) q

  pub across-found : (r : Option Edge) (f : Edge) → k < cores b → e.core ≡ false → found_edges r ≡ leaving_of e.dst (segment_at b k) → r ≡ Some f
      → chains_with b dst e (segment_at b k) ≡ across_with b dst e f
  unfolding flat_map
  across-found r f h c p q =
      across-core h c ∙ ap (flat_map (across_with b dst e)) (found-edge r _ f p q) ∙ append-nil (across_with b dst e f)

  pub across-nothing : (r : Option Edge) → k < cores b → e.core ≡ false → found_edges r ≡ leaving_of e.dst (segment_at b k) → r ≡ None
      → chains_with b dst e (segment_at b k) ≡ []
  unfolding flat_map
  across-nothing r h c p q = across-core h c ∙ ap (flat_map (across_with b dst e)) (found_nothing r _ p q)

-- ---- a last edge, by what stands before it

-- where it is told not to be a link it is the other
abbrev AtLink : Before → Type 0
AtLink Link = Unit
AtLink One = ⊥
AtLink Two = ⊥

pub not-link : {A : Type 0} {x y : Before} → (AtLink y → ⊥) → x ≡ y → (x ≡ Link) ⊎ A → A
not-link n p (inl q) = absurd (n (subst AtLink (sym q ∙ p) tt))
not-link n p (inr h) = h

-- the chain that a last edge ends
abbrev ended : Before → Edge → Edge → Edge → List Edge
ended Link e f g = f ∷ g ∷ []
ended One e f g = f ∷ g ∷ []
ended Two e f g = e ∷ f ∷ g ∷ []

module _ (b : List ℕ) (dst : IsdAsn) (x : Before) (e f : Edge) (k : ℕ) (h : cores b ≤ k) where
  pub last-edge-found : {g : Edge} (y : Before) → x ≡ y → (g ∷ []) ≡ between (segment_at b k) f.dst (AS dst)
      → last_in b dst x e f (segment_at b k) ≡ ended y e f g ∷ []
  unfolding last_in
  last-edge-found {g} y p q = ap (λ z. last_in b dst z e f (segment_at b k)) p ∙ go y
    where
      go : (y : Before) → last_in b dst y e f (segment_at b k) ≡ ended y e f g ∷ []
      go Link = pair_found b dst f k h q
      go One = pair_found b dst f k h q
      go Two = triple-found b dst e k f h q

  pub last-edge-missing : [] ≡ between (segment_at b k) f.dst (AS dst) → last_in b dst x e f (segment_at b k) ≡ []
  unfolding last_in
  last-edge-missing q = go x
    where
      go : (y : Before) → last_in b dst y e f (segment_at b k) ≡ []
      go Link = pair-empty b dst f k h q
      go One = pair-empty b dst f k h q
      go Two = triple-empty b dst e k f h q

-- ---- core and non-core positions apart

module _ {A : Type 0} (f : Segment → List A) (b : List ℕ) (c n : ℕ) (q : n ≡ segment_count b) (within : c ≤ n) where
  over-cores : over_firsts f b 0 (segment_count b) ≡ over_firsts f b 0 c ++ over_firsts f b c (n - c)
  over-cores =
      let e : segment_count b ≡ c + (n - c) = omega arith in
      let z : 0 + c ≡ c = omega arith in
      ap (over_firsts f b 0) e ∙ over-split f b 0 c (n - c) ∙ ap (λ k. over_firsts f b 0 c ++ over_firsts f b k (n - c)) z

  -- where the core positions give nothing
  skip-cores : ((k : ℕ) → k < c → f (segment_at b k) ≡ []) → over_firsts f b 0 (segment_count b) ≡ over_firsts f b c (n - c)
  skip-cores h = over-cores ∙ ap (λ l. l ++ over_firsts f b c (n - c)) (over_none f b 0 c (λ j p r. h j (omega arith)))

pub over-start : {A : Type 0} (f : Segment → List A) (b : List ℕ) (n : ℕ) → over_firsts f b 0 n ≡ over_firsts f b 0 (n - 0)
over-start f b n =
    let e : n ≡ n - 0 = omega arith in
    ap (over_firsts f b 0) e

module _ (b : List ℕ) (dst : IsdAsn) (e : Edge) (t : Bool) where
  -- ---- a second edge, by whether it arrives

  pub across-arrived : (f : Edge) → t ≡ same_vertex f.dst (AS dst) → t ≡ true → across_with b dst e f ≡ (e ∷ f ∷ []) ∷ []
  unfolding across_with pair
  across-arrived f p q = ap (λ s. if s then (e ∷ f ∷ []) ∷ [] else over_firsts (triples_in b dst e f) b 0 (segment_count b)) (sym p ∙ q)

  pub across-onward : (f : Edge) (c n : ℕ) → c ≡ cores b → n ≡ segment_count b → c ≤ n → t ≡ same_vertex f.dst (AS dst) → t ≡ false
      → across_with b dst e f ≡ over_firsts (last_in b dst Two e f) b c (n - c)
  unfolding across_with triples_in last_in
  across-onward f c n ec en h p q =
      ap (λ s. if s then pair b dst e f ∷ [] else over_firsts (triples_in b dst e f) b 0 (segment_count b)) (sym p ∙ q)
      ∙ skip-cores (triples_in b dst e f) b c n en h
      (λ k l. ap (λ s. if s then [] else map (triple b dst e f) (between (segment_at b k) f.dst (AS dst))) (core_at b k (omega arith)))

  -- ---- a first edge

  pub chains-arrived : t ≡ same_vertex e.dst (AS dst) → t ≡ true → chains_from b dst e ≡ (e ∷ []) ∷ []
  chains-arrived p q = from-arrived b dst e (sym p ∙ q)

  module _ (c n : ℕ) (ec : c ≡ cores b) (en : n ≡ segment_count b) (h : c ≤ n) (p : t ≡ same_vertex e.dst (AS dst)) (q : t ≡ false) where
    -- after a core edge no core edge
    pub chains-core : e.core ≡ true → chains_from b dst e ≡ over_firsts (last_in b dst One e e) b c (n - c)
    unfolding chains_with last_in
    chains-core k =
        from-onward b dst e (sym p ∙ q)
        ∙ skip-cores (chains_with b dst e) b c n en h
        (λ j l.
        ap₂ (λ s u. if s then (if u then [] else flat_map (across_with b dst e) (leaving_of e.dst (segment_at b j))) else pairs_in b dst e (segment_at b j))
        (core_at b j (omega arith)) k)

    -- after a link no core edge
    pub chains-link : {l p : IsdAsn} {i o : ℕ} → e.dst ≡ Peering l i p o → chains_from b dst e ≡ over_firsts (last_in b dst Link e e) b c (n - c)
    unfolding chains_with flat_map last_in
    chains-link at =
        from-onward b dst e (sym p ∙ q)
        ∙ skip-cores (chains_with b dst e) b c n en h
        (λ j l.
        ap₂ (λ s g. if s then (if e.core then [] else flat_map (across_with b dst e) g) else pairs_in b dst e (segment_at b j))
        (core_at b j (omega arith)) (link-leaves (segment_at b j) (core_at b j (omega arith)) at)
        ∙ either e.core)
      where
        either : (u : Bool) → (if u then [] else flat_map (across_with b dst e) []) ≡ []
        either true = refl
        either false = refl

    pub chains-other : chains_from b dst e ≡ over_firsts (chains_with b dst e) b 0 c ++ over_firsts (last_in b dst One e e) b c (n - c)
    unfolding last_in
    chains-other = from-onward b dst e (sym p ∙ q) ∙ over-cores (chains_with b dst e) b c n en h

-- ---- the edges of one segment that leave the source

module _ (f : Edge → List (List Edge)) where
  pub of-edge : (r : Option Edge) (e : Edge) → r ≡ Some e → flat_map f (found_edges r) ≡ f e
  unfolding flat_map found_edges
  of-edge r e q = ap (λ s. flat_map f (found_edges s)) q ∙ append-nil (f e)

  pub of-nothing : (r : Option Edge) → r ≡ None → flat_map f (found_edges r) ≡ []
  unfolding flat_map found_edges
  of-nothing r q = ap (λ s. flat_map f (found_edges s)) q

  module _ (g : ℕ → List Edge) where
    pub each_start : (n m : ℕ) → m ≡ n → flat_map f (flat_map g (range 0 n)) ≡ flat_map f (flat_map g (range 0 (m - 0)))
    each_start n m q =
        let e : n ≡ m - 0 = omega arith in
        ap (λ k. flat_map f (flat_map g (range 0 k))) e

    each_turn : (i n : ℕ) → i < n → flat_map f (flat_map g (range i (n - i))) ≡ flat_map f (g i) ++ flat_map f (flat_map g (range (i + 1) (n - (i + 1))))
    unfolding flat_map
    each_turn i n h =
        ap (λ l. flat_map f (flat_map g l)) (range-turn i n h) ∙ flat_map-append f (g i) (flat_map g (range (i + 1) (n - (i + 1))))

    pub each-found : (i n : ℕ) (r : Option Edge) → i < n → found_edges r ≡ g i
        → flat_map f (flat_map g (range i (n - i))) ≡ flat_map f (found_edges r) ++ flat_map f (flat_map g (range (i + 1) (n - (i + 1))))
    each-found i n r h q = each_turn i n h ∙ ap (λ l. flat_map f l ++ flat_map f (flat_map g (range (i + 1) (n - (i + 1))))) (sym q)

    pub each-end : (i n : ℕ) → n ≤ i → flat_map f (flat_map g (range i (n - i))) ≡ []
    unfolding flat_map range
    each-end i n h =
        let e : n - i ≡ 0 = omega arith in
        ap (λ k. flat_map f (flat_map g (range i k))) e

  -- an entry's edges: to its AS, and to its peering ends
  pub ups-turn : (seg : Segment) (i n : ℕ) (r : Option Edge) → i < n → found_edges r ≡ as_up seg i
      → flat_map f (flat_map (ups_at seg) (range i (n - i)))
      ≡ flat_map f (found_edges r) ++ (flat_map f (flat_map (peer_up seg i) (range 0 (peer_count_of seg i))) ++ flat_map f (flat_map (ups_at seg) (range (i + 1) (n - (i + 1)))))
  unfolding ups_at
  ups-turn seg i n r h q =
      let peers : List Edge = flat_map (peer_up seg i) (range 0 (peer_count_of seg i)) in
      let rest : List (List Edge) = flat_map f (flat_map (ups_at seg) (range (i + 1) (n - (i + 1)))) in
      each_turn (ups_at seg) i n h
      ∙ ap (λ l. l ++ rest) (flat_map-append f (as_up seg i) peers ∙ ap (λ l. flat_map f l ++ flat_map f peers) (sym q))
      ∙ append_assoc (flat_map f (found_edges r)) (flat_map f peers) rest

-- the chains that begin with an edge of a segment, by what the segment is

module _ (b : List ℕ) (dst src : IsdAsn) (k : ℕ) where
  -- what leaves the source, by the tests in order
  leaving-by : (s t u : Bool) → eqb (entry_count (segment_at b k)) 0 ≡ s → (segment_at b k).core ≡ t → same_as (leaf_as (segment_at b k)) src ≡ u
      → leaving_in (segment_at b k) src
      ≡ (if s then [] else if t then leaving_of (AS src) (segment_at b k) else if u then flat_map (ups_at (segment_at b k)) (range 0 (entry_count (segment_at b k)))
      else between (segment_at b k) (AS src) (AS (leaf_as (segment_at b k))))
  unfolding leaving_in
  leaving-by s t u p q r = cc

  pub in-empty : (n : ℕ) → n ≡ entry_count (segment_at b k) → n ≡ 0 → chains_in b dst src (segment_at b k) ≡ []
  unfolding chains_in flat_map
  in-empty n p q = ap (flat_map (chains_from b dst)) (leaving-by true _ _ (eq-eqb _ 0 (sym p ∙ q)) refl refl)

  module _ (n : ℕ) (p : n ≡ entry_count (segment_at b k)) (some : n ≡ 0 → ⊥) where
    filled : eqb (entry_count (segment_at b k)) 0 ≡ false
    filled = ne_eqb _ 0 (λ q. some (p ∙ q))

    pub in-core : (r : Option Edge) → k < cores b → found_edges r ≡ leaving_of (AS src) (segment_at b k) → chains_in b dst src (segment_at b k) ≡ flat_map (chains_from b dst) (found_edges r)
    unfolding chains_in
    in-core r h q = ap (flat_map (chains_from b dst)) (leaving-by false true _ filled (core_at b k h) refl ∙ sym q)

    module _ (h : cores b ≤ k) (leaf : IsdAsn) (e : leaf ≡ leaf_as (segment_at b k)) (u : Bool) (w : u ≡ same_as leaf src) where
      tested : same_as (leaf_as (segment_at b k)) src ≡ u
      tested = ap (λ a. same_as a src) (sym e) ∙ sym w

      pub in_leaf : (m : ℕ) → m ≡ n → u ≡ true → chains_in b dst src (segment_at b k) ≡ flat_map (chains_from b dst) (flat_map (ups_at (segment_at b k)) (range 0 m))
      unfolding chains_in
      in_leaf m i q =
          ap (flat_map (chains_from b dst))
          (leaving-by false false true filled (other_at b k h) (tested ∙ q) ∙ ap (λ j. flat_map (ups_at (segment_at b k)) (range 0 j)) (sym (i ∙ p)))

      pub in-other : (r : Option Edge) → u ≡ false → found_edges r ≡ between (segment_at b k) (AS src) (AS leaf)
          → chains_in b dst src (segment_at b k) ≡ flat_map (chains_from b dst) (found_edges r)
      unfolding chains_in
      in-other r q i =
          ap (flat_map (chains_from b dst))
          (leaving-by false false false filled (other_at b k h) (tested ∙ q) ∙ ap (λ a. between (segment_at b k) (AS src) (AS a)) (sym e) ∙ sym i)

  -- no entry has the source's AS
  other_none : cores b ≤ k → has_as (segment_at b k) src ≡ false → chains_in b dst src (segment_at b k) ≡ []
  other_none h q = go (eqb (entry_count (segment_at b k)) 0) refl
    where
      go : (t : Bool) → eqb (entry_count (segment_at b k)) 0 ≡ t → chains_in b dst src (segment_at b k) ≡ []
      go true e = in-empty _ refl (eqb-true _ 0 e)
      go false e =
          let some = eqb-false _ 0 e in
          in-other _ refl some h _ refl false (sym (other-leaf (segment_at b k) (other_at b k h) src q (omega arith))) None refl
          (unfold found_edges in sym (none-leaves (segment_at b k) (other_at b k h) src q))
          ∙ of-nothing (chains_from b dst) None refl

  pub start_none : {x : Bool} → x ≡ begins b src k → x ≡ false → first_here b k ≡ true → chains_in b dst src (segment_at b k) ≡ []
  start_none s l t = go (ltb k (cores b)) refl
    where
      go : (u : Bool) → ltb k (cores b) ≡ u → chains_in b dst src (segment_at b k) ≡ []
      go true e = start-core b k src s (ltb-true _ _ e) l t
      go false e =
          let h : cores b ≤ k = ltb-false _ _ e in
          other_none h (no_start b k src s l false (other_at b k h) t)

-- ---- all

module _ (b : List ℕ) (dst src : IsdAsn) (t : Bool) (p : t ≡ same_as src dst) where
  pub found_none : t ≡ true → found_chains b dst src ≡ []
  unfolding found_chains
  found_none q = ap (λ s. if s then [] else over_firsts (chains_in b dst src) b 0 (segment_count b)) (sym p ∙ q)

  pub found_all : (n : ℕ) → t ≡ false → n ≡ segment_count b → found_chains b dst src ≡ over_firsts (chains_in b dst src) b 0 n
  unfolding found_chains
  found_all n q e = ap (λ s. if s then [] else over_firsts (chains_in b dst src) b 0 (segment_count b)) (sym p ∙ q) ∙ ap (over_firsts (chains_in b dst src) b 0) (sym e)

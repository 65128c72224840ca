-- What a segment stores between two vertices is the last insertion with these ends; and which that is.
-- Assumes nothing.
use Rattle.std.proofs.lemmas.Bool.{and_from}
use Prim.Native.Nat.{ℕ, zero, suc, ◌+◌, ◌-◌, ◌≤◌, ◌<◌}
use native.Mathlib.Numerals.{add-one}
use native.Mathlib.Decide.{ℕ_discrete}
use native.Mathlib.Omega.{arith}
use mathlib.Core.Path.{◌≡◌, refl, sym, ap, ap₂, ◌∙◌, subst}
use mathlib.Core.Logic.{⊎_elim}
use mathlib.Core.Bool.{Bool, true, false, ◌&&◌, ◌||◌}
use mathlib.Core.List.Memᴰ.{cases_cons, not-nil}
use mathlib.Core.List.{List, [], ◌∷◌, ◌++◌, flat_map, reverse, Memᴰ as Mem}
use lib.ListN.{length}
use lib.Dec.{ltb}
use borrow.Author.Tests.{ltb-true, le-ltb, ne_eqb, eq-eqb}
use Rattle.spec.specs.declared.IsdAsn.{IsdAsn}
use Rattle.spec.specs.declared.Vertex.{Vertex}
use Rattle.spec.specs.declared.Vertex.TheVariants.{AS, Peering}
use Rattle.spec.specs.declared.Edge.{Edge}
use Rattle.std.specs.Prelude.{if◌then◌else◌}
use Rattle.spec.specs.Basics.{any, filter, range}
use Rattle.spec.specs.Book.{same_as, Segment}
use Rattle.spec.specs.Edges.{same_vertex, as_of, leaf_as, peer_of, edge_of, add_core_segment, as_insertions, peer_insertions, entry_insertions, insertions, same_ends, lasting, stored_of}
use Rattle.spec.specs.Chains.{leaves}
use Rattle.spec.specs.Loopless.{Apart}
use Rattle.spec.proofs.Membership.{and-true, not-both, filter-mem, mem-filter}
use Rattle.spec.proofs.Lists.{reverse-range}
use Rattle.spec.proofs.Vertices.{same_as-eq, same_as-refl, same_vertex-eq, eq-same_vertex}
use Rattle.graph.specs.declared.vertices.Link.{Link}
use Rattle.graph.specs.Link.{end_of}
use Rattle.graph.specs.Lookup.{has_ends, between, leaving_of}
use Rattle.graph.specs.Leaving.{entry_count, peer_count_of, link_of, is_entry_of, is_link, joins, entry_with, peer_linked, as_edge_at, peer_edge_at, down_peer_edge, core_edge, core_edge_from}
use Rattle.graph.specs.Scan.{first_with}
use Rattle.graph.proofs.LookupScan.{when, or_else, or_else-nil, or_else-first, last_by, last-append, last-two, last_one, last_none, last_some, last-entries, last-peers, first-only, first_alone, last-le, last-passes}

-- ---- tests

abbrev IsAs : Vertex → Type 0
IsAs (AS a) = Unit
IsAs (Peering l i p j) = ⊥

pub as-not-peering : {a l p : IsdAsn} {i j : ℕ} → AS a ≡ Peering l i p j → ⊥
as-not-peering q = subst IsAs q tt

pub as-eq : {a c : IsdAsn} → AS a ≡ AS c → a ≡ c
as-eq q = cc

pub eq-same_as : (a c : IsdAsn) → a ≡ c → same_as a c ≡ true
eq-same_as a c q = subst (λ x. same_as a x ≡ true) q (same_as-refl a)

same_vertex-sym : (v w : Vertex) → same_vertex v w ≡ same_vertex w v
same_vertex-sym v w = go (same_vertex v w) refl (same_vertex w v) refl
  where
    go : (x : Bool) → same_vertex v w ≡ x → (y : Bool) → same_vertex w v ≡ y → x ≡ y
    go true p true q = refl
    go true p false q = not-both (eq-same_vertex w v (sym (same_vertex-eq v w p))) q
    go false p true q = not-both (eq-same_vertex v w (sym (same_vertex-eq w v q))) p
    go false p false q = refl

any_same : {A : Type 0} (p q : A → Bool) → ((x : A) → p x ≡ q x) → (xs : List A) → any p xs ≡ any q xs
unfolding any
any_same p q h [] = refl
any_same p q h (x ∷ xs) = ap₂ ◌||◌ (h x) (any_same p q h xs)

or-true : (s t : Bool) → t ≡ true → (s || t) ≡ true
or-true true t h = refl
or-true false t h = h

-- ---- no edge passes

module _ (t : Edge → Bool) where
  none-append : (xs ys : List Edge) → any t xs ≡ false → any t ys ≡ false → any t (xs ++ ys) ≡ false
  unfolding any
  none-append [] ys p q = q
  none-append (x ∷ xs) ys p q = go (t x) p (λ r. none-append xs ys r q)
    where
      go : (y : Bool) → (y || any t xs) ≡ false → (any t xs ≡ false → any t (xs ++ ys) ≡ false) → (y || any t (xs ++ ys)) ≡ false
      go true p ih = not-both refl p
      go false p ih = ih p

  none-flat : (f : ℕ → List Edge) → ((i : ℕ) → any t (f i) ≡ false) → (xs : List ℕ) → any t (flat_map f xs) ≡ false
  unfolding flat_map
  none-flat f h [] = unfold any in refl
  none-flat f h (x ∷ xs) = none-append (f x) (flat_map f xs) (h x) (none-flat f h xs)

  none-two : (e f : Edge) → (t e ≡ true → ⊥) → (t f ≡ true → ⊥) → any t (e ∷ f ∷ []) ≡ false
  unfolding any
  none-two e f p q = go (t e) (t f) p q
    where
      go : (x y : Bool) → (x ≡ true → ⊥) → (y ≡ true → ⊥) → (x || (y || false)) ≡ false
      go true y p q = absurd (p refl)
      go false true p q = absurd (q refl)
      go false false p q = refl

  -- of two edges that pass only where a test holds, and are then the same
  pick_two : (e f g : Edge) (x : Bool) → (t e ≡ true → (e ≡ g) × (x ≡ true)) → (t f ≡ true → (f ≡ g) × (x ≡ true)) → (x ≡ true → (t e || t f) ≡ true)
      → last_by t (e ∷ f ∷ []) ≡ when x g
  unfolding or_else
  pick_two e f g x p q r = last-two t e f ∙ go (t e) (t f) x p q r
    where
      go : (y z x : Bool) → (y ≡ true → (e ≡ g) × (x ≡ true)) → (z ≡ true → (f ≡ g) × (x ≡ true)) → (x ≡ true → (y || z) ≡ true)
          → or_else (when z f) (when y e) ≡ when x g
      go y true true p q r = ap (λ h. h ∷ []) (q refl).0
      go y true false p q r = not-both (q refl).1 refl
      go true false true p q r = ap (λ h. h ∷ []) (p refl).0
      go true false false p q r = not-both (p refl).1 refl
      go false false true p q r = not-both (r refl) refl
      go false false false p q r = refl

-- ---- the last insertion stands

module _ (v w : Vertex) where
  ends-eq : (e : Edge) → has_ends v w e ≡ true → (e.src ≡ v) × (e.dst ≡ w)
  unfolding has_ends
  ends-eq e h =
      let q = and-true (same_vertex e.src v) (same_vertex e.dst w) h in
      (same_vertex-eq _ _ q.0, same_vertex-eq _ _ q.1)

  pub eq-ends : (e : Edge) → e.src ≡ v → e.dst ≡ w → has_ends v w e ≡ true
  unfolding has_ends
  eq-ends e p q = and_from _ _ (eq-same_vertex _ _ p) (eq-same_vertex _ _ q)

  ends_same : (e : Edge) → has_ends v w e ≡ true → (f : Edge) → same_ends e f ≡ has_ends v w f
  unfolding has_ends same_ends
  ends_same e h f =
      let q = ends-eq e h in
      ap₂ ◌&&◌ (same_vertex-sym e.src f.src ∙ ap (same_vertex f.src) q.0) (same_vertex-sym e.dst f.dst ∙ ap (same_vertex f.dst) q.1)

  lasting-last : (es : List Edge) → filter (has_ends v w) (lasting es) ≡ last_by (has_ends v w) es
  unfolding filter lasting last_by
  lasting-last [] = refl
  lasting-last (e ∷ later) = go (has_ends v w e) refl (any (same_ends e) later) refl (lasting-last later)
    where
      t : Edge → Bool
      t = has_ends v w

      go : (x : Bool) → has_ends v w e ≡ x → (y : Bool) → any (same_ends e) later ≡ y → filter (has_ends v w) (lasting later) ≡ last_by (has_ends v w) later
          → filter (has_ends v w) (if y then lasting later else e ∷ lasting later) ≡ or_else (last_by (has_ends v w) later) (when x e)
      go true r true s ih = ih ∙ sym (last_some (has_ends v w) later (sym (any_same (same_ends e) (has_ends v w) (ends_same e r) later) ∙ s) (e ∷ []))
      go true r false s ih =
          let none : last_by (has_ends v w) later ≡ [] = last_none (has_ends v w) later (sym (any_same (same_ends e) (has_ends v w) (ends_same e r) later) ∙ s) in
          ap (λ (x : Bool). if x then e ∷ filter (has_ends v w) (lasting later) else filter (has_ends v w) (lasting later)) r
          ∙ ap (λ l. e ∷ l) (ih ∙ none)
          ∙ sym (ap (λ l. or_else l (e ∷ [])) none ∙ or_else-first (e ∷ []))
      go false r true s ih = ih ∙ sym (or_else-nil _)
      go false r false s ih =
          ap (λ (x : Bool). if x then e ∷ filter (has_ends v w) (lasting later) else filter (has_ends v w) (lasting later)) r ∙ ih ∙ sym (or_else-nil _)

  module _ (seg : Segment) where
    between-last : between seg v w ≡ last_by (has_ends v w) (insertions seg)
    unfolding between stored_of
    between-last = lasting-last (insertions seg)

between-one : (seg : Segment) (v w : Vertex) → length (between seg v w) ≤ 1
between-one seg v w = omega (arith, ap length (between-last v w seg), last_one (has_ends v w) (insertions seg))

-- a list of at most one edge, which is in it
pub one-is : (e : Edge) (l : List Edge) → length l ≤ 1 → Mem e l → l ≡ e ∷ []
one-is e [] h k = absurd (not-nil k)
one-is e (x ∷ []) h k = ⊎_elim (λ q. ap (λ y. y ∷ []) (sym q)) (λ n. absurd (not-nil n)) (cases_cons k)
one-is e (x ∷ y ∷ l) h k = absurd (omega arith)

-- an edge is stored just where it is what is between its ends
pub stored-between : (seg : Segment) (e : Edge) → Mem e (stored_of seg) → between seg e.src e.dst ≡ e ∷ []
stored-between seg e m = one-is e (between seg e.src e.dst) (between-one seg e.src e.dst) among
  where
    among : Mem e (between seg e.src e.dst)
    among = unfold between in mem-filter (has_ends e.src e.dst) (stored_of seg) m (eq-ends e.src e.dst e refl refl)

pub between-stored : (seg : Segment) (v w : Vertex) {e : Edge} → Mem e (between seg v w) → Mem e (stored_of seg) × (e.src ≡ v) × (e.dst ≡ w)
unfolding between
between-stored seg v w {e} m =
    let f = filter-mem (has_ends v w) (stored_of seg) m in
    let q = ends-eq v w e f.1 in
    (f.0, q.0, q.1)

-- ---- a segment's edges, entry by entry

module _ (seg : Segment) where
  abbrev pub leaf : Vertex
  leaf = AS (leaf_as seg)

  edge-between : (v w x y : Vertex) (a i q : ℕ) → has_ends v w (edge_of seg x y a i q) ≡ true → (x ≡ v) × (y ≡ w)
  unfolding edge_of
  edge-between v w x y a i q h = ends-eq v w (edge_of seg x y a i q) h

  -- an edge with these ends is the edge between them
  edge-ends : (v w x y : Vertex) (a i q : ℕ) → has_ends v w (edge_of seg x y a i q) ≡ true → edge_of seg x y a i q ≡ edge_of seg v w a i q
  edge-ends v w x y a i q h = let r = edge-between v w x y a i q h in ap₂ (λ s t. edge_of seg s t a i q) r.0 r.1

  between-edge : (v w x y : Vertex) (a i q : ℕ) → x ≡ v → y ≡ w → has_ends v w (edge_of seg x y a i q) ≡ true
  unfolding edge_of
  between-edge v w x y a i q r s = eq-ends v w (edge_of seg x y a i q) r s

  -- the AS edges of an entry
  abbrev up-edge : ℕ → Edge
  up-edge i = edge_of seg leaf (AS (as_of seg i)) (entry_count seg - 1 - i) i 0

  abbrev down-edge : ℕ → Edge
  down-edge i = edge_of seg (AS (as_of seg i)) leaf (entry_count seg - 1 - i) i 0

  pub as-other : (i : ℕ) → (i ≡ entry_count seg - 1 → ⊥) → as_insertions seg i ≡ up-edge i ∷ down-edge i ∷ []
  unfolding as_insertions entry_count
  as-other i h = ap (λ t. if t then [] else up-edge i ∷ down-edge i ∷ []) (ne_eqb i (length seg.entries - 1) h)

  pub as-leaf : (i : ℕ) → i ≡ entry_count seg - 1 → as_insertions seg i ≡ []
  unfolding as_insertions entry_count
  as-leaf i h = ap (λ t. if t then [] else up-edge i ∷ down-edge i ∷ []) (eq-eqb i (length seg.entries - 1) h)

  -- and those of a peer
  abbrev pub turned : ℕ → ℕ → Vertex
  turned i p = Peering (peer_of seg i p).peer (peer_of seg i p).interface (as_of seg i) (peer_of seg i p).hop.ingress

  abbrev up-peer : ℕ → ℕ → Edge
  up-peer i p = edge_of seg leaf (link_of seg i p) (entry_count seg - i) i (p + 1)

  abbrev down-peer : ℕ → ℕ → Edge
  down-peer i p = edge_of seg (turned i p) leaf (entry_count seg - 1 - i) i (p + 1)

  pub peer-two : (i p : ℕ) → peer_insertions seg i p ≡ up-peer i p ∷ down-peer i p ∷ []
  unfolding peer_insertions entry_count link_of
  peer-two i p = refl

  pub entry-parts : (i : ℕ) → entry_insertions seg i ≡ as_insertions seg i ++ flat_map (peer_insertions seg i) (range 0 (peer_count_of seg i))
  unfolding entry_insertions peer_count_of
  entry-parts i = refl

  up-not-as : (i p : ℕ) {a : IsdAsn} → link_of seg i p ≡ AS a → ⊥
  unfolding link_of
  up-not-as i p q = as-not-peering (sym q)

  -- a peer's edges against a link
  module _ (l : Link) (i p : ℕ) where
    abbrev end : Vertex
    end = end_of l

    -- from the other side
    abbrev other : Vertex
    other = Peering l.peer l.interface l.local l.ingress

    up-hit : last_by (has_ends leaf end) (peer_insertions seg i p) ≡ when (is_link seg end i p) (edge_of seg leaf end (entry_count seg - i) i (suc p))
    unfolding is_link
    up-hit =
        ap (last_by (has_ends leaf end)) (peer-two i p)
        ∙ pick_two (has_ends leaf end) (up-peer i p) (down-peer i p) (edge_of seg leaf end (entry_count seg - i) i (suc p)) (same_vertex (link_of seg i p) end)
        (λ q. (edge-ends leaf end _ _ _ _ _ q ∙ ap (edge_of seg leaf end (entry_count seg - i) i) (add-one p), eq-same_vertex _ _ (edge-between leaf end _ _ _ _ _ q).1))
        (λ q. absurd (as-not-peering (sym (edge-between leaf end _ _ _ _ _ q).0)))
        (λ q. ap (λ x. x || has_ends leaf end (down-peer i p)) (between-edge leaf end _ _ _ _ _ refl (same_vertex-eq _ _ q)))

    down-hit : last_by (has_ends other leaf) (peer_insertions seg i p) ≡ when (is_link seg end i p) (edge_of seg other leaf (entry_count seg - 1 - i) i (suc p))
    unfolding is_link
    down-hit =
        ap (last_by (has_ends other leaf)) (peer-two i p)
        ∙ pick_two (has_ends other leaf) (up-peer i p) (down-peer i p) (edge_of seg other leaf (entry_count seg - 1 - i) i (suc p)) (same_vertex (link_of seg i p) end)
        (λ q. absurd (as-not-peering (edge-between other leaf _ _ _ _ _ q).0))
        (λ q. (edge-ends other leaf _ _ _ _ _ q ∙ ap (edge_of seg other leaf (entry_count seg - 1 - i) i) (add-one p), eq-same_vertex _ _ (unturned (edge-between other leaf _ _ _ _ _ q).0)))
        (λ q. or-true (has_ends other leaf (up-peer i p)) (has_ends other leaf (down-peer i p)) (between-edge other leaf _ _ _ _ _ (turn (same_vertex-eq _ _ q)) refl))
      where
        unturned : turned i p ≡ other → link_of seg i p ≡ end
        unturned q = unfold link_of in cc

        turn : link_of seg i p ≡ end → turned i p ≡ other
        turn q = unfold link_of in cc

  -- ---- what a scan finds

  -- the peer found
  pub peer-is : (v : Vertex) (i p : ℕ) → peer_linked seg v i ≡ suc p → (p < peer_count_of seg i) × (link_of seg i p ≡ v)
  unfolding peer_linked is_link
  peer-is v i p h =
      (omega (arith, last-le (is_link seg v i) (peer_count_of seg i)), same_vertex-eq (link_of seg i p) v (last-passes (is_link seg v i) (peer_count_of seg i) p h))

  module _ (apart : Apart seg) where
    pub sole : (i j : ℕ) → i < entry_count seg → j < entry_count seg → as_of seg i ≡ as_of seg j → i ≡ j
    unfolding entry_count
    sole = apart

    -- the only entry of an AS
    pub entry-only : (a : IsdAsn) (i n : ℕ) → i < n → n ≤ entry_count seg → as_of seg i ≡ a → entry_with seg a n ≡ i
    unfolding entry_with is_entry_of
    entry-only a i n l m q = first-only (is_entry_of seg a) i n l (eq-same_as _ _ q) (λ j k h. sole j i (omega arith) (omega arith) (same_as-eq _ _ h ∙ sym q))

    -- an entry with a link is that of its AS
    linked-entry : (l : Link) (i : ℕ) → i < entry_count seg → ltb 0 (peer_linked seg (end_of l) i) ≡ true → entry_with seg l.local (entry_count seg) ≡ i
    linked-entry l i m h = go (peer_linked seg (end_of l) i) refl (ltb-true _ _ h)
      where
        local-is : (p : ℕ) → link_of seg i p ≡ end_of l → as_of seg i ≡ l.local
        local-is p q = unfold link_of in cc

        go : (q : ℕ) → peer_linked seg (end_of l) i ≡ q → 0 < peer_linked seg (end_of l) i → entry_with seg l.local (entry_count seg) ≡ i
        go zero e g = absurd (omega arith)
        go (suc p) e g = entry-only l.local i (entry_count seg) m (omega arith) (local-is p (peer-is (end_of l) i p e).1)

  module _ (t : Edge → Bool) where
    none-as : ((i : ℕ) → t (up-edge i) ≡ true → ⊥) → ((i : ℕ) → t (down-edge i) ≡ true → ⊥) → (i : ℕ) → any t (as_insertions seg i) ≡ false
    none-as p q i = go (ℕ_discrete i (entry_count seg - 1))
      where
        go : Dec (i ≡ entry_count seg - 1) → any t (as_insertions seg i) ≡ false
        go (yes h) = ap (any t) (as-leaf i h) ∙ unfold any in refl
        go (no h) = ap (any t) (as-other i h) ∙ none-two t (up-edge i) (down-edge i) (p i) (q i)

    none-peers : ((i p : ℕ) → t (up-peer i p) ≡ true → ⊥) → ((i p : ℕ) → t (down-peer i p) ≡ true → ⊥)
        → (i : ℕ) → any t (flat_map (peer_insertions seg i) (range 0 (peer_count_of seg i))) ≡ false
    none-peers p q i =
        none-flat t (peer_insertions seg i) (λ j. ap (any t) (peer-two i j) ∙ none-two t (up-peer i j) (down-peer i j) (p i j) (q i j)) (range 0 (peer_count_of seg i))

    -- at an entry, where no peer's edge passes, or no AS edge
    last_as : (i : ℕ) → any t (flat_map (peer_insertions seg i) (range 0 (peer_count_of seg i))) ≡ false
        → last_by t (entry_insertions seg i) ≡ last_by t (as_insertions seg i)
    last_as i h =
        let peers : List Edge = flat_map (peer_insertions seg i) (range 0 (peer_count_of seg i)) in
        ap (last_by t) (entry-parts i)
        ∙ last-append t (as_insertions seg i) peers
        ∙ ap (λ l. or_else l (last_by t (as_insertions seg i))) (last_none t peers h)
        ∙ or_else-first (last_by t (as_insertions seg i))

    last-peer : (i : ℕ) → any t (as_insertions seg i) ≡ false
        → last_by t (entry_insertions seg i) ≡ last_by t (flat_map (peer_insertions seg i) (range 0 (peer_count_of seg i)))
    last-peer i h =
        let peers : List Edge = flat_map (peer_insertions seg i) (range 0 (peer_count_of seg i)) in
        ap (last_by t) (entry-parts i)
        ∙ last-append t (as_insertions seg i) peers
        ∙ ap (or_else (last_by t peers)) (last_none t (as_insertions seg i) h)
        ∙ or_else-nil (last_by t peers)

    none-entries : ((i : ℕ) → any t (as_insertions seg i) ≡ false) → ((i : ℕ) → any t (flat_map (peer_insertions seg i) (range 0 (peer_count_of seg i))) ≡ false)
        → (xs : List ℕ) → any t (flat_map (entry_insertions seg) xs) ≡ false
    none-entries p q xs =
        none-flat t (entry_insertions seg)
        (λ i. ap (any t) (entry-parts i) ∙ none-append t (as_insertions seg i) (flat_map (peer_insertions seg i) (range 0 (peer_count_of seg i))) (p i) (q i)) xs

  -- ---- a non-core segment

  module _ (nc : seg.core ≡ false) where
    pub insertions-other : insertions seg ≡ flat_map (entry_insertions seg) (reverse (range 0 (entry_count seg)))
    unfolding insertions entry_count
    insertions-other =
        ap (λ x. if x then add_core_segment seg else flat_map (entry_insertions seg) (reverse (range 0 (length seg.entries)))) nc

    -- edges with ends that only the AS edges of the entries of one AS have
    module _ (v w : Vertex) (a : IsdAsn)
        (up : (i : ℕ) → has_ends v w (up-edge i) ≡ true → same_as (as_of seg i) a ≡ true)
        (down : (i : ℕ) → has_ends v w (down-edge i) ≡ true → same_as (as_of seg i) a ≡ true)
        (hit : (i : ℕ) → same_as (as_of seg i) a ≡ true → (has_ends v w (up-edge i) || has_ends v w (down-edge i)) ≡ true)
        (none : (i : ℕ) → any (has_ends v w) (flat_map (peer_insertions seg i) (range 0 (peer_count_of seg i))) ≡ false) where
      abbrev as-edge : ℕ → Edge
      as-edge i = edge_of seg v w (entry_count seg - 1 - i) i 0

      as-hit : (i : ℕ) → (i ≡ entry_count seg - 1 → ⊥) → last_by (has_ends v w) (entry_insertions seg i) ≡ when (is_entry_of seg a i) (as-edge i)
      unfolding is_entry_of
      as-hit i h =
          last_as (has_ends v w) i (none i)
          ∙ ap (last_by (has_ends v w)) (as-other i h)
          ∙ pick_two (has_ends v w) (up-edge i) (down-edge i) (as-edge i) (same_as (as_of seg i) a)
          (λ q. (edge-ends v w _ _ _ _ _ q, up i q))
          (λ q. (edge-ends v w _ _ _ _ _ q, down i q))
          (hit i)

      as-miss : (i : ℕ) → i ≡ entry_count seg - 1 → last_by (has_ends v w) (entry_insertions seg i) ≡ []
      as-miss i h = last_as (has_ends v w) i (none i) ∙ ap (last_by (has_ends v w)) (as-leaf i h) ∙ unfold last_by in refl

      as-found : (n : ℕ) → entry_count seg ≡ n
          → last_by (has_ends v w) (flat_map (entry_insertions seg) (reverse (range 0 n))) ≡ as_edge_at seg v w (entry_with seg a (entry_count seg - 1))
      unfolding as_edge_at entry_with
      as-found zero q =
          let r : ℕ = first_with (is_entry_of seg a) 0 (entry_count seg - 1) in
          empty ∙ sym (ap (λ x. when x (as-edge r)) (le-ltb r (entry_count seg - 1) (omega arith)))
        where
          empty : last_by (has_ends v w) (flat_map (entry_insertions seg) (reverse (range 0 0))) ≡ []
          empty = unfold range flat_map last_by in refl
      as-found (suc m) q =
          ap (λ l. last_by (has_ends v w) (flat_map (entry_insertions seg) l)) (reverse-range 0 m)
          ∙ first
          ∙ ap (λ l. or_else (last_by (has_ends v w) rest) l) (as-miss (0 + m) (omega arith))
          ∙ or_else-nil (last_by (has_ends v w) rest)
          ∙ last-entries (has_ends v w) (entry_insertions seg) (is_entry_of seg a) as-edge 0 m (λ j k l. as-hit j (λ r. omega arith))
          ∙ ap (λ k. when (ltb (first_with (is_entry_of seg a) 0 m) k) (as-edge (first_with (is_entry_of seg a) 0 m))) zero_more
          ∙ ap (λ k. when (ltb (first_with (is_entry_of seg a) 0 k) k) (as-edge (first_with (is_entry_of seg a) 0 k))) same
        where
          rest : List Edge
          rest = flat_map (entry_insertions seg) (reverse (range 0 m))

          zero_more : 0 + m ≡ m
          zero_more = omega arith

          same : m ≡ entry_count seg - 1
          same = omega arith

          first : last_by (has_ends v w) (flat_map (entry_insertions seg) ((0 + m) ∷ reverse (range 0 m)))
              ≡ or_else (last_by (has_ends v w) rest) (last_by (has_ends v w) (entry_insertions seg (0 + m)))
          first = unfold flat_map in last-append (has_ends v w) (entry_insertions seg (0 + m)) rest

      as-between : between seg v w ≡ as_edge_at seg v w (entry_with seg a (entry_count seg - 1))
      as-between = between-last v w seg ∙ ap (last_by (has_ends v w)) insertions-other ∙ as-found (entry_count seg) refl

    -- edges with ends that only one of the two edges of a peer has, where the peer has a link
    module _ (apart : Apart seg) (v w : Vertex) (l : Link) (weight : ℕ → ℕ)
        (hit : (i p : ℕ) → last_by (has_ends v w) (peer_insertions seg i p) ≡ when (is_link seg (end_of l) i p) (edge_of seg v w (weight i) i (suc p)))
        (none : (i : ℕ) → any (has_ends v w) (as_insertions seg i) ≡ false) where
      abbrev is_linked : ℕ → Bool
      is_linked i = ltb 0 (peer_linked seg (end_of l) i)

      abbrev peer-edge : ℕ → Edge
      peer-edge i = edge_of seg v w (weight i) i (peer_linked seg (end_of l) i)

      peer-hit : (i : ℕ) → last_by (has_ends v w) (entry_insertions seg i) ≡ when (is_linked i) (peer-edge i)
      unfolding peer_linked
      peer-hit i =
          last-peer (has_ends v w) i (none i)
          ∙ last-peers (has_ends v w) (peer_insertions seg i) (is_link seg (end_of l) i) (λ q. edge_of seg v w (weight i) i q) (peer_count_of seg i) (hit i)

      peer-found : (r : ℕ) → entry_with seg l.local (entry_count seg) ≡ r → between seg v w ≡ peer_edge_at seg v w (weight r) r (peer_linked seg (end_of l) r)
      unfolding peer_edge_at
      peer-found r q =
          between-last v w seg
          ∙ ap (last_by (has_ends v w)) insertions-other
          ∙ last-entries (has_ends v w) (entry_insertions seg) (λ i. is_linked i) (λ i. peer-edge i) 0 (entry_count seg) (λ j k m. peer-hit j)
          ∙ first_alone (λ i. is_linked i) r (entry_count seg) (λ i m h. sym (linked-entry apart l i m h) ∙ q) (λ i. peer-edge i)

    -- ---- what is stored from the leaf, and to it

    pub up-as : (a : IsdAsn) → between seg leaf (AS a) ≡ as_edge_at seg leaf (AS a) (entry_with seg a (entry_count seg - 1))
    up-as a =
        as-between leaf (AS a) a
        (λ i q. eq-same_as _ _ (as-eq (edge-between leaf (AS a) _ _ _ _ _ q).1))
        (λ i q. let r = edge-between leaf (AS a) _ _ _ _ _ q in eq-same_as _ _ (as-eq r.0 ∙ as-eq r.1))
        (λ i q. ap (λ x. x || has_ends leaf (AS a) (down-edge i)) (between-edge leaf (AS a) _ _ _ _ _ refl (ap AS (same_as-eq _ _ q))))
        (none-peers (has_ends leaf (AS a))
        (λ i p q. up-not-as i p (edge-between leaf (AS a) _ _ _ _ _ q).1)
        (λ i p q. as-not-peering (sym (edge-between leaf (AS a) _ _ _ _ _ q).0)))

    pub down-as : (a : IsdAsn) → between seg (AS a) leaf ≡ as_edge_at seg (AS a) leaf (entry_with seg a (entry_count seg - 1))
    down-as a =
        as-between (AS a) leaf a
        (λ i q. let r = edge-between (AS a) leaf _ _ _ _ _ q in eq-same_as _ _ (as-eq r.1 ∙ as-eq r.0))
        (λ i q. eq-same_as _ _ (as-eq (edge-between (AS a) leaf _ _ _ _ _ q).0))
        (λ i q. or-true (has_ends (AS a) leaf (up-edge i)) (has_ends (AS a) leaf (down-edge i)) (between-edge (AS a) leaf _ _ _ _ _ (ap AS (same_as-eq _ _ q)) refl))
        (none-peers (has_ends (AS a) leaf)
        (λ i p q. up-not-as i p (edge-between (AS a) leaf _ _ _ _ _ q).1)
        (λ i p q. as-not-peering (sym (edge-between (AS a) leaf _ _ _ _ _ q).0)))

    -- over a link, from its own side and from the other
    module _ (apart : Apart seg) (l : Link) where
      pub up-link : (r : ℕ) → entry_with seg l.local (entry_count seg) ≡ r
          → between seg leaf (end_of l) ≡ peer_edge_at seg leaf (end_of l) (entry_count seg - r) r (peer_linked seg (end_of l) r)
      up-link =
          peer-found apart leaf (end_of l) l (λ i. entry_count seg - i)
          (up-hit l)
          (none-as (has_ends leaf (end_of l))
          (λ i q. as-not-peering (edge-between leaf (end_of l) _ _ _ _ _ q).1)
          (λ i q. as-not-peering (edge-between leaf (end_of l) _ _ _ _ _ q).1))

      pub down-link : (v : Vertex) → v ≡ Peering l.peer l.interface l.local l.ingress → between seg v leaf ≡ down_peer_edge seg v leaf l
      unfolding down_peer_edge
      down-link v e = ap (λ x. between seg x leaf) e ∙ found ∙ ap (λ x. down_peer_edge seg x leaf l) (sym e)
        where
          far : Vertex
          far = Peering l.peer l.interface l.local l.ingress

          found : between seg far leaf ≡ down_peer_edge seg far leaf l
          found =
              peer-found apart far leaf l (λ i. entry_count seg - 1 - i)
              (down-hit l)
              (none-as (has_ends far leaf)
              (λ i q. as-not-peering (edge-between far leaf _ _ _ _ _ q).0)
              (λ i q. as-not-peering (edge-between far leaf _ _ _ _ _ q).0))
              _ refl

    -- at a peer's own link
    module _ (apart : Apart seg) (i p : ℕ) (within : i < entry_count seg) where
      abbrev own : Link
      own = record { local = as_of seg i; ingress = (peer_of seg i p).hop.ingress; peer = (peer_of seg i p).peer; interface = (peer_of seg i p).interface }

      here : entry_with seg (as_of seg i) (entry_count seg) ≡ i
      here = entry-only apart (as_of seg i) i (entry_count seg) within (omega arith) refl

      pub up-own : between seg leaf (link_of seg i p) ≡ peer_edge_at seg leaf (link_of seg i p) (entry_count seg - i) i (peer_linked seg (link_of seg i p) i)
      unfolding link_of
      up-own = up-link apart own i here

      pub down-own : between seg (turned i p) leaf ≡ peer_edge_at seg (turned i p) leaf (entry_count seg - 1 - i) i (peer_linked seg (link_of seg i p) i)
      unfolding link_of down_peer_edge
      down-own =
          down-link apart own (turned i p) refl ∙ ap (λ r. peer_edge_at seg (turned i p) leaf (entry_count seg - 1 - r) r (peer_linked seg (end_of own) r)) here

    -- nothing else is stored
    pub no-leaf : (v w : Vertex) → (leaf ≡ v → ⊥) → (leaf ≡ w → ⊥) → between seg v w ≡ []
    no-leaf v w p q =
        between-last v w seg
        ∙ ap (last_by (has_ends v w)) insertions-other
        ∙ last_none (has_ends v w) _
        (none-entries (has_ends v w)
        (none-as (has_ends v w) (λ i r. p (edge-between v w _ _ _ _ _ r).0) (λ i r. q (edge-between v w _ _ _ _ _ r).1))
        (none-peers (has_ends v w) (λ i j r. p (edge-between v w _ _ _ _ _ r).0) (λ i j r. q (edge-between v w _ _ _ _ _ r).1))
        (reverse (range 0 (entry_count seg))))

  -- ---- a core segment

  abbrev there : Edge
  there = edge_of seg (AS (as_of seg 0)) leaf (entry_count seg - 1) 0 0

  abbrev back : Edge
  back = edge_of seg leaf (AS (as_of seg 0)) (entry_count seg - 1) 0 0

  joins-ends : (a c : IsdAsn) → joins (as_of seg 0) (leaf_as seg) a c ≡ (has_ends (AS a) (AS c) there || has_ends (AS a) (AS c) back)
  unfolding joins has_ends edge_of same_vertex
  joins-ends a c = refl

  one-as : AS (as_of seg 0) ≡ leaf → there ≡ back
  one-as q = ap₂ (λ v w. edge_of seg v w (entry_count seg - 1) 0 0) q (sym q)

  both_ends : any (same_ends there) (back ∷ []) ≡ true → AS (as_of seg 0) ≡ leaf
  unfolding any same_ends edge_of
  both_ends q = go (same_vertex (AS (as_of seg 0)) leaf) refl q
    where
      go : (x : Bool) → same_vertex (AS (as_of seg 0)) leaf ≡ x → (x && same_vertex leaf (AS (as_of seg 0)) || false) ≡ true → AS (as_of seg 0) ≡ leaf
      go true r q = same_vertex-eq _ _ r
      go false r q = not-both q refl

  ends-both : AS (as_of seg 0) ≡ leaf → any (same_ends there) (back ∷ []) ≡ true
  unfolding any same_ends edge_of
  ends-both q = ap₂ (λ x y. x && y || false) (eq-same_vertex _ _ q) (eq-same_vertex _ _ (sym q))

  -- what is left of the two
  abbrev left : Bool → Bool → Bool → List Edge
  left x y z = if x then when z back else if y then there ∷ when z back else when z back

  module _ (core : seg.core ≡ true) (full : entry_count seg ≡ 0 → ⊥) where
    pub insertions-core : insertions seg ≡ there ∷ back ∷ []
    unfolding insertions add_core_segment entry_count
    insertions-core =
        ap (λ x. if x then add_core_segment seg else flat_map (entry_insertions seg) (reverse (range 0 (length seg.entries)))) core
        ∙ ap (λ x. if x then [] else there ∷ back ∷ []) (ne_eqb (length seg.entries) 0 full)

    core-last : (v w : Vertex) → between seg v w ≡ last_by (has_ends v w) (there ∷ back ∷ [])
    core-last v w = between-last v w seg ∙ ap (last_by (has_ends v w)) insertions-core

    pub core-as : (a c : IsdAsn) → between seg (AS a) (AS c) ≡ core_edge seg a c
    unfolding core_edge
    core-as a c =
        core-last (AS a) (AS c)
        ∙ pick_two (has_ends (AS a) (AS c)) there back (edge_of seg (AS a) (AS c) (entry_count seg - 1) 0 0) (joins (as_of seg 0) (leaf_as seg) a c)
        (λ q. (edge-ends (AS a) (AS c) _ _ _ _ _ q, joins-ends a c ∙ ap (λ x. x || has_ends (AS a) (AS c) back) q))
        (λ q. (edge-ends (AS a) (AS c) _ _ _ _ _ q, joins-ends a c ∙ or-true (has_ends (AS a) (AS c) there) (has_ends (AS a) (AS c) back) q))
        (λ q. sym (joins-ends a c) ∙ q)

    pub core-peering : (local peer : IsdAsn) (ingress interface : ℕ) (w : Vertex) → between seg (Peering local ingress peer interface) w ≡ []
    core-peering local peer ingress interface w =
        let v : Vertex = Peering local ingress peer interface in
        core-last v w
        ∙ last_none (has_ends v w) (there ∷ back ∷ [])
        (none-two (has_ends v w) there back
        (λ q. as-not-peering (edge-between v w _ _ _ _ _ q).0)
        (λ q. as-not-peering (edge-between v w _ _ _ _ _ q).0))

    pub core-leaving : (v : Vertex) → leaving_of v seg ≡ core_edge_from seg v
    unfolding leaving_of stored_of core_edge_from filter lasting leaves edge_of any
    core-leaving v =
        ap (λ l. filter (leaves v) (lasting l)) insertions-core
        ∙ kept (any (same_ends there) (back ∷ []))
        ∙ go (any (same_ends there) (back ∷ [])) (same_vertex (AS (as_of seg 0)) v) (same_vertex leaf v)
        (λ q. (one-as (both_ends q), ap (λ u. same_vertex u v) (both_ends q)))
        (λ q r. ends-both (same_vertex-eq _ _ q ∙ sym (same_vertex-eq _ _ r)))
      where
        kept : (x : Bool) → filter (leaves v) (if x then back ∷ [] else there ∷ back ∷ []) ≡ left x (same_vertex (AS (as_of seg 0)) v) (same_vertex leaf v)
        kept true = refl
        kept false = refl

        go : (x y z : Bool) → (x ≡ true → (there ≡ back) × (y ≡ z)) → (y ≡ true → z ≡ true → x ≡ true)
            → left x y z ≡ (if y then there ∷ [] else if z then back ∷ [] else [])
        go true true true p q = ap (λ e. e ∷ []) (sym (p refl).0)
        go true true false p q = not-both refl (p refl).1
        go true false true p q = not-both (p refl).1 refl
        go true false false p q = refl
        go false true true p q = not-both (q refl refl) refl
        go false true false p q = refl
        go false false z p q = refl

  -- ---- a segment with no entries

  pub core-none : seg.core ≡ true → entry_count seg ≡ 0 → insertions seg ≡ []
  unfolding insertions add_core_segment entry_count
  core-none core h =
      ap (λ x. if x then add_core_segment seg else flat_map (entry_insertions seg) (reverse (range 0 (length seg.entries)))) core
      ∙ ap (λ x. if x then [] else there ∷ back ∷ []) (eq-eqb (length seg.entries) 0 h)

  pub none-stored : entry_count seg ≡ 0 → stored_of seg ≡ []
  unfolding stored_of
  none-stored h = ap lasting (none seg.core refl) ∙ unfold lasting in refl
    where
      none : (x : Bool) → seg.core ≡ x → insertions seg ≡ []
      none true q = core-none q h
      none false q = insertions-other q ∙ ap (λ n. flat_map (entry_insertions seg) (reverse (range 0 n))) h ∙ unfold range flat_map in refl

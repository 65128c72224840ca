-- The edges of a segment that passes no AS twice.
-- Assumes nothing.
use Prim.Native.Nat.{ℕ, zero, suc, ◌+◌, ◌-◌, ◌≤◌, ◌<◌}
use native.Mathlib.Omega.{arith}
use mathlib.Core.Path.{◌≡◌, refl, sym, ap, ◌∙◌, subst}
use mathlib.Core.Logic.{◌⊎◌, inl, inr, ⊎_elim}
use mathlib.Core.Bool.{Bool, true, false}
use mathlib.Core.List.Memᴰ
use mathlib.Core.List.Memᴰ.{append_cases, cases_cons, head, not-nil, tail}
use mathlib.Core.List.{List, [], ◌∷◌, ◌++◌, flat_map, reverse, Memᴰ as Mem}
use lib.ListN.{length}
use lib.Dec.{eqb}
use borrow.Author.Tests.{eqb-false}
use Rattle.spec.specs.declared.IsdAsn.{IsdAsn}
use Rattle.spec.specs.declared.Vertex.{Vertex}
use Rattle.spec.specs.declared.Vertex.TheVariants.{AS, Peering}
use Rattle.spec.specs.declared.Edge.{Edge}
use Rattle.std.specs.Prelude.{Ok, if◌then◌else◌}
use Rattle.spec.specs.Basics.{range}
use Rattle.spec.specs.Book.{Segment, segment_count, segment_at, segments, verdict}
use Rattle.spec.specs.Edges.{same_vertex, entry_of, as_of, leaf_as, peer_of, edge_of, add_core_segment, as_insertions, peer_insertions, entry_insertions, insertions, same_ends, stored_of}
use Rattle.spec.specs.Loopless.{Apart, Loopless}
use Rattle.spec.proofs.Membership.{not-both, and-true, map-mem, flat_map-mem}
use Rattle.spec.proofs.Vertices.{same_vertex-eq}
use Rattle.spec.proofs.Lists.{reverse-range, flat-range-last}
use Rattle.spec.proofs.OnceLaws.{range-mem, reverse-mem, any-mem, lasting-mem, lasting-split}
use Rattle.spec.proofs.BookLaws.{accepted}
use Rattle.spec.proofs.LoopLaws.{apart}

-- ---- vertices

abbrev asn : Vertex → IsdAsn
asn (AS a) = a
asn (Peering l i p j) = l

-- the AS on the other side of a peering end
abbrev far : Vertex → IsdAsn
far (AS a) = a
far (Peering l i p j) = p

abbrev IsAs : Vertex → Type 0
IsAs (AS a) = Unit
IsAs (Peering l i p j) = ⊥

as-or-peering : {A : Type 0} {a l p : IsdAsn} {i j : ℕ} → AS a ≡ Peering l i p j → A
as-or-peering q = absurd (subst IsAs q tt)

same_ends_lem : (e f : Edge) → same_ends e f ≡ true → (e.src ≡ f.src) × (e.dst ≡ f.dst)
unfolding same_ends
same_ends_lem e f q =
    let w = and-true (same_vertex e.src f.src) (same_vertex e.dst f.dst) q in
    (same_vertex-eq _ _ w.0, same_vertex-eq _ _ w.1)

-- ---- what an insertion is

module _ (seg : Segment) where
  abbrev up_as : ℕ → Edge
  up_as i = edge_of seg (AS (leaf_as seg)) (AS (as_of seg i)) (length seg.entries - 1 - i) i 0

  abbrev down_as : ℕ → Edge
  down_as i = edge_of seg (AS (as_of seg i)) (AS (leaf_as seg)) (length seg.entries - 1 - i) i 0

  abbrev up_peer : ℕ → ℕ → Edge
  up_peer i p =
      edge_of seg (AS (leaf_as seg)) (Peering (as_of seg i) (peer_of seg i p).hop.ingress (peer_of seg i p).peer (peer_of seg i p).interface)
      (length seg.entries - i) i (p + 1)

  abbrev down_peer : ℕ → ℕ → Edge
  down_peer i p =
      edge_of seg (Peering (peer_of seg i p).peer (peer_of seg i p).interface (as_of seg i) (peer_of seg i p).hop.ingress) (AS (leaf_as seg))
      (length seg.entries - 1 - i) i (p + 1)

  abbrev IsAsEdge : ℕ → Edge → Type 0
  IsAsEdge i e = (i + 1 < length seg.entries) × ((e ≡ up_as i) ⊎ (e ≡ down_as i))

  abbrev IsPeerEdge : ℕ → Edge → Type 0
  IsPeerEdge i e = (p : ℕ) × ((e ≡ up_peer i p) ⊎ (e ≡ down_peer i p))

  module _ {e : Edge} where
    two : {x y : Edge} → Mem e (x ∷ y ∷ []) → (e ≡ x) ⊎ (e ≡ y)
    two m = ⊎_elim (λ q. inl q) (λ k. ⊎_elim (λ q. inr q) (λ l. absurd (not-nil l)) (cases_cons k)) (cases_cons m)

    as-insertion : (i : ℕ) → i < length seg.entries → Mem e (as_insertions seg i) → IsAsEdge i e
    unfolding as_insertions
    as-insertion i h m = go (eqb i (length seg.entries - 1)) refl m
      where
        go : (t : Bool) → eqb i (length seg.entries - 1) ≡ t → Mem e (if t then [] else up_as i ∷ down_as i ∷ []) → IsAsEdge i e
        go true q k = absurd (not-nil k)
        go false q k = let d = eqb-false i (length seg.entries - 1) q in (omega arith, two k)

    peer-insertion : (i p : ℕ) → Mem e (peer_insertions seg i p) → (e ≡ up_peer i p) ⊎ (e ≡ down_peer i p)
    unfolding peer_insertions
    peer-insertion i p m = two m

    entry-insertion : (i : ℕ) → i < length seg.entries → Mem e (entry_insertions seg i) → IsAsEdge i e ⊎ IsPeerEdge i e
    unfolding entry_insertions
    entry-insertion i h m =
        ⊎_elim (λ k. inl (as-insertion i h k))
        (λ k. let w = flat_map-mem (peer_insertions seg i) (range 0 (length (entry_of seg i).peers)) k in inr (w.0, peer-insertion i w.0 w.2))
        (append_cases (as_insertions seg i) m)

    -- of a non-core segment: between leaf and entry, or over a peer
    insertion : seg.core ≡ false → Mem e (insertions seg) → (i : ℕ) × (i < length seg.entries) × (IsAsEdge i e ⊎ IsPeerEdge i e)
    unfolding insertions
    insertion c m =
        let w = flat_map-mem (entry_insertions seg) (reverse (range 0 (length seg.entries))) (subst (λ t. Mem e (if t then add_core_segment seg else flat_map (entry_insertions seg) (reverse (range 0 (length seg.entries))))) c m) in
        let r = range-mem 0 (length seg.entries) (reverse-mem (range 0 (length seg.entries)) w.1) in
        (w.0, omega arith, entry-insertion w.0 (omega arith) w.2)

    -- of a core segment: from the first to the last, or back
    core-insertion : seg.core ≡ true → Mem e (insertions seg)
        → (0 < length seg.entries) × (((e.src ≡ AS (as_of seg 0)) × (e.dst ≡ AS (leaf_as seg))) ⊎ ((e.src ≡ AS (leaf_as seg)) × (e.dst ≡ AS (as_of seg 0)))) × (e.peer ≡ 0)
    unfolding insertions add_core_segment edge_of
    core-insertion c m = go (eqb (length seg.entries) 0) refl (subst (λ t. Mem e (if t then add_core_segment seg else flat_map (entry_insertions seg) (reverse (range 0 (length seg.entries))))) c m)
      where
        there : Edge
        there = edge_of seg (AS (as_of seg 0)) (AS (leaf_as seg)) (length seg.entries - 1) 0 0

        back : Edge
        back = edge_of seg (AS (leaf_as seg)) (AS (as_of seg 0)) (length seg.entries - 1) 0 0

        go : (t : Bool) → eqb (length seg.entries) 0 ≡ t → Mem e (if t then [] else there ∷ back ∷ [])
            → (0 < length seg.entries) × (((e.src ≡ AS (as_of seg 0)) × (e.dst ≡ AS (leaf_as seg))) ⊎ ((e.src ≡ AS (leaf_as seg)) × (e.dst ≡ AS (as_of seg 0)))) × (e.peer ≡ 0)
        go true q k = absurd (not-nil k)
        go false q k =
            let d = eqb-false (length seg.entries) 0 q in
            let w = two k in
            (omega arith, ⊎_elim (λ r. inl (ap (λ (x : Edge). x.src) r, ap (λ (x : Edge). x.dst) r)) (λ r. inr (ap (λ (x : Edge). x.src) r, ap (λ (x : Edge). x.dst) r)) w, ⊎_elim (λ r. ap (λ (x : Edge). x.peer) r) (λ r. ap (λ (x : Edge). x.peer) r) w)

  -- ---- where ASes are apart

  module _ (once : Apart seg) where
    leaf-only : (i : ℕ) → i < length seg.entries → leaf_as seg ≡ as_of seg i → i ≡ length seg.entries - 1
    unfolding leaf_as
    leaf-only i h q = once i (length seg.entries - 1) h (omega arith) (sym q)

    as-edges : (i j : ℕ) {e f : Edge} → IsAsEdge i e → IsAsEdge j f → same_ends e f ≡ true → e ≡ f
    unfolding edge_of
    as-edges i j {e} {f} (h, p) (l, q) s = go p q
      where
        src : e.src ≡ f.src
        src = (same_ends_lem e f s).0

        dst : e.dst ≡ f.dst
        dst = (same_ends_lem e f s).1

        go : (e ≡ up_as i) ⊎ (e ≡ down_as i) → (f ≡ up_as j) ⊎ (f ≡ down_as j) → e ≡ f
        go (inl p) (inl q) =
            let same : as_of seg i ≡ as_of seg j = ap asn (sym (ap (λ (x : Edge). x.dst) p) ∙ dst ∙ ap (λ (x : Edge). x.dst) q) in
            p ∙ ap up_as (once i j (omega arith) (omega arith) same) ∙ sym q
        go (inl p) (inr q) =
            let same : leaf_as seg ≡ as_of seg j = ap asn (sym (ap (λ (x : Edge). x.src) p) ∙ src ∙ ap (λ (x : Edge). x.src) q) in
            let z = leaf-only j (omega arith) same in
            absurd (omega arith)
        go (inr p) (inl q) =
            let same : leaf_as seg ≡ as_of seg j = ap asn (sym (ap (λ (x : Edge). x.dst) p) ∙ dst ∙ ap (λ (x : Edge). x.dst) q) in
            let z = leaf-only j (omega arith) same in
            absurd (omega arith)
        go (inr p) (inr q) =
            let same : as_of seg i ≡ as_of seg j = ap asn (sym (ap (λ (x : Edge). x.src) p) ∙ src ∙ ap (λ (x : Edge). x.src) q) in
            p ∙ ap down_as (once i j (omega arith) (omega arith) same) ∙ sym q

    pub edges-apart : seg.core ≡ false → {e f : Edge} → Mem e (insertions seg) → Mem f (insertions seg) → e.peer ≡ 0 → f.peer ≡ 0 → same_ends e f ≡ true → e ≡ f
    unfolding edge_of
    edges-apart c {e} {f} m k x y s = go (insertion c m).0 (insertion c k).0 (insertion c m).2 (insertion c k).2
      where
        not-peer : {A : Type 0} (i : ℕ) (g : Edge) → IsPeerEdge i g → g.peer ≡ 0 → A
        not-peer i g (p, inl q) z = let w : p + 1 ≡ 0 = sym (ap (λ (x : Edge). x.peer) q) ∙ z in absurd (omega arith)
        not-peer i g (p, inr q) z = let w : p + 1 ≡ 0 = sym (ap (λ (x : Edge). x.peer) q) ∙ z in absurd (omega arith)

        go : (i j : ℕ) → IsAsEdge i e ⊎ IsPeerEdge i e → IsAsEdge j f ⊎ IsPeerEdge j f → e ≡ f
        go i j (inl p) (inl q) = as-edges i j p q s
        go i j (inl p) (inr q) = not-peer j f q y
        go i j (inr p) q = not-peer i e p x

    pub self-edge : {e : Edge} → Mem e (insertions seg) → same_vertex e.src e.dst ≡ true → (seg.core ≡ true) × (length seg.entries ≡ 1)
    unfolding edge_of leaf_as
    self-edge {e} m s = go seg.core refl
      where
        loop : e.src ≡ e.dst
        loop = same_vertex-eq _ _ s

        not-as : (i : ℕ) → IsAsEdge i e → ⊥
        not-as i (h, inl p) =
            let z = leaf-only i (omega arith) (ap asn (sym (ap (λ (x : Edge). x.src) p) ∙ loop ∙ ap (λ (x : Edge). x.dst) p)) in
            omega arith
        not-as i (h, inr p) =
            let z = leaf-only i (omega arith) (ap asn (sym (ap (λ (x : Edge). x.dst) p) ∙ sym loop ∙ ap (λ (x : Edge). x.src) p)) in
            omega arith

        not-peer : (i : ℕ) → IsPeerEdge i e → ⊥
        not-peer i (p, inl q) = as-or-peering (sym (ap (λ (x : Edge). x.src) q) ∙ loop ∙ ap (λ (x : Edge). x.dst) q)
        not-peer i (p, inr q) = as-or-peering (sym (ap (λ (x : Edge). x.dst) q) ∙ sym loop ∙ ap (λ (x : Edge). x.src) q)

        first-last : 0 < length seg.entries → as_of seg 0 ≡ as_of seg (length seg.entries - 1) → length seg.entries ≡ 1
        first-last h q = let z = once 0 (length seg.entries - 1) h (omega arith) q in omega arith

        go : (t : Bool) → seg.core ≡ t → (seg.core ≡ true) × (length seg.entries ≡ 1)
        go true c =
            let w = core-insertion c m in
            (c, ⊎_elim (λ r. first-last w.0 (ap asn (sym r.0 ∙ loop ∙ r.1))) (λ r. first-last w.0 (ap asn (sym r.1 ∙ sym loop ∙ r.0))) w.1)
        go false c = absurd (⊎_elim (not-as (insertion c m).0) (not-peer (insertion c m).0) (insertion c m).2)

-- ---- the order of the insertions

-- of one entry, the peers from 0 up
abbrev Before : Edge → Edge → Type 0
Before e f = e.shortcut ≡ f.shortcut → e.peer ≤ f.peer

Ordered : List Edge → Type 0
Ordered [] = Unit
Ordered (e ∷ es) = ((f : Edge) → Mem f es → Before e f) × Ordered es

ordered-append : (xs ys : List Edge) → Ordered xs → Ordered ys → ((e f : Edge) → Mem e xs → Mem f ys → Before e f) → Ordered (xs ++ ys)
unfolding Ordered
ordered-append [] ys o p h = p
ordered-append (x ∷ xs) ys o p h =
    (λ f m. ⊎_elim (λ k. o.0 f k) (λ k. h x f (head refl) k) (append_cases xs m), ordered-append xs ys o.1 p (λ e f k l. h e f (tail k) l))

ordered-two : (e f : Edge) → e.peer ≡ f.peer → Ordered (e ∷ f ∷ [])
unfolding Ordered
ordered-two e f q = (λ g m s. ⊎_elim (λ r. subst (λ (x : Edge). e.peer ≤ x.peer) (sym r) (omega arith)) (λ k. absurd (not-nil k)) (cases_cons m), (λ g m. absurd (not-nil m), tt))

ordered-between : (xs : List Edge) (e : Edge) {f : Edge} (ys : List Edge) → Ordered (xs ++ e ∷ ys) → Mem f xs → Before f e
unfolding Ordered
ordered-between [] e ys o m = absurd (not-nil m)
ordered-between (x ∷ xs) e ys o m =
    ⊎_elim (λ q. subst (λ y. Before y e) (sym q) (o.0 e (Memᴰ.append_right xs (head refl)))) (λ k. ordered-between xs e ys o.1 k) (cases_cons m)

module _ (seg : Segment) where
  peer-number : (i p : ℕ) {e : Edge} → Mem e (peer_insertions seg i p) → e.peer ≡ p + 1
  unfolding edge_of
  peer-number i p m = ⊎_elim (λ q. ap (λ (x : Edge). x.peer) q) (λ q. ap (λ (x : Edge). x.peer) q) (peer-insertion seg i p m)

  peer-ordered : (i p : ℕ) → Ordered (peer_insertions seg i p)
  unfolding peer_insertions edge_of
  peer-ordered i p = ordered-two _ _ refl

  peers-ordered : (i k : ℕ) → Ordered (flat_map (peer_insertions seg i) (range 0 k))
  unfolding Ordered range flat_map
  peers-ordered i zero = tt
  peers-ordered i (suc k) =
      let e : k + 1 ≡ suc k = omega arith in
      subst (λ n. Ordered (flat_map (peer_insertions seg i) (range 0 n))) e
      (subst Ordered (sym (flat-range-last (peer_insertions seg i) k))
      (ordered-append (flat_map (peer_insertions seg i) (range 0 k)) (peer_insertions seg i k) (peers-ordered i k) (peer-ordered i k) across))
    where
      across : (e f : Edge) → Mem e (flat_map (peer_insertions seg i) (range 0 k)) → Mem f (peer_insertions seg i k) → Before e f
      across e f l m s =
          let w = flat_map-mem (peer_insertions seg i) (range 0 k) l in
          let r = range-mem 0 k w.1 in
          let x = peer-number i w.0 w.2 in
          let y = peer-number i k m in
          omega arith

  as_number : (i : ℕ) {e : Edge} → i < length seg.entries → Mem e (as_insertions seg i) → e.peer ≡ 0
  unfolding edge_of
  as_number i h m = ⊎_elim (λ q. ap (λ (x : Edge). x.peer) q) (λ q. ap (λ (x : Edge). x.peer) q) (as-insertion seg i h m).1

  as-ordered : (i : ℕ) → Ordered (as_insertions seg i)
  unfolding as_insertions
  as-ordered i = go (eqb i (length seg.entries - 1))
    where
      go : (t : Bool) → Ordered (if t then [] else up_as seg i ∷ down_as seg i ∷ [])
      go true = unfold Ordered in tt
      go false = unfold edge_of in (ordered-two (up_as seg i) (down_as seg i) refl)

  entry-ordered : (i : ℕ) → i < length seg.entries → Ordered (entry_insertions seg i)
  unfolding entry_insertions
  entry-ordered i h =
      ordered-append (as_insertions seg i) _ (as-ordered i) (peers-ordered i (length (entry_of seg i).peers))
      (λ e f l m s. let x = as_number i h l in omega arith)

  entry-number : (i : ℕ) {e : Edge} → i < length seg.entries → Mem e (entry_insertions seg i) → e.shortcut ≡ i
  unfolding edge_of
  entry-number i h m =
      ⊎_elim (λ w. ⊎_elim (λ q. ap (λ (x : Edge). x.shortcut) q) (λ q. ap (λ (x : Edge). x.shortcut) q) w.1)
      (λ w. ⊎_elim (λ q. ap (λ (x : Edge). x.shortcut) q) (λ q. ap (λ (x : Edge). x.shortcut) q) w.1)
      (entry-insertion seg i h m)

  all-ordered : (k : ℕ) → k ≤ length seg.entries → Ordered (flat_map (entry_insertions seg) (reverse (range 0 k)))
  unfolding Ordered range flat_map
  all-ordered zero h = tt
  all-ordered (suc k) h =
      subst (λ is. Ordered (flat_map (entry_insertions seg) is)) (sym (reverse-range 0 k))
      (ordered-append (entry_insertions seg (0 + k)) (flat_map (entry_insertions seg) (reverse (range 0 k))) (entry-ordered (0 + k) (omega arith)) (all-ordered k (omega arith)) across)
    where
      across : (e f : Edge) → Mem e (entry_insertions seg (0 + k)) → Mem f (flat_map (entry_insertions seg) (reverse (range 0 k))) → Before e f
      across e f l m s =
          let w = flat_map-mem (entry_insertions seg) (reverse (range 0 k)) m in
          let r = range-mem 0 k (reverse-mem (range 0 k) w.1) in
          let x = entry-number (0 + k) (omega arith) l in
          let y = entry-number w.0 (omega arith) w.2 in
          absurd (omega arith)

  -- what stands is the last with its ends
  last-stands : {e f : Edge} → seg.core ≡ false → Mem e (stored_of seg) → Mem f (insertions seg) → same_ends e f ≡ true → e.shortcut ≡ f.shortcut → f.peer ≤ e.peer
  unfolding stored_of
  last-stands {e} {f} c m k s h =
      let w = lasting-split (insertions seg) m in
      ⊎_elim (λ l. ordered-between w.0 e w.1 (subst Ordered w.2 ordered) l (sym h))
      (λ l. ⊎_elim (λ q. subst (λ (x : Edge). x.peer ≤ e.peer) (sym q) (omega arith)) (λ r. not-both (any-mem (same_ends e) w.1 r s) w.3) (cases_cons l))
      (append_cases w.0 (subst (Mem f) w.2 k))
    where
      ordered : Ordered (insertions seg)
      ordered = unfold insertions in (subst (λ t. Ordered (if t then add_core_segment seg else flat_map (entry_insertions seg) (reverse (range 0 (length seg.entries))))) (sym c) (all-ordered (length seg.entries) (omega arith)))

  -- ---- peers where ASes are apart

  module _ (once : Apart seg) where
    link-entry : (i j : ℕ) {e f : Edge} → i < length seg.entries → j < length seg.entries → IsPeerEdge seg i e → IsPeerEdge seg j f → same_ends e f ≡ true → i ≡ j
    unfolding edge_of
    link-entry i j {e} {f} h l (p, v) (q, w) s = go v w
      where
        src : e.src ≡ f.src
        src = (same_ends_lem e f s).0

        dst : e.dst ≡ f.dst
        dst = (same_ends_lem e f s).1

        go : (e ≡ up_peer seg i p) ⊎ (e ≡ down_peer seg i p) → (f ≡ up_peer seg j q) ⊎ (f ≡ down_peer seg j q) → i ≡ j
        go (inl x) (inl y) = once i j h l (ap asn (sym (ap (λ (z : Edge). z.dst) x) ∙ dst ∙ ap (λ (z : Edge). z.dst) y))
        go (inl x) (inr y) = as-or-peering (sym (ap (λ (z : Edge). z.src) x) ∙ src ∙ ap (λ (z : Edge). z.src) y)
        go (inr x) (inl y) = as-or-peering (sym (ap (λ (z : Edge). z.dst) x) ∙ dst ∙ ap (λ (z : Edge). z.dst) y)
        go (inr x) (inr y) = once i j h l (ap far (sym (ap (λ (z : Edge). z.src) x) ∙ src ∙ ap (λ (z : Edge). z.src) y))

    not-as-edge : (i j : ℕ) {e f : Edge} → IsAsEdge seg i e → IsPeerEdge seg j f → same_ends e f ≡ true → ⊥
    unfolding edge_of
    not-as-edge i j {e} {f} (h, v) (q, w) s = go v w
      where
        src : e.src ≡ f.src
        src = (same_ends_lem e f s).0

        dst : e.dst ≡ f.dst
        dst = (same_ends_lem e f s).1

        go : (e ≡ up_as seg i) ⊎ (e ≡ down_as seg i) → (f ≡ up_peer seg j q) ⊎ (f ≡ down_peer seg j q) → ⊥
        go (inl x) (inl y) = as-or-peering (sym (ap (λ (z : Edge). z.dst) x) ∙ dst ∙ ap (λ (z : Edge). z.dst) y)
        go (inl x) (inr y) = as-or-peering (sym (ap (λ (z : Edge). z.src) x) ∙ src ∙ ap (λ (z : Edge). z.src) y)
        go (inr x) (inl y) = as-or-peering (sym (ap (λ (z : Edge). z.dst) x) ∙ dst ∙ ap (λ (z : Edge). z.dst) y)
        go (inr x) (inr y) = as-or-peering (sym (ap (λ (z : Edge). z.src) x) ∙ src ∙ ap (λ (z : Edge). z.src) y)

    peer-stands : {e f : Edge} → Mem e (stored_of seg) → Mem f (insertions seg) → 0 < f.peer → same_ends e f ≡ true → (e.shortcut ≡ f.shortcut) × (f.peer ≤ e.peer)
    unfolding edge_of
    peer-stands {e} {f} m k h s = go seg.core refl
      where
        inside : Mem e (insertions seg)
        inside = unfold stored_of in (lasting-mem (insertions seg) m)

        from : (i : ℕ) (g : Edge) → IsPeerEdge seg i g → g.shortcut ≡ i
        from i g w = ⊎_elim (λ q. ap (λ (x : Edge). x.shortcut) q) (λ q. ap (λ (x : Edge). x.shortcut) q) w.1

        peers : seg.core ≡ false → (i j : ℕ) → i < length seg.entries → j < length seg.entries → IsAsEdge seg i e ⊎ IsPeerEdge seg i e → IsAsEdge seg j f ⊎ IsPeerEdge seg j f
            → (e.shortcut ≡ f.shortcut) × (f.peer ≤ e.peer)
        peers c i j x y v (inl (l, inl q)) = let z : f.peer ≡ 0 = ap (λ (x : Edge). x.peer) q in absurd (omega arith)
        peers c i j x y v (inl (l, inr q)) = let z : f.peer ≡ 0 = ap (λ (x : Edge). x.peer) q in absurd (omega arith)
        peers c i j x y (inl v) (inr w) = absurd (not-as-edge i j v w s)
        peers c i j x y (inr v) (inr w) =
            let t : e.shortcut ≡ f.shortcut = from i e v ∙ link-entry i j x y v w s ∙ sym (from j f w) in
            (t, last-stands c m k s t)

        go : (t : Bool) → seg.core ≡ t → (e.shortcut ≡ f.shortcut) × (f.peer ≤ e.peer)
        go true c = let z = (core-insertion seg c k).2 in absurd (omega arith)
        go false c = let v = insertion seg c inside in let w = insertion seg c k in peers c v.0 w.0 v.1 w.1 v.2 w.2

-- ---- in an accepted book

pub loopless : (b : List ℕ) → verdict b ≡ Ok tt → {seg : Segment} → Mem seg (segments b) → Loopless seg
unfolding segments
loopless b ok {seg} m =
    let w = map-mem (segment_at b) (range 0 (segment_count b)) m in
    let r = range-mem 0 (segment_count b) w.1 in
    let once : Apart seg = subst Apart (sym w.2) (apart b (accepted b ok) w.0 (omega arith)) in
    record { apart = once; edges = edges-apart seg once; self = self-edge seg once; peers = peer-stands seg once }

-- The stored edges that leave an AS are those that the code walks over, each once.
-- Assumes nothing.
use Rattle.std.proofs.lemmas.Bool.{and_from}
use Prim.Native.Nat.{ℕ, zero, suc, ◌+◌, ◌-◌, ◌<◌}
use native.Mathlib.Numerals.{add-one}
use native.Mathlib.Omega.{arith}
use mathlib.Core.Path.{◌≡◌, refl, sym, ap, ap₂, ◌∙◌, subst}
use mathlib.Core.Logic.{⊎_elim}
use mathlib.Core.Bool.{Bool, true, false, ◌&&◌}
use mathlib.Core.List.Memᴰ
use mathlib.Core.List.Memᴰ.{append_cases, cases_cons, head, not-nil}
use mathlib.Core.List.{[], ◌∷◌, flat_map, Memᴰ as Mem}
use lib.Dec.{ltb, eqb}
use borrow.Author.Tests.{eqb-true, eq-eqb, ltb-true, lt-ltb}
use Rattle.spec.specs.declared.IsdAsn.{IsdAsn}
use Rattle.spec.specs.declared.Vertex.{Vertex}
use Rattle.spec.specs.declared.Vertex.TheVariants.{AS, Peering}
use Rattle.spec.specs.declared.Edge.{Edge}
use Rattle.std.specs.Prelude.{if◌then◌else◌}
use Rattle.spec.specs.Basics.{range, Once}
use Rattle.spec.specs.Book.{same_as, Segment}
use Rattle.spec.specs.Edges.{same_vertex, as_of, leaf_as, edge_of, insertions, stored_of}
use Rattle.spec.specs.Loopless.{Apart}
use Rattle.spec.specs.Chains.{leaves}
use Rattle.spec.proofs.Membership.{and-true, not-both, filter-mem, mem-filter, flat_map-mem, mem-flat_map, once-append, once-filter, once-flat_map}
use Rattle.spec.proofs.Vertices.{same_as-eq, same_vertex-eq, eq-same_vertex}
use Rattle.spec.proofs.OnceLaws.{range-mem, once-range, once-lasting}
use Rattle.spec.proofs.BookLaws.{mem-range}
use Rattle.graph.specs.declared.vertices.Link.{Link}
use Rattle.graph.specs.Link.{end_of}
use Rattle.graph.specs.Lookup.{has_ends, between, leaving_of}
use Rattle.graph.specs.Leaving.{entry_count, peer_count_of, link_of, is_entry_of, entry_with, peer_linked, as_edge_at, peer_edge_at, peer_stands, as_up, peer_up, ups_at, leaving_in}
use Rattle.graph.proofs.LookupScan.{when, first_passes}
use Rattle.graph.proofs.LookupLaws.{as-eq, eq-same_as, eq-ends, between-stored, stored-between, peer-is, entry-only, up-as, up-link, up-own, no-leaf, none-stored}

-- ---- a list of at most one

when-mem : (t : Bool) (f : Edge) {e : Edge} → Mem e (when t f) → (t ≡ true) × (e ≡ f)
when-mem true f m = (refl, ⊎_elim (λ q. q) (λ l. absurd (not-nil l)) (cases_cons m))
when-mem false f m = absurd (not-nil m)

mem-when : (t : Bool) (f : Edge) {e : Edge} → t ≡ true → e ≡ f → Mem e (when t f)
mem-when true f p q = head q
mem-when false f p q = not-both p refl

once-when : (t : Bool) (f : Edge) → Once (when t f)
once-when true f = (not-nil, tt)
once-when false f = tt

module _ (seg : Segment) where
  abbrev leaf : Vertex
  leaf = AS (leaf_as seg)

  abbrev up-edge : ℕ → Edge
  up-edge i = edge_of seg leaf (AS (as_of seg i)) (entry_count seg - 1 - i) i 0

  abbrev up-peer : ℕ → ℕ → Edge
  up-peer i p = edge_of seg leaf (link_of seg i p) (entry_count seg - i) i (p + 1)

  -- ---- each once

  as-up-mem : (i : ℕ) {e : Edge} → Mem e (as_up seg i) → (ltb i (entry_count seg - 1) ≡ true) × (e ≡ up-edge i)
  unfolding as_up as_edge_at
  as-up-mem i m = when-mem (ltb i (entry_count seg - 1)) (up-edge i) m

  peer-up-mem : (i p : ℕ) {e : Edge} → Mem e (peer_up seg i p) → (peer_stands seg i p ≡ true) × (e ≡ up-peer i p)
  unfolding peer_up
  peer-up-mem i p m = when-mem (peer_stands seg i p) (up-peer i p) m

  -- what an entry gives: its AS edge, or a peer's
  data Up (i : ℕ) (e : Edge) : Type 0 where
    to-as : ltb i (entry_count seg - 1) ≡ true → e ≡ up-edge i → Up i e
    to-peer : (p : ℕ) → p < peer_count_of seg i → peer_stands seg i p ≡ true → e ≡ up-peer i p → Up i e

  ups-mem : (i : ℕ) {e : Edge} → Mem e (ups_at seg i) → Up i e
  unfolding ups_at
  ups-mem i m =
      ⊎_elim (λ k. let q = as-up-mem i k in to-as q.0 q.1)
      (λ k.
      let w = flat_map-mem (peer_up seg i) (range 0 (peer_count_of seg i)) k in
      let q = peer-up-mem i w.0 w.2 in
      let r = range-mem 0 (peer_count_of seg i) w.1 in
      to-peer w.0 (omega arith) q.0 q.1)
      (append_cases (as_up seg i) m)

  ups-shortcut : (i : ℕ) {e : Edge} → Up i e → e.shortcut ≡ i
  unfolding edge_of
  ups-shortcut i (to-as s q) = ap (λ (x : Edge). x.shortcut) q
  ups-shortcut i (to-peer p l s q) = ap (λ (x : Edge). x.shortcut) q

  up-edge-peer : (i : ℕ) {e : Edge} → e ≡ up-edge i → e.peer ≡ 0
  unfolding edge_of
  up-edge-peer i q = ap (λ (x : Edge). x.peer) q

  up-peer-peer : (i p : ℕ) {e : Edge} → e ≡ up-peer i p → e.peer ≡ p + 1
  unfolding edge_of
  up-peer-peer i p q = ap (λ (x : Edge). x.peer) q

  once-at : (i : ℕ) → Once (ups_at seg i)
  unfolding ups_at as_up as_edge_at peer_up
  once-at i =
      once-append (as_up seg i) (flat_map (peer_up seg i) (range 0 (peer_count_of seg i))) (once-when (ltb i (entry_count seg - 1)) (up-edge i))
      (once-flat_map (peer_up seg i) (λ p. once-when (peer_stands seg i p) (up-peer i p)) (range 0 (peer_count_of seg i)) (once-range 0 (peer_count_of seg i))
      (λ p q k l z m n. omega (arith, up-peer-peer i p (peer-up-mem i p m).1, up-peer-peer i q (peer-up-mem i q n).1)))
      (λ z k l.
      let w = flat_map-mem (peer_up seg i) (range 0 (peer_count_of seg i)) l in
      omega (arith, up-edge-peer i (as-up-mem i k).1, up-peer-peer i w.0 (peer-up-mem i w.0 w.2).1))

  once-ups : Once (flat_map (ups_at seg) (range 0 (entry_count seg)))
  once-ups =
      once-flat_map (ups_at seg) once-at (range 0 (entry_count seg)) (once-range 0 (entry_count seg))
      (λ i j k l z m n. sym (ups-shortcut i (ups-mem i m)) ∙ ups-shortcut j (ups-mem j n))

  once-between : (v w : Vertex) → Once (between seg v w)
  unfolding between stored_of
  once-between v w = once-filter (has_ends v w) _ (once-lasting (insertions seg))

  once-leaving : (v : Vertex) → Once (leaving_of v seg)
  unfolding leaving_of stored_of
  once-leaving v = once-filter (leaves v) _ (once-lasting (insertions seg))

  pub leaving-once : (src : IsdAsn) → Once (leaving_in seg src)
  unfolding leaving_in
  leaving-once src = go (eqb (entry_count seg) 0) seg.core (same_as (leaf_as seg) src)
    where
      go : (x y z : Bool)
          → Once (if x then [] else if y then leaving_of (AS src) seg else if z then flat_map (ups_at seg) (range 0 (entry_count seg)) else between seg (AS src) leaf)
      go true y z = tt
      go false true z = once-leaving (AS src)
      go false false true = once-ups
      go false false false = once-between (AS src) leaf

  -- ---- what the walk gives is stored

  leaves-mem : (v : Vertex) {e : Edge} → Mem e (stored_of seg) → e.src ≡ v → Mem e (leaving_of v seg)
  unfolding leaving_of leaves
  leaves-mem v {e} m q = mem-filter (leaves v) (stored_of seg) m (eq-same_vertex e.src v q)

  mem-leaves : (v : Vertex) {e : Edge} → Mem e (leaving_of v seg) → Mem e (stored_of seg) × (e.src ≡ v)
  unfolding leaving_of leaves
  mem-leaves v {e} m = let f = filter-mem (leaves v) (stored_of seg) m in (f.0, same_vertex-eq e.src v f.1)

  -- a list of one that is not empty
  when-one : (t : Bool) (f : Edge) {e : Edge} → when t f ≡ e ∷ [] → (t ≡ true) × (e ≡ f)
  when-one t f {e} h = when-mem t f (subst (Mem e) (sym h) (head refl))

  pub as-edge-one : (v w : Vertex) (i : ℕ) {e : Edge} → as_edge_at seg v w i ≡ e ∷ []
      → (ltb i (entry_count seg - 1) ≡ true) × (e ≡ edge_of seg v w (entry_count seg - 1 - i) i 0)
  unfolding as_edge_at
  as-edge-one v w i h = when-one (ltb i (entry_count seg - 1)) (edge_of seg v w (entry_count seg - 1 - i) i 0) h

  pub peer-edge-one : (v w : Vertex) (weight i q : ℕ) {e : Edge} → peer_edge_at seg v w weight i q ≡ e ∷ []
      → (i < entry_count seg) × (0 < q) × (e ≡ edge_of seg v w weight i q)
  unfolding peer_edge_at
  peer-edge-one v w weight i q h =
      let f = when-one (ltb i (entry_count seg) && ltb 0 q) (edge_of seg v w weight i q) h in
      let g = and-true (ltb i (entry_count seg)) (ltb 0 q) f.0 in
      (ltb-true _ _ g.0, ltb-true _ _ g.1, f.1)

  pub peer-edge-some : (v w : Vertex) (weight i q : ℕ) → i < entry_count seg → 0 < q → peer_edge_at seg v w weight i q ≡ edge_of seg v w weight i q ∷ []
  unfolding peer_edge_at
  peer-edge-some v w weight i q l s = ap (λ x. when x (edge_of seg v w weight i q)) (and_from _ _ (lt-ltb i (entry_count seg) l) (lt-ltb 0 q s))

  -- ---- what is given at an entry

  as_at : (i : ℕ) {e : Edge} → ltb i (entry_count seg - 1) ≡ true → e ≡ up-edge i → Mem e (ups_at seg i)
  unfolding ups_at as_up as_edge_at
  as_at i s q = Memᴰ.append_left _ (mem-when (ltb i (entry_count seg - 1)) (up-edge i) s q)

  peer-at : (i p : ℕ) {e : Edge} → p < peer_count_of seg i → peer_stands seg i p ≡ true → e ≡ up-peer i p → Mem e (ups_at seg i)
  unfolding ups_at peer_up
  peer-at i p l s q =
      Memᴰ.append_right (as_up seg i)
      (mem-flat_map (peer_up seg i) (mem-range 0 (peer_count_of seg i) p (omega arith) (omega arith)) (mem-when (peer_stands seg i p) (up-peer i p) s q))

  at_entry : (i : ℕ) {e : Edge} → i < entry_count seg → Mem e (ups_at seg i) → Mem e (flat_map (ups_at seg) (range 0 (entry_count seg)))
  at_entry i l m = mem-flat_map (ups_at seg) (mem-range 0 (entry_count seg) i (omega arith) (omega arith)) m

  -- the entry found has the AS
  as_is : (a : IsdAsn) (n : ℕ) → entry_with seg a n < n → as_of seg (entry_with seg a n) ≡ a
  unfolding entry_with is_entry_of
  as_is a n l = same_as-eq _ _ (first_passes (is_entry_of seg a) 0 n (omega arith))

  -- the peer found stands
  stands : (v : Vertex) (i p : ℕ) → peer_linked seg v i ≡ suc p → link_of seg i p ≡ v → peer_stands seg i p ≡ true
  unfolding peer_stands
  stands v i p h q = eq-eqb _ _ (ap (λ u. peer_linked seg u i) q ∙ h ∙ sym (add-one p))

  module _ (nc : seg.core ≡ false) (apart : Apart seg) where
    as-stored : (i : ℕ) → ltb i (entry_count seg - 1) ≡ true → between seg leaf (AS (as_of seg i)) ≡ up-edge i ∷ []
    unfolding as_edge_at
    as-stored i s =
        let l = ltb-true i (entry_count seg - 1) s in
        up-as seg nc (as_of seg i)
        ∙ ap (λ r. as_edge_at seg leaf (AS (as_of seg i)) r) (entry-only seg apart (as_of seg i) i (entry_count seg - 1) l (omega arith) refl)
        ∙ ap (λ x. when x (up-edge i)) s

    peer-stored : (i p : ℕ) → i < entry_count seg → peer_stands seg i p ≡ true → between seg leaf (link_of seg i p) ≡ up-peer i p ∷ []
    unfolding peer_stands
    peer-stored i p l s =
        up-own seg nc apart i p l
        ∙ ap (peer_edge_at seg leaf (link_of seg i p) (entry_count seg - i) i) (eqb-true _ _ s)
        ∙ peer-edge-some leaf (link_of seg i p) (entry_count seg - i) i (p + 1) l (omega arith)

    up-stored : (i : ℕ) → i < entry_count seg → {e : Edge} → Up i e → Mem e (stored_of seg) × (e.src ≡ leaf)
    up-stored i l {e} (to-as s q) =
        let w = between-stored seg leaf (AS (as_of seg i)) (subst (Mem e) (sym (as-stored i s)) (head q)) in
        (w.0, w.1)
    up-stored i l {e} (to-peer p m s q) =
        let w = between-stored seg leaf (link_of seg i p) (subst (Mem e) (sym (peer-stored i p l s)) (head q)) in
        (w.0, w.1)

    -- ---- and what is stored is given

    as-given : (e : Edge) (a : IsdAsn) → between seg leaf (AS a) ≡ e ∷ [] → Mem e (flat_map (ups_at seg) (range 0 (entry_count seg)))
    as-given e a h =
        let r : ℕ = entry_with seg a (entry_count seg - 1) in
        let w = as-edge-one leaf (AS a) r (sym (up-as seg nc a) ∙ h) in
        let l : r < entry_count seg - 1 = ltb-true _ _ w.0 in
        at_entry r (omega arith) (as_at r w.0 (w.1 ∙ ap (λ c. edge_of seg leaf (AS c) (entry_count seg - 1 - r) r 0) (sym (as_is a (entry_count seg - 1) l))))

    link-given : (e : Edge) (l : Link) → between seg leaf (end_of l) ≡ e ∷ [] → Mem e (flat_map (ups_at seg) (range 0 (entry_count seg)))
    link-given e l h =
        let r : ℕ = entry_with seg l.local (entry_count seg) in
        let w = peer-edge-one leaf (end_of l) (entry_count seg - r) r (peer_linked seg (end_of l) r) (sym (up-link seg nc apart l r refl) ∙ h) in
        at_entry r w.0 (go r w.1 w.2)
      where
        go : (r : ℕ) → 0 < peer_linked seg (end_of l) r → e ≡ edge_of seg leaf (end_of l) (entry_count seg - r) r (peer_linked seg (end_of l) r) → Mem e (ups_at seg r)
        go r some q = at (peer_linked seg (end_of l) r) refl
          where
            at : (m : ℕ) → peer_linked seg (end_of l) r ≡ m → Mem e (ups_at seg r)
            at zero f = absurd (omega arith)
            at (suc p) f =
                let s = peer-is seg (end_of l) r p f in
                peer-at r p s.0 (stands (end_of l) r p f s.1)
                (q ∙ ap₂ (λ u m. edge_of seg leaf u (entry_count seg - r) r m) (sym s.1) (f ∙ sym (add-one p)))

    given : (e : Edge) → Mem e (stored_of seg) → e.src ≡ leaf → Mem e (flat_map (ups_at seg) (range 0 (entry_count seg)))
    given e m q = go e.dst (ap (λ v. between seg v e.dst) (sym q) ∙ stored-between seg e m)
      where
        go : (w : Vertex) → between seg leaf w ≡ e ∷ [] → Mem e (flat_map (ups_at seg) (range 0 (entry_count seg)))
        go (AS a) h = as-given e a h
        go (Peering l i p j) h = link-given e (record { local = l; ingress = i; peer = p; interface = j }) h

    -- one that does not leave the leaf arrives at it
    arrives : (e : Edge) → Mem e (stored_of seg) → (leaf ≡ e.src → ⊥) → e.dst ≡ leaf
    arrives e m n = go (same_vertex e.dst leaf) refl
      where
        go : (x : Bool) → same_vertex e.dst leaf ≡ x → e.dst ≡ leaf
        go true q = same_vertex-eq _ _ q
        go false q =
            let none = no-leaf seg nc e.src e.dst n (λ r. not-both (eq-same_vertex _ _ (sym r)) q) in
            absurd (not-nil (subst (Mem e) (sym (stored-between seg e m) ∙ none) (head refl)))

  pub leaving-mem : Apart seg → (src : IsdAsn) {e : Edge} → Mem e (leaving_in seg src) → Mem e (leaving_of (AS src) seg)
  unfolding leaving_in
  leaving-mem apart src {e} m = go (eqb (entry_count seg) 0) seg.core refl (same_as (leaf_as seg) src) refl m
    where
      go : (x y : Bool) → seg.core ≡ y → (z : Bool) → same_as (leaf_as seg) src ≡ z
          → Mem e (if x then [] else if y then leaving_of (AS src) seg else if z then flat_map (ups_at seg) (range 0 (entry_count seg)) else between seg (AS src) leaf)
          → Mem e (leaving_of (AS src) seg)
      go true y c z s m = absurd (not-nil m)
      go false true c z s m = m
      go false false c true s m =
          let w = flat_map-mem (ups_at seg) (range 0 (entry_count seg)) m in
          let r = range-mem 0 (entry_count seg) w.1 in
          let u = up-stored c apart w.0 (omega arith) (ups-mem w.0 w.2) in
          leaves-mem (AS src) u.0 (u.1 ∙ ap AS (same_as-eq (leaf_as seg) src s))
      go false false c false s m = let w = between-stored seg (AS src) leaf m in leaves-mem (AS src) w.0 w.1

  between-mem : (v w : Vertex) {e : Edge} → Mem e (stored_of seg) → e.src ≡ v → e.dst ≡ w → Mem e (between seg v w)
  unfolding between
  between-mem v w {e} m p q = mem-filter (has_ends v w) (stored_of seg) m (eq-ends v w e p q)

  pub mem-leaving : Apart seg → (src : IsdAsn) {e : Edge} → Mem e (leaving_of (AS src) seg) → Mem e (leaving_in seg src)
  unfolding leaving_in
  mem-leaving apart src {e} m = go (eqb (entry_count seg) 0) refl seg.core refl (same_as (leaf_as seg) src) refl
    where
      stored : Mem e (stored_of seg) × (e.src ≡ AS src)
      stored = mem-leaves (AS src) m

      go : (x : Bool) → eqb (entry_count seg) 0 ≡ x → (y : Bool) → seg.core ≡ y → (z : Bool) → same_as (leaf_as seg) src ≡ z
          → Mem e (if x then [] else if y then leaving_of (AS src) seg else if z then flat_map (ups_at seg) (range 0 (entry_count seg)) else between seg (AS src) leaf)
      go true n y c z s = absurd (not-nil (subst (Mem e) (none-stored seg (eqb-true _ _ n)) stored.0))
      go false n true c z s = m
      go false n false c true s = given c apart e stored.0 (stored.1 ∙ ap AS (sym (same_as-eq (leaf_as seg) src s)))
      go false n false c false s =
          between-mem (AS src) leaf stored.0 stored.1
          (arrives c apart e stored.0 (λ q. not-both (eq-same_as (leaf_as seg) src (as-eq (q ∙ stored.1))) s))

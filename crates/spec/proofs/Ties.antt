-- Position, shortcut and peer of its edges tell a chain from every other chain of the same source.
-- Assumes nothing.
use Prim.Native.Nat.{ℕ, zero, suc, ◌+◌, ◌-◌}
use native.Mathlib.Numerals.{add-one}
use mathlib.Core.Path.{◌≡◌, refl, sym, ap, ap₂, ◌∙◌, subst}
use mathlib.Core.Logic.{◌⊎◌, inl, inr, ⊎_elim}
use mathlib.Core.Bool.{Bool, true, false}
use mathlib.Core.List.Memᴰ.{append_cases, cases_cons, head, not-nil, tail}
use mathlib.Core.List.{List, [], ◌∷◌, flat_map, reverse, Memᴰ as Mem}
use lib.ListN.{length}
use lib.Dec.{eqb}
use Rattle.spec.specs.declared.Vertex.{Vertex}
use Rattle.spec.specs.declared.Vertex.TheVariants.{AS, Peering}
use Rattle.spec.specs.declared.Edge.{Edge}
use Rattle.std.specs.Prelude.{if◌then◌else◌}
use Rattle.spec.specs.Basics.{range}
use Rattle.spec.specs.Book.{Segment, segments}
use Rattle.spec.specs.Edges.{entry_of, as_of, leaf_as, peer_of, edge_of, add_core_segment, as_insertions, peer_insertions, entry_insertions, insertions, firsts, stored_of, stored_edges}
use Rattle.spec.specs.Chains.{Leads}
use Rattle.spec.proofs.Membership.{filter-mem, flat_map-mem}
use Rattle.spec.proofs.ChainLaws.{Among}
use Rattle.spec.proofs.OnceLaws.{lasting-mem, inserted, same-position}

-- ---- the two edges of a shortcut and peer of a segment

module _ (seg : Segment) where
  abbrev leaf : Vertex
  leaf = AS (leaf_as seg)

  abbrev n : ℕ
  n = length seg.entries

  -- towards a vertex, and back
  abbrev there : ℕ → ℕ → Bool → Edge
  there i zero true = edge_of seg (AS (as_of seg 0)) leaf (n - 1) 0 0
  there i zero false = edge_of seg leaf (AS (as_of seg i)) (n - 1 - i) i 0
  there i (suc p) t =
      edge_of seg leaf (Peering (as_of seg i) (peer_of seg i p).hop.ingress (peer_of seg i p).peer (peer_of seg i p).interface) (n - i) i (p + 1)

  abbrev back : ℕ → ℕ → Bool → Edge
  back i zero true = edge_of seg leaf (AS (as_of seg 0)) (n - 1) 0 0
  back i zero false = edge_of seg (AS (as_of seg i)) leaf (n - 1 - i) i 0
  back i (suc p) t =
      edge_of seg (Peering (peer_of seg i p).peer (peer_of seg i p).interface (as_of seg i) (peer_of seg i p).hop.ingress) leaf (n - 1 - i) i (p + 1)

  abbrev OneOf : Bool → ℕ → ℕ → Edge → Type 0
  OneOf t i q e = (e ≡ there i q t) ⊎ (e ≡ back i q t)

  abbrev Own : Bool → Edge → Type 0
  Own t e = OneOf t e.shortcut e.peer e

  two : (e f : Edge) {x : Edge} → Mem x (e ∷ f ∷ []) → (x ≡ e) ⊎ (x ≡ f)
  two e f m = ⊎_elim (λ q. inl q) (λ k. ⊎_elim (λ q. inr q) (λ l. absurd (not-nil l)) (cases_cons k)) (cases_cons m)

  -- the edge says its shortcut and peer
  own : (t : Bool) (i q : ℕ) (e : Edge) → e.shortcut ≡ i → e.peer ≡ q → OneOf t i q e → Own t e
  own t i q e a c = subst (λ j. OneOf t j q e → Own t e) a (subst (λ p. OneOf t e.shortcut p e → Own t e) c (λ h. h))

  own-core : {e : Edge} → Mem e (add_core_segment seg) → Own true e
  unfolding add_core_segment edge_of
  own-core {e} m = go (eqb (length seg.entries) 0) m
    where
      go : (t : Bool) → Mem e (if t then [] else there 0 0 true ∷ back 0 0 true ∷ []) → Own true e
      go true k = absurd (not-nil k)
      go false k =
          ⊎_elim (λ q. own true 0 0 e (ap (λ (x : Edge). x.shortcut) q) (ap (λ (x : Edge). x.peer) q) (inl q))
          (λ q. own true 0 0 e (ap (λ (x : Edge). x.shortcut) q) (ap (λ (x : Edge). x.peer) q) (inr q))
          (two (there 0 0 true) (back 0 0 true) k)

  own-as : (i : ℕ) {e : Edge} → Mem e (as_insertions seg i) → Own false e
  unfolding as_insertions edge_of
  own-as i {e} m = go (eqb i (length seg.entries - 1)) m
    where
      go : (t : Bool) → Mem e (if t then [] else there i 0 false ∷ back i 0 false ∷ []) → Own false e
      go true k = absurd (not-nil k)
      go false k =
          ⊎_elim (λ q. own false i 0 e (ap (λ (x : Edge). x.shortcut) q) (ap (λ (x : Edge). x.peer) q) (inl q))
          (λ q. own false i 0 e (ap (λ (x : Edge). x.shortcut) q) (ap (λ (x : Edge). x.peer) q) (inr q))
          (two (there i 0 false) (back i 0 false) k)

  own-peer : (i p : ℕ) {e : Edge} → Mem e (peer_insertions seg i p) → Own false e
  unfolding peer_insertions edge_of
  own-peer i p {e} m =
      ⊎_elim (λ q. own false i (suc p) e (ap (λ (x : Edge). x.shortcut) q) (ap (λ (x : Edge). x.peer) q ∙ add-one p) (inl q))
      (λ q. own false i (suc p) e (ap (λ (x : Edge). x.shortcut) q) (ap (λ (x : Edge). x.peer) q ∙ add-one p) (inr q))
      (two (there i (suc p) false) (back i (suc p) false) m)

  own-entry : (i : ℕ) {e : Edge} → Mem e (entry_insertions seg i) → Own false e
  unfolding entry_insertions
  own-entry i m =
      ⊎_elim (λ k. own-as i k)
      (λ k. let w = flat_map-mem (peer_insertions seg i) (range 0 (length (entry_of seg i).peers)) k in own-peer i w.0 w.2)
      (append_cases (as_insertions seg i) m)

  own-insertion : {e : Edge} → Mem e (insertions seg) → Own seg.core e
  unfolding insertions
  own-insertion {e} m = go seg.core m
    where
      go : (t : Bool) → Mem e (if t then add_core_segment seg else flat_map (entry_insertions seg) (reverse (range 0 (length seg.entries)))) → Own t e
      go true k = own-core k
      go false k = let w = flat_map-mem (entry_insertions seg) (reverse (range 0 (length seg.entries))) k in own-entry w.0 w.2

  -- where both leave one vertex, they are one
  abbrev IsAs : Vertex → Type 0
  IsAs (AS a) = Unit
  IsAs (Peering l i p j) = ⊥

  twins : (t : Bool) (i q : ℕ) → (there i q t).src ≡ (back i q t).src → there i q t ≡ back i q t
  unfolding edge_of
  twins true i zero h = ap₂ (λ x y. edge_of seg x y (n - 1) 0 0) h (sym h)
  twins false i zero h = ap₂ (λ x y. edge_of seg x y (n - 1 - i) i 0) h (sym h)
  twins true i (suc p) h = absurd (subst IsAs h tt)
  twins false i (suc p) h = absurd (subst IsAs h tt)

  same_of : (t : Bool) (i q : ℕ) (e f : Edge) → e.src ≡ f.src → OneOf t i q e → OneOf t i q f → e ≡ f
  same_of t i q e f h (inl a) (inl c) = a ∙ sym c
  same_of t i q e f h (inr a) (inr c) = a ∙ sym c
  same_of t i q e f h (inl a) (inr c) =
      a ∙ twins t i q (sym (ap (λ (x : Edge). x.src) a) ∙ h ∙ ap (λ (x : Edge). x.src) c) ∙ sym c
  same_of t i q e f h (inr a) (inl c) =
      a ∙ sym (twins t i q (sym (ap (λ (x : Edge). x.src) c) ∙ sym h ∙ ap (λ (x : Edge). x.src) a)) ∙ sym c

  same-insertion : {e f : Edge} → Mem e (insertions seg) → Mem f (insertions seg) → e.shortcut ≡ f.shortcut → e.peer ≡ f.peer → e.src ≡ f.src → e ≡ f
  same-insertion {e} {f} k l a c h =
      same_of seg.core f.shortcut f.peer e f h
      (subst (λ i. OneOf seg.core i f.peer e) a (subst (λ q. OneOf seg.core e.shortcut q e) c (own-insertion k)))
      (own-insertion l)

-- ---- stored edges and chains

pub record SameKeys (e f : Edge) : Type 0 where
  pub position : e.position ≡ f.position
  pub shortcut : e.shortcut ≡ f.shortcut
  pub peer : e.peer ≡ f.peer

pub same-stored : (b : List ℕ) {e f : Edge} → Mem e (stored_edges b) → Mem f (stored_edges b) → SameKeys e f → e.src ≡ f.src → e ≡ f
unfolding stored_edges stored_of firsts
same-stored b {e} {f} k l s h =
    let u = flat_map-mem stored_of (firsts (segments b)) k in
    let v = flat_map-mem stored_of (firsts (segments b)) l in
    let p = lasting-mem (insertions u.0) u.2 in
    let q = lasting-mem (insertions v.0) v.2 in
    let one : u.0 ≡ v.0 =
    same-position b u.0 v.0 (filter-mem _ (segments b) u.1).0 (filter-mem _ (segments b) v.1).0
    (sym (inserted u.0 p).position ∙ s.position ∙ (inserted v.0 q).position) in
    same-insertion v.0 (subst (λ x. Mem e (insertions x)) one p) q s.shortcut s.peer h

-- the keys of two lists of edges are equal, place by place
abbrev pub AllSame : List Edge → List Edge → Type 0
AllSame [] [] = Unit
AllSame [] (f ∷ d) = ⊥
AllSame (e ∷ c) [] = ⊥
AllSame (e ∷ c) (f ∷ d) = SameKeys e f × AllSame c d

leads-src : (goal at : Vertex) (e : Edge) (c : List Edge) → Leads goal at (e ∷ c) → e.src ≡ at
leads-src goal at e [] l = l.0
leads-src goal at e (f ∷ c) l = l.0

pub same-chain : (b : List ℕ) (goal at : Vertex) (c d : List Edge) → Among (stored_edges b) c → Among (stored_edges b) d
    → Leads goal at c → Leads goal at d → AllSame c d → c ≡ d
same-chain b goal at [] [] p q l m s = refl
same-chain b goal at [] (f ∷ d) p q l m s = absurd s
same-chain b goal at (e ∷ c) [] p q l m s = absurd s
same-chain b goal at (e ∷ []) (f ∷ []) p q l m s =
    ap (λ x. x ∷ []) (same-stored b (p e (head refl)) (q f (head refl)) s.0 (l.0 ∙ sym m.0))
same-chain b goal at (e ∷ []) (f ∷ g ∷ d) p q l m s = absurd s.1
same-chain b goal at (e ∷ g ∷ c) (f ∷ []) p q l m s = absurd s.1
same-chain b goal at (e ∷ g ∷ c) (f ∷ h ∷ d) p q l m s =
    let one : e ≡ f = same-stored b (p e (head refl)) (q f (head refl)) s.0 (l.0 ∙ sym m.0) in
    ap₂ (λ x y. x ∷ y) one
    (same-chain b goal e.dst (g ∷ c) (h ∷ d) (λ x k. p x (tail k)) (λ x k. q x (tail k)) l.2
    (subst (λ v. Leads goal v (h ∷ d)) (sym (ap (λ (x : Edge). x.dst) one)) m.2) s.1)

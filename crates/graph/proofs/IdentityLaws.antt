-- The stored edge of a segment that has an identity: the identity tells the ends, and so where to look.
-- Assumes nothing.
use Rattle.std.proofs.lemmas.Bool.{and_from}
use Prim.Native.Nat.{ℕ, zero, suc, ◌+◌, ◌-◌, ◌≤◌, ◌<◌}
use native.Mathlib.Numerals.{add-one}
use native.Mathlib.Decide.{ℕ_discrete}
use native.Mathlib.Omega.{arith}
use mathlib.Core.Path.{◌≡◌, refl, sym, ap, ap₂, ◌∙◌, subst}
use mathlib.Core.Logic.{◌⊎◌, inl, inr, ⊎_elim}
use mathlib.Core.Bool.{Bool, true, false, ◌&&◌}
use mathlib.Core.List.Memᴰ.{append_cases, cases_cons, head, not-nil, tail}
use mathlib.Core.List.{List, [], ◌∷◌, reverse, Memᴰ as Mem}
use lib.ListN.{length}
use lib.Dec.{ltb, eqb}
use borrow.Author.Tests.{eqb-true, eqb-false, eq-eqb, ltb-true, ltb-false}
use Rattle.spec.specs.declared.Vertex.{Vertex}
use Rattle.spec.specs.declared.Vertex.TheVariants.{AS}
use Rattle.spec.specs.declared.Edge.{Edge}
use Rattle.spec.specs.declared.SolutionEdge.{SolutionEdge}
use Rattle.spec.specs.Basics.{range, Once}
use Rattle.spec.specs.Book.{same_as, Segment}
use Rattle.spec.specs.Edges.{same_vertex, same_bool, entry_of, as_of, leaf_as, in_construction, edge_of, as_insertions, peer_insertions, entry_insertions, insertions, stored_of}
use Rattle.spec.specs.Order.{solution_edge}
use Rattle.spec.specs.Loopless.{Apart}
use Rattle.spec.proofs.Membership.{and-true, not-both, filter-mem, mem-filter, flat_map-mem, once-filter}
use Rattle.spec.proofs.Vertices.{same_vertex-eq, same_vertex-refl}
use Rattle.spec.proofs.OnceLaws.{lasting-mem, once-lasting, inserted}
use Rattle.graph.specs.Lookup.{between}
use Rattle.graph.specs.Leaving.{entry_count, peer_count_of, link_of, entry_with, peer_linked, as_edge_at, peer_edge_at, peer_stands, peer_up}
use Rattle.graph.specs.Identity.{has_identity, identified}
use Rattle.graph.proofs.LookupLaws.{as-not-peering, one-is, stored-between, between-stored, as-other, as-leaf, turned, peer-two, entry-parts, entry-only, insertions-other, insertions-core, core-none, up-as, down-as, up-own, down-own}
use Rattle.graph.proofs.LookupScan.{when}
use Rattle.graph.proofs.LeavingLaws.{as-edge-one, peer-edge-one, peer-edge-some}

-- ---- identities

bool_eq : (s t : Bool) → same_bool s t ≡ true → s ≡ t
unfolding same_bool
bool_eq true true q = refl
bool_eq true false q = not-both q refl
bool_eq false true q = not-both q refl
bool_eq false false q = refl

bool-refl : (t : Bool) → same_bool t t ≡ true
unfolding same_bool
bool-refl true = refl
bool-refl false = refl

pub has-identity : (id : SolutionEdge) (e : Edge) → has_identity id e ≡ true → solution_edge e ≡ id
unfolding has_identity solution_edge
has-identity id e h =
    let a = and-true ((eqb e.position id.position && eqb e.shortcut id.shortcut) && eqb e.peer id.peer) _ h in
    let b = and-true (eqb e.position id.position && eqb e.shortcut id.shortcut) _ a.0 in
    let d = and-true (eqb e.position id.position) _ b.0 in
    let p : e.position ≡ id.position = eqb-true _ _ d.0 in
    let q : e.shortcut ≡ id.shortcut = eqb-true _ _ d.1 in
    let r : e.peer ≡ id.peer = eqb-true _ _ b.1 in
    let t : e.construction ≡ id.construction = bool_eq _ _ a.1 in
    λ i. record { position = p i; shortcut = q i; peer = r i; construction = t i }

pub own-identity : (e : Edge) → has_identity (solution_edge e) e ≡ true
unfolding has_identity solution_edge
own-identity e =
    and_from _ _ (and_from _ _ (and_from _ _ (eq-eqb e.position _ refl) (eq-eqb e.shortcut _ refl)) (eq-eqb e.peer _ refl)) (bool-refl e.construction)

-- ---- lists

all_same : (l : List Edge) → Once l → ((e f : Edge) → Mem e l → Mem f l → e ≡ f) → length l ≤ 1
all_same [] o h = omega arith
all_same (x ∷ []) o h = omega arith
all_same (x ∷ y ∷ l) o h = absurd (o.0 (head (h x y (head refl) (tail (head refl)))))

none_in : (l : List Edge) → ((e : Edge) → Mem e l → ⊥) → l ≡ []
none_in [] h = refl
none_in (x ∷ l) h = absurd (h x (head refl))

two : (e f : Edge) {x : Edge} → Mem x (e ∷ f ∷ []) → (x ≡ e) ⊎ (x ≡ f)
two e f m = ⊎_elim (λ q. inl q) (λ k. ⊎_elim (λ q. inr q) (λ l. absurd (not-nil l)) (cases_cons k)) (cases_cons m)

module _ (seg : Segment) where
  abbrev leaf : Vertex
  leaf = AS (leaf_as seg)

  -- ---- the ends of an insertion

  -- the end that is not the leaf: of an edge up, and of one down
  abbrev up_end : ℕ → ℕ → Vertex
  up_end i zero = AS (as_of seg i)
  up_end i (suc p) = link_of seg i p

  abbrev down_end : ℕ → ℕ → Vertex
  down_end i zero = AS (as_of seg i)
  down_end i (suc p) = turned seg i p

  data Shape (e : Edge) : Type 0 where
    up : (a i q : ℕ) → e ≡ edge_of seg leaf (up_end i q) a i q → Shape e
    down : (a i q : ℕ) → e ≡ edge_of seg (down_end i q) leaf a i q → Shape e

  core-shape : seg.core ≡ true → {e : Edge} → Mem e (insertions seg) → Shape e × (e.shortcut ≡ 0) × (e.peer ≡ 0)
  unfolding edge_of
  core-shape c {e} m = go (ℕ_discrete (entry_count seg) 0)
    where
      go : Dec (entry_count seg ≡ 0) → Shape e × (e.shortcut ≡ 0) × (e.peer ≡ 0)
      go (yes h) = absurd (not-nil (subst (Mem e) (core-none seg c h) m))
      go (no h) =
          ⊎_elim (λ q. (down _ 0 0 q, ap (λ (x : Edge). x.shortcut) q, ap (λ (x : Edge). x.peer) q))
          (λ q. (up _ 0 0 q, ap (λ (x : Edge). x.shortcut) q, ap (λ (x : Edge). x.peer) q))
          (two _ _ (subst (Mem e) (insertions-core seg c h) m))

  as-shape : (i : ℕ) {e : Edge} → Mem e (as_insertions seg i) → Shape e
  as-shape i {e} m = go (ℕ_discrete i (entry_count seg - 1))
    where
      go : Dec (i ≡ entry_count seg - 1) → Shape e
      go (yes h) = absurd (not-nil (subst (Mem e) (as-leaf seg i h) m))
      go (no h) = ⊎_elim (λ q. up _ i 0 q) (λ q. down _ i 0 q) (two _ _ (subst (Mem e) (as-other seg i h) m))

  peer-shape : (i p : ℕ) {e : Edge} → Mem e (peer_insertions seg i p) → Shape e
  peer-shape i p {e} m =
      ⊎_elim (λ q. up (entry_count seg - i) i (suc p) (q ∙ ap (edge_of seg leaf (link_of seg i p) (entry_count seg - i) i) (add-one p)))
      (λ q. down (entry_count seg - 1 - i) i (suc p) (q ∙ ap (edge_of seg (turned seg i p) leaf (entry_count seg - 1 - i) i) (add-one p)))
      (two _ _ (subst (Mem e) (peer-two seg i p) m))

  entry-shape : (i : ℕ) {e : Edge} → Mem e (entry_insertions seg i) → Shape e
  entry-shape i {e} m =
      ⊎_elim (λ k. as-shape i k)
      (λ k. let w = flat_map-mem (peer_insertions seg i) (range 0 (peer_count_of seg i)) k in peer-shape i w.0 w.2)
      (append_cases (as_insertions seg i) (subst (Mem e) (entry-parts seg i) m))

  shape : {e : Edge} → Mem e (insertions seg) → Shape e
  shape {e} m = go seg.core refl
    where
      go : (c : Bool) → seg.core ≡ c → Shape e
      go true c = (core-shape c m).0
      go false c =
          let w = flat_map-mem (entry_insertions seg) (reverse (range 0 (entry_count seg))) (subst (Mem e) (insertions-other seg c) m) in
          entry-shape w.0 w.2

  -- in construction direction, and against it
  abbrev Ends : ℕ → ℕ → Bool → Edge → Type 0
  Ends i q true e = (e.src ≡ down_end i q) × (e.dst ≡ leaf)
  Ends i q false e = (e.src ≡ leaf) × (e.dst ≡ up_end i q)

  -- an edge up that is in construction direction is from the leaf to the leaf
  leaf-down : (i q : ℕ) → up_end i q ≡ leaf → leaf ≡ down_end i q
  unfolding link_of
  leaf-down i zero h = sym h
  leaf-down i (suc p) h = absurd (as-not-peering (sym h))

  up_ends : (a i q : ℕ) → Ends i q (in_construction seg (up_end i q)) (edge_of seg leaf (up_end i q) a i q)
  unfolding in_construction edge_of
  up_ends a i q = go (same_vertex (up_end i q) leaf) refl
    where
      go : (t : Bool) → same_vertex (up_end i q) leaf ≡ t → Ends i q t (edge_of seg leaf (up_end i q) a i q)
      go true h = let w = same_vertex-eq (up_end i q) leaf h in (leaf-down i q w, w)
      go false h = (refl, refl)

  down_ends : (a i q : ℕ) → Ends i q (in_construction seg leaf) (edge_of seg (down_end i q) leaf a i q)
  unfolding in_construction edge_of
  down_ends a i q = subst (λ t. Ends i q t (edge_of seg (down_end i q) leaf a i q)) (sym (same_vertex-refl leaf)) (refl, refl)

  shape-ends : {e : Edge} → Shape e → Ends e.shortcut e.peer e.construction e
  unfolding edge_of
  shape-ends (up a i q h) = subst (λ f. Ends f.shortcut f.peer f.construction f) (sym h) (up_ends a i q)
  shape-ends (down a i q h) = subst (λ f. Ends f.shortcut f.peer f.construction f) (sym h) (down_ends a i q)

  stored-inserted : {e : Edge} → Mem e (stored_of seg) → Mem e (insertions seg)
  unfolding stored_of
  stored-inserted m = lasting-mem (insertions seg) m

  -- an identity tells the ends
  pub ends : {e : Edge} → Mem e (stored_of seg) → Ends e.shortcut e.peer e.construction e
  ends m = shape-ends (shape (stored-inserted m))

  -- ---- and its ends the edge

  same_ends_lem : (i q : ℕ) (t : Bool) (e f : Edge) → Ends i q t e → Ends i q t f → (e.src ≡ f.src) × (e.dst ≡ f.dst)
  same_ends_lem i q true e f x y = (x.0 ∙ sym y.0, x.1 ∙ sym y.1)
  same_ends_lem i q false e f x y = (x.0 ∙ sym y.0, x.1 ∙ sym y.1)

  abbrev IdEnds : SolutionEdge → Edge → Type 0
  IdEnds id e = Ends id.shortcut id.peer id.construction e

  pub begins-and-arrives : (id : SolutionEdge) {e : Edge} → Mem e (stored_of seg) → solution_edge e ≡ id → IdEnds id e
  unfolding solution_edge
  begins-and-arrives id {e} m h = subst (λ d. IdEnds d e) h (ends m)

  same-edge : {e f : Edge} → Mem e (stored_of seg) → Mem f (stored_of seg) → solution_edge e ≡ solution_edge f → e ≡ f
  same-edge {e} {f} k l h =
      let id : SolutionEdge = solution_edge f in
      let w = same_ends_lem id.shortcut id.peer id.construction e f (begins-and-arrives id k h) (begins-and-arrives id l refl) in
      let p : f ∷ [] ≡ e ∷ [] = sym (stored-between seg f l) ∙ ap₂ (between seg) (sym w.0) (sym w.1) ∙ stored-between seg e k in
      cc

  identified-mem : (id : SolutionEdge) {e : Edge} → Mem e (identified seg id) → Mem e (stored_of seg) × (solution_edge e ≡ id)
  unfolding identified
  identified-mem id {e} m = let w = filter-mem (has_identity id) (stored_of seg) m in (w.0, has-identity id e w.1)

  identified-one : (id : SolutionEdge) → length (identified seg id) ≤ 1
  identified-one id =
      all_same (identified seg id) (unfold identified stored_of in once-filter (has_identity id) _ (once-lasting (insertions seg)))
      (λ e f k l. let v = identified-mem id k in let w = identified-mem id l in same-edge v.0 w.0 (v.1 ∙ sym w.1))

  stored-identified : (e : Edge) → Mem e (stored_of seg) → identified seg (solution_edge e) ≡ e ∷ []
  stored-identified e m =
      one-is e (identified seg (solution_edge e)) (identified-one (solution_edge e))
      (unfold identified in mem-filter (has_identity (solution_edge e)) (stored_of seg) m (own-identity e))

  -- an edge by its ends
  pub between-identified : (id : SolutionEdge) (v w : Vertex) (e : Edge) → e ∷ [] ≡ between seg v w → solution_edge e ≡ id → e ∷ [] ≡ identified seg id
  between-identified id v w e p q =
      sym (subst (λ d. identified seg d ≡ e ∷ []) q (stored-identified e (between-stored seg v w (subst (Mem e) p (head refl))).0))

  -- ---- identities that no edge has

  none-identified : (id : SolutionEdge) → ((e : Edge) → Mem e (stored_of seg) → solution_edge e ≡ id → ⊥) → [] ≡ identified seg id
  none-identified id h = sym (none_in (identified seg id) (λ e m. let w = identified-mem id m in h e w.0 w.1))

  -- what an identity says of its edge
  said : (id : SolutionEdge) (e : Edge) → solution_edge e ≡ id → (e.shortcut ≡ id.shortcut) × (e.peer ≡ id.peer) × (e.construction ≡ id.construction)
  unfolding solution_edge
  said id e q = (ap (λ (d : SolutionEdge). d.shortcut) q, ap (λ (d : SolutionEdge). d.peer) q, ap (λ (d : SolutionEdge). d.construction) q)

  module _ (id : SolutionEdge) where
    pub past-entries : entry_count seg ≤ id.shortcut → [] ≡ identified seg id
    unfolding entry_count
    past-entries h = none-identified id (λ e m q. omega (arith, (said id e q).0, (inserted seg (stored-inserted m)).shortcut))

    pub past-peers : peer_count_of seg id.shortcut < id.peer → [] ≡ identified seg id
    unfolding peer_count_of
    past-peers h =
        none-identified id (λ e m q.
        let w = said id e q in
        let l : e.peer ≤ length (entry_of seg id.shortcut).peers =
        subst (λ i. e.peer ≤ length (entry_of seg i).peers) w.0 (inserted seg (stored-inserted m)).peer in
        omega (arith, w.1))

    pub core-shortcut : seg.core ≡ true → 0 < id.shortcut → [] ≡ identified seg id
    core-shortcut c h = none-identified id (λ e m q. omega (arith, (said id e q).0, (core-shape c (stored-inserted m)).1))

    pub core-peer : seg.core ≡ true → 0 < id.peer → [] ≡ identified seg id
    core-peer c h = none-identified id (λ e m q. omega (arith, (said id e q).1, (core-shape c (stored-inserted m)).2))

  -- ---- AS edges

  module _ (id : SolutionEdge) (no-peer : id.peer ≡ 0) where
    as-ends : {t : Bool} → id.construction ≡ t → {e : Edge} → Mem e (stored_of seg) → solution_edge e ≡ id → Ends id.shortcut 0 t e
    as-ends d {e} m q =
        subst (λ t. Ends id.shortcut 0 t e) d (subst (λ p. Ends id.shortcut p id.construction e) no-peer (begins-and-arrives id m q))

    -- from the leaf to an entry of the leaf's AS: its edge is in construction direction
    pub leaf-again : id.construction ≡ false → same_as (as_of seg id.shortcut) (leaf_as seg) ≡ true → [] ≡ identified seg id
    leaf-again d h =
        none-identified id (λ e m q.
        not-both
        ((inserted seg (stored-inserted m)).direction ∙ ap (in_construction seg) (as-ends d m q).1 ∙ (unfold in_construction same_vertex in h))
        ((said id e q).2 ∙ d))

  -- an edge of the segment has an identity
  edge-identity : (id : SolutionEdge) → seg.position ≡ id.position → (v w : Vertex) (a i q : ℕ) → i ≡ id.shortcut → q ≡ id.peer
      → in_construction seg w ≡ id.construction → solution_edge (edge_of seg v w a i q) ≡ id
  unfolding solution_edge edge_of
  edge-identity id at v w a i q s p d = λ j. record { position = at j; shortcut = s j; peer = p j; construction = d j }

  -- ---- the edges of a non-core segment

  module _ (nc : seg.core ≡ false) (id : SolutionEdge) where
    abbrev i : ℕ
    i = id.shortcut

    -- the leaf has no AS edges
    pub leaf-none : id.peer ≡ 0 → i ≡ entry_count seg - 1 → [] ≡ identified seg id
    leaf-none no-peer h = none-identified id (λ e m q. omega (arith, (said id e q).0, below e m q id.construction refl))
      where
        found_below : (v w : Vertex) (r : ℕ) {e : Edge} → as_edge_at seg v w r ≡ e ∷ [] → e.shortcut < entry_count seg - 1
        found_below v w r q =
            let x = as-edge-one seg v w r q in
            unfold edge_of in omega (arith, ltb-true r (entry_count seg - 1) x.0, ap (λ (y : Edge). y.shortcut) x.1)

        below : (e : Edge) → Mem e (stored_of seg) → solution_edge e ≡ id → (t : Bool) → id.construction ≡ t → e.shortcut < entry_count seg - 1
        below e m q true d =
            let x = as-ends id no-peer d m q in
            found_below (AS (as_of seg i)) leaf _ (sym (down-as seg nc (as_of seg i)) ∙ sym (ap₂ (between seg) x.0 x.1) ∙ stored-between seg e m)
        below e m q false d =
            let x = as-ends id no-peer d m q in
            found_below leaf (AS (as_of seg i)) _ (sym (up-as seg nc (as_of seg i)) ∙ sym (ap₂ (between seg) x.0 x.1) ∙ stored-between seg e m)

    module _ (apart : Apart seg) (at : seg.position ≡ id.position) (within : i < entry_count seg) where
      -- an AS edge, by its ends
      pub as-named : id.peer ≡ 0 → (v w : Vertex) → between seg v w ≡ as_edge_at seg v w (entry_with seg (as_of seg i) (entry_count seg - 1))
          → (i < entry_count seg - 1 → in_construction seg w ≡ id.construction) → as_edge_at seg v w i ≡ identified seg id
      as-named no-peer v w between_is direction = go (ltb i (entry_count seg - 1)) refl
        where
          by : (t : Bool) → ltb i (entry_count seg - 1) ≡ t → as_edge_at seg v w i ≡ when t (edge_of seg v w (entry_count seg - 1 - i) i 0)
          by t q = unfold as_edge_at in ap (λ x. when x (edge_of seg v w (entry_count seg - 1 - i) i 0)) q

          go : (t : Bool) → ltb i (entry_count seg - 1) ≡ t → as_edge_at seg v w i ≡ identified seg id
          go true q =
              let l = ltb-true i (entry_count seg - 1) q in
              by true q
              ∙ between-identified id v w (edge_of seg v w (entry_count seg - 1 - i) i 0)
              (sym (between_is ∙ ap (as_edge_at seg v w) (entry-only seg apart (as_of seg i) i (entry_count seg - 1) l (omega arith) refl) ∙ by true q))
              (edge-identity id at v w (entry_count seg - 1 - i) i 0 refl (sym no-peer) (direction l))
          go false q = let l = ltb-false i (entry_count seg - 1) q in by false q ∙ leaf-none no-peer (omega arith)

      -- a peer's edge: what is stored between its ends is that of the last peer of the entry with its link
      module _ (p : ℕ) (some : id.peer ≡ p + 1) where
        peer-ends : {t : Bool} → id.construction ≡ t → {e : Edge} → Mem e (stored_of seg) → solution_edge e ≡ id → Ends i (suc p) t e
        peer-ends d {e} m q =
            subst (λ t. Ends i (suc p) t e) d (subst (λ n. Ends i n id.construction e) (some ∙ add-one p) (begins-and-arrives id m q))

        peer-named : (v w : Vertex) (weight : ℕ) → between seg v w ≡ peer_edge_at seg v w weight i (peer_linked seg (link_of seg i p) i)
            → in_construction seg w ≡ id.construction → ((e : Edge) → Mem e (stored_of seg) → solution_edge e ≡ id → (e.src ≡ v) × (e.dst ≡ w))
            → when (peer_stands seg i p) (edge_of seg v w weight i (p + 1)) ≡ identified seg id
        peer-named v w weight between_is direction own = go (peer_stands seg i p) refl
          where
            stands : {t : Bool} → peer_stands seg i p ≡ t → eqb (peer_linked seg (link_of seg i p) i) (p + 1) ≡ t
            stands q = unfold peer_stands in q

            peer-is : {e : Edge} → e ≡ edge_of seg v w weight i (peer_linked seg (link_of seg i p) i) → e.peer ≡ peer_linked seg (link_of seg i p) i
            peer-is q = unfold edge_of in ap (λ (y : Edge). y.peer) q

            go : (t : Bool) → peer_stands seg i p ≡ t → when t (edge_of seg v w weight i (p + 1)) ≡ identified seg id
            go true q =
                between-identified id v w (edge_of seg v w weight i (p + 1))
                (sym (between_is ∙ ap (peer_edge_at seg v w weight i) (eqb-true _ _ (stands q)) ∙ peer-edge-some seg v w weight i (p + 1) within (omega arith)))
                (edge-identity id at v w weight i (p + 1) refl (sym some) direction)
            go false q =
                none-identified id (λ e m r.
                let x = own e m r in
                let y = peer-edge-one seg v w weight i _ (sym between_is ∙ sym (ap₂ (between seg) x.0 x.1) ∙ stored-between seg e m) in
                eqb-false _ _ (stands q) (sym (peer-is y.2) ∙ (said id e r).1 ∙ some))

        pub peer-up-named : id.construction ≡ false → peer_up seg i p ≡ identified seg id
        unfolding peer_up
        peer-up-named back =
            peer-named leaf (link_of seg i p) (entry_count seg - i) (up-own seg nc apart i p within) (against ∙ sym back) (λ e m q. peer-ends back m q)
          where
            against : in_construction seg (link_of seg i p) ≡ false
            against = unfold in_construction same_vertex link_of in refl

        pub peer-down-named : id.construction ≡ true → when (peer_stands seg i p) (edge_of seg (turned seg i p) leaf (entry_count seg - 1 - i) i (p + 1)) ≡ identified seg id
        peer-down-named forth =
            peer-named (turned seg i p) leaf (entry_count seg - 1 - i) (down-own seg nc apart i p within) (along ∙ sym forth) (λ e m q. peer-ends forth m q)
          where
            along : in_construction seg leaf ≡ true
            along = unfold in_construction in same_vertex-refl leaf

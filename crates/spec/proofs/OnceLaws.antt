-- Stored edges, chains and solutions each stand once in their lists; the ordered list holds just the chains.
-- Assumes nothing.
use Rattle.std.proofs.lemmas.Bool.{and_from}
use Prim.Native.Nat.{ℕ, zero, suc, ◌+◌, ◌-◌, ◌≤◌, ◌<◌, zero-le}
use borrow.Author.Tests.{eqb-false}
use native.Mathlib.Omega.{arith}
use mathlib.Core.Path.{◌≡◌, refl, sym, ap, ◌∙◌, subst}
use mathlib.Core.Logic.{◌⊎◌, inl, inr, ⊎_elim}
use mathlib.Core.Bool.{Bool, true, false, ◌||◌}
use mathlib.Core.List.Memᴰ
use mathlib.Core.List.Memᴰ.{append_cases, cases_cons, head, not-nil, tail}
use mathlib.Core.List.{List, [], ◌∷◌, ◌++◌, map, flat_map, reverse, reverse-cons, Memᴰ as Mem, head-eq_of_cons-eq, tail-eq_of_cons-eq}
use lib.ListN.{length}
use lib.Dec.{eqb}
use Rattle.spec.specs.declared.IsdAsn.{IsdAsn}
use Rattle.spec.specs.declared.Vertex.{Vertex}
use Rattle.spec.specs.declared.Vertex.TheVariants.{AS}
use Rattle.spec.specs.declared.Edge.{Edge}
use Rattle.spec.specs.Limits.{max_edges}
use Rattle.std.specs.Prelude.{if◌then◌else◌}
use Rattle.spec.specs.Basics.{any, filter, range, Once}
use Rattle.spec.specs.Book.{same_as, Segment, segment_at, segments, segment_count}
use Rattle.spec.specs.Edges.{same_vertex, same_ends, in_construction, edge_of, add_core_segment, as_insertions, peer_insertions, entry_insertions, insertions, lasting, firsts, stored_of, stored_edges, entry_of, as_of, leaf_as}
use Rattle.spec.specs.Chains.{allowed_kinds, IsChain, leaving, beginning, walks, chains}
use Rattle.spec.specs.Order.{compare_chains, is_lt, insert, insert_all, solutions}
use Rattle.spec.proofs.Membership.{not-both, filter-mem, map-mem, flat_map-mem, once-filter, once-map, once-flat_map}
use Rattle.spec.proofs.Vertices.{same_vertex-refl}
use Rattle.spec.proofs.ChainLaws.{chains-sound, chains-complete}

-- ---- ranges and tests of lists

pub range-mem : (i k : ℕ) {x : ℕ} → Mem x (range i k) → (i ≤ x) × (x < i + k)
unfolding range
range-mem i zero m = absurd (not-nil m)
range-mem i (suc k) {x} m = go (range-mem (i + 1) k) (cases_cons m)
  where
    go : (Mem x (range (i + 1) k) → (i + 1 ≤ x) × (x < i + 1 + k)) → (x ≡ i) ⊎ Mem x (range (i + 1) k) → (i ≤ x) × (x < i + suc k)
    go ih (inl q) = (omega arith, omega arith)
    go ih (inr l) = let h = ih l in (omega arith, omega arith)

pub once-range : (i k : ℕ) → Once (range i k)
unfolding range
once-range i zero = tt
once-range i (suc k) = (λ m. let h = range-mem (i + 1) k m in omega arith, once-range (i + 1) k)

module _ {A : Type 0} (p : A → Bool) where
  pub any-mem : {x : A} (xs : List A) → Mem x xs → p x ≡ true → any p xs ≡ true
  unfolding any
  any-mem [] m e = absurd (not-nil m)
  any-mem {x} (y ∷ ys) m e = go (λ k. any-mem ys k e) (p y) refl (cases_cons m)
    where
      go : (Mem x ys → any p ys ≡ true) → (t : Bool) → p y ≡ t → (x ≡ y) ⊎ Mem x ys → (t || any p ys) ≡ true
      go ih true q k = refl
      go ih false q (inl r) = not-both (sym (ap p r) ∙ e) q
      go ih false q (inr k) = ih k

-- ---- of one segment

pub lasting-mem : (es : List Edge) {e : Edge} → Mem e (lasting es) → Mem e es
unfolding lasting
lasting-mem [] m = m
lasting-mem (f ∷ later) {e} m = go (lasting-mem later) (any (same_ends f) later) m
  where
    go : (Mem e (lasting later) → Mem e later) → (t : Bool) → Mem e (if t then lasting later else f ∷ lasting later) → Mem e (f ∷ later)
    go ih true k = tail (ih k)
    go ih false k = ⊎_elim (λ q. head q) (λ l. tail (ih l)) (cases_cons k)

same-ends-refl : (e : Edge) → same_ends e e ≡ true
unfolding same_ends
same-ends-refl e = and_from _ _ (same_vertex-refl e.src) (same_vertex-refl e.dst)

pub once-lasting : (es : List Edge) → Once (lasting es)
unfolding lasting
once-lasting [] = tt
once-lasting (e ∷ later) = go (any (same_ends e) later) refl (once-lasting later)
  where
    go : (t : Bool) → any (same_ends e) later ≡ t → Once (lasting later) → Once (if t then lasting later else e ∷ lasting later)
    go true q ih = ih
    go false q ih = (λ m. not-both (any-mem (same_ends e) later (lasting-mem later m) (same-ends-refl e)) q, ih)

-- an insertion stands just where no later one has its ends
pub lasting-split : (es : List Edge) {e : Edge} → Mem e (lasting es)
    → (before : List Edge) × (later : List Edge) × (es ≡ before ++ e ∷ later) × (any (same_ends e) later ≡ false)
unfolding lasting
lasting-split [] m = absurd (not-nil m)
lasting-split (f ∷ later) {e} m = go (lasting-split later) (any (same_ends f) later) refl m
  where
    go : (Mem e (lasting later) → (xs : List Edge) × (ys : List Edge) × (later ≡ xs ++ e ∷ ys) × (any (same_ends e) ys ≡ false))
        → (t : Bool) → any (same_ends f) later ≡ t → Mem e (if t then lasting later else f ∷ lasting later)
        → (xs : List Edge) × (ys : List Edge) × (f ∷ later ≡ xs ++ e ∷ ys) × (any (same_ends e) ys ≡ false)
    go ih true q k = let w = ih k in (f ∷ w.0, w.1, ap (λ l. f ∷ l) w.2, w.3)
    go ih false q k =
        ⊎_elim (λ r. ([], later, ap (λ x. x ∷ later) (sym r), subst (λ x. any (same_ends x) later ≡ false) (sym r) q))
        (λ l. let w = ih l in (f ∷ w.0, w.1, ap (λ l. f ∷ l) w.2, w.3))
        (cases_cons k)

pub lasting-stands : (before : List Edge) (e : Edge) (later : List Edge) → any (same_ends e) later ≡ false → Mem e (lasting (before ++ e ∷ later))
unfolding lasting
lasting-stands [] e later q = go (any (same_ends e) later) q
  where
    go : (t : Bool) → t ≡ false → Mem e (if t then lasting later else e ∷ lasting later)
    go true r = not-both refl r
    go false r = head refl
lasting-stands (f ∷ before) e later q = go (any (same_ends f) (before ++ e ∷ later)) (lasting-stands before e later q)
  where
    go : (t : Bool) → Mem e (lasting (before ++ e ∷ later)) → Mem e (if t then lasting (before ++ e ∷ later) else f ∷ lasting (before ++ e ∷ later))
    go true k = k
    go false k = tail k

-- ---- what is known of an edge of a segment

pub record Inserted (seg : Segment) (e : Edge) : Type 0 where
  pub position : e.position ≡ seg.position
  pub kind : e.core ≡ seg.core
  pub direction : e.construction ≡ in_construction seg e.dst
  pub weight : e.weight ≤ length seg.entries
  pub shortcut : e.shortcut < length seg.entries
  pub peer : e.peer ≤ length (entry_of seg e.shortcut).peers

inserted-edge : (seg : Segment) (src dst : Vertex) (weight shortcut peer : ℕ) → weight ≤ length seg.entries → shortcut < length seg.entries
    → peer ≤ length (entry_of seg shortcut).peers → Inserted seg (edge_of seg src dst weight shortcut peer)
unfolding edge_of
inserted-edge seg src dst weight shortcut peer w h k =
    record { position = refl; kind = refl; direction = refl; weight = w; shortcut = h; peer = k }

inserted-two : (seg : Segment) (e f : Edge) → Inserted seg e → Inserted seg f → {x : Edge} → Mem x (e ∷ f ∷ []) → Inserted seg x
inserted-two seg e f p q m =
    ⊎_elim (λ r. subst (Inserted seg) (sym r) p)
    (λ k. ⊎_elim (λ r. subst (Inserted seg) (sym r) q) (λ l. absurd (not-nil l)) (cases_cons k))
    (cases_cons m)

inserted-core : (seg : Segment) {e : Edge} → Mem e (add_core_segment seg) → Inserted seg e
unfolding add_core_segment
inserted-core seg {e} m = go (eqb (length seg.entries) 0) refl m
  where
    n : ℕ
    n = length seg.entries

    first : Vertex
    first = AS (as_of seg 0)

    last : Vertex
    last = AS (leaf_as seg)

    go : (t : Bool) → eqb (length seg.entries) 0 ≡ t
        → Mem e (if t then [] else edge_of seg first last (n - 1) 0 0 ∷ edge_of seg last first (n - 1) 0 0 ∷ []) → Inserted seg e
    go true q m = absurd (not-nil m)
    go false q m =
        let h : 0 < length seg.entries = omega (arith, eqb-false (length seg.entries) 0 q) in
        inserted-two seg _ _ (inserted-edge seg first last (n - 1) 0 0 (omega arith) h zero-le) (inserted-edge seg last first (n - 1) 0 0 (omega arith) h zero-le) m

inserted-as : (seg : Segment) (i : ℕ) → i < length seg.entries → {e : Edge} → Mem e (as_insertions seg i) → Inserted seg e
unfolding as_insertions
inserted-as seg i h {e} m = go (eqb i (length seg.entries - 1)) m
  where
    n : ℕ
    n = length seg.entries

    leaf : Vertex
    leaf = AS (leaf_as seg)

    there : Vertex
    there = AS (as_of seg i)

    go : (t : Bool)
        → Mem e (if t then [] else edge_of seg leaf there (n - 1 - i) i 0 ∷ edge_of seg there leaf (n - 1 - i) i 0 ∷ []) → Inserted seg e
    go true m = absurd (not-nil m)
    go false m = inserted-two seg _ _ (inserted-edge seg leaf there (n - 1 - i) i 0 (omega arith) h zero-le) (inserted-edge seg there leaf (n - 1 - i) i 0 (omega arith) h zero-le) m

inserted-peer : (seg : Segment) (i p : ℕ) → i < length seg.entries → p < length (entry_of seg i).peers
    → {e : Edge} → Mem e (peer_insertions seg i p) → Inserted seg e
unfolding peer_insertions
inserted-peer seg i p h k m =
    inserted-two seg _ _ (inserted-edge seg _ _ _ i (p + 1) (omega arith) h (omega arith)) (inserted-edge seg _ _ _ i (p + 1) (omega arith) h (omega arith)) m

inserted-entry : (seg : Segment) (i : ℕ) → i < length seg.entries → {e : Edge} → Mem e (entry_insertions seg i) → Inserted seg e
unfolding entry_insertions
inserted-entry seg i h {e} m =
    ⊎_elim (λ k. inserted-as seg i h k)
    (λ k.
    let w = flat_map-mem (peer_insertions seg i) (range 0 (length (entry_of seg i).peers)) k in
    let r = range-mem 0 (length (entry_of seg i).peers) w.1 in
    inserted-peer seg i w.0 h (omega arith) w.2)
    (append_cases (as_insertions seg i) m)

module _ {A : Type 0} where
  pub reverse-mem : (xs : List A) {x : A} → Mem x (reverse xs) → Mem x xs
  reverse-mem [] m = m
  reverse-mem (y ∷ ys) {x} m =
      ⊎_elim (λ k. tail (reverse-mem ys k)) (λ k. ⊎_elim (λ q. head q) (λ l. absurd (not-nil l)) (cases_cons k))
      (append_cases (reverse ys) (subst (Mem x) (reverse-cons y ys) m))

pub inserted : (seg : Segment) {e : Edge} → Mem e (insertions seg) → Inserted seg e
unfolding insertions
inserted seg {e} m = go seg.core m
  where
    go : (t : Bool) → Mem e (if t then add_core_segment seg else flat_map (entry_insertions seg) (reverse (range 0 (length seg.entries)))) → Inserted seg e
    go true k = inserted-core seg k
    go false k =
        let w = flat_map-mem (entry_insertions seg) (reverse (range 0 (length seg.entries))) k in
        let r = range-mem 0 (length seg.entries) (reverse-mem (range 0 (length seg.entries)) w.1) in
        inserted-entry seg w.0 (omega arith) w.2

-- ---- of a book

pub segment-position : (b : List ℕ) (k : ℕ) → (segment_at b k).position ≡ k
unfolding segment_at
segment-position b k = refl

-- segments of one position are one
pub same-position : (b : List ℕ) (x y : Segment) → Mem x (segments b) → Mem y (segments b) → x.position ≡ y.position → x ≡ y
unfolding segments
same-position b x y k l q =
    let u = map-mem (segment_at b) (range 0 (segment_count b)) k in
    let v = map-mem (segment_at b) (range 0 (segment_count b)) l in
    let p : u.0 ≡ v.0 = sym (segment-position b u.0) ∙ ap (λ (s : Segment). s.position) (sym u.2) ∙ q ∙ ap (λ (s : Segment). s.position) v.2 ∙ segment-position b v.0 in
    u.2 ∙ ap (segment_at b) p ∙ sym v.2

pub once-stored : (b : List ℕ) → Once (stored_edges b)
unfolding stored_edges stored_of firsts segments
once-stored b =
    once-flat_map stored_of (λ s. once-lasting (insertions s)) (firsts (segments b))
    (once-filter _ (segments b) (once-map (segment_at b) (λ x y q. sym (segment-position b x) ∙ ap (λ (s : Segment). s.position) q ∙ segment-position b y) (range 0 (segment_count b)) (once-range 0 (segment_count b))))
    (λ x y k l z p q.
    same-position b x y (filter-mem _ (segments b) k).0 (filter-mem _ (segments b) l).0
    (sym (inserted x (lasting-mem (insertions x) p)).position ∙ (inserted y (lasting-mem (insertions y) q)).position))

-- ---- walks and chains

module _ (edges : List Edge) (goal : Vertex) (once : Once edges) where
  starts : (onward : Vertex → List (List Edge)) (e : Edge) {c : List Edge} → Mem c (beginning onward goal e) → (d : List Edge) × (c ≡ e ∷ d)
  unfolding beginning
  starts onward e {c} m = go (same_vertex e.dst goal) m
    where
      go : (t : Bool) → Mem c (if t then (e ∷ []) ∷ [] else map (λ es. e ∷ es) (onward e.dst)) → (d : List Edge) × (c ≡ e ∷ d)
      go true k = ([], ⊎_elim (λ q. q) (λ l. absurd (not-nil l)) (cases_cons k))
      go false k = let w = map-mem (λ es. e ∷ es) (onward e.dst) k in (w.0, w.2)

  once-beginning : (onward : Vertex → List (List Edge)) → ((v : Vertex) → Once (onward v)) → (e : Edge) → Once (beginning onward goal e)
  unfolding beginning
  once-beginning onward ih e = go (same_vertex e.dst goal)
    where
      go : (t : Bool) → Once (if t then (e ∷ []) ∷ [] else map (λ es. e ∷ es) (onward e.dst))
      go true = (λ m. absurd (not-nil m), tt)
      go false = once-map (λ es. e ∷ es) (λ x y q. tail-eq_of_cons-eq q) (onward e.dst) (ih e.dst)

  pub once_walks : (most : ℕ) (at : Vertex) → Once (walks most edges goal at)
  unfolding walks leaving
  once_walks zero at = tt
  once_walks (suc most) at =
      once-flat_map (beginning (walks most edges goal) goal) (once-beginning (walks most edges goal) (once_walks most))
      (leaving at edges) (once-filter _ edges once)
      (λ e f k l c p q.
      head-eq_of_cons-eq (sym (starts (walks most edges goal) e p).1 ∙ (starts (walks most edges goal) f q).1))

pub once-chains : (b : List ℕ) (src dst : IsdAsn) → Once (chains b src dst)
unfolding chains
once-chains b src dst = go (same_as src dst)
  where
    go : (t : Bool) → Once (if t then [] else filter allowed_kinds (walks max_edges (stored_edges b) (AS dst) (AS src)))
    go true = tt
    go false = once-filter allowed_kinds _ (once_walks (stored_edges b) (AS dst) (once-stored b) max_edges (AS src))

-- ---- the ordered list

module _ (digest : List ℕ → List ℕ) (b : List ℕ) where
  pub insert-mem : (c : List Edge) (ds : List (List Edge)) {x : List Edge} → Mem x (insert digest b c ds) → (x ≡ c) ⊎ Mem x ds
  unfolding insert
  insert-mem c [] m = cases_cons m
  insert-mem c (d ∷ ds) {x} m = go (insert-mem c ds) (is_lt (compare_chains digest b c d)) m
    where
      go : (Mem x (insert digest b c ds) → (x ≡ c) ⊎ Mem x ds) → (t : Bool)
          → Mem x (if t then c ∷ d ∷ ds else d ∷ insert digest b c ds) → (x ≡ c) ⊎ Mem x (d ∷ ds)
      go ih true k = cases_cons k
      go ih false k = ⊎_elim (λ q. inr (head q)) (λ l. ⊎_elim (λ q. inl q) (λ r. inr (tail r)) (ih l)) (cases_cons k)

  mem-insert : (c : List Edge) (ds : List (List Edge)) {x : List Edge} → (x ≡ c) ⊎ Mem x ds → Mem x (insert digest b c ds)
  unfolding insert
  mem-insert c [] m = ⊎_elim (λ q. head q) (λ l. absurd (not-nil l)) m
  mem-insert c (d ∷ ds) {x} m = go (mem-insert c ds) (is_lt (compare_chains digest b c d)) m
    where
      go : ((x ≡ c) ⊎ Mem x ds → Mem x (insert digest b c ds)) → (t : Bool) → (x ≡ c) ⊎ Mem x (d ∷ ds)
          → Mem x (if t then c ∷ d ∷ ds else d ∷ insert digest b c ds)
      go ih true k = ⊎_elim (λ q. head q) (λ l. tail l) k
      go ih false (inl q) = tail (ih (inl q))
      go ih false (inr l) = ⊎_elim (λ q. head q) (λ r. tail (ih (inr r))) (cases_cons l)

  once-insert : (c : List Edge) (ds : List (List Edge)) → (Mem c ds → ⊥) → Once ds → Once (insert digest b c ds)
  unfolding insert
  once-insert c [] n o = (n, tt)
  once-insert c (d ∷ ds) n o = go (once-insert c ds (λ m. n (tail m)) o.1) (is_lt (compare_chains digest b c d))
    where
      go : Once (insert digest b c ds) → (t : Bool) → Once (if t then c ∷ d ∷ ds else d ∷ insert digest b c ds)
      go ih true = (n, o)
      go ih false = (λ m. ⊎_elim (λ q. n (head (sym q))) (λ k. o.0 k) (insert-mem c ds m), ih)

  pub all-mem : (ds cs : List (List Edge)) {x : List Edge} → Mem x (insert_all digest b ds cs) → Mem x ds ⊎ Mem x cs
  unfolding insert_all
  all-mem ds [] m = inl m
  all-mem ds (c ∷ cs) m =
      ⊎_elim (λ k. ⊎_elim (λ q. inr (head q)) (λ l. inl l) (insert-mem c ds k)) (λ k. inr (tail k)) (all-mem (insert digest b c ds) cs m)

  pub mem-all : (ds cs : List (List Edge)) {x : List Edge} → Mem x ds ⊎ Mem x cs → Mem x (insert_all digest b ds cs)
  unfolding insert_all
  mem-all ds [] m = ⊎_elim (λ k. k) (λ l. absurd (not-nil l)) m
  mem-all ds (c ∷ cs) m =
      mem-all (insert digest b c ds) cs
      (⊎_elim (λ k. inl (mem-insert c ds (inr k))) (λ k. ⊎_elim (λ q. inl (mem-insert c ds (inl q))) (λ l. inr l) (cases_cons k)) m)

  -- insertion of what is not there keeps each element once
  pub apart-insert : (c : List Edge) (ds cs : List (List Edge)) → (Mem c cs → ⊥) → ((x : List Edge) → Mem x (c ∷ cs) → Mem x ds → ⊥)
      → (x : List Edge) → Mem x cs → Mem x (insert digest b c ds) → ⊥
  apart-insert c ds cs n apart x k m = ⊎_elim (λ q. n (Memᴰ.cast (sym q) k)) (λ l. apart x (tail k) l) (insert-mem c ds m)

  pub once-all : (ds cs : List (List Edge)) → Once ds → Once cs → ((x : List Edge) → Mem x cs → Mem x ds → ⊥) → Once (insert_all digest b ds cs)
  unfolding insert_all
  once-all ds [] o p apart = o
  once-all ds (c ∷ cs) o p apart =
      once-all (insert digest b c ds) cs (once-insert c ds (apart c (head refl)) o) p.1 (apart-insert c ds cs p.0 apart)

  -- ---- how many

  length-insert : (c : List Edge) (ds : List (List Edge)) → length (insert digest b c ds) ≡ suc (length ds)
  unfolding insert
  length-insert c [] = refl
  length-insert c (d ∷ ds) = go (length-insert c ds) (is_lt (compare_chains digest b c d))
    where
      go : length (insert digest b c ds) ≡ suc (length ds) → (t : Bool) → length (if t then c ∷ d ∷ ds else d ∷ insert digest b c ds) ≡ suc (suc (length ds))
      go ih true = refl
      go ih false = ap suc ih

  pub length-all : (ds cs : List (List Edge)) → length (insert_all digest b ds cs) ≡ length ds + length cs
  unfolding insert_all
  length-all ds [] = omega arith
  length-all ds (c ∷ cs) = length-all (insert digest b c ds) cs ∙ omega (arith, length-insert c ds)

  module _ (src dst : IsdAsn) where
    pub solutions-sound : (c : List Edge) → Mem c (solutions digest b src dst) → IsChain b src dst c
    unfolding solutions
    solutions-sound c m = chains-sound b src dst c (⊎_elim (λ k. absurd (not-nil k)) (λ k. k) (all-mem [] (chains b src dst) m))

    pub solutions-complete : (c : List Edge) → IsChain b src dst c → Mem c (solutions digest b src dst)
    unfolding solutions
    solutions-complete c h = mem-all [] (chains b src dst) (inr (chains-complete b src dst c h))

    pub once-solutions : Once (solutions digest b src dst)
    unfolding solutions
    once-solutions = once-all [] (chains b src dst) tt (once-chains b src dst) (λ x k l. not-nil l)

    -- the count of the solutions is that of the chains
    pub length-solutions : length (solutions digest b src dst) ≡ length (chains b src dst)
    unfolding solutions
    length-solutions = length-all [] (chains b src dst) ∙ omega arith

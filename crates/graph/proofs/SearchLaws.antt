-- The search segment by segment: what the loops add up to is what the definitions of chains say.
-- Assumes nothing.
use Rattle.std.proofs.lemmas.List.{map-append}
use Prim.Native.Nat.{ℕ, zero, suc, ◌+◌, ◌-◌, ◌<◌, ◌≤◌}
use native.Mathlib.Omega.{arith}
use native.Mathlib.Nat.{add-zero}
use mathlib.Core.Path.{◌≡◌, refl, sym, ap, ap₂, ◌∙◌}
use mathlib.Core.Bool.{Bool, true, false, ◌&&◌, not, and-false}
use mathlib.Core.List.{List, [], ◌∷◌, ◌++◌, map, flat_map, append_assoc, Memᴰ as Mem}
use Rattle.spec.specs.declared.IsdAsn.{IsdAsn}
use Rattle.spec.specs.declared.Vertex.{Vertex}
use Rattle.spec.specs.declared.Vertex.TheVariants.{AS}
use Rattle.spec.specs.declared.Edge.{Edge}
use Rattle.spec.specs.Limits.{max_edges}
use Rattle.std.specs.Prelude.{if◌then◌else◌}
use Rattle.spec.specs.Basics.{filter, range}
use Rattle.spec.specs.Book.{Segment, segments, segment_at, segment_count}
use Rattle.spec.specs.Edges.{same_vertex, insertions, is_first, firsts, stored_of, stored_edges}
use Rattle.spec.specs.Chains.{allowed_kinds, leaves, leaving, beginning, walks}
use Rattle.spec.proofs.Membership.{filter-mem, map-mem}
use Rattle.spec.proofs.Lists.{flat_map-append}
use Rattle.spec.proofs.OnceLaws.{inserted, lasting-mem}
use Rattle.graph.specs.Lookup.{has_ends, between, leaving_of}
use Rattle.graph.specs.Search.{over_firsts, chains_from, pair, triple, pairs_in, triples_in, across_with, chains_with}
use Rattle.graph.proofs.SearchLists.{filter-append, filter_same, filter-twice, flat_map-filter, through, flat_map-one, flat_map-same, flat_map-none}

-- ---- positions

module _ {A : Type 0} (f : Segment → List A) (b : List ℕ) where
  over-from : (k left : ℕ) → flat_map f (filter (is_first (segments b)) (map (segment_at b) (range k left))) ≡ over_firsts f b k left
  unfolding over_firsts range filter flat_map
  over-from k zero = refl
  over-from k (suc left) = go (is_first (segments b) (segment_at b k)) (over-from (k + 1) left)
    where
      rest : List Segment
      rest = filter (is_first (segments b)) (map (segment_at b) (range (k + 1) left))

      go : (t : Bool) → flat_map f rest ≡ over_firsts f b (k + 1) left
          → flat_map f (if t then segment_at b k ∷ rest else rest) ≡ (if t then f (segment_at b k) else []) ++ over_firsts f b (k + 1) left
      go true ih = ap (λ l. f (segment_at b k) ++ l) ih
      go false ih = ih

  -- what the first of equal segments give, position by position
  pub over-firsts : flat_map f (firsts (segments b)) ≡ over_firsts f b 0 (segment_count b)
  unfolding firsts
  over-firsts =
      let e : segments b ≡ map (segment_at b) (range 0 (segment_count b)) = unfold segments in refl in
      ap (λ l. flat_map f (filter (is_first (segments b)) l)) e ∙ over-from 0 (segment_count b)

  -- a loop over positions up to n: a turn at a first of its equals, one at another or where nothing is found, and the end
  pub over-turn : (k n : ℕ) → k < n → is_first (segments b) (segment_at b k) ≡ true
      → over_firsts f b k (n - k) ≡ f (segment_at b k) ++ over_firsts f b (k + 1) (n - (k + 1))
  unfolding over_firsts
  over-turn k n h q =
      let e : n - k ≡ suc (n - (k + 1)) = omega arith in
      ap (over_firsts f b k) e ∙ ap (λ t. (if t then f (segment_at b k) else []) ++ over_firsts f b (k + 1) (n - (k + 1))) q

  pub over_skip : (k n : ℕ) → k < n → (is_first (segments b) (segment_at b k) ≡ true → f (segment_at b k) ≡ [])
      → over_firsts f b k (n - k) ≡ over_firsts f b (k + 1) (n - (k + 1))
  unfolding over_firsts
  over_skip k n h none =
      let e : n - k ≡ suc (n - (k + 1)) = omega arith in
      ap (over_firsts f b k) e ∙ ap (λ l. l ++ over_firsts f b (k + 1) (n - (k + 1))) (go (is_first (segments b) (segment_at b k)) refl)
    where
      go : (t : Bool) → is_first (segments b) (segment_at b k) ≡ t → (if t then f (segment_at b k) else []) ≡ []
      go true q = none q
      go false q = refl

  pub over-end : (k n : ℕ) → n ≤ k → over_firsts f b k (n - k) ≡ []
  unfolding over_firsts
  over-end k n h =
      let e : n - k ≡ 0 = omega arith in
      ap (over_firsts f b k) e

  pub over-split : (k m n : ℕ) → over_firsts f b k (m + n) ≡ over_firsts f b k m ++ over_firsts f b (k + m) n
  unfolding over_firsts
  over-split k zero n =
      let e : zero + n ≡ n = omega arith in
      ap₂ (over_firsts f b) (sym (add-zero k)) e
  over-split k (suc m) n =
      let e : suc m + n ≡ suc (m + n) = omega arith in
      let e' : k + 1 + m ≡ k + suc m = omega arith in
      let here : List A = if is_first (segments b) (segment_at b k) then f (segment_at b k) else [] in
      ap (over_firsts f b k) e
      ∙ ap (λ l. here ++ l) (over-split (k + 1) m n ∙ ap (λ i. over_firsts f b (k + 1) m ++ over_firsts f b i n) e')
      ∙ sym (append_assoc here (over_firsts f b (k + 1) m) (over_firsts f b (k + suc m) n))

  -- positions that give nothing
  pub over_none : (k left : ℕ) → ((j : ℕ) → k ≤ j → j < k + left → f (segment_at b j) ≡ []) → over_firsts f b k left ≡ []
  unfolding over_firsts
  over_none k zero h = refl
  over_none k (suc left) h =
      go (is_first (segments b) (segment_at b k)) (h k (omega arith) (omega arith)) (over_none (k + 1) left (λ j p q. h j (omega arith) (omega arith)))
    where
      go : (t : Bool) → f (segment_at b k) ≡ [] → over_firsts f b (k + 1) left ≡ []
          → (if t then f (segment_at b k) else []) ++ over_firsts f b (k + 1) left ≡ []
      go true e ih = ap₂ (λ k l. k ++ l) e ih
      go false e ih = ih

-- ---- edges of a segment

pub leaving-over : (b : List ℕ) (v : Vertex) → leaving v (stored_edges b) ≡ flat_map (leaving_of v) (firsts (segments b))
unfolding leaving stored_edges leaving_of
leaving-over b v = through (filter (leaves v)) (unfold filter in refl) (filter-append (leaves v)) stored_of (firsts (segments b))

leaving-kind : (v : Vertex) (seg : Segment) {e : Edge} → Mem e (leaving_of v seg) → e.core ≡ seg.core
unfolding leaving_of stored_of
leaving-kind v seg m = (inserted seg (lasting-mem (insertions seg) (filter-mem (leaves v) (stored_of seg) m).0)).kind

module _ {A B C : Type 0} (g : B → C) (f : A → B) where
  map-twice : (xs : List A) → map g (map f xs) ≡ map (λ x. g (f x)) xs
  map-twice [] = refl
  map-twice (x ∷ xs) = ap (λ l. g (f x) ∷ l) (map-twice xs)

module _ (b : List ℕ) (dst : IsdAsn) where
  abbrev arrives : Edge → Bool
  arrives e = same_vertex e.dst (AS dst)

  arriving-between : (v : Vertex) (seg : Segment) → filter arrives (leaving_of v seg) ≡ between seg v (AS dst)
  unfolding leaving_of between
  arriving-between v seg = filter-twice (leaves v) arrives (has_ends v (AS dst)) (λ e. unfold has_ends leaves in refl) (stored_of seg)

  -- ---- chains of one edge

  pub from-arrived : (e : Edge) → same_vertex e.dst (AS dst) ≡ true → chains_from b dst e ≡ (e ∷ []) ∷ []
  unfolding chains_from beginning filter allowed_kinds
  from-arrived e q =
      ap (λ t. filter allowed_kinds (if t then (e ∷ []) ∷ [] else map (λ es. e ∷ es) (walks (max_edges - 1) (stored_edges b) (AS dst) e.dst))) q

  -- ---- a last edge

  -- over one edge only those lead that arrive
  last-walks : (gs : List Edge) → flat_map (beginning (walks 0 (stored_edges b) (AS dst)) (AS dst)) gs ≡ map (λ g. g ∷ []) (filter arrives gs)
  unfolding beginning walks
  last-walks gs = sym (flat_map-filter arrives (λ g. (g ∷ []) ∷ []) gs) ∙ flat_map-one (λ g. g ∷ []) (filter arrives gs)

  -- three edges of these kinds are allowed
  abbrev kinds3 : Bool → Bool → Bool → Bool
  kinds3 s t u = not s && t && not u

  module _ (e f : Edge) where
    -- what is allowed of the ways over e, f and one of a list of edges
    last : List Edge → List (List Edge)
    last gs =
        filter allowed_kinds (map (λ es. e ∷ es) (map (λ es. f ∷ es) (flat_map (beginning (walks 0 (stored_edges b) (AS dst)) (AS dst)) gs)))

    last_none : last [] ≡ []
    unfolding last flat_map filter
    last_none = refl

    last-join : (xs ys : List Edge) → last (xs ++ ys) ≡ last xs ++ last ys
    unfolding last
    last-join xs ys = simp (flat_map-append, map-append, filter-append)

    three : (g : Edge) → allowed_kinds (e ∷ f ∷ g ∷ []) ≡ kinds3 e.core f.core g.core
    unfolding allowed_kinds
    three g = refl

    last-kind : (u : Bool) (gs : List Edge) → ((g : Edge) → Mem g gs → g.core ≡ u)
        → last gs ≡ (if kinds3 e.core f.core u then map (triple b dst e f) (filter arrives gs) else [])
    unfolding last triple
    last-kind u gs h =
        ap (λ l. filter allowed_kinds (map (λ es. e ∷ es) (map (λ es. f ∷ es) l))) (last-walks gs)
        ∙ ap (λ l. filter allowed_kinds (map (λ es. e ∷ es) l)) (map-twice (λ es. f ∷ es) (λ g. g ∷ []) (filter arrives gs))
        ∙ ap (filter allowed_kinds) (map-twice (λ es. e ∷ es) (λ g. f ∷ g ∷ []) (filter arrives gs))
        ∙ filter_same allowed_kinds (kinds3 e.core f.core u) (map (λ g. e ∷ f ∷ g ∷ []) (filter arrives gs)) allowed
      where
        allowed : (c : List Edge) → Mem c (map (λ g. e ∷ f ∷ g ∷ []) (filter arrives gs)) → allowed_kinds c ≡ kinds3 e.core f.core u
        allowed c m =
            let w = map-mem (λ g. e ∷ f ∷ g ∷ []) (filter arrives gs) m in
            ap allowed_kinds w.2 ∙ three w.0 ∙ ap (kinds3 e.core f.core) (h w.0 (filter-mem arrives gs w.1).0)

    -- ---- a third edge

    -- the ways that are allowed over e, f and one edge more, segment by segment
    last-over : filter allowed_kinds (map (λ es. e ∷ es) (map (λ es. f ∷ es) (walks 1 (stored_edges b) (AS dst) f.dst)))
        ≡ flat_map (λ seg. if kinds3 e.core f.core seg.core then map (triple b dst e f) (between seg f.dst (AS dst)) else []) (firsts (segments b))
    unfolding walks last
    last-over =
        ap last (leaving-over b f.dst)
        ∙ through last last_none last-join (leaving_of f.dst) (firsts (segments b))
        ∙ flat_map-same _ _ (firsts (segments b))
        (λ seg m.
        last-kind seg.core (leaving_of f.dst seg) (λ g k. leaving-kind f.dst seg k)
        ∙ ap (λ l. if kinds3 e.core f.core seg.core then map (triple b dst e f) l else []) (arriving-between f.dst seg))

    -- after a non-core and a core edge
    last-triples : e.core ≡ false → f.core ≡ true
        → filter allowed_kinds (map (λ es. e ∷ es) (map (λ es. f ∷ es) (walks 1 (stored_edges b) (AS dst) f.dst)))
        ≡ over_firsts (triples_in b dst e f) b 0 (segment_count b)
    last-triples p q = last-over ∙ flat_map-same _ _ (firsts (segments b)) (λ seg m. turned seg) ∙ over-firsts (triples_in b dst e f) b
      where
        turn : (u : Bool) (l : List (List Edge)) → (if not u then l else []) ≡ (if u then [] else l)
        turn true l = refl
        turn false l = refl

        turned : (seg : Segment)
            → (if kinds3 e.core f.core seg.core then map (triple b dst e f) (between seg f.dst (AS dst)) else []) ≡ triples_in b dst e f seg
        turned seg =
            let l : List (List Edge) = map (triple b dst e f) (between seg f.dst (AS dst)) in
            ap₂ (λ s t. if kinds3 s t seg.core then l else []) p q ∙ turn seg.core l ∙ (unfold triples_in in refl)

    -- after other kinds no third edge is allowed
    last-nothing : (not e.core && f.core) ≡ false
        → filter allowed_kinds (map (λ es. e ∷ es) (map (λ es. f ∷ es) (walks 1 (stored_edges b) (AS dst) f.dst))) ≡ []
    last-nothing q =
        last-over
        ∙ flat_map-none _ (firsts (segments b))
        (λ seg m. ap (λ t. if t && not seg.core then map (triple b dst e f) (between seg f.dst (AS dst)) else []) q)

    -- ---- a second edge

    -- what is allowed of the ways that go on from e with f
    second : List (List Edge)
    second = filter allowed_kinds (map (λ es. e ∷ es) (beginning (walks 1 (stored_edges b) (AS dst)) (AS dst) f))

    -- the way ends with f, or goes on
    second_is : second
        ≡ (if arrives f then (if not (e.core && f.core) then (e ∷ f ∷ []) ∷ [] else [])
        else filter allowed_kinds (map (λ es. e ∷ es) (map (λ es. f ∷ es) (walks 1 (stored_edges b) (AS dst) f.dst))))
    unfolding second beginning
    second_is = go (arrives f)
      where
        alone : filter allowed_kinds ((e ∷ f ∷ []) ∷ []) ≡ (if not (e.core && f.core) then (e ∷ f ∷ []) ∷ [] else [])
        alone = unfold filter allowed_kinds in refl

        go : (t : Bool)
            → filter allowed_kinds (map (λ es. e ∷ es) (if t then (f ∷ []) ∷ [] else map (λ es. f ∷ es) (walks 1 (stored_edges b) (AS dst) f.dst)))
            ≡ (if t then (if not (e.core && f.core) then (e ∷ f ∷ []) ∷ [] else [])
            else filter allowed_kinds (map (λ es. e ∷ es) (map (λ es. f ∷ es) (walks 1 (stored_edges b) (AS dst) f.dst))))
        go true = alone
        go false = refl

    -- what `second` is, by whether f arrives
    ending : Bool → Bool → List (List Edge) → List (List Edge)
    ending t u further = if t then (if not u then (e ∷ f ∷ []) ∷ [] else []) else further

    second-by : (u : Bool) (further : List (List Edge)) → (e.core && f.core) ≡ u
        → filter allowed_kinds (map (λ es. e ∷ es) (map (λ es. f ∷ es) (walks 1 (stored_edges b) (AS dst) f.dst))) ≡ further
        → second ≡ ending (arrives f) u further
    unfolding ending
    second-by u further p q = second_is ∙ ap₂ (ending (arrives f)) p q

    second-cores : e.core ≡ true → f.core ≡ true → second ≡ []
    second-cores p q =
        second-by true [] (ap₂ (λ s t. s && t) p q) (last-nothing (ap (λ s. not s && f.core) p)) ∙ go (arrives f)
      where
        go : (t : Bool) → ending t true [] ≡ []
        go true = unfold ending in refl
        go false = unfold ending in refl

    second-across : e.core ≡ false → f.core ≡ true → second ≡ across_with b dst e f
    unfolding across_with pair ending
    second-across p q = second-by false (over_firsts (triples_in b dst e f) b 0 (segment_count b)) (ap₂ (λ s t. s && t) p q) (last-triples p q)

    second-other : f.core ≡ false → second ≡ (if arrives f then pair b dst e f ∷ [] else [])
    unfolding pair ending
    second-other q =
        second-by false [] (ap (λ t. e.core && t) q ∙ and-false e.core) (last-nothing (ap (λ t. not e.core && t) q ∙ and-false (not e.core)))

  module _ (e : Edge) where
    -- what is allowed of the ways that go on from e with one of a list of edges
    onward : List Edge → List (List Edge)
    onward fs = filter allowed_kinds (map (λ es. e ∷ es) (flat_map (beginning (walks 1 (stored_edges b) (AS dst)) (AS dst)) fs))

    onward-none : onward [] ≡ []
    unfolding onward flat_map filter
    onward-none = refl

    onward-join : (xs ys : List Edge) → onward (xs ++ ys) ≡ onward xs ++ onward ys
    unfolding onward
    onward-join xs ys = simp (flat_map-append, map-append, filter-append)

    onward-each : (fs : List Edge) → onward fs ≡ flat_map (second e) fs
    unfolding onward second
    onward-each fs =
        through (λ l. filter allowed_kinds (map (λ es. e ∷ es) l)) (unfold filter in refl) (λ xs ys. simp (map-append, filter-append))
        (beginning (walks 1 (stored_edges b) (AS dst)) (AS dst)) fs

    onward-with : (seg : Segment) → onward (leaving_of e.dst seg) ≡ chains_with b dst e seg
    unfolding chains_with pairs_in
    onward-with seg = onward-each (leaving_of e.dst seg) ∙ go seg.core refl e.core refl
      where
        kind : {f : Edge} → Mem f (leaving_of e.dst seg) → f.core ≡ seg.core
        kind m = leaving-kind e.dst seg m

        go : (t : Bool) → seg.core ≡ t → (u : Bool) → e.core ≡ u
            → flat_map (second e) (leaving_of e.dst seg)
            ≡ (if t then (if u then [] else flat_map (across_with b dst e) (leaving_of e.dst seg)) else map (pair b dst e) (between seg e.dst (AS dst)))
        go true p true q = flat_map-none (second e) (leaving_of e.dst seg) (λ f m. second-cores e f q (kind m ∙ p))
        go true p false q = flat_map-same (second e) (across_with b dst e) (leaving_of e.dst seg) (λ f m. second-across e f q (kind m ∙ p))
        go false p u q =
            flat_map-same (second e) (λ f. if arrives f then pair b dst e f ∷ [] else []) (leaving_of e.dst seg) (λ f m. second-other e f (kind m ∙ p))
            ∙ sym (flat_map-filter arrives (λ f. pair b dst e f ∷ []) (leaving_of e.dst seg))
            ∙ flat_map-one (pair b dst e) (filter arrives (leaving_of e.dst seg))
            ∙ ap (map (pair b dst e)) (arriving-between e.dst seg)

    pub from-onward : same_vertex e.dst (AS dst) ≡ false → chains_from b dst e ≡ over_firsts (chains_with b dst e) b 0 (segment_count b)
    unfolding chains_from beginning walks onward
    from-onward q =
        ap (λ t. filter allowed_kinds (if t then (e ∷ []) ∷ [] else map (λ es. e ∷ es) (walks (max_edges - 1) (stored_edges b) (AS dst) e.dst))) q
        ∙ ap onward (leaving-over b e.dst)
        ∙ through onward onward-none onward-join (leaving_of e.dst) (firsts (segments b))
        ∙ flat_map-same _ _ (firsts (segments b)) (λ seg m. onward-with seg)
        ∙ over-firsts (chains_with b dst e) b

-- The chains that the search finds are all chains, each once; in order they are the solutions.
-- Assumes nothing.
use Prim.Native.Nat.{ℕ, ◌-◌}
use native.Mathlib.Omega.{arith}
use mathlib.Core.Path.{◌≡◌, refl, sym, ap, ◌∙◌, subst}
use mathlib.Core.Logic.{⊎_elim}
use mathlib.Core.Bool.{Bool, true, false}
use mathlib.Core.List.Memᴰ.{cases_cons, not-nil}
use mathlib.Core.List.{List, [], ◌∷◌, map, flat_map, Memᴰ as Mem, head-eq_of_cons-eq, tail-eq_of_cons-eq}
use lib.ListN.{length}
use Rattle.spec.specs.declared.IsdAsn.{IsdAsn}
use Rattle.spec.specs.declared.Vertex.TheVariants.{AS}
use Rattle.spec.specs.declared.Edge.{Edge}
use Rattle.std.specs.Prelude.{Ok, if◌then◌else◌}
use Rattle.spec.specs.Limits.{max_edges}
use Rattle.spec.specs.Basics.{filter, range, Once}
use Rattle.spec.specs.Book.{same_as, Segment, segments, segment_at, segment_count, verdict}
use Rattle.spec.specs.Edges.{same_vertex, insertions, is_first, firsts, stored_of, stored_edges}
use Rattle.spec.specs.Chains.{IsChain, allowed_kinds, leaves, leaving, beginning, walks, chains}
use Rattle.spec.specs.Order.{insert_all, solutions}
use Rattle.spec.specs.Loopless.{Apart}
use Rattle.spec.proofs.Membership.{filter-mem, map-mem, flat_map-mem, mem-flat_map, once-filter, once-map, once-flat_map}
use Rattle.spec.proofs.LoopEdges.{loopless}
use Rattle.spec.proofs.ChainLaws.{allowed-length, chains-sound, chains-complete}
use Rattle.spec.proofs.OnceLaws.{length-all, inserted, lasting-mem, segment-position, same-position, once-range, once-stored, once_walks}
use Rattle.spec.proofs.OrderLaws.{sorted-any}
use Rattle.graph.specs.Lookup.{leaving_of}
use Rattle.graph.specs.Leaving.{leaving_in}
use Rattle.graph.specs.Search.{over_firsts, chains_from, chains_in, found_chains}
use Rattle.graph.proofs.LeavingLaws.{leaving-once, leaving-mem, mem-leaving}
use Rattle.graph.proofs.PushedLaws.{Sized}
use Rattle.graph.proofs.SearchLists.{filter-append, through, flat_map-twice}
use Rattle.graph.proofs.SearchLaws.{over-firsts, leaving-over}

-- ---- the first of equal segments, and what leaves the source in them

once-firsts : (b : List ℕ) → Once (firsts (segments b))
unfolding firsts segments
once-firsts b =
    once-filter _ (segments b)
    (once-map (segment_at b) (λ x y q. sym (segment-position b x) ∙ ap (λ (s : Segment). s.position) q ∙ segment-position b y) (range 0 (segment_count b)) (once-range 0 (segment_count b)))

first-mem : (b : List ℕ) {s : Segment} → Mem s (firsts (segments b)) → Mem s (segments b)
unfolding firsts
first-mem b m = (filter-mem (is_first (segments b)) (segments b) m).0

leaving-position : (src : IsdAsn) (seg : Segment) {e : Edge} → Mem e (leaving_of (AS src) seg) → e.position ≡ seg.position
unfolding leaving_of stored_of
leaving-position src seg m = (inserted seg (lasting-mem (insertions seg) (filter-mem (leaves (AS src)) (stored_of seg) m).0)).position

-- ---- the chains that begin with an edge

module _ (b : List ℕ) (dst : IsdAsn) where
  from-once : (e : Edge) → Once (chains_from b dst e)
  unfolding chains_from beginning
  from-once e = once-filter allowed_kinds _ (go (same_vertex e.dst (AS dst)))
    where
      go : (t : Bool) → Once (if t then (e ∷ []) ∷ [] else map (λ es. e ∷ es) (walks (max_edges - 1) (stored_edges b) (AS dst) e.dst))
      go true = (λ m. absurd (not-nil m), tt)
      go false = once-map (λ es. e ∷ es) (λ x y q. tail-eq_of_cons-eq q) (walks (max_edges - 1) (stored_edges b) (AS dst) e.dst) (once_walks (stored_edges b) (AS dst) (once-stored b) (max_edges - 1) e.dst)

  from-starts : (e : Edge) {c : List Edge} → Mem c (chains_from b dst e) → (d : List Edge) × (c ≡ e ∷ d)
  unfolding chains_from beginning
  from-starts e {c} m = go (same_vertex e.dst (AS dst)) (filter-mem allowed_kinds _ m).0
    where
      go : (t : Bool) → Mem c (if t then (e ∷ []) ∷ [] else map (λ es. e ∷ es) (walks (max_edges - 1) (stored_edges b) (AS dst) e.dst)) → (d : List Edge) × (c ≡ e ∷ d)
      go true k = ([], ⊎_elim (λ q. q) (λ l. absurd (not-nil l)) (cases_cons k))
      go false k = let w = map-mem (λ es. e ∷ es) (walks (max_edges - 1) (stored_edges b) (AS dst) e.dst) k in (w.0, w.2)

  module _ (ok : verdict b ≡ Ok tt) (src : IsdAsn) where
    first-apart : (seg : Segment) → Mem seg (firsts (segments b)) → Apart seg
    first-apart seg m = (loopless b ok (first-mem b m)).apart

    abbrev here : Segment → List Edge
    here seg = leaving_in seg src

    abbrev starts : List Edge
    starts = flat_map here (firsts (segments b))

    starts-once : Once starts
    starts-once =
        once-flat_map here (λ seg. leaving-once seg src) (firsts (segments b)) (once-firsts b)
        (λ x y k l e p q.
        same-position b x y (first-mem b k) (first-mem b l) (sym (leaving-position src x (leaving-mem x (first-apart x k) src p)) ∙ leaving-position src y (leaving-mem y (first-apart y l) src q)))

    -- by edges that leave the source, as the search lists them and as the definitions do
    found_from : same_as src dst ≡ false → found_chains b dst src ≡ flat_map (chains_from b dst) starts
    unfolding found_chains chains_in
    found_from q =
        ap (λ t. if t then [] else over_firsts (chains_in b dst src) b 0 (segment_count b)) q
        ∙ sym (over-firsts (chains_in b dst src) b)
        ∙ sym (flat_map-twice (chains_from b dst) here (firsts (segments b)))

    chains-from : same_as src dst ≡ false → chains b src dst ≡ flat_map (chains_from b dst) (flat_map (leaving_of (AS src)) (firsts (segments b)))
    unfolding chains walks chains_from
    chains-from q =
        ap (λ t. if t then [] else filter allowed_kinds (walks max_edges (stored_edges b) (AS dst) (AS src))) q
        ∙ through (filter allowed_kinds) (unfold filter in refl) (filter-append allowed_kinds) (beginning (walks (max_edges - 1) (stored_edges b) (AS dst)) (AS dst)) (leaving (AS src) (stored_edges b))
        ∙ ap (flat_map (chains_from b dst)) (leaving-over b (AS src))

    none_found : same_as src dst ≡ true → found_chains b dst src ≡ []
    unfolding found_chains
    none_found q = ap (λ t. if t then [] else over_firsts (chains_in b dst src) b 0 (segment_count b)) q

    no-chains : same_as src dst ≡ true → chains b src dst ≡ []
    unfolding chains
    no-chains q = ap (λ t. if t then [] else filter allowed_kinds (walks max_edges (stored_edges b) (AS dst) (AS src))) q

    -- what one list of lists has the other has
    swap : (f g : Segment → List Edge) → ((seg : Segment) → Apart seg → (e : Edge) → Mem e (f seg) → Mem e (g seg)) → (c : List Edge)
        → Mem c (flat_map (chains_from b dst) (flat_map f (firsts (segments b)))) → Mem c (flat_map (chains_from b dst) (flat_map g (firsts (segments b))))
    swap f g h c m =
        let w = flat_map-mem (chains_from b dst) (flat_map f (firsts (segments b))) m in
        let v = flat_map-mem f (firsts (segments b)) w.1 in
        mem-flat_map (chains_from b dst) (mem-flat_map g v.1 (h v.0 (first-apart v.0 v.1) w.0 v.2)) w.2

    pub found-once : Once (found_chains b dst src)
    found-once = go (same_as src dst) refl
      where
        go : (t : Bool) → same_as src dst ≡ t → Once (found_chains b dst src)
        go true q = subst Once (sym (none_found q)) tt
        go false q =
            subst Once (sym (found_from q))
            (once-flat_map (chains_from b dst) from-once starts starts-once
            (λ e f k l c p r. head-eq_of_cons-eq (sym (from-starts e p).1 ∙ (from-starts f r).1)))

    pub found-sound : (c : List Edge) → Mem c (found_chains b dst src) → IsChain b src dst c
    found-sound c m = chains-sound b src dst c (go (same_as src dst) refl)
      where
        go : (t : Bool) → same_as src dst ≡ t → Mem c (chains b src dst)
        go true q = absurd (not-nil (subst (Mem c) (none_found q) m))
        go false q = subst (Mem c) (sym (chains-from q)) (swap here (leaving_of (AS src)) (λ seg a e k. leaving-mem seg a src k) c (subst (Mem c) (found_from q) m))

    pub found-complete : (c : List Edge) → IsChain b src dst c → Mem c (found_chains b dst src)
    found-complete c h = go (same_as src dst) refl
      where
        m : Mem c (chains b src dst)
        m = chains-complete b src dst c h

        go : (t : Bool) → same_as src dst ≡ t → Mem c (found_chains b dst src)
        go true q = absurd (not-nil (subst (Mem c) (no-chains q) m))
        go false q = subst (Mem c) (sym (found_from q)) (swap (leaving_of (AS src)) here (λ seg a e k. mem-leaving seg a src k) c (subst (Mem c) (chains-from q) m))

    -- in order they are the solutions
    found-sorted : (digest : List ℕ → List ℕ) → insert_all digest b [] (found_chains b dst src) ≡ solutions digest b src dst
    found-sorted digest = sorted-any digest b src dst (found_chains b dst src) found-once found-sound found-complete

    pub found-length : (digest : List ℕ → List ℕ) → length (found_chains b dst src) ≡ length (solutions digest b src dst)
    found-length digest = omega (arith, length-all digest b [] (found_chains b dst src), ap length (found-sorted digest))

    -- so that each has a record of one size
    pub found-sized : Sized (found_chains b dst src)
    found-sized c m = allowed-length c (found-sound c m).kinds

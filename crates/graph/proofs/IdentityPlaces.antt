-- The stored edges of a book with an identity are those of the segment at its position, if it is the first of its equals.
-- Assumes nothing.
use Prim.Native.Nat.{ℕ, ◌+◌, ◌-◌, ◌≤◌, ◌<◌}
use native.Mathlib.Omega.{arith}
use mathlib.Core.Path.{◌≡◌, refl, sym, ap, ap₂, ◌∙◌}
use mathlib.Core.Bool.{Bool, true, false, ◌&&◌, false≢true}
use mathlib.Core.List.{List, [], ◌++◌, append-nil, Memᴰ as Mem}
use lib.Dec.{eqb}
use borrow.Author.Tests.{ne_eqb}
use Rattle.spec.specs.declared.Edge.{Edge}
use Rattle.spec.specs.declared.SolutionEdge.{SolutionEdge}
use Rattle.spec.specs.Basics.{filter}
use Rattle.spec.specs.Book.{Segment, segments, segment_at, segment_count}
use Rattle.spec.specs.Edges.{same_bool, insertions, is_first, firsts, stored_of, stored_edges}
use Rattle.spec.proofs.OnceLaws.{inserted, lasting-mem, segment-position}
use Rattle.graph.specs.Leaving.{entry_count}
use Rattle.graph.specs.Identity.{has_identity, identified, identified_in}
use Rattle.graph.specs.Search.{over_firsts}
use Rattle.graph.proofs.LookupLaws.{none-stored}
use Rattle.graph.proofs.SearchLists.{filter-append, filter_same, through}
use Rattle.graph.proofs.SearchLaws.{over-firsts, over-turn, over_skip, over-split, over_none}

module _ (b : List ℕ) (id : SolutionEdge) where
  abbrev those : Segment → List Edge
  those seg = identified seg id

  identified-over : identified_in b id ≡ over_firsts those b 0 (segment_count b)
  unfolding identified_in identified stored_edges
  identified-over =
      through (filter (has_identity id)) (unfold filter in refl) (filter-append (has_identity id)) stored_of (firsts (segments b))
      ∙ over-firsts (λ seg. filter (has_identity id) (stored_of seg)) b

  -- an edge of another position has another identity
  other_edge : (e : Edge) → (e.position ≡ id.position → ⊥) → has_identity id e ≡ false
  unfolding has_identity
  other_edge e n =
      ap (λ t. ((t && eqb e.shortcut id.shortcut) && eqb e.peer id.peer) && same_bool e.construction id.construction) (ne_eqb e.position id.position n)

  elsewhere : (k : ℕ) → (k ≡ id.position → ⊥) → those (segment_at b k) ≡ []
  unfolding identified stored_of
  elsewhere k n = filter_same (has_identity id) false (stored_of (segment_at b k)) other
    where
      other : (e : Edge) → Mem e (stored_of (segment_at b k)) → has_identity id e ≡ false
      other e m =
          let p : e.position ≡ k = (inserted (segment_at b k) (lasting-mem (insertions (segment_at b k)) m)).position ∙ segment-position b k in
          other_edge e (λ q. n (sym p ∙ q))

  -- no segment at the position
  pub identified-past : segment_count b ≤ id.position → identified_in b id ≡ []
  identified-past h = identified-over ∙ over_none those b 0 (segment_count b) (λ j p q. elsewhere j (λ e. omega arith))

  module _ (h : id.position < segment_count b) where
    abbrev p : ℕ
    p = id.position

    from-position : identified_in b id ≡ over_firsts those b p (segment_count b - p)
    from-position =
        let e : segment_count b ≡ p + (segment_count b - p) = omega arith in
        let z : 0 + p ≡ p = omega arith in
        identified-over ∙ ap (over_firsts those b 0) e ∙ over-split those b 0 p (segment_count b - p)
        ∙ ap₂ (λ l k. l ++ over_firsts those b k (segment_count b - p)) (over_none those b 0 p (λ j u v. elsewhere j (λ q. omega arith))) z

    after-position : over_firsts those b (p + 1) (segment_count b - (p + 1)) ≡ []
    after-position = over_none those b (p + 1) (segment_count b - (p + 1)) (λ j u v. elsewhere j (λ q. omega arith))

    pub identified-first : is_first (segments b) (segment_at b id.position) ≡ true → identified_in b id ≡ identified (segment_at b id.position) id
    identified-first q =
        from-position ∙ over-turn those b p (segment_count b) h q ∙ ap (λ l. those (segment_at b p) ++ l) after-position
        ∙ append-nil (those (segment_at b p))

    -- an equal segment stands before it
    pub identified-repeat : is_first (segments b) (segment_at b id.position) ≡ false → identified_in b id ≡ []
    identified-repeat q = from-position ∙ over_skip those b p (segment_count b) h (λ t. absurd (false≢true (sym q ∙ t))) ∙ after-position

    -- it has no entry
    pub identified-empty : entry_count (segment_at b id.position) ≡ 0 → identified_in b id ≡ []
    identified-empty n = go (is_first (segments b) (segment_at b p)) refl
      where
        go : (t : Bool) → is_first (segments b) (segment_at b p) ≡ t → identified_in b id ≡ []
        go true q = identified-first q ∙ unfold identified in ap (filter (has_identity id)) (none-stored (segment_at b p) n) ∙ unfold filter in refl
        go false q = identified-repeat q

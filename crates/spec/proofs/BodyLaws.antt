-- Where the entries and peers of an accepted book stand: all inside the book.
-- Assumes nothing.
use Prim.Native.Nat.{ℕ, zero, suc, ◌+◌, ◌≤◌, ◌<◌}
use native.Mathlib.Nat.{le_refl}
use native.Mathlib.Omega.{arith}
use mathlib.Core.Path.{◌≡◌, refl, sym, ap, ◌∙◌, subst}
use mathlib.Core.Bool.{Bool, true, false}
use mathlib.Core.List.{List}
use lib.ListN.{length, get_or}
use lib.Dec.{ltb, eqb}
use borrow.Author.Tests.{ltb-false, eqb-true, eqb-false}
use Rattle.spec.specs.declared.Refusal.TheVariants.{Peers, Misfit, Twice}
use Rattle.std.specs.Prelude.{Ok, Err}
use Rattle.spec.specs.Book.{Verdict, segment_count, body_total, whole_length, head_offset, lengths_below, body_length_at, body_offset, passes_twice, body_verdict, bodies_verdict, entries_verdict, ◌and_then◌, entry_count_at, entry_at, entries_at, entry_offset, entry_end, peer_count, peer_offset, segment_at}
use Rattle.spec.specs.Limits.{entry_size, peer_size, max_peers}
use Rattle.spec.specs.Edges.{no_entry, entry_of}
use Rattle.spec.proofs.BookLaws.{AcceptedBook, passed}

-- ---- offsets of entries

-- the offsets from the second entry on
pub offset-shift : (b : List ℕ) (at i : ℕ) → entry_offset b (entry_end b at) i ≡ entry_offset b at (suc i)
unfolding entry_offset
offset-shift b at zero = refl
offset-shift b at (suc i) = ap (entry_end b) (offset-shift b at i)

entries-get_or : (b : List ℕ) (at n i : ℕ) → i < n → get_or (entries_at b at n) i no_entry ≡ entry_at b (entry_offset b at i)
unfolding entries_at
entries-get_or b at zero i h = absurd (omega arith)
entries-get_or b at (suc n) zero h = unfold entry_offset in refl
entries-get_or b at (suc n) (suc i) h = entries-get_or b (entry_end b at) n i (omega arith) ∙ ap (entry_at b) (offset-shift b at i)

-- entry i of a segment is read at its offset
pub entry-at : (b : List ℕ) (k i : ℕ) → i < entry_count_at b k → entry_of (segment_at b k) i ≡ entry_at b (entry_offset b (body_offset b k) i)
unfolding entry_of segment_at
entry-at b k i h = entries-get_or b (body_offset b k) (entry_count_at b k) i h

-- ---- an accepted body

-- the entry at an offset, with its peers, ends where it should
pub record GoodPlace (b : List ℕ) (end at : ℕ) : Type 0 where
  pub entry : at + entry_size ≤ end
  pub few : peer_count b at ≤ max_peers
  pub peers : entry_end b at ≤ end

module _ (b : List ℕ) (end : ℕ) where
  good-first : (at n : ℕ) → entries_verdict b end at (suc n) ≡ Ok tt → GoodPlace b end at × (entries_verdict b end (entry_end b at) n ≡ Ok tt)
  unfolding entries_verdict
  good-first at n q =
      let p₁ = passed (ltb end (at + entry_size)) Misfit _ q in
      let p₂ = passed (ltb max_peers (peer_count b at)) Peers _ p₁.1 in
      let p₃ = passed (ltb end (entry_end b at)) Misfit _ p₂.1 in
      (record { entry = ltb-false _ _ p₁.0; few = ltb-false _ _ p₂.0; peers = ltb-false _ _ p₃.0 }, p₃.1)

  pub good-places : (n at : ℕ) → entries_verdict b end at n ≡ Ok tt → (i : ℕ) → i < n → GoodPlace b end (entry_offset b at i)
  good-places zero at q i h = absurd (omega arith)
  good-places (suc n) at q zero h = unfold entry_offset in (good-first at n q).0
  good-places (suc n) at q (suc i) h =
      subst (GoodPlace b end) (offset-shift b at i) (good-places n (entry_end b at) (good-first at n q).1 i (omega arith))

  -- no bytes remain
  filled : (n at : ℕ) → at ≤ end → entries_verdict b end at n ≡ Ok tt → entry_offset b at n ≡ end
  filled zero at h q = unfold entries_verdict entry_offset in (done (passed (ltb at end) Misfit (Ok tt) q).0)
    where
      done : ltb at end ≡ false → at ≡ end
      done r = let k = ltb-false at end r in omega arith
  filled (suc n) at h q = sym (offset-shift b at n) ∙ filled n (entry_end b at) (good-first at n q).0.peers (good-first at n q).1

-- ---- an accepted book

both-accepted : (v w : Verdict) → (v and_then w) ≡ Ok tt → (v ≡ Ok tt) × (w ≡ Ok tt)
both-accepted (Ok tt) w q = (refl, q)
both-accepted (Err r) w q = absurd (subst is_refused q tt)
  where
    is_refused : Verdict → Type 0
    is_refused (Ok tt) = ⊥
    is_refused (Err s) = Unit

bodies-accepted : (b : List ℕ) (left k : ℕ) → bodies_verdict b k left ≡ Ok tt → (j : ℕ) → k ≤ j → j < k + left → body_verdict b j ≡ Ok tt
unfolding bodies_verdict
bodies-accepted b zero k q j h l = absurd (omega arith)
bodies-accepted b (suc left) k q j h l = go (λ r. bodies-accepted b left (k + 1) r j) (eqb j k) refl
  where
    p : (body_verdict b k ≡ Ok tt) × (bodies_verdict b (k + 1) left ≡ Ok tt)
    p = both-accepted (body_verdict b k) (bodies_verdict b (k + 1) left) q

    go : (bodies_verdict b (k + 1) left ≡ Ok tt → k + 1 ≤ j → j < k + 1 + left → body_verdict b j ≡ Ok tt) → (t : Bool) → eqb j k ≡ t
        → body_verdict b j ≡ Ok tt
    go ih true r = ap (body_verdict b) (eqb-true j k r) ∙ p.0
    go ih false r = let n = eqb-false j k r in ih p.1 (omega arith) (omega arith)

lengths-mono : (b : List ℕ) (j k : ℕ) → j ≤ k → lengths_below b j ≤ lengths_below b k
unfolding lengths_below
lengths-mono b zero zero h = le_refl _
lengths-mono b (suc j) zero h = absurd (omega arith)
lengths-mono b j (suc k) h = go (lengths-mono b j k) (eqb j (suc k)) refl
  where
    go : (j ≤ k → lengths_below b j ≤ lengths_below b k) → (t : Bool) → eqb j (suc k) ≡ t → lengths_below b j ≤ lengths_below b k + body_length_at b k
    go ih true r = subst (λ i. lengths_below b i ≤ lengths_below b k + body_length_at b k) (sym (eqb-true j (suc k) r)) (le_refl _)
    go ih false r = let n = eqb-false j (suc k) r in let m = ih (omega arith) in omega arith

module _ (b : List ℕ) (a : AcceptedBook b) (k : ℕ) (h : k < segment_count b) where
  pub body-accepted : body_verdict b k ≡ Ok tt
  body-accepted = bodies-accepted b (segment_count b) 0 a.bodies k (omega arith) (omega arith)

  -- its entries fit, and none has an AS that stands earlier
  entries-accepted : entries_verdict b (body_offset b k + body_length_at b k) (body_offset b k) (entry_count_at b k) ≡ Ok tt
  unfolding body_verdict
  entries-accepted = (both-accepted _ _ body-accepted).0

  pub not-twice : passes_twice b k ≡ false
  unfolding body_verdict
  not-twice = (passed (passes_twice b k) Twice (Ok tt) (both-accepted (entries_verdict b (body_offset b k + body_length_at b k) (body_offset b k) (entry_count_at b k)) _ body-accepted).1).0

  -- a body is inside the book
  pub body_end : body_offset b k + body_length_at b k ≤ length b
  unfolding body_offset whole_length lengths_below
  body_end =
      let m : lengths_below b k + body_length_at b k ≤ lengths_below b (segment_count b) = lengths-mono b (suc k) (segment_count b) h in
      let w : length b ≡ head_offset (segment_count b) + body_total b = a.whole in
      let s = a.sum in
      omega arith

  -- entry i and its peers are inside the body
  pub entry_place : (i : ℕ) → i < entry_count_at b k → GoodPlace b (body_offset b k + body_length_at b k) (entry_offset b (body_offset b k) i)
  entry_place i l = good-places b (body_offset b k + body_length_at b k) (entry_count_at b k) (body_offset b k) entries-accepted i l

  -- a peer is inside the body
  pub peer-place : (i p : ℕ) → i < entry_count_at b k → p < peer_count b (entry_offset b (body_offset b k) i)
      → peer_offset (entry_offset b (body_offset b k) i) p + peer_size ≤ body_offset b k + body_length_at b k
  unfolding peer_offset entry_end
  peer-place i p l m =
      let g = entry_place i l in
      omega (arith, g.peers)

  -- the entries fill the body
  pub body-filled : entry_offset b (body_offset b k) (entry_count_at b k) ≡ body_offset b k + body_length_at b k
  body-filled = filled b (body_offset b k + body_length_at b k) (entry_count_at b k) (body_offset b k) (omega arith) entries-accepted

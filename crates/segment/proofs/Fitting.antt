-- The offsets of an accepted book's entries: they fit a u16, and what is read there are the entries and peers of the definition's segments.
-- Assumes nothing.
use mathlib.Core.Path.{◌≡◌, sym, ap, ◌∙◌}
use mathlib.Core.List.{List, map}
use Prim.Native.Nat.{ℕ, zero, suc, ◌+◌, ◌*◌, ◌≤◌, ◌<◌}
use native.Mathlib.Nat.{add-zero}
use native.Mathlib.Numerals.{add-one}
use native.Mathlib.Omega.{arith}
use lib.ListN.{length, get_or, length-map}
use Rattle.spec.specs.Limits.{entry_size, peer_size, max_book, max_segments}
use Rattle.spec.specs.Basics.{range}
use Rattle.spec.specs.Book.{Entry, segment_count, entry_count_at, body_offset, peer_count, entry_end, peer_offset, peer_entry_at, peer_of_entry_at, as_entry_at, entry_at, entry_offset, segment_at}
use Rattle.spec.specs.Edges.{no_peer, entry_of, peer_of}
use Rattle.spec.proofs.Lists.{length-range}
use Rattle.spec.proofs.BookLaws.{AcceptedBook}
use Rattle.spec.proofs.BodyLaws.{entry-at, entry_place, body_end}

-- the offset of the next entry
pub offset-more : (b : List ℕ) (at i : ℕ) → entry_offset b at (i + 1) ≡ entry_end b (entry_offset b at i)
unfolding entry_offset
offset-more b at i = rw add-one

-- past an entry, by its size
pub end_is : (b : List ℕ) (at : ℕ) {size : ℕ} → size ≡ entry_size + peer_size * peer_count b at → at + size ≡ entry_end b at
unfolding entry_end
end_is b at q = omega arith

pub offset_step : (b : List ℕ) (start i : ℕ) {at size : ℕ} → at ≡ entry_offset b start i → size ≡ entry_size + peer_size * peer_count b at
    → at + size ≡ entry_offset b start (i + 1)
offset_step b start i {at = at} e q = end_is b at q ∙ ap (entry_end b) e ∙ sym (offset-more b start i)

-- an entry of an accepted book starts where a u16 reaches
pub offset-small : (b : List ℕ) (a : AcceptedBook b) (k : ℕ) (h : k < segment_count b) (i : ℕ) → i < entry_count_at b k
    → entry_offset b (body_offset b k) i + entry_size ≤ max_book
offset-small b a k h i l = omega (arith, (entry_place b a k h i l).entry, body_end b a k h, a.small)

-- a position of an accepted book has a row in the table
pub position-small : (b : List ℕ) → AcceptedBook b → (k : ℕ) → k < segment_count b → k < max_segments
position-small b a k h = omega (arith, a.crowd)

-- ---- what the definition's segments hold

-- the entry itself stands at its offset
pub own_read : (b : List ℕ) (k i : ℕ) → i < entry_count_at b k → (entry_of (segment_at b k) i).own ≡ as_entry_at b (entry_offset b (body_offset b k) i)
unfolding entry_at
own_read b k i h = ap (λ (x : Entry). x.own) (entry-at b k i h)

-- it has as many peers as it says
pub peers-read : (b : List ℕ) (k i : ℕ) → i < entry_count_at b k → length (entry_of (segment_at b k) i).peers ≡ peer_count b (entry_offset b (body_offset b k) i)
unfolding entry_at
peers-read b k i h = ap (λ (x : Entry). length x.peers) (entry-at b k i h) ∙ simp (length-map, length-range)

module _ {A : Type 0} (f : ℕ → A) where
  pub map-range-at : (j n i : ℕ) (d : A) → i < n → get_or (map f (range j n)) i d ≡ f (j + i)
  unfolding range
  map-range-at j zero i d h = absurd (omega arith)
  map-range-at j (suc n) zero d h = ap f (sym (add-zero j))
  map-range-at j (suc n) (suc i) d h = map-range-at (j + 1) n i d (omega arith) ∙ ap f (omega arith)

-- peer p of it stands at its place
pub peer-read : (b : List ℕ) (k i p : ℕ) → i < entry_count_at b k → p < peer_count b (entry_offset b (body_offset b k) i)
    → peer_of (segment_at b k) i p ≡ peer_entry_at b (peer_offset (entry_offset b (body_offset b k) i) p)
unfolding peer_of entry_at peer_of_entry_at
peer-read b k i p h l =
    let at : ℕ = entry_offset b (body_offset b k) i in
    rw (entry-at b k i h) (map-range-at (peer_of_entry_at b at) 0 (peer_count b at) p no_peer l ∙ ap (peer_of_entry_at b at) (omega arith))

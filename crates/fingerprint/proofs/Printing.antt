-- The bytes that a fingerprint is taken of, entry by entry, and the turn of the loop that writes them.
-- Assumes nothing.
use mathlib.Core.Path.{◌≡◌, refl, sym, ap, ap₂, ◌∙◌}
use mathlib.Core.Bool.{Bool, true, false}
use mathlib.Core.List.{List, [], ◌∷◌, ◌++◌, flat_map, append-nil, append_assoc}
use Prim.Native.Nat.{ℕ, zero, suc, ◌+◌, ◌-◌, ◌*◌, ◌≤◌, ◌<◌, min}
use native.Mathlib.Nat.{zero-add, suc-add}
use native.Mathlib.Numerals.{add-one}
use native.Mathlib.Omega.{arith}
use lib.ListN.{length, take, drop, length-append, length-take, length-drop}
use lib.Seq.{take_all, take-append-le, take_at, length-take-le}
use lib.Dec.{ltb}
use borrow.Author.Tests.{ltb-true, ltb-false}
use Rattle.spec.specs.Limits.{max_entries, entry_size}
use Rattle.spec.specs.Octets.{Bytes, be16, be64, octets2, octets4, octets8}
use Rattle.spec.specs.Book.{Entry, segment_count, entry_count_at, body_offset, entry_end, isd_asn_at, as_entry_at, entry_at, entry_offset, entries_at, segment_at}
use Rattle.spec.specs.Order.{entry_input, fingerprint_input, fingerprint}
use Rattle.spec.proofs.Lists.{flat_map-append}
use Rattle.spec.proofs.BookLaws.{AcceptedBook, entry-count}
use Rattle.spec.proofs.OctetLaws.{be16s-bytes, be64-bytes}
use Rattle.spec.proofs.BodyLaws.{offset-shift}
use Rattle.output.specs.Write.{written}
use borrow.Rule.Slice.PartMut.{put_mid}
use Rattle.output.proofs.Writing.{written-pair, written-within, written-length, octets2-length, octets8-length}
use Rattle.output.proofs.Copied.{copied_part}
use Rattle.sha256.specs.Message.{sha256}
use Rattle.fingerprint.specs.Print.{input_size, inputs}

-- ---- one entry

input-length : (x : Entry) → length (entry_input x) ≡ input_size
unfolding entry_input octets8 octets4 octets2
input-length x = refl

-- ---- entry by entry

entries-more : (b : List ℕ) (at n : ℕ) → entries_at b at (suc n) ≡ entries_at b at n ++ entry_at b (entry_offset b at n) ∷ []
unfolding entries_at entry_offset
entries-more b at zero = refl
entries-more b at (suc n) = ap (λ l. entry_at b at ∷ l) (entries-more b (entry_end b at) n ∙ ap (λ o. entries_at b (entry_end b at) n ++ entry_at b o ∷ []) (offset-shift b at n))

inputs-more : (b : List ℕ) (at n : ℕ) → inputs b at (suc n) ≡ inputs b at n ++ entry_input (entry_at b (entry_offset b at n))
unfolding inputs flat_map
inputs-more b at n =
    rw (entries-more b at n) (flat_map-append entry_input (entries_at b at n) (entry_at b (entry_offset b at n) ∷ []) ∙ ap (λ l. flat_map entry_input (entries_at b at n) ++ l) (append-nil _))

inputs-length : (b : List ℕ) (at n : ℕ) → length (inputs b at n) ≡ input_size * n
inputs-length b at zero = unfold inputs entries_at flat_map in refl
inputs-length b at (suc n) =
    let x : List ℕ = entry_input (entry_at b (entry_offset b at n)) in
    ap length (inputs-more b at n)
    ∙ omega (arith, length-append (inputs b at n) x, input-length (entry_at b (entry_offset b at n)), inputs-length b at n)

-- what the first n entries give, of more
inputs-first : (b : List ℕ) (at n m : ℕ) → take (input_size * n) (inputs b at (m + n)) ≡ inputs b at n
inputs-first b at n zero = rw zero-add (take_all (input_size * n) (inputs b at n) (omega (arith, inputs-length b at n)))
inputs-first b at n (suc m) =
    ap (λ i. take (input_size * n) (inputs b at i)) (suc-add m n)
    ∙ ap (take (input_size * n)) (inputs-more b at (m + n))
    ∙ take-append-le (input_size * n) (inputs b at (m + n)) _ (omega (arith, inputs-length b at (m + n)))
    ∙ inputs-first b at n m

inputs-least : (b : List ℕ) (at n m : ℕ) → take (input_size * n) (inputs b at m) ≡ inputs b at (min n m)
inputs-least b at n m = go (ltb n m) refl
  where
    go : (t : Bool) → ltb n m ≡ t → take (input_size * n) (inputs b at m) ≡ inputs b at (min n m)
    go true q =
        let h : n < m = ltb-true _ _ q in
        let e : m ≡ (m - n) + n = omega arith in
        let f : n ≡ min n m = omega arith in
        ap (λ i. take (input_size * n) (inputs b at i)) e ∙ inputs-first b at n (m - n) ∙ ap (inputs b at) f
    go false q =
        let h : m ≤ n = ltb-false _ _ q in
        let f : m ≡ min n m = omega arith in
        take_all (input_size * n) (inputs b at m) (omega (arith, inputs-length b at m)) ∙ ap (inputs b at) f

pub inputs-all : (b : List ℕ) (k : ℕ) → fingerprint_input (segment_at b k) ≡ inputs b (body_offset b k) (entry_count_at b k)
unfolding fingerprint_input segment_at inputs
inputs-all b k = refl

-- what a segment's first entries give, up to the limit
pub input-least : (b : List ℕ) (k : ℕ)
    → take (input_size * max_entries) (fingerprint_input (segment_at b k)) ≡ inputs b (body_offset b k) (min max_entries (entry_count_at b k))
input-least b k = ap (take (input_size * max_entries)) (inputs-all b k) ∙ inputs-least b (body_offset b k) max_entries (entry_count_at b k)

-- in an accepted book that is all of them
pub input-whole : (b : List ℕ) → AcceptedBook b → (k : ℕ) → k < segment_count b
    → take (input_size * max_entries) (fingerprint_input (segment_at b k)) ≡ fingerprint_input (segment_at b k)
input-whole b a k h =
    let n = entry-count b a k h in
    input-least b k ∙ ap (inputs b (body_offset b k)) (omega arith) ∙ sym (inputs-all b k)

-- so that `fingerprint` of the code is the definition's
pub fingerprint-is : (b : List ℕ) → AcceptedBook b → (k : ℕ) → k < segment_count b
    → sha256 (take (input_size * max_entries) (fingerprint_input (segment_at b k))) ≡ fingerprint sha256 b k
unfolding fingerprint
fingerprint-is b a k h = ap sha256 (input-whole b a k h)

-- ---- the turn of the loop that writes them

-- the three numbers of an entry, written one after the other
pub entry-written : (m : List ℕ) (b : List ℕ) (place at : ℕ)
    → written (written (written m place (octets8 (be64 b at))) (place + 8) (octets2 (be16 b (at + 14)))) (place + 10) (octets2 (be16 b (at + 16)))
    ≡ written m place (entry_input (entry_at b at))
unfolding entry_input entry_at as_entry_at isd_asn_at
entry-written m b place at =
    let a : List ℕ = octets8 (be64 b at) in
    let i : List ℕ = octets2 (be16 b (at + 14)) in
    let e : List ℕ = octets2 (be16 b (at + 16)) in
    rw (written-pair m place 8 a i (octets8-length (be64 b at)))
    (written-pair m place 10 (a ++ i) e (length-append a i ∙ ap₂ (λ x y. x + y) (octets8-length (be64 b at)) (octets2-length (be16 b (at + 14)))))

module _ (b : List ℕ) (bytes : Bytes b) where
  input-parts : (at : ℕ) → at + entry_size ≤ length b → entry_input (entry_at b at) ≡ take 8 (drop at b) ++ take 4 (drop (at + 14) b)
  unfolding entry_input entry_at as_entry_at isd_asn_at
  input-parts at h =
      let e : at + 16 ≡ at + 14 + 2 = omega arith in
      rw (append_assoc, e, be64-bytes b bytes at (omega arith), be16s-bytes b bytes (at + 14) (omega arith))

  -- the two parts of an entry, copied one after the other
  pub entry-copied : (m : List ℕ) (place at k l i j : ℕ) (xs ys : List ℕ) → xs ≡ take i (drop at b) → i ≡ 8 → k ≡ 8 → ys ≡ take j (drop (at + 14) b) → j ≡ 4 → l ≡ 4
      → at + entry_size ≤ length b → place + input_size ≤ length m → put_mid (place + 8) l (put_mid place k m xs) ys ≡ written m place (entry_input (entry_at b at))
  entry-copied m place at k l i j xs ys e p q f r s h g =
      let first : put_mid place k m xs ≡ written m place (take 8 (drop at b)) = copied_part m place k b at i 8 xs e p q (omega arith) (omega arith) in
      let room : place + 8 + 4 ≤ length (put_mid place k m xs) = omega (arith, ap length first, written-length m place (take 8 (drop at b))) in
      copied_part (put_mid place k m xs) (place + 8) l b (at + 14) j 4 ys f r s (omega arith) room
      ∙ ap (λ t. written t (place + 8) (take 4 (drop (at + 14) b))) first
      ∙ written-pair m place 8 (take 8 (drop at b)) (take 4 (drop (at + 14) b)) (length-take-le 8 (drop at b) (simp length-drop (omega arith)))
      ∙ ap (written m place) (sym (input-parts at h))

-- the next entry is written at its place
pub written-more : (m : List ℕ) (b : List ℕ) (start i at : ℕ) → input_size * i + input_size ≤ length m → at ≡ entry_offset b start i
    → take (input_size * i) m ≡ inputs b start i
    → take (input_size * (i + 1)) (written m (input_size * i) (entry_input (entry_at b at))) ≡ inputs b start (i + 1)
written-more m b start i at h e q =
    let x : List ℕ = entry_input (entry_at b at) in
    let l : length x ≡ input_size = input-length (entry_at b at) in
    let f : length (take (input_size * i) m ++ x) ≡ input_size * (i + 1) = simp (length-append, length-take) (omega arith) in
    rw (written-within m (input_size * i) x (omega arith), take_at (take (input_size * i) m ++ x) (drop (input_size * i + length x) m) (input_size * (i + 1)) f)
    (ap₂ (λ (s t : List ℕ). s ++ t) q (ap (λ o. entry_input (entry_at b o)) e) ∙ sym (ap (inputs b start) (add-one i) ∙ inputs-more b start i))

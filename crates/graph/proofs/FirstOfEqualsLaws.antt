-- Equal segments share what is read of them before they are compared, and their marks; so that few comparisons tell the first of equals.
-- Assumes nothing.
use Prim.Native.Nat.{ℕ, zero, suc, ◌+◌, ◌*◌, ◌%◌, ◌^◌, ◌≤◌, ◌<◌}
use native.Mathlib.Decide.{ℕ_discrete}
use native.Mathlib.Nat.{add_assoc}
use native.Mathlib.Omega.{arith}
use mathlib.Core.Path.{◌≡◌, refl, sym, ap, ap₂, ◌∙◌}
use mathlib.Core.Bool.{Bool, true, false, ◌&&◌, not}
use mathlib.Core.List.{List, [], ◌∷◌, map}
use lib.ListN.{length, get_or, set, take, drop, replicate, length-take, length-drop}
use lib.Seq.{get_or-set_same, get_or-set_other, get_or-take, get_or-drop}
use lib.Dec.{ltb, eqb}
use borrow.Author.Tests.{ltb-true, ltb-false, lt-ltb, le-ltb, eqb-true}
use Rattle.std.specs.Prelude.{Ok}
use Rattle.spec.specs.Limits.{sizes_size, head_size, entry_size, peer_size, peer_count_offset, max_segments, max_entries}
use Rattle.spec.specs.Basics.{any, range, same_list}
use Rattle.spec.specs.Octets.{be16, be32, be64}
use Rattle.spec.specs.Book.{Segment, segments, segment_at, cores, segment_count, head_offset, whole_length, timestamp_at, id_at, entry_count_at, body_length_at, body_offset, peer_count, entry_end, entry_offset, verdict}
use Rattle.spec.specs.Edges.{same_bool, same_segment, is_earlier, is_first}
use Rattle.spec.proofs.Membership.{and-true, mem-map, not-both}
use Rattle.spec.proofs.OnceLaws.{any-mem, segment-position}
use Rattle.spec.proofs.BookLaws.{AcceptedBook, accepted, entry-count, mem-range}
use Rattle.spec.proofs.BodyLaws.{body_end, body-filled, entry_place}
use Rattle.spec.proofs.AnswerLaws.{same_list-eq}
use Rattle.equal.proofs.Sameness.{false-from}
use Rattle.book.specs.Offsets.{no_offsets, with_row, rows_below, offset_table}
use Rattle.graph.specs.Leaving.{entry_count}
use Rattle.graph.specs.Ready.{Ready}
use Rattle.graph.specs.FirstOfEquals.{egress_low, mac_last, word_end, head_word_at, entry_word_at, NoneBelow, mark_of, first_at, Firsts, Seen}
use Rattle.graph.proofs.OpenedReads.{count-read, place}

positive : (n : ℕ) → (n ≡ 0 → ⊥) → 0 < n
positive zero d = absurd (d refl)
positive (suc n) d = omega arith

-- ---- a segment with no entry has 0 in the table

row-elsewhere : (b : List ℕ) (at start n : ℕ) (table : List ℕ) (j : ℕ) → ((i : ℕ) → i < n → start + i ≡ j → ⊥)
    → get_or (with_row b at start n table) j 0 ≡ get_or table j 0
unfolding with_row
row-elsewhere b at start zero table j other = refl
row-elsewhere b at start (suc n) table j other =
    get_or-set_other (with_row b at start n table) (start + n) j (entry_offset b at n) 0 (λ e. other n (omega arith) (sym e))
    ∙ row-elsewhere b at start n table j (λ i l. other i (omega arith))

same : {A : Type 0} (x : A) (n j : ℕ) → get_or (replicate n x) j x ≡ x
same x zero j = refl
same x (suc n) zero = refl
same x (suc n) (suc j) = same x n j

rows_none : (b : List ℕ) (n : ℕ) → ((i : ℕ) → i < n → entry_count_at b i ≤ max_entries) → (k : ℕ) → entry_count_at b k ≡ 0
    → get_or (rows_below b n) (max_entries * k) 0 ≡ 0
unfolding rows_below
rows_none b zero few k none = unfold no_offsets in same 0 (max_segments * max_entries) (max_entries * k)
rows_none b (suc n) few k none =
    row-elsewhere b (body_offset b n) (max_entries * n) (entry_count_at b n) (rows_below b n) (max_entries * k) other
    ∙ rows_none b n (λ i l. few i (omega arith)) k none
  where
    other : (i : ℕ) → i < entry_count_at b n → max_entries * n + i ≡ max_entries * k → ⊥
    other i l e =
        let q : n ≡ k = omega (arith, few n (omega arith)) in
        omega (arith, ap (entry_count_at b) q)

-- ---- what is read

pub head_read : (b : List ℕ) (k : ℕ) {x : ℕ} → x ≡ be64 b (sizes_size + head_size * k) → x ≡ head_word_at b k
unfolding head_word_at head_offset
head_read b k e = e

pub head-within : (b : List ℕ) → verdict b ≡ Ok tt → (k : ℕ) → k < segment_count b → sizes_size + head_size * k + 8 ≤ length b
unfolding whole_length head_offset
head-within b ok k h = let w = (accepted b ok).whole in omega arith

-- a book of two segments is that long
pub two_bytes : (b : List ℕ) → verdict b ≡ Ok tt → (k : ℕ) → k < segment_count b → 0 < k → word_end ≤ length b
two_bytes b ok k h l = omega (arith, head-within b ok k h)

-- numbers in a part of the book
module _ (x b : List ℕ) (o n : ℕ) (same : (j : ℕ) → j < n → get_or b (o + j) 0 ≡ get_or x j 0) where
  two_in : (i : ℕ) → i + 2 ≤ n → be16 b (o + i) ≡ be16 x i
  unfolding be16
  two_in i h = rw (add_assoc o i 1, same i (omega arith), same (i + 1) (omega arith))

  four-in : (i : ℕ) → i + 4 ≤ n → be32 b (o + i) ≡ be32 x i
  unfolding be32
  four-in i h = rw (add_assoc o i 2, two_in i (omega arith), two_in (i + 2) (omega arith))

  eight-in : (i : ℕ) → i + 8 ≤ n → be64 b (o + i) ≡ be64 x i
  unfolding be64
  eight-in i h = rw (add_assoc o i 4, four-in i (omega arith), four-in (i + 4) (omega arith))

body-byte : (b : List ℕ) (k i : ℕ) → i < body_length_at b k → get_or b (body_offset b k + i) 0 ≡ get_or (segment_at b k).body i 0
unfolding segment_at
body-byte b k i l = sym (get_or-drop (body_offset b k) b i 0) ∙ sym (get_or-take (body_length_at b k) (drop (body_offset b k) b) i 0 l)

module _ (b t : List ℕ) (r : Ready b t) (k : ℕ) (h : k < segment_count b) where
  book : AcceptedBook b
  book = accepted b r.ok

  start : entry_offset b (body_offset b k) 0 ≡ body_offset b k
  unfolding entry_offset
  start = refl

  -- with no entry
  module _ (none : entry_count_at b k ≡ 0) where
    table_none : get_or t (max_entries * k) 0 ≡ 0
    unfolding offset_table
    table_none = ap (λ u. get_or u (max_entries * k) 0) r.table ∙ rows_none b (segment_count b) (entry-count b book) k none

    no_byte : (i : ℕ) → get_or (segment_at b k).body i 0 ≡ 0
    unfolding segment_at
    no_byte i =
        let size : body_length_at b k ≡ 0 = omega (arith, start, body-filled b book k h, ap (entry_offset b (body_offset b k)) none) in
        ap (λ m. get_or (take m (drop (body_offset b k) b)) i 0) size ∙ refl

  -- with one
  module _ (some : 0 < entry_count_at b k) where
    size : entry_size ≤ body_length_at b k
    size = omega (arith, start, (entry_place b book k h 0 some).entry)

    first-place : get_or t (max_entries * k + 0) 0 ≡ body_offset b k
    first-place = place b t r k h 0 (omega (arith, count-read b k)) ∙ start

    table-start : get_or t (max_entries * k) 0 ≡ body_offset b k
    table-start = let e : max_entries * k ≡ max_entries * k + 0 = omega arith in ap (λ j. get_or t j 0) e ∙ first-place

    entry-word : entry_word_at b t k ≡ be64 (segment_at b k).body egress_low
    unfolding entry_word_at
    entry-word =
        ap (λ o. be64 b (o + egress_low)) table-start
        ∙ eight-in (segment_at b k).body b (body_offset b k) entry_size (λ i l. body-byte b k i (omega (arith, size))) egress_low (omega arith)

  -- the eight bytes of its first entry lie in the book
  pub word-inside : word_end ≤ length b → {o : ℕ} → o ≡ get_or t (max_entries * k) 0 → o + word_end ≤ length b
  word-inside long {o} e = go (ℕ_discrete (entry_count_at b k) 0)
    where
      go : Dec (entry_count_at b k ≡ 0) → o + word_end ≤ length b
      go (yes none) = omega (arith, table_none none)
      go (no d) = let s = positive _ d in omega (arith, table-start s, size s, body_end b book k h)

  pub some_bytes : 0 < entry_count (segment_at b k) → word_end ≤ length b
  some_bytes some = omega (arith, size (omega (arith, count-read b k)), body_end b book k h)

  -- a byte of the body, by how many entries there are
  module _ {n : ℕ} (count : n ≡ entry_count (segment_at b k)) where
    pub byte-none : (i : ℕ) → n ≡ 0 → 0 ≡ get_or (segment_at b k).body i 0
    byte-none i none = sym (no_byte (sym (count-read b k) ∙ sym count ∙ none) i)

    module _ (filled : n ≡ 0 → ⊥) where
      pub some-entry : 0 < entry_count (segment_at b k)
      some-entry = omega (arith, positive n filled)

      pub byte-read : (i : ℕ) → i < entry_size → {o : ℕ} → o ≡ get_or t (max_entries * k + 0) 0 → get_or b (o + i) 0 ≡ get_or (segment_at b k).body i 0
      byte-read i l e =
          let some : 0 < entry_count_at b k = omega (arith, some-entry, count-read b k) in
          ap (λ m. get_or b (m + i) 0) (e ∙ first-place some) ∙ body-byte b k i (omega (arith, size some))

-- ---- equal bodies have as many entries

module _ (b : List ℕ) (a : AcceptedBook b) where
  body-length : (k : ℕ) → k < segment_count b → length (segment_at b k).body ≡ body_length_at b k
  unfolding segment_at
  body-length k h = omega (arith, length-take (body_length_at b k) (drop (body_offset b k) b), length-drop (body_offset b k) b, body_end b a k h)

  module _ (k j : ℕ) (h : k < segment_count b) (l : j < segment_count b) (q : (segment_at b k).body ≡ (segment_at b j).body) where
    as_long : body_length_at b k ≡ body_length_at b j
    as_long = sym (body-length k h) ∙ ap length q ∙ body-length j l

    -- an entry is as far from the start of either
    record Far (i : ℕ) : Type 0 where
      far : ℕ
      here : entry_offset b (body_offset b k) i ≡ body_offset b k + far
      there : entry_offset b (body_offset b j) i ≡ body_offset b j + far

    same-peers : (d : ℕ) → d + entry_size ≤ body_length_at b k → peer_count b (body_offset b k + d) ≡ peer_count b (body_offset b j + d)
    unfolding peer_count
    same-peers d s =
        let e : body_offset b k + d + peer_count_offset ≡ body_offset b k + (d + peer_count_offset) = omega arith in
        let f : body_offset b j + d + peer_count_offset ≡ body_offset b j + (d + peer_count_offset) = omega arith in
        ap (λ m. get_or b m 0) e
        ∙ body-byte b k (d + peer_count_offset) (omega arith)
        ∙ ap (λ x. get_or x (d + peer_count_offset) 0) q
        ∙ sym (body-byte b j (d + peer_count_offset) (omega (arith, as_long)))
        ∙ sym (ap (λ m. get_or b m 0) f)

    far-next : (i : ℕ) → i < entry_count_at b k → Far i → Far (suc i)
    unfolding entry_offset entry_end
    far-next i n f =
        let p = (entry_place b a k h i n).entry in
        let d = f.far in
        let e = same-peers d (omega (arith, f.here)) in
        record {
          far = d + entry_size + peer_size * peer_count b (body_offset b k + d);
          here = omega (arith, f.here, ap (peer_count b) f.here);
          there = omega (arith, f.there, ap (peer_count b) f.there, e);
        }

    far-of : (i : ℕ) → i ≤ entry_count_at b k → Far i
    unfolding entry_offset
    far-of zero n = record { far = 0; here = omega arith; there = omega arith }
    far-of (suc i) n = far-next i (omega arith) (far-of i (omega arith))

    no_more : entry_count_at b j ≤ entry_count_at b k
    no_more = go (ltb (entry_count_at b k) (entry_count_at b j)) refl
      where
        go : (t : Bool) → ltb (entry_count_at b k) (entry_count_at b j) ≡ t → entry_count_at b j ≤ entry_count_at b k
        go false e = ltb-false _ _ e
        go true e =
            let f = far-of (entry_count_at b k) (omega arith) in
            let p = (entry_place b a j l (entry_count_at b k) (ltb-true _ _ e)).entry in
            absurd (omega (arith, f.here, f.there, body-filled b a k h, as_long))

  same_count : (k j : ℕ) → k < segment_count b → j < segment_count b → (segment_at b k).body ≡ (segment_at b j).body → entry_count_at b k ≡ entry_count_at b j
  same_count k j h l q = omega (arith, no_more k j h l q, no_more j k l h (sym q))

-- ---- equal segments

same_parts_lem : (s u : Segment) → same_segment s u ≡ true → (s.timestamp ≡ u.timestamp) × (s.id ≡ u.id) × (s.body ≡ u.body)
unfolding same_segment
same_parts_lem s u q =
    let p = and-true ((same_bool s.core u.core && eqb s.timestamp u.timestamp) && eqb s.id u.id) (same_list s.body u.body) q in
    let i = and-true (same_bool s.core u.core && eqb s.timestamp u.timestamp) (eqb s.id u.id) p.0 in
    let t = and-true (same_bool s.core u.core) (eqb s.timestamp u.timestamp) i.0 in
    (eqb-true _ _ t.1, eqb-true _ _ i.1, same_list-eq _ _ p.1)

head-parts : (b : List ℕ) (k : ℕ) → head_word_at b k ≡ timestamp_at b k * 2 ^ 32 + (id_at b k * 2 ^ 16 + entry_count_at b k)
unfolding head_word_at be64 be32 timestamp_at id_at entry_count_at
head-parts b k =
    let e : head_offset k + 4 + 2 ≡ head_offset k + 6 = omega arith in
    ap (λ m. be32 b (head_offset k) * 2 ^ 32 + (be16 b (head_offset k + 4) * 2 ^ 16 + be16 b m)) e

module _ (b t : List ℕ) (r : Ready b t) (k j : ℕ) (h : k < segment_count b) (l : j < segment_count b) (q : same_segment (segment_at b k) (segment_at b j) ≡ true) where
  parts : (timestamp_at b k ≡ timestamp_at b j) × (id_at b k ≡ id_at b j) × ((segment_at b k).body ≡ (segment_at b j).body)
  unfolding segment_at
  parts = same_parts_lem (segment_at b k) (segment_at b j) q

  counts : entry_count_at b k ≡ entry_count_at b j
  counts = same_count b (accepted b r.ok) k j h l parts.2

  same_head : head_word_at b k ≡ head_word_at b j
  same_head = head-parts b k ∙ ap₂ (λ t u. t * 2 ^ 32 + u) parts.0 (ap₂ (λ i n. i * 2 ^ 16 + n) parts.1 counts) ∙ sym (head-parts b j)

  same-entry : entry_word_at b t k ≡ entry_word_at b t j
  unfolding entry_word_at
  same-entry = go (ℕ_discrete (entry_count_at b k) 0)
    where
      go : Dec (entry_count_at b k ≡ 0) → entry_word_at b t k ≡ entry_word_at b t j
      go (yes none) = ap (λ o. be64 b (o + egress_low)) (table_none b t r k h none ∙ sym (table_none b t r j l (sym counts ∙ none)))
      go (no d) =
          let some = positive _ d in
          entry-word b t r k h some ∙ ap (λ x. be64 x egress_low) parts.2 ∙ sym (entry-word b t r j l (omega (arith, counts)))

-- ---- positions below which no equal stands

none-map : {A : Type 0} (p : A → Bool) (f : ℕ → A) → ((i : ℕ) → p (f i) ≡ false) → (xs : List ℕ) → any p (map f xs) ≡ false
unfolding any
none-map p f h [] = refl
none-map p f h (x ∷ xs) = rw (h x) (none-map p f h xs)

first-if : (b : List ℕ) (k : ℕ) → ((i : ℕ) → i < k → same_segment (segment_at b k) (segment_at b i) ≡ false) → is_first (segments b) (segment_at b k) ≡ true
unfolding is_first segments
first-if b k none = ap not (none-map (is_earlier (segment_at b k)) (segment_at b) later (range 0 (segment_count b)))
  where
    later : (i : ℕ) → is_earlier (segment_at b k) (segment_at b i) ≡ false
    later i = unfold is_earlier in go (ltb (segment_at b i).position (segment_at b k).position) refl
      where
        go : (x : Bool) → ltb (segment_at b i).position (segment_at b k).position ≡ x → (x && same_segment (segment_at b k) (segment_at b i)) ≡ false
        go false p = refl
        go true p = none i (omega (arith, ltb-true (segment_at b i).position (segment_at b k).position p, segment-position b i, segment-position b k))

pub none_first : {b : List ℕ} {k j : ℕ} → NoneBelow b k j → k ≤ j → is_first (segments b) (segment_at b k) ≡ true
none_first {b} {k} n l = first-if b k (λ i h. n.none i (omega arith))

pub none-start : {b : List ℕ} {k : ℕ} → NoneBelow b k 0
none-start = record { within = omega arith; none = λ i h. absurd (omega arith) }

-- a core segment equals none that is not
pub kinds-differ : (b : List ℕ) (k c : ℕ) → c ≡ cores b → c ≤ k → NoneBelow b k c
kinds-differ b k c q l = record { within = l; none = differ }
  where
    differ : (i : ℕ) → i < c → same_segment (segment_at b k) (segment_at b i) ≡ false
    differ i h =
        unfold same_segment segment_at in
        ap₂
        (λ x y. same_bool x y && eqb (timestamp_at b k) (timestamp_at b i) && eqb (id_at b k) (id_at b i) && same_list (segment_at b k).body (segment_at b i).body)
        (le-ltb k (cores b) (omega arith)) (lt-ltb i (cores b) (omega arith))
        ∙ (unfold same_bool in refl)

-- one position more
module _ {b : List ℕ} {k j : ℕ} (n : NoneBelow b k j) (l : j < k) where
  none_more : same_segment (segment_at b k) (segment_at b j) ≡ false → NoneBelow b k (j + 1)
  none_more d = record { within = omega arith; none = λ i h. go i h (ltb i j) refl }
    where
      go : (i : ℕ) → i < j + 1 → (x : Bool) → ltb i j ≡ x → same_segment (segment_at b k) (segment_at b i) ≡ false
      go i h true e = n.none i (ltb-true _ _ e)
      go i h false e =
          let g : j ≤ i = ltb-false _ _ e in
          let s : i ≡ j = omega arith in
          ap (λ m. same_segment (segment_at b k) (segment_at b m)) s ∙ d

  module _ (t : List ℕ) (r : Ready b t) (h : k < segment_count b) {x own : ℕ} where
    pub head-differs : x ≡ head_word_at b j → own ≡ head_word_at b k → (x ≡ own → ⊥) → NoneBelow b k (j + 1)
    head-differs p q d = none_more (false-from _ (λ e. d (p ∙ sym (same_head b t r k j h (omega arith) e) ∙ sym q)))

    pub entry-differs : x ≡ entry_word_at b t j → own ≡ entry_word_at b t k → (x ≡ own → ⊥) → NoneBelow b k (j + 1)
    entry-differs p q d = none_more (false-from _ (λ e. d (p ∙ sym (same-entry b t r k j h (omega arith) e) ∙ sym q)))

  module _ {same : Bool} (p : same ≡ same_segment (segment_at b k) (segment_at b j)) where
    pub not_same : same ≡ false → NoneBelow b k (j + 1)
    not_same q = none_more (sym p ∙ q)

    pub repeated : k < segment_count b → same ≡ true → is_first (segments b) (segment_at b k) ≡ false
    unfolding is_first segments
    repeated h q =
        ap not (any-mem (is_earlier (segment_at b k)) (map (segment_at b) (range 0 (segment_count b))) (mem-map (segment_at b) (mem-range 0 (segment_count b) j (omega arith) (omega arith))) earlier)
      where
        earlier : is_earlier (segment_at b k) (segment_at b j) ≡ true
        earlier = unfold is_earlier segment_at in ap₂ ◌&&◌ (lt-ltb j k l) (sym p ∙ q)

-- ---- marks

-- where the low bytes of timestamp and id stand in a head
abbrev timestamp_low : ℕ
timestamp_low = 3

abbrev id_low : ℕ
id_low = 5

pub mark-read : (b : List ℕ) (k : ℕ) {x y v z : ℕ} → x ≡ get_or b (sizes_size + head_size * k + timestamp_low) 0 → y ≡ get_or b (sizes_size + head_size * k + id_low) 0
    → v ≡ get_or (segment_at b k).body egress_low 0 → z ≡ get_or (segment_at b k).body mac_last 0 → (x + y + v + z) % 256 ≡ mark_of (segment_at b k)
unfolding mark_of segment_at timestamp_at id_at head_offset be32 be16
mark-read b k p q u s =
    let e : sizes_size + head_size * k + 2 + 1 ≡ sizes_size + head_size * k + timestamp_low = omega arith in
    let f : sizes_size + head_size * k + 4 + 1 ≡ sizes_size + head_size * k + id_low = omega arith in
    omega (arith, ap (λ m. get_or b m 0) e, ap (λ m. get_or b m 0) f)

pub mark-small : (s : Segment) {m : ℕ} → m ≡ mark_of s → m < 256
unfolding mark_of
mark-small s e = omega arith

same-mark : (s t : Segment) → same_segment s t ≡ true → mark_of s ≡ mark_of t
unfolding mark_of
same-mark s t q =
    let p = same_parts_lem s t q in
    ap₂ (λ x y. (x + y + get_or s.body egress_low 0 + get_or s.body mac_last 0) % 256) p.0 p.1
    ∙ ap (λ l. (t.timestamp + t.id + get_or l egress_low 0 + get_or l mac_last 0) % 256) p.2

module _ (b : List ℕ) (k : ℕ) where
  pub unseen-first : (w : List Bool) → Seen b k w → {m : ℕ} → m ≡ mark_of (segment_at b k) → get_or w m false ≡ false → is_first (segments b) (segment_at b k) ≡ true
  unseen-first w s e z =
      first-if b k (λ i h. false-from _ (λ q. not-both (ap (λ j. get_or w j false) (e ∙ same-mark _ _ q) ∙ s.marked i h) z))

  -- where a mark is seen there is a segment before
  pub seen_bytes : (w : List Bool) → Seen b k w → verdict b ≡ Ok tt → k < segment_count b → (m : ℕ) → get_or w m false ≡ true → word_end ≤ length b
  seen_bytes w s ok h m d = two_bytes b ok k h (positive k (λ z. not-both d (s.empty z m)))

  pub first-is : {t : Bool} → t ≡ is_first (segments b) (segment_at b k) → t ≡ first_at b k
  unfolding first_at
  first-is q = q

-- ---- the turns of the loop over all positions

module _ (b : List ℕ) where
  pub firsts-start : (w : List Bool) → Firsts b 0 w
  firsts-start w = record { each = λ i h. absurd (omega arith) }

  pub seen_start : (n : ℕ) → Seen b 0 (replicate n false)
  seen_start n = record { marked = λ i h. absurd (omega arith); empty = λ z. same false n }

  pub firsts-all : {k n : ℕ} {w : List Bool} → Firsts b k w → n ≤ k → Firsts b n w
  firsts-all f l = record { each = λ i h. f.each i (omega arith) }

  module _ (k : ℕ) (w : List Bool) where
    pub firsts-turn : Firsts b k w → k < length w → {v : Bool} → v ≡ first_at b k → Firsts b (k + 1) (set w k v)
    firsts-turn f l {v} q = record { each = λ i h. go i h (ℕ_discrete k i) }
      where
        go : (i : ℕ) → i < k + 1 → Dec (k ≡ i) → get_or (set w k v) i false ≡ first_at b i
        go i h (yes e) = ap (λ j. get_or (set w k v) j false) (sym e) ∙ get_or-set_same w k v false l ∙ q ∙ ap (first_at b) e
        go i h (no d) = get_or-set_other w k i v false (λ e. d (sym e)) ∙ f.each i (omega arith)

    pub seen-turn : Seen b k w → {m : ℕ} → m < length w → m ≡ mark_of (segment_at b k) → Seen b (k + 1) (set w m true)
    seen-turn s {m} l q =
        record { marked = λ i h. go i h (ℕ_discrete m (mark_of (segment_at b i))) (ℕ_discrete k i); empty = λ z. absurd (omega arith) }
      where
        go : (i : ℕ) → i < k + 1 → Dec (m ≡ mark_of (segment_at b i)) → Dec (k ≡ i) → get_or (set w m true) (mark_of (segment_at b i)) false ≡ true
        go i h (yes e) x = ap (λ j. get_or (set w m true) j false) (sym e) ∙ get_or-set_same w m true false l
        go i h (no d) (yes e) = absurd (d (q ∙ ap (λ j. mark_of (segment_at b j)) e))
        go i h (no d) (no x) = get_or-set_other w m (mark_of (segment_at b i)) true false (λ e. d (sym e)) ∙ s.marked i (omega arith)

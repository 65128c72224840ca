-- A buffer as slots of records: what a write of one record leaves in each, and the bytes of the first slots.
-- Assumes nothing.
use Rattle.std.proofs.lemmas.List.{map-append}
use Prim.Native.Nat.{ℕ, zero, suc, ◌+◌, ◌-◌, ◌*◌, ◌≤◌, ◌<◌}
use native.Mathlib.Nat.{zero-add, add-zero}
use native.Mathlib.Numerals.{add-one}
use native.Mathlib.Decide.{dec_lt}
use native.Mathlib.Omega.{arith}
use mathlib.Core.Path.{◌≡◌, refl, sym, ap, ap₂, ◌∙◌, subst}
use mathlib.Core.List.Memᴰ
use mathlib.Core.List.Memᴰ.{head}
use mathlib.Core.List.{List, [], ◌∷◌, ◌++◌, map, flat_map, append_assoc, append-nil, Memᴰ as Mem}
use lib.ListN.{length, get_or, take, drop, replicate, length-append, length-map, length-drop, length-replicate, take-append-drop}
use lib.Seq.{take_at, drop_at, take-add, drop-drop, drop-append-le, take-append-le, drop-append-add, length-take-le, take_all}
use Rattle.spec.specs.Limits.{solution_size}
use Rattle.spec.specs.Basics.{range}
use Rattle.spec.proofs.Lists.{length-range, range-suc, flat_map-append}
use Rattle.output.specs.Write.{written}
use Rattle.output.proofs.Copied.{copied_in}
use borrow.Rule.Slice.PartMut.{put_mid}
use Rattle.output.proofs.Writing.{written-within}
use Rattle.path.specs.Slots.{record_at, records_to}

-- ---- the first slots

get_or-range : {A : Type 0} (f : ℕ → A) (z : A) (i n j : ℕ) → j < n → get_or (map f (range i n)) j z ≡ f (i + j)
unfolding range
get_or-range f z i zero j h = absurd (omega arith)
get_or-range f z i (suc n) zero h = ap f (sym (add-zero i))
get_or-range f z i (suc n) (suc j) h =
    let e : i + 1 + j ≡ i + suc j = omega arith in
    get_or-range f z (i + 1) n j (omega arith) ∙ ap f e

module _ (d : List ℕ) where
  pub record-in : (n j : ℕ) → j < n → get_or (records_to d n) j [] ≡ record_at d j
  unfolding records_to
  record-in n j h = get_or-range (record_at d) [] 0 n j h ∙ ap (record_at d) (zero-add j)

  pub records-length : (n : ℕ) → length (records_to d n) ≡ n
  unfolding records_to
  records-length n = length-map (range 0 n) (record_at d) ∙ length-range 0 n

  pub records-more : (n : ℕ) → records_to d (n + 1) ≡ records_to d n ++ (record_at d n ∷ [])
  unfolding records_to
  records-more n =
      ap (λ m. map (record_at d) (range 0 m)) (add-one n) ∙ ap (map (record_at d)) (range-suc 0 n) ∙ map-append (record_at d) (range 0 n) ((0 + n) ∷ [])
      ∙ ap (λ k. map (record_at d) (range 0 n) ++ (record_at d k ∷ [])) (zero-add n)

  pub record-mem : (n j : ℕ) → j < n → Mem (record_at d j) (records_to d n)
  record-mem zero j h = absurd (omega arith)
  record-mem (suc n) j h = subst (Mem (record_at d j)) (sym (ap (records_to d) (sym (add-one n)) ∙ records-more n)) (go (dec_lt j n) (record-mem n j))
    where
      go : Dec (j < n) → (j < n → Mem (record_at d j) (records_to d n)) → Mem (record_at d j) (records_to d n ++ (record_at d n ∷ []))
      go (yes p) ih = Memᴰ.append_left (record_at d n ∷ []) (ih p)
      go (no p) ih = let e : j ≡ n = omega arith in Memᴰ.append_right (records_to d n) (head (ap (record_at d) e))

  -- their bytes
  pub records-bytes : (n : ℕ) → take (solution_size * n) d ≡ flat_map (λ r. r) (records_to d n)
  unfolding records_to range flat_map
  records-bytes zero = refl
  records-bytes (suc n) =
      let e : solution_size * suc n ≡ solution_size * n + solution_size = omega arith in
      ap (λ m. take m d) e ∙ take-add (solution_size * n) solution_size d
      ∙ ap₂ (λ (x : List ℕ) y. x ++ y) (records-bytes n) (sym (append-nil (record_at d n)))
      ∙ sym (flat_map-append (λ r. r) (records_to d n) (record_at d n ∷ []))
      ∙ ap (flat_map (λ r. r)) (sym (records-more n) ∙ ap (records_to d) (add-one n))

-- ---- one record written

pub copy-whole : (r : List ℕ) → length r ≡ solution_size → take solution_size (drop 0 r) ≡ r
copy-whole r e = take_all solution_size r (omega arith)

module _ (d : List ℕ) (i : ℕ) (r : List ℕ) (size : length r ≡ solution_size) (room : solution_size * (i + 1) ≤ length d) where
  abbrev before : List ℕ
  before = take (solution_size * i) d

  abbrev after : List ℕ
  after = drop (solution_size * i + length r) d

  before-length : length before ≡ solution_size * i
  before-length = length-take-le (solution_size * i) d (omega arith)

  parts : written d (solution_size * i) r ≡ before ++ (r ++ after)
  parts = written-within d (solution_size * i) r (omega arith) ∙ append_assoc before r after

  pub written-here : record_at (written d (solution_size * i) r) i ≡ r
  written-here =
      ap (λ l. record_at l i) parts
      ∙ ap (take solution_size) (drop_at before (r ++ after) (solution_size * i) before-length)
      ∙ take_at r after solution_size size

  early : (x : List ℕ) (j : ℕ) → j < i → record_at (before ++ x) j ≡ record_at before j
  early x j h =
      ap (take solution_size) (drop-append-le (solution_size * j) before x (omega (arith, before-length)))
      ∙ take-append-le solution_size (drop (solution_size * j) before) x (omega (arith, before-length, length-drop (solution_size * j) before))

  pub written-early : (j : ℕ) → j < i → record_at (written d (solution_size * i) r) j ≡ record_at d j
  written-early j h =
      ap (λ l. record_at l j) parts ∙ early (r ++ after) j h ∙ sym (early (drop (solution_size * i) d) j h)
      ∙ ap (λ l. record_at l j) (take-append-drop (solution_size * i) d)

  pub written-late : (j : ℕ) → i < j → record_at (written d (solution_size * i) r) j ≡ record_at d j
  written-late j h =
      let m : ℕ = solution_size * j - solution_size * (i + 1) in
      let front : List ℕ = before ++ r in
      let k : length front ≡ solution_size * (i + 1) = omega (arith, length-append before r, before-length) in
      let e : solution_size * j ≡ length front + m = omega arith in
      let f : solution_size * i + length r + m ≡ solution_size * j = omega arith in
      ap (take solution_size)
      (ap (λ l. drop (solution_size * j) l) (parts ∙ sym (append_assoc before r after))
      ∙ ap (λ n. drop n (front ++ after)) e ∙ drop-append-add front after m
      ∙ drop-drop m (solution_size * i + length r) d ∙ ap (λ n. drop n d) f)

  -- what follows the record
  pub written_after : drop (solution_size * (i + 1)) (written d (solution_size * i) r) ≡ drop (solution_size * (i + 1)) d
  written_after =
      let front : List ℕ = before ++ r in
      let k : length front ≡ solution_size * (i + 1) = omega (arith, length-append before r, before-length) in
      let e : solution_size * i + length r ≡ solution_size * (i + 1) = omega arith in
      ap (drop (solution_size * (i + 1))) (parts ∙ sym (append_assoc before r after))
      ∙ drop_at front after (solution_size * (i + 1)) k
      ∙ ap (λ n. drop n d) e

-- ---- two buffers that agree from a slot on

module _ (d d' : List ℕ) (i : ℕ) (same : drop (solution_size * i) d' ≡ drop (solution_size * i) d) where
  pub after-later : (j : ℕ) → i ≤ j → drop (solution_size * j) d' ≡ drop (solution_size * j) d
  after-later j h =
      let m : ℕ = solution_size * j - solution_size * i in
      let e : solution_size * i + m ≡ solution_size * j = omega arith in
      ap (λ n. drop n d') (sym e) ∙ sym (drop-drop m (solution_size * i) d') ∙ ap (drop m) same ∙ drop-drop m (solution_size * i) d ∙ ap (λ n. drop n d) e

  pub after-record : (j : ℕ) → i ≤ j → record_at d' j ≡ record_at d j
  after-record j h = ap (take solution_size) (after-later j h)

-- ---- zeros from one index up to another

-- after `d[from..end].fill(0)`
pub filled : (d : List ℕ) (from end k n : ℕ) (ys : List ℕ) → (((y : ℕ) → y ≡ 0 → y ≡ 0) → ys ≡ replicate n 0) → n ≡ end - from → k ≡ n → from ≤ end → end ≤ length d
    → put_mid from k d ys ≡ written d from (replicate (end - from) 0)
filled d from end k n ys e p q h g =
    copied_in d from k (replicate n 0) ys (e (λ y h. h)) (length-replicate {A = ℕ} n 0 ∙ sym q) (omega arith)
    ∙ ap (λ i. written d from (replicate {A = ℕ} i 0)) p

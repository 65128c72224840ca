-- The last edge of a list of which a test holds, and the numbers that a scan finds.
-- Assumes nothing.
use Rattle.std.proofs.lemmas.Bool.{and_from}
use Prim.Native.Nat.{ℕ, zero, suc, ◌+◌, ◌-◌, ◌≤◌, ◌<◌}
use native.Mathlib.Nat.{add-zero}
use native.Mathlib.Omega.{arith}
use mathlib.Core.Path.{◌≡◌, refl, sym, ap, ap₂, ◌∙◌}
use mathlib.Core.Bool.{Bool, true, false, ◌&&◌, ◌||◌}
use mathlib.Core.List.{List, [], ◌∷◌, ◌++◌, flat_map, reverse, reverse-cons, append-nil}
use lib.ListN.{length}
use lib.Dec.{ltb}
use borrow.Author.Tests.{ltb-true, ltb-false, lt-ltb, le-ltb}
use Rattle.spec.specs.declared.Edge.{Edge}
use Rattle.std.specs.Prelude.{if◌then◌else◌}
use Rattle.spec.specs.Basics.{any, range}
use Rattle.spec.proofs.Membership.{and-true, not-both}
use Rattle.spec.proofs.Lists.{flat_map-append, range-suc}
use Rattle.spec.proofs.OnceLaws.{any-mem}
use Rattle.spec.proofs.BookLaws.{mem-range}
use Rattle.graph.specs.Scan.{first_with, last_with}

-- ---- the first list that is not empty

-- a list of one where a test holds
abbrev pub when : Bool → Edge → List Edge
when t e = if t then e ∷ [] else []

unfoldable pub or_else : List Edge → List Edge → List Edge
or_else [] ys = ys
or_else (x ∷ xs) ys = x ∷ xs

pub or_else-nil : (xs : List Edge) → or_else xs [] ≡ xs
unfolding or_else
or_else-nil [] = refl
or_else-nil (x ∷ xs) = refl

pub or_else-first : (ys : List Edge) → or_else [] ys ≡ ys
unfolding or_else
or_else-first ys = refl

or_else-assoc : (xs ys zs : List Edge) → or_else (or_else xs ys) zs ≡ or_else xs (or_else ys zs)
unfolding or_else
or_else-assoc [] ys zs = refl
or_else-assoc (x ∷ xs) ys zs = refl

-- ---- the last edge of which a test holds

module _ (t : Edge → Bool) where
  unfoldable pub last_by : List Edge → List Edge
  last_by [] = []
  last_by (e ∷ later) = or_else (last_by later) (when (t e) e)

  pub last-append : (xs ys : List Edge) → last_by (xs ++ ys) ≡ or_else (last_by ys) (last_by xs)
  unfolding last_by
  last-append [] ys = sym (or_else-nil (last_by ys))
  last-append (x ∷ xs) ys =
      ap (λ l. or_else l (when (t x) x)) (last-append xs ys) ∙ or_else-assoc (last_by ys) (last_by xs) (when (t x) x)

  -- of two
  pub last-two : (e f : Edge) → last_by (e ∷ f ∷ []) ≡ or_else (when (t f) f) (when (t e) e)
  unfolding last_by or_else
  last-two e f = refl

  pub last_one : (es : List Edge) → length (last_by es) ≤ 1
  unfolding last_by or_else
  last_one [] = omega arith
  last_one (e ∷ later) = go (last_by later) (t e) (last_one later)
    where
      go : (l : List Edge) (x : Bool) → length l ≤ 1 → length (or_else l (when x e)) ≤ 1
      go [] true h = omega arith
      go [] false h = omega arith
      go (y ∷ ys) x h = h

  pub last_none : (es : List Edge) → any t es ≡ false → last_by es ≡ []
  unfolding last_by any or_else
  last_none [] h = refl
  last_none (e ∷ later) h = go (t e) (any t later) h (last_none later)
    where
      go : (x y : Bool) → (x || y) ≡ false → (y ≡ false → last_by later ≡ []) → or_else (last_by later) (when x e) ≡ []
      go true y h ih = not-both refl h
      go false y h ih = or_else-nil (last_by later) ∙ ih h

  -- where there is one, what stands before it does not matter
  pub last_some : (es : List Edge) → any t es ≡ true → (ys : List Edge) → or_else (last_by es) ys ≡ last_by es
  unfolding last_by any or_else
  last_some [] h ys = not-both h refl
  last_some (e ∷ later) h ys = go (t e) (last_by later) refl (any t later) h (last_some later)
    where
      go : (x : Bool) (l : List Edge) → l ≡ last_by later → (y : Bool) → (x || y) ≡ true → (y ≡ true → (zs : List Edge) → or_else (last_by later) zs ≡ last_by later)
          → or_else (or_else l (when x e)) ys ≡ or_else l (when x e)
      go true [] q y h ih = refl
      go true (z ∷ zs) q y h ih = refl
      go false l q y h ih =
          let r : or_else l ys ≡ l = ap (λ m. or_else m ys) q ∙ ih h ys ∙ sym q in
          ap (λ m. or_else m ys) (or_else-nil l) ∙ r ∙ sym (or_else-nil l)

  -- over entries from the highest down, each of which has at most one: that of the first entry
  module _ (f : ℕ → List Edge) (q : ℕ → Bool) (e : ℕ → Edge) where
    pub last-entries : (i k : ℕ) → ((j : ℕ) → i ≤ j → j < i + k → last_by (f j) ≡ when (q j) (e j))
        → last_by (flat_map f (reverse (range i k))) ≡ when (ltb (first_with q i k) (i + k)) (e (first_with q i k))
    unfolding last_by range first_with flat_map or_else
    last-entries i zero h = sym (ap (λ x. when x (e i)) (le-ltb i (i + 0) (omega arith)))
    last-entries i (suc k) h =
        ap (λ l. last_by (flat_map f l)) (reverse-cons i (range (i + 1) k))
        ∙ ap last_by (flat_map-append f (reverse (range (i + 1) k)) (i ∷ []))
        ∙ last-append (flat_map f (reverse (range (i + 1) k))) (f i ++ [])
        ∙ ap₂ or_else (ap last_by (append-nil (f i)) ∙ h i (omega arith) (omega arith)) (last-entries (i + 1) k (λ j a b. h j (omega arith) (omega arith)))
        ∙ go (q i)
      where
        go : (x : Bool) → or_else (when x (e i)) (when (ltb (first_with q (i + 1) k) (i + 1 + k)) (e (first_with q (i + 1) k)))
            ≡ when (ltb (if x then i else first_with q (i + 1) k) (i + suc k)) (e (if x then i else first_with q (i + 1) k))
        go true = sym (ap (λ x. when x (e i)) (lt-ltb i (i + suc k) (omega arith)))
        go false = ap (λ n. when (ltb (first_with q (i + 1) k) n) (e (first_with q (i + 1) k))) (omega arith)

  -- over peers from 0 up: that of the last
  module _ (f : ℕ → List Edge) (q : ℕ → Bool) (e : ℕ → Edge) where
    pub last-peers : (n : ℕ) → ((p : ℕ) → last_by (f p) ≡ when (q p) (e (suc p)))
        → last_by (flat_map f (range 0 n)) ≡ when (ltb 0 (last_with q n)) (e (last_with q n))
    unfolding last_by range last_with flat_map or_else
    last-peers zero h = refl
    last-peers (suc n) h =
        ap (λ l. last_by (flat_map f l)) (range-suc 0 n)
        ∙ ap last_by (flat_map-append f (range 0 n) ((0 + n) ∷ []))
        ∙ last-append (flat_map f (range 0 n)) (f (0 + n) ++ [])
        ∙ ap₂ or_else (ap last_by (append-nil (f (0 + n))) ∙ ap (λ m. last_by (f m)) (omega arith) ∙ h n) (last-peers n h)
        ∙ go (q n)
      where
        go : (x : Bool) → or_else (when x (e (suc n))) (when (ltb 0 (last_with q n)) (e (last_with q n)))
            ≡ when (ltb 0 (if x then suc n else last_with q n)) (e (if x then suc n else last_with q n))
        go true = sym (ap (λ x. when x (e (suc n))) (lt-ltb 0 (suc n) (omega arith)))
        go false = refl

-- ---- what a scan finds

module _ (p : ℕ → Bool) where
  pub first-le : (i k : ℕ) → (i ≤ first_with p i k) × (first_with p i k ≤ i + k)
  unfolding first_with
  first-le i zero = (omega arith, omega arith)
  first-le i (suc k) = go (p i) (first-le (i + 1) k)
    where
      go : (x : Bool) → (i + 1 ≤ first_with p (i + 1) k) × (first_with p (i + 1) k ≤ i + 1 + k)
          → (i ≤ (if x then i else first_with p (i + 1) k)) × ((if x then i else first_with p (i + 1) k) ≤ i + suc k)
      go true h = (omega arith, omega arith)
      go false h = (omega arith, omega arith)

  -- some number passes just where the scan stops early
  pub any-first : (i k : ℕ) → any p (range i k) ≡ ltb (first_with p i k) (i + k)
  unfolding first_with any range
  any-first i zero = sym (le-ltb i (i + 0) (omega arith))
  any-first i (suc k) = go (p i) (any-first (i + 1) k)
    where
      go : (x : Bool) → any p (range (i + 1) k) ≡ ltb (first_with p (i + 1) k) (i + 1 + k)
          → (x || any p (range (i + 1) k)) ≡ ltb (if x then i else first_with p (i + 1) k) (i + suc k)
      go true h = sym (lt-ltb i (i + suc k) (omega arith))
      go false h = h ∙ ap (ltb (first_with p (i + 1) k)) (omega arith)

  -- the number found passes
  pub first_passes : (i k : ℕ) → first_with p i k < i + k → p (first_with p i k) ≡ true
  unfolding first_with
  first_passes i zero h = absurd (omega arith)
  first_passes i (suc k) h = go (p i) refl (first_passes (i + 1) k) h
    where
      go : (x : Bool) → p i ≡ x → (first_with p (i + 1) k < i + 1 + k → p (first_with p (i + 1) k) ≡ true)
          → (if x then i else first_with p (i + 1) k) < i + suc k → p (if x then i else first_with p (i + 1) k) ≡ true
      go true q ih h = q
      go false q ih h = ih (omega arith)

  -- one number more
  pub first_more : (i k : ℕ) → (p (i + k) || ltb (first_with p i k) (i + k)) ≡ ltb (first_with p i (suc k)) (i + suc k)
  unfolding first_with
  first_more i zero = go (p i) (ap p (add-zero i))
    where
      go : (x : Bool) → p (i + 0) ≡ x → (p (i + 0) || ltb i (i + 0)) ≡ ltb (if x then i else i + 1) (i + 1)
      go true q = ap (λ y. y || ltb i (i + 0)) q ∙ sym (lt-ltb i (i + 1) (omega arith))
      go false q = ap (λ y. y || ltb i (i + 0)) q ∙ le-ltb i (i + 0) (omega arith) ∙ sym (le-ltb (i + 1) (i + 1) (omega arith))
  first_more i (suc k) = go (p i) (first_more (i + 1) k)
    where
      or-true : (x : Bool) → (x || true) ≡ true
      or-true true = refl
      or-true false = refl

      e : i + suc k ≡ i + 1 + k
      e = omega arith

      e' : i + 1 + suc k ≡ i + suc (suc k)
      e' = omega arith

      go : (x : Bool) → (p (i + 1 + k) || ltb (first_with p (i + 1) k) (i + 1 + k)) ≡ ltb (first_with p (i + 1) (suc k)) (i + 1 + suc k)
          → (p (i + suc k) || ltb (if x then i else first_with p (i + 1) k) (i + suc k)) ≡ ltb (if x then i else first_with p (i + 1) (suc k)) (i + suc (suc k))
      go true h = ap (λ y. p (i + suc k) || y) (lt-ltb i (i + suc k) (omega arith)) ∙ or-true (p (i + suc k)) ∙ sym (lt-ltb i (i + suc (suc k)) (omega arith))
      go false h = ap (λ m. p m || ltb (first_with p (i + 1) k) m) e ∙ h ∙ ap (ltb (first_with p (i + 1) (suc k))) e'

  -- a number that passes is found, if no other does
  pub first-only : (j n : ℕ) → j < n → p j ≡ true → ((i : ℕ) → i < n → p i ≡ true → i ≡ j) → first_with p 0 n ≡ j
  first-only j n l h only =
      let m = ltb-true _ _ (sym (any-first 0 n) ∙ any-mem p (range 0 n) (mem-range 0 n j (omega arith) (omega arith)) h) in
      only (first_with p 0 n) (omega arith) (first_passes 0 n m)

  -- an edge by what is found is that of the only number that can pass
  pub first_alone : (r n : ℕ) → ((i : ℕ) → i < n → p i ≡ true → i ≡ r) → (e : ℕ → Edge)
      → when (ltb (first_with p 0 n) (0 + n)) (e (first_with p 0 n)) ≡ when (ltb r n && p r) (e r)
  first_alone r n only e = go (ltb (first_with p 0 n) (0 + n)) refl
    where
      none : any p (range 0 n) ≡ false → (t : Bool) → (ltb r n && p r) ≡ t → [] ≡ when t (e r)
      none f true q =
          let w = and-true (ltb r n) (p r) q in
          let l = ltb-true r n w.0 in
          not-both (any-mem p (range 0 n) (mem-range 0 n r (omega arith) (omega arith)) w.1) f
      none f false q = refl

      go : (t : Bool) → ltb (first_with p 0 n) (0 + n) ≡ t → when t (e (first_with p 0 n)) ≡ when (ltb r n && p r) (e r)
      go true q =
          let m = ltb-true _ _ q in
          let h = first_passes 0 n m in
          let f = only (first_with p 0 n) (omega arith) h in
          ap (λ k. e k ∷ []) f ∙ sym (ap (λ x. when x (e r)) (and_from (ltb r n) (p r) (lt-ltb r n (omega arith)) (ap p (sym f) ∙ h)))
      go false q = none (any-first 0 n ∙ q) (ltb r n && p r) refl

  -- ---- from above

  pub last-le : (n : ℕ) → last_with p n ≤ n
  unfolding last_with
  last-le zero = omega arith
  last-le (suc n) = go (p n) (last-le n)
    where
      go : (x : Bool) → last_with p n ≤ n → (if x then suc n else last_with p n) ≤ suc n
      go true h = omega arith
      go false h = omega arith

  pub last-passes : (n j : ℕ) → last_with p n ≡ suc j → p j ≡ true
  unfolding last_with
  last-passes zero j h = absurd (omega arith)
  last-passes (suc n) j h = go (p n) refl h (last-passes n j)
    where
      go : (x : Bool) → p n ≡ x → (if x then suc n else last_with p n) ≡ suc j → (last_with p n ≡ suc j → p j ≡ true) → p j ≡ true
      go true q h ih = let e : n ≡ j = omega arith in ap p (sym e) ∙ q
      go false q h ih = ih h

  -- a number that does not pass
  last_step : (j : ℕ) → p j ≡ false → last_with p (suc j) ≡ last_with p j
  unfolding last_with
  last_step j q = ap (λ x. if x then suc j else last_with p j) q

  last-stop : (j : ℕ) → p j ≡ true → last_with p (suc j) ≡ suc j
  unfolding last_with
  last-stop j q = ap (λ x. if x then suc j else last_with p j) q

  -- what is found is no smaller than a number that passes
  pub last-above : (j n : ℕ) → j < n → p j ≡ true → j < last_with p n
  unfolding last_with
  last-above j zero l h = absurd (omega arith)
  last-above j (suc n) l h = go (p n) refl (ltb j n) refl (last-above j n)
    where
      go : (x : Bool) → p n ≡ x → (y : Bool) → ltb j n ≡ y → (j < n → p j ≡ true → j < last_with p n) → j < (if x then suc n else last_with p n)
      go true q y r ih = omega arith
      go false q true r ih = ih (ltb-true j n r) h
      go false q false r ih = let m = ltb-false j n r in let e : j ≡ n = omega arith in not-both (ap p (sym e) ∙ h) q

-- ---- the turns of a scan

-- up: nothing below i passes
pub record Scanning (p : ℕ → Bool) (n i : ℕ) : Type 0 where
  pub within : i ≤ n
  pub same : first_with p 0 n ≡ first_with p i (n - i)

-- down: nothing from j on passes
pub record Sinking (p : ℕ → Bool) (n j : ℕ) : Type 0 where
  pub within : j ≤ n
  pub same : last_with p n ≡ last_with p j

module _ (p : ℕ → Bool) (n : ℕ) where
  pub scan-start : Scanning p n 0
  scan-start = let e : n ≡ n - 0 = omega arith in record { within = omega arith; same = ap (first_with p 0) e }

  pub scan-stop : (i : ℕ) → Scanning p n i → i < n → p i ≡ true → i ≡ first_with p 0 n
  scan-stop i s l h =
      let e : n - i ≡ suc (n - (i + 1)) = omega arith in
      sym (s.same ∙ ap (first_with p i) e ∙ stop)
    where
      stop : first_with p i (suc (n - (i + 1))) ≡ i
      stop = unfold first_with in ap (λ x. if x then i else first_with p (i + 1) (n - (i + 1))) h

  pub scan-turn : (i : ℕ) → Scanning p n i → i < n → p i ≡ false → Scanning p n (i + 1)
  scan-turn i s l h =
      let e : n - i ≡ suc (n - (i + 1)) = omega arith in
      record { within = omega arith; same = s.same ∙ ap (first_with p i) e ∙ turn }
    where
      turn : first_with p i (suc (n - (i + 1))) ≡ first_with p (i + 1) (n - (i + 1))
      turn = unfold first_with in ap (λ x. if x then i else first_with p (i + 1) (n - (i + 1))) h

  pub scan-end : (i : ℕ) → Scanning p n i → n ≤ i → i ≡ first_with p 0 n
  scan-end i s l = let e : n - i ≡ 0 = omega arith in sym (s.same ∙ ap (first_with p i) e ∙ end)
    where
      end : first_with p i 0 ≡ i
      end = unfold first_with in refl

  pub sink-start : (j : ℕ) → j ≡ n → Sinking p n j
  sink-start j q = record { within = omega arith; same = ap (last_with p) (sym q) }

  pub sink-stop : (j : ℕ) → Sinking p n j → 0 < j → p (j - 1) ≡ true → j ≡ last_with p n
  sink-stop j s l h = let e : j ≡ suc (j - 1) = omega arith in sym (s.same ∙ ap (last_with p) e ∙ last-stop p (j - 1) h ∙ sym e)

  pub sink-turn : (j : ℕ) → Sinking p n j → 0 < j → p (j - 1) ≡ false → Sinking p n (j - 1)
  sink-turn j s l h =
      let e : j ≡ suc (j - 1) = omega arith in
      record { within = omega arith; same = s.same ∙ ap (last_with p) e ∙ last_step p (j - 1) h }

  pub sink-end : (j : ℕ) → Sinking p n j → j ≤ 0 → 0 ≡ last_with p n
  sink-end j s l = let e : j ≡ 0 = omega arith in sym (s.same ∙ ap (last_with p) e ∙ end)
    where
      end : last_with p 0 ≡ 0
      end = unfold last_with in refl

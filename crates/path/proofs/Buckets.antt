-- The buckets of marks: what each leads to, and one mark more.
-- Assumes nothing.
use Prim.Native.Nat.{ℕ, zero, suc, ◌+◌, ◌%◌, ◌≤◌, ◌<◌}
use native.Mathlib.Decide.{ℕ_discrete, dec_lt}
use native.Mathlib.Numerals.{add-one}
use native.Mathlib.Omega.{arith}
use mathlib.Core.Path.{◌≡◌, refl, sym, ap, ap₂, ◌∙◌}
use mathlib.Core.Bool.{Bool, true, false}
use mathlib.Core.List.{List}
use lib.ListN.{length, get_or, set, replicate, length-set, length-replicate, get_or-replicate}
use lib.Seq.{get_or-set_same, get_or-set_other}
use lib.Dec.{eqb}
use borrow.Author.Tests.{eqb-true, eq-eqb, ne_eqb}
use Rattle.std.specs.Prelude.{if◌then◌else◌}
use Rattle.spec.proofs.Membership.{not-both}
use Rattle.path.specs.Slots.{last_before, Chained}

-- ---- the last of a bucket

module _ (marks : List ℕ) (m h : ℕ) where
  pub last-le : (n : ℕ) → last_before marks m h n ≤ n
  unfolding last_before
  last-le zero = omega arith
  last-le (suc n) = go (eqb (get_or marks n 0 % m) h) (last-le n)
    where
      go : (t : Bool) → last_before marks m h n ≤ n → (if t then suc n else last_before marks m h n) ≤ suc n
      go true i = omega arith
      go false i = omega arith

  -- it is in the bucket
  pub last-in : (n k : ℕ) → last_before marks m h n ≡ suc k → get_or marks k 0 % m ≡ h
  unfolding last_before
  last-in zero k q = absurd (omega arith)
  last-in (suc n) k q = go (eqb (get_or marks n 0 % m) h) refl (last-in n k) q
    where
      go : (t : Bool) → eqb (get_or marks n 0 % m) h ≡ t → (last_before marks m h n ≡ suc k → get_or marks k 0 % m ≡ h)
          → (if t then suc n else last_before marks m h n) ≡ suc k → get_or marks k 0 % m ≡ h
      go true e ih q =
          let z : k ≡ n = omega arith in
          ap (λ i. get_or marks i 0 % m) z ∙ eqb-true (get_or marks n 0 % m) h e
      go false e ih q = ih q

  -- none after it is
  pub last_none : (n j : ℕ) → last_before marks m h n ≤ j → j < n → get_or marks j 0 % m ≡ h → ⊥
  unfolding last_before
  last_none zero j l b q = omega arith
  last_none (suc n) j l b q = go (eqb (get_or marks n 0 % m) h) refl (last_none n j) l
    where
      go : (t : Bool) → eqb (get_or marks n 0 % m) h ≡ t → (last_before marks m h n ≤ j → j < n → get_or marks j 0 % m ≡ h → ⊥)
          → (if t then suc n else last_before marks m h n) ≤ j → ⊥
      go true e ih l = omega arith
      go false e ih l = at (dec_lt j n)
        where
          at : Dec (j < n) → ⊥
          at (yes p) = ih l p q
          at (no p) =
              let z : n ≡ j = omega arith in
              not-both (eq-eqb (get_or marks n 0 % m) h (ap (λ i. get_or marks i 0 % m) z ∙ q)) e

-- a mark at or after n does not count
last_set : (marks : List ℕ) (k x m h n : ℕ) → n ≤ k → last_before (set marks k x) m h n ≡ last_before marks m h n
unfolding last_before
last_set marks k x m h zero l = refl
last_set marks k x m h (suc n) l =
    ap₂ (λ y r. if eqb (y % m) h then suc n else r) (get_or-set_other marks k n x 0 (λ z. omega arith)) (last_set marks k x m h n (omega arith))

-- ---- the tables

pub chained-empty : (marks next : List ℕ) (n : ℕ) → Chained marks next (replicate n 0) 0
unfolding last_before
chained-empty marks next n =
    record {
      linked = λ j l. absurd (omega arith);
      headed = λ h l. get_or-replicate {A = ℕ} n h 0 0 (omega (arith, length-replicate {A = ℕ} n 0));
    }

-- a mark set after those that count
pub chained-mark : (marks next heads : List ℕ) (kept x : ℕ) → Chained marks next heads kept → Chained (set marks kept x) next heads kept
chained-mark marks next heads kept x w =
    record {
      linked = λ j l.
          w.linked j l ∙ ap (λ y. last_before marks (length heads) (y % length heads) j) (sym (get_or-set_other marks kept j x 0 (λ z. omega arith)))
          ∙ sym (last_set marks kept x (length heads) _ j (omega arith));
      headed = λ h l. w.headed h l ∙ sym (last_set marks kept x (length heads) h kept (omega arith));
    }

-- and counted
module _ (marks next heads : List ℕ) (kept h : ℕ) (w : Chained marks next heads kept) (its : h ≡ get_or marks kept 0 % length heads) (below : h < length heads)
    (room : kept < length next) where
  abbrev next' : List ℕ
  next' = set next kept (get_or heads h 0)

  abbrev heads' : List ℕ
  heads' = set heads h (kept + 1)

  same : length heads ≡ length heads'
  same = sym (length-set heads h (kept + 1))

  pub chained_more : Chained marks (set next kept (get_or heads h 0)) (set heads h (kept + 1)) (kept + 1)
  chained_more = record { linked = λ j l. link j l (dec_lt j kept); headed = λ g l. lead g (omega (arith, same)) (ℕ_discrete g h) }
    where
      link : (j : ℕ) → j < kept + 1 → Dec (j < kept) → get_or next' j 0 ≡ last_before marks (length heads') (get_or marks j 0 % length heads') j
      link j l (yes p) =
          get_or-set_other next kept j (get_or heads h 0) 0 (λ z. omega arith) ∙ w.linked j p
          ∙ ap (λ n. last_before marks n (get_or marks j 0 % n) j) same
      link j l (no p) =
          let z : j ≡ kept = omega arith in
          ap (λ i. get_or next' i 0) z ∙ get_or-set_same next kept (get_or heads h 0) 0 room ∙ w.headed h below
          ∙ ap (λ g. last_before marks (length heads) g kept) its
          ∙ ap (λ n. last_before marks n (get_or marks kept 0 % n) kept) same
          ∙ sym (ap (λ i. last_before marks (length heads') (get_or marks i 0 % length heads') i) z)

      more : (g : ℕ) (t : Bool) → eqb (get_or marks kept 0 % length heads) g ≡ t
          → last_before marks (length heads) g (suc kept) ≡ (if t then suc kept else last_before marks (length heads) g kept)
      more g t e = unfold last_before in (ap (λ s. if s then suc kept else last_before marks (length heads) g kept) e)

      lead : (g : ℕ) → g < length heads → Dec (g ≡ h) → get_or heads' g 0 ≡ last_before marks (length heads') g (kept + 1)
      lead g l (yes p) =
          ap (λ i. get_or heads' i 0) p ∙ get_or-set_same heads h (kept + 1) 0 below ∙ add-one kept
          ∙ sym (more g true (eq-eqb _ g (sym its ∙ sym p)))
          ∙ ap₂ (λ n i. last_before marks n g i) same (sym (add-one kept))
      lead g l (no p) =
          get_or-set_other heads h g (kept + 1) 0 (λ z. p z) ∙ w.headed g l
          ∙ sym (more g false (ne_eqb _ g (λ z. p (sym z ∙ sym its))))
          ∙ ap₂ (λ n i. last_before marks n g i) same (sym (add-one kept))

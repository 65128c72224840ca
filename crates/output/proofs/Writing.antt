-- Laws of writes, for callers.
-- Assumes nothing.
use Prim.Native.Nat.{ℕ, zero, suc, ◌+◌, ◌-◌, ◌≤◌}
use native.Mathlib.Nat.{add-zero, add-suc, zero-add, suc-add}
use native.Mathlib.Decide.{dec_le}
use native.Mathlib.Omega.{arith}
use mathlib.Core.Path.{◌≡◌, refl, sym, ap, ◌∙◌}
use mathlib.Core.List.{List, [], ◌∷◌, ◌++◌, append-nil}
use lib.ListN.{length, take, drop, set, replicate, length-append, length-take, length-drop, length-replicate, take-append-drop, drop_of_length-le}
use lib.Seq.{sets, length-sets, set_out, take_all, take-length, length-take-le, take_at, drop-append-add, drop-length}
use Rattle.spec.specs.Octets.{octets2, octets4, octets8}
use Rattle.output.specs.Write.{written, zeroed}

-- ---- a write is a run of stores

sets-nil : (at : ℕ) (xs : List ℕ) → sets [] at xs ≡ []
sets-nil at [] = refl
sets-nil at (x ∷ xs) = sets-nil (suc at) xs

sets-cons : (y : ℕ) (d : List ℕ) (at : ℕ) (xs : List ℕ) → sets (y ∷ d) (suc at) xs ≡ y ∷ sets d at xs
sets-cons y d at [] = refl
sets-cons y d at (x ∷ xs) = sets-cons y (set d at x) (suc at) xs

pub written-sets : (d : List ℕ) (at : ℕ) (xs : List ℕ) → written d at xs ≡ sets d at xs
unfolding written
written-sets [] at xs = sym (sets-nil at xs)
written-sets (y ∷ d) (suc at) xs = rw (suc-add, sets-cons) (ap (λ (l : List ℕ). y ∷ l) (written-sets d at xs))
written-sets (y ∷ d) zero [] = take-length (y ∷ d)
written-sets (y ∷ d) zero (x ∷ xs) = rw zero-add (ap (λ (l : List ℕ). x ∷ l) (rw zero-add at (written-sets d zero xs)) ∙ sym (sets-cons x d zero xs))

sets-append : (d : List ℕ) (at : ℕ) (xs ys : List ℕ) → sets (sets d at xs) (at + length xs) ys ≡ sets d at (xs ++ ys)
sets-append d at [] ys = rw add-zero
sets-append d at (x ∷ xs) ys = rw (add-suc, ← suc-add) (sets-append (set d at x) (suc at) xs ys)

sets-past : (d : List ℕ) (at : ℕ) (xs : List ℕ) → length d ≤ at → sets d at xs ≡ d
sets-past d at [] h = refl
sets-past d at (x ∷ xs) h = rw (set_out d at x h) (sets-past d (suc at) xs (omega arith))

-- ---- for callers

pub written-length : (d : List ℕ) (at : ℕ) (xs : List ℕ) → length (written d at xs) ≡ length d
written-length d at xs = rw written-sets (length-sets d at xs)

pub written_none : (d : List ℕ) (at : ℕ) → written d at [] ≡ d
written_none d at = written-sets d at []

pub written_one : (d : List ℕ) (at x : ℕ) → written d at (x ∷ []) ≡ set d at x
written_one d at x = written-sets d at (x ∷ [])

-- nothing is written past the end
pub written-past : (d : List ℕ) (at : ℕ) (xs : List ℕ) → length d ≤ at → written d at xs ≡ d
written-past d at xs h = written-sets d at xs ∙ sets-past d at xs h

-- two writes, one after the other, are one
pub written-join : (d : List ℕ) (at : ℕ) (xs ys : List ℕ) → written (written d at xs) (at + length xs) ys ≡ written d at (xs ++ ys)
written-join d at xs ys = rw (written-sets d at (xs ++ ys), written-sets d at xs, written-sets (sets d at xs)) (sets-append d at xs ys)

pub written-within : (d : List ℕ) (at : ℕ) (xs : List ℕ) → at + length xs ≤ length d
    → written d at xs ≡ take at d ++ xs ++ drop (at + length xs) d
unfolding written
written-within d at xs h =
    take_all (length d) (take at d ++ xs ++ drop (at + length xs) d) (simp (length-append, length-take, length-drop) (omega arith))

-- a buffer that is filled from the front
pub written_next : (done rest : List ℕ) (at : ℕ) (xs : List ℕ) → length done ≡ at → length xs ≤ length rest
    → written (done ++ rest) at xs ≡ (done ++ xs) ++ drop (length xs) rest
written_next done rest at xs e h =
    rw (written-within (done ++ rest) at xs (simp length-append (omega arith)), take_at done rest at e, ← e, drop-append-add)

-- what would fall past the end is not looked at
pub written-cut : (d : List ℕ) (at k : ℕ) (xs : List ℕ) → length d ≤ at + k → written d at (take k xs) ≡ written d at xs
written-cut d at k xs h = go (dec_le k (length xs))
  where
    go : Dec (k ≤ length xs) → written d at (take k xs) ≡ written d at xs
    go (yes l) =
        sym (written-past (written d at (take k xs)) (at + length (take k xs)) (drop k xs) (simp (written-length, length-take) (omega arith)))
        ∙ written-join d at (take k xs) (drop k xs) ∙ ap (written d at) (take-append-drop k xs)
    go (no l) = ap (written d at) (take_all k xs (omega arith))

-- how many bytes a number takes
pub octets2-length : (x : ℕ) → length (octets2 x) ≡ 2
unfolding octets2
octets2-length x = refl

pub octets4-length : (x : ℕ) → length (octets4 x) ≡ 4
unfolding octets4 octets2
octets4-length x = refl

pub octets8-length : (x : ℕ) → length (octets8 x) ≡ 8
unfolding octets8 octets4 octets2
octets8-length x = refl

-- ---- zeros

pub zeroed-written : (d : List ℕ) (from : ℕ) → written d from (replicate (length d - from) 0) ≡ zeroed d from
unfolding written zeroed
zeroed-written d from =
    rw (drop_of_length-le d {i = from + length {A = ℕ} (replicate (length d - from) 0)} (simp length-replicate (omega arith)), append-nil)
    (take_all (length d) (take from d ++ replicate (length d - from) 0) (simp (length-append, length-take, length-replicate) (omega arith)))

pub zeroed_rest : (done rest : List ℕ) → zeroed (done ++ rest) (length done) ≡ done ++ replicate (length rest) 0
unfolding zeroed
zeroed_rest done rest =
    let e : length (done ++ rest) - length done ≡ length rest = rw length-append (omega arith) in
    rw (e, take_at done rest (length done) refl)

pub zeroed-all : (d : List ℕ) → zeroed d 0 ≡ replicate (length d) 0
zeroed-all d = zeroed_rest [] d

-- ---- what code leaves, in the terms of the contracts

-- two writes, of which the first has n bytes
pub written-pair : (d : List ℕ) (at n : ℕ) (xs ys : List ℕ) → length xs ≡ n → written (written d at xs) (at + n) ys ≡ written d at (xs ++ ys)
written-pair d at n xs ys e = rw (← e) (written-join d at xs ys)

-- ---- by way of a local piece

-- a write over all there is
pub over : (z xs : List ℕ) → length xs ≡ length z → written z 0 xs ≡ xs
over z xs l = written_next [] z 0 xs refl (omega arith) ∙ ap (λ n. xs ++ drop n z) l ∙ ap (λ t. xs ++ t) (drop-length z) ∙ append-nil xs

-- the local piece copied
pub passed_on : (n : ℕ) (z xs r d : List ℕ) (to : ℕ) (d' : List ℕ) → length z ≡ n → length xs ≡ n → r ≡ written z 0 xs → d' ≡ written d to (take n (drop 0 r))
    → d' ≡ written d to xs
passed_on n z xs r d to d' lz lx q p =
    p ∙ ap (λ t. written d to (take n (drop 0 t))) (q ∙ over z xs (omega arith)) ∙ ap (written d to) (take_all n xs (omega arith))

pub piece-put : (n : ℕ) (z b : List ℕ) (from : ℕ) (r d : List ℕ) (to : ℕ) (d' : List ℕ) → length z ≡ n → from + n ≤ length b
    → r ≡ written z 0 (take n (drop from b)) → d' ≡ written d to (take n (drop 0 r)) → d' ≡ written d to (take n (drop from b))
piece-put n z b from r d to d' lz h q p = passed_on n z (take n (drop from b)) r d to d' lz (length-take-le n (drop from b) (simp length-drop (omega arith))) q p

-- Numbers as text: from the last digit to the first, and how many digits there are.
-- Assumes nothing.
use Prim.Native.Nat.{ℕ, zero, suc, ◌+◌, ◌-◌, ◌/◌, ◌%◌, ◌^◌, ◌≤◌, ◌<◌}
use native.Mathlib.Nat.{pow-suc, pow-succ', div-div-eq-div-mul}
use native.Mathlib.Omega.{arith}
use mathlib.Core.Path.{◌≡◌, refl, sym, ap, ap₂, ◌∙◌}
use mathlib.Core.Bool.{Bool, true, false}
use mathlib.Core.List.{List, [], ◌∷◌, ◌++◌}
use lib.ListN.{length, take, drop, set, length-append}
use lib.Seq.{sets, set_comm, take-length}
use lib.Dec.{ltb}
use borrow.Author.Tests.{lt-ltb, le-ltb}
use Rattle.std.specs.Prelude.{if◌then◌else◌}
use Rattle.spec.specs.Printed.{decimal_in, decimal, hex}
use Rattle.spec.proofs.PrintedLaws.{hex-length}
use Rattle.output.specs.Write.{written}
use Rattle.output.proofs.Writing.{written-sets, written_none}
use Rattle.path.specs.Places.{Wrote}
use Rattle.printed.specs.Digits.{glyph_of, digits}

-- ---- a write before one that stands

set-sets : (d : List ℕ) (at x j : ℕ) (ys : List ℕ) → at < j → set (sets d j ys) at x ≡ sets (set d at x) j ys
set-sets d at x j [] h = refl
set-sets d at x j (y ∷ ys) h =
    set-sets (set d j y) at x (suc j) ys (omega arith) ∙ ap (λ l. sets l (suc j) ys) (set_comm d j at y x (λ e. omega arith))

sets-before : (d : List ℕ) (at n : ℕ) (xs ys : List ℕ) → length xs ≡ n → sets (sets d (at + n) ys) at xs ≡ sets d at (xs ++ ys)
sets-before d at n [] ys e = ap (λ k. sets d k ys) (omega arith)
sets-before d at n (x ∷ xs) ys e =
    ap (λ l. sets l (suc at) xs) (set-sets d at x (at + n) ys (omega arith))
    ∙ ap (λ k. sets (sets (set d at x) k ys) (suc at) xs) (omega arith)
    ∙ sets-before (set d at x) (suc at) (length xs) xs ys refl

written-before : (d : List ℕ) (at n : ℕ) (xs ys : List ℕ) → length xs ≡ n → written (written d (at + n) ys) at xs ≡ written d at (xs ++ ys)
written-before d at n xs ys e =
    rw (written-sets d at (xs ++ ys), written-sets d (at + n) ys, written-sets (sets d (at + n) ys)) (sets-before d at n xs ys e)

-- ---- digits

pub digits-length : (base k n : ℕ) → length (digits base k n) ≡ k
unfolding digits
digits-length base zero n = refl
digits-length base (suc k) n =
    omega (arith, length-append (digits base k (n / base)) (glyph_of (n % base) ∷ []), digits-length base k (n / base))

-- one digit more, before those that stand
pub digits-turn : (d : List ℕ) (at base i n : ℕ) → 0 < i
    → written (written d (at + (i - 1)) (glyph_of (n % base) ∷ [])) at (digits base (i - 1) (n / base)) ≡ written d at (digits base i n)
unfolding digits
digits-turn d at base zero n h = absurd (omega arith)
digits-turn d at base (suc i) n h =
    let e : suc i - 1 ≡ i = omega arith in
    rw e (written-before d at i (digits base i (n / base)) (glyph_of (n % base) ∷ []) (digits-length base i (n / base)))

pub digits-none : (d : List ℕ) (at base i n : ℕ) → i ≤ 0 → written d at (digits base i n) ≡ d
unfolding digits
digits-none d at base zero n h = written_none d at
digits-none d at base (suc i) n h = absurd (omega arith)

pub glyph-low : (d : ℕ) → d < 10 → 48 + d ≡ glyph_of d
unfolding glyph_of
glyph-low d h = rw (lt-ltb d 10 h)

pub glyph-high : (d : ℕ) → 10 ≤ d → 87 + d ≡ glyph_of d
unfolding glyph_of
glyph-high d h = rw (le-ltb d 10 h)

-- ---- in base ten

digits_in : (most n : ℕ) → decimal_in most n ≡ digits 10 (length (decimal_in most n)) n
unfolding decimal_in digits
digits_in zero n = refl
digits_in (suc most) n = go (digits_in most (n / 10)) (ltb n 10)
  where
    one : 48 + n % 10 ≡ glyph_of (n % 10)
    one = glyph-low (n % 10) (omega arith)

    go : decimal_in most (n / 10) ≡ digits 10 (length (decimal_in most (n / 10))) (n / 10) → (t : Bool)
        → (if t then [] else decimal_in most (n / 10)) ++ ((48 + n % 10) ∷ [])
        ≡ digits 10 (length ((if t then [] else decimal_in most (n / 10)) ++ ((48 + n % 10) ∷ []))) n
    go ih true = ap (λ x. x ∷ []) one
    go ih false =
        let e : length (decimal_in most (n / 10) ++ ((48 + n % 10) ∷ [])) ≡ suc (length (decimal_in most (n / 10))) =
        omega (arith, length-append (decimal_in most (n / 10)) ((48 + n % 10) ∷ [])) in
        ap₂ (λ l x. l ++ (x ∷ [])) ih one ∙ ap (λ k. digits 10 k n) (sym e)

pub digits_decimal : (n : ℕ) → digits 10 (length (decimal n)) n ≡ decimal n
unfolding decimal
digits_decimal n = sym (digits_in 20 n)

-- a number that has fewer digits is not cut
uncut : (k n : ℕ) → n < 10 ^ suc k → decimal_in (suc k) n ≡ decimal_in (suc (suc k)) n
unfolding decimal_in
uncut zero n h = rw (lt-ltb n 10 h)
uncut (suc k) n h = ap (λ l. (if ltb n 10 then [] else l) ++ ((48 + n % 10) ∷ [])) (uncut k (n / 10) (omega (arith, pow-suc 10 (suc k))))

-- the digits of a number, from those of its tenth
pub width-more : (n : ℕ) → n < 10 ^ 20 → 10 ≤ n → length (decimal n) ≡ length (decimal (n / 10)) + 1
unfolding decimal
width-more n h l =
    ap length (split n l ∙ ap (λ ds. ds ++ ((48 + n % 10) ∷ [])) (uncut 18 (n / 10) (omega arith)))
    ∙ length-append (decimal_in 20 (n / 10)) ((48 + n % 10) ∷ [])
  where
    split : (n : ℕ) → 10 ≤ n → decimal_in 20 n ≡ decimal_in 19 (n / 10) ++ ((48 + n % 10) ∷ [])
    split n l = unfold decimal_in in rw (le-ltb n 10 l)

pub width_one : (n : ℕ) → n < 10 → length (decimal n) ≡ 1
unfolding decimal decimal_in
width_one n h = rw (lt-ltb n 10 h)

-- ---- in hex

hex-last : (k n : ℕ) → hex (suc k) n ≡ hex k (n / 16) ++ (glyph_of (n % 16) ∷ [])
unfolding hex glyph_of
hex-last zero n =
    let e : n / 16 ^ 0 % 16 ≡ n % 16 = omega arith in
    rw e
hex-last (suc k) n =
    let e : n / 16 ^ suc k ≡ n / 16 / 16 ^ k = ap (λ x. n / x) (pow-succ' 16 k) ∙ sym (div-div-eq-div-mul n 16 (16 ^ k)) in
    ap₂ (λ d l. (if ltb d 10 then 48 + d else 87 + d) ∷ l) (ap (λ x. x % 16) e) (hex-last k n)

pub digits-hex : (k n : ℕ) → digits 16 k n ≡ hex k n
unfolding digits
digits-hex zero n = unfold hex in refl
digits-hex (suc k) n = ap (λ l. l ++ (glyph_of (n % 16) ∷ [])) (digits-hex k (n / 16)) ∙ sym (hex-last k n)

-- ---- what the code leaves, in the terms of the contracts

pub decimal-wrote : (d : List ℕ) (at n k : ℕ) (d' : List ℕ) → d' ≡ written d at (digits 10 k n) → k ≡ length (decimal n) → Wrote d at (decimal n) d' (at + k)
decimal-wrote d at n k d' q e =
    record { bytes = q ∙ ap (written d at) (ap (λ j. digits 10 j n) e ∙ digits_decimal n); end = ap (λ j. at + j) e }

pub hex-wrote : (d : List ℕ) (at n k : ℕ) (d' : List ℕ) → d' ≡ written d at (digits 16 k n) → Wrote d at (hex k n) d' (at + k)
hex-wrote d at n k d' q = record { bytes = q ∙ ap (written d at) (digits-hex k n); end = ap (λ j. at + j) (sym (hex-length k n)) }

pub word-wrote : (d : List ℕ) (at : ℕ) (word d' : List ℕ) → d' ≡ written d at (take (length word) (drop 0 word)) → Wrote d at word d' (at + length word)
word-wrote d at word d' q = record { bytes = q ∙ ap (written d at) (take-length word); end = refl }

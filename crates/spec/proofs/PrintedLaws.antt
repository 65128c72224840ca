-- The printed list agrees with listing and assembly, and how long its numbers are.
-- Assumes nothing.
use Prim.Native.Nat.{ℕ, zero, suc, ◌+◌, ◌*◌, ◌/◌, ◌%◌, ◌^◌, ◌≤◌, ◌<◌, zero-le}
use native.Mathlib.Nat.{le_refl, pow-suc}
use native.Mathlib.Omega.{arith}
use mathlib.Core.Path.{◌≡◌, refl, sym, ap, ap₂, ◌∙◌}
use mathlib.Core.Bool.{Bool, true, false}
use mathlib.Core.List.Memᴰ.{head, tail}
use mathlib.Core.List.{List, [], ◌∷◌, ◌++◌, flat_map, Memᴰ as Mem}
use lib.ListN.{length, drop, length-append}
use lib.Dec.{ltb}
use borrow.Author.Tests.{le-ltb, lt-ltb, ltb-false}
use Rattle.spec.specs.declared.IsdAsn.{IsdAsn}
use Rattle.spec.specs.declared.Edge.{Edge}
use Rattle.spec.specs.declared.Refusal.{Refusal}
use Rattle.spec.specs.declared.Refusal.TheVariants.{Cut, Full}
use Rattle.std.specs.Prelude.{Ok, Err, if◌then◌else◌}
use Rattle.spec.specs.Answers.{PathAnswer, ListAnswer, Assembled, refused_list, listing_of, listing_on, listing, assembly}
use Rattle.spec.specs.Book.{Verdict, verdict, isd_asn_at}
use Rattle.spec.specs.Limits.{max_slots, solution_size, path_size}
use Rattle.spec.specs.Basics.{filter, padded}
use Rattle.spec.specs.Chains.{IsChain}
use Rattle.spec.specs.Order.{cost, solutions}
use Rattle.spec.specs.Assembly.{combined_path, outcome}
use Rattle.spec.specs.Records.{solution_octets, slots}
use Rattle.spec.specs.Printed.{decimal_in, decimal, hex, item, newline, lines_by, outcome_lines, solution_lines, solutions_lines, is_path, has_path, assembles, refused_line, list_lines, printed_on, printed}
use Rattle.spec.proofs.OnceLaws.{solutions-sound}
use Rattle.spec.proofs.AnswerLaws.{assembly-chain, first_of}

-- ---- a solution's lines

module _ (b : List ℕ) (src dst : IsdAsn) (ok : verdict b ≡ Ok tt) (c : List Edge) (h : IsChain b src dst c) where
  -- the outcome of a chain is what assembly of its record answers
  outcome-answer : ◌≡◌ {A = PathAnswer} (Ok (outcome (combined_path b c))) (assembly b src dst (solution_octets c) path_size).0
  outcome-answer = sym (first_of b path_size c) ∙ sym (ap (λ (x : Assembled). x.0) (assembly-chain b src dst path_size ok (le_refl path_size) c h))

  path-assembles : has_path b c ≡ assembles b src dst c
  unfolding has_path assembles
  path-assembles = ap is_path outcome-answer

  -- the lines of a solution are those of what assembly answers
  pub solution-printed : (k : ℕ)
      → solution_lines b k c
      ≡ decimal k ++ item " cost " (cost c) ++ item " segments " (length c) ++ lines_by (assembly b src dst (solution_octets c) path_size).0 (combined_path b c)
  unfolding solution_lines outcome_lines
  solution-printed k =
      ap (λ o. decimal k ++ item " cost " (cost c) ++ item " segments " (length c) ++ lines_by o (combined_path b c)) outcome-answer

-- ---- the whole list

pub filter_same : {A : Type 0} (p q : A → Bool) (xs : List A) → ((x : A) → Mem x xs → p x ≡ q x) → filter p xs ≡ filter q xs
unfolding filter
filter_same p q [] same = refl
filter_same p q (x ∷ xs) same =
    ap₂ (λ t l. if t then x ∷ l else l) (same x (head refl)) (filter_same p q xs (λ y m. same y (tail m)))

-- what listing answers on an accepted book, and what is printed there, by whether there are more solutions than slots
module _ (b : List ℕ) (found : List (List Edge)) where
  abbrev answered : Bool → ListAnswer
  answered more = if more then Err Full else Ok (length found)

  abbrev counted : ℕ → ℕ → List ℕ
  counted n paths = item "solutions " n ++ item " paths " paths ++ newline ++ solutions_lines b 1 found

  abbrev lines : Bool → List ℕ
  lines more = if more then refused_line Full else counted (length found) (length (filter (has_path b) found))

  listing-answered : (listing_of (max_slots * solution_size) found).0 ≡ answered (ltb max_slots (length found))
  unfolding listing_of slots refused_list
  listing-answered = go (ltb max_slots (length found))
    where
      go : (t : Bool)
          → (if t then refused_list (max_slots * solution_size) Full else (Ok (length found), padded (max_slots * solution_size) (flat_map solution_octets found))).0 ≡ answered t
      go true = refl
      go false = refl

  lines-refused : (r : Refusal) (t : Bool) → answered t ≡ Err r → lines t ≡ refused_line r
  lines-refused r true q = cc
  lines-refused r false q = let z : ◌≡◌ {A = ℕ} 0 1 = cc in absurd (omega arith)

  lines-counted : (n : ℕ) (t : Bool) → answered t ≡ Ok n → lines t ≡ counted n (length (filter (has_path b) found))
  lines-counted n true q = let z : ◌≡◌ {A = ℕ} 0 1 = cc in absurd (omega arith)
  lines-counted n false q = cc

module _ (digest : List ℕ → List ℕ) (input : List ℕ) where
  abbrev book : List ℕ
  book = drop 16 input

  abbrev src : IsdAsn
  src = isd_asn_at input 0

  abbrev dst : IsdAsn
  dst = isd_asn_at input 8

  abbrev found : List (List Edge)
  found = solutions digest book src dst

  -- the bytes of all slots
  abbrev full : ℕ
  full = max_slots * solution_size

  -- fewer than 16 bytes are printed as Cut
  pub printed-short : length input < 16 → printed digest input ≡ refused_line Cut
  unfolding printed
  printed-short h = ap (λ t. if t then refused_line Cut else printed_on (verdict book) book found) (lt-ltb (length input) 16 h)

  module _ (enough : 16 ≤ length input) where
    printed-on : printed digest input ≡ printed_on (verdict book) book found
    unfolding printed
    printed-on = ap (λ t. if t then refused_line Cut else printed_on (verdict book) book found) (le-ltb (length input) 16 enough)

    -- what listing refuses is printed as that refusal
    pub printed-refused : (r : Refusal) → (listing digest book src dst full).0 ≡ Err r → printed digest input ≡ refused_line r
    unfolding listing refused_list list_lines
    printed-refused r q = printed-on ∙ go (verdict book) q
      where
        go : (v : Verdict) → (listing_on v full found).0 ≡ Err r → printed_on v book found ≡ refused_line r
        go (Err s) p = cc
        go (Ok tt) p = lines-refused book found r (ltb max_slots (length found)) (sym (listing-answered book found) ∙ p)

    -- what listing counts is printed: the count, the number of solutions whose record assembly answers with a path, and each solution's lines
    pub printed-count : (n : ℕ) → (listing digest book src dst full).0 ≡ Ok n
        → printed digest input
        ≡ item "solutions " n ++ item " paths " (length (filter (assembles book src dst) found)) ++ newline ++ solutions_lines book 1 found
    unfolding listing refused_list list_lines
    printed-count n q = printed-on ∙ go (verdict book) refl q
      where
        go : (v : Verdict) → verdict book ≡ v → (listing_on v full found).0 ≡ Ok n
            → printed_on v book found ≡ counted book found n (length (filter (assembles book src dst) found))
        go (Err s) ok p = let z : ◌≡◌ {A = ℕ} 0 1 = cc in absurd (omega arith)
        go (Ok tt) ok p =
            lines-counted book found n (ltb max_slots (length found)) (sym (listing-answered book found) ∙ p)
            ∙ ap (λ cs. counted book found n (length cs))
            (filter_same (has_path book) (assembles book src dst) found (λ c m. path-assembles book src dst ok c (solutions-sound digest book src dst c m)))

-- ---- numbers

-- a number in base ten has a digit
pub decimal-some : (n : ℕ) → 1 ≤ length (decimal n)
unfolding decimal decimal_in
decimal-some n = omega (arith, length-append (if ltb n 10 then [] else decimal_in 19 (n / 10)) ((48 + n % 10) ∷ []))

digits-most : (most k n : ℕ) → n < 10 ^ suc k → length (decimal_in most n) ≤ suc k
unfolding decimal_in
digits-most zero k n h = zero-le
digits-most (suc most) k n h = go (digits-most most) (ltb n 10) refl k h
  where
    go : ((j m : ℕ) → m < 10 ^ suc j → length (decimal_in most m) ≤ suc j) → (t : Bool) → ltb n 10 ≡ t → (j : ℕ) → n < 10 ^ suc j
        → length ((if t then [] else decimal_in most (n / 10)) ++ ((48 + n % 10) ∷ [])) ≤ suc j
    go ih true q j l = omega arith
    go ih false q zero l = absurd (omega (arith, ltb-false n 10 q))
    go ih false q (suc j) l =
        omega (
          arith,
          length-append (decimal_in most (n / 10)) ((48 + n % 10) ∷ []),
          ih j (n / 10) (omega (arith, pow-suc 10 (suc j))),
        )

-- a number below 10 ^ k has at most k digits
pub decimal-length : (k n : ℕ) → n < 10 ^ suc k → length (decimal n) ≤ suc k
unfolding decimal
decimal-length = digits-most 20

-- a number in k hex digits has k digits
pub hex-length : (k n : ℕ) → length (hex k n) ≡ k
unfolding hex
hex-length zero n = refl
hex-length (suc k) n = ap suc (hex-length k n)

-- The pieces of a printed list, one after the other, are the list.
-- Assumes nothing.
use Prim.Native.Nat.{ℕ, suc, ◌+◌, ◌*◌, ◌<◌, ◌≤◌}
use native.Mathlib.Decide.{dec_le}
use native.Mathlib.Omega.{arith}
use mathlib.Core.Path.{◌≡◌, refl, sym, ap, ap₂, ◌∙◌}
use mathlib.Core.Bool.{Bool, true, false}
use mathlib.Core.List.Memᴰ.{head, tail}
use mathlib.Core.List.{List, [], ◌∷◌, ◌++◌, map, flat_map, append-nil, Memᴰ as Mem, head-eq_of_cons-eq, tail-eq_of_cons-eq}
use lib.ListN.{length, take, drop, replicate, length-drop}
use lib.Seq.{take_all, length-take-le}
use lib.Dec.{ltb}
use borrow.Author.Tests.{lt-ltb, le-ltb, ltb-false}
use Rattle.sha256.specs.Message.{sha256}
use Rattle.spec.specs.declared.IsdAsn.{IsdAsn}
use Rattle.spec.specs.declared.Edge.{Edge}
use Rattle.spec.specs.declared.Refusal.TheVariants.{Cut, Oversize, Full}
use Rattle.std.specs.Prelude.{Ok, Err, if◌then◌else◌}
use Rattle.spec.specs.Answers.{ListAnswer, Listed, refused_list, listing_of, listing_on, listing, assembly}
use Rattle.spec.specs.Book.{Verdict, verdict, isd_asn_at}
use Rattle.spec.specs.Limits.{max_book, max_slots, solution_size, path_size}
use Rattle.spec.specs.Basics.{filter, range, padded}
use Rattle.spec.specs.Chains.{IsChain}
use Rattle.spec.specs.Order.{solutions}
use Rattle.spec.specs.Records.{solution_octets, slots}
use Rattle.spec.specs.Printed.{item, newline, solutions_lines, is_path, assembles, refused_line, printed_on, printed}
use Rattle.spec.proofs.ChainLaws.{allowed-length}
use Rattle.spec.proofs.OnceLaws.{solutions-sound}
use Rattle.spec.proofs.LengthLaws.{slots-fit}
use Rattle.spec.proofs.PrintedLaws.{printed-short, printed-refused, printed-count}
use Rattle.order.specs.Records.{record_at}
use Rattle.path.proofs.Listing.{records-read}
use Rattle.printed.specs.Pieces.{ends_size, solution_text, slot_text, slot_has_path, paths_to, listed, counts_line, first_by, first_line, count_of, pieces}
use Rattle.printed.proofs.Solutions.{text-chain}

-- ---- each slot's piece is its solution's

module _ (input : List ℕ) where
  abbrev book : List ℕ
  book = drop ends_size input

  abbrev src : IsdAsn
  src = isd_asn_at input 0

  abbrev dst : IsdAsn
  dst = isd_asn_at input 8

  abbrev found : List (List Edge)
  found = solutions sha256 book src dst

  abbrev full : ℕ
  full = max_slots * solution_size

  lines-joined : verdict (drop ends_size input) ≡ Ok tt → (records : List ℕ) (cs : List (List Edge))
      → ((c : List Edge) → Mem c cs → IsChain (drop ends_size input) (isd_asn_at input 0) (isd_asn_at input 8) c) → (i : ℕ)
      → map (record_at records) (range i (length cs)) ≡ map solution_octets cs
      → flat_map (slot_text input records) (range i (length cs)) ≡ solutions_lines (drop ends_size input) (i + 1) cs
  unfolding range flat_map solutions_lines slot_text
  lines-joined ok records [] all i q = refl
  lines-joined ok records (c ∷ cs) all i q =
      ap₂ (λ (x : List ℕ) y. x ++ y)
      (ap (λ r. solution_text book src dst r (i + 1)) (head-eq_of_cons-eq q) ∙ text-chain book src dst (i + 1) ok c (all c (head refl)))
      (lines-joined ok records cs (λ d m. all d (tail m)) (i + 1) (tail-eq_of_cons-eq q))

  paths-joined : (records : List ℕ) (cs : List (List Edge)) (i : ℕ)
      → map (record_at records) (range i (length cs)) ≡ map solution_octets cs
      → length (filter (slot_has_path input records) (range i (length cs))) ≡ length (filter (assembles (drop ends_size input) (isd_asn_at input 0) (isd_asn_at input 8)) cs)
  unfolding range filter
  paths-joined records [] i q = refl
  paths-joined records (c ∷ cs) i q =
      go (paths-joined records cs (i + 1) (tail-eq_of_cons-eq q)) (slot_has_path input records i) (assembles book src dst c) same
    where
      same : slot_has_path input records i ≡ assembles book src dst c
      same = unfold slot_has_path assembles in ap (λ r. is_path (assembly book src dst r path_size).0) (head-eq_of_cons-eq q)

      go : length (filter (slot_has_path input records) (range (i + 1) (length cs))) ≡ length (filter (assembles book src dst) cs) → (s t : Bool) → s ≡ t
          → length (if s then i ∷ filter (slot_has_path input records) (range (i + 1) (length cs)) else filter (slot_has_path input records) (range (i + 1) (length cs)))
          ≡ length (if t then c ∷ filter (assembles book src dst) cs else filter (assembles book src dst) cs)
      go ih true true e = ap suc ih
      go ih false false e = ih
      go ih true false e = let z : ◌≡◌ {A = ℕ} 0 1 = cc in absurd (omega arith)
      go ih false true e = let z : ◌≡◌ {A = ℕ} 0 1 = cc in absurd (omega arith)

  paths-all : (records : List ℕ) (cs : List (List Edge)) → map (record_at records) (range 0 (length cs)) ≡ map solution_octets cs
      → paths_to input records (length cs) ≡ length (filter (assembles (drop ends_size input) (isd_asn_at input 0) (isd_asn_at input 8)) cs)
  unfolding paths_to
  paths-all records cs q = paths-joined records cs 0 q

  -- ---- the whole

  -- what listing leaves where it counts
  record Counted (bytes n : ℕ) : Type 0 where
    ok : verdict (drop ends_size input) ≡ Ok tt
    room : solution_size * n ≤ bytes
    count : n ≡ length (solutions sha256 (drop ends_size input) (isd_asn_at input 0) (isd_asn_at input 8))
    records : (listing sha256 (drop ends_size input) (isd_asn_at input 0) (isd_asn_at input 8) bytes).1
        ≡ padded bytes (flat_map solution_octets (solutions sha256 (drop ends_size input) (isd_asn_at input 0) (isd_asn_at input 8)))

  counted : (bytes n : ℕ) → (listing sha256 (drop ends_size input) (isd_asn_at input 0) (isd_asn_at input 8) bytes).0 ≡ Ok n → Counted bytes n
  unfolding listing listing_of refused_list
  counted bytes n q = on (verdict book) refl q
    where
      listed_by : Bool → Listed
      listed_by t = if t then (Err Full, replicate bytes 0) else (Ok (length found), padded bytes (flat_map solution_octets found))

      of : verdict book ≡ Ok tt → (t : Bool) → ltb (slots bytes) (length found) ≡ t → listing sha256 book src dst bytes ≡ listed_by t
          → (listed_by t).0 ≡ Ok n → Counted bytes n
      of ok true l e p = let z : ◌≡◌ {A = ℕ} 0 1 = cc in absurd (omega arith)
      of ok false l e p =
          let c : n ≡ length found = cc in
          record {
            ok = ok;
            room = omega (arith, ltb-false (slots bytes) (length found) l, slots-fit bytes);
            count = c;
            records = ap (λ (x : Listed). x.1) e;
          }

      on : (v : Verdict) → verdict book ≡ v → (listing_on v bytes found).0 ≡ Ok n → Counted bytes n
      on (Err s) e p = let z : ◌≡◌ {A = ℕ} 0 1 = cc in absurd (omega arith)
      on (Ok tt) e p = of e (ltb (slots bytes) (length found)) refl (ap (λ v. listing_on v bytes found) e) p

  module _ (enough : ends_size ≤ length input) where
    listed-is : (bytes : ℕ) → listed input bytes ≡ listing sha256 (drop ends_size input) (isd_asn_at input 0) (isd_asn_at input 8) bytes
    unfolding listed
    listed-is bytes =
        ap (λ t. if t then refused_list bytes Cut else listing sha256 book src dst bytes) (le-ltb (length input) ends_size enough)

    by_answer : (a : ListAnswer) (records : List ℕ) → listing sha256 (drop ends_size input) (isd_asn_at input 0) (isd_asn_at input 8) (max_slots * solution_size) ≡ (a, records)
        → first_by input a records ++ flat_map (slot_text input records) (range 0 (count_of a)) ≡ printed sha256 input
    unfolding range flat_map padded counts_line
    by_answer (Err r) records q =
        append-nil (refused_line r) ∙ sym (printed-refused sha256 input enough r (ap (λ (x : Listed). x.0) q))
    by_answer (Ok n) records q =
        let w = counted full n (ap (λ (x : Listed). x.0) q) in
        let chain : (c : List Edge) → Mem c found → IsChain book src dst c = λ c m. solutions-sound sha256 book src dst c m in
        let held : map (record_at records) (range 0 (length found)) ≡ map solution_octets found =
        ap (λ l. map (record_at l) (range 0 (length found))) (sym (ap (λ (x : Listed). x.1) q) ∙ w.records)
        ∙ records-read found (λ c m. allowed-length c (chain c m).kinds) _ in
        ap₂ (λ m l. item "solutions " n ++ item " paths " m ++ newline ++ l)
        (ap (paths_to input records) w.count ∙ paths-all records found held)
        (ap (λ m. flat_map (slot_text input records) (range 0 m)) w.count ∙ lines-joined w.ok records found chain 0 held)
        ∙ sym (printed-count sha256 input enough n (ap (λ (x : Listed). x.0) q))

  -- where listing counts, the input has its ends, and the records fit
  pub counted-room : (bytes n : ℕ) → (listed input bytes).0 ≡ Ok n → (ends_size ≤ length input) × (solution_size * n ≤ bytes)
  unfolding listed refused_list
  counted-room bytes n q = go (dec_le ends_size (length input))
    where
      answered : Bool → ListAnswer
      answered t = (if t then (Err Cut, replicate bytes 0) else listing sha256 book src dst bytes).0

      go : Dec (ends_size ≤ length input) → (ends_size ≤ length input) × (solution_size * n ≤ bytes)
      go (yes h) = (h, (counted bytes n (sym (ap answered (le-ltb (length input) ends_size h)) ∙ q)).room)
      go (no h) =
          let e : Err Cut ≡ Ok n = sym (ap answered (lt-ltb (length input) ends_size (omega arith))) ∙ q in
          let z : ◌≡◌ {A = ℕ} 0 1 = cc in absurd (omega arith)

  abbrev joined : Listed → List ℕ
  joined x = first_by input x.0 x.1 ++ flat_map (slot_text input x.1) (range 0 (count_of x.0))

  pieces-short : length input < ends_size → pieces input (max_slots * solution_size) ≡ refused_line Cut
  unfolding pieces first_line listed refused_list range flat_map
  pieces-short h =
      ap (λ t. joined (if t then (Err Cut, replicate full 0) else listing sha256 book src dst full)) (lt-ltb (length input) ends_size h)
      ∙ append-nil (refused_line Cut)

  pieces-enough : ends_size ≤ length input → pieces input (max_slots * solution_size) ≡ printed sha256 input
  unfolding pieces first_line
  pieces-enough h = ap joined (listed-is h full) ∙ by_answer h (listing sha256 book src dst full).0 (listing sha256 book src dst full).1 refl

  pub pieces-printed : pieces input (max_slots * solution_size) ≡ printed sha256 input
  pieces-printed = go (dec_le ends_size (length input))
    where
      go : Dec (ends_size ≤ length input) → pieces input (max_slots * solution_size) ≡ printed sha256 input
      go (yes h) = pieces-enough h
      go (no h) = let short : length input < ends_size = omega arith in pieces-short short ∙ sym (printed-short sha256 input short)

-- ---- a long input

oversize : (b : List ℕ) → max_book < length b → verdict b ≡ Err Oversize
unfolding verdict
oversize b h = rw (lt-ltb max_book (length b) h)

printed-oversize : (digest : List ℕ → List ℕ) (input : List ℕ) → ends_size + max_book < length input → printed digest input ≡ refused_line Oversize
unfolding printed
printed-oversize digest input h =
    let b : List ℕ = drop ends_size input in
    let found : List (List Edge) = solutions digest b (isd_asn_at input 0) (isd_asn_at input 8) in
    ap (λ t. if t then refused_line Cut else printed_on (verdict b) b found) (le-ltb (length input) ends_size (omega arith))
    ∙ ap (λ v. printed_on v b found) (oversize b (omega (arith, length-drop ends_size input)))

-- what follows the longest book's first surplus byte is not looked at
pub printed-front : (digest : List ℕ → List ℕ) (input : List ℕ) → printed digest (take (ends_size + max_book + 1) input) ≡ printed digest input
printed-front digest input = go (dec_le (length input) (ends_size + max_book))
  where
    go : Dec (length input ≤ ends_size + max_book) → printed digest (take (ends_size + max_book + 1) input) ≡ printed digest input
    go (yes h) = ap (printed digest) (take_all (ends_size + max_book + 1) input (omega arith))
    go (no h) =
        printed-oversize digest (take (ends_size + max_book + 1) input) (omega (arith, length-take-le (ends_size + max_book + 1) input (omega arith)))
        ∙ sym (printed-oversize digest input (omega arith))

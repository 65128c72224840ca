-- What the code leaves of an input, its list and its slots, in the terms of the contracts.
-- Assumes nothing.
use Prim.Native.Nat.{ℕ, ◌+◌, ◌-◌, ◌*◌, ◌/◌, ◌<◌, ◌≤◌}
use native.Mathlib.Nat.{zero-add}
use native.Mathlib.Numerals.{add-one}
use native.Mathlib.Omega.{arith}
use mathlib.Core.Path.{◌≡◌, refl, sym, ap, ◌∙◌}
use mathlib.Core.Bool.{Bool, true, false}
use mathlib.Core.List.{List, [], ◌∷◌, ◌++◌}
use lib.ListN.{length, take, drop, replicate, length-take, length-drop, drop_of_length-le}
use lib.Seq.{take_all}
use borrow.Author.Tests.{lt-ltb, le-ltb}
use Rattle.sha256.specs.Message.{sha256}
use Rattle.spec.specs.declared.IsdAsn.{IsdAsn}
use Rattle.spec.specs.declared.Refusal.{Refusal}
use Rattle.spec.specs.declared.Refusal.TheVariants.{Cut}
use Rattle.std.specs.Prelude.{Ok, Err, if◌then◌else◌}
use Rattle.spec.specs.Answers.{ListAnswer, Listed, refused_list, listing, assembly}
use Rattle.spec.specs.Book.{Verdict, verdict, isd_asn_at}
use Rattle.spec.specs.Limits.{solution_size, path_size}
use Rattle.spec.specs.Basics.{filter, range}
use Rattle.spec.specs.Printed.{is_path, refused_line}
use Rattle.spec.proofs.Lists.{range-suc}
use Rattle.spec.proofs.ChainLaws.{allowed-length}
use Rattle.spec.proofs.LengthLaws.{solution-length}
use Rattle.output.specs.Write.{written, zeroed}
use Rattle.output.proofs.Writing.{zeroed-all}
use Rattle.order.specs.Records.{record_at}
use Rattle.path.specs.Places.{Wrote}
use Rattle.path.proofs.Writes.{wrote_none, wrote_as}
use Rattle.printed.specs.Pieces.{ends_size, solution_text, slot_text, slot_has_path, paths_to, listed, counts_line, first_by, first_line, first_line_size, count_of}
use Rattle.printed.specs.declared.Opening.{Opening}
use Rattle.printed.specs.Opened.{Opened}
use Rattle.printed.proofs.Solutions.{text-stranger, text-refused}
use Rattle.printed.proofs.Joined.{counted-room}

-- ---- parts

pub book-part : (input : List ℕ) → take (length input - ends_size) (drop ends_size input) ≡ drop ends_size input
book-part input = take_all (length input - ends_size) (drop ends_size input) (omega (arith, length-drop ends_size input))

pub slot-part : (records : List ℕ) (k : ℕ) → take (solution_size * k + solution_size - solution_size * k) (drop (solution_size * k) records) ≡ record_at records k
slot-part records k =
    let e : solution_size * k + solution_size - solution_size * k ≡ solution_size = omega arith in
    ap (λ n. take n (drop (solution_size * k) records)) e

-- ---- the list

module _ (input : List ℕ) (bytes : ℕ) where
  pub listed-short : length input < ends_size → (records : List ℕ) → length records ≡ bytes → (d : List ℕ) → d ≡ zeroed records 0 → (Err Cut, d) ≡ listed input bytes
  unfolding listed refused_list
  listed-short h records e d q =
      ap (λ l. (Err Cut, l)) (q ∙ zeroed-all records ∙ ap (λ n. replicate n 0) e)
      ∙ sym (ap (λ t. if t then (Err Cut, replicate bytes 0) else listing sha256 (drop ends_size input) (isd_asn_at input 0) (isd_asn_at input 8) bytes) (lt-ltb (length input) ends_size h))

  pub listed-long : ends_size ≤ length input → (src dst : IsdAsn) → src ≡ isd_asn_at input 0 → dst ≡ isd_asn_at input 8 → (b : List ℕ) → b ≡ drop ends_size input
      → (x : Listed) → x ≡ listing sha256 b src dst bytes → x ≡ listed input bytes
  unfolding listed
  listed-long h src dst s t b e x q =
      let same : listing sha256 b src dst bytes ≡ listing sha256 (drop ends_size input) (isd_asn_at input 0) (isd_asn_at input 8) bytes = cc in
      q ∙ same
      ∙ sym (ap (λ t. if t then refused_list bytes Cut else listing sha256 (drop ends_size input) (isd_asn_at input 0) (isd_asn_at input 8) bytes) (le-ltb (length input) ends_size h))

-- ---- paths

module _ (input records : List ℕ) where
  filter-end : (p : ℕ → Bool) (xs : List ℕ) (x : ℕ) → length (filter p (xs ++ (x ∷ []))) ≡ length (filter p xs) + (if p x then 1 else 0)
  unfolding filter
  filter-end p [] x = go (p x)
    where
      go : (t : Bool) → length (if t then x ∷ [] else []) ≡ 0 + (if t then 1 else 0)
      go true = refl
      go false = refl
  filter-end p (y ∷ xs) x = go (p y) (filter-end p xs x)
    where
      go : (t : Bool) → length (filter p (xs ++ (x ∷ []))) ≡ length (filter p xs) + (if p x then 1 else 0)
          → length (if t then y ∷ filter p (xs ++ (x ∷ [])) else filter p (xs ++ (x ∷ []))) ≡ length (if t then y ∷ filter p xs else filter p xs) + (if p x then 1 else 0)
      go true ih = omega arith
      go false ih = ih

  paths-next : (k : ℕ) → paths_to input records (k + 1) ≡ paths_to input records k + (if slot_has_path input records k then 1 else 0)
  unfolding paths_to
  paths-next k =
      ap (λ n. length (filter (slot_has_path input records) (range 0 n))) (add-one k)
      ∙ ap (λ l. length (filter (slot_has_path input records) l)) (range-suc 0 k)
      ∙ filter-end (slot_has_path input records) (range 0 k) (0 + k)
      ∙ ap (λ n. length (filter (slot_has_path input records) (range 0 k)) + (if slot_has_path input records n then 1 else 0)) (zero-add k)

  pub paths-none : 0 ≡ paths_to input records 0
  unfolding paths_to range filter
  paths-none = refl

  pub paths-more : (k paths : ℕ) → paths ≡ paths_to input records k → true ≡ slot_has_path input records k → paths + 1 ≡ paths_to input records (k + 1)
  paths-more k paths q t =
      ap (λ n. n + 1) q ∙ ap (λ s. paths_to input records k + (if s then 1 else 0)) t ∙ sym (paths-next k)

  pub paths-same : (k paths : ℕ) → paths ≡ paths_to input records k → false ≡ slot_has_path input records k → paths ≡ paths_to input records (k + 1)
  paths-same k paths q t =
      let e : paths_to input records k ≡ paths_to input records k + 0 = omega arith in
      q ∙ e ∙ ap (λ s. paths_to input records k + (if s then 1 else 0)) t ∙ sym (paths-next k)

  -- ---- slots that hold no record

  module _ (k : ℕ) where
    none-short : (v : Verdict) → verdict (drop ends_size input) ≡ v → length (record_at records k) < solution_size → slot_text input records k ≡ []
    unfolding slot_text
    none-short (Err r) q h = text-refused (drop ends_size input) (isd_asn_at input 0) (isd_asn_at input 8) (k + 1) r q (record_at records k)
    none-short (Ok tt) q h =
        text-stranger (drop ends_size input) (isd_asn_at input 0) (isd_asn_at input 8) (k + 1) q (record_at records k)
        (λ c p e. omega (arith, ap length e, solution-length c (allowed-length c p.kinds)))

    none-cut : length input < ends_size → slot_text input records k ≡ []
    unfolding slot_text
    none-cut h = text-refused (drop ends_size input) (isd_asn_at input 0) (isd_asn_at input 8) (k + 1) Cut refused (record_at records k)
      where
        refused : verdict (drop ends_size input) ≡ Err Cut
        refused = ap verdict (drop_of_length-le input {i = ends_size} (omega arith)) ∙ unfold verdict in refl

    pub wrote-cut : (d : List ℕ) → length input < ends_size → Wrote d 0 (slot_text input records k) d 0
    wrote-cut d h = wrote_as (sym (none-cut h)) (wrote_none d 0)

    pub wrote-past : (d : List ℕ) → length records / solution_size ≤ k → Wrote d 0 (slot_text input records k) d 0
    wrote-past d h =
        wrote_as (sym (none-short (verdict (drop ends_size input)) refl
        (omega (arith, length-take solution_size (drop (solution_size * k) records), length-drop (solution_size * k) records)))) (wrote_none d 0)

    pub wrote-slot : (src dst : IsdAsn) → src ≡ isd_asn_at input 0 → dst ≡ isd_asn_at input 8 → (b : List ℕ) → b ≡ drop ends_size input → (given : List ℕ) → given ≡ record_at records k
        → {d d' : List ℕ} {r : ℕ} → Wrote d 0 (solution_text b src dst given (k + 1)) d' r → Wrote d 0 (slot_text input records k) d' r
    unfolding slot_text
    wrote-slot src dst s t b e given g w =
        let q : solution_text b src dst given (k + 1) ≡ solution_text (drop ends_size input) (isd_asn_at input 0) (isd_asn_at input 8) (record_at records k) (k + 1) = cc in
        wrote_as q w

    pub told-path : (src dst : IsdAsn) → src ≡ isd_asn_at input 0 → dst ≡ isd_asn_at input 8 → (b : List ℕ) → b ≡ drop ends_size input → (given : List ℕ) → given ≡ record_at records k
        → (t : Bool) → t ≡ is_path (assembly b src dst given path_size).0 → t ≡ slot_has_path input records k
    unfolding slot_has_path
    told-path src dst s t b e given g r q =
        let a : assembly b src dst given path_size ≡ assembly (drop ends_size input) (isd_asn_at input 0) (isd_asn_at input 8) (record_at records k) path_size = cc in
        q ∙ ap (λ (x : _). is_path x.0) a

-- ---- the first line

module _ (input : List ℕ) (bytes : ℕ) (answer : ListAnswer) (records : List ℕ) (q : (answer, records) ≡ listed input bytes) where
  pub count_room : (n : ℕ) → answer ≡ Ok n → (ends_size ≤ length input) × (solution_size * n ≤ bytes)
  count_room n e = counted-room input bytes n (sym (ap (λ (x : Listed). x.0) q) ∙ e)

  pub opened-counts : (n : ℕ) → answer ≡ Ok n → (paths : ℕ) → paths ≡ paths_to input records n
      → {d d' : List ℕ} {r : ℕ} → Wrote d 0 (counts_line n paths) d' r × (r ≤ first_line_size) → Opened input bytes records d d' (record { length = r; solutions = n })
  unfolding first_line
  opened-counts n e paths p w =
      record {
        held = ap (λ (x : Listed). x.1) q;
        solutions = sym (ap (λ (x : Listed). count_of x.0) (sym q) ∙ ap count_of e);
        line =
            wrote_as
            (ap (counts_line n) p ∙ sym (ap (λ a. first_by input a records) e) ∙ ap (λ (x : Listed). first_by input x.0 x.1) q)
            w.0;
        short = w.1;
      }

  pub opened-refused : (s : Refusal) → answer ≡ Err s
      → {d d' : List ℕ} {r : ℕ} → Wrote d 0 (refused_line s) d' r × (r ≤ first_line_size) → Opened input bytes records d d' (record { length = r; solutions = 0 })
  unfolding first_line
  opened-refused s e w =
      record {
        held = ap (λ (x : Listed). x.1) q;
        solutions = sym (ap (λ (x : Listed). count_of x.0) (sym q) ∙ ap count_of e);
        line = wrote_as (sym (ap (λ a. first_by input a records) e) ∙ ap (λ (x : Listed). first_by input x.0 x.1) q) w.0;
        short = w.1;
      }

-- ---- the two promises, field by field

pub wrote-fields : {d xs d' : List ℕ} {r most : ℕ} → Wrote d 0 xs d' r → r ≤ most → (d' ≡ written d 0 xs) × (r ≡ length xs) × (r ≤ most)
wrote-fields w h = (w.bytes, omega (arith, w.end), h)

pub opened-fields : {input : List ℕ} {bytes : ℕ} {records d d' : List ℕ} {r : Opening} → Opened input bytes records d d' r
    → (records ≡ (listed input bytes).1) × (r.solutions ≡ count_of (listed input bytes).0) × (d' ≡ written d 0 (first_line input bytes))
    × (r.length ≡ length (first_line input bytes)) × (r.length ≤ first_line_size)
opened-fields o = (o.held, o.solutions, o.line.bytes, omega (arith, o.line.end), o.short)

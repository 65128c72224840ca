-- Search, sort and zeros, one after the other, are listing.
-- Assumes nothing.
use Prim.Native.Nat.{ℕ, ◌+◌, ◌-◌, ◌*◌, ◌≤◌, ◌<◌, min}
use native.Mathlib.Nat.{min-eq_left}
use native.Mathlib.Decide.{dec_le}
use native.Mathlib.Omega.{arith}
use mathlib.Core.Path.{◌≡◌, sym, ap, ap₂, ◌∙◌}
use mathlib.Core.Bool.{true, false}
use mathlib.Core.List.{List, ◌++◌, flat_map}
use lib.ListN.{length, drop, replicate, length-append, length-drop}
use lib.Seq.{take_at}
use borrow.Author.Tests.{le-ltb, lt-ltb}
use Rattle.spec.specs.declared.IsdAsn.{IsdAsn}
use Rattle.spec.specs.declared.Edge.{Edge}
use Rattle.std.specs.Prelude.{Ok, Err}
use Rattle.spec.specs.Book.{Verdict, verdict}
use Rattle.spec.specs.declared.Refusal.{Refusal}
use Rattle.spec.specs.declared.Refusal.TheVariants.{Full}
use Rattle.spec.specs.Limits.{solution_size, max_slots}
use Rattle.spec.specs.Basics.{padded}
use Rattle.spec.specs.Order.{solutions}
use Rattle.spec.specs.Records.{solution_octets, slots}
use Rattle.spec.specs.Answers.{Listed, listing, refused_list}
use Rattle.spec.proofs.AnswerLaws.{listing-on, listing-refused}
use Rattle.spec.proofs.BookLaws.{accepted}
use Rattle.spec.proofs.Bounds.{flat-exact}
use Rattle.spec.proofs.LengthLaws.{solution-length, slots-fit}
use Rattle.spec.proofs.ChainLaws.{allowed-length}
use Rattle.spec.proofs.OnceLaws.{solutions-sound}
use Rattle.sha256.specs.Message.{sha256}
use Rattle.output.specs.Write.{zeroed}
use Rattle.output.proofs.Writing.{zeroed-all}
use Rattle.order.specs.Records.{records, sort_first}
use Rattle.order.specs.Order.{leq_slots}
use Rattle.order.proofs.Chains.{sort-chains, records-chains}
use Rattle.graph.specs.Search.{found_chains}
use Rattle.graph.specs.Pushed.{Slots, pushed}
use Rattle.graph.proofs.SearchFound.{found-once, found-sound, found-complete, found-length, found-sized}
use Rattle.graph.proofs.PushedLaws.{pushed-all, pushed-over, pushed-length}

module _ (b : List ℕ) (ok : verdict b ≡ Ok tt) (src dst : IsdAsn) (out : List ℕ) where
  abbrev found : List (List Edge)
  found = found_chains b dst src

  abbrev sorted : List (List Edge)
  sorted = solutions sha256 b src dst

  abbrev room : ℕ
  room = slots (length out)

  records-length : length (flat_map solution_octets sorted) ≡ length sorted * solution_size
  records-length =
      flat-exact solution_octets solution_size sorted
      (λ c m. solution-length c (allowed-length c (solutions-sound sha256 b src dst c m).kinds))

  same_count : length found ≡ length sorted
  same_count = found-length b dst ok src sha256

  -- more chains than slots
  list_full : (n : ℕ) (o : List ℕ) → ◌≡◌ {A = Slots} (n, o) (pushed room (0, out) found) → room < n
      → listing sha256 b src dst (length out) ≡ (Err Full, replicate (length out) 0)
  unfolding refused_list
  list_full n o e h = listing-on sha256 b src dst ok (length out) true (lt-ltb room (length sorted) (go (dec_le (length found) room)))
    where
      go : Dec (length found ≤ room) → room < length sorted
      go (yes k) =
          let q : n ≡ length found = ap (λ (st : Slots). st.0) (e ∙ pushed-all room out found (found-sized b dst ok src) k) in
          absurd (omega arith)
      go (no k) = omega (arith, same_count)

  -- a slot for every chain: what the search leaves
  found_all : (n : ℕ) (o : List ℕ) → ◌≡◌ {A = Slots} (n, o) (pushed room (0, out) found) → n ≤ room
      → length found ≤ room
  found_all n o e h = go (dec_le (length found) room)
    where
      go : Dec (length found ≤ room) → length found ≤ room
      go (yes k) = k
      go (no k) =
          let q : n ≡ room + 1 = ap (λ (st : Slots). st.0) e ∙ pushed-over room 0 out found (omega arith) (omega arith) in
          absurd (omega arith)

  -- sorted, with zeros after
  zeros-after : (n : ℕ) (rest : List ℕ) → n ≡ length sorted → length (flat_map solution_octets sorted ++ rest) ≡ length out
      → zeroed (flat_map solution_octets sorted ++ rest) (solution_size * n) ≡ padded (length out) (flat_map solution_octets sorted)
  unfolding zeroed padded
  zeros-after n rest q l =
      let k : length (flat_map solution_octets sorted) ≡ solution_size * n = omega (arith, records-length) in
      ap₂ (λ x m. x ++ replicate m 0) (take_at (flat_map solution_octets sorted) rest (solution_size * n) k)
      (ap₂ (λ i j. i - j) l (sym k))

  kept-length : (n : ℕ) (o : List ℕ) → ◌≡◌ {A = Slots} (n, o) (pushed room (0, out) found) → length o ≡ length out
  kept-length n o e =
      ap (λ (x : Slots). length x.1) e ∙ pushed-length room 0 out found (found-sized b dst ok src) (omega (arith, slots-fit (length out)))

  pub list_count : (n : ℕ) (o : List ℕ) → ◌≡◌ {A = Slots} (n, o) (pushed room (0, out) found) → n ≤ room
      → listing sha256 b src dst (length out)
      ≡ (Ok n, zeroed (sort_first (leq_slots b) (min n (slots (length o))) o) (solution_size * n))
  list_count n o e h =
      let few : length found ≤ room = found_all n o e h in
      let st : ◌≡◌ {A = Slots} (n, o) (length found, flat_map solution_octets found ++ drop (solution_size * length found) out) =
      e ∙ pushed-all room out found (found-sized b dst ok src) few in
      let n-is : n ≡ length found = ap (λ (x : Slots). x.0) st in
      let o_is : o ≡ flat_map solution_octets found ++ drop (solution_size * length found) out = ap (λ (x : Slots). x.1) st in
      let len : length o ≡ length out = kept-length n o e in
      let count : min n (slots (length o)) ≡ length found = ap (λ k. min n (slots k)) len ∙ min-eq_left h ∙ n-is in
      let rest : List ℕ = drop (solution_size * length found) o in
      let sorts : sort_first (leq_slots b) (min n (slots (length o))) o ≡ flat_map solution_octets sorted ++ rest =
      ap (λ k. sort_first (leq_slots b) k o) count
      ∙ sort-chains b (accepted b ok) src dst found (found-once b dst ok src) (found-sound b dst ok src) (found-complete b dst ok src) o
      (ap (λ l. records (length found) l) o_is ∙ records-chains found (drop (solution_size * length found) out) (found-sized b dst ok src)) in
      let n-sorted : n ≡ length sorted = n-is ∙ same_count in
      let whole : length (flat_map solution_octets sorted ++ rest) ≡ length out =
      length-append (flat_map solution_octets sorted) rest
      ∙ ap₂ (λ x y. x + y) records-length (length-drop (solution_size * length found) o)
      ∙ omega (arith, slots-fit (length out), same_count) in
      listing-on sha256 b src dst ok (length out) false (le-ltb room (length sorted) (omega (arith, same_count)))
      ∙ ap₂ (λ k l. (Ok k, l)) (sym n-sorted)
      (sym (ap (λ l. zeroed l (solution_size * n)) sorts ∙ zeros-after n rest n-sorted whole))

  -- ---- as the code has it

  pub full-answer : (s n : ℕ) (o zero : List ℕ) → s ≡ room → ◌≡◌ {A = Slots} (n, o) (pushed s (0, out) found) → s < n → zero ≡ zeroed o 0
      → ◌≡◌ {A = Listed} (Err Full, zero) (listing sha256 b src dst (length out))
  full-answer s n o zero q e h z =
      let e' : ◌≡◌ {A = Slots} (n, o) (pushed room (0, out) found) = e ∙ ap (λ k. pushed k (0, out) found) q in
      let len : length o ≡ length out = kept-length n o e' in
      ap (λ l. (Err Full, l)) (z ∙ zeroed-all o ∙ ap (λ k. replicate k 0) len) ∙ sym (list_full n o e' (omega arith))

  pub count-answer : (s n : ℕ) (o sorts zero : List ℕ) → s ≡ room → ◌≡◌ {A = Slots} (n, o) (pushed s (0, out) found) → n ≤ s
      → sorts ≡ sort_first (leq_slots b) (min n (slots (length o))) o → zero ≡ zeroed sorts (solution_size * n)
      → ◌≡◌ {A = Listed} (Ok n, zero) (listing sha256 b src dst (length out))
  count-answer s n o sorts zero q e h k z =
      let e' : ◌≡◌ {A = Slots} (n, o) (pushed room (0, out) found) = e ∙ ap (λ j. pushed j (0, out) found) q in
      ap (λ l. (Ok n, l)) (z ∙ ap (λ l. zeroed l (solution_size * n)) k) ∙ sym (list_count n o e' (omega arith))

-- a refused book
pub refused-answer : (b : List ℕ) (src dst : IsdAsn) (out zero : List ℕ) (v : Verdict) (r : Refusal) → v ≡ verdict b → v ≡ Err r
    → zero ≡ zeroed out 0 → ◌≡◌ {A = Listed} (Err r, zero) (listing sha256 b src dst (length out))
unfolding refused_list
refused-answer b src dst out zero v r p q z =
    ap (λ l. (Err r, l)) (z ∙ zeroed-all out) ∙ sym (listing-refused b src dst (length out) sha256 r (sym p ∙ q))

pub slots-most : (bytes : ℕ) → slots bytes ≤ max_slots
unfolding slots
slots-most bytes = omega arith

pub room_fits : (s bytes : ℕ) → s ≡ slots bytes → solution_size * s ≤ bytes
room_fits s bytes q = omega (arith, slots-fit bytes)

pub few : (s n bytes : ℕ) → s ≡ slots bytes → n ≤ s + 1 → n ≤ max_slots + 1
few s n bytes q h = omega (arith, slots-most bytes)

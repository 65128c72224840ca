-- An answer as the number that is returned. A count is at most that of the slots, so that it is told from a refusal.
-- Assumes nothing.
use Prim.Native.Nat.{ℕ, ◌+◌, ◌^◌, ◌≤◌, ◌<◌}
use native.Mathlib.Omega.{arith}
use mathlib.Core.Path.{◌≡◌, refl, sym, ap, ◌∙◌}
use mathlib.Core.Bool.{Bool, true, false}
use mathlib.Core.List.{List, flat_map}
use lib.ListN.{length, replicate}
use lib.Dec.{ltb}
use borrow.Author.Tests.{ltb-false}
use Rattle.spec.specs.declared.Edge.{Edge}
use Rattle.spec.specs.declared.Refusal.{Refusal}
use Rattle.spec.specs.declared.Refusal.TheVariants.{Cut, Surplus, Oversize, Crowded, Long, Peers, Misfit, Full, Small, Stranger, Twice, Wire}
use Rattle.std.specs.Prelude.{Ok, Err, if◌then◌else◌}
use Rattle.spec.specs.Answers.{ListAnswer, PathAnswer, Listed, Assembled, refusals, refusal_number, list_number, path_number, refused_list, listing_of, listing_on, listing, assembly}
use Rattle.spec.specs.Book.{Verdict, verdict}
use Rattle.spec.specs.Wire.{WireAnswer, Carried, wire_number}
use Rattle.spec.specs.Limits.{max_slots}
use Rattle.spec.specs.Basics.{padded}
use Rattle.spec.specs.Order.{solutions}
use Rattle.spec.specs.Records.{solution_octets, slots}
use Rattle.spec.specs.Routes.{routes, routing_of, routing_on, routing}
use Rattle.spec.proofs.RouteLaws.{routes-few}
use Rattle.sha256.specs.Message.{sha256}
use Rattle.graph.proofs.ListLaws.{slots-most}
use Rattle.combinator.specs.Exports.{isd_asn, Returned, numbered_list, numbered_path, numbered_wire, list_returned, routes_returned, path_returned}

-- ---- every number is below 2^32

few : (r : Refusal) → refusal_number r < refusals
few Cut = omega arith
few Surplus = omega arith
few Oversize = omega arith
few Crowded = omega arith
few Long = omega arith
few Peers = omega arith
few Misfit = omega arith
few Full = omega arith
few Small = omega arith
few Stranger = omega arith
few Twice = omega arith
few Wire = omega arith

pub low : (a : ListAnswer) → ((n : ℕ) → a ≡ Ok n → n ≤ refusals) → list_number a < 2 ^ 32
low (Ok n) h = let k : n ≤ refusals = h n refl in omega arith
low (Err r) h = omega (arith, few r)

-- the writer's and the reader's are numbered as the list's
alike : (a : WireAnswer) → list_number a ≡ wire_number a
alike (Ok n) = refl
alike (Err r) = refl

-- ---- a count

module _ (bytes : ℕ) (found : List (List Edge)) (n : ℕ) where
  counted : (t : Bool) → ltb (slots bytes) (length found) ≡ t
      → (if t then refused_list bytes Full else (Ok (length found), padded bytes (flat_map solution_octets found))).0 ≡ Ok n → n ≤ max_slots
  unfolding refused_list
  counted true q e = let z : ◌≡◌ {A = ℕ} 0 1 = cc in absurd (omega arith)
  counted false q e =
      let k : length found ≡ n = cc in
      omega (arith, ltb-false (slots bytes) (length found) q, slots-most bytes)

  on-verdict : (v : Verdict) → (listing_on v bytes found).0 ≡ Ok n → n ≤ max_slots
  unfolding listing_of refused_list
  on-verdict (Ok tt) e = counted (ltb (slots bytes) (length found)) refl e
  on-verdict (Err r) e = let z : ◌≡◌ {A = ℕ} 0 1 = cc in absurd (omega arith)

-- ---- listing's answer and output, as the code has them

module _ (b : List ℕ) (src dst bytes : ℕ) (a : ListAnswer) (out : List ℕ) (e : ◌≡◌ {A = Listed} (a, out) (listing sha256 b (isd_asn src) (isd_asn dst) bytes)) where
  pub count_most : (n : ℕ) → a ≡ Ok n → n ≤ max_slots
  unfolding listing
  count_most n q = on-verdict bytes (solutions sha256 b (isd_asn src) (isd_asn dst)) n (verdict b) (sym (ap (λ (x : Listed). x.0) e) ∙ q)

  pub list-low : list_number a < 2 ^ 32
  list-low = low a (λ n q. omega (arith, count_most n q))

  pub list-number : (n : ℕ) → n ≡ list_number a → ◌≡◌ {A = Returned} (n, out) (list_returned b src dst bytes)
  unfolding list_returned numbered_list
  list-number n k = ap (λ m. (m, out)) k ∙ ap numbered_list e

-- ---- the routes'

module _ (b : List ℕ) (src dst bytes : ℕ) (a : ListAnswer) (out : List ℕ) (e : ◌≡◌ {A = Listed} (a, out) (routing sha256 b (isd_asn src) (isd_asn dst) bytes)) where
  pub routes-most : (n : ℕ) → a ≡ Ok n → n ≤ max_slots
  unfolding routing routing_of refused_list
  routes-most n q = on (verdict b) (sym (ap (λ (x : Listed). x.0) e) ∙ q)
    where
      found : List (List Edge)
      found = solutions sha256 b (isd_asn src) (isd_asn dst)

      routed-by : Bool → Listed
      routed-by t = if t then (Err Full, replicate bytes 0) else (Ok (length (routes b found)), padded bytes (flat_map solution_octets (routes b found)))

      of : (t : Bool) → ltb (slots bytes) (length found) ≡ t → (routed-by t).0 ≡ Ok n → n ≤ max_slots
      of true l p = let z : ◌≡◌ {A = ℕ} 0 1 = cc in absurd (omega arith)
      of false l p =
          let k : length (routes b found) ≡ n = cc in
          omega (arith, ltb-false (slots bytes) (length found) l, slots-most bytes, routes-few b found)

      on : (v : Verdict) → (routing_on v bytes b found).0 ≡ Ok n → n ≤ max_slots
      on (Ok tt) p = of (ltb (slots bytes) (length found)) refl p
      on (Err r) p = let z : ◌≡◌ {A = ℕ} 0 1 = cc in absurd (omega arith)

  pub routes-low : list_number a < 2 ^ 32
  routes-low = low a (λ n q. omega (arith, routes-most n q))

  pub routes-number : (n : ℕ) → n ≡ list_number a → ◌≡◌ {A = Returned} (n, out) (routes_returned b src dst bytes)
  unfolding routes_returned numbered_list
  routes-number n k = ap (λ m. (m, out)) k ∙ ap numbered_list e

-- ---- assembly's

module _ (b : List ℕ) (src dst : ℕ) (given : List ℕ) (bytes : ℕ) (a : PathAnswer) (out : List ℕ)
    (e : ◌≡◌ {A = Assembled} (a, out) (assembly b (isd_asn src) (isd_asn dst) given bytes)) where
  pub path-number : (x : PathAnswer) (n : ℕ) → a ≡ x → n ≡ path_number x → ◌≡◌ {A = Returned} (n, out) (path_returned b src dst given bytes)
  unfolding path_returned numbered_path
  path-number x n q k = ap (λ m. (m, out)) k ∙ ap (λ y. (path_number y, out)) (sym q) ∙ ap numbered_path e

-- ---- the writer's and the reader's

module _ (c : Carried) (a : WireAnswer) (out : List ℕ) (e : ◌≡◌ {A = Carried} (a, out) c) where
  pub wire-low : ((n : ℕ) → c.0 ≡ Ok n → n ≤ refusals) → list_number a < 2 ^ 32
  wire-low most = low a (λ n q. most n (sym (ap (λ (x : Carried). x.0) e) ∙ q))

  pub wire-number : (n : ℕ) → n ≡ list_number a → ◌≡◌ {A = Returned} (n, out) (numbered_wire c)
  unfolding numbered_wire
  wire-number n k = ap (λ m. (m, out)) (k ∙ alike a) ∙ ap numbered_wire e

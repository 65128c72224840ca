-- The comparison of two solutions beside the list.
-- Assumes nothing.
use Prim.Native.Nat.{ℕ, ◌-◌, ◌<◌, compare}
use native.Mathlib.Omega.{arith}
use mathlib.Core.Path.{◌≡◌, refl, ap, ap₂, ◌∙◌}
use mathlib.Core.Bool.{Bool, true, false}
use mathlib.Core.List.{List, [], flat_map}
use lib.ListN.{length, get_or, replicate}
use lib.Dec.{ltb}
use borrow.Author.Tests.{ltb-true, ltb-false}
use Rattle.sha256.specs.Message.{sha256}
use Rattle.spec.specs.declared.Edge.{Edge}
use Rattle.std.specs.Prelude.{Ok}
use Rattle.spec.specs.Basics.{padded}
use Rattle.spec.specs.Octets.{Bytes}
use Rattle.spec.specs.Book.{verdict}
use Rattle.spec.specs.Order.{solutions}
use Rattle.spec.specs.Records.{solution_octets, slots}
use Rattle.spec.specs.Answers.{refusals}
use Rattle.spec.proofs.BookLaws.{accepted}
use Rattle.spec.proofs.ChainLaws.{allowed-length}
use Rattle.spec.proofs.DigestLaws.{records-each, records-most, records-none}
use Rattle.order.specs.declared.Comparison.{Comparison}
use Rattle.order.specs.Records.{record_at}
use Rattle.order.specs.Order.{clipped, as_order, comparison}
use Rattle.order.proofs.Chains.{Fitting, chain-fitting}
use Rattle.order.proofs.Compared.{sorts-alike, compared-chains, nth-mem, as-places, record-nth}
use Rattle.combinator.specs.Exports.{isd_asn, Returned, list_returned}
use Rattle.combinator.specs.Compared.{Compared, Counted}
use Rattle.combinator.proofs.Demand3.{demand-3}

module _ (b : List ℕ) (bs : Bytes b) (ok : verdict b ≡ Ok tt) (src dst bytes : ℕ) (n : (list_returned b src dst bytes).0 < refusals) where
  abbrev found : List (List Edge)
  found = solutions sha256 b (isd_asn src) (isd_asn dst)

  abbrev out : List ℕ
  out = padded bytes (flat_map solution_octets found)

  -- there is a slot for every solution, else it were Full
  whole : list_returned b src dst bytes ≡ (length found, out)
  whole = go (ltb (slots bytes) (length found)) refl
    where
      go : (t : Bool) → ltb (slots bytes) (length found) ≡ t → list_returned b src dst bytes ≡ (length found, out)
      go false e = (demand-3 b bs ok src dst).listed bytes (ltb-false (slots bytes) (length found) e)
      go true e =
          let q = ap (λ (x : Returned). x.0) ((demand-3 b bs ok src dst).full bytes (ltb-true (slots bytes) (length found) e)) in
          absurd (omega arith)

  record_is : (i : ℕ) → i < length found → record_at out i ≡ solution_octets (get_or found i [])
  unfolding padded
  record_is i h =
      record-nth b found (replicate (bytes - length (flat_map solution_octets found)) 0) (λ c m. allowed-length c ((demand-3 b bs ok src dst).sound c m).kinds) i h

  fit : (i : ℕ) → i < length found → Fitting b (get_or found i [])
  fit i h =
      chain-fitting b (accepted b ok) (isd_asn src) (isd_asn dst) (get_or found i []) ((demand-3 b bs ok src dst).sound (get_or found i []) (nth-mem b found i h))

  as-listed : (i j : ℕ) → i < length found → j < length found → (comparison b (record_at out i) (record_at out j)).order ≡ as_order (compare i j)
  as-listed i j hi hj =
      ap₂ (λ r s. (comparison b r s).order) (record_is i hi) (record_is j hj)
      ∙ ap (λ (x : Comparison). x.order) (compared-chains b (accepted b ok) (get_or found i []) (get_or found j []) (fit i hi) (fit j hj))
      ∙ ap as_order (as-places b found (demand-3 b bs ok src dst).ordered i j hi hj)

-- For every accepted book: of two records that `combinator_list` leaves, the comparison answers Less of the earlier, Greater of the later and Equal of one with
-- itself; and the comparison of two solutions is that of their chains, with two fingerprints for each pair of edges at two positions that all earlier keys
-- leave equal.
pub compared-as-listed : (b : List ℕ) → Bytes b → verdict b ≡ Ok tt → Compared b
compared-as-listed b bs ok =
    record {
      listed = λ src dst bytes i j n hi hj.
          let w = whole b bs ok src dst bytes n in
          let l = ap (λ (x : Returned). x.0) w in
          ap (λ (x : Returned). (comparison b (record_at x.1 i) (record_at x.1 j)).order) w ∙ as-listed b bs ok src dst bytes n i j (omega arith) (omega arith);
      chains = λ src dst src' dst' c d h k.
          compared-chains b (accepted b ok) c d (chain-fitting b (accepted b ok) (isd_asn src) (isd_asn dst) c h) (chain-fitting b (accepted b ok) (isd_asn src') (isd_asn dst') d k);
    }

-- For any bytes, as a book and as two records.
pub counted : (b r s : List ℕ) → Counted b r s
unfolding comparison
counted b r s =
    record {
      each = records-each clipped b r s;
      most = records-most clipped b r s;
      none = records-none clipped b r s;
      sorts = sorts-alike b r s;
    }

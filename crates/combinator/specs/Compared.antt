-- The comparison of two solutions, which is no export but a public function of crate `order`, `compare_solutions`: its order beside the list that
-- `combinator_list` leaves, and its count, as statements about the definitions that their contracts are equations with.
-- Assumes nothing.
use Prim.Native.Nat.{ℕ, ◌*◌, ◌≤◌, ◌<◌, compare}
use Rattle.std.specs.Prelude.{◌≡◌, List, length}
use Rattle.std.specs.Ordering.{is_le}
use Rattle.sha256.specs.Message.{sha256}
use Rattle.spec.specs.declared.Edge.{Edge}
use Rattle.spec.specs.Limits.{max_edges}
use Rattle.spec.specs.Basics.{filter, range}
use Rattle.spec.specs.Chains.{IsChain}
use Rattle.spec.specs.Order.{compare_chains}
use Rattle.spec.specs.Digests.{chain_digests}
use Rattle.spec.specs.Records.{record_edge, solution_octets}
use Rattle.spec.specs.ByRecord.{needs_digests}
use Rattle.spec.specs.Answers.{refusals}
use Rattle.order.specs.Records.{record_at}
use Rattle.order.specs.Order.{clipped, as_order, comparison, leq_slots}
use Rattle.combinator.specs.Exports.{isd_asn, list_returned}

-- of an accepted book
pub record Compared (b : List ℕ) : Type 0 where
  -- two records that `combinator_list` leaves compare as their places in the list do
  pub listed : (src dst bytes i j : ℕ) → (list_returned b src dst bytes).0 < refusals → i < (list_returned b src dst bytes).0 → j < (list_returned b src dst bytes).0
      → (comparison b (record_at (list_returned b src dst bytes).1 i) (record_at (list_returned b src dst bytes).1 j)).order ≡ as_order (compare i j)
  -- the records of two chains, from any source to any destination each: the order of the chains, and the fingerprints of 5.7
  pub chains : (src dst src' dst' : ℕ) (c d : List Edge) → IsChain b (isd_asn src) (isd_asn dst) c → IsChain b (isd_asn src') (isd_asn dst') d
      → comparison b (solution_octets c) (solution_octets d) ≡ record { order = as_order (compare_chains sha256 b c d); digests = chain_digests sha256 b c d }

-- of any bytes, as a book and two records
pub record Counted (b r s : List ℕ) : Type 0 where
  -- two for each pair of edges at two positions that all earlier keys leave equal, and none else; so six at most
  pub each : (comparison b r s).digests ≡ 2 * length (filter (needs_digests clipped b r s) (range 0 max_edges))
  pub most : (comparison b r s).digests ≤ 6
  -- none where all positions agree
  pub none : ((k : ℕ) → k < max_edges → (record_edge r k).position ≡ (record_edge s k).position) → (comparison b r s).digests ≡ 0
  -- the order by which listing sorts
  pub sorts : leq_slots b r s ≡ is_le (comparison b r s).order

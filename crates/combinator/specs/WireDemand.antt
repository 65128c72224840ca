-- The writer and the reader over the exported functions, as statements about the definitions that their contracts are equations with: a number below
-- 65,536 is the count of the bytes, of which those after it are zero.
-- Assumes nothing.
use Rattle.std.specs.Prelude.{ℕ, ◌+◌, ◌*◌, ◌≤◌, ◌<◌, ◌≡◌, List, length, take, Ok}
use Rattle.spec.specs.declared.Edge.{Edge}
use Rattle.spec.specs.Limits.{path_head_size, info_size, hop_size, path_size, meta_size, wire_info_size, wire_hop_size, wire_size}
use Rattle.spec.specs.Basics.{padded}
use Rattle.spec.specs.Octets.{Bytes}
use Rattle.spec.specs.Book.{verdict}
use Rattle.spec.specs.Chains.{IsChain}
use Rattle.spec.specs.Records.{solution_octets}
use Rattle.spec.specs.Router.{infos_in, hops_in, router_ids}
use Rattle.spec.specs.Answers.{refusals}
use Rattle.spec.specs.Wire.{wire_infos_in, wire_hops_in, wire_router_ids}
use Rattle.spec.specs.WireDemand.{WireAgrees}
use Rattle.combinator.specs.Exports.{isd_asn, Returned, path_returned, write_returned, read_returned}

-- the bytes that the number counts
abbrev pub counted : Returned → List ℕ
counted x = take x.0 x.1

-- demand 3 of the bytes on the wire, whatever was given to `combinator_assemble`: where it leaves a path, the book is accepted and the record is a chain's;
-- `combinator_write` takes the path, and a router fed the bytes written, and nothing else, holds at each hop the id of the segment
pub record OnWire (b : List ℕ) (src dst : ℕ) (given : List ℕ) (bytes room : ℕ) : Type 0 where
  pub accepted : verdict b ≡ Ok tt
  pub chain : List Edge
  pub is-chain : IsChain b (isd_asn src) (isd_asn dst) chain
  pub of-chain : given ≡ solution_octets chain
  pub taken : (write_returned (path_returned b src dst given bytes).1 room).0 ≤ wire_size
  pub agrees : WireAgrees b chain (counted (write_returned (path_returned b src dst given bytes).1 room))

-- of every list of bytes, as a path record and as bytes on the wire
pub record RoundTrip (x : List ℕ) : Type 0 where
  -- a record that is taken, written and read back: it is not refused, and infos and hops are those of before; the router holds the same ids
  pub back : (bytes room : ℕ) → (write_returned x bytes).0 < refusals → path_size ≤ room
      → ((read_returned (counted (write_returned x bytes)) room).0 < refusals)
      × (infos_in (read_returned (counted (write_returned x bytes)) room).1 ≡ infos_in x)
      × (hops_in (read_returned (counted (write_returned x bytes)) room).1 ≡ hops_in x)
  pub router : (bytes : ℕ) → (write_returned x bytes).0 < refusals → wire_router_ids (counted (write_returned x bytes)) ≡ router_ids x
  -- bytes that are taken, read and written again, are the same bytes
  pub again : (bytes room : ℕ) → (read_returned x bytes).0 < refusals → wire_size ≤ room → write_returned (counted (read_returned x bytes)) room ≡ (length x, padded room x)
  -- the reader takes exactly the bytes that the writer can produce: those that it produced of a record, and of what is taken there is such a record
  pub produced : (r : List ℕ) → Bytes r → (bytes room : ℕ) → (write_returned r bytes).0 < refusals → counted (write_returned r bytes) ≡ x → path_size ≤ room
      → (read_returned x room).0 < refusals
  pub only : (bytes : ℕ) → (read_returned x bytes).0 < refusals
      → (r : List ℕ) × Bytes r × ((room : ℕ) → wire_size ≤ room → write_returned r room ≡ (length x, padded room x))
  -- what is counted
  pub written : (bytes : ℕ) → (write_returned x bytes).0 < refusals
      → (write_returned x bytes).0 ≡ meta_size + wire_info_size * length (infos_in x) + wire_hop_size * length (hops_in x)
  pub read : (bytes : ℕ) → (read_returned x bytes).0 < refusals
      → (read_returned x bytes).0 ≡ path_head_size + info_size * length (wire_infos_in x) + hop_size * length (wire_hops_in x)

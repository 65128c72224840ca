-- What holds of the writer and the reader: of every list of bytes, and of a path that assembly left.
-- Assumes nothing.
use Rattle.std.specs.Prelude.{ℕ, ◌+◌, ◌*◌, ◌≤◌, ◌≡◌, length, take, Ok}
use mathlib.Core.List.{List, map, flat_map}
use Rattle.spec.specs.declared.Edge.{Edge}
use Rattle.spec.specs.Limits.{path_head_size, info_size, hop_size, path_size, meta_size, wire_info_size, wire_hop_size, wire_size}
use Rattle.spec.specs.Basics.{padded}
use Rattle.spec.specs.Octets.{Bytes}
use Rattle.spec.specs.Router.{infos_in, hops_in, router_ids, shape_of, shape_on, entry_hops_on, held_on}
use Rattle.spec.specs.Wire.{wire_infos_in, wire_hops_in, wire_router_ids, Carried, writing, reading}

-- 15.8: of an output the bytes that count
abbrev pub front : ℕ → Carried → List ℕ
front n c = take n c.1

-- 15.8: of every list of bytes, as a record and as bytes on the wire
pub record Reversible (x : List ℕ) : Type 0 where
  -- a record that the writer takes, written into any room and read back: the reader does not refuse it, and infos and hops are those of before
  pub back : (n bytes room : ℕ) → (writing x bytes).0 ≡ Ok n → path_size ≤ room
      → (m : ℕ) × (m ≤ path_size) × ((reading (front n (writing x bytes)) room).0 ≡ Ok m)
      × (infos_in (reading (front n (writing x bytes)) room).1 ≡ infos_in x) × (hops_in (reading (front n (writing x bytes)) room).1 ≡ hops_in x)
  -- the router holds by the wire's bytes the ids that it holds by the record's
  pub router : (n bytes : ℕ) → (writing x bytes).0 ≡ Ok n → wire_router_ids (front n (writing x bytes)) ≡ router_ids x
  -- bytes that the reader takes are reproduced by the writer, byte for byte
  pub again : (n bytes room : ℕ) → (reading x bytes).0 ≡ Ok n → wire_size ≤ room → writing (front n (reading x bytes)) room ≡ (Ok (length x), padded room x)
  -- the reader takes bytes that the writer produced, and no others
  pub produced : (r : List ℕ) → Bytes r → (n bytes room : ℕ) → (writing r bytes).0 ≡ Ok n → front n (writing r bytes) ≡ x → path_size ≤ room
      → (m : ℕ) × (m ≤ path_size) × ((reading x room).0 ≡ Ok m)
  pub only : (n bytes : ℕ) → (reading x bytes).0 ≡ Ok n
      → (r : List ℕ) × Bytes r × ((room : ℕ) → wire_size ≤ room → writing r room ≡ (Ok (length x), padded room x))
  -- what is counted, and that it is no more than the room asked for
  pub wire-count : (n bytes : ℕ) → (writing x bytes).0 ≡ Ok n
      → (n ≡ meta_size + wire_info_size * length (infos_in x) + wire_hop_size * length (hops_in x)) × (n ≤ wire_size)
  pub record-count : (n bytes : ℕ) → (reading x bytes).0 ≡ Ok n
      → (n ≡ path_head_size + info_size * length (wire_infos_in x) + hop_size * length (wire_hops_in x)) × (n ≤ path_size)

-- 15.8: 7.6's comparison of a chain c of the book b with the bytes on the wire, read by the data draft's layout alone
pub record WireAgrees (b : List ℕ) (c : List Edge) (w : List ℕ) : Type 0 where
  -- one info for each edge, in order
  pub infos : map shape_of (wire_infos_in w) ≡ map (shape_on b) c
  -- hop j of an info is that of its segment's entry m
  pub hops : wire_hops_in w ≡ flat_map (entry_hops_on b) c
  -- the id held there
  pub held : wire_router_ids w ≡ flat_map (held_on b) c

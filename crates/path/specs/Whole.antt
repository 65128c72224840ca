-- What a walk over all edges leaves.
-- Assumes nothing.
use Rattle.std.specs.Prelude.{ℕ, ◌+◌, ◌*◌, ◌≡◌, length, take}
use mathlib.Core.List.{List, map, flat_map}
use Rattle.spec.specs.declared.Edge.{Edge}
use Rattle.spec.specs.Limits.{max_mtu, max_time, path_head_size, info_size}
use Rattle.spec.specs.Assembly.{least, mtus_on, expiry_on}
use Rattle.path.specs.declared.record.Ends.{Ends}
use Rattle.path.specs.Places.{Appended}
use Rattle.path.specs.Parts.{Hops, Ases, Ids, edge_bytes}

-- the edges c are walked: where their hops, ASes and ids end, the least MTU and the soonest expiry; the ASes stand at the front of their buffer
pub record EndsOf (b : List ℕ) (c : List Edge) (a : List ℕ) (ends : Ends) : Type 0 where
  pub hops-end : ends.hops ≡ path_head_size + info_size * length c + length (flat_map (edge_bytes b Hops) c)
  pub ases-end : ends.ases ≡ length (flat_map (edge_bytes b Ases) c)
  pub ids-end : ends.ids ≡ length (flat_map (edge_bytes b Ids) c)
  pub ases : take ends.ases a ≡ flat_map (edge_bytes b Ases) c
  pub mtu : ends.mtu ≡ least max_mtu (flat_map (mtus_on b) c)
  pub expiry : ends.expiry ≡ least max_time (map (expiry_on b) c)

-- their hops stand in o, after the room for its infos, and their ids at the front of their buffer
pub record HopsAndIds (b : List ℕ) (c : List Edge) (o i : List ℕ) (ends : Ends) : Type 0 where
  pub before : List ℕ
  pub hops : Appended before (path_head_size + info_size * length c) (flat_map (edge_bytes b Hops) c) o ends.hops
  pub ids : take ends.ids i ≡ flat_map (edge_bytes b Ids) c

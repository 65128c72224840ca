-- The data plane draft's router, fed the infos and hops of a path record, and what demand 3 compares it with.
-- Assumes nothing.
use Rattle.std.specs.Prelude.{ℕ, ◌+◌, ◌-◌, ◌*◌, ◌/◌, ◌%◌, ◌≡◌, Bool, true, false, ◌&&◌, ◌||◌, length, get_or, take, drop, eqb, if◌then◌else◌}
use mathlib.Core.List.{List, [], ◌∷◌, ◌++◌, map, flat_map}
use Rattle.spec.specs.declared.HopField.{HopField}
use Rattle.spec.specs.declared.InfoField.{InfoField}
use Rattle.spec.specs.declared.Edge.{Edge}
use Rattle.spec.specs.Limits.{path_head_size, info_size, hop_size}
use Rattle.spec.specs.Basics.{range}
use Rattle.spec.specs.Octets.{be16, be32}
use Rattle.spec.specs.Book.{Segment, mac_at}
use Rattle.spec.specs.Edges.{in_construction}
use Rattle.spec.specs.Assembly.{fold_step, id_below, is_peer_hop, is_peer_edge, hop_of, hop_count, segment_of}
use Rattle.spec.specs.Records.{path_head_in}

-- ---- infos and hops of a path record's bytes

-- 8.5: the info field, and the hop, at an offset
unfoldable pub info_at : List ℕ → ℕ → InfoField
info_at r at =
    record {
      construction = eqb (get_or r at 0 % 2) 1;
      peering = eqb (get_or r at 0 / 2 % 2) 1;
      hops = get_or r (at + 1) 0;
      id = be16 r (at + 2);
      timestamp = be32 r (at + 4);
    }

unfoldable pub hop_at : List ℕ → ℕ → HopField
hop_at r at = record { units = get_or r at 0; ingress = be16 r (at + 1); egress = be16 r (at + 3); mac = mac_at r (at + 5) }

-- 8.5: info k, and hop k after as many infos as the record says
unfoldable pub record_info : List ℕ → ℕ → InfoField
record_info r k = info_at r (path_head_size + info_size * k)

unfoldable pub record_hop : List ℕ → ℕ → HopField
record_hop r k = hop_at r (path_head_size + info_size * (path_head_in r).infos + hop_size * k)

-- 7.1, 8.5: what the router is fed
unfoldable pub infos_in : List ℕ → List InfoField
infos_in r = map (record_info r) (range 0 (path_head_in r).infos)

unfoldable pub hops_in : List ℕ → List HopField
hops_in r = map (record_hop r) (range 0 (path_head_in r).hops)

-- ---- the router: the ids held at the hops, each at its use

-- 7.2: no hops follow
unfoldable pub is_none : List HopField → Bool
is_none [] = true
is_none (h ∷ hs) = false

-- 7.2: each regular hop after the info's first folds its MAC in before use; the last hop of a peering info is a peer hop
unfoldable pub against : Bool → Bool → ℕ → List HopField → List ℕ
against peering first id [] = []
against peering first id (h ∷ hs) =
    let held : ℕ = if first || (peering && is_none hs) then id else fold_step id h.mac in
    held ∷ against peering false held hs

-- 7.3: a regular hop folds its MAC in after use; the first hop of a peering info is a peer hop
unfoldable pub along : Bool → ℕ → List HopField → List ℕ
along peer_hop id [] = []
along peer_hop id (h ∷ hs) = id ∷ along false (if peer_hop then id else fold_step id h.mac) hs

-- 7.4: the hops of one info, whose id is set first
unfoldable pub walk_info : InfoField → List HopField → List ℕ
walk_info i hs = if i.construction then along i.peering i.id hs else against i.peering true i.id hs

-- 7.4: each info sets the id to its own and takes the next hops, as many as its hop count
unfoldable pub walk_infos : List InfoField → List HopField → List ℕ
walk_infos [] hs = []
walk_infos (i ∷ is) hs = walk_info i (take i.hops hs) ++ walk_infos is (drop i.hops hs)

-- 7.1, 7.4: the router is fed the record's bytes, nothing else
unfoldable pub router_ids : List ℕ → List ℕ
router_ids r = walk_infos (infos_in r) (hops_in r)

-- ---- what it is compared with

-- 7.5: told from the edge's end and the segment's leaf, and not from what assembly goes by
module _ (seg : Segment) (e : Edge) where
  unfoldable pub is_along : Bool
  is_along = in_construction seg e.dst

  -- 7.5: the entry m of hop j: m = n - 1 - j against construction, m = s + j in construction direction
  unfoldable pub hop_entry : ℕ → ℕ
  hop_entry j = if is_along then e.shortcut + j else length seg.entries - 1 - j

  -- 7.5: of all hops, j from 0
  unfoldable pub hop_entries : List ℕ
  hop_entries = map hop_entry (range 0 (hop_count seg e))

  -- 7.5: the segment's id folded over the regular MACs of all entries below m, at a peer hop below m + 1
  unfoldable pub id_held : ℕ → ℕ
  id_held m = id_below seg (if is_peer_hop e m then m + 1 else m)

-- 7.6: an info without its id and timestamp
pub record InfoShape : Type 0 where
  pub construction : Bool
  pub peering : Bool
  pub hops : ℕ

unfoldable pub shape_of : InfoField → InfoShape
shape_of i = record { construction = i.construction; peering = i.peering; hops = i.hops }

module _ (b : List ℕ) where
  -- 7.5: flagged construction exactly where the edge is in construction direction and peering exactly on a peer edge, with n - s hops
  unfoldable pub shape_on : Edge → InfoShape
  shape_on e = record { construction = is_along (segment_of b e) e; peering = is_peer_edge e; hops = hop_count (segment_of b e) e }

  -- 7.5: the hops of an edge, and the ids held at them
  unfoldable pub entry_hops_on : Edge → List HopField
  entry_hops_on e = map (hop_of (segment_of b e) e) (hop_entries (segment_of b e) e)

  unfoldable pub held_on : Edge → List ℕ
  held_on e = map (id_held (segment_of b e) e) (hop_entries (segment_of b e) e)

-- 7.6: the comparison of a chain c of the book b with its path record r
pub record RouterAgrees (b : List ℕ) (c : List Edge) (r : List ℕ) : Type 0 where
  -- one info for each edge, in order
  pub infos : map shape_of (infos_in r) ≡ map (shape_on b) c
  -- hop j of an info is that of its segment's entry m
  pub hops : hops_in r ≡ flat_map (entry_hops_on b) c
  -- the id held there
  pub held : router_ids r ≡ flat_map (held_on b) c

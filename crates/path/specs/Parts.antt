-- What a path's record holds of an entry, of an edge and of a chain.
-- Assumes nothing.
use Rattle.std.specs.Prelude.{ℕ, ◌+◌, ◌-◌, ◌≡◌, ◌&&◌, ◌||◌, not, eqb, if◌then◌else◌}
use mathlib.Core.List.{List, [], ◌∷◌, map, flat_map}
use Rattle.spec.specs.declared.IsdAsn.{IsdAsn}
use Rattle.spec.specs.declared.PathInterface.{PathInterface}
use Rattle.spec.specs.declared.Edge.{Edge}
use Rattle.spec.specs.Octets.{octets2}
use Rattle.spec.specs.Book.{Segment}
use Rattle.spec.specs.Edges.{entry_of, peer_of}
use Rattle.path.specs.declared.entry.Walk.{Walk}
use Rattle.path.specs.Places.{is_inner_shortcut, passed, Appended}
use Rattle.spec.specs.Assembly.{least, units_of, mtus_at, is_peer_hop, interface_if, interfaces_at, in_direction, hop_of, segment_of, info_on, hops_on, interfaces_on, mtus_on}
use Rattle.spec.specs.Records.{info_octets, hop_octets, as_octets, interface_as_octets, interface_id_octets}

-- the parts of a path's record that go by entries
pub data Part : Type 0 where
  Hops : Part
  Ases : Part
  Ids : Part

-- the MTU of the link over which entry m is entered, if it counts
unfoldable pub link_mtus : Segment → Edge → ℕ → List ℕ
link_mtus seg e m =
    if is_peer_hop e m then (peer_of seg m (e.peer - 1)).mtu ∷ []
    else if eqb (entry_of seg m).own.ingress_mtu 0 || is_inner_shortcut e m then []
    else (entry_of seg m).own.ingress_mtu ∷ []

-- at an inner shortcut without a peer no ingress is shown
unfoldable pub ingress_shown : Edge → ℕ → ℕ → ℕ
ingress_shown e m ingress = if eqb e.peer 0 && is_inner_shortcut e m then 0 else ingress

-- an interface is shown where its id is not 0
unfoldable pub shown_as : IsdAsn → ℕ → List PathInterface
shown_as a id = interface_if (not (eqb id 0)) a id

unfoldable pub as_if : IsdAsn → ℕ → List ℕ
as_if a id = if eqb id 0 then [] else as_octets a

unfoldable pub id_if : ℕ → List ℕ
id_if id = if eqb id 0 then [] else octets2 id

module _ (b : List ℕ) (e : Edge) where
  -- the interfaces at entry m, in the path's order
  unfoldable pub interfaces_here : ℕ → List PathInterface
  interfaces_here m = in_direction e.construction (interfaces_at (segment_of b e) e m)

  unfoldable pub entry_bytes : Part → ℕ → List ℕ
  entry_bytes Hops m = hop_octets (hop_of (segment_of b e) e m)
  entry_bytes Ases m = flat_map interface_as_octets (interfaces_here m)
  entry_bytes Ids m = flat_map interface_id_octets (interfaces_here m)

  -- what the first j hops give
  unfoldable pub walked : Part → ℕ → List ℕ
  walked part j = flat_map (entry_bytes part) (passed b e j)

  -- the units and the MTUs of the first j hops
  unfoldable pub walked_units : ℕ → List ℕ
  walked_units j = map units_of (map (hop_of (segment_of b e) e) (passed b e j))

  unfoldable pub walked_mtus : ℕ → List ℕ
  walked_mtus j = flat_map (mtus_at (segment_of b e) e) (passed b e j)

-- where the fold of the segment id stops: below the first hop's entry k, or past it where its hop is a peer's
unfoldable pub stop_from : Edge → ℕ → ℕ
stop_from e k = if is_peer_hop e k then k + 1 else k

unfoldable pub info_bytes : List ℕ → Edge → List ℕ
info_bytes b e = info_octets (info_on b e)

unfoldable pub edge_bytes : List ℕ → Part → Edge → List ℕ
edge_bytes b Hops e = flat_map hop_octets (hops_on b e)
edge_bytes b Ases e = flat_map interface_as_octets (interfaces_on b e)
edge_bytes b Ids e = flat_map interface_id_octets (interfaces_on b e)

-- the parts are appended, each to its buffer, and MTU and units are the least of those so far and of some more
pub record Walked (part : Part → List ℕ) (mtus lives : List ℕ) (o o' a a' i i' : List ℕ) (w w' : Walk) : Type 0 where
  pub hops : Appended o w.hops (part Hops) o' w'.hops
  pub ases : Appended a w.ases (part Ases) a' w'.ases
  pub ids : Appended i w.ids (part Ids) i' w'.ids
  pub mtu : w'.mtu ≡ least w.mtu mtus
  pub units : w'.units ≡ least w.units lives

-- what an entry and what an edge give
abbrev pub EntryWalked : List ℕ → Edge → ℕ → (o o' a a' i i' : List ℕ) → Walk → Walk → Type 0
EntryWalked b e m = Walked (λ part. entry_bytes b e part m) (mtus_at (segment_of b e) e m) (units_of (hop_of (segment_of b e) e m) ∷ [])

abbrev pub EdgeWalked : List ℕ → Edge → (o o' a a' i i' : List ℕ) → Walk → Walk → Type 0
EdgeWalked b e = Walked (λ part. edge_bytes b part e) (mtus_on b e) (map units_of (hops_on b e))

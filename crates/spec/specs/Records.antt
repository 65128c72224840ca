-- The bytes of a solution and of a path.
-- Assumes nothing.
use Rattle.std.specs.Prelude.{ℕ, ◌+◌, ◌-◌, ◌*◌, ◌/◌, min, Bool, length, get_or, replicate, eqb, if◌then◌else◌}
use mathlib.Core.List.{List, [], ◌∷◌, ◌++◌, map, flat_map}
use Rattle.spec.specs.declared.IsdAsn.{IsdAsn}
use Rattle.spec.specs.declared.HopField.{HopField}
use Rattle.spec.specs.declared.InfoField.{InfoField}
use Rattle.spec.specs.declared.PathInterface.{PathInterface}
use Rattle.spec.specs.declared.Edge.{Edge}
use Rattle.spec.specs.declared.SolutionEdge.{SolutionEdge}
use Rattle.spec.specs.declared.Solution.{Solution}
use Rattle.spec.specs.declared.Path.{Path}
use Rattle.spec.specs.Limits.{max_edges, solution_size, solution_head_size, edge_size, max_slots, path_head_size, info_size, hop_size}
use Rattle.spec.specs.Basics.{range, padded}
use Rattle.spec.specs.Octets.{be16, be32, octets2, octets4, octets8}
use Rattle.spec.specs.Book.{isd_asn_at}
use Rattle.spec.specs.Order.{cost, solution_edge}
use Rattle.spec.specs.Assembly.{CombinedPath}

-- 8.1, 8.3: a direction or a flag as a number
unfoldable pub bit : Bool → ℕ
bit b = if b then 1 else 0

-- ---- a solution

-- 8.1: position, shortcut, peer index plus 1 or 0 for none, direction (1 construction)
unfoldable pub edge_octets : SolutionEdge → List ℕ
edge_octets e = e.position ∷ e.shortcut ∷ e.peer ∷ bit e.construction ∷ []

-- 8.1: cost 2, edge count 1, zero 1, then the edges; unused ones are zero
unfoldable pub solution_octets : List Edge → List ℕ
solution_octets c = padded solution_size (octets2 (cost c) ++ (length c ∷ 0 ∷ []) ++ flat_map edge_octets (map solution_edge c))

-- 8.5: read back: the edge at an offset
unfoldable pub edge_at : List ℕ → ℕ → SolutionEdge
edge_at r at = record { position = get_or r at 0; shortcut = get_or r (at + 1) 0; peer = get_or r (at + 2) 0; construction = eqb (get_or r (at + 3) 0) 1 }

-- 8.5: where edge k of a record starts, and that edge
unfoldable pub edge_offset : ℕ → ℕ
edge_offset k = solution_head_size + edge_size * k

unfoldable pub record_edge : List ℕ → ℕ → SolutionEdge
record_edge r k = edge_at r (edge_offset k)

-- 8.5: a record as a whole
unfoldable pub solution_in : List ℕ → Solution
solution_in r = record { cost = be16 r 0; count = get_or r 2 0; edges = map (record_edge r) (range 0 max_edges) }

-- 8.5: what an unused edge reads as: all zero
unfoldable pub no_edge : SolutionEdge
no_edge = edge_at [] 0

-- 8.5: what the record of a chain says
unfoldable pub solution_of : List Edge → Solution
solution_of c =
    record {
      cost = cost c;
      count = length c;
      edges = map solution_edge c ++ replicate (max_edges - length c) no_edge;
    }

-- 8.2: how many solutions fit in so many bytes
unfoldable pub slots : ℕ → ℕ
slots bytes = min max_slots (bytes / solution_size)

-- ---- a path

-- 8.3: flags 1 with construction = 1, peering = 2; hop count 1; id 2; timestamp 4
unfoldable pub info_octets : InfoField → List ℕ
info_octets i =
    ((bit i.construction + 2 * bit i.peering) ∷ i.hops ∷ []) ++ octets2 i.id ++ octets4 i.timestamp

-- 8.3: units, ingress, egress, MAC
unfoldable pub hop_octets : HopField → List ℕ
hop_octets h = (h.units ∷ []) ++ octets2 h.ingress ++ octets2 h.egress ++ h.mac

-- 8.3: an AS
unfoldable pub as_octets : IsdAsn → List ℕ
as_octets a = octets8 a.0

-- 8.3: what stands past the end of a list of interfaces
unfoldable pub no_interface : PathInterface
no_interface = record { local = isd_asn_at [] 0; id = 0 }

-- 8.3: an interface's AS, and its id
unfoldable pub interface_as_octets : PathInterface → List ℕ
interface_as_octets i = as_octets i.local

unfoldable pub interface_id_octets : PathInterface → List ℕ
interface_id_octets i = octets2 i.id

-- 8.3: what a path record says before its infos
unfoldable pub path_head : CombinedPath → Path
path_head p =
    record {
      infos = length p.infos;
      hops = length p.hops;
      interfaces = length p.interfaces;
      mtu = p.mtu;
      expiry = p.expiry;
      first = (get_or p.interfaces 0 no_interface).local;
      last = (get_or p.interfaces (length p.interfaces - 1) no_interface).local;
    }

-- 8.3: counts of infos, hops, interfaces (1 each), zero 1; MTU 2; expiry 4; first and last interface's AS 8 + 8
unfoldable pub path_head_octets : Path → List ℕ
path_head_octets h =
    (h.infos ∷ h.hops ∷ h.interfaces ∷ 0 ∷ []) ++ octets2 h.mtu ++ octets4 h.expiry ++ as_octets h.first ++ as_octets h.last

-- 8.3: then infos; hops; all interface ASes, then all interface ids
unfoldable pub path_octets : CombinedPath → List ℕ
path_octets p =
    path_head_octets (path_head p)
    ++ flat_map info_octets p.infos
    ++ flat_map hop_octets p.hops
    ++ flat_map interface_as_octets p.interfaces
    ++ flat_map interface_id_octets p.interfaces

-- 8.5: read back: what stands before the infos
unfoldable pub path_head_in : List ℕ → Path
path_head_in r =
    record {
      infos = get_or r 0 0;
      hops = get_or r 1 0;
      interfaces = get_or r 2 0;
      mtu = be16 r 4;
      expiry = be32 r 6;
      first = isd_asn_at r 10;
      last = isd_asn_at r 18;
    }

-- 8.5: where the interface ASes start, after as many infos and hops as the record says, and where the interface ids do
unfoldable pub ases_offset : List ℕ → ℕ
ases_offset r = path_head_size + info_size * (path_head_in r).infos + hop_size * (path_head_in r).hops

unfoldable pub ids_offset : List ℕ → ℕ
ids_offset r = ases_offset r + 8 * (path_head_in r).interfaces

-- 8.5: interface k, and all interfaces
unfoldable pub record_interface : List ℕ → ℕ → PathInterface
record_interface r k = record { local = isd_asn_at r (ases_offset r + 8 * k); id = be16 r (ids_offset r + 2 * k) }

unfoldable pub interfaces_in : List ℕ → List PathInterface
interfaces_in r = map (record_interface r) (range 0 (path_head_in r).interfaces)

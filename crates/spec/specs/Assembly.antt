-- The path of a chain: hops, MTU, interfaces, segment ids and expiry.
-- Assumes nothing.
use Rattle.std.specs.Prelude.{ℕ, ◌+◌, ◌-◌, ◌*◌, ◌/◌, ◌%◌, ◌^◌, min, Bool, true, false, ◌&&◌, ◌||◌, not, length, take, ltb, eqb, if◌then◌else◌}
use mathlib.Core.List.{List, [], ◌∷◌, ◌++◌, map, flat_map, reverse}
use Rattle.std.specs.Int.Bits.{bit_xor}
use Rattle.spec.specs.declared.IsdAsn.{IsdAsn}
use Rattle.spec.specs.declared.HopField.{HopField}
use Rattle.spec.specs.declared.InfoField.{InfoField}
use Rattle.spec.specs.declared.PathInterface.{PathInterface}
use Rattle.spec.specs.declared.Edge.{Edge}
use Rattle.spec.specs.declared.Outcome.{Outcome}
use Rattle.spec.specs.declared.Outcome.TheVariants.{Path, Loop, Bare}
use Rattle.spec.specs.Limits.{max_time, max_mtu}
use Rattle.spec.specs.Basics.{any, filter, range}
use Rattle.spec.specs.Octets.{be16}
use Rattle.spec.specs.Book.{same_as, Entry, Segment, segment_at}
use Rattle.spec.specs.Edges.{entry_of, as_of, peer_of}

-- 6.4, 6.8: the least of some numbers and of m
unfoldable pub least : ℕ → List ℕ → ℕ
least m [] = m
least m (x ∷ xs) = least (min m x) xs

-- ---- the entries that an edge uses

-- 3.2: an edge with a peer
unfoldable pub is_peer_edge : Edge → Bool
is_peer_edge e = ltb 0 e.peer

-- 6.2: entry i is the one at the shortcut
unfoldable pub at_shortcut : Edge → ℕ → Bool
at_shortcut e i = eqb i e.shortcut

-- 6.2: on a peer edge the hop at the shortcut is the peer's
unfoldable pub is_peer_hop : Edge → ℕ → Bool
is_peer_hop e i = at_shortcut e i && is_peer_edge e

-- 6.5: one interface, or none
unfoldable pub interface_if : Bool → IsdAsn → ℕ → List PathInterface
interface_if shown a id = if shown then record { local = a; id = id } ∷ [] else []

module _ (seg : Segment) (e : Edge) where
  -- 6.1: how many: n - s
  unfoldable pub hop_count : ℕ
  hop_count = length seg.entries - e.shortcut

  -- 6.1: from the leaf down to the shortcut
  unfoldable pub used_entries : List ℕ
  used_entries = reverse (range e.shortcut hop_count)

  -- 6.2: the hop that entry i gives
  unfoldable pub hop_of : ℕ → HopField
  hop_of i = if is_peer_hop e i then (peer_of seg i (e.peer - 1)).hop else (entry_of seg i).own.hop

  -- 6.4: peer MTU at a peer hop; ingress MTU at a regular hop if non-zero and not (at s with s above 0); always the AS MTU's low 16 bits
  unfoldable pub mtus_at : ℕ → List ℕ
  mtus_at i =
      let ingress_mtu : ℕ = (entry_of seg i).own.ingress_mtu in
      (if is_peer_hop e i then (peer_of seg i (e.peer - 1)).mtu ∷ []
      else if eqb ingress_mtu 0 || (at_shortcut e i && ltb 0 e.shortcut) then []
      else ingress_mtu ∷ [])
      ++ ((entry_of seg i).own.mtu % 2 ^ 16 ∷ [])

  -- 6.5: of the hop given, with the entry's AS: egress if non-zero, then ingress if non-zero and (not at s, or s = 0, or a peer hop)
  unfoldable pub interfaces_at : ℕ → List PathInterface
  interfaces_at i =
      let hop : HopField = hop_of i in
      interface_if (not (eqb hop.egress 0)) (as_of seg i) hop.egress
      ++ interface_if (not (eqb hop.ingress 0) && (not (at_shortcut e i) || eqb e.shortcut 0 || is_peer_hop e i)) (as_of seg i) hop.ingress

-- 6.3: hops and interfaces are reversed in construction direction
module _ {A : Type 0} where
  unfoldable pub in_direction : Bool → List A → List A
  in_direction construction xs = if construction then reverse xs else xs

-- ---- ids

-- 1.6: one fold step: id XOR the first two MAC bytes
unfoldable pub fold_step : ℕ → List ℕ → ℕ
fold_step id mac = bit_xor id (be16 mac 0)

-- 1.6: one step for each MAC
unfoldable pub fold_macs : ℕ → List (List ℕ) → ℕ
fold_macs id [] = id
fold_macs id (mac ∷ macs) = fold_macs (fold_step id mac) macs

-- 6.6: an entry's regular MAC
unfoldable pub mac_of : Entry → List ℕ
mac_of x = x.own.hop.mac

-- 6.6: the segment's id folded over the regular MACs of the entries below k
unfoldable pub id_below : Segment → ℕ → ℕ
id_below seg k = fold_macs seg.id (map mac_of (take k seg.entries))

-- 6.6: k = s in construction direction, else n - 1; with a peer and s = k, k + 1
unfoldable pub stop_at : Segment → Edge → ℕ
stop_at seg e =
    let k : ℕ = if e.construction then e.shortcut else length seg.entries - 1 in
    if is_peer_edge e && eqb e.shortcut k then k + 1 else k

-- ---- expiry

-- 1.5: how long a hop of so many units lives, in seconds
unfoldable pub life : ℕ → ℕ
life units = (units + 1) * 675 / 2

-- 6.8: the units of a hop
unfoldable pub units_of : HopField → ℕ
units_of h = h.units

-- ---- the path

module _ (seg : Segment) (e : Edge) where
  -- 6.3: hops and interfaces of an edge, in its direction
  unfoldable pub hops_of : List HopField
  hops_of = in_direction e.construction (map (hop_of seg e) (used_entries seg e))

  unfoldable pub interfaces_of : List PathInterface
  interfaces_of = in_direction e.construction (flat_map (interfaces_at seg e) (used_entries seg e))

  -- 6.4: the MTUs of an edge
  unfoldable pub mtus_of : List ℕ
  mtus_of = flat_map (mtus_at seg e) (used_entries seg e)

  -- 6.7: the info field of an edge
  unfoldable pub info_of : InfoField
  info_of =
      record {
        construction = e.construction;
        peering = is_peer_edge e;
        hops = hop_count seg e;
        id = id_below seg (stop_at seg e);
        timestamp = seg.timestamp;
      }

  -- 6.8: timestamp plus the life of the smallest units among the hops on the path, stopping at max_time
  unfoldable pub expiry_of : ℕ
  expiry_of = min max_time (seg.timestamp + life (least 255 (map units_of hops_of)))

-- 6.9: what a path has
pub record CombinedPath : Type 0 where
  pub infos : List InfoField
  pub hops : List HopField
  pub interfaces : List PathInterface
  pub mtu : ℕ
  pub expiry : ℕ

-- 6.9: an edge's segment
unfoldable pub segment_of : List ℕ → Edge → Segment
segment_of b e = segment_at b e.position

-- 6.9: what an edge of the book contributes
module _ (b : List ℕ) where
  unfoldable pub info_on : Edge → InfoField
  info_on e = info_of (segment_of b e) e

  unfoldable pub hops_on : Edge → List HopField
  hops_on e = hops_of (segment_of b e) e

  unfoldable pub interfaces_on : Edge → List PathInterface
  interfaces_on e = interfaces_of (segment_of b e) e

  unfoldable pub mtus_on : Edge → List ℕ
  mtus_on e = mtus_of (segment_of b e) e

  unfoldable pub expiry_on : Edge → ℕ
  expiry_on e = expiry_of (segment_of b e) e

  -- 6.9: the path of a chain: its MTU is the least of all, and so is its expiry
  unfoldable pub combined_path : List Edge → CombinedPath
  combined_path c =
      record {
        infos = map info_on c;
        hops = flat_map hops_on c;
        interfaces = flat_map interfaces_on c;
        mtu = least max_mtu (flat_map mtus_on c);
        expiry = least max_time (map expiry_on c);
      }

-- ---- Loop and Bare

-- 6.10: the interface is one of the AS
unfoldable pub is_of : IsdAsn → PathInterface → Bool
is_of a i = same_as i.local a

-- 6.10: how often an AS is shown
unfoldable pub times_of : IsdAsn → List PathInterface → ℕ
times_of a is = length (filter (is_of a) is)

-- 6.10: the interface's AS is shown more than twice
unfoldable pub is_crowded : List PathInterface → PathInterface → Bool
is_crowded is i = ltb 2 (times_of i.local is)

-- 6.10: the interfaces show one AS more than twice
unfoldable pub is_loop : List PathInterface → Bool
is_loop is = any (is_crowded is) is

-- 6.10: there are no interfaces
unfoldable pub is_bare : List PathInterface → Bool
is_bare [] = true
is_bare (i ∷ is) = false

-- 6.10: the answer to a chain: its path, or Loop, or Bare
unfoldable pub outcome : CombinedPath → Outcome
outcome p = if is_loop p.interfaces then Loop else if is_bare p.interfaces then Bare else Path

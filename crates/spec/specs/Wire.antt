-- The data draft's standard path, from its layout: its bytes read as infos and hops, written of a path record, and read into one. All numbers are
-- big-endian: the meta header is one of 32 bits, whose fields stand from its high end down.
-- Assumes nothing.
use Rattle.std.specs.Prelude.{ℕ, ◌+◌, ◌-◌, ◌*◌, ◌/◌, ◌%◌, ◌^◌, Bool, ◌||◌, ◌&&◌, not, length, get_or, replicate, eqb, ltb, if◌then◌else◌, Result, Ok, Err}
use mathlib.Core.List.{List, [], ◌∷◌, ◌++◌, map, flat_map}
use Rattle.spec.specs.declared.HopField.{HopField}
use Rattle.spec.specs.declared.InfoField.{InfoField}
use Rattle.spec.specs.declared.Refusal.{Refusal}
use Rattle.spec.specs.declared.Refusal.TheVariants.{Small, Wire}
use Rattle.spec.specs.Limits.{max_edges, max_entries, path_head_size, info_size, hop_size, interface_size, path_size, meta_size, wire_info_size, wire_hop_size, wire_size}
use Rattle.spec.specs.Basics.{any, range, sum, padded}
use Rattle.spec.specs.Octets.{be16, be32, octets2, octets4}
use Rattle.spec.specs.Book.{mac_at}
use Rattle.spec.specs.Assembly.{CombinedPath}
use Rattle.spec.specs.Records.{bit, path_octets, path_head_in}
use Rattle.spec.specs.Router.{infos_in, hops_in, walk_infos}
use Rattle.spec.specs.Answers.{refusals, refusal_number}

-- ---- the meta header: current info 2 bits, current hop 6, reserved 6, three segment lengths of 6

-- 15.1: bits 31 and 30
unfoldable pub current_info : List ℕ → ℕ
current_info w = be32 w 0 / 2 ^ 30

-- 15.1: bits 29 to 24
unfoldable pub current_hop : List ℕ → ℕ
current_hop w = be32 w 0 / 2 ^ 24 % 2 ^ 6

-- 15.1: bits 23 to 18
unfoldable pub meta_reserved : List ℕ → ℕ
meta_reserved w = be32 w 0 / 2 ^ 18 % 2 ^ 6

-- 15.1: of segment k, 0 to 2: bits 17 to 12, 11 to 6, 5 to 0
unfoldable pub segment_length : List ℕ → ℕ → ℕ
segment_length w k = be32 w 0 / 2 ^ (6 * (2 - k)) % 2 ^ 6

-- 15.1: how many segments are used: those before the first length of 0
unfoldable pub wire_info_count : List ℕ → ℕ
wire_info_count w =
    if eqb (segment_length w 0) 0 then 0 else if eqb (segment_length w 1) 0 then 1 else if eqb (segment_length w 2) 0 then 2 else 3

-- 15.1: the hops of all segments
unfoldable pub wire_hop_count : List ℕ → ℕ
wire_hop_count w = segment_length w 0 + segment_length w 1 + segment_length w 2

-- 15.1: as written: both indexes and what is reserved are 0, and so is the length of a segment that is not used
unfoldable pub hops_of_info : InfoField → ℕ
hops_of_info i = i.hops

unfoldable pub meta_number : List ℕ → ℕ
meta_number lengths = get_or lengths 0 0 * 2 ^ 12 + get_or lengths 1 0 * 2 ^ 6 + get_or lengths 2 0

unfoldable pub meta_octets : List InfoField → List ℕ
meta_octets is = octets4 (meta_number (map hops_of_info is))

-- ---- infos, after the meta header: flags (bit 0 construction, bit 1 peering, six reserved), a reserved byte, segment id 2, timestamp 4

-- 15.2: where info k starts
unfoldable pub wire_info_offset : ℕ → ℕ
wire_info_offset k = meta_size + wire_info_size * k

-- 15.2: info k; its hops are counted in the meta header
unfoldable pub wire_info : List ℕ → ℕ → InfoField
wire_info w k =
    let at : ℕ = wire_info_offset k in
    record {
      construction = eqb (get_or w at 0 % 2) 1;
      peering = eqb (get_or w at 0 / 2 % 2) 1;
      hops = segment_length w k;
      id = be16 w (at + 2);
      timestamp = be32 w (at + 4);
    }

unfoldable pub wire_infos_in : List ℕ → List InfoField
wire_infos_in w = map (wire_info w) (range 0 (wire_info_count w))

-- 15.2: as written
unfoldable pub wire_info_octets : InfoField → List ℕ
wire_info_octets i = ((bit i.construction + 2 * bit i.peering) ∷ 0 ∷ []) ++ octets2 i.id ++ octets4 i.timestamp

-- ---- hops, after the infos: flags (two alerts and six reserved bits), units 1, ingress 2, egress 2, MAC 6

-- 15.3: the hop at an offset
unfoldable pub wire_hop_at : List ℕ → ℕ → HopField
wire_hop_at w at = record { units = get_or w (at + 1) 0; ingress = be16 w (at + 2); egress = be16 w (at + 4); mac = mac_at w (at + 6) }

-- 15.3: where hop k starts, and that hop
unfoldable pub wire_hop_offset : List ℕ → ℕ → ℕ
wire_hop_offset w k = meta_size + wire_info_size * wire_info_count w + wire_hop_size * k

unfoldable pub wire_hop : List ℕ → ℕ → HopField
wire_hop w k = wire_hop_at w (wire_hop_offset w k)

unfoldable pub wire_hops_in : List ℕ → List HopField
wire_hops_in w = map (wire_hop w) (range 0 (wire_hop_count w))

-- 15.3: as written, with no flag
unfoldable pub wire_hop_octets : HopField → List ℕ
wire_hop_octets h = (0 ∷ h.units ∷ []) ++ octets2 h.ingress ++ octets2 h.egress ++ h.mac

-- ---- a whole path

-- 15.4: the meta header, the infos, the hops
unfoldable pub wire_octets : List InfoField → List HopField → List ℕ
wire_octets is hs = meta_octets is ++ flat_map wire_info_octets is ++ flat_map wire_hop_octets hs

-- 15.4: the router of 7.4, fed the bytes on the wire, nothing else
unfoldable pub wire_router_ids : List ℕ → List ℕ
wire_router_ids w = walk_infos (wire_infos_in w) (wire_hops_in w)

-- ---- the writer

-- 15.5: info k of a record has flags above 3, or a hop count outside 1 to the most entries
unfoldable pub is_wrong_info : List ℕ → ℕ → Bool
is_wrong_info r k =
    let at : ℕ = path_head_size + info_size * k in
    ltb 3 (get_or r at 0) || (eqb (get_or r (at + 1) 0) 0 || ltb max_entries (get_or r (at + 1) 0))

-- 15.5: the bytes that a record's three counts need
unfoldable pub record_needs : List ℕ → ℕ
record_needs r = path_head_size + info_size * (path_head_in r).infos + hop_size * (path_head_in r).hops + interface_size * (path_head_in r).interfaces

-- 15.5: no info or above three; fewer bytes than its counts need; a wrong info; hop counts that do not sum to the record's
unfoldable pub writer_refuses : List ℕ → Bool
writer_refuses r =
    eqb (path_head_in r).infos 0
    || (ltb max_edges (path_head_in r).infos
    || (ltb (length r) (record_needs r)
    || (any (is_wrong_info r) (range 0 (path_head_in r).infos)
    || not (eqb (sum (map hops_of_info (infos_in r))) (path_head_in r).hops))))

-- 15.5: what is written of a record
unfoldable pub wire_of : List ℕ → List ℕ
wire_of r = wire_octets (infos_in r) (hops_in r)

-- ---- the reader

-- 15.6: a segment's length above the most entries; the first one 0; or 0 before one that is not
unfoldable pub wrong_lengths : ℕ → ℕ → ℕ → Bool
wrong_lengths a b c = eqb a 0 || (ltb max_entries a || (ltb max_entries b || (ltb max_entries c || (eqb b 0 && not (eqb c 0)))))

-- 15.6: info k has a reserved bit that is not 0, in its flags or in the byte after them
unfoldable pub uses_reserved : List ℕ → ℕ → Bool
uses_reserved w k = let at : ℕ = wire_info_offset k in ltb 3 (get_or w at 0) || not (eqb (get_or w (at + 1) 0) 0)

-- 15.6: hop k has a flag
unfoldable pub is_flagged : List ℕ → ℕ → Bool
is_flagged w k = not (eqb (get_or w (wire_hop_offset w k) 0) 0)

-- 15.6: current indexes; what is reserved in the meta header; segment lengths; the length of all; reserved bits of infos; hop flags
unfoldable pub reader_refuses : List ℕ → Bool
reader_refuses w =
    not (eqb (current_info w) 0)
    || (not (eqb (current_hop w) 0)
    || (not (eqb (meta_reserved w) 0)
    || (wrong_lengths (segment_length w 0) (segment_length w 1) (segment_length w 2)
    || (not (eqb (length w) (wire_hop_offset w (wire_hop_count w)))
    || (any (uses_reserved w) (range 0 (wire_info_count w))
    || any (is_flagged w) (range 0 (wire_hop_count w)))))))

-- 15.6: a path of which only infos and hops are known
unfoldable pub plain_path : List InfoField → List HopField → CombinedPath
plain_path is hs = record { infos = is; hops = hs; interfaces = []; mtu = 0; expiry = 0 }

-- 15.6: its record: zeros but for the counts of infos and hops, infos and hops
unfoldable pub record_of : List ℕ → List ℕ
record_of w = path_octets (plain_path (wire_infos_in w) (wire_hops_in w))

-- ---- answers; `bytes` is the output's length

-- 9.1: the writer's and the reader's answer: the count of bytes, or a refusal
abbrev pub WireAnswer : Type 0
WireAnswer = Result ℕ Refusal

-- 9.8: the same as the number that is returned
abbrev pub wire_number : WireAnswer → ℕ
wire_number (Ok n) = n
wire_number (Err r) = refusals + refusal_number r

-- 9.1: an answer, and the bytes that the output then holds
abbrev pub Carried : Type 0
Carried = WireAnswer × List ℕ

-- 9.7: a refusal leaves the output zero
unfoldable pub refused_wire : ℕ → Refusal → Carried
refused_wire bytes r = (Err r, replicate bytes 0)

-- 15.7: Small where the output is under `room` bytes, then Wire where the input is refused; else the count of the bytes, and they
unfoldable pub carried : ℕ → ℕ → Bool → List ℕ → Carried
carried bytes room refused xs =
    if ltb bytes room then refused_wire bytes Small
    else if refused then refused_wire bytes Wire
    else (Ok (length xs), padded bytes xs)

-- 15.7: the writer and the reader, on every input
unfoldable pub writing : List ℕ → ℕ → Carried
writing r bytes = carried bytes wire_size (writer_refuses r) (wire_of r)

unfoldable pub reading : List ℕ → ℕ → Carried
reading w bytes = carried bytes path_size (reader_refuses w) (record_of w)

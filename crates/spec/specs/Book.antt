-- The book: its sizes and heads, the answer about it alone, and the segments that an accepted one holds.
-- Everything is read at its offset in the book's bytes: a name that ends in `_offset` is a place, one that ends in `_at` a value read at a place.
-- Assumes nothing.
use Rattle.std.specs.Prelude.{ℕ, zero, suc, ◌+◌, ◌*◌, Bool, not, List, [], ◌∷◌, map, length, get_or, take, drop, ltb, eqb, if◌then◌else◌, Result, Ok, Err, ⊤}
use Rattle.spec.specs.declared.IsdAsn.{IsdAsn}
use Rattle.spec.specs.declared.Sizes.{Sizes}
use Rattle.spec.specs.declared.Head.{Head}
use Rattle.spec.specs.declared.AsEntry.{AsEntry}
use Rattle.spec.specs.declared.PeerEntry.{PeerEntry}
use Rattle.spec.specs.declared.Refusal.{Refusal}
use Rattle.spec.specs.declared.Refusal.TheVariants.{Cut, Surplus, Oversize, Crowded, Long, Peers, Misfit, Twice}
use Rattle.spec.specs.Limits.{sizes_size, head_size, entry_size, peer_size, peer_count_offset, max_book, max_segments, max_entries, max_peers}
use Rattle.spec.specs.Basics.{any, range}
use Rattle.spec.specs.Octets.{be16, be32, be64}

-- ---- sizes and heads

-- 2.1: C and N, how many core and non-core segments
unfoldable pub cores : List ℕ → ℕ
cores b = be16 b 0

unfoldable pub non_cores : List ℕ → ℕ
non_cores b = be16 b 2

-- 2.1: B, the bytes of all bodies
unfoldable pub body_total : List ℕ → ℕ
body_total b = be32 b 4

-- 2.1: C + N
unfoldable pub segment_count : List ℕ → ℕ
segment_count b = cores b + non_cores b

-- 2.2: where the head of the segment at position k starts, and its four fields
unfoldable pub head_offset : ℕ → ℕ
head_offset k = sizes_size + head_size * k

unfoldable pub timestamp_at : List ℕ → ℕ → ℕ
timestamp_at b k = be32 b (head_offset k)

unfoldable pub id_at : List ℕ → ℕ → ℕ
id_at b k = be16 b (head_offset k + 4)

unfoldable pub entry_count_at : List ℕ → ℕ → ℕ
entry_count_at b k = be16 b (head_offset k + 6)

unfoldable pub body_length_at : List ℕ → ℕ → ℕ
body_length_at b k = be16 b (head_offset k + 8)

-- 2.1: the sizes as a whole
unfoldable pub sizes_at : List ℕ → Sizes
sizes_at b = record { cores = cores b; others = non_cores b; bodies = body_total b }

-- 2.2: a head as a whole
unfoldable pub head_at : List ℕ → ℕ → Head
head_at b k = record { timestamp = timestamp_at b k; id = id_at b k; entries = entry_count_at b k; body = body_length_at b k }

-- 2.3: the bytes of the bodies before position k
unfoldable pub lengths_below : List ℕ → ℕ → ℕ
lengths_below b zero = 0
lengths_below b (suc k) = lengths_below b k + body_length_at b k

-- 2.3: where the body at position k starts
unfoldable pub body_offset : List ℕ → ℕ → ℕ
body_offset b k = head_offset (segment_count b) + lengths_below b k

-- 2.1: the length that the sizes ask for
unfoldable pub whole_length : List ℕ → ℕ
whole_length b = head_offset (segment_count b) + body_total b

-- ---- entries: their places and ASes

-- 2.4: how many peers the entry at an offset has
unfoldable pub peer_count : List ℕ → ℕ → ℕ
peer_count b at = get_or b (at + peer_count_offset) 0

-- 2.4: past the entry at an offset and its peers
unfoldable pub entry_end : List ℕ → ℕ → ℕ
entry_end b at = at + entry_size + peer_size * peer_count b at

-- 1.3: the AS at an offset, and the same AS
unfoldable pub isd_asn_at : List ℕ → ℕ → IsdAsn
isd_asn_at b at = record { 0 = be64 b at }

unfoldable pub same_as : IsdAsn → IsdAsn → Bool
same_as a b = eqb a.0 b.0

-- 2.4: where entry i of a body that starts at an offset starts
unfoldable pub entry_offset : List ℕ → ℕ → ℕ → ℕ
entry_offset b at zero = at
entry_offset b at (suc i) = entry_end b (entry_offset b at i)

-- 2.4: the AS of entry i of the body at position k
unfoldable pub local_at : List ℕ → ℕ → ℕ → IsdAsn
local_at b k i = isd_asn_at b (entry_offset b (body_offset b k) i)

-- ---- the answer about the book alone

-- 9.1: accepted, or the refusal
abbrev pub Verdict : Type 0
Verdict = Result ⊤ Refusal

-- 9.4: the entries of a body from an offset on, as many as are left; the body ends at `end`. At each entry: Misfit if its own bytes are
-- lacking, Peers, Misfit if its peers are lacking; after the last entry Misfit if bytes remain
unfoldable pub entries_verdict : List ℕ → ℕ → ℕ → ℕ → Verdict
entries_verdict b end at zero = if ltb at end then Err Misfit else Ok tt
entries_verdict b end at (suc left) =
    let next = entries_verdict b end (entry_end b at) left in
    if ltb end (at + entry_size) then Err Misfit
    else if ltb max_peers (peer_count b at) then Err Peers
    else if ltb end (entry_end b at) then Err Misfit
    else next

-- 9.3: the first refusal of the two, if there is one
infixr 6 ◌and_then◌
abbrev pub ◌and_then◌ : Verdict → Verdict → Verdict
(Ok tt) and_then v = v
(Err r) and_then v = Err r

-- 9.4: entry j of the body at position k has the AS of entry i
unfoldable pub has_local_of : List ℕ → ℕ → ℕ → ℕ → Bool
has_local_of b k i j = same_as (local_at b k j) (local_at b k i)

-- 9.4: the AS of entry i stands earlier in the same segment: one of the entries before it has it
unfoldable pub stands_earlier : List ℕ → ℕ → ℕ → Bool
stands_earlier b k i = any (has_local_of b k i) (range 0 i)

-- 9.4: the AS of some entry does: the segment passes one AS twice
unfoldable pub passes_twice : List ℕ → ℕ → Bool
passes_twice b k = any (stands_earlier b k) (range 0 (entry_count_at b k))

-- 9.4: the body at position k: as many entries as its head says, in as many bytes; then Twice
unfoldable pub body_verdict : List ℕ → ℕ → Verdict
body_verdict b k =
    entries_verdict b (body_offset b k + body_length_at b k) (body_offset b k) (entry_count_at b k)
    and_then (if passes_twice b k then Err Twice else Ok tt)

-- 9.3: the bodies from position k on, as many as are left
unfoldable pub bodies_verdict : List ℕ → ℕ → ℕ → Verdict
bodies_verdict b k zero = Ok tt
bodies_verdict b k (suc left) = body_verdict b k and_then bodies_verdict b (k + 1) left

-- 9.3: the head at position k has an entry count above the limit
unfoldable pub is_long : List ℕ → ℕ → Bool
is_long b k = ltb max_entries (entry_count_at b k)

-- 9.3: some head of the book is
unfoldable pub too_long : List ℕ → Bool
too_long b = any (is_long b) (range 0 (segment_count b))

-- 2.7, 9.3: the tests in their order; a book is accepted where none fails
unfoldable pub verdict : List ℕ → Verdict
verdict b =
    if ltb max_book (length b) then Err Oversize
    else if ltb (length b) sizes_size then Err Cut
    else if ltb max_segments (segment_count b) then Err Crowded
    else if ltb (length b) (whole_length b) then Err Cut
    else if ltb (whole_length b) (length b) then Err Surplus
    else if too_long b then Err Long
    else if not (eqb (lengths_below b (segment_count b)) (body_total b)) then Err Misfit
    else bodies_verdict b 0 (segment_count b)

-- ---- the segments

-- 2.6: an entry with its peers
pub record Entry : Type 0 where
  pub own : AsEntry
  pub peers : List PeerEntry

-- 2.6: a segment, with the position at which it stands and its body's bytes, by which equal segments are told
pub record Segment : Type 0 where
  pub core : Bool
  pub position : ℕ
  pub timestamp : ℕ
  pub id : ℕ
  pub body : List ℕ
  pub entries : List Entry

-- 1.4: the MAC at an offset
unfoldable pub mac_at : List ℕ → ℕ → List ℕ
mac_at b at =
    get_or b at 0 ∷ get_or b (at + 1) 0 ∷ get_or b (at + 2) 0 ∷ get_or b (at + 3) 0 ∷ get_or b (at + 4) 0 ∷ get_or b (at + 5) 0 ∷ []

-- 2.4: the entry at an offset, without its peers
unfoldable pub as_entry_at : List ℕ → ℕ → AsEntry
as_entry_at b at =
    record {
      local = isd_asn_at b at;
      mtu = be32 b (at + 8);
      ingress_mtu = be16 b (at + 12);
      hop = record { ingress = be16 b (at + 14); egress = be16 b (at + 16); units = get_or b (at + 18) 0; mac = mac_at b (at + 19) };
      peers = peer_count b at;
    }

-- 2.5: the peer at an offset
unfoldable pub peer_entry_at : List ℕ → ℕ → PeerEntry
peer_entry_at b at =
    record {
      peer = isd_asn_at b at;
      interface = be16 b (at + 8);
      mtu = be16 b (at + 10);
      hop = record { units = get_or b (at + 12) 0; ingress = be16 b (at + 13); egress = be16 b (at + 15); mac = mac_at b (at + 17) };
    }

-- 2.5: where peer p of the entry at an offset starts
unfoldable pub peer_offset : ℕ → ℕ → ℕ
peer_offset at p = at + entry_size + peer_size * p

-- 2.5: peer p of the entry at an offset
unfoldable pub peer_of_entry_at : List ℕ → ℕ → ℕ → PeerEntry
peer_of_entry_at b at p = peer_entry_at b (peer_offset at p)

-- 2.4: the entry at an offset, with its peers
unfoldable pub entry_at : List ℕ → ℕ → Entry
entry_at b at =
    record {
      own = as_entry_at b at;
      peers = map (peer_of_entry_at b at) (range 0 (peer_count b at));
    }

-- 2.4: as many entries from an offset on
unfoldable pub entries_at : List ℕ → ℕ → ℕ → List Entry
entries_at b at zero = []
entries_at b at (suc left) = entry_at b at ∷ entries_at b (entry_end b at) left

-- 2.6: the segment at position k; cores come first
unfoldable pub segment_at : List ℕ → ℕ → Segment
segment_at b k =
    record {
      core = ltb k (cores b);
      position = k;
      timestamp = timestamp_at b k;
      id = id_at b k;
      body = take (body_length_at b k) (drop (body_offset b k) b);
      entries = entries_at b (body_offset b k) (entry_count_at b k);
    }

-- 2.6: all segments, by position
unfoldable pub segments : List ℕ → List Segment
segments b = map (segment_at b) (range 0 (segment_count b))

-- The stored edges of a book.
-- Assumes nothing.
use Rattle.std.specs.Prelude.{ℕ, ◌+◌, ◌-◌, Bool, false, ◌&&◌, not, length, get_or, ltb, eqb, if◌then◌else◌}
use mathlib.Core.List.{List, [], ◌∷◌, ◌++◌, flat_map, reverse}
use Rattle.spec.specs.declared.IsdAsn.{IsdAsn}
use Rattle.spec.specs.declared.Vertex.{Vertex}
use Rattle.spec.specs.declared.Vertex.TheVariants.{AS, Peering}
use Rattle.spec.specs.declared.Edge.{Edge}
use Rattle.spec.specs.declared.PeerEntry.{PeerEntry}
use Rattle.spec.specs.Basics.{any, filter, range, same_list}
use Rattle.spec.specs.Book.{Entry, Segment, same_as, segments, entry_at, peer_entry_at}

-- ---- vertices

-- 3.1: the same vertex
unfoldable pub same_vertex : Vertex → Vertex → Bool
same_vertex (AS a) (AS b) = same_as a b
same_vertex (AS a) (Peering l i p j) = false
same_vertex (Peering l i p j) (AS b) = false
same_vertex (Peering l i p j) (Peering l' i' p' j') = same_as l l' && eqb i i' && same_as p p' && eqb j j'

-- ---- a segment's entries

-- 2.6: what stands past the end of a list of entries or peers: all zero, as read in an empty book
unfoldable pub no_entry : Entry
no_entry = entry_at [] 0

unfoldable pub no_peer : PeerEntry
no_peer = peer_entry_at [] 0

-- 2.6: entry i of a segment, and its AS
unfoldable pub entry_of : Segment → ℕ → Entry
entry_of seg i = get_or seg.entries i no_entry

unfoldable pub as_of : Segment → ℕ → IsdAsn
as_of seg i = (entry_of seg i).own.local

-- 2.6: the leaf is the last entry
unfoldable pub leaf_as : Segment → IsdAsn
leaf_as seg = as_of seg (length seg.entries - 1)

-- 2.6: peer p of entry i
unfoldable pub peer_of : Segment → ℕ → ℕ → PeerEntry
peer_of seg i p = get_or (entry_of seg i).peers p no_peer

-- ---- insertions, in the order in which they are made

-- 3.6: an edge is in construction direction where it arrives at an AS equal to the leaf's
unfoldable pub in_construction : Segment → Vertex → Bool
in_construction seg dst = same_vertex dst (AS (leaf_as seg))

-- 3.2: an edge of the segment
unfoldable pub edge_of : Segment → Vertex → Vertex → ℕ → ℕ → ℕ → Edge
edge_of seg src dst weight shortcut peer =
    record {
      src = src;
      dst = dst;
      weight = weight;
      shortcut = shortcut;
      peer = peer;
      position = seg.position;
      construction = in_construction seg dst;
      core = seg.core;
    }

-- 3.3: first AS to last AS and back
unfoldable pub add_core_segment : Segment → List Edge
add_core_segment seg =
    let n : ℕ = length seg.entries in
    let first : Vertex = AS (as_of seg 0) in
    let last : Vertex = AS (leaf_as seg) in
    if eqb n 0 then []
    else edge_of seg first last (n - 1) 0 0 ∷ edge_of seg last first (n - 1) 0 0 ∷ []

-- 3.4: leaf AS to AS of i and back, where i is not the leaf
unfoldable pub as_insertions : Segment → ℕ → List Edge
as_insertions seg i =
    let n : ℕ = length seg.entries in
    let leaf : Vertex = AS (leaf_as seg) in
    let there : Vertex = AS (as_of seg i) in
    if eqb i (n - 1) then []
    else edge_of seg leaf there (n - 1 - i) i 0 ∷ edge_of seg there leaf (n - 1 - i) i 0 ∷ []

-- 3.5: leaf AS to the peering end of peer p of entry i, and from the other side's to the leaf AS
unfoldable pub peer_insertions : Segment → ℕ → ℕ → List Edge
peer_insertions seg i p =
    let n : ℕ = length seg.entries in
    let leaf : Vertex = AS (leaf_as seg) in
    let local : IsdAsn = as_of seg i in
    let link : PeerEntry = peer_of seg i p in
    edge_of seg leaf (Peering local link.hop.ingress link.peer link.interface) (n - i) i (p + 1)
    ∷ edge_of seg (Peering link.peer link.interface local link.hop.ingress) leaf (n - 1 - i) i (p + 1)
    ∷ []

-- 3.7: at an entry its AS edges before its peers', peers from 0 up
unfoldable pub entry_insertions : Segment → ℕ → List Edge
entry_insertions seg i = as_insertions seg i ++ flat_map (peer_insertions seg i) (range 0 (length (entry_of seg i).peers))

-- 3.7: entries from the leaf down
abbrev pub add_non_core_segment : Segment → List Edge
add_non_core_segment seg = flat_map (entry_insertions seg) (reverse (range 0 (length seg.entries)))

-- 3.7: by the segment's kind
unfoldable pub insertions : Segment → List Edge
insertions seg = if seg.core then add_core_segment seg else add_non_core_segment seg

-- ---- what stands

-- 3.7: the same start and the same end
unfoldable pub same_ends : Edge → Edge → Bool
same_ends e f = same_vertex e.src f.src && same_vertex e.dst f.dst

-- 3.7: of insertions with equal ends the last stands
unfoldable pub lasting : List Edge → List Edge
lasting [] = []
lasting (e ∷ later) = let rest = lasting later in if any (same_ends e) later then rest else e ∷ rest

-- 2.8: equal segments have one kind, timestamp, id and body
unfoldable pub same_bool : Bool → Bool → Bool
same_bool a b = if a then b else not b

unfoldable pub same_segment : Segment → Segment → Bool
same_segment s t =
    same_bool s.core t.core && eqb s.timestamp t.timestamp && eqb s.id t.id && same_list s.body t.body

-- 2.8: t is equal to s and stands at a lower position
unfoldable pub is_earlier : Segment → Segment → Bool
is_earlier s t = ltb t.position s.position && same_segment s t

-- 2.8: equal segments count once, under the first position
unfoldable pub is_first : List Segment → Segment → Bool
is_first segs s = not (any (is_earlier s) segs)

unfoldable pub firsts : List Segment → List Segment
firsts segs = filter (is_first segs) segs

-- 3.8: the stored edges of one segment
unfoldable pub stored_of : Segment → List Edge
stored_of seg = lasting (insertions seg)

-- 3.8: all stored edges of a book
unfoldable pub stored_edges : List ℕ → List Edge
stored_edges b = flat_map stored_of (firsts (segments b))

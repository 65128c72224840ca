-- A second table of computed cases, beside the first (Cases): what that leaves open of the book, the edges, the chains, their order, assembly and the
-- records. Beside each answer stands where it is from: the Rust (its `get_paths` and `path`, run unchanged), docs/SPECIFICATION.md, whose section is named, or worked out by hand.
-- The fingerprint's digest is SHA-256.
-- Assumes nothing.
use Prim.Native.Nat.{ℕ, ◌+◌, ◌-◌}
use mathlib.Core.Bool.{◌&&◌}
use mathlib.Core.List.{List, [], ◌∷◌, ◌++◌, map, flat_map}
use lib.ListN.{replicate}
use lib.Dec.{T}
use Rattle.sha256.specs.Words
use Rattle.sha256.specs.Constants
use Rattle.sha256.specs.Hash
use Rattle.sha256.specs.Message
use Rattle.spec.specs.Limits.{path_size}
use Rattle.spec.specs.Basics
use Rattle.spec.specs.Octets
use Rattle.spec.specs.Octets.{octets8}
use Rattle.spec.specs.Book
use Rattle.spec.specs.Edges
use Rattle.spec.specs.Chains
use Rattle.spec.specs.Order
use Rattle.spec.specs.Assembly
use Rattle.spec.specs.Records
use Rattle.spec.specs.Router
use Rattle.spec.specs.Answers
use Rattle.spec.specs.Printed
use Rattle.spec.specs.Routes
use Rattle.spec.proofs.PinnedCases
use Rattle.spec.proofs.RouteCases
use Rattle.spec.proofs.CasesForm.{entry, peer, Draft, segment, book, in_row, edge, solution, accept, list, route, print, assemble, hold, room, input, Case, case, sketch_of, answer, right, every, a0, a110, a111, a112, a113, a114, a200, b110, mac0, mac1, mac2, mac3}

-- ---- the books

-- a non-core of three entries: an ingress MTU and an ingress at each, fewer units below
abbrev pub short_book : List ℕ
short_book =
    book
    []
    (segment 1000 0x1234 (entry a110 1500 90 9 1 5 mac0 [] ∷ entry a111 1300 100 2 3 60 mac1 [] ∷ entry a112 1480 1400 4 0 63 mac2 [] ∷ [])
    ∷ [])

-- two peering links between a111, in the middle of a segment, and a113, a leaf; the hops of entry and peer differ in every field
abbrev pub peering_book : List ℕ
peering_book =
    book
    []
    (segment 2000 0x1111 (entry a110 1500 0 0 1 2 mac0 []
    ∷ entry a111 1490 100 2 3 1 mac1 (peer a113 21 1300 70 22 13 mac3 ∷ peer a113 31 0 71 32 13 mac2 ∷ [])
    ∷ entry a112 1480 1400 4 0 63 mac2 [] ∷ [])
    ∷ segment 1500 0x2222 (entry a114 1500 0 0 7 1 mac2 []
    ∷ entry a113 1200 80 8 9 1 mac3 (peer a111 22 1250 60 21 0 mac0 ∷ peer a111 32 1260 62 31 6 mac1 ∷ []) ∷ [])
    ∷ [])

-- a110, a111, a112, a113 in a row, with a core and a non-core segment between neighbours
abbrev pub line_book : List ℕ
line_book =
    book
    (segment 1 0x1 (entry a110 1500 0 0 1 63 mac0 [] ∷ entry a111 1500 0 2 0 63 mac1 [] ∷ [])
    ∷ segment 1 0x2 (entry a111 1500 0 0 3 63 mac0 [] ∷ entry a112 1500 0 4 0 63 mac1 [] ∷ [])
    ∷ segment 1 0x3 (entry a113 1500 0 0 5 63 mac0 [] ∷ entry a112 1500 0 6 0 63 mac1 [] ∷ [])
    ∷ [])
    (segment 1 0x4 (entry a110 1500 0 0 1 63 mac0 [] ∷ entry a111 1500 0 2 0 63 mac1 [] ∷ [])
    ∷ segment 1 0x5 (entry a111 1500 0 0 3 63 mac0 [] ∷ entry a112 1500 0 4 0 63 mac1 [] ∷ [])
    ∷ segment 1 0x6 (entry a113 1500 0 0 5 63 mac0 [] ∷ entry a112 1500 0 6 0 63 mac1 [] ∷ [])
    ∷ [])

-- up, core and down: the core has the least MTU, the last segment ends first
abbrev pub three_book : List ℕ
three_book =
    book
    (segment 5000 0x2000 (entry a110 9000 0 0 11 31 mac2 [] ∷ entry a111 9000 1280 12 0 30 mac3 [] ∷ [])
    ∷ [])
    (segment 6000 0x1000 (entry a110 1500 0 0 1 63 mac0 [] ∷ entry a112 1400 1350 2 0 63 mac1 [] ∷ [])
    ∷ segment 4000 0x3000 (entry a111 1500 0 0 3 20 mac1 [] ∷ entry a113 1290 1300 4 0 63 mac0 [] ∷ [])
    ∷ [])

-- two segments that cross at a111, in the middle of both
abbrev pub cross_book : List ℕ
cross_book =
    book
    []
    (segment 1000000 0xa0a (entry a110 1500 0 0 1 63 mac0 [] ∷ entry a111 1500 0 2 3 63 mac1 [] ∷ entry a112 1500 0 4 0 63 mac2 [] ∷ [])
    ∷ segment 1000000 0xb0b (entry a114 1500 0 0 5 63 mac3 [] ∷ entry a111 1500 0 6 7 63 mac0 [] ∷ entry a113 1500 0 8 0 63 mac1 [] ∷ [])
    ∷ [])

-- a110 to a112 by a111, at three of its interfaces or at two
abbrev pub loop_book : List ℕ
loop_book =
    book
    []
    (segment 1 0x1 (entry a111 1500 0 0 1 63 mac0 [] ∷ entry a110 1500 0 1 0 63 mac1 [] ∷ [])
    ∷ segment 1 0x2 (entry a111 1500 0 3 2 63 mac0 [] ∷ entry a112 1500 0 1 0 63 mac1 [] ∷ [])
    ∷ segment 1 0x3 (entry a111 1500 0 0 6 63 mac0 [] ∷ entry a112 1500 0 1 0 63 mac1 [] ∷ [])
    ∷ [])

-- no interfaces
abbrev pub bare_book : List ℕ
bare_book =
    book
    []
    (segment 1 0x1 (entry a110 1500 0 0 0 63 mac0 [] ∷ entry a111 1500 0 0 0 63 mac1 [] ∷ [])
    ∷ [])

-- the largest MTU, and an AS MTU of 65536; the most units, and the fewest a second before the last expiry
abbrev pub mtu_book : List ℕ
mtu_book =
    book
    []
    (segment 1 0x1 (entry a110 65535 0 0 1 255 mac0 [] ∷ entry a111 65535 0 2 0 255 mac1 [] ∷ [])
    ∷ segment 4294966957 0x1 (entry a110 65536 0 0 1 0 mac0 [] ∷ entry a112 65535 0 2 0 0 mac1 [] ∷ [])
    ∷ [])

-- the worked segment as a core, twice as a non-core, and with another id, timestamp and ingress MTU
abbrev pub repeated_book : List ℕ
repeated_book =
    book
    (segment 1000000 0x1234 (entry a110 1500 0 0 5 63 mac0 [] ∷ entry a111 1400 1350 7 0 63 mac1 [] ∷ [])
    ∷ [])
    (segment 1000000 0x1234 (entry a110 1500 0 0 5 63 mac0 [] ∷ entry a111 1400 1350 7 0 63 mac1 [] ∷ [])
    ∷ segment 1000000 0x1235 (entry a110 1500 0 0 5 63 mac0 [] ∷ entry a111 1400 1350 7 0 63 mac1 [] ∷ [])
    ∷ segment 1000000 0x1234 (entry a110 1500 0 0 5 63 mac0 [] ∷ entry a111 1400 1350 7 0 63 mac1 [] ∷ [])
    ∷ segment 1000001 0x1234 (entry a110 1500 0 0 5 63 mac0 [] ∷ entry a111 1400 1350 7 0 63 mac1 [] ∷ [])
    ∷ segment 1000000 0x1234 (entry a110 1500 0 0 5 63 mac0 [] ∷ entry a111 1400 1351 7 0 63 mac1 [] ∷ [])
    ∷ [])

-- two entries, each with peers of equal ends: two of the first, which stand before another, three of the second
abbrev pub equal_peers_book : List ℕ
equal_peers_book =
    book
    []
    (segment 1 0x1 (entry a110 1500 0 0 1 63 mac0 (peer a113 5 1500 63 6 0 mac0 ∷ peer a113 5 1500 63 6 1 mac1 ∷ peer a114 5 1500 63 6 2 mac1 ∷ [])
    ∷ entry a111 1500 0 2 3 63 mac1 []
    ∷ entry b110 1500 0 4 5 63 mac2 (peer a113 5 1500 63 6 0 mac2 ∷ peer a113 5 1500 63 6 0 mac2 ∷ peer a113 5 1500 63 6 0 mac3 ∷ [])
    ∷ entry a112 1500 0 6 0 63 mac3 [] ∷ [])
    ∷ segment 1 0x2 (entry a113 1500 0 0 0 63 mac0 (peer a110 6 1500 63 5 0 mac0 ∷ peer b110 6 1500 63 5 0 mac0 ∷ []) ∷ [])
    ∷ [])

-- cores of one entry at both ends and at a112 between them, segments from one to the other, and a non-core of one entry
abbrev pub self_book : List ℕ
self_book =
    book
    (segment 1 0x1 (entry a110 1500 0 0 1 63 mac0 [] ∷ [])
    ∷ segment 1 0x2 (entry a111 1500 0 0 1 63 mac0 [] ∷ [])
    ∷ segment 1 0x3 (entry a112 1500 0 0 1 63 mac0 [] ∷ [])
    ∷ [])
    (segment 1 0x4 (entry a110 1500 0 0 1 63 mac0 [] ∷ entry a111 1500 0 2 0 63 mac1 [] ∷ [])
    ∷ segment 1 0x5 (entry a112 1500 0 0 3 63 mac0 [] ∷ entry a110 1500 0 4 0 63 mac1 [] ∷ [])
    ∷ segment 1 0x6 (entry a112 1500 0 0 5 63 mac0 [] ∷ entry a111 1500 0 6 0 63 mac1 [] ∷ [])
    ∷ segment 1 0x7 (entry a110 1500 0 0 3 63 mac0 [] ∷ [])
    ∷ [])

-- two segments with no entries, and one whose leaf is AS 0
abbrev pub empty_book : List ℕ
empty_book =
    book
    (segment 1 0x1 []
    ∷ [])
    (segment 1 0x2 []
    ∷ segment 1 0x3 (entry a110 1500 0 0 1 63 mac0 [] ∷ entry a0 1500 0 2 0 63 mac1 [] ∷ [])
    ∷ [])

-- a core of three entries
abbrev pub core_book : List ℕ
core_book =
    book
    (segment 1 0x1 (entry a110 1500 0 0 1 63 mac0 [] ∷ entry a111 1500 0 2 3 63 mac1 [] ∷ entry a112 1500 0 4 0 63 mac2 [] ∷ [])
    ∷ [])
    []

-- a peering link, and after it peers whose ends differ from it in one number
abbrev pub ends_book : List ℕ
ends_book =
    book
    []
    (segment 1 0x1 (entry a110 1500 0 0 0 63 mac0 (peer a111 7 1500 63 5 0 mac0 ∷ []) ∷ [])
    ∷ segment 1 0x2 (entry a111 1500 0 0 0 63 mac0 (peer a110 5 1500 63 7 0 mac0 ∷ peer a114 5 1500 63 7 0 mac0 ∷ peer a110 6 1500 63 7 0 mac0 ∷ peer a110 5 1500 63 8 0 mac0 ∷ []) ∷ [])
    ∷ segment 1 0x3 (entry a113 1500 0 0 0 63 mac0 (peer a110 5 1500 63 7 0 mac0 ∷ []) ∷ [])
    ∷ [])

-- a peering link of a core segment
abbrev pub core_peers_book : List ℕ
core_peers_book =
    book
    (segment 1 0x1 (entry a110 1500 0 0 0 63 mac0 (peer a111 2 1500 63 1 0 mac0 ∷ []) ∷ [])
    ∷ [])
    (segment 1 0x2 (entry a111 1500 0 0 0 63 mac0 (peer a110 1 1500 63 2 0 mac0 ∷ []) ∷ [])
    ∷ [])

-- from a111 to a112 by a110 itself, whole or at shortcut 1, or over its peering link at shortcut 1, at equal cost
abbrev pub none_book : List ℕ
none_book =
    book
    []
    (segment 1 0x1 (entry a110 1500 0 0 7 63 mac0 [] ∷ entry a111 1500 0 8 0 63 mac1 [] ∷ [])
    ∷ segment 1 0x2 (entry a114 1500 0 0 9 63 mac2 []
    ∷ entry a110 1500 0 9 1 63 mac0 (peer a112 4 1500 63 3 1 mac0 ∷ [])
    ∷ entry a111 1500 0 2 0 63 mac1 [] ∷ [])
    ∷ segment 1 0x3 (entry a110 1500 0 0 5 63 mac0 [] ∷ entry a112 1500 0 6 0 63 mac1 (peer a110 3 1500 63 4 0 mac0 ∷ []) ∷ [])
    ∷ [])

-- two segments from a111 to a110 of cost 1, the second at shortcut 1
abbrev pub shortcuts_book : List ℕ
shortcuts_book =
    book
    []
    (segment 1 0x1 (entry a110 1500 0 0 1 63 mac0 [] ∷ entry a111 1500 0 2 0 63 mac1 [] ∷ [])
    ∷ segment 1 0x2 (entry a113 1500 0 0 3 63 mac2 [] ∷ entry a110 1500 0 4 5 63 mac0 [] ∷ entry a111 1500 0 6 0 63 mac1 [] ∷ [])
    ∷ [])

-- from a112 to a110 by one segment of cost 3, by one of cost 2, and by two of cost 1
abbrev pub costs_book : List ℕ
costs_book =
    book
    []
    (segment 1 0x1 (entry a110 1500 0 0 1 63 mac0 []
    ∷ entry a113 1500 0 2 3 63 mac1 []
    ∷ entry a114 1500 0 4 5 63 mac1 []
    ∷ entry a112 1500 0 6 0 63 mac1 [] ∷ [])
    ∷ segment 1 0x2 (entry a110 1500 0 0 7 63 mac0 [] ∷ entry a111 1500 0 8 0 63 mac1 [] ∷ [])
    ∷ segment 1 0x3 (entry a111 1500 0 0 9 63 mac0 [] ∷ entry a112 1500 0 1 0 63 mac1 [] ∷ [])
    ∷ segment 1 0x4 (entry a110 1500 0 0 2 63 mac0 [] ∷ entry a114 1500 0 3 4 63 mac1 [] ∷ entry a112 1500 0 5 0 63 mac1 [] ∷ [])
    ∷ [])

-- two segments that differ only in id, then two of which the second has the larger shortcut
abbrev pub twins_book : List ℕ
twins_book =
    book
    []
    (segment 1 0x1 (entry a110 1500 0 0 1 63 mac0 [] ∷ entry a111 1500 0 2 0 63 mac1 [] ∷ [])
    ∷ segment 1 0x2 (entry a110 1500 0 0 1 63 mac0 [] ∷ entry a111 1500 0 2 0 63 mac1 [] ∷ [])
    ∷ segment 1 0x3 (entry a110 1500 0 0 3 63 mac0 [] ∷ entry a112 1500 0 4 0 63 mac1 [] ∷ [])
    ∷ segment 1 0x4 (entry a113 1500 0 0 5 63 mac2 [] ∷ entry a110 1500 0 6 7 63 mac0 [] ∷ entry a112 1500 0 8 0 63 mac1 [] ∷ [])
    ∷ [])

-- two chains of which the first edges differ in shortcut and the second in peer, the other way round
abbrev pub keys_book : List ℕ
keys_book =
    book
    []
    (segment 1 0x1 (entry a110 1500 0 0 1 63 mac0 (peer a113 11 1500 63 12 0 mac0 ∷ []) ∷ entry a111 1500 0 2 0 63 mac1 [] ∷ [])
    ∷ segment 1 0x2 (entry a114 1500 0 0 3 63 mac2 []
    ∷ entry a110 1500 0 4 5 63 mac0 (peer a113 21 1500 63 22 0 mac0 ∷ [])
    ∷ entry a111 1500 0 6 0 63 mac1 [] ∷ [])
    ∷ segment 1 0x3 (entry a113 1500 0 0 0 63 mac0 (peer a110 12 1500 63 11 0 mac0 ∷ peer a110 22 1500 63 21 0 mac0 ∷ []) ∷ [])
    ∷ [])

-- two segments of equal cost that only the fingerprint orders; without its hash, or with another input, the order would be the other
abbrev pub fingerprint_book : List ℕ
fingerprint_book =
    book
    []
    (segment 1 0x1 (entry a110 1500 0 0 21 63 mac0 [] ∷ entry a111 1500 0 15 30 63 mac1 [] ∷ [])
    ∷ segment 1 0x1 (entry a110 1500 0 8 10 63 mac0 [] ∷ entry a111 1500 0 6 35 63 mac1 [] ∷ [])
    ∷ [])

-- the worked book, byte by byte: sizes, head, two entries
abbrev pub worked_bytes : List ℕ
worked_bytes =
    0 ∷ 0 ∷ 0 ∷ 1 ∷ 0 ∷ 0 ∷ 0 ∷ 0x34
    ∷ 0 ∷ 0x0f ∷ 0x42 ∷ 0x40 ∷ 0x12 ∷ 0x34 ∷ 0 ∷ 2 ∷ 0 ∷ 0x34
    ∷ 0 ∷ 1 ∷ 0xff ∷ 0 ∷ 0 ∷ 0 ∷ 1 ∷ 0x10 ∷ 0 ∷ 0 ∷ 5 ∷ 0xdc ∷ 0 ∷ 0 ∷ 0 ∷ 0 ∷ 0 ∷ 5 ∷ 0x3f ∷ 1 ∷ 2 ∷ 3 ∷ 4 ∷ 5 ∷ 6 ∷ 0
    ∷ 0 ∷ 1 ∷ 0xff ∷ 0 ∷ 0 ∷ 0 ∷ 1 ∷ 0x11 ∷ 0 ∷ 0 ∷ 5 ∷ 0x78 ∷ 5 ∷ 0x46 ∷ 0 ∷ 7 ∷ 0 ∷ 0 ∷ 0x3f ∷ 0x0a ∷ 0x0b ∷ 0x0c ∷ 0x0d ∷ 0x0e ∷ 0x0f ∷ 0 ∷ []

-- a book with these sizes and heads, and what follows the heads; each number below 256
abbrev pub sized : ℕ → ℕ → ℕ → List (List ℕ) → List ℕ → List ℕ
sized cores others total heads bodies = 0 ∷ cores ∷ 0 ∷ others ∷ 0 ∷ 0 ∷ 0 ∷ total ∷ (flat_map (λ h. h) heads ++ bodies)

-- a head: entry count and body length; the rest is zero
abbrev pub says : ℕ → ℕ → List ℕ
says entries bytes = replicate 7 0 ++ (entries ∷ 0 ∷ bytes ∷ [])

-- an entry of zeros but for its peer count
abbrev pub blank : ℕ → List ℕ
blank peers = replicate 25 0 ++ (peers ∷ [])

-- an entry of zeros but for its AS
abbrev pub at_as : ℕ → List ℕ
at_as local = octets8 local ++ replicate 18 0

-- a segment through these ASes, and a book of one: core and non-core
abbrev pub through : List ℕ → Draft
through ases = segment 0 0 (map at_as ases)

abbrev pub core_through : List ℕ → List ℕ
core_through ases = book (through ases ∷ []) []

abbrev pub non_core_through : List ℕ → List ℕ
non_core_through ases = book [] (through ases ∷ [])

-- a segment that passes AS 0 twice, and what its head says
abbrev pub twice : List ℕ
twice = blank 0 ++ blank 0

abbrev pub says_twice : List ℕ
says_twice = says 2 52

-- the worked segment, and after it one that passes a110 twice
abbrev pub worked_twice : List ℕ
worked_twice =
    book
    []
    (segment 1000000 0x1234 (entry a110 1500 0 0 5 63 mac0 [] ∷ entry a111 1400 1350 7 0 63 mac1 [] ∷ [])
    ∷ segment 1 0x1 (entry a110 1500 0 0 1 63 mac0 [] ∷ entry a112 1500 0 2 3 63 mac1 [] ∷ entry a110 1500 0 4 0 63 mac2 [] ∷ [])
    ∷ [])

-- AS 0 and one bit, each of the 64 in its turn
abbrev pub bits_book : List ℕ
bits_book =
    book
    []
    (through (0 ∷ 1 ∷ 2 ∷ 4 ∷ 8 ∷ 0x10 ∷ 0x20 ∷ 0x40 ∷ 0x80 ∷ 0x100 ∷ 0x200 ∷ 0x400 ∷ 0x800 ∷ 0x1000 ∷ 0x2000 ∷ 0x4000 ∷ [])
    ∷ through (0 ∷ 0x8000 ∷ 0x1_0000 ∷ 0x2_0000 ∷ 0x4_0000 ∷ 0x8_0000 ∷ 0x10_0000 ∷ 0x20_0000 ∷ 0x40_0000 ∷ 0x80_0000 ∷ 0x100_0000 ∷ 0x200_0000 ∷ 0x400_0000 ∷ 0x800_0000 ∷ 0x1000_0000 ∷ 0x2000_0000 ∷ [])
    ∷ through (0 ∷ 0x4000_0000 ∷ 0x8000_0000 ∷ 0x1_0000_0000 ∷ 0x2_0000_0000 ∷ 0x4_0000_0000 ∷ 0x8_0000_0000 ∷ 0x10_0000_0000 ∷ 0x20_0000_0000 ∷ 0x40_0000_0000 ∷ 0x80_0000_0000 ∷ 0x100_0000_0000 ∷ 0x200_0000_0000 ∷ 0x400_0000_0000 ∷ 0x800_0000_0000 ∷ 0x1000_0000_0000 ∷ [])
    ∷ through (0 ∷ 0x2000_0000_0000 ∷ 0x4000_0000_0000 ∷ 0x8000_0000_0000 ∷ 0x1_0000_0000_0000 ∷ 0x2_0000_0000_0000 ∷ 0x4_0000_0000_0000 ∷ 0x8_0000_0000_0000 ∷ 0x10_0000_0000_0000 ∷ 0x20_0000_0000_0000 ∷ 0x40_0000_0000_0000 ∷ 0x80_0000_0000_0000 ∷ 0x100_0000_0000_0000 ∷ 0x200_0000_0000_0000 ∷ 0x400_0000_0000_0000 ∷ 0x800_0000_0000_0000 ∷ [])
    ∷ through (0 ∷ 0x1000_0000_0000_0000 ∷ 0x2000_0000_0000_0000 ∷ 0x4000_0000_0000_0000 ∷ 0x8000_0000_0000_0000 ∷ [])
    ∷ [])

-- ---- the tables

-- where the fingerprint's input orders as its digest does, or does not matter: the digest hands its input back
pub table : List Case
table =
    -- 8.1, 8.3, 10.6: the worked list as bytes, its record, and its path in 1538 bytes: the number, then counts, MTU, expiry; first and last AS; infos; hops; interface ASes; ids
    case (list worked_bytes a111 a110 20) (1 ∷ 0 ∷ 1 ∷ 1 ∷ replicate 17 0)
    ∷ case (assemble worked_bytes a111 a110 (0 ∷ 1 ∷ 1 ∷ replicate 13 0) 1538) (0
    ∷ 1 ∷ 2 ∷ 2 ∷ 0 ∷ 5 ∷ 0x46 ∷ 0 ∷ 0x0f ∷ 0x96 ∷ 0xa0
    ∷ 0 ∷ 1 ∷ 0xff ∷ 0 ∷ 0 ∷ 0 ∷ 1 ∷ 0x11 ∷ 0 ∷ 1 ∷ 0xff ∷ 0 ∷ 0 ∷ 0 ∷ 1 ∷ 0x10
    ∷ 0 ∷ 2 ∷ 0x13 ∷ 0x36 ∷ 0 ∷ 0x0f ∷ 0x42 ∷ 0x40
    ∷ 0x3f ∷ 0 ∷ 7 ∷ 0 ∷ 0 ∷ 0x0a ∷ 0x0b ∷ 0x0c ∷ 0x0d ∷ 0x0e ∷ 0x0f
    ∷ 0x3f ∷ 0 ∷ 0 ∷ 0 ∷ 5 ∷ 1 ∷ 2 ∷ 3 ∷ 4 ∷ 5 ∷ 6
    ∷ 0 ∷ 1 ∷ 0xff ∷ 0 ∷ 0 ∷ 0 ∷ 1 ∷ 0x11
    ∷ 0 ∷ 1 ∷ 0xff ∷ 0 ∷ 0 ∷ 0 ∷ 1 ∷ 0x10
    ∷ 0 ∷ 7 ∷ 0 ∷ 5
    ∷ replicate 1462 0)
    ∷ case (assemble worked_bytes a110 a111 (0 ∷ 1 ∷ 1 ∷ replicate 4 0 ++ (1 ∷ replicate 8 0)) (path_size + 2)) (0
    ∷ 1 ∷ 2 ∷ 2 ∷ 0 ∷ 5 ∷ 0x46 ∷ 0 ∷ 0x0f ∷ 0x96 ∷ 0xa0
    ∷ 0 ∷ 1 ∷ 0xff ∷ 0 ∷ 0 ∷ 0 ∷ 1 ∷ 0x10 ∷ 0 ∷ 1 ∷ 0xff ∷ 0 ∷ 0 ∷ 0 ∷ 1 ∷ 0x11
    ∷ 1 ∷ 2 ∷ 0x12 ∷ 0x34 ∷ 0 ∷ 0x0f ∷ 0x42 ∷ 0x40
    ∷ 0x3f ∷ 0 ∷ 0 ∷ 0 ∷ 5 ∷ 1 ∷ 2 ∷ 3 ∷ 4 ∷ 5 ∷ 6
    ∷ 0x3f ∷ 0 ∷ 7 ∷ 0 ∷ 0 ∷ 0x0a ∷ 0x0b ∷ 0x0c ∷ 0x0d ∷ 0x0e ∷ 0x0f
    ∷ 0 ∷ 1 ∷ 0xff ∷ 0 ∷ 0 ∷ 0 ∷ 1 ∷ 0x10
    ∷ 0 ∷ 1 ∷ 0xff ∷ 0 ∷ 0 ∷ 0 ∷ 1 ∷ 0x11
    ∷ 0 ∷ 5 ∷ 0 ∷ 7
    ∷ replicate (path_size - 74) 0)
    -- 1.3: the same AS number in another ISD is another AS
    ∷ case (list worked_bytes b110 a111 16) (0 ∷ replicate 16 0)
    ∷ case (list worked_bytes a111 b110 16) (0 ∷ replicate 16 0)
    -- the Rust: to the shortcut, against and in construction direction: its ingress MTU does not count, its ingress is not shown, units below it do not count
    ∷ case (print (input short_book a112 a111)) (Printed.ascii "solutions 1 paths 1\n1 cost 1 segments 1 mtu 1300 expiry 21587 hops 2\ninfo 0 193d 1000\nif 0001ff0000000112 4\nif 0001ff0000000111 3\n")
    ∷ case (print (input short_book a111 a112)) (Printed.ascii "solutions 1 paths 1\n1 cost 1 segments 1 mtu 1300 expiry 21587 hops 2\ninfo 1 1336 1000\nif 0001ff0000000111 3\nif 0001ff0000000112 4\n")
    -- the Rust: whole: they do. Edges join the leaf and another entry only: from entry 0 to entry 1 the segment is used twice
    ∷ case (print (input short_book a112 a110)) (Printed.ascii "solutions 1 paths 1\n1 cost 2 segments 1 mtu 90 expiry 3025 hops 3\ninfo 0 193d 1000\nif 0001ff0000000112 4\nif 0001ff0000000111 3\nif 0001ff0000000111 2\nif 0001ff0000000110 1\nif 0001ff0000000110 9\n")
    ∷ case (print (input short_book a110 a112)) (Printed.ascii "solutions 1 paths 1\n1 cost 2 segments 1 mtu 90 expiry 3025 hops 3\ninfo 1 1234 1000\nif 0001ff0000000110 9\nif 0001ff0000000110 1\nif 0001ff0000000111 2\nif 0001ff0000000111 3\nif 0001ff0000000112 4\n")
    ∷ case (list short_book a110 a111 16) (1 ∷ solution 3 (edge 0 0 0 1 ∷ edge 0 1 0 0 ∷ []))
    -- the Rust: the bytes of the path to the shortcut
    ∷ case (assemble short_book a112 a111 (solution 1 (edge 0 1 0 0 ∷ [])) path_size) (0
    ∷ 1 ∷ 2 ∷ 2 ∷ 0 ∷ 5 ∷ 0x14 ∷ 0 ∷ 0 ∷ 0x54 ∷ 0x53
    ∷ 0 ∷ 1 ∷ 0xff ∷ 0 ∷ 0 ∷ 0 ∷ 1 ∷ 0x12 ∷ 0 ∷ 1 ∷ 0xff ∷ 0 ∷ 0 ∷ 0 ∷ 1 ∷ 0x11
    ∷ 0 ∷ 2 ∷ 0x19 ∷ 0x3d ∷ 0 ∷ 0 ∷ 3 ∷ 0xe8
    ∷ 0x3f ∷ 0 ∷ 4 ∷ 0 ∷ 0 ∷ 0x20 ∷ 0x31 ∷ 0x42 ∷ 0x53 ∷ 0x64 ∷ 0x75
    ∷ 0x3c ∷ 0 ∷ 2 ∷ 0 ∷ 3 ∷ 0x0a ∷ 0x0b ∷ 0x0c ∷ 0x0d ∷ 0x0e ∷ 0x0f
    ∷ 0 ∷ 1 ∷ 0xff ∷ 0 ∷ 0 ∷ 0 ∷ 1 ∷ 0x12
    ∷ 0 ∷ 1 ∷ 0xff ∷ 0 ∷ 0 ∷ 0 ∷ 1 ∷ 0x11
    ∷ 0 ∷ 4 ∷ 0 ∷ 3
    ∷ replicate (path_size - 76) 0)
    -- the ids held: the router rule by hand over the Rust's paths
    ∷ case (hold short_book a112 a111 (solution 1 (edge 0 1 0 0 ∷ []))) (0x193d ∷ 0x1336 ∷ [])
    ∷ case (hold short_book a111 a112 (solution 1 (edge 0 1 0 1 ∷ []))) (0x1336 ∷ 0x193d ∷ [])
    ∷ case (hold short_book a112 a110 (solution 2 (edge 0 0 0 0 ∷ []))) (0x193d ∷ 0x1336 ∷ 0x1234 ∷ [])
    ∷ case (hold short_book a110 a112 (solution 2 (edge 0 0 0 1 ∷ []))) (0x1234 ∷ 0x1336 ∷ 0x193d ∷ [])
    -- the Rust: over peering links: peer MTUs count, 0 too, and no ingress MTU of the entry; the peer's interfaces are shown; the peer's units count; peer 0 before 1
    ∷ case (print (input peering_book a112 a113)) (Printed.ascii "solutions 2 paths 2\n1 cost 2 segments 2 mtu 1200 expiry 22087 hops 3\ninfo 2 1a18 2000\ninfo 3 8484 1500\nif 0001ff0000000112 4\nif 0001ff0000000111 13\nif 0001ff0000000111 22\nif 0001ff0000000113 21\n2 cost 2 segments 2 mtu 0 expiry 22762 hops 3\ninfo 2 1a18 2000\ninfo 3 8484 1500\nif 0001ff0000000112 4\nif 0001ff0000000111 13\nif 0001ff0000000111 32\nif 0001ff0000000113 31\nif 0001ff0000000113 6\n")
    ∷ case (print (input peering_book a113 a112)) (Printed.ascii "solutions 2 paths 2\n1 cost 2 segments 2 mtu 1200 expiry 22087 hops 3\ninfo 2 8484 1500\ninfo 3 1a18 2000\nif 0001ff0000000113 21\nif 0001ff0000000111 22\nif 0001ff0000000111 13\nif 0001ff0000000112 4\n2 cost 2 segments 2 mtu 0 expiry 22762 hops 3\ninfo 2 8484 1500\ninfo 3 1a18 2000\nif 0001ff0000000113 6\nif 0001ff0000000113 31\nif 0001ff0000000111 32\nif 0001ff0000000111 13\nif 0001ff0000000112 4\n")
    ∷ case (list peering_book a112 a113 32) (2 ∷ (solution 2 (edge 0 1 1 0 ∷ edge 1 1 1 1 ∷ []) ++ solution 2 (edge 0 1 2 0 ∷ edge 1 1 2 1 ∷ [])))
    -- the Rust: the bytes of the second path
    ∷ case (assemble peering_book a113 a112 (solution 2 (edge 1 1 2 0 ∷ edge 0 1 2 1 ∷ [])) path_size) (0
    ∷ 2 ∷ 3 ∷ 5 ∷ 0 ∷ 0 ∷ 0 ∷ 0 ∷ 0 ∷ 0x58 ∷ 0xea
    ∷ 0 ∷ 1 ∷ 0xff ∷ 0 ∷ 0 ∷ 0 ∷ 1 ∷ 0x13 ∷ 0 ∷ 1 ∷ 0xff ∷ 0 ∷ 0 ∷ 0 ∷ 1 ∷ 0x12
    ∷ 2 ∷ 1 ∷ 0x84 ∷ 0x84 ∷ 0 ∷ 0 ∷ 5 ∷ 0xdc
    ∷ 3 ∷ 2 ∷ 0x1a ∷ 0x18 ∷ 0 ∷ 0 ∷ 7 ∷ 0xd0
    ∷ 0x3e ∷ 0 ∷ 0x1f ∷ 0 ∷ 6 ∷ 0x0a ∷ 0x0b ∷ 0x0c ∷ 0x0d ∷ 0x0e ∷ 0x0f
    ∷ 0x47 ∷ 0 ∷ 0x20 ∷ 0 ∷ 0x0d ∷ 0x20 ∷ 0x31 ∷ 0x42 ∷ 0x53 ∷ 0x64 ∷ 0x75
    ∷ 0x3f ∷ 0 ∷ 4 ∷ 0 ∷ 0 ∷ 0x20 ∷ 0x31 ∷ 0x42 ∷ 0x53 ∷ 0x64 ∷ 0x75
    ∷ 0 ∷ 1 ∷ 0xff ∷ 0 ∷ 0 ∷ 0 ∷ 1 ∷ 0x13
    ∷ 0 ∷ 1 ∷ 0xff ∷ 0 ∷ 0 ∷ 0 ∷ 1 ∷ 0x13
    ∷ 0 ∷ 1 ∷ 0xff ∷ 0 ∷ 0 ∷ 0 ∷ 1 ∷ 0x11
    ∷ 0 ∷ 1 ∷ 0xff ∷ 0 ∷ 0 ∷ 0 ∷ 1 ∷ 0x11
    ∷ 0 ∷ 1 ∷ 0xff ∷ 0 ∷ 0 ∷ 0 ∷ 1 ∷ 0x12
    ∷ 0 ∷ 6 ∷ 0 ∷ 0x1f ∷ 0 ∷ 0x20 ∷ 0 ∷ 0x0d ∷ 0 ∷ 4
    ∷ replicate (path_size - 125) 0)
    -- the ids held: the router rule by hand over the Rust's paths
    ∷ case (hold peering_book a112 a113 (solution 2 (edge 0 1 1 0 ∷ edge 1 1 1 1 ∷ []))) (0x1a18 ∷ 0x1a18 ∷ 0x8484 ∷ [])
    ∷ case (hold peering_book a113 a112 (solution 2 (edge 1 1 1 0 ∷ edge 0 1 1 1 ∷ []))) (0x8484 ∷ 0x1a18 ∷ 0x1a18 ∷ [])
    ∷ case (hold peering_book a113 a112 (solution 2 (edge 1 1 2 0 ∷ edge 0 1 2 1 ∷ []))) (0x8484 ∷ 0x1a18 ∷ 0x1a18 ∷ [])
    -- the Rust: of the three edges in a row only non-core, core, non-core is a chain; of two edges all but core, core; of one both
    ∷ case (list line_book a110 a113 16) (1 ∷ solution 3 (edge 3 0 0 1 ∷ edge 1 0 0 1 ∷ edge 5 0 0 0 ∷ []))
    ∷ case (list line_book a110 a112 48) (3 ∷ (solution 2 (edge 0 0 0 1 ∷ edge 4 0 0 1 ∷ []) ++ solution 2 (edge 3 0 0 1 ∷ edge 1 0 0 1 ∷ []) ++ solution 2 (edge 3 0 0 1 ∷ edge 4 0 0 1 ∷ [])))
    ∷ case (list line_book a110 a111 32) (2 ∷ (solution 1 (edge 0 0 0 1 ∷ []) ++ solution 1 (edge 3 0 0 1 ∷ [])))
    -- the Rust: a chain may pass the source again
    ∷ case (list line_book a111 a110 48) (3 ∷ (solution 1 (edge 0 0 0 0 ∷ []) ++ solution 1 (edge 3 0 0 0 ∷ []) ++ solution 3 (edge 4 0 0 1 ∷ edge 1 0 0 0 ∷ edge 3 0 0 0 ∷ [])))
    -- the Rust: up, core, down; MTU and expiry are the least over the edges
    ∷ case (print (input three_book a112 a113)) (Printed.ascii "solutions 1 paths 1\n1 cost 3 segments 3 mtu 1280 expiry 11087 hops 6\ninfo 0 1102 6000\ninfo 1 2000 5000\ninfo 1 3000 4000\nif 0001ff0000000112 2\nif 0001ff0000000110 1\nif 0001ff0000000110 11\nif 0001ff0000000111 12\nif 0001ff0000000111 3\nif 0001ff0000000113 4\n")
    ∷ case (print (input three_book a113 a112)) (Printed.ascii "solutions 1 paths 1\n1 cost 3 segments 3 mtu 1280 expiry 11087 hops 6\ninfo 0 3a0b 4000\ninfo 0 0031 5000\ninfo 1 1000 6000\nif 0001ff0000000113 4\nif 0001ff0000000111 3\nif 0001ff0000000111 12\nif 0001ff0000000110 11\nif 0001ff0000000110 1\nif 0001ff0000000112 2\n")
    -- the Rust: non-core and core, core and non-core
    ∷ case (print (input three_book a112 a111)) (Printed.ascii "solutions 1 paths 1\n1 cost 2 segments 2 mtu 1280 expiry 15462 hops 4\ninfo 0 1102 6000\ninfo 1 2000 5000\nif 0001ff0000000112 2\nif 0001ff0000000110 1\nif 0001ff0000000110 11\nif 0001ff0000000111 12\n")
    ∷ case (print (input three_book a110 a113)) (Printed.ascii "solutions 1 paths 1\n1 cost 2 segments 2 mtu 1280 expiry 11087 hops 4\ninfo 1 2000 5000\ninfo 1 3000 4000\nif 0001ff0000000110 11\nif 0001ff0000000111 12\nif 0001ff0000000111 3\nif 0001ff0000000113 4\n")
    -- the Rust: a core against construction, after and before a non-core
    ∷ case (list three_book a113 a110 16) (1 ∷ solution 2 (edge 2 0 0 0 ∷ edge 0 0 0 0 ∷ []))
    ∷ case (list three_book a111 a112 16) (1 ∷ solution 2 (edge 0 0 0 0 ∷ edge 1 0 0 1 ∷ []))
    -- the Rust: the bytes of the path of three edges, and the ids held
    ∷ case (assemble three_book a112 a113 (solution 3 (edge 1 0 0 0 ∷ edge 0 0 0 1 ∷ edge 2 0 0 1 ∷ [])) path_size) (0
    ∷ 3 ∷ 6 ∷ 6 ∷ 0 ∷ 5 ∷ 0 ∷ 0 ∷ 0 ∷ 0x2b ∷ 0x4f
    ∷ 0 ∷ 1 ∷ 0xff ∷ 0 ∷ 0 ∷ 0 ∷ 1 ∷ 0x12 ∷ 0 ∷ 1 ∷ 0xff ∷ 0 ∷ 0 ∷ 0 ∷ 1 ∷ 0x13
    ∷ 0 ∷ 2 ∷ 0x11 ∷ 2 ∷ 0 ∷ 0 ∷ 0x17 ∷ 0x70
    ∷ 1 ∷ 2 ∷ 0x20 ∷ 0 ∷ 0 ∷ 0 ∷ 0x13 ∷ 0x88
    ∷ 1 ∷ 2 ∷ 0x30 ∷ 0 ∷ 0 ∷ 0 ∷ 0x0f ∷ 0xa0
    ∷ 0x3f ∷ 0 ∷ 2 ∷ 0 ∷ 0 ∷ 0x0a ∷ 0x0b ∷ 0x0c ∷ 0x0d ∷ 0x0e ∷ 0x0f
    ∷ 0x3f ∷ 0 ∷ 0 ∷ 0 ∷ 1 ∷ 1 ∷ 2 ∷ 3 ∷ 4 ∷ 5 ∷ 6
    ∷ 0x1f ∷ 0 ∷ 0 ∷ 0 ∷ 0x0b ∷ 0x20 ∷ 0x31 ∷ 0x42 ∷ 0x53 ∷ 0x64 ∷ 0x75
    ∷ 0x1e ∷ 0 ∷ 0x0c ∷ 0 ∷ 0 ∷ 0x86 ∷ 0x97 ∷ 0xa8 ∷ 0xb9 ∷ 0xca ∷ 0xdb
    ∷ 0x14 ∷ 0 ∷ 0 ∷ 0 ∷ 3 ∷ 0x0a ∷ 0x0b ∷ 0x0c ∷ 0x0d ∷ 0x0e ∷ 0x0f
    ∷ 0x3f ∷ 0 ∷ 4 ∷ 0 ∷ 0 ∷ 1 ∷ 2 ∷ 3 ∷ 4 ∷ 5 ∷ 6
    ∷ 0 ∷ 1 ∷ 0xff ∷ 0 ∷ 0 ∷ 0 ∷ 1 ∷ 0x12
    ∷ 0 ∷ 1 ∷ 0xff ∷ 0 ∷ 0 ∷ 0 ∷ 1 ∷ 0x10
    ∷ 0 ∷ 1 ∷ 0xff ∷ 0 ∷ 0 ∷ 0 ∷ 1 ∷ 0x10
    ∷ 0 ∷ 1 ∷ 0xff ∷ 0 ∷ 0 ∷ 0 ∷ 1 ∷ 0x11
    ∷ 0 ∷ 1 ∷ 0xff ∷ 0 ∷ 0 ∷ 0 ∷ 1 ∷ 0x11
    ∷ 0 ∷ 1 ∷ 0xff ∷ 0 ∷ 0 ∷ 0 ∷ 1 ∷ 0x13
    ∷ 0 ∷ 2 ∷ 0 ∷ 1 ∷ 0 ∷ 0x0b ∷ 0 ∷ 0x0c ∷ 0 ∷ 3 ∷ 0 ∷ 4
    ∷ replicate (path_size - 176) 0)
    ∷ case (hold three_book a112 a113 (solution 3 (edge 1 0 0 0 ∷ edge 0 0 0 1 ∷ edge 2 0 0 1 ∷ []))) (0x1102 ∷ 0x1000 ∷ 0x2000 ∷ 0x0031 ∷ 0x3000 ∷ 0x3a0b ∷ [])
    ∷ case (hold three_book a113 a112 (solution 3 (edge 2 0 0 0 ∷ edge 0 0 0 0 ∷ edge 1 0 0 1 ∷ []))) (0x3a0b ∷ 0x3000 ∷ 0x0031 ∷ 0x2000 ∷ 0x1000 ∷ 0x1102 ∷ [])
    -- the Rust: two segments that cross
    ∷ case (print (input cross_book a112 a113)) (Printed.ascii "solutions 1 paths 1\n1 cost 2 segments 2 mtu 1500 expiry 1021600 hops 4\ninfo 0 0103 1000000\ninfo 1 8d9c 1000000\nif 0001ff0000000112 4\nif 0001ff0000000111 3\nif 0001ff0000000111 7\nif 0001ff0000000113 8\n")
    ∷ case (hold cross_book a112 a113 (solution 2 (edge 0 1 0 0 ∷ edge 1 1 0 1 ∷ []))) (0x0103 ∷ 0x0b08 ∷ 0x8d9c ∷ 0x8c9e ∷ [])
    -- the Rust: an AS at three interfaces: loop; at two: a path
    ∷ case (print (input loop_book a110 a112)) (Printed.ascii "solutions 2 paths 1\n1 cost 2 segments 2 mtu 1500 expiry 21601 hops 4\ninfo 0 0103 1\ninfo 1 0003 1\nif 0001ff0000000110 1\nif 0001ff0000000111 1\nif 0001ff0000000111 6\nif 0001ff0000000112 1\n2 cost 2 segments 2 loop\n")
    ∷ case (assemble loop_book a110 a112 (solution 2 (edge 0 0 0 0 ∷ edge 1 0 0 1 ∷ [])) path_size) (1 ∷ replicate path_size 0)
    -- 6.10: no interfaces: bare
    ∷ case (print (input bare_book a111 a110)) (Printed.ascii "solutions 1 paths 0\n1 cost 1 segments 1 bare\n")
    ∷ case (assemble bare_book a111 a110 (solution 1 (edge 0 0 0 0 ∷ [])) path_size) (2 ∷ replicate path_size 0)
    -- the Rust: MTU 65535, units 255; MTU 0, expiry 4294967294
    ∷ case (print (input mtu_book a111 a110)) (Printed.ascii "solutions 1 paths 1\n1 cost 1 segments 1 mtu 65535 expiry 86401 hops 2\ninfo 0 0103 1\nif 0001ff0000000111 2\nif 0001ff0000000110 1\n")
    ∷ case (print (input mtu_book a112 a110)) (Printed.ascii "solutions 1 paths 1\n1 cost 1 segments 1 mtu 0 expiry 4294967294 hops 2\ninfo 0 0103 4294966957\nif 0001ff0000000112 2\nif 0001ff0000000110 1\n")
    -- the Rust: a repeated segment counts once, under the first position; another kind, id, timestamp or body makes another
    ∷ case (list repeated_book a111 a110 80) (5 ∷ (solution 1 (edge 0 0 0 0 ∷ []) ++ solution 1 (edge 1 0 0 0 ∷ []) ++ solution 1 (edge 2 0 0 0 ∷ []) ++ solution 1 (edge 4 0 0 0 ∷ []) ++ solution 1 (edge 5 0 0 0 ∷ [])))
    -- the Rust: of equal peers of one entry the larger index stands
    ∷ case (list equal_peers_book a112 a113 32) (2 ∷ (solution 2 (edge 0 2 3 0 ∷ edge 1 0 2 1 ∷ []) ++ solution 4 (edge 0 0 2 0 ∷ edge 1 0 1 1 ∷ [])))
    ∷ case (list equal_peers_book a113 a112 32) (2 ∷ (solution 2 (edge 1 0 2 0 ∷ edge 0 2 3 1 ∷ []) ++ solution 4 (edge 1 0 1 0 ∷ edge 0 0 2 1 ∷ [])))
    -- the Rust: an edge from an AS to itself, of a core with one entry, may stand first and in the midst, and not last
    ∷ case (list self_book a110 a111 64) (4 ∷ (solution 1 (edge 3 0 0 1 ∷ []) ++ solution 1 (edge 0 0 0 1 ∷ edge 3 0 0 1 ∷ []) ++ solution 2 (edge 4 0 0 0 ∷ edge 5 0 0 1 ∷ []) ++ solution 2 (edge 4 0 0 0 ∷ edge 2 0 0 1 ∷ edge 5 0 0 1 ∷ [])))
    ∷ case (list self_book a111 a110 64) (4 ∷ (solution 1 (edge 3 0 0 0 ∷ []) ++ solution 1 (edge 1 0 0 1 ∷ edge 3 0 0 0 ∷ []) ++ solution 2 (edge 5 0 0 0 ∷ edge 4 0 0 1 ∷ []) ++ solution 2 (edge 5 0 0 0 ∷ edge 2 0 0 1 ∷ edge 4 0 0 1 ∷ [])))
    -- 4.3, 9.6: equal ends: no solution; a record then is a stranger's
    ∷ case (list self_book a110 a110 16) (0 ∷ replicate 16 0)
    ∷ case (assemble self_book a110 a110 (solution 0 (edge 0 0 0 1 ∷ [])) path_size) (65546 ∷ replicate path_size 0)
    -- the Rust: segments with no entries have no edges
    ∷ case (list empty_book a0 a110 16) (1 ∷ solution 1 (edge 2 0 0 0 ∷ []))
    -- the Rust: a core joins its first and last AS only
    ∷ case (list core_book a110 a112 16) (1 ∷ solution 2 (edge 0 0 0 1 ∷ []))
    ∷ case (list core_book a112 a110 16) (1 ∷ solution 2 (edge 0 0 0 0 ∷ []))
    ∷ case (list core_book a112 a111 16) (0 ∷ replicate 16 0)
    ∷ case (list core_book a110 a111 16) (0 ∷ replicate 16 0)
    -- the Rust: peering ends are equal in all four; peers of a core give no edges
    ∷ case (list ends_book a110 a111 16) (1 ∷ solution 1 (edge 0 0 1 0 ∷ edge 1 0 1 1 ∷ []))
    ∷ case (list ends_book a110 a113 16) (0 ∷ replicate 16 0)
    ∷ case (list core_peers_book a110 a111 16) (0 ∷ replicate 16 0)
    -- the Rust: none before peer 0 at equal cost, whatever the shortcut
    ∷ case (list none_book a111 a112 48) (3 ∷ (solution 2 (edge 1 1 0 0 ∷ edge 2 0 0 1 ∷ []) ++ solution 2 (edge 0 0 0 0 ∷ edge 2 0 0 1 ∷ []) ++ solution 2 (edge 1 1 1 0 ∷ edge 2 1 1 1 ∷ [])))
    -- the Rust: the larger shortcut first
    ∷ case (list shortcuts_book a111 a110 32) (2 ∷ (solution 1 (edge 1 1 0 0 ∷ []) ++ solution 1 (edge 0 0 0 0 ∷ [])))
    -- the Rust: the cheaper first, and at equal cost fewer edges
    ∷ case (list costs_book a112 a110 48) (3 ∷ (solution 2 (edge 3 0 0 0 ∷ []) ++ solution 2 (edge 2 0 0 0 ∷ edge 1 0 0 0 ∷ []) ++ solution 3 (edge 0 0 0 0 ∷ [])))
    -- the Rust, ties by 5.3: the second edge decides before the positions do
    ∷ case (list twins_book a111 a112 64) (4 ∷ (solution 2 (edge 0 0 0 0 ∷ edge 3 1 0 1 ∷ []) ++ solution 2 (edge 1 0 0 0 ∷ edge 3 1 0 1 ∷ []) ++ solution 2 (edge 0 0 0 0 ∷ edge 2 0 0 1 ∷ []) ++ solution 2 (edge 1 0 0 0 ∷ edge 2 0 0 1 ∷ [])))
    -- the Rust: all keys of the first edge before those of the second
    ∷ case (list keys_book a111 a113 32) (2 ∷ (solution 2 (edge 1 1 1 0 ∷ edge 2 0 2 1 ∷ []) ++ solution 2 (edge 0 0 1 0 ∷ edge 2 0 1 1 ∷ [])))
    -- 9.5, 9.7: more solutions than slots: 8; bytes after the last record are zero
    ∷ case (list costs_book a112 a110 47) (65544 ∷ replicate 47 0)
    ∷ case (list costs_book a112 a110 63) (3 ∷ (solution 2 (edge 3 0 0 0 ∷ []) ++ solution 2 (edge 2 0 0 0 ∷ edge 1 0 0 0 ∷ []) ++ solution 3 (edge 0 0 0 0 ∷ []) ++ replicate 15 0))
    -- 8.2: slots
    ∷ case (room 0) (0 ∷ [])
    ∷ case (room 15) (0 ∷ [])
    ∷ case (room 16) (1 ∷ [])
    ∷ case (room 31) (1 ∷ [])
    ∷ case (room 65535) (4095 ∷ [])
    ∷ case (room 65536) (4096 ∷ [])
    ∷ case (room 65552) (4096 ∷ [])
    ∷ case (room 1000000) (4096 ∷ [])
    -- 9.2 to 9.4: answers 1 to 7 and 11, and their order. 1: under 8 bytes, a head or a byte of the bodies is lacking
    ∷ case (accept (replicate 0 0)) (1 ∷ [])
    ∷ case (accept (0 ∷ 65 ∷ replicate 5 0)) (1 ∷ [])
    ∷ case (accept (0 ∷ 1 ∷ replicate 15 0)) (1 ∷ [])
    ∷ case (accept (0 ∷ 0 ∷ 0 ∷ 1 ∷ replicate 13 0)) (1 ∷ [])
    ∷ case (accept (replicate 7 0 ++ (1 ∷ []))) (1 ∷ [])
    ∷ case (accept (replicate 5 0 ++ (1 ∷ 0 ∷ 0 ∷ []))) (1 ∷ [])
    ∷ case (accept (replicate 4 0 ++ (1 ∷ 0 ∷ 0 ∷ 0 ∷ []))) (1 ∷ [])
    -- 2: a byte more; also where a head has 17 entries
    ∷ case (accept (replicate 9 0)) (2 ∷ [])
    ∷ case (accept (sized 0 1 0 (says 17 0 ∷ []) (0 ∷ []))) (2 ∷ [])
    -- and 1 where a byte is lacking there
    ∷ case (accept (sized 0 1 1 (says 17 0 ∷ []) [])) (1 ∷ [])
    -- 3: 61441 bytes, before 4, 1 and 2; 61440 zeros are a surplus
    ∷ case (accept (0 ∷ 65 ∷ replicate 61439 0)) (3 ∷ [])
    ∷ case (accept (replicate 61440 0)) (2 ∷ [])
    -- 4: C and N together; before 2
    ∷ case (accept (0 ∷ 0 ∷ 0 ∷ 65 ∷ replicate 4 0)) (4 ∷ [])
    ∷ case (accept (0 ∷ 32 ∷ 0 ∷ 33 ∷ replicate 4 0)) (4 ∷ [])
    ∷ case (accept (1 ∷ 0 ∷ replicate 6 0)) (4 ∷ [])
    ∷ case (accept (0 ∷ 0 ∷ 1 ∷ replicate 5 0)) (4 ∷ [])
    ∷ case (accept (0 ∷ 65 ∷ replicate 657 0)) (4 ∷ [])
    -- accepted: a core, and a non-core, with no entries
    ∷ case (accept (0 ∷ 1 ∷ replicate 16 0)) (0 ∷ [])
    ∷ case (accept (0 ∷ 0 ∷ 0 ∷ 1 ∷ replicate 14 0)) (0 ∷ [])
    -- 5: over all heads, before the sum and every body
    ∷ case (accept (sized 0 2 26 (says 1 26 ∷ says 17 0 ∷ []) (blank 5))) (5 ∷ [])
    ∷ case (accept (sized 0 2 26 (says 1 25 ∷ says 17 0 ∷ []) (blank 0))) (5 ∷ [])
    ∷ case (accept (sized 1 0 0 (says 17 0 ∷ []) [])) (5 ∷ [])
    -- 5: 256 entries
    ∷ case (accept (sized 0 1 0 ((replicate 6 0 ++ (1 ∷ 0 ∷ 0 ∷ 0 ∷ [])) ∷ []) [])) (5 ∷ [])
    -- 7: the lengths do not sum to B, here where every body is filled; before 6
    ∷ case (accept (sized 0 1 27 (says 1 26 ∷ []) (blank 0 ++ (0 ∷ [])))) (7 ∷ [])
    ∷ case (accept (sized 0 1 142 (says 1 141 ∷ []) (blank 5 ++ replicate 116 0))) (7 ∷ [])
    -- 7: they sum to more, where a body past the end would be filled; a length of 4096
    ∷ case (accept (sized 0 1 0 (says 1 26 ∷ []) [])) (7 ∷ [])
    ∷ case (accept (sized 0 1 0 ((replicate 8 0 ++ (16 ∷ 0 ∷ [])) ∷ []) [])) (7 ∷ [])
    -- 7: a body one byte short, one byte long, an empty one with a byte; the second body one byte long
    ∷ case (accept (sized 0 1 25 (says 1 25 ∷ []) (replicate 25 0))) (7 ∷ [])
    ∷ case (accept (sized 0 1 27 (says 1 27 ∷ []) (blank 0 ++ (0 ∷ [])))) (7 ∷ [])
    ∷ case (accept (sized 0 1 1 (says 0 1 ∷ []) (0 ∷ []))) (7 ∷ [])
    ∷ case (accept (sized 0 2 53 (says 1 26 ∷ says 1 27 ∷ []) (blank 0 ++ blank 0 ++ (0 ∷ [])))) (7 ∷ [])
    -- 6: five peers, also where their bytes are lacking, at the second entry and at the first of two; six; four pass
    ∷ case (accept (sized 0 1 141 (says 1 141 ∷ []) (blank 5 ++ replicate 115 0))) (6 ∷ [])
    ∷ case (accept (sized 0 1 26 (says 1 26 ∷ []) (blank 5))) (6 ∷ [])
    ∷ case (accept (sized 0 1 52 (says 2 52 ∷ []) (blank 0 ++ blank 5))) (6 ∷ [])
    ∷ case (accept (sized 0 1 52 (says 2 52 ∷ []) (blank 5 ++ blank 0))) (6 ∷ [])
    ∷ case (accept (sized 0 1 26 (says 1 26 ∷ []) (blank 6))) (6 ∷ [])
    ∷ case (accept (sized 0 1 118 (says 1 118 ∷ []) (blank 4 ++ replicate 92 0))) (0 ∷ [])
    -- 7: a peer one byte short or long; an entry that lacks a byte, before its peer count is looked at
    ∷ case (accept (sized 0 1 48 (says 1 48 ∷ []) (blank 1 ++ replicate 22 0))) (7 ∷ [])
    ∷ case (accept (sized 0 1 50 (says 1 50 ∷ []) (blank 1 ++ replicate 24 0))) (7 ∷ [])
    ∷ case (accept (sized 0 2 52 (says 1 25 ∷ says 1 27 ∷ []) (replicate 25 0 ++ (5 ∷ []) ++ replicate 26 0))) (7 ∷ [])
    -- bodies by position
    ∷ case (accept (sized 1 1 53 (says 1 27 ∷ says 1 26 ∷ []) (blank 0 ++ (0 ∷ []) ++ blank 5))) (7 ∷ [])
    ∷ case (accept (sized 1 1 53 (says 1 26 ∷ says 1 27 ∷ []) (blank 5 ++ blank 0 ++ (0 ∷ [])))) (6 ∷ [])
    -- 9.4: 11, by hand: two entries of one AS, the smallest such books: of a non-core and of a core
    ∷ case (accept (sized 0 1 52 (says_twice ∷ []) twice)) (11 ∷ [])
    ∷ case (accept (sized 1 0 52 (says_twice ∷ []) twice)) (11 ∷ [])
    -- one entry passes, of a core too, and one of AS 0
    ∷ case (accept (non_core_through (1 ∷ []))) (0 ∷ [])
    ∷ case (accept (core_through (1 ∷ []))) (0 ∷ [])
    ∷ case (accept (sized 0 1 26 (says 1 26 ∷ []) (blank 0))) (0 ∷ [])
    ∷ case (accept (sized 1 0 26 (says 1 26 ∷ []) (blank 0))) (0 ∷ [])
    -- 11: entries that are not neighbours: the first and the last of three, of 16
    ∷ case (accept (non_core_through (1 ∷ 2 ∷ 1 ∷ []))) (11 ∷ [])
    ∷ case (accept (core_through (1 ∷ 2 ∷ 1 ∷ []))) (11 ∷ [])
    ∷ case (accept (non_core_through (in_row a200 15 ++ (a200 ∷ [])))) (11 ∷ [])
    ∷ case (accept (core_through (in_row a200 15 ++ (a200 ∷ [])))) (11 ∷ [])
    -- 16 different ones pass
    ∷ case (accept (non_core_through (in_row a200 16))) (0 ∷ [])
    ∷ case (accept (core_through (in_row a200 16))) (0 ∷ [])
    -- 11: the first of three with the second, the leaf with the one before, the leaf of four with the second
    ∷ case (accept (non_core_through (1 ∷ 1 ∷ 2 ∷ []))) (11 ∷ [])
    ∷ case (accept (core_through (1 ∷ 1 ∷ 2 ∷ []))) (11 ∷ [])
    ∷ case (accept (non_core_through (2 ∷ 1 ∷ 1 ∷ []))) (11 ∷ [])
    ∷ case (accept (core_through (2 ∷ 1 ∷ 1 ∷ []))) (11 ∷ [])
    ∷ case (accept (non_core_through (2 ∷ 1 ∷ 3 ∷ 1 ∷ []))) (11 ∷ [])
    -- 11: neither the first nor the leaf: neighbours, others, the last two before the leaf of 16
    ∷ case (accept (non_core_through (2 ∷ 1 ∷ 1 ∷ 3 ∷ []))) (11 ∷ [])
    ∷ case (accept (core_through (2 ∷ 1 ∷ 1 ∷ 3 ∷ []))) (11 ∷ [])
    ∷ case (accept (non_core_through (2 ∷ 1 ∷ 3 ∷ 1 ∷ 4 ∷ []))) (11 ∷ [])
    ∷ case (accept (core_through (2 ∷ 1 ∷ 3 ∷ 1 ∷ 4 ∷ []))) (11 ∷ [])
    ∷ case (accept (non_core_through (in_row a200 14 ++ in_row (a200 + 13) 2))) (11 ∷ [])
    -- 1.3: one AS number in two ISDs, two AS numbers in one ISD: no repeat
    ∷ case (accept (non_core_through (a110 ∷ b110 ∷ []))) (0 ∷ [])
    ∷ case (accept (core_through (a110 ∷ b110 ∷ []))) (0 ∷ [])
    ∷ case (accept (non_core_through (a110 ∷ a111 ∷ []))) (0 ∷ [])
    -- nor ASes that differ in one bit: the highest, the lowest, any
    ∷ case (accept (non_core_through (a110 ∷ 0x8001_ff00_0000_0110 ∷ []))) (0 ∷ [])
    ∷ case (accept (non_core_through (b110 ∷ 0x0002_ff00_0000_0111 ∷ []))) (0 ∷ [])
    ∷ case (accept bits_book) (0 ∷ [])
    -- one AS in two segments: no repeat; nor are two equal segments
    ∷ case (accept (book [] (through (1 ∷ []) ∷ through (1 ∷ []) ∷ []))) (0 ∷ [])
    ∷ case (accept (book (through (1 ∷ 2 ∷ []) ∷ []) (through (2 ∷ 1 ∷ []) ∷ through (3 ∷ 1 ∷ []) ∷ []))) (0 ∷ [])
    ∷ case (accept (book (through (1 ∷ 2 ∷ []) ∷ through (1 ∷ 2 ∷ []) ∷ []) (through (1 ∷ 2 ∷ []) ∷ through (1 ∷ 2 ∷ []) ∷ []))) (0 ∷ [])
    -- a peer of an entry's AS, its own or another's, is no entry; entries are looked for past the peers
    ∷ case (accept (book [] (segment 0 0 (entry 1 0 0 0 0 0 mac0 (peer 1 0 0 0 0 0 mac0 ∷ peer 2 0 0 0 0 0 mac0 ∷ []) ∷ entry 2 0 0 0 0 0 mac0 (peer 1 0 0 0 0 0 mac0 ∷ []) ∷ []) ∷ []))) (0 ∷ [])
    ∷ case (accept (book [] (segment 0 0 (entry 1 0 0 0 0 0 mac0 (peer 2 0 0 0 0 0 mac0 ∷ peer 2 0 0 0 0 0 mac0 ∷ []) ∷ entry 1 0 0 0 0 0 mac0 [] ∷ []) ∷ []))) (11 ∷ [])
    ∷ case (accept (book [] (segment 0 0 (entry 1 0 0 0 0 0 mac0 (peer 3 0 0 0 0 0 mac0 ∷ []) ∷ entry 2 0 0 0 0 0 mac0 (replicate 4 (peer 3 0 0 0 0 0 mac0)) ∷ entry 1 0 0 0 0 0 mac0 [] ∷ []) ∷ []))) (11 ∷ [])
    -- 11 of the second body, of the first non-core, of the last of 64
    ∷ case (accept (book [] (through (1 ∷ 2 ∷ []) ∷ through (1 ∷ 1 ∷ []) ∷ []))) (11 ∷ [])
    ∷ case (accept (book (through (1 ∷ 2 ∷ []) ∷ []) (through (1 ∷ 1 ∷ []) ∷ through (1 ∷ 2 ∷ []) ∷ []))) (11 ∷ [])
    ∷ case (accept (sized 3 61 52 (replicate 63 (says 0 0) ++ (says_twice ∷ [])) twice)) (11 ∷ [])
    -- an earlier body's 11 before a later body's 6, and before its 7
    ∷ case (accept (sized 0 2 78 (says_twice ∷ says 1 26 ∷ []) (twice ++ blank 5))) (11 ∷ [])
    ∷ case (accept (sized 1 1 78 (says_twice ∷ says 1 26 ∷ []) (twice ++ blank 5))) (11 ∷ [])
    ∷ case (accept (sized 0 2 79 (says_twice ∷ says 1 27 ∷ []) (twice ++ blank 0 ++ (0 ∷ [])))) (11 ∷ [])
    ∷ case (accept (sized 0 2 77 (says_twice ∷ says 1 25 ∷ []) (twice ++ replicate 25 0))) (11 ∷ [])
    ∷ case (accept (sized 0 2 78 (says_twice ∷ says 1 26 ∷ []) (twice ++ blank 1))) (11 ∷ [])
    -- a later body's 11 after an earlier body's 6, and after its 7
    ∷ case (accept (sized 0 2 78 (says 1 26 ∷ says_twice ∷ []) (blank 5 ++ twice))) (6 ∷ [])
    ∷ case (accept (sized 1 1 78 (says 1 26 ∷ says_twice ∷ []) (blank 5 ++ twice))) (6 ∷ [])
    ∷ case (accept (sized 0 2 79 (says 1 27 ∷ says_twice ∷ []) (blank 0 ++ (0 ∷ []) ++ twice))) (7 ∷ [])
    ∷ case (accept (sized 0 2 77 (says 1 25 ∷ says_twice ∷ []) (replicate 25 0 ++ twice))) (7 ∷ [])
    -- a body's own 6 before its 11: five peers at the entry after the two, and before them
    ∷ case (accept (sized 0 1 78 (says 3 78 ∷ []) (twice ++ blank 5))) (6 ∷ [])
    ∷ case (accept (sized 1 0 78 (says 3 78 ∷ []) (twice ++ blank 5))) (6 ∷ [])
    ∷ case (accept (sized 0 1 193 (says 3 193 ∷ []) (blank 5 ++ replicate 115 0 ++ twice))) (6 ∷ [])
    -- its own 7 before its 11: bytes remain; an entry, and a peer, after the two lack one
    ∷ case (accept (sized 0 1 53 (says 2 53 ∷ []) (twice ++ (0 ∷ [])))) (7 ∷ [])
    ∷ case (accept (sized 1 0 53 (says 2 53 ∷ []) (twice ++ (0 ∷ [])))) (7 ∷ [])
    ∷ case (accept (sized 0 1 77 (says 3 77 ∷ []) (twice ++ replicate 25 0))) (7 ∷ [])
    ∷ case (accept (sized 0 1 100 (says 3 100 ∷ []) (twice ++ blank 1 ++ replicate 22 0))) (7 ∷ [])
    -- 5 of a later head, the sum's 7, also where it is B and 65,536 more, 1, 2, 3 and 4 before an earlier body's 11
    ∷ case (accept (sized 0 2 52 (says_twice ∷ says 17 0 ∷ []) twice)) (5 ∷ [])
    ∷ case (accept (sized 0 1 53 (says_twice ∷ []) (twice ++ (0 ∷ [])))) (7 ∷ [])
    ∷ case (accept (sized 0 2 52 (says_twice ∷ says 0 1 ∷ []) twice)) (7 ∷ [])
    ∷ case (accept (sized 0 3 52 (says_twice ∷ (replicate 8 0 ++ (255 ∷ 255 ∷ [])) ∷ says 0 1 ∷ []) twice)) (7 ∷ [])
    ∷ case (accept (sized 0 1 53 (says_twice ∷ []) twice)) (1 ∷ [])
    ∷ case (accept (sized 0 1 52 (says_twice ∷ []) (twice ++ (0 ∷ [])))) (2 ∷ [])
    ∷ case (accept (sized 0 1 52 (says_twice ∷ []) (twice ++ replicate 61371 0))) (3 ∷ [])
    ∷ case (accept (sized 1 64 52 (says_twice ∷ replicate 64 (says 0 0)) twice)) (4 ∷ [])
    -- 11 before 8, 9 and 10, and with equal ends; zeros in the output; where the other segment has a solution
    ∷ case (list worked_twice a111 a110 16) (65547 ∷ replicate 16 0)
    ∷ case (list worked_twice a111 a110 0) (65547 ∷ [])
    ∷ case (list worked_twice a111 a111 16) (65547 ∷ replicate 16 0)
    ∷ case (route worked_twice a111 a110 16) (65547 ∷ replicate 16 0)
    ∷ case (route worked_twice a111 a110 0) (65547 ∷ [])
    ∷ case (assemble worked_twice a111 a110 (solution 1 (edge 0 0 0 0 ∷ [])) path_size) (65547 ∷ replicate path_size 0)
    ∷ case (assemble worked_twice a111 a110 (solution 1 (edge 0 0 0 0 ∷ [])) (path_size - 1)) (65547 ∷ replicate (path_size - 1) 0)
    ∷ case (assemble worked_twice a111 a110 [] 3) (65547 ∷ replicate 3 0)
    ∷ case (print (input worked_twice a111 a110)) (Printed.ascii "refused 11\n")
    -- a refused book: listing and assembly give its number, whatever else is wrong, and zeros
    ∷ case (list (replicate 9 0) a111 a110 20) (65538 ∷ replicate 20 0)
    ∷ case (list (replicate 9 0) a111 a110 0) (65538 ∷ [])
    ∷ case (assemble (replicate 9 0) a111 a110 [] 3) (65538 ∷ replicate 3 0)
    -- 9.6: 9 below 1538 bytes, and before 10
    ∷ case (assemble worked_bytes a111 a110 (0 ∷ 1 ∷ 1 ∷ replicate 13 0) 1537) (65545 ∷ replicate 1537 0)
    ∷ case (assemble worked_bytes a111 a110 (replicate 16 0) (path_size - 1)) (65545 ∷ replicate (path_size - 1) 0)
    -- 9.6: 10: another cost, count, third byte, position, shortcut, peer, direction; an unused edge that is not zero; 15 bytes, 17 bytes; the ends turned round
    ∷ case (assemble worked_bytes a111 a110 (0 ∷ 2 ∷ 1 ∷ replicate 13 0) path_size) (65546 ∷ replicate path_size 0)
    ∷ case (assemble worked_bytes a111 a110 (0 ∷ 1 ∷ 2 ∷ replicate 13 0) path_size) (65546 ∷ replicate path_size 0)
    ∷ case (assemble worked_bytes a111 a110 (0 ∷ 1 ∷ 1 ∷ 1 ∷ replicate 12 0) path_size) (65546 ∷ replicate path_size 0)
    ∷ case (assemble worked_bytes a111 a110 (solution 1 (edge 1 0 0 0 ∷ [])) path_size) (65546 ∷ replicate path_size 0)
    ∷ case (assemble worked_bytes a111 a110 (solution 1 (edge 0 1 0 0 ∷ [])) path_size) (65546 ∷ replicate path_size 0)
    ∷ case (assemble worked_bytes a111 a110 (solution 1 (edge 0 0 1 0 ∷ [])) path_size) (65546 ∷ replicate path_size 0)
    ∷ case (assemble worked_bytes a111 a110 (solution 1 (edge 0 0 0 1 ∷ [])) path_size) (65546 ∷ replicate path_size 0)
    ∷ case (assemble worked_bytes a111 a110 (0 ∷ 1 ∷ 1 ∷ replicate 12 0 ++ (1 ∷ [])) path_size) (65546 ∷ replicate path_size 0)
    ∷ case (assemble worked_bytes a111 a110 (0 ∷ 1 ∷ 1 ∷ replicate 12 0) path_size) (65546 ∷ replicate path_size 0)
    ∷ case (assemble worked_bytes a111 a110 (0 ∷ 1 ∷ 1 ∷ replicate 14 0) path_size) (65546 ∷ replicate path_size 0)
    ∷ case (assemble worked_bytes a110 a111 (0 ∷ 1 ∷ 1 ∷ replicate 13 0) path_size) (65546 ∷ replicate path_size 0)
    -- 10.1, 10.5: an input under 16 bytes, one with an empty book, and refused books
    ∷ case (print (replicate 15 0)) (Printed.ascii "refused 1\n")
    ∷ case (print (replicate 16 0)) (Printed.ascii "refused 1\n")
    ∷ case (print (input (replicate 9 0) a111 a110)) (Printed.ascii "refused 2\n")
    ∷ case (print (input (replicate 8 0) a111 a110)) (Printed.ascii "solutions 0 paths 0\n")
    ∷ []

-- with SHA-256
pub hashed : List Case
hashed =
    -- the Rust: the second segment has the smaller fingerprint
    case (list fingerprint_book a111 a110 32) (2 ∷ (solution 1 (edge 1 0 0 0 ∷ []) ++ solution 1 (edge 0 0 0 0 ∷ [])))
    -- by hand: two routes, in that order
    ∷ case (route fingerprint_book a111 a110 32) (2 ∷ (solution 1 (edge 1 0 0 0 ∷ []) ++ solution 1 (edge 0 0 0 0 ∷ [])))
    ∷ []

-- ---- the theorem

unfoldable pub unhashed : List ℕ → List ℕ
unhashed m = m

pub all_right : T (every (right unhashed) (table ++ PinnedCases.table ++ RouteCases.table) && every (right Message.sha256) hashed)
unfolding table hashed PinnedCases.table RouteCases.table unhashed every right answer sketch_of flat_map
    Basics.any Basics.filter Basics.range Basics.sum Basics.same_list Basics.padded
    Octets.be16 Octets.be32 Octets.be64 Octets.octets2 Octets.octets4 Octets.octets8
    Book.cores Book.non_cores Book.body_total Book.segment_count Book.head_offset Book.timestamp_at Book.id_at Book.entry_count_at Book.body_length_at
    Book.lengths_below Book.body_offset Book.whole_length Book.peer_count Book.entry_end Book.entries_verdict Book.isd_asn_at Book.same_as Book.entry_offset Book.local_at
    Book.has_local_of Book.stands_earlier Book.passes_twice Book.body_verdict Book.bodies_verdict Book.is_long Book.too_long Book.verdict Book.mac_at Book.as_entry_at Book.peer_entry_at Book.peer_offset Book.peer_of_entry_at Book.entry_at
    Book.entries_at Book.segment_at Book.segments
    Edges.same_vertex Edges.no_entry Edges.no_peer Edges.entry_of Edges.as_of Edges.leaf_as Edges.peer_of Edges.in_construction Edges.edge_of
    Edges.add_core_segment Edges.as_insertions Edges.peer_insertions Edges.entry_insertions Edges.insertions Edges.same_ends Edges.lasting
    Edges.same_bool Edges.same_segment Edges.is_earlier Edges.is_first Edges.firsts Edges.stored_of Edges.stored_edges
    Chains.allowed_kinds Chains.leaves Chains.leaving Chains.beginning Chains.walks Chains.chains
    Order.compare_by Order.weight_of Order.cost Order.entry_input Order.fingerprint_input Order.solution_edge Order.fingerprint Order.compare_edges
    Order.compare_positions Order.compare_solutions Order.compare_chains Order.insert Order.insert_all Order.solutions
    Assembly.least Assembly.is_peer_edge Assembly.at_shortcut Assembly.is_peer_hop Assembly.interface_if Assembly.hop_count Assembly.used_entries
    Assembly.hop_of Assembly.mtus_at Assembly.interfaces_at Assembly.in_direction Assembly.fold_step Assembly.fold_macs Assembly.mac_of Assembly.id_below
    Assembly.stop_at Assembly.life Assembly.units_of Assembly.hops_of Assembly.interfaces_of Assembly.mtus_of Assembly.info_of Assembly.expiry_of
    Assembly.segment_of Assembly.info_on Assembly.hops_on Assembly.interfaces_on Assembly.mtus_on Assembly.expiry_on Assembly.combined_path
    Assembly.is_of Assembly.times_of Assembly.is_crowded Assembly.is_loop Assembly.is_bare Assembly.outcome
    Records.bit Records.edge_octets Records.solution_octets Records.slots Records.info_octets Records.hop_octets Records.as_octets Records.no_interface
    Records.interface_as_octets Records.interface_id_octets Records.path_head Records.path_head_octets Records.path_octets Records.path_head_in
    Router.info_at Router.hop_at Router.record_info Router.record_hop Router.infos_in Router.hops_in Router.is_none Router.against Router.along
    Router.walk_info Router.walk_infos Router.router_ids
    Answers.refused_list Answers.listing_of Answers.listing Answers.refused_path Answers.path_answer Answers.path_of_record Answers.assembly
    Printed.ascii Printed.decimal_in Printed.decimal Printed.hex Printed.item Printed.newline Printed.info_line Printed.interface_line
    Printed.path_lines Printed.outcome_lines Printed.solution_lines Printed.solutions_lines Printed.has_path Printed.refused_line Printed.list_lines
    Printed.printed
    Routes.same_interface Routes.same_interfaces Routes.longer Routes.hold Routes.hold_all Routes.route_of Routes.lasts_to Routes.with_path Routes.routes
    Routes.routing_of Routes.routing
    Words.Σ₀ Words.Σ₁ Words.σ₀ Words.σ₁ Words.next Constants.K Hash.words Hash.schedule Hash.round Hash.rounds Hash.compress Hash.output Message.padding
    Message.pad Message.blocks Message.sha256
all_right = tt

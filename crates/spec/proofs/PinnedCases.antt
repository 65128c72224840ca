-- A third table of computed cases: one rule of docs/SPECIFICATION.md decides each, at a hop, an edge or a byte where the other two leave it open. Every answer
-- is the Rust's, laid out as section 8 says, but where a comment says `by hand`; `tests/stored/pins.py` holds all to the Rust's stored answers
-- and to `tests/model.py`. The digest hands its input back, as in the second table; the orders are the Rust's, by SHA-256, all the same. Within ties
-- positions decide, by 5.3: the Rust leaves them open.
-- Assumes nothing.
use Prim.Native.Nat.{ℕ, ◌+◌, ◌-◌}
use Prim.Native.String.{String}
use mathlib.Core.List.{List, [], ◌∷◌, ◌++◌, map}
use lib.ListN.{replicate, take}
use Rattle.spec.specs.Limits.{path_size}
use Rattle.spec.specs.Printed.{ascii}
use Rattle.spec.proofs.CasesForm.{entry, peer, Draft, segment, book, in_row, edge, solution, list, print, assemble, least, sketch, hold, input, Case, case, a0, a110, a111, a112, a113, a114, a200, b110, mac0, mac1, mac2, mac3}

-- ---- how they are written

-- AS, ingress, egress, peers; the AS MTU is 1500, the ingress MTU 0, the units 63
abbrev pub linked : ℕ → ℕ → ℕ → List (List ℕ) → List ℕ
linked local ingress egress peers = entry local 1500 0 ingress egress 63 mac0 peers

-- the same with no peers
abbrev pub plain : ℕ → ℕ → ℕ → List ℕ
plain local ingress egress = linked local ingress egress []

-- peer AS, peer interface, ingress; the peer MTU is 1500, the units 63, the egress 0
abbrev pub link : ℕ → ℕ → ℕ → List ℕ
link local interface ingress = peer local interface 1500 63 ingress 0 mac0

-- a book of non-core segments, and of one
abbrev pub others : List Draft → List ℕ
others segments = book [] segments

abbrev pub alone : List (List ℕ) → List ℕ
alone entries = others (segment 1 1 entries ∷ [])

-- what is printed for a book, a source and a destination
abbrev pub prints : List ℕ → ℕ → ℕ → String → Case
prints b src dst text = case (print (input b src dst)) (ascii text)

-- ---- what several books are of

abbrev pub one : Draft
one = segment 1 1 (plain a110 0 1 ∷ plain a111 2 0 ∷ [])

abbrev pub four : List (List ℕ)
four = plain a110 0 1 ∷ plain a111 2 3 ∷ entry a112 1500 80 4 5 63 mac0 [] ∷ plain a113 6 0 ∷ []

-- from a111 to a112 and back: by one segment, and by both, over a110
abbrev pub meeting : List ℕ
meeting =
    others
    (segment 1 1 (plain a110 0 1 ∷ plain a111 2 3 ∷ [])
    ∷ segment 1 2 (plain a110 0 4 ∷ plain a111 5 0 ∷ plain a112 6 0 ∷ [])
    ∷ [])

-- every byte of every number counts: they differ from byte to byte and are large
abbrev pub wide0 : ℕ
wide0 = 0x8123_4567_89ab_cdef

abbrev pub wide1 : ℕ
wide1 = 0x9234_5678_9abc_def0

abbrev pub wide2 : ℕ
wide2 = 0xa345_6789_abcd_ef01

abbrev pub wide_book : List ℕ
wide_book =
    others
    (segment 0xfedc_ba98 0xa1b2 (entry wide0 0x0003_d4e5 0xc1c2 0x0b01 0x0c02 201 mac1 (link a114 1 1 ∷ peer wide2 0x2d0e 0xb1b3 202 0x3f11 0x4a12 mac3 ∷ [])
    ∷ entry a110 60000 59000 0x0b03 0x0c04 203 mac2 []
    ∷ entry a111 60001 59001 0x0b05 0x0c06 204 mac3 []
    ∷ entry a112 60002 59002 0x0b07 0x0c08 205 mac0 []
    ∷ entry wide1 60003 59003 0xffff 0x0100 206 mac2 [] ∷ [])
    ∷ segment 0xfedc_ba99 0xc3d4 (entry wide2 60004 59004 0x0b0b 0x0c0c 207 mac1 (peer wide0 0x3f11 0xb2b4 208 0x2d0e 0x4b13 mac2 ∷ []) ∷ [])
    ∷ [])

-- links between a110 and a112: the peer's index goes down from segment to segment, and is any of four on the other side
abbrev pub ranked_book : List ℕ
ranked_book =
    others
    (segment 1 1 (linked a110 0 1 (link a114 1 1 ∷ link a114 2 2 ∷ link a114 3 3 ∷ link a112 14 4 ∷ []) ∷ [])
    ∷ segment 1 2 (linked a110 0 2 (link a114 1 1 ∷ link a114 2 2 ∷ link a112 13 3 ∷ []) ∷ [])
    ∷ segment 1 3 (linked a110 0 3 (link a114 1 1 ∷ link a112 12 2 ∷ []) ∷ [])
    ∷ segment 1 4 (linked a110 0 4 (link a112 11 1 ∷ []) ∷ [])
    ∷ segment 1 5 (plain a111 0 7
    ∷ plain b110 6 8
    ∷ linked a112 7 9 (link a110 4 14 ∷ link a110 3 13 ∷ link a110 2 12 ∷ link a110 1 11 ∷ [])
    ∷ plain a113 5 0 ∷ [])
    ∷ [])

-- segments that differ in a high byte of the timestamp, of the id and of the first AS, and one that begins as the first
abbrev pub close_book : List ℕ
close_book =
    others
    (segment 1 1 (plain a110 0 1 ∷ plain a111 2 3 ∷ plain a112 4 0 ∷ [])
    ∷ segment 0x0100_0001 1 (plain a110 0 1 ∷ plain a111 2 3 ∷ plain a112 4 0 ∷ [])
    ∷ segment 1 0x101 (plain a110 0 1 ∷ plain a111 2 3 ∷ plain a112 4 0 ∷ [])
    ∷ segment 1 1 (plain 0x0101_ff00_0000_0110 0 1 ∷ plain a111 2 3 ∷ plain a112 4 0 ∷ [])
    ∷ segment 1 1 (plain a110 0 1 ∷ plain a111 2 3 ∷ plain a112 4 0 ∷ plain a113 5 0 ∷ [])
    ∷ [])

-- costs of 31, 32 and 33, which the fingerprints of the cores order the other way
abbrev pub costly_book : List ℕ
costly_book =
    book
    (segment 1 1 (plain a111 0 9 ∷ plain a112 1 0 ∷ [])
    ∷ segment 1 2 (plain a111 0 5 ∷ plain a0 1 1 ∷ plain a112 1 0 ∷ [])
    ∷ segment 1 3 (plain a111 0 1 ∷ plain a113 1 1 ∷ plain a0 1 1 ∷ plain a112 1 0 ∷ [])
    ∷ [])
    (segment 1 4 (plain a111 0 1 ∷ map (λ a. plain a 1 1) (in_row a200 14) ++ (plain a110 1 0 ∷ []))
    ∷ segment 1 5 (plain a112 0 1 ∷ map (λ a. plain a 1 1) (in_row (a200 + 14) 14) ++ (plain a114 1 0 ∷ []))
    ∷ [])

-- two cores and three segments down, two of them alike: the smaller fingerprints stand later
abbrev pub fan_book : List ℕ
fan_book =
    book
    (segment 1 1 (plain a110 0 3 ∷ plain a111 2 0 ∷ [])
    ∷ segment 1 2 (plain a110 0 1 ∷ plain a111 2 0 ∷ [])
    ∷ [])
    (segment 1 3 (plain a110 0 5 ∷ plain a112 4 0 ∷ [])
    ∷ segment 1 4 (plain a111 0 3 ∷ plain a113 6 0 ∷ [])
    ∷ segment 1 5 (plain a111 0 1 ∷ plain a113 6 0 ∷ [])
    ∷ segment 1 6 (plain a111 0 1 ∷ plain a113 6 0 ∷ [])
    ∷ [])

-- up and down at a shortcut, and a core between with the fewest units
abbrev pub shortcuts_book : List ℕ
shortcuts_book =
    book
    (segment 5000 0x2000 (entry a110 1500 0 0 11 10 mac2 [] ∷ plain a111 12 0 ∷ [])
    ∷ [])
    (segment 6000 0x1000 (plain b110 0 1 ∷ plain a110 2 3 ∷ plain a112 4 0 ∷ [])
    ∷ segment 4000 0x3000 (plain a114 0 5 ∷ plain a111 6 7 ∷ plain a113 8 0 ∷ [])
    ∷ [])

-- segments that differ in an egress in the middle
abbrev pub middle_book : List ℕ
middle_book =
    others
    (segment 1 1 (plain a110 0 1 ∷ plain a111 2 3 ∷ plain a112 4 0 ∷ [])
    ∷ segment 1 2 (plain a110 0 1 ∷ plain a111 2 2 ∷ plain a112 4 0 ∷ [])
    ∷ [])

-- an entry but for its AS MTU, ingress MTU and units
abbrev pub spot : ℕ → ℕ → ℕ → List ℕ → List (List ℕ) → ℕ → ℕ → ℕ → List ℕ
spot local ingress egress mac peers mtu ingress_mtu units = entry local mtu ingress_mtu ingress egress units mac peers

-- one route six times: what lies below the shortcut, and at the shortcut, in the middle and at the leaf the least AS MTU in turn, of which 16 bits
-- are 900, 901 or 902, then the least ingress MTU and units
abbrev pub six : List (List ℕ) → (ℕ → ℕ → ℕ → List ℕ) → (ℕ → ℕ → ℕ → List ℕ) → (ℕ → ℕ → ℕ → List ℕ) → List Draft
six below low middle leaf =
    segment 1 1 (below ++ (low 66436 8000 63 ∷ middle 9000 8000 63 ∷ leaf 9000 8000 63 ∷ []))
    ∷ segment 1 2 (below ++ (low 9000 8000 63 ∷ middle 66437 8000 63 ∷ leaf 9000 8000 63 ∷ []))
    ∷ segment 1 3 (below ++ (low 9000 8000 63 ∷ middle 9000 8000 63 ∷ leaf 66438 8000 63 ∷ []))
    ∷ segment 1 4 (below ++ (low 9000 800 7 ∷ middle 9000 8000 63 ∷ leaf 9000 8000 63 ∷ []))
    ∷ segment 1 5 (below ++ (low 9000 8000 63 ∷ middle 9000 801 8 ∷ leaf 9000 8000 63 ∷ []))
    ∷ segment 1 6 (below ++ (low 9000 8000 63 ∷ middle 9000 8000 63 ∷ leaf 9000 802 9 ∷ []))
    ∷ []

-- what lies below a shortcut of 1 and of 2
abbrev pub under1 : List (List ℕ)
under1 = entry a114 7000 600 0 11 5 mac3 [] ∷ []

abbrev pub under2 : List (List ℕ)
under2 = entry a0 7000 600 0 12 5 mac1 [] ∷ under1

-- a row of a110, a111 and a112, each with an ingress and an egress, and peers of a110
abbrev pub row : List (List ℕ) → List (List ℕ) → List Draft
row below peers = six below (spot a110 1 2 mac0 peers) (spot a111 3 4 mac1 []) (spot a112 5 6 mac2 [])

-- over a peer of a110, after others: the six, and once the peer's numbers are the least
abbrev pub peered : List (List ℕ) → List (List ℕ) → List Draft
peered below before =
    row below (before ++ (peer a113 21 8500 62 22 23 mac3 ∷ []))
    ++ (segment 1 7 (below ++ (spot a110 1 2 mac0 (before ++ (peer a113 21 700 6 22 23 mac3 ∷ [])) 9000 8000 63 ∷ spot a111 3 4 mac1 [] 9000 8000 63 ∷ spot a112 5 6 mac2 [] 9000 8000 63 ∷ []))
    ∷ [])

-- leaves with a link, as first and as second peer, at the second entry: the least AS MTU, ingress MTU and units, and the peer's least
abbrev pub leaves : List (List ℕ) → List Draft
leaves before =
    segment 1 1 (plain a110 1 2 ∷ entry a111 66436 8000 3 4 63 mac1 (before ++ (peer a113 21 8500 62 22 23 mac3 ∷ [])) ∷ [])
    ∷ segment 1 2 (plain a110 1 2 ∷ entry a111 9000 800 3 4 7 mac1 (before ++ (peer a113 21 8500 62 22 23 mac3 ∷ [])) ∷ [])
    ∷ segment 1 3 (plain a110 1 2 ∷ entry a111 9000 8000 3 4 63 mac1 (before ++ (peer a113 21 700 6 22 23 mac3 ∷ [])) ∷ [])
    ∷ []

-- the same where the leaf is the only entry
abbrev pub lone : List (List ℕ) → List Draft
lone before =
    segment 1 1 (entry a111 66436 8000 3 4 63 mac1 (before ++ (peer a113 21 8500 62 22 23 mac3 ∷ [])) ∷ [])
    ∷ segment 1 2 (entry a111 9000 800 3 4 7 mac1 (before ++ (peer a113 21 8500 62 22 23 mac3 ∷ [])) ∷ [])
    ∷ segment 1 3 (entry a111 9000 8000 3 4 63 mac1 (before ++ (peer a113 21 700 6 22 23 mac3 ∷ [])) ∷ [])
    ∷ []

abbrev pub other : List (List ℕ)
other = link a114 8 8 ∷ []

-- a book for each segment: as a core, as a non-core, and beside the other side of the link of an AS
abbrev pub core_each : List Draft → List (List ℕ)
core_each segments = map (λ s. book (s ∷ []) []) segments

abbrev pub each : List Draft → List (List ℕ)
each segments = map (λ s. others (s ∷ [])) segments

abbrev pub linked_each : ℕ → List Draft → List (List ℕ)
linked_each local segments =
    map (λ s. others (s ∷ segment 1 8 (entry a113 9000 500 0 0 3 mac0 (peer local 22 8400 61 21 24 mac1 ∷ []) ∷ []) ∷ [])) segments

-- a link to two segments down, of one cost: the one with peer 0 has the smaller shortcut and the larger fingerprint
abbrev pub down_book : List ℕ
down_book =
    others
    (segment 1 1 (linked a110 0 0 (link a112 2 1 ∷ []) ∷ [])
    ∷ segment 1 2 (plain a111 0 3 ∷ linked a112 4 5 (link a114 8 8 ∷ link a110 1 2 ∷ []) ∷ plain a113 6 0 ∷ [])
    ∷ segment 1 3 (linked a112 0 5 (link a110 1 2 ∷ []) ∷ plain a113 6 0 ∷ [])
    ∷ [])

-- four ways up, of one cost: two alike, one with a larger fingerprint, one at a shortcut
abbrev pub up_book : List ℕ
up_book =
    book
    (segment 1 1 (plain a110 0 1 ∷ plain a111 2 0 ∷ [])
    ∷ [])
    (segment 1 2 (plain a110 0 2 ∷ plain a112 4 0 ∷ [])
    ∷ segment 1 3 (plain a110 0 1 ∷ plain a112 4 0 ∷ [])
    ∷ segment 1 4 (plain a110 0 1 ∷ plain a112 4 0 ∷ [])
    ∷ segment 1 5 (plain a114 0 7 ∷ plain a110 8 9 ∷ plain a112 4 0 ∷ [])
    ∷ segment 1 6 (plain a111 0 5 ∷ plain a113 6 0 ∷ [])
    ∷ [])

-- two cores alike, and two ways down, one of them at a shortcut
abbrev pub last_book : List ℕ
last_book =
    book
    (segment 1 1 (plain a110 0 1 ∷ plain a111 2 0 ∷ [])
    ∷ segment 1 2 (plain a110 0 1 ∷ plain a111 2 0 ∷ [])
    ∷ [])
    (segment 1 3 (plain a110 0 3 ∷ plain a112 4 0 ∷ [])
    ∷ segment 1 4 (plain a111 0 5 ∷ plain a113 6 0 ∷ [])
    ∷ segment 1 5 (plain a114 0 7 ∷ plain a111 8 9 ∷ plain a113 6 0 ∷ [])
    ∷ [])

-- a third peer of a first entry and of a leaf, to one AS
abbrev pub third_book : List ℕ
third_book =
    others
    (segment 1 1 (linked a110 0 1 (link a114 8 8 ∷ link a114 9 9 ∷ link a113 21 22 ∷ []) ∷ plain a111 2 0 ∷ [])
    ∷ segment 1 2 (plain a112 0 1 ∷ linked a111 2 0 (link a114 8 8 ∷ link a114 9 9 ∷ link a113 23 24 ∷ []) ∷ [])
    ∷ segment 1 3 (linked a113 0 0 (link a110 22 21 ∷ link a111 24 23 ∷ []) ∷ [])
    ∷ [])

-- ---- the table

unfoldable pub table : List Case
table =
    -- the ingress MTU and the units of a middle hop
    prints (alone (plain a110 0 1 ∷ entry a111 1500 80 2 3 1 mac0 [] ∷ plain a112 4 0 ∷ [])) a112 a110
    "solutions 1 paths 1\n1 cost 2 segments 1 mtu 80 expiry 676 hops 3\ninfo 0 0001 1\nif 0001ff0000000112 4\nif 0001ff0000000111 3\nif 0001ff0000000111 2\nif 0001ff0000000110 1\n"
    -- the AS MTU of a middle hop
    ∷ prints (alone (plain a110 0 1 ∷ entry a111 1300 0 2 3 63 mac0 [] ∷ plain a112 4 0 ∷ [])) a112 a110
    "solutions 1 paths 1\n1 cost 2 segments 1 mtu 1300 expiry 21601 hops 3\ninfo 0 0001 1\nif 0001ff0000000112 4\nif 0001ff0000000111 3\nif 0001ff0000000111 2\nif 0001ff0000000110 1\n"
    -- the AS MTU and the egress of the leaf; interface 65535
    ∷ prints (alone (plain a110 0 65535 ∷ entry a111 1300 0 2 3 63 mac0 [] ∷ [])) a111 a110
    "solutions 1 paths 1\n1 cost 1 segments 1 mtu 1300 expiry 21601 hops 2\ninfo 0 0103 1\nif 0001ff0000000111 3\nif 0001ff0000000111 2\nif 0001ff0000000110 65535\n"
    -- of a core at s = 0 the ingress MTU counts and the ingress is shown
    ∷ prints (book (segment 1 1 (entry a110 1500 80 9 1 63 mac0 [] ∷ plain a111 2 0 ∷ []) ∷ []) []) a111 a110
    "solutions 1 paths 1\n1 cost 1 segments 1 mtu 80 expiry 21601 hops 2\ninfo 0 0103 1\nif 0001ff0000000111 2\nif 0001ff0000000110 1\nif 0001ff0000000110 9\n"
    -- the peer MTU at a leaf that is the first entry, and not its ingress MTU
    ∷ prints (others (segment 1 1 (entry a110 1500 80 0 0 63 mac0 (peer a111 1 1300 63 2 0 mac0 ∷ []) ∷ []) ∷ segment 1 2 (linked a111 0 0 (link a110 2 1 ∷ []) ∷ []) ∷ [])) a110 a111
    "solutions 1 paths 1\n1 cost 1 segments 2 mtu 1300 expiry 21601 hops 2\ninfo 2 0103 1\ninfo 3 0100 1\nif 0001ff0000000110 2\nif 0001ff0000000111 1\n"
    -- of an AS MTU above 65535 the low 16 bits, at a peer hop: 131972 is 900
    ∷ prints (others (segment 1 1 (entry a110 131972 0 0 0 63 mac0 (link a111 1 2 ∷ []) ∷ []) ∷ segment 1 2 (linked a111 0 0 (link a110 2 1 ∷ []) ∷ []) ∷ [])) a110 a111
    "solutions 1 paths 1\n1 cost 1 segments 2 mtu 900 expiry 21601 hops 2\ninfo 2 0103 1\ninfo 3 0100 1\nif 0001ff0000000110 2\nif 0001ff0000000111 1\n"
    -- the same in construction direction: 70000 is 4464
    ∷ prints (alone (entry a110 70000 0 0 1 63 mac0 [] ∷ entry a111 9000 0 2 0 63 mac0 [] ∷ [])) a110 a111
    "solutions 1 paths 1\n1 cost 1 segments 1 mtu 4464 expiry 21601 hops 2\ninfo 1 0001 1\nif 0001ff0000000110 1\nif 0001ff0000000111 2\n"
    -- an AS MTU of 0 counts
    ∷ prints (alone (entry a110 0 0 0 1 63 mac0 [] ∷ plain a111 2 0 ∷ [])) a111 a110
    "solutions 1 paths 1\n1 cost 1 segments 1 mtu 0 expiry 21601 hops 2\ninfo 0 0103 1\nif 0001ff0000000111 2\nif 0001ff0000000110 1\n"
    -- the ingress MTU at s = 0, in construction direction
    ∷ prints (alone (entry a110 1500 80 0 1 63 mac0 [] ∷ plain a111 2 0 ∷ [])) a110 a111
    "solutions 1 paths 1\n1 cost 1 segments 1 mtu 80 expiry 21601 hops 2\ninfo 1 0001 1\nif 0001ff0000000110 1\nif 0001ff0000000111 2\n"
    -- an AS at four interfaces is a loop too
    ∷ prints (others (segment 1 1 (plain a111 5 1 ∷ plain a110 1 0 ∷ []) ∷ segment 1 2 (plain a111 3 2 ∷ plain a112 1 0 ∷ []) ∷ [])) a110 a112
    "solutions 1 paths 0\n1 cost 2 segments 2 loop\n"
    -- and one at six
    ∷ prints (book (segment 1 3 (plain a111 7 8 ∷ []) ∷ []) (segment 1 1 (plain a111 5 1 ∷ plain a110 1 0 ∷ []) ∷ segment 1 2 (plain a111 3 2 ∷ plain a112 1 0 ∷ []) ∷ [])) a110 a112
    "solutions 2 paths 0\n1 cost 2 segments 2 loop\n2 cost 2 segments 3 loop\n"
    -- three interfaces of one AS number, in two ISDs: no loop
    ∷ prints (alone (plain b110 0 1 ∷ plain a110 2 3 ∷ plain a111 4 0 ∷ [])) a111 b110
    "solutions 1 paths 1\n1 cost 2 segments 1 mtu 1500 expiry 21601 hops 3\ninfo 0 0001 1\nif 0001ff0000000111 4\nif 0001ff0000000110 3\nif 0001ff0000000110 2\nif 0002ff0000000110 1\n"
    -- a loop of which the first interface is one, and the last is not
    ∷ prints meeting a111 a112
    "solutions 2 paths 1\n1 cost 1 segments 1 mtu 1500 expiry 21601 hops 2\ninfo 1 0100 1\nif 0001ff0000000112 6\n2 cost 3 segments 2 loop\n"
    -- a loop of which the last interface is one, and the first is not
    ∷ prints meeting a112 a111
    "solutions 2 paths 1\n1 cost 1 segments 1 mtu 1500 expiry 21601 hops 2\ninfo 0 0002 1\nif 0001ff0000000112 6\n2 cost 3 segments 2 loop\n"
    -- one interface is a path
    ∷ prints (alone (plain a110 0 0 ∷ plain a111 2 0 ∷ [])) a111 a110
    "solutions 1 paths 1\n1 cost 1 segments 1 mtu 1500 expiry 21601 hops 2\ninfo 0 0103 1\nif 0001ff0000000111 2\n"
    -- equal segments side by side
    ∷ prints (others (one ∷ one ∷ [])) a111 a110
    "solutions 1 paths 1\n1 cost 1 segments 1 mtu 1500 expiry 21601 hops 2\ninfo 0 0103 1\nif 0001ff0000000111 2\nif 0001ff0000000110 1\n"
    -- equal core segments
    ∷ prints (book (one ∷ one ∷ []) []) a111 a110
    "solutions 1 paths 1\n1 cost 1 segments 1 mtu 1500 expiry 21601 hops 2\ninfo 0 0103 1\nif 0001ff0000000111 2\nif 0001ff0000000110 1\n"
    -- timestamps that are equal in their low 16 bits: two segments
    ∷ prints (others (one ∷ segment 65537 1 (plain a110 0 1 ∷ plain a111 2 0 ∷ []) ∷ [])) a111 a110
    "solutions 2 paths 2\n1 cost 1 segments 1 mtu 1500 expiry 21601 hops 2\ninfo 0 0103 1\nif 0001ff0000000111 2\nif 0001ff0000000110 1\n2 cost 1 segments 1 mtu 1500 expiry 87137 hops 2\ninfo 0 0103 65537\nif 0001ff0000000111 2\nif 0001ff0000000110 1\n"
    -- bodies that differ in their last byte: two segments
    ∷ prints (others (segment 1 1 (plain a110 0 1 ∷ linked a111 2 0 (link a112 1 0 ∷ []) ∷ []) ∷ segment 1 1 (plain a110 0 1 ∷ entry a111 1500 0 2 0 63 mac0 (peer a112 1 1500 63 0 0 (1 ∷ 2 ∷ 3 ∷ 4 ∷ 5 ∷ 7 ∷ []) ∷ []) ∷ []) ∷ [])) a111 a110
    "solutions 2 paths 2\n1 cost 1 segments 1 mtu 1500 expiry 21601 hops 2\ninfo 0 0103 1\nif 0001ff0000000111 2\nif 0001ff0000000110 1\n2 cost 1 segments 1 mtu 1500 expiry 21601 hops 2\ninfo 0 0103 1\nif 0001ff0000000111 2\nif 0001ff0000000110 1\n"
    -- at a shortcut above 1 the ingress MTU does not count and the ingress is not shown
    ∷ prints (alone four) a113 a112
    "solutions 1 paths 1\n1 cost 1 segments 1 mtu 1500 expiry 21601 hops 2\ninfo 0 0103 1\nif 0001ff0000000113 6\nif 0001ff0000000112 5\n"
    -- the same in construction direction
    ∷ prints (alone four) a112 a113
    "solutions 1 paths 1\n1 cost 1 segments 1 mtu 1500 expiry 21601 hops 2\ninfo 1 0001 1\nif 0001ff0000000112 5\nif 0001ff0000000113 6\n"
    -- a core of four entries, against construction
    ∷ prints (book (segment 1 1 four ∷ []) []) a113 a110
    "solutions 1 paths 1\n1 cost 3 segments 1 mtu 80 expiry 21601 hops 4\ninfo 0 0103 1\nif 0001ff0000000113 6\nif 0001ff0000000112 5\nif 0001ff0000000112 4\nif 0001ff0000000111 3\nif 0001ff0000000111 2\nif 0001ff0000000110 1\n"
    -- the peer of a leaf that is the third entry
    ∷ prints (others (segment 1 1 (plain a110 0 1 ∷ plain a111 2 3 ∷ linked a112 4 0 (link a113 7 8 ∷ []) ∷ []) ∷ segment 1 2 (linked a113 0 0 (link a112 8 7 ∷ []) ∷ []) ∷ [])) a112 a113
    "solutions 1 paths 1\n1 cost 1 segments 2 mtu 1500 expiry 21601 hops 2\ninfo 2 0103 1\ninfo 3 0100 1\nif 0001ff0000000112 8\nif 0001ff0000000113 7\n"
    -- peer 2; an interface 0 of a peer is not shown
    ∷ prints (others (segment 1 1 (linked a110 0 0 (link a113 1 2 ∷ link a113 3 4 ∷ link a112 0 8 ∷ []) ∷ []) ∷ segment 1 2 (linked a112 0 0 (link a110 8 0 ∷ []) ∷ []) ∷ [])) a110 a112
    "solutions 1 paths 1\n1 cost 1 segments 2 mtu 1500 expiry 21601 hops 2\ninfo 2 0103 1\ninfo 3 0100 1\nif 0001ff0000000110 8\n"
    -- larger shortcut first: 2 before 1
    ∷ prints (others (segment 1 1 (plain a110 0 0 ∷ plain a111 1 2 ∷ plain a112 3 4 ∷ []) ∷ segment 1 2 (plain a113 0 0 ∷ plain a114 0 0 ∷ plain a111 5 6 ∷ plain a112 7 0 ∷ []) ∷ [])) a112 a111
    "solutions 2 paths 2\n1 cost 1 segments 1 mtu 1500 expiry 21601 hops 2\ninfo 0 0100 1\nif 0001ff0000000112 7\nif 0001ff0000000111 6\n2 cost 1 segments 1 mtu 1500 expiry 21601 hops 2\ninfo 0 0001 1\nif 0001ff0000000112 4\nif 0001ff0000000112 3\nif 0001ff0000000111 2\n"
    -- three edges, of which the first and the last are of one segment; fewer edges first
    ∷ prints (book (segment 1 1 (plain a112 0 0 ∷ []) ∷ []) (segment 1 2 (plain a110 0 1 ∷ plain a111 2 3 ∷ plain a112 4 0 ∷ []) ∷ [])) a110 a111
    "solutions 2 paths 0\n1 cost 3 segments 2 loop\n2 cost 3 segments 3 loop\n"
    -- the MTU of the third edge
    ∷ prints (book (one ∷ []) (segment 1 2 (plain a110 0 3 ∷ plain a112 4 0 ∷ []) ∷ segment 1 3 (entry a111 1300 0 0 5 63 mac0 [] ∷ plain a113 6 0 ∷ []) ∷ [])) a112 a113
    "solutions 1 paths 1\n1 cost 3 segments 3 mtu 1300 expiry 21601 hops 6\ninfo 0 0100 1\ninfo 1 0001 1\ninfo 1 0003 1\nif 0001ff0000000112 4\nif 0001ff0000000110 3\nif 0001ff0000000110 1\nif 0001ff0000000111 2\nif 0001ff0000000111 5\nif 0001ff0000000113 6\n"
    -- the fingerprint's input goes on past two entries
    ∷ prints (others (segment 1 1 (plain a110 0 1 ∷ plain a111 2 3 ∷ plain a112 6 0 ∷ []) ∷ segment 1 1 (plain a110 0 1 ∷ plain a111 2 3 ∷ plain a112 4 0 ∷ []) ∷ [])) a112 a110
    "solutions 2 paths 2\n1 cost 2 segments 1 mtu 1500 expiry 21601 hops 3\ninfo 0 0001 1\nif 0001ff0000000112 4\nif 0001ff0000000111 3\nif 0001ff0000000111 2\nif 0001ff0000000110 1\n2 cost 2 segments 1 mtu 1500 expiry 21601 hops 3\ninfo 0 0001 1\nif 0001ff0000000112 6\nif 0001ff0000000111 3\nif 0001ff0000000111 2\nif 0001ff0000000110 1\n"
    -- direction is no key: the fingerprint decides
    ∷ prints (others (segment 1 1 (plain a111 0 1 ∷ plain a110 2 0 ∷ []) ∷ segment 1 1 (plain a110 0 3 ∷ plain a111 6 0 ∷ []) ∷ [])) a111 a110
    "solutions 2 paths 2\n1 cost 1 segments 1 mtu 1500 expiry 21601 hops 2\ninfo 0 0103 1\nif 0001ff0000000111 6\nif 0001ff0000000110 3\n2 cost 1 segments 1 mtu 1500 expiry 21601 hops 2\ninfo 1 0001 1\nif 0001ff0000000111 1\nif 0001ff0000000110 2\n"
    -- peer 1 before peer 2
    ∷ prints (others (segment 1 1 (linked a110 0 0 (link a114 1 1 ∷ link a112 2 2 ∷ link a112 3 3 ∷ []) ∷ []) ∷ segment 1 2 (linked a112 0 0 (link a110 3 3 ∷ link a110 2 2 ∷ []) ∷ []) ∷ [])) a110 a112
    "solutions 2 paths 2\n1 cost 1 segments 2 mtu 1500 expiry 21601 hops 2\ninfo 2 0103 1\ninfo 3 0100 1\nif 0001ff0000000110 2\nif 0001ff0000000112 2\n2 cost 1 segments 2 mtu 1500 expiry 21601 hops 2\ninfo 2 0103 1\ninfo 3 0100 1\nif 0001ff0000000110 3\nif 0001ff0000000112 3\n"
    -- at peer edges too the fingerprint decides before the second edge's peer
    ∷ prints (others (segment 1 1 (linked a110 0 5 (link a112 1 2 ∷ []) ∷ []) ∷ segment 1 2 (linked a110 0 3 (link a112 3 4 ∷ []) ∷ []) ∷ segment 1 3 (linked a112 0 0 (link a110 2 1 ∷ link a110 4 3 ∷ []) ∷ []) ∷ [])) a110 a112
    "solutions 2 paths 2\n1 cost 1 segments 2 mtu 1500 expiry 21601 hops 2\ninfo 2 0100 1\ninfo 3 0101 1\nif 0001ff0000000110 4\nif 0001ff0000000112 3\n2 cost 1 segments 2 mtu 1500 expiry 21601 hops 2\ninfo 2 0103 1\ninfo 3 0101 1\nif 0001ff0000000110 2\nif 0001ff0000000112 1\n"
    -- the fingerprint of the third edge
    ∷ prints (book (one ∷ []) (segment 1 2 (plain a110 0 3 ∷ plain a112 4 0 ∷ []) ∷ segment 1 3 (plain a111 0 7 ∷ plain a113 6 0 ∷ []) ∷ segment 1 4 (plain a111 0 5 ∷ plain a113 6 0 ∷ []) ∷ [])) a112 a113
    "solutions 2 paths 2\n1 cost 3 segments 3 mtu 1500 expiry 21601 hops 6\ninfo 0 0100 1\ninfo 1 0001 1\ninfo 1 0004 1\nif 0001ff0000000112 4\nif 0001ff0000000110 3\nif 0001ff0000000110 1\nif 0001ff0000000111 2\nif 0001ff0000000111 5\nif 0001ff0000000113 6\n2 cost 3 segments 3 mtu 1500 expiry 21601 hops 6\ninfo 0 0100 1\ninfo 1 0001 1\ninfo 1 0003 1\nif 0001ff0000000112 4\nif 0001ff0000000110 3\nif 0001ff0000000110 1\nif 0001ff0000000111 2\nif 0001ff0000000111 7\nif 0001ff0000000113 6\n"
    -- larger shortcut first, at peer 1
    ∷ prints (others (segment 1 1 (linked a111 0 0 (link a114 1 9 ∷ link a112 1 1 ∷ []) ∷ plain a110 2 0 ∷ []) ∷ segment 1 2 (plain a113 0 0 ∷ linked a111 3 0 (link a114 2 9 ∷ link a112 2 2 ∷ []) ∷ plain a110 2 0 ∷ []) ∷ segment 1 3 (linked a112 0 0 (link a111 1 1 ∷ link a111 2 2 ∷ []) ∷ []) ∷ [])) a110 a112
    "solutions 2 paths 2\n1 cost 2 segments 2 mtu 1500 expiry 21601 hops 3\ninfo 2 0002 1\ninfo 3 0101 1\nif 0001ff0000000110 2\nif 0001ff0000000111 2\nif 0001ff0000000112 2\n2 cost 2 segments 2 mtu 1500 expiry 21601 hops 3\ninfo 2 0103 1\ninfo 3 0101 1\nif 0001ff0000000110 2\nif 0001ff0000000111 1\nif 0001ff0000000112 1\n"
    -- a cost of 16
    ∷ prints (others (segment 1 1 (plain a111 0 1 ∷ map (λ a. plain a 2 0) (in_row a200 14) ++ (plain a110 4 0 ∷ [])) ∷ segment 1 2 (plain a111 3 5 ∷ plain a112 6 0 ∷ []) ∷ [])) a110 a112
    "solutions 1 paths 0\n1 cost 16 segments 2 loop\n"
    -- shortcut 1 of a segment of four; the ingress MTU of the entry above the leaf counts
    ∷ prints (alone four) a113 a111
    "solutions 1 paths 1\n1 cost 2 segments 1 mtu 80 expiry 21601 hops 3\ninfo 0 0103 1\nif 0001ff0000000113 6\nif 0001ff0000000112 5\nif 0001ff0000000112 4\nif 0001ff0000000111 3\n"
    -- the same in construction direction
    ∷ prints (alone four) a111 a113
    "solutions 1 paths 1\n1 cost 2 segments 1 mtu 80 expiry 21601 hops 3\ninfo 1 0103 1\nif 0001ff0000000111 3\nif 0001ff0000000112 4\nif 0001ff0000000112 5\nif 0001ff0000000113 6\n"
    -- a middle hop's ingress MTU and units, in construction direction
    ∷ prints (alone (plain a110 0 1 ∷ entry a111 1500 80 2 3 1 mac0 [] ∷ plain a112 4 0 ∷ [])) a110 a112
    "solutions 1 paths 1\n1 cost 2 segments 1 mtu 80 expiry 676 hops 3\ninfo 1 0001 1\nif 0001ff0000000110 1\nif 0001ff0000000111 2\nif 0001ff0000000111 3\nif 0001ff0000000112 4\n"
    -- an ingress MTU of 1 counts
    ∷ prints (alone (plain a110 0 1 ∷ entry a111 1500 1 2 0 63 mac0 [] ∷ [])) a111 a110
    "solutions 1 paths 1\n1 cost 1 segments 1 mtu 1 expiry 21601 hops 2\ninfo 0 0103 1\nif 0001ff0000000111 2\nif 0001ff0000000110 1\n"
    -- of a core: the low 16 bits of the AS MTU, and the egress of the leaf
    ∷ prints (book (segment 1 1 (entry a110 9000 0 0 1 63 mac0 [] ∷ entry a111 70000 0 2 3 63 mac0 [] ∷ []) ∷ []) []) a111 a110
    "solutions 1 paths 1\n1 cost 1 segments 1 mtu 4464 expiry 21601 hops 2\ninfo 0 0103 1\nif 0001ff0000000111 3\nif 0001ff0000000111 2\nif 0001ff0000000110 1\n"
    -- three edges with a shortcut in the first and the last; the core expires first, though the last segment is older
    ∷ prints shortcuts_book a112 a113
    "solutions 1 paths 1\n1 cost 3 segments 3 mtu 1500 expiry 8712 hops 6\ninfo 0 1000 6000\ninfo 1 2000 5000\ninfo 1 3102 4000\nif 0001ff0000000112 4\nif 0001ff0000000110 3\nif 0001ff0000000110 11\nif 0001ff0000000111 12\nif 0001ff0000000111 7\nif 0001ff0000000113 8\n"
    -- a loop after nine interfaces
    ∷ prints (others (segment 1 1 (plain a110 0 1 ∷ plain a111 2 3 ∷ plain a112 4 5 ∷ plain a113 6 7 ∷ plain a114 8 9 ∷ plain b110 10 0 ∷ []) ∷ segment 1 2 (plain a110 11 12 ∷ plain a0 13 0 ∷ []) ∷ [])) b110 a0
    "solutions 1 paths 0\n1 cost 6 segments 2 loop\n"
    -- ASes that differ in their third byte only: no loop
    ∷ prints (alone (plain 0x0001_fe00_0000_0110 0 1 ∷ plain a110 2 3 ∷ plain a111 4 0 ∷ [])) a111 0x0001_fe00_0000_0110
    "solutions 1 paths 1\n1 cost 2 segments 1 mtu 1500 expiry 21601 hops 3\ninfo 0 0001 1\nif 0001ff0000000111 4\nif 0001ff0000000110 3\nif 0001ff0000000110 2\nif 0001fe0000000110 1\n"
    -- and another source
    ∷ case (list (others (one ∷ [])) 0x0001_fe00_0000_0110 a111 16) (0 ∷ replicate 16 0)
    -- every byte of a path: a peer edge over five entries, and one in construction direction
    ∷ case (assemble wide_book wide1 wide2 (solution 5 (edge 0 0 2 0 ∷ edge 1 0 1 1 ∷ [])) path_size) (0
    ∷ 2 ∷ 6 ∷ 0x0c ∷ 0 ∷ 0xb1 ∷ 0xb3 ∷ 0xfe ∷ 0xdd ∷ 0xc6 ∷ 0x38
    ∷ 0x92 ∷ 0x34 ∷ 0x56 ∷ 0x78 ∷ 0x9a ∷ 0xbc ∷ 0xde ∷ 0xf0 ∷ 0xa3 ∷ 0x45 ∷ 0x67 ∷ 0x89 ∷ 0xab ∷ 0xcd ∷ 0xef ∷ 1
    ∷ 2 ∷ 5 ∷ 0x0c ∷ 0x1d ∷ 0xfe ∷ 0xdc ∷ 0xba ∷ 0x98
    ∷ 3 ∷ 1 ∷ 0xc9 ∷ 0xdf ∷ 0xfe ∷ 0xdc ∷ 0xba ∷ 0x99
    ∷ 0xce ∷ 0xff ∷ 0xff ∷ 1 ∷ 0 ∷ 0x20 ∷ 0x31 ∷ 0x42 ∷ 0x53 ∷ 0x64 ∷ 0x75
    ∷ 0xcd ∷ 0x0b ∷ 7 ∷ 0x0c ∷ 8 ∷ 1 ∷ 2 ∷ 3 ∷ 4 ∷ 5 ∷ 6
    ∷ 0xcc ∷ 0x0b ∷ 5 ∷ 0x0c ∷ 6 ∷ 0x86 ∷ 0x97 ∷ 0xa8 ∷ 0xb9 ∷ 0xca ∷ 0xdb
    ∷ 0xcb ∷ 0x0b ∷ 3 ∷ 0x0c ∷ 4 ∷ 0x20 ∷ 0x31 ∷ 0x42 ∷ 0x53 ∷ 0x64 ∷ 0x75
    ∷ 0xca ∷ 0x3f ∷ 0x11 ∷ 0x4a ∷ 0x12 ∷ 0x86 ∷ 0x97 ∷ 0xa8 ∷ 0xb9 ∷ 0xca ∷ 0xdb
    ∷ 0xd0 ∷ 0x2d ∷ 0x0e ∷ 0x4b ∷ 0x13 ∷ 0x20 ∷ 0x31 ∷ 0x42 ∷ 0x53 ∷ 0x64 ∷ 0x75
    ∷ 0x92 ∷ 0x34 ∷ 0x56 ∷ 0x78 ∷ 0x9a ∷ 0xbc ∷ 0xde ∷ 0xf0
    ∷ 0x92 ∷ 0x34 ∷ 0x56 ∷ 0x78 ∷ 0x9a ∷ 0xbc ∷ 0xde ∷ 0xf0
    ∷ 0 ∷ 1 ∷ 0xff ∷ 0 ∷ 0 ∷ 0 ∷ 1 ∷ 0x12
    ∷ 0 ∷ 1 ∷ 0xff ∷ 0 ∷ 0 ∷ 0 ∷ 1 ∷ 0x12
    ∷ 0 ∷ 1 ∷ 0xff ∷ 0 ∷ 0 ∷ 0 ∷ 1 ∷ 0x11
    ∷ 0 ∷ 1 ∷ 0xff ∷ 0 ∷ 0 ∷ 0 ∷ 1 ∷ 0x11
    ∷ 0 ∷ 1 ∷ 0xff ∷ 0 ∷ 0 ∷ 0 ∷ 1 ∷ 0x10
    ∷ 0 ∷ 1 ∷ 0xff ∷ 0 ∷ 0 ∷ 0 ∷ 1 ∷ 0x10
    ∷ 0x81 ∷ 0x23 ∷ 0x45 ∷ 0x67 ∷ 0x89 ∷ 0xab ∷ 0xcd ∷ 0xef
    ∷ 0x81 ∷ 0x23 ∷ 0x45 ∷ 0x67 ∷ 0x89 ∷ 0xab ∷ 0xcd ∷ 0xef
    ∷ 0xa3 ∷ 0x45 ∷ 0x67 ∷ 0x89 ∷ 0xab ∷ 0xcd ∷ 0xef ∷ 1
    ∷ 0xa3 ∷ 0x45 ∷ 0x67 ∷ 0x89 ∷ 0xab ∷ 0xcd ∷ 0xef ∷ 1
    ∷ 1 ∷ 0 ∷ 0xff ∷ 0xff ∷ 0x0c ∷ 8 ∷ 0x0b ∷ 7 ∷ 0x0c ∷ 6 ∷ 0x0b ∷ 5 ∷ 0x0c ∷ 4 ∷ 0x0b ∷ 3 ∷ 0x4a ∷ 0x12 ∷ 0x3f ∷ 0x11 ∷ 0x2d ∷ 0x0e ∷ 0x4b ∷ 0x13
    ∷ replicate (path_size - 228) 0)
    -- the ids held there, and the other way: the router rule by hand over the Rust's paths
    ∷ case (hold wide_book wide1 wide2 (solution 5 (edge 0 0 2 0 ∷ edge 1 0 1 1 ∷ []))) (0x0c1d ∷ 0x0d1f ∷ 0x8b88 ∷ 0xabb9 ∷ 0xabb9 ∷ 0xc9df ∷ [])
    ∷ case (hold wide_book wide2 wide1 (solution 5 (edge 1 0 1 0 ∷ edge 0 0 2 1 ∷ []))) (0xc9df ∷ 0xabb9 ∷ 0xabb9 ∷ 0x8b88 ∷ 0x0d1f ∷ 0x0c1d ∷ [])
    -- the other way
    ∷ prints wide_book wide2 wide1
    "solutions 1 paths 1\n1 cost 5 segments 2 mtu 45491 expiry 4275947064 hops 6\ninfo 2 c9df 4275878553\ninfo 3 abb9 4275878552\nif a3456789abcdef01 19219\nif a3456789abcdef01 11534\nif 8123456789abcdef 16145\nif 8123456789abcdef 18962\nif 0001ff0000000110 2819\nif 0001ff0000000110 3076\nif 0001ff0000000111 2821\nif 0001ff0000000111 3078\nif 0001ff0000000112 2823\nif 0001ff0000000112 3080\nif 923456789abcdef0 65535\nif 923456789abcdef0 256\n"
    -- peer 0 before 1, 2 and 3, on the first edge, whatever the fingerprint
    ∷ case (list ranked_book a110 a113 64) (4 ∷ (solution 2 (edge 3 0 1 0 ∷ edge 4 2 4 1 ∷ []) ++ solution 2 (edge 2 0 2 0 ∷ edge 4 2 3 1 ∷ []) ++ solution 2 (edge 1 0 3 0 ∷ edge 4 2 2 1 ∷ []) ++ solution 2 (edge 0 0 4 0 ∷ edge 4 2 1 1 ∷ [])))
    -- the hop of peer 3
    ∷ case (sketch (others (segment 1 1 (linked a110 0 1 (link a114 1 1 ∷ link a114 2 2 ∷ link a114 3 3 ∷ link a112 14 4 ∷ []) ∷ []) ∷ segment 1 2 (linked a112 0 9 (link a114 5 5 ∷ link a114 6 6 ∷ link a114 7 7 ∷ link a110 4 14 ∷ []) ∷ plain a113 5 0 ∷ []) ∷ []) ∷ []) a110 a113) (2 ∷ 1 ∷ 0x0103 ∷ 3 ∷ 2 ∷ 0x0100 ∷ 4 ∷ 0 ∷ 14 ∷ 0 ∷ 5 ∷ 0 ∷ 4 ∷ 14 ∷ 5 ∷ [])
    -- more than two solutions. By hand: their order, by positions
    ∷ prints (others (one ∷ segment 1 2 (plain a110 0 1 ∷ plain a111 2 0 ∷ []) ∷ segment 1 3 (plain a110 0 1 ∷ plain a111 2 0 ∷ []) ∷ [])) a111 a110
    "solutions 3 paths 3\n1 cost 1 segments 1 mtu 1500 expiry 21601 hops 2\ninfo 0 0103 1\nif 0001ff0000000111 2\nif 0001ff0000000110 1\n2 cost 1 segments 1 mtu 1500 expiry 21601 hops 2\ninfo 0 0100 1\nif 0001ff0000000111 2\nif 0001ff0000000110 1\n3 cost 1 segments 1 mtu 1500 expiry 21601 hops 2\ninfo 0 0101 1\nif 0001ff0000000111 2\nif 0001ff0000000110 1\n"
    -- peers of the third entry, from 0 to 3
    ∷ case (list ranked_book a113 a110 64) (4 ∷ (solution 2 (edge 4 2 1 0 ∷ edge 0 0 4 1 ∷ []) ++ solution 2 (edge 4 2 2 0 ∷ edge 1 0 3 1 ∷ []) ++ solution 2 (edge 4 2 3 0 ∷ edge 2 0 2 1 ∷ []) ++ solution 2 (edge 4 2 4 0 ∷ edge 3 0 1 1 ∷ [])))
    -- a peering end is no other side of the same link
    ∷ case (list (others (segment 1 1 (linked a110 0 1 (link a114 5 6 ∷ []) ∷ plain a111 2 0 ∷ []) ∷ segment 1 2 (linked a110 0 3 (link a114 5 6 ∷ []) ∷ plain a112 4 0 ∷ []) ∷ [])) a111 a112 16) (1 ∷ solution 2 (edge 0 0 0 0 ∷ edge 1 0 0 1 ∷ []))
    -- interfaces of a link that are equal in their low byte: no link
    ∷ case (list (others (segment 1 1 (linked a110 0 0 (link a111 7 5 ∷ []) ∷ []) ∷ segment 1 2 (linked a111 0 0 (link a110 261 7 ∷ link a110 5 263 ∷ []) ∷ []) ∷ [])) a110 a111 16) (0 ∷ replicate 16 0)
    -- all five segments count
    ∷ case (list close_book a112 a111 80) (5 ∷ (solution 1 (edge 0 1 0 0 ∷ []) ++ solution 1 (edge 1 1 0 0 ∷ []) ++ solution 1 (edge 2 1 0 0 ∷ []) ++ solution 1 (edge 3 1 0 0 ∷ []) ++ solution 3 (edge 4 2 0 1 ∷ edge 4 1 0 0 ∷ [])))
    -- the cheaper first: 31, 32, 33
    ∷ case (list costly_book a110 a114 48) (3 ∷ (solution 31 (edge 3 0 0 0 ∷ edge 0 0 0 1 ∷ edge 4 0 0 1 ∷ []) ++ solution 32 (edge 3 0 0 0 ∷ edge 1 0 0 1 ∷ edge 4 0 0 1 ∷ []) ++ solution 33 (edge 3 0 0 0 ∷ edge 2 0 0 1 ∷ edge 4 0 0 1 ∷ [])))
    -- the second edge's keys before the third's; ties by 5.3: the third edge's position
    ∷ case (list fan_book a112 a113 96) (6 ∷ (solution 3 (edge 2 0 0 0 ∷ edge 1 0 0 1 ∷ edge 4 0 0 1 ∷ []) ++ solution 3 (edge 2 0 0 0 ∷ edge 1 0 0 1 ∷ edge 5 0 0 1 ∷ []) ++ solution 3 (edge 2 0 0 0 ∷ edge 1 0 0 1 ∷ edge 3 0 0 1 ∷ []) ++ solution 3 (edge 2 0 0 0 ∷ edge 0 0 0 1 ∷ edge 4 0 0 1 ∷ []) ++ solution 3 (edge 2 0 0 0 ∷ edge 0 0 0 1 ∷ edge 5 0 0 1 ∷ []) ++ solution 3 (edge 2 0 0 0 ∷ edge 0 0 0 1 ∷ edge 3 0 0 1 ∷ [])))
    -- the fingerprint's input has both bytes of an egress
    ∷ case (list (others (segment 1 1 (plain a110 0 258 ∷ plain a111 2 0 ∷ []) ∷ segment 1 2 (plain a110 0 3 ∷ plain a111 2 0 ∷ []) ∷ [])) a111 a110 32) (2 ∷ (solution 1 (edge 1 0 0 0 ∷ []) ++ solution 1 (edge 0 0 0 0 ∷ [])))
    -- and of an ingress
    ∷ case (list (others (segment 1 1 (plain a110 0 1 ∷ plain a111 257 0 ∷ []) ∷ segment 1 2 (plain a110 0 1 ∷ plain a111 3 0 ∷ []) ∷ [])) a111 a110 32) (2 ∷ (solution 1 (edge 1 0 0 0 ∷ []) ++ solution 1 (edge 0 0 0 0 ∷ [])))
    -- the fourth entry
    ∷ case (list (others (segment 1 1 (plain a110 0 1 ∷ plain a111 2 3 ∷ plain a112 4 5 ∷ plain a113 2 0 ∷ []) ∷ segment 1 2 (plain a110 0 1 ∷ plain a111 2 3 ∷ plain a112 4 5 ∷ plain a113 1 0 ∷ []) ∷ [])) a113 a110 32) (2 ∷ (solution 3 (edge 1 0 0 0 ∷ []) ++ solution 3 (edge 0 0 0 0 ∷ [])))
    -- and one in the middle, whole and at a shortcut
    ∷ case (list middle_book a112 a110 32) (2 ∷ (solution 2 (edge 1 0 0 0 ∷ []) ++ solution 2 (edge 0 0 0 0 ∷ [])))
    ∷ case (list middle_book a112 a111 32) (2 ∷ (solution 1 (edge 1 1 0 0 ∷ []) ++ solution 1 (edge 0 1 0 0 ∷ [])))
    -- and no peers. By hand: both inputs are equal, so that positions decide
    ∷ case (list (others (segment 1 1 (linked a110 0 1 (link a114 9 9 ∷ []) ∷ plain a111 2 0 ∷ []) ∷ segment 1 2 (linked a110 0 1 (link a114 5 5 ∷ []) ∷ plain a111 2 0 ∷ []) ∷ [])) a111 a110 32) (2 ∷ (solution 1 (edge 0 0 0 0 ∷ []) ++ solution 1 (edge 1 0 0 0 ∷ [])))
    -- larger shortcut first: 3 before 2, whatever the fingerprint
    ∷ case (list (others (segment 1 1 (plain a110 0 1 ∷ plain a113 2 3 ∷ plain a111 4 5 ∷ plain a112 6 0 ∷ []) ∷ segment 1 2 (plain a114 0 1 ∷ plain a113 2 3 ∷ plain b110 4 5 ∷ plain a111 6 7 ∷ plain a112 8 0 ∷ []) ∷ [])) a112 a111 32) (2 ∷ (solution 1 (edge 1 3 0 0 ∷ []) ++ solution 1 (edge 0 2 0 0 ∷ [])))
    -- direction is no key, the other way round
    ∷ case (list (others (segment 1 1 (plain a114 0 1 ∷ plain a110 2 3 ∷ plain a111 4 0 ∷ []) ∷ segment 1 2 (plain a113 0 1 ∷ plain a111 5 6 ∷ plain a110 7 0 ∷ []) ∷ [])) a111 a110 32) (2 ∷ (solution 1 (edge 1 1 0 1 ∷ []) ++ solution 1 (edge 0 1 0 0 ∷ [])))
    -- position 33
    ∷ case (list (others (replicate 33 (segment 1 2 []) ++ (one ∷ []))) a111 a110 16) (1 ∷ solution 1 (edge 33 0 0 0 ∷ []))
    -- shortcut 9
    ∷ case (list (alone (map (λ a. plain a 1 1) (in_row a200 9) ++ (plain a110 2 3 ∷ plain a111 4 0 ∷ []))) a111 a110 16) (1 ∷ solution 1 (edge 0 9 0 0 ∷ []))
    -- a core: the least MTU and units at the shortcut, in the middle and at the leaf; hops and interfaces; both ways
    ∷ case (least (core_each (row [] [])) a112 a110) (900 ∷ 21601 ∷ 901 ∷ 21601 ∷ 902 ∷ 21601 ∷ 800 ∷ 2701 ∷ 801 ∷ 3038 ∷ 802 ∷ 3376 ∷ [])
    ∷ case (least (core_each (row [] [])) a110 a112) (900 ∷ 21601 ∷ 901 ∷ 21601 ∷ 902 ∷ 21601 ∷ 800 ∷ 2701 ∷ 801 ∷ 3038 ∷ 802 ∷ 3376 ∷ [])
    ∷ case (sketch (core_each (take 1 (row [] []))) a112 a110) (0 ∷ 3 ∷ 0x0b08 ∷ 5 ∷ 6 ∷ 3 ∷ 4 ∷ 1 ∷ 2 ∷ 6 ∷ 5 ∷ 4 ∷ 3 ∷ 2 ∷ 1 ∷ [])
    ∷ case (sketch (core_each (take 1 (row [] []))) a110 a112) (1 ∷ 3 ∷ 0x0001 ∷ 1 ∷ 2 ∷ 3 ∷ 4 ∷ 5 ∷ 6 ∷ 1 ∷ 2 ∷ 3 ∷ 4 ∷ 5 ∷ 6 ∷ [])
    -- a whole segment: the least MTU and units at the shortcut, in the middle and at the leaf; hops and interfaces; both ways
    ∷ case (least (each (row [] [])) a112 a110) (900 ∷ 21601 ∷ 901 ∷ 21601 ∷ 902 ∷ 21601 ∷ 800 ∷ 2701 ∷ 801 ∷ 3038 ∷ 802 ∷ 3376 ∷ [])
    ∷ case (least (each (row [] [])) a110 a112) (900 ∷ 21601 ∷ 901 ∷ 21601 ∷ 902 ∷ 21601 ∷ 800 ∷ 2701 ∷ 801 ∷ 3038 ∷ 802 ∷ 3376 ∷ [])
    ∷ case (sketch (each (take 1 (row [] []))) a112 a110) (0 ∷ 3 ∷ 0x0b08 ∷ 5 ∷ 6 ∷ 3 ∷ 4 ∷ 1 ∷ 2 ∷ 6 ∷ 5 ∷ 4 ∷ 3 ∷ 2 ∷ 1 ∷ [])
    ∷ case (sketch (each (take 1 (row [] []))) a110 a112) (1 ∷ 3 ∷ 0x0001 ∷ 1 ∷ 2 ∷ 3 ∷ 4 ∷ 5 ∷ 6 ∷ 1 ∷ 2 ∷ 3 ∷ 4 ∷ 5 ∷ 6 ∷ [])
    -- to a shortcut of 1: the least MTU and units at the shortcut, in the middle and at the leaf; hops and interfaces; both ways
    ∷ case (least (each (row under1 [])) a112 a110) (900 ∷ 21601 ∷ 901 ∷ 21601 ∷ 902 ∷ 21601 ∷ 8000 ∷ 2701 ∷ 801 ∷ 3038 ∷ 802 ∷ 3376 ∷ [])
    ∷ case (least (each (row under1 [])) a110 a112) (900 ∷ 21601 ∷ 901 ∷ 21601 ∷ 902 ∷ 21601 ∷ 8000 ∷ 2701 ∷ 801 ∷ 3038 ∷ 802 ∷ 3376 ∷ [])
    ∷ case (sketch (each (take 1 (row under1 []))) a112 a110) (0 ∷ 3 ∷ 0x8d9f ∷ 5 ∷ 6 ∷ 3 ∷ 4 ∷ 1 ∷ 2 ∷ 6 ∷ 5 ∷ 4 ∷ 3 ∷ 2 ∷ [])
    ∷ case (sketch (each (take 1 (row under1 []))) a110 a112) (1 ∷ 3 ∷ 0x8696 ∷ 1 ∷ 2 ∷ 3 ∷ 4 ∷ 5 ∷ 6 ∷ 2 ∷ 3 ∷ 4 ∷ 5 ∷ 6 ∷ [])
    -- to a shortcut of 2: the least MTU and units at the shortcut, in the middle and at the leaf; hops and interfaces; both ways
    ∷ case (least (each (row under2 [])) a112 a110) (900 ∷ 21601 ∷ 901 ∷ 21601 ∷ 902 ∷ 21601 ∷ 8000 ∷ 2701 ∷ 801 ∷ 3038 ∷ 802 ∷ 3376 ∷ [])
    ∷ case (least (each (row under2 [])) a110 a112) (900 ∷ 21601 ∷ 901 ∷ 21601 ∷ 902 ∷ 21601 ∷ 8000 ∷ 2701 ∷ 801 ∷ 3038 ∷ 802 ∷ 3376 ∷ [])
    ∷ case (sketch (each (take 1 (row under2 []))) a112 a110) (0 ∷ 3 ∷ 0x8794 ∷ 5 ∷ 6 ∷ 3 ∷ 4 ∷ 1 ∷ 2 ∷ 6 ∷ 5 ∷ 4 ∷ 3 ∷ 2 ∷ [])
    ∷ case (sketch (each (take 1 (row under2 []))) a110 a112) (1 ∷ 3 ∷ 0x8c9d ∷ 1 ∷ 2 ∷ 3 ∷ 4 ∷ 5 ∷ 6 ∷ 2 ∷ 3 ∷ 4 ∷ 5 ∷ 6 ∷ [])
    -- over a peer of the first entry: the same, and the peer's own MTU and units
    ∷ case (least (linked_each a110 (peered [] [])) a112 a113) (900 ∷ 20926 ∷ 901 ∷ 20926 ∷ 902 ∷ 20926 ∷ 8000 ∷ 20926 ∷ 801 ∷ 3038 ∷ 802 ∷ 3376 ∷ 700 ∷ 2363 ∷ [])
    ∷ case (least (linked_each a110 (peered [] [])) a113 a112) (900 ∷ 20926 ∷ 901 ∷ 20926 ∷ 902 ∷ 20926 ∷ 8000 ∷ 20926 ∷ 801 ∷ 3038 ∷ 802 ∷ 3376 ∷ 700 ∷ 2363 ∷ [])
    ∷ case (sketch (linked_each a110 (take 1 (peered [] []))) a112 a113) (2 ∷ 3 ∷ 0x0b08 ∷ 3 ∷ 1 ∷ 0x010a ∷ 5 ∷ 6 ∷ 3 ∷ 4 ∷ 22 ∷ 23 ∷ 21 ∷ 24 ∷ 6 ∷ 5 ∷ 4 ∷ 3 ∷ 23 ∷ 22 ∷ 21 ∷ 24 ∷ [])
    ∷ case (sketch (linked_each a110 (take 1 (peered [] []))) a113 a112) (2 ∷ 1 ∷ 0x010a ∷ 3 ∷ 3 ∷ 0x0103 ∷ 21 ∷ 24 ∷ 22 ∷ 23 ∷ 3 ∷ 4 ∷ 5 ∷ 6 ∷ 24 ∷ 21 ∷ 22 ∷ 23 ∷ 3 ∷ 4 ∷ 5 ∷ 6 ∷ [])
    -- over a second peer of the first entry: the same, and the peer's own MTU and units
    ∷ case (least (linked_each a110 (peered [] other)) a112 a113) (900 ∷ 20926 ∷ 901 ∷ 20926 ∷ 902 ∷ 20926 ∷ 8000 ∷ 20926 ∷ 801 ∷ 3038 ∷ 802 ∷ 3376 ∷ 700 ∷ 2363 ∷ [])
    ∷ case (least (linked_each a110 (peered [] other)) a113 a112) (900 ∷ 20926 ∷ 901 ∷ 20926 ∷ 902 ∷ 20926 ∷ 8000 ∷ 20926 ∷ 801 ∷ 3038 ∷ 802 ∷ 3376 ∷ 700 ∷ 2363 ∷ [])
    ∷ case (sketch (linked_each a110 (take 1 (peered [] other))) a112 a113) (2 ∷ 3 ∷ 0x0b08 ∷ 3 ∷ 1 ∷ 0x010a ∷ 5 ∷ 6 ∷ 3 ∷ 4 ∷ 22 ∷ 23 ∷ 21 ∷ 24 ∷ 6 ∷ 5 ∷ 4 ∷ 3 ∷ 23 ∷ 22 ∷ 21 ∷ 24 ∷ [])
    ∷ case (sketch (linked_each a110 (take 1 (peered [] other))) a113 a112) (2 ∷ 1 ∷ 0x010a ∷ 3 ∷ 3 ∷ 0x0103 ∷ 21 ∷ 24 ∷ 22 ∷ 23 ∷ 3 ∷ 4 ∷ 5 ∷ 6 ∷ 24 ∷ 21 ∷ 22 ∷ 23 ∷ 3 ∷ 4 ∷ 5 ∷ 6 ∷ [])
    -- over a peer at a shortcut: the same, and the peer's own MTU and units
    ∷ case (least (linked_each a110 (peered under1 [])) a112 a113) (900 ∷ 20926 ∷ 901 ∷ 20926 ∷ 902 ∷ 20926 ∷ 8000 ∷ 20926 ∷ 801 ∷ 3038 ∷ 802 ∷ 3376 ∷ 700 ∷ 2363 ∷ [])
    ∷ case (least (linked_each a110 (peered under1 [])) a113 a112) (900 ∷ 20926 ∷ 901 ∷ 20926 ∷ 902 ∷ 20926 ∷ 8000 ∷ 20926 ∷ 801 ∷ 3038 ∷ 802 ∷ 3376 ∷ 700 ∷ 2363 ∷ [])
    ∷ case (sketch (linked_each a110 (take 1 (peered under1 []))) a112 a113) (2 ∷ 3 ∷ 0x8d9f ∷ 3 ∷ 1 ∷ 0x010a ∷ 5 ∷ 6 ∷ 3 ∷ 4 ∷ 22 ∷ 23 ∷ 21 ∷ 24 ∷ 6 ∷ 5 ∷ 4 ∷ 3 ∷ 23 ∷ 22 ∷ 21 ∷ 24 ∷ [])
    ∷ case (sketch (linked_each a110 (take 1 (peered under1 []))) a113 a112) (2 ∷ 1 ∷ 0x010a ∷ 3 ∷ 3 ∷ 0x8794 ∷ 21 ∷ 24 ∷ 22 ∷ 23 ∷ 3 ∷ 4 ∷ 5 ∷ 6 ∷ 24 ∷ 21 ∷ 22 ∷ 23 ∷ 3 ∷ 4 ∷ 5 ∷ 6 ∷ [])
    -- over a second peer at a shortcut: the same, and the peer's own MTU and units
    ∷ case (least (linked_each a110 (peered under1 other)) a112 a113) (900 ∷ 20926 ∷ 901 ∷ 20926 ∷ 902 ∷ 20926 ∷ 8000 ∷ 20926 ∷ 801 ∷ 3038 ∷ 802 ∷ 3376 ∷ 700 ∷ 2363 ∷ [])
    ∷ case (least (linked_each a110 (peered under1 other)) a113 a112) (900 ∷ 20926 ∷ 901 ∷ 20926 ∷ 902 ∷ 20926 ∷ 8000 ∷ 20926 ∷ 801 ∷ 3038 ∷ 802 ∷ 3376 ∷ 700 ∷ 2363 ∷ [])
    ∷ case (sketch (linked_each a110 (take 1 (peered under1 other))) a112 a113) (2 ∷ 3 ∷ 0x8d9f ∷ 3 ∷ 1 ∷ 0x010a ∷ 5 ∷ 6 ∷ 3 ∷ 4 ∷ 22 ∷ 23 ∷ 21 ∷ 24 ∷ 6 ∷ 5 ∷ 4 ∷ 3 ∷ 23 ∷ 22 ∷ 21 ∷ 24 ∷ [])
    ∷ case (sketch (linked_each a110 (take 1 (peered under1 other))) a113 a112) (2 ∷ 1 ∷ 0x010a ∷ 3 ∷ 3 ∷ 0x8794 ∷ 21 ∷ 24 ∷ 22 ∷ 23 ∷ 3 ∷ 4 ∷ 5 ∷ 6 ∷ 24 ∷ 21 ∷ 22 ∷ 23 ∷ 3 ∷ 4 ∷ 5 ∷ 6 ∷ [])
    -- over a peer of a leaf
    ∷ case (least (linked_each a111 (leaves [])) a111 a113) (900 ∷ 20926 ∷ 8400 ∷ 20926 ∷ 700 ∷ 2363 ∷ [])
    ∷ case (least (linked_each a111 (leaves [])) a113 a111) (900 ∷ 20926 ∷ 8400 ∷ 20926 ∷ 700 ∷ 2363 ∷ [])
    ∷ case (sketch (linked_each a111 (take 1 (leaves []))) a111 a113) (2 ∷ 1 ∷ 0x0b08 ∷ 3 ∷ 1 ∷ 0x010a ∷ 22 ∷ 23 ∷ 21 ∷ 24 ∷ 23 ∷ 22 ∷ 21 ∷ 24 ∷ [])
    ∷ case (sketch (linked_each a111 (take 1 (leaves []))) a113 a111) (2 ∷ 1 ∷ 0x010a ∷ 3 ∷ 1 ∷ 0x0b08 ∷ 21 ∷ 24 ∷ 22 ∷ 23 ∷ 24 ∷ 21 ∷ 22 ∷ 23 ∷ [])
    -- over a second peer of a leaf
    ∷ case (least (linked_each a111 (leaves other)) a111 a113) (900 ∷ 20926 ∷ 8400 ∷ 20926 ∷ 700 ∷ 2363 ∷ [])
    ∷ case (least (linked_each a111 (leaves other)) a113 a111) (900 ∷ 20926 ∷ 8400 ∷ 20926 ∷ 700 ∷ 2363 ∷ [])
    ∷ case (sketch (linked_each a111 (take 1 (leaves other))) a111 a113) (2 ∷ 1 ∷ 0x0b08 ∷ 3 ∷ 1 ∷ 0x010a ∷ 22 ∷ 23 ∷ 21 ∷ 24 ∷ 23 ∷ 22 ∷ 21 ∷ 24 ∷ [])
    ∷ case (sketch (linked_each a111 (take 1 (leaves other))) a113 a111) (2 ∷ 1 ∷ 0x010a ∷ 3 ∷ 1 ∷ 0x0b08 ∷ 21 ∷ 24 ∷ 22 ∷ 23 ∷ 24 ∷ 21 ∷ 22 ∷ 23 ∷ [])
    -- over a peer of a leaf that is alone
    ∷ case (least (linked_each a111 (lone [])) a111 a113) (900 ∷ 20926 ∷ 8400 ∷ 20926 ∷ 700 ∷ 2363 ∷ [])
    ∷ case (least (linked_each a111 (lone [])) a113 a111) (900 ∷ 20926 ∷ 8400 ∷ 20926 ∷ 700 ∷ 2363 ∷ [])
    ∷ case (sketch (linked_each a111 (take 1 (lone []))) a111 a113) (2 ∷ 1 ∷ 0x0a0a ∷ 3 ∷ 1 ∷ 0x010a ∷ 22 ∷ 23 ∷ 21 ∷ 24 ∷ 23 ∷ 22 ∷ 21 ∷ 24 ∷ [])
    ∷ case (sketch (linked_each a111 (take 1 (lone []))) a113 a111) (2 ∷ 1 ∷ 0x010a ∷ 3 ∷ 1 ∷ 0x0a0a ∷ 21 ∷ 24 ∷ 22 ∷ 23 ∷ 24 ∷ 21 ∷ 22 ∷ 23 ∷ [])
    -- over a second peer of a leaf that is alone
    ∷ case (least (linked_each a111 (lone other)) a111 a113) (900 ∷ 20926 ∷ 8400 ∷ 20926 ∷ 700 ∷ 2363 ∷ [])
    ∷ case (least (linked_each a111 (lone other)) a113 a111) (900 ∷ 20926 ∷ 8400 ∷ 20926 ∷ 700 ∷ 2363 ∷ [])
    ∷ case (sketch (linked_each a111 (take 1 (lone other))) a111 a113) (2 ∷ 1 ∷ 0x0a0a ∷ 3 ∷ 1 ∷ 0x010a ∷ 22 ∷ 23 ∷ 21 ∷ 24 ∷ 23 ∷ 22 ∷ 21 ∷ 24 ∷ [])
    ∷ case (sketch (linked_each a111 (take 1 (lone other))) a113 a111) (2 ∷ 1 ∷ 0x010a ∷ 3 ∷ 1 ∷ 0x0a0a ∷ 21 ∷ 24 ∷ 22 ∷ 23 ∷ 24 ∷ 21 ∷ 22 ∷ 23 ∷ [])
    -- the MTU of the first of three edges
    ∷ case (least (book (one ∷ []) (segment 1 2 (plain a110 0 3 ∷ plain a112 4 0 ∷ []) ∷ segment 1 3 (entry a111 1300 0 0 5 63 mac0 [] ∷ plain a113 6 0 ∷ []) ∷ []) ∷ []) a113 a112) (1300 ∷ 21601 ∷ [])
    -- on the second edge the peer before shortcut and fingerprint
    ∷ case (list down_book a110 a113 32) (2 ∷ (solution 2 (edge 0 0 1 0 ∷ edge 2 0 1 1 ∷ []) ++ solution 2 (edge 0 0 1 0 ∷ edge 1 1 2 1 ∷ [])))
    -- three edges: on the first the shortcut, the fingerprint, the position
    ∷ case (list up_book a112 a113 64) (4 ∷ (solution 3 (edge 4 1 0 0 ∷ edge 0 0 0 1 ∷ edge 5 0 0 1 ∷ []) ++ solution 3 (edge 2 0 0 0 ∷ edge 0 0 0 1 ∷ edge 5 0 0 1 ∷ []) ++ solution 3 (edge 3 0 0 0 ∷ edge 0 0 0 1 ∷ edge 5 0 0 1 ∷ []) ++ solution 3 (edge 1 0 0 0 ∷ edge 0 0 0 1 ∷ edge 5 0 0 1 ∷ [])))
    -- three edges: the position of the second, and on the third the shortcut
    ∷ case (list last_book a112 a113 64) (4 ∷ (solution 3 (edge 2 0 0 0 ∷ edge 0 0 0 1 ∷ edge 4 1 0 1 ∷ []) ++ solution 3 (edge 2 0 0 0 ∷ edge 1 0 0 1 ∷ edge 4 1 0 1 ∷ []) ++ solution 3 (edge 2 0 0 0 ∷ edge 0 0 0 1 ∷ edge 3 0 0 1 ∷ []) ++ solution 3 (edge 2 0 0 0 ∷ edge 1 0 0 1 ∷ edge 3 0 0 1 ∷ [])))
    -- a third peer of a first entry and of a leaf, both ways
    ∷ case (list third_book a111 a113 32) (2 ∷ (solution 1 (edge 1 1 3 0 ∷ edge 2 0 2 1 ∷ []) ++ solution 2 (edge 0 0 3 0 ∷ edge 2 0 1 1 ∷ [])))
    ∷ case (list third_book a113 a111 32) (2 ∷ (solution 1 (edge 2 0 2 0 ∷ edge 1 1 3 1 ∷ []) ++ solution 2 (edge 2 0 1 0 ∷ edge 0 0 3 1 ∷ [])))
    -- the timestamp of position 3
    ∷ case (least (others (replicate 3 (segment 5 5 []) ++ (one ∷ [])) ∷ []) a111 a110) (1500 ∷ 21601 ∷ [])
    ∷ []

-- A sixth table of computed cases: the order of two solution records, and how many fingerprints are worked out for it (docs/SPECIFICATION.md 5.6, 5.7).
-- Every answer is worked out by hand. The digest hands its input back, as in the second table, and SHA-256 orders the segments of these books alike.
-- Assumes nothing.
use Prim.Native.Nat.{ℕ}
use mathlib.Core.Bool.{◌&&◌}
use mathlib.Core.List.{List, [], ◌∷◌, ◌++◌, flat_map}
use lib.ListN.{replicate, set, take}
use lib.Dec.{T}
use Rattle.sha256.specs.Words
use Rattle.sha256.specs.Constants
use Rattle.sha256.specs.Hash
use Rattle.sha256.specs.Message
use Rattle.spec.specs.Basics
use Rattle.spec.specs.Octets
use Rattle.spec.specs.Book
use Rattle.spec.specs.Edges
use Rattle.spec.specs.Chains
use Rattle.spec.specs.Order
use Rattle.spec.specs.Digests
use Rattle.spec.specs.Records
use Rattle.spec.specs.ByRecord
use Rattle.spec.proofs.CasesForm.{entry, peer, Draft, segment, book, edge, solution, Question, compared, compared_all, Case, case, order_number, each_next, answer, right, every, a110, a111, a112, a113, mac0, mac1, mac2}
use Rattle.spec.proofs.AddedCases.{costs_book, none_book, twins_book, fingerprint_book, unhashed}

-- ---- how they are written

-- a segment of one entry: timestamp, egress
abbrev pub issue : ℕ → ℕ → Draft
issue timestamp egress = segment timestamp 1 (entry a110 1500 0 0 egress 63 mac0 [] ∷ [])

-- Segments of one entry, but for the last, which has none. By fingerprint the last comes first, then those at 1 and 3, that at 4, those at 0, 2 and 5.
-- 2 is 0 issued anew, with another timestamp. 3 is 1 issued anew, and differs from it in all that the fingerprint leaves out. 5 is 2 once more.
-- The head of a position from 25 on is past the last byte, and reads as no entries.
abbrev pub ties_book : List ℕ
ties_book =
    book
    (issue 1 68 ∷ issue 1 22 ∷ [])
    (issue 2 68
    ∷ segment 2 2 (entry a110 1400 90 0 22 9 mac1 (peer a111 5 1300 8 6 7 mac2 ∷ []) ∷ [])
    ∷ issue 1 62
    ∷ issue 2 68
    ∷ segment 1 1 []
    ∷ [])

-- No segment by its sizes. Where the head of position 0 would stand it says one entry, which is read from there too: AS 1, ingress 0, egress 5.
abbrev pub stray_book : List ℕ
stray_book = replicate 15 0 ++ (1 ∷ []) ++ replicate 9 0 ++ (5 ∷ [])

-- edges at a position: whole, with a peer (index plus 1), to a shortcut
abbrev pub at : ℕ → List ℕ
at position = edge position 0 0 0

abbrev pub by : ℕ → ℕ → List ℕ
by position index = edge position 0 index 0

abbrev pub to : ℕ → ℕ → List ℕ
to position shortcut = edge position shortcut 0 0

-- records of cost 3
abbrev pub one : List ℕ → List ℕ
one e = solution 3 (e ∷ [])

abbrev pub two : List ℕ → List ℕ → List ℕ
two e f = solution 3 (e ∷ f ∷ [])

abbrev pub three : List ℕ → List ℕ → List ℕ → List ℕ
three e f g = solution 3 (e ∷ f ∷ g ∷ [])

abbrev pub ties : List ℕ → List ℕ → Question
ties r s = compared ties_book (r ∷ s ∷ r ∷ [])

-- the first record before the second, and the second after the first; after; neither: with so many fingerprints, whichever is asked first
abbrev pub before : ℕ → List ℕ
before n = 0 ∷ n ∷ 2 ∷ n ∷ []

abbrev pub after : ℕ → List ℕ
after n = 2 ∷ n ∷ 0 ∷ n ∷ []

abbrev pub same : ℕ → List ℕ
same n = 1 ∷ n ∷ 1 ∷ n ∷ []

-- a segment of two entries: timestamp, AS, egress there, next AS
abbrev pub link : ℕ → ℕ → ℕ → ℕ → Draft
link timestamp from egress next = segment timestamp 1 (entry from 1500 0 0 egress 63 mac0 [] ∷ entry next 1500 0 7 0 63 mac1 [] ∷ [])

-- up from a112, over a core, down to a113: each of the three segments stands twice, issued anew
abbrev pub renewed_book : List ℕ
renewed_book =
    book
    (link 1 a110 1 a111 ∷ link 2 a110 1 a111 ∷ [])
    (link 1 a110 2 a112 ∷ link 2 a110 2 a112 ∷ link 1 a111 3 a113 ∷ link 2 a111 3 a113 ∷ [])

-- the same, but two cores of different fingerprints: that at 1 comes first
abbrev pub cores_book : List ℕ
cores_book =
    book
    (link 1 a110 3 a111 ∷ link 1 a110 2 a111 ∷ [])
    (link 1 a110 2 a112 ∷ link 2 a110 2 a112 ∷ link 1 a111 3 a113 ∷ link 2 a111 3 a113 ∷ [])

-- ---- the tables

unfoldable pub table : List Case
table =
    -- one record, of three edges and of zeros: nothing is worked out
    case (ties (three (at 0) (at 1) (at 4)) (three (at 0) (at 1) (at 4))) (same 0)
    ∷ case (ties (replicate 16 0) (replicate 16 0)) (same 0)
    -- cost decides, and no edge is looked at, though all are at two positions
    ∷ case (ties (solution 2 (at 0 ∷ at 0 ∷ at 0 ∷ [])) (three (at 1) (at 1) (at 1))) (before 0)
    -- a cost of 259 after 3, of 256 after 255
    ∷ case (ties (set (one (at 1)) 0 1) (one (at 0))) (after 0)
    ∷ case (ties (set (set (one (at 1)) 0 1) 1 0) (set (one (at 0)) 1 255)) (after 0)
    -- edge count decides: two before three, one before two, 200 after three
    ∷ case (ties (two (at 0) (at 0)) (three (at 1) (at 1) (at 1))) (before 0)
    ∷ case (ties (one (at 0)) (two (at 1) (at 1))) (before 0)
    ∷ case (ties (set (three (at 1) (at 1) (at 1)) 2 200) (three (at 0) (at 0) (at 0))) (after 0)
    -- cost before edge count
    ∷ case (ties (solution 2 (at 0 ∷ at 0 ∷ at 0 ∷ [])) (one (at 1))) (before 0)
    -- the peer of the first edge decides, none before 0 and 0 before 1: at two positions nothing is worked out
    ∷ case (ties (one (at 0)) (one (by 1 1))) (before 0)
    ∷ case (ties (one (by 0 1)) (one (by 1 2))) (before 0)
    ∷ case (ties (one (by 0 4)) (one (by 1 5))) (before 0)
    ∷ case (ties (one (by 0 127)) (one (by 1 255))) (before 0)
    -- its shortcut decides, the larger first
    ∷ case (ties (one (to 0 1)) (one (at 1))) (before 0)
    ∷ case (ties (one (edge 0 2 1 0)) (one (edge 1 1 1 0))) (before 0)
    ∷ case (ties (one (to 0 16)) (one (to 1 15))) (before 0)
    ∷ case (ties (one (to 0 255)) (one (to 1 127))) (before 0)
    -- peer before shortcut, on each edge
    ∷ case (ties (one (at 0)) (one (edge 1 1 1 0))) (before 0)
    ∷ case (ties (two (at 4) (at 0)) (two (at 4) (edge 1 1 1 0))) (before 0)
    ∷ case (ties (three (at 4) (at 4) (at 0)) (three (at 4) (at 4) (edge 1 1 1 0))) (before 0)
    -- either at one position
    ∷ case (ties (one (at 0)) (one (by 0 1))) (before 0)
    ∷ case (ties (one (to 0 1)) (one (at 0))) (before 0)
    -- nothing is worked out after it
    ∷ case (ties (three (at 0) (at 0) (at 0)) (three (by 1 1) (at 1) (at 1))) (before 0)
    ∷ case (ties (three (to 0 1) (at 0) (at 0)) (three (at 1) (at 1) (at 1))) (before 0)
    ∷ case (ties (three (at 0) (at 0) (at 0)) (three (by 0 1) (at 1) (at 1))) (before 0)
    ∷ case (ties (three (to 0 1) (at 0) (at 0)) (three (at 0) (at 1) (at 1))) (before 0)
    -- the first pair at two positions, of different fingerprints: two, and these decide, not the positions
    ∷ case (ties (one (at 1)) (one (at 0))) (before 2)
    ∷ case (ties (one (at 4)) (one (at 0))) (before 2)
    ∷ case (ties (one (at 1)) (one (at 4))) (before 2)
    ∷ case (ties (one (at 3)) (one (at 2))) (before 2)
    -- the others at one position
    ∷ case (ties (three (at 1) (at 4) (at 4)) (three (at 0) (at 4) (at 4))) (before 2)
    -- the others at two: nothing is worked out after the pair that decides
    ∷ case (ties (three (at 1) (at 0) (at 0)) (three (at 0) (at 1) (at 1))) (before 2)
    ∷ case (ties (three (at 1) (at 2) (at 2)) (three (at 0) (at 0) (at 0))) (before 2)
    -- with equal peers, equal shortcuts, both
    ∷ case (ties (one (by 1 1)) (one (by 0 1))) (before 2)
    ∷ case (ties (one (to 1 2)) (one (to 0 2))) (before 2)
    ∷ case (ties (one (edge 1 2 2 0)) (one (edge 0 2 2 0))) (before 2)
    -- the byte after the edge count is no key
    ∷ case (ties (set (one (at 0)) 3 9) (one (at 0))) (same 0)
    ∷ case (ties (set (one (at 1)) 3 9) (one (at 0))) (before 2)
    -- the direction is no key: of different fingerprints, at one position, of a segment issued anew, before another pair
    ∷ case (ties (one (edge 1 0 0 1)) (one (at 0))) (before 2)
    ∷ case (ties (one (edge 0 0 0 1)) (one (at 0))) (same 0)
    ∷ case (ties (one (edge 0 0 0 1)) (one (at 2))) (before 2)
    ∷ case (ties (two (edge 4 0 0 1) (at 1)) (two (at 4) (at 0))) (before 2)
    -- a segment issued anew: equal fingerprints at two positions, which are worked out; then positions decide
    ∷ case (ties (one (at 0)) (one (at 2))) (before 2)
    ∷ case (ties (one (at 1)) (one (at 3))) (before 2)
    -- equal segments at two positions
    ∷ case (ties (one (at 2)) (one (at 5))) (before 2)
    -- the first issued anew, and the peer of the second decides, at one position and at two
    ∷ case (ties (two (at 2) (at 4)) (two (at 0) (by 4 1))) (before 2)
    ∷ case (ties (two (at 2) (at 0)) (two (at 0) (by 1 1))) (before 2)
    -- its shortcut decides
    ∷ case (ties (two (at 2) (to 4 1)) (two (at 0) (at 4))) (before 2)
    ∷ case (ties (two (at 2) (to 0 1)) (two (at 0) (at 1))) (before 2)
    -- the second at one position
    ∷ case (ties (two (at 0) (at 4)) (two (at 2) (at 4))) (before 2)
    -- the second at two, of different fingerprints: two for each pair
    ∷ case (ties (two (at 2) (at 1)) (two (at 0) (at 0))) (before 4)
    -- and nothing after it
    ∷ case (ties (three (at 2) (at 1) (at 0)) (three (at 0) (at 0) (at 1))) (before 4)
    ∷ case (ties (three (at 2) (at 1) (at 2)) (three (at 0) (at 0) (at 0))) (before 4)
    -- the second at one position, the third at two; its peer decides; its shortcut does
    ∷ case (ties (three (at 2) (at 4) (at 1)) (three (at 0) (at 4) (at 0))) (before 4)
    ∷ case (ties (three (at 2) (at 4) (at 0)) (three (at 0) (at 4) (by 1 1))) (before 2)
    ∷ case (ties (three (at 2) (at 4) (to 0 1)) (three (at 0) (at 4) (at 1))) (before 2)
    -- the first two issued anew, the third at two positions: the most
    ∷ case (ties (three (at 2) (at 3) (at 1)) (three (at 0) (at 1) (at 0))) (before 6)
    -- the third at one position; its peer decides; its shortcut does
    ∷ case (ties (three (at 0) (at 1) (at 4)) (three (at 2) (at 3) (at 4))) (before 4)
    ∷ case (ties (three (at 2) (at 3) (at 0)) (three (at 0) (at 1) (by 1 1))) (before 4)
    ∷ case (ties (three (at 2) (at 3) (to 0 1)) (three (at 0) (at 1) (at 1))) (before 4)
    -- all three issued anew: positions decide, those of the first edge first
    ∷ case (ties (three (at 0) (at 1) (at 2)) (three (at 2) (at 3) (at 5))) (before 6)
    ∷ case (ties (three (at 0) (at 3) (at 5)) (three (at 2) (at 1) (at 2))) (before 6)
    -- with equal peers and shortcuts
    ∷ case (ties (three (by 0 1) (to 1 2) (edge 2 3 1 1)) (three (by 2 1) (to 3 2) (edge 5 3 1 0))) (before 6)
    -- a fingerprint that two pairs need is worked out for each
    ∷ case (ties (three (at 0) (at 0) (at 0)) (three (at 2) (at 2) (at 2))) (before 6)
    ∷ case (ties (three (at 0) (at 2) (at 0)) (three (at 2) (at 0) (at 2))) (before 6)
    ∷ case (ties (three (at 2) (at 0) (at 1)) (three (at 0) (at 2) (at 0))) (before 6)
    -- the first at one position, the second at two
    ∷ case (ties (two (at 4) (at 1)) (two (at 4) (at 0))) (before 2)
    -- nothing after it
    ∷ case (ties (three (at 4) (at 1) (at 0)) (three (at 4) (at 0) (at 1))) (before 2)
    -- the peer of the second decides, its shortcut does
    ∷ case (ties (three (at 4) (at 0) (at 0)) (three (at 4) (by 1 1) (at 1))) (before 0)
    ∷ case (ties (three (at 4) (to 0 1) (at 0)) (three (at 4) (at 1) (at 1))) (before 0)
    -- the second issued anew: the third at one position, at two; its peer decides; its shortcut does; it is issued anew too
    ∷ case (ties (three (at 4) (at 0) (at 4)) (three (at 4) (at 2) (at 4))) (before 2)
    ∷ case (ties (three (at 4) (at 2) (at 1)) (three (at 4) (at 0) (at 0))) (before 4)
    ∷ case (ties (three (at 4) (at 2) (at 0)) (three (at 4) (at 0) (by 1 1))) (before 2)
    ∷ case (ties (three (at 4) (at 2) (to 0 1)) (three (at 4) (at 0) (at 1))) (before 2)
    ∷ case (ties (three (at 4) (at 1) (at 2)) (three (at 4) (at 3) (at 0))) (before 4)
    -- only the third at two positions: of different fingerprints, issued anew; its peer decides; its shortcut does
    ∷ case (ties (three (at 4) (at 4) (at 1)) (three (at 4) (at 4) (at 0))) (before 2)
    ∷ case (ties (three (at 4) (at 4) (at 0)) (three (at 4) (at 4) (at 2))) (before 2)
    ∷ case (ties (three (at 4) (at 4) (at 0)) (three (at 4) (at 4) (by 1 1))) (before 0)
    ∷ case (ties (three (at 4) (at 4) (to 0 1)) (three (at 4) (at 4) (at 1))) (before 0)
    -- all three edges are compared, whatever the edge count: 0, 1, 2, 4, 255
    ∷ case (ties (set (one (at 1)) 2 0) (set (one (at 0)) 2 0)) (before 2)
    ∷ case (ties (set (three (at 2) (at 3) (at 1)) 2 0) (set (three (at 0) (at 1) (at 0)) 2 0)) (before 6)
    ∷ case (ties (set (three (at 2) (at 3) (at 1)) 2 1) (set (three (at 0) (at 1) (at 0)) 2 1)) (before 6)
    ∷ case (ties (set (three (at 2) (at 3) (at 1)) 2 2) (set (three (at 0) (at 1) (at 0)) 2 2)) (before 6)
    ∷ case (ties (set (three (at 2) (at 3) (at 1)) 2 4) (set (three (at 0) (at 1) (at 0)) 2 4)) (before 6)
    ∷ case (ties (set (three (at 2) (at 3) (at 1)) 2 255) (set (three (at 0) (at 1) (at 0)) 2 255)) (before 6)
    -- an edge past the count beside one that is zero, which is at position 0
    ∷ case (ties (one (at 4)) (set (two (at 4) (at 2)) 2 1)) (before 2)
    ∷ case (ties (set (three (at 4) (at 0) (at 1)) 2 1) (one (at 4))) (before 2)
    -- past the book: equal fingerprints, and before those of any entry, as that of a segment with no entries
    ∷ case (ties (one (at 63)) (one (at 64))) (before 2)
    ∷ case (ties (one (at 200)) (one (at 1))) (before 2)
    ∷ case (ties (one (at 64)) (one (at 0))) (before 2)
    ∷ case (ties (one (at 72)) (one (at 200))) (before 2)
    ∷ case (ties (one (at 6)) (one (at 255))) (before 2)
    ∷ case (ties (three (at 255) (at 64) (at 200)) (three (at 64) (at 255) (at 1))) (before 6)
    ∷ case (ties (one (at 200)) (one (at 200))) (same 0)
    ∷ case (ties (one (at 200)) (one (by 255 1))) (before 0)
    -- any bytes are a book: in none all is past it; in one that is cut after 90 bytes only the AS of position 0 is left, and all else is zero
    ∷ case (compared [] (three (at 3) (at 4) (at 5) ∷ three (at 0) (at 1) (at 2) ∷ three (at 3) (at 4) (at 5) ∷ [])) (after 6)
    ∷ case (compared (take 90 ties_book) (one (at 1) ∷ one (at 0) ∷ one (at 1) ∷ [])) (before 2)
    ∷ case (compared (take 90 ties_book) (one (at 2) ∷ one (at 4) ∷ one (at 2) ∷ [])) (before 2)
    -- heads and bodies are read where they would stand, also of a position that the sizes do not count
    ∷ case (compared stray_book (one (at 9) ∷ one (at 0) ∷ one (at 9) ∷ [])) (before 2)
    -- any bytes are a record: what is lacking is zero, and bytes from 16 on are not looked at
    ∷ case (ties [] []) (same 0)
    ∷ case (ties [] (replicate 16 0)) (same 0)
    ∷ case (ties (3 ∷ []) []) (after 0)
    ∷ case (ties (take 4 (one (at 1))) (one (at 0))) (same 0)
    ∷ case (ties (take 5 (one (at 1))) (one (at 0))) (before 2)
    ∷ case (ties (take 12 (three (at 2) (at 1) (at 1))) (three (at 0) (at 3) (at 0))) (after 4)
    ∷ case (ties (one (at 1) ++ (2 ∷ 2 ∷ 2 ∷ 2 ∷ [])) (one (at 1))) (same 0)
    ∷ []

-- solutions
unfoldable pub chained : List Case
chained =
    -- each of the three segments issued anew: eight solutions, which stand by their positions, and two for each edge at two positions
    case (compared_all renewed_book a112 a113)
    ((1 ∷ 0 ∷ 0 ∷ 2 ∷ 0 ∷ 2 ∷ 0 ∷ 4 ∷ 0 ∷ 2 ∷ 0 ∷ 4 ∷ 0 ∷ 4 ∷ 0 ∷ 6 ∷ [])
    ++ (2 ∷ 2 ∷ 1 ∷ 0 ∷ 0 ∷ 4 ∷ 0 ∷ 2 ∷ 0 ∷ 4 ∷ 0 ∷ 2 ∷ 0 ∷ 6 ∷ 0 ∷ 4 ∷ [])
    ++ (2 ∷ 2 ∷ 2 ∷ 4 ∷ 1 ∷ 0 ∷ 0 ∷ 2 ∷ 0 ∷ 4 ∷ 0 ∷ 6 ∷ 0 ∷ 2 ∷ 0 ∷ 4 ∷ [])
    ++ (2 ∷ 4 ∷ 2 ∷ 2 ∷ 2 ∷ 2 ∷ 1 ∷ 0 ∷ 0 ∷ 6 ∷ 0 ∷ 4 ∷ 0 ∷ 4 ∷ 0 ∷ 2 ∷ [])
    ++ (2 ∷ 2 ∷ 2 ∷ 4 ∷ 2 ∷ 4 ∷ 2 ∷ 6 ∷ 1 ∷ 0 ∷ 0 ∷ 2 ∷ 0 ∷ 2 ∷ 0 ∷ 4 ∷ [])
    ++ (2 ∷ 4 ∷ 2 ∷ 2 ∷ 2 ∷ 6 ∷ 2 ∷ 4 ∷ 2 ∷ 2 ∷ 1 ∷ 0 ∷ 0 ∷ 4 ∷ 0 ∷ 2 ∷ [])
    ++ (2 ∷ 4 ∷ 2 ∷ 6 ∷ 2 ∷ 2 ∷ 2 ∷ 4 ∷ 2 ∷ 2 ∷ 2 ∷ 4 ∷ 1 ∷ 0 ∷ 0 ∷ 2 ∷ [])
    ++ (2 ∷ 6 ∷ 2 ∷ 4 ∷ 2 ∷ 4 ∷ 2 ∷ 2 ∷ 2 ∷ 4 ∷ 2 ∷ 2 ∷ 2 ∷ 2 ∷ 1 ∷ 0 ∷ []))
    -- two cores of different fingerprints, the others issued anew: two for first edges at two positions, two for two cores, and else for the last edges
    ∷ case (compared_all cores_book a112 a113)
    ((1 ∷ 0 ∷ 0 ∷ 2 ∷ 0 ∷ 2 ∷ 0 ∷ 4 ∷ 0 ∷ 2 ∷ 0 ∷ 2 ∷ 0 ∷ 4 ∷ 0 ∷ 4 ∷ [])
    ++ (2 ∷ 2 ∷ 1 ∷ 0 ∷ 0 ∷ 4 ∷ 0 ∷ 2 ∷ 0 ∷ 2 ∷ 0 ∷ 2 ∷ 0 ∷ 4 ∷ 0 ∷ 4 ∷ [])
    ++ (2 ∷ 2 ∷ 2 ∷ 4 ∷ 1 ∷ 0 ∷ 0 ∷ 2 ∷ 0 ∷ 4 ∷ 0 ∷ 4 ∷ 0 ∷ 2 ∷ 0 ∷ 2 ∷ [])
    ++ (2 ∷ 4 ∷ 2 ∷ 2 ∷ 2 ∷ 2 ∷ 1 ∷ 0 ∷ 0 ∷ 4 ∷ 0 ∷ 4 ∷ 0 ∷ 2 ∷ 0 ∷ 2 ∷ [])
    ++ (2 ∷ 2 ∷ 2 ∷ 2 ∷ 2 ∷ 4 ∷ 2 ∷ 4 ∷ 1 ∷ 0 ∷ 0 ∷ 2 ∷ 0 ∷ 2 ∷ 0 ∷ 4 ∷ [])
    ++ (2 ∷ 2 ∷ 2 ∷ 2 ∷ 2 ∷ 4 ∷ 2 ∷ 4 ∷ 2 ∷ 2 ∷ 1 ∷ 0 ∷ 0 ∷ 4 ∷ 0 ∷ 2 ∷ [])
    ++ (2 ∷ 4 ∷ 2 ∷ 4 ∷ 2 ∷ 2 ∷ 2 ∷ 2 ∷ 2 ∷ 2 ∷ 2 ∷ 4 ∷ 1 ∷ 0 ∷ 0 ∷ 2 ∷ [])
    ++ (2 ∷ 4 ∷ 2 ∷ 4 ∷ 2 ∷ 2 ∷ 2 ∷ 2 ∷ 2 ∷ 4 ∷ 2 ∷ 2 ∷ 2 ∷ 2 ∷ 1 ∷ 0 ∷ []))
    -- the first edges at 0 or 1, issued anew; the second at one position, or at two where the shortcut decides
    ∷ case (compared_all twins_book a111 a112)
    ((1 ∷ 0 ∷ 0 ∷ 2 ∷ 0 ∷ 0 ∷ 0 ∷ 2 ∷ [])
    ++ (2 ∷ 2 ∷ 1 ∷ 0 ∷ 0 ∷ 2 ∷ 0 ∷ 0 ∷ [])
    ++ (2 ∷ 0 ∷ 2 ∷ 2 ∷ 1 ∷ 0 ∷ 0 ∷ 2 ∷ [])
    ++ (2 ∷ 2 ∷ 2 ∷ 0 ∷ 2 ∷ 2 ∷ 1 ∷ 0 ∷ []))
    -- cost and edge count decide; peer and shortcut do
    ∷ case (compared_all costs_book a112 a110)
    ((1 ∷ 0 ∷ 0 ∷ 0 ∷ 0 ∷ 0 ∷ [])
    ++ (2 ∷ 0 ∷ 1 ∷ 0 ∷ 0 ∷ 0 ∷ [])
    ++ (2 ∷ 0 ∷ 2 ∷ 0 ∷ 1 ∷ 0 ∷ []))
    ∷ case (compared_all none_book a111 a112)
    ((1 ∷ 0 ∷ 0 ∷ 0 ∷ 0 ∷ 0 ∷ [])
    ++ (2 ∷ 0 ∷ 1 ∷ 0 ∷ 0 ∷ 0 ∷ [])
    ++ (2 ∷ 0 ∷ 2 ∷ 0 ∷ 1 ∷ 0 ∷ []))
    ∷ []

-- with SHA-256
unfoldable pub hashed : List Case
hashed =
    -- by the digests that at 1 comes first, by what they are taken of that at 0
    case (compared fingerprint_book (one (at 0) ∷ one (at 1) ∷ [])) (2 ∷ 2 ∷ [])
    ∷ []

-- ---- the theorems

pub all_right : T (every (right unhashed) table && every (right Message.sha256) hashed)
unfolding table hashed unhashed every right order_number each_next answer flat_map
    Basics.range Basics.same_list
    Octets.be16 Octets.be32 Octets.be64 Octets.octets2 Octets.octets4 Octets.octets8
    Book.cores Book.non_cores Book.segment_count Book.head_offset Book.timestamp_at Book.id_at Book.entry_count_at Book.body_length_at
    Book.lengths_below Book.body_offset Book.peer_count Book.entry_end Book.isd_asn_at Book.mac_at Book.as_entry_at Book.entry_at Book.entries_at Book.segment_at
    Order.compare_by Order.entry_input Order.fingerprint_input Order.fingerprint Order.compare_edges Order.compare_positions
    Digests.pair_digests Digests.edge_digests Digests.solution_digests
    Records.edge_at Records.edge_offset Records.record_edge Records.solution_in
    ByRecord.compare_records ByRecord.record_digests
    Words.Σ₀ Words.Σ₁ Words.σ₀ Words.σ₁ Words.next Constants.K Hash.words Hash.schedule Hash.round Hash.rounds Hash.compress Hash.output
    Message.padding Message.pad Message.blocks Message.sha256
all_right = tt

pub chains-right : T (every (right unhashed) chained)
unfolding chained unhashed every right order_number answer flat_map
    Basics.any Basics.filter Basics.range Basics.sum Basics.same_list
    Octets.be16 Octets.be32 Octets.be64 Octets.octets2 Octets.octets4 Octets.octets8
    Book.cores Book.non_cores Book.segment_count Book.head_offset Book.timestamp_at Book.id_at Book.entry_count_at Book.body_length_at
    Book.lengths_below Book.body_offset Book.peer_count Book.entry_end Book.isd_asn_at Book.same_as Book.mac_at Book.as_entry_at Book.peer_entry_at Book.peer_offset
    Book.peer_of_entry_at Book.entry_at Book.entries_at Book.segment_at Book.segments
    Edges.same_vertex Edges.no_entry Edges.no_peer Edges.entry_of Edges.as_of Edges.leaf_as Edges.peer_of Edges.in_construction Edges.edge_of
    Edges.add_core_segment Edges.as_insertions Edges.peer_insertions Edges.entry_insertions Edges.insertions Edges.same_ends Edges.lasting
    Edges.same_bool Edges.same_segment Edges.is_earlier Edges.is_first Edges.firsts Edges.stored_of Edges.stored_edges
    Chains.allowed_kinds Chains.leaves Chains.leaving Chains.beginning Chains.walks Chains.chains
    Order.compare_by Order.weight_of Order.cost Order.entry_input Order.fingerprint_input Order.solution_edge Order.fingerprint Order.compare_edges
    Order.compare_positions Order.compare_solutions Order.compare_chains Order.insert Order.insert_all Order.solutions
    Digests.pair_digests Digests.edge_digests Digests.solution_digests Digests.chain_digests
chains-right = tt

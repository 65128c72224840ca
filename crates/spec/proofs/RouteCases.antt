-- A fourth table of computed cases: the routes (docs/SPECIFICATION.md 14). Every answer is worked out by hand. A segment of 63 units lives 21,600
-- seconds, so that of two copies the one with the greater timestamp lives longer. The digest hands its input back, as in the second table:
-- segments with equal ASes and ids stand by position, others by their entries' numbers, and SHA-256 orders these alike.
-- Assumes nothing.
use Prim.Native.Nat.{ℕ}
use mathlib.Core.List.{List, [], ◌∷◌, ◌++◌}
use lib.ListN.{replicate}
use Rattle.spec.proofs.CasesForm.{entry, peer, Draft, segment, book, edge, solution, Question, route, Case, case, a110, a111, a112, a113, a114, b110, mac0, mac1}

-- ---- how they are written

-- AS, ingress, egress
abbrev pub plain : ℕ → ℕ → ℕ → List ℕ
plain local ingress egress = entry local 1500 0 ingress egress 63 mac0 []

-- a non-core segment from a110 to a111, over an egress of a110; timestamp and id in front
abbrev pub link : ℕ → ℕ → ℕ → Draft
link timestamp id egress = segment timestamp id (plain a110 0 egress ∷ plain a111 2 0 ∷ [])

-- the same of other units
abbrev pub living : ℕ → ℕ → Draft
living timestamp units = segment timestamp 1 (entry a110 1500 0 0 1 units mac0 [] ∷ entry a111 1500 0 2 0 units mac0 [] ∷ [])

-- a non-core segment that passes a110, first and second on its way to a111: of the hop at a110 the ingress is off the path between the two
abbrev pub long : ℕ → ℕ → ℕ → ℕ → Draft
long timestamp ingress first second =
    segment timestamp 1 (plain a114 0 9 ∷ plain a110 ingress 1 ∷ plain first 2 3 ∷ plain second 4 5 ∷ plain a111 6 0 ∷ [])

-- of six entries, over an egress of a110
abbrev pub six : ℕ → ℕ → Draft
six timestamp egress =
    segment timestamp 1 (plain a110 0 egress ∷ plain a112 2 3 ∷ plain a113 4 5 ∷ plain a114 6 7 ∷ plain b110 8 9 ∷ plain a111 10 0 ∷ [])

-- a segment from a110 to a112, over an egress of a110
abbrev pub down : ℕ → ℕ → Draft
down timestamp egress = segment timestamp 1 (plain a110 0 egress ∷ plain a112 4 0 ∷ [])

-- from a111 to a110 by a112, at three of its interfaces: a Loop
abbrev pub loop : List Draft
loop = segment 3000 1 (plain a112 0 3 ∷ plain a111 4 0 ∷ []) ∷ segment 3000 1 (plain a112 5 6 ∷ plain a110 7 0 ∷ []) ∷ []

-- the routes from a111 to a110 over non-core segments, in so many bytes
abbrev pub up : List Draft → ℕ → Question
up segments bytes = route (book [] segments) a111 a110 bytes

-- the record of a link, and of a long one, at a position
abbrev pub whole : ℕ → List ℕ
whole position = solution 1 (edge position 0 0 0 ∷ [])

abbrev pub cut : ℕ → List ℕ
cut position = solution 3 (edge position 1 0 0 ∷ [])

-- ---- the table

unfoldable pub table : List Case
table =
    -- a copy that lives a second longer takes the place over
    case (up (link 1000 1 1 ∷ link 1001 1 1 ∷ []) 32) (1 ∷ (whole 1 ++ replicate 16 0))
    -- one that ends a second sooner does not
    ∷ case (up (link 1001 1 1 ∷ link 1000 1 1 ∷ []) 32) (1 ∷ (whole 0 ++ replicate 16 0))
    -- nor one that lives as long
    ∷ case (up (link 1000 1 1 ∷ link 1000 2 1 ∷ []) 32) (1 ∷ (whole 0 ++ replicate 16 0))
    -- three copies: each is compared with the record now held, not with the first
    ∷ case (up (link 1010 1 1 ∷ link 1030 1 1 ∷ link 1020 1 1 ∷ []) 48) (1 ∷ (whole 1 ++ replicate 32 0))
    -- three copies: the place is taken over twice
    ∷ case (up (link 1010 1 1 ∷ link 1020 1 1 ∷ link 1030 1 1 ∷ []) 48) (1 ∷ (whole 2 ++ replicate 32 0))
    -- three copies: not with the one before
    ∷ case (up (link 1020 1 1 ∷ link 1000 1 1 ∷ link 1010 1 1 ∷ []) 48) (1 ∷ (whole 0 ++ replicate 32 0))
    -- four copies, two of which live longest: the earlier of those, in the midst and at the ends
    ∷ case (up (link 1000 1 1 ∷ link 3000 1 1 ∷ link 3000 2 1 ∷ link 2000 1 1 ∷ []) 64) (1 ∷ (whole 1 ++ replicate 48 0))
    ∷ case (up (link 3000 1 1 ∷ link 1000 1 1 ∷ link 2000 1 1 ∷ link 3000 2 1 ∷ []) 64) (1 ∷ (whole 0 ++ replicate 48 0))
    -- the expiry counts, not the timestamp: 1000 + 21600 and 500 + 86400; 1000 + 21600 and 1100 + 675
    ∷ case (up (link 1000 1 1 ∷ living 500 255 ∷ []) 32) (1 ∷ (whole 1 ++ replicate 16 0))
    ∷ case (up (link 1000 1 1 ∷ living 1100 1 ∷ []) 32) (1 ∷ (whole 0 ++ replicate 16 0))
    -- both stop at 4294967295
    ∷ case (up (link 4294967290 1 1 ∷ link 4294967295 1 1 ∷ []) 32) (1 ∷ (whole 0 ++ replicate 16 0))
    -- every byte of the expiry counts: 65535, 65536, 16777216
    ∷ case (up (link 43935 1 1 ∷ link 43936 1 1 ∷ link 16755616 1 1 ∷ []) 48) (1 ∷ (whole 2 ++ replicate 32 0))
    -- the same ASes with another id are another route, though one lives longer: of a110, in its low and in its high byte
    ∷ case (up (link 1000 1 1 ∷ link 2000 1 3 ∷ []) 32) (2 ∷ (whole 0 ++ whole 1))
    ∷ case (up (link 1000 1 2 ∷ link 2000 1 258 ∷ []) 32) (2 ∷ (whole 0 ++ whole 1))
    -- of a111
    ∷ case (up (link 1000 1 1 ∷ segment 2000 1 (plain a110 0 1 ∷ plain a111 4 0 ∷ []) ∷ []) 32) (2 ∷ (whole 0 ++ whole 1))
    -- of an AS in the midst
    ∷ case (route (book [] (segment 1000 1 (plain a110 0 1 ∷ plain a112 2 3 ∷ plain a111 4 0 ∷ []) ∷ segment 2000 1 (plain a110 0 1 ∷ plain a112 2 6 ∷ plain a111 4 0 ∷ []) ∷ [])) a111 a110 32)
    (2 ∷ (solution 2 (edge 0 0 0 0 ∷ []) ++ solution 2 (edge 1 0 0 0 ∷ [])))
    -- of the last of ten interfaces
    ∷ case (up (six 1000 1 ∷ six 2000 3 ∷ []) 32) (2 ∷ (solution 5 (edge 0 0 0 0 ∷ []) ++ solution 5 (edge 1 0 0 0 ∷ [])))
    -- the same ids at other ASes are another route
    ∷ case (up (long 1000 5 a112 a113 ∷ long 2000 6 a113 a112 ∷ []) 32) (2 ∷ (cut 0 ++ cut 1))
    -- at ASes of two ISDs with one number
    ∷ case (route (book [] (segment 1000 1 (plain a113 0 1 ∷ plain a110 2 3 ∷ plain a111 4 0 ∷ []) ∷ segment 2000 1 (plain a113 0 1 ∷ plain b110 2 3 ∷ plain a111 4 0 ∷ []) ∷ [])) a111 a113 32)
    (2 ∷ (solution 2 (edge 0 0 0 0 ∷ []) ++ solution 2 (edge 1 0 0 0 ∷ [])))
    -- the same interfaces in another order are another route
    ∷ case (up (segment 1000 1 (plain a110 0 1 ∷ plain a112 2 3 ∷ plain a113 4 5 ∷ plain a111 7 0 ∷ []) ∷ segment 2000 1 (plain a110 0 1 ∷ plain a113 4 5 ∷ plain a112 2 3 ∷ plain a111 7 0 ∷ []) ∷ []) 32)
    (2 ∷ (solution 3 (edge 0 0 0 0 ∷ []) ++ solution 3 (edge 1 0 0 0 ∷ [])))
    -- a list of interfaces with one more at its end is another route: the longer one second
    ∷ case (up (link 1000 1 1 ∷ segment 2000 1 (plain a110 3 1 ∷ plain a111 2 0 ∷ []) ∷ []) 32) (2 ∷ (whole 0 ++ whole 1))
    -- and the longer one first, since its cost is less
    ∷ case (up (segment 1000 1 (plain a110 3 1 ∷ plain a111 2 0 ∷ []) ∷ segment 2000 1 (plain a110 0 1 ∷ plain a112 0 0 ∷ plain a111 2 0 ∷ []) ∷ []) 32)
    (2 ∷ (whole 0 ++ solution 2 (edge 1 0 0 0 ∷ [])))
    -- another MTU, other MACs and a peer that is not used make no other route
    ∷ case (up (link 1000 1 1 ∷ segment 2000 1 (entry a110 1400 0 0 1 63 mac1 (peer a113 21 1500 63 22 0 mac0 ∷ []) ∷ entry a111 1300 1200 2 0 63 mac1 [] ∷ []) ∷ []) 32)
    (1 ∷ (whole 1 ++ replicate 16 0))
    -- nor does an AS that shows no interface
    ∷ case (up (link 1000 1 1 ∷ segment 2000 1 (plain a110 0 1 ∷ plain a112 0 0 ∷ plain a111 2 0 ∷ []) ∷ []) 32)
    (1 ∷ (solution 2 (edge 1 0 0 0 ∷ []) ++ replicate 16 0))
    -- nor does an ingress that is off the path at a shortcut
    ∷ case (up (long 1000 5 a112 a113 ∷ long 2000 7 a112 a113 ∷ []) 32) (1 ∷ (cut 1 ++ replicate 16 0))
    -- nor a core segment in place of a non-core one
    ∷ case (route (book (link 1000 1 1 ∷ []) (link 2000 1 1 ∷ [])) a111 a110 32) (1 ∷ (whole 1 ++ replicate 16 0))
    -- nor one more edge, from a111 to itself
    ∷ case (route (book (segment 5000 1 (plain a111 0 0 ∷ []) ∷ []) (link 2000 1 1 ∷ [])) a111 a110 32) (1 ∷ (whole 1 ++ replicate 16 0))
    -- in construction direction
    ∷ case (route (book [] (link 1000 1 1 ∷ link 2000 1 1 ∷ [])) a110 a111 32) (1 ∷ (solution 1 (edge 1 0 0 1 ∷ []) ++ replicate 16 0))
    -- two edges, two copies of each: the path ends with the edge that ends first: 1000, 1000, 1500, 2000 and 21600 each
    ∷ case (route (book [] (link 1000 1 1 ∷ link 2000 1 1 ∷ down 1500 5 ∷ down 3000 5 ∷ [])) a111 a112 64)
    (1 ∷ (solution 2 (edge 1 0 0 0 ∷ edge 3 0 0 1 ∷ []) ++ replicate 48 0))
    -- and where the second copies end first: 1000, 500, 1000, 500: the first stays
    ∷ case (route (book [] (link 2000 1 1 ∷ link 3000 1 1 ∷ down 1000 5 ∷ down 500 5 ∷ [])) a111 a112 64)
    (1 ∷ (solution 2 (edge 0 0 0 0 ∷ edge 2 0 0 1 ∷ []) ++ replicate 48 0))
    -- two edges, two links of each: four routes
    ∷ case (route (book [] (link 1000 1 1 ∷ link 2000 1 3 ∷ down 1500 5 ∷ down 3000 6 ∷ [])) a111 a112 64)
    (4 ∷ (solution 2 (edge 0 0 0 0 ∷ edge 2 0 0 1 ∷ []) ++ solution 2 (edge 0 0 0 0 ∷ edge 3 0 0 1 ∷ []) ++ solution 2 (edge 1 0 0 0 ∷ edge 2 0 0 1 ∷ []) ++ solution 2 (edge 1 0 0 0 ∷ edge 3 0 0 1 ∷ [])))
    -- three edges: of three core segments the third is a copy of the first
    ∷ case (route (book (segment 1000 1 (plain a110 0 5 ∷ plain a113 6 0 ∷ []) ∷ segment 1000 1 (plain a110 0 7 ∷ plain a113 6 0 ∷ []) ∷ segment 2000 1 (plain a110 0 5 ∷ plain a113 6 0 ∷ []) ∷ []) (link 5000 1 1 ∷ segment 5000 1 (plain a113 0 7 ∷ plain a112 8 0 ∷ []) ∷ [])) a111 a112 48)
    (2 ∷ (solution 3 (edge 3 0 0 0 ∷ edge 2 0 0 1 ∷ edge 4 0 0 1 ∷ []) ++ solution 3 (edge 3 0 0 0 ∷ edge 1 0 0 1 ∷ edge 4 0 0 1 ∷ []) ++ replicate 16 0))
    -- over a peering link
    ∷ case (route (book [] (segment 1000 1 (plain a110 0 1 ∷ entry a111 1500 0 2 0 63 mac0 (peer a113 21 1500 63 22 0 mac0 ∷ []) ∷ []) ∷ segment 2000 1 (plain a110 0 1 ∷ entry a111 1500 0 2 0 63 mac0 (peer a113 21 1500 63 22 0 mac0 ∷ []) ∷ []) ∷ segment 3000 1 (plain a114 0 7 ∷ entry a113 1500 0 8 0 63 mac0 (peer a111 22 1500 63 21 0 mac0 ∷ []) ∷ []) ∷ [])) a111 a113 32)
    (1 ∷ (solution 1 (edge 1 1 1 0 ∷ edge 2 1 1 1 ∷ []) ++ replicate 16 0))
    -- a copy that takes over stands at its route's place, before another route: the list is not in the order of solutions
    ∷ case (up (long 1000 5 a112 a113 ∷ long 1500 6 a113 a112 ∷ long 2000 7 a112 a113 ∷ []) 48) (2 ∷ (cut 2 ++ cut 1 ++ replicate 16 0))
    -- one that does not take over is left out
    ∷ case (up (long 2000 5 a112 a113 ∷ long 1500 6 a113 a112 ∷ long 1000 7 a112 a113 ∷ []) 48) (2 ∷ (cut 0 ++ cut 1 ++ replicate 16 0))
    -- a copy of the second route
    ∷ case (up (long 1000 5 a112 a113 ∷ long 1500 6 a113 a112 ∷ long 2000 7 a113 a112 ∷ []) 48) (2 ∷ (cut 0 ++ cut 2 ++ replicate 16 0))
    -- three routes and a copy of each: the first ends sooner, the others live longer
    ∷ case (up (long 1000 1 a112 a113 ∷ long 1500 2 a113 a112 ∷ long 1500 3 a112 b110 ∷ long 900 7 a112 a113 ∷ long 2000 18 a113 a112 ∷ long 1600 25 a112 b110 ∷ []) 96)
    (3 ∷ (cut 0 ++ cut 4 ++ cut 5 ++ replicate 48 0))
    -- five routes and a copy of the last
    ∷ case (up (link 1000 1 1 ∷ link 1000 1 3 ∷ link 1000 1 8 ∷ link 1000 1 13 ∷ link 1000 1 16 ∷ link 1001 1 16 ∷ []) 96)
    (5 ∷ (whole 0 ++ whole 1 ++ whole 2 ++ whole 3 ++ whole 5 ++ replicate 16 0))
    -- a Loop between two copies is left out, though it lives longest
    ∷ case (up (link 1000 1 1 ∷ segment 2000 1 (plain a110 0 1 ∷ plain a113 0 0 ∷ plain a114 0 0 ∷ plain a111 2 0 ∷ []) ∷ loop) 48) (1 ∷ (solution 3 (edge 1 0 0 0 ∷ []) ++ replicate 32 0))
    -- only a Loop: no route
    ∷ case (up loop 16) (0 ∷ replicate 16 0)
    -- a Bare beside a path is left out
    ∷ case (up (link 1000 1 1 ∷ segment 3000 1 (plain a110 0 0 ∷ plain a111 0 0 ∷ []) ∷ []) 32) (1 ∷ (whole 0 ++ replicate 16 0))
    -- only a Bare: no route
    ∷ case (up (segment 3000 1 (plain a110 0 0 ∷ plain a111 0 0 ∷ []) ∷ []) 16) (0 ∷ replicate 16 0)
    -- 14.3: Full counts solutions: three, of one route; a Loop, a Bare, a path
    ∷ case (up (link 1010 1 1 ∷ link 1030 1 1 ∷ link 1020 1 1 ∷ []) 47) (65544 ∷ replicate 47 0)
    ∷ case (up loop 15) (65544 ∷ replicate 15 0)
    ∷ case (up (segment 3000 1 (plain a110 0 0 ∷ plain a111 0 0 ∷ []) ∷ []) 0) (65544 ∷ [])
    ∷ case (up (link 1000 1 1 ∷ []) 0) (65544 ∷ [])
    -- a longer output: zeros up to its end
    ∷ case (up (link 1000 1 1 ∷ link 2000 1 3 ∷ []) 47) (2 ∷ (whole 0 ++ whole 1 ++ replicate 15 0))
    -- no chain: no route, and no bytes are enough
    ∷ case (up [] 0) (0 ∷ [])
    ∷ case (up [] 5) (0 ∷ replicate 5 0)
    -- equal ends: no route
    ∷ case (route (book [] (link 1000 1 1 ∷ [])) a111 a111 16) (0 ∷ replicate 16 0)
    -- a refused book, Long and Surplus: the refusal before Full
    ∷ case (up (segment 1 1 (replicate 17 (plain a110 0 1)) ∷ []) 16) (65541 ∷ replicate 16 0)
    ∷ case (route (replicate 9 0) a111 a110 20) (65538 ∷ replicate 20 0)
    ∷ case (up (segment 1 1 (replicate 17 (plain a110 0 1)) ∷ link 1000 1 1 ∷ []) 0) (65541 ∷ [])
    -- and before equal ends
    ∷ case (route (replicate 9 0) a111 a111 3) (65538 ∷ replicate 3 0)
    ∷ []

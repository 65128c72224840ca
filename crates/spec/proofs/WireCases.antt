-- A fifth table of computed cases: paths on the wire (docs/SPECIFICATION.md 15). Two are laid out by hand from the data draft, and each of their fields is
-- changed by one byte; the others are as long as their counts ask for, so that nothing but the one fault refuses them.
-- Assumes nothing.
use Prim.Native.Nat.{ℕ}
use mathlib.Core.List.{List, [], ◌∷◌, ◌++◌, map, flat_map}
use lib.ListN.{length, replicate, set, take}
use lib.Dec.{T}
use Rattle.spec.specs.Basics
use Rattle.spec.specs.Octets
use Rattle.spec.specs.Book
use Rattle.spec.specs.Edges
use Rattle.spec.specs.Chains
use Rattle.spec.specs.Order
use Rattle.spec.specs.Assembly
use Rattle.spec.specs.Records
use Rattle.spec.specs.Router
use Rattle.spec.specs.Answers
use Rattle.spec.specs.Wire
use Rattle.spec.proofs.CasesForm.{edge, solution, write, read, writes, reads, send, carry, Case, case, answer, right, every, a110, a111, a112}
use Rattle.spec.proofs.Cases.{worked_book, peers_book}

-- ---- a path of two segments: two hops against construction, then one in construction direction whose hop is a peer's

-- lengths 2, 1 and 0: 2 × 4096 + 1 × 64
abbrev pub two_wire : List ℕ
two_wire =
    (0x00 ∷ 0x00 ∷ 0x20 ∷ 0x40 ∷ [])
    ++ (0x00 ∷ 0x00 ∷ 0x13 ∷ 0x36 ∷ 0x00 ∷ 0x0f ∷ 0x42 ∷ 0x40 ∷ [])
    ++ (0x03 ∷ 0x00 ∷ 0x43 ∷ 0x21 ∷ 0x00 ∷ 0x0f ∷ 0x42 ∷ 0x41 ∷ [])
    ++ (0x00 ∷ 63 ∷ 0 ∷ 7 ∷ 0 ∷ 0 ∷ 10 ∷ 11 ∷ 12 ∷ 13 ∷ 14 ∷ 15 ∷ [])
    ++ (0x00 ∷ 64 ∷ 0 ∷ 8 ∷ 0 ∷ 5 ∷ 1 ∷ 2 ∷ 3 ∷ 4 ∷ 5 ∷ 6 ∷ [])
    ++ (0x00 ∷ 65 ∷ 1 ∷ 9 ∷ 2 ∷ 0 ∷ 20 ∷ 21 ∷ 22 ∷ 23 ∷ 24 ∷ 25 ∷ [])

abbrev pub two_fields : List ℕ
two_fields =
    (0 ∷ 2 ∷ 0x13 ∷ 0x36 ∷ 0x00 ∷ 0x0f ∷ 0x42 ∷ 0x40 ∷ [])
    ++ (3 ∷ 1 ∷ 0x43 ∷ 0x21 ∷ 0x00 ∷ 0x0f ∷ 0x42 ∷ 0x41 ∷ [])
    ++ (63 ∷ 0 ∷ 7 ∷ 0 ∷ 0 ∷ 10 ∷ 11 ∷ 12 ∷ 13 ∷ 14 ∷ 15 ∷ [])
    ++ (64 ∷ 0 ∷ 8 ∷ 0 ∷ 5 ∷ 1 ∷ 2 ∷ 3 ∷ 4 ∷ 5 ∷ 6 ∷ [])
    ++ (65 ∷ 1 ∷ 9 ∷ 2 ∷ 0 ∷ 20 ∷ 21 ∷ 22 ∷ 23 ∷ 24 ∷ 25 ∷ [])

-- its record as assembly leaves it, with two interfaces, and as the reader does
abbrev pub two_record : List ℕ
two_record =
    (2 ∷ 3 ∷ 2 ∷ 0 ∷ 5 ∷ 70 ∷ 0 ∷ 15 ∷ 150 ∷ 160 ∷ [])
    ++ (0 ∷ 1 ∷ 255 ∷ 0 ∷ 0 ∷ 0 ∷ 1 ∷ 17 ∷ 0 ∷ 1 ∷ 255 ∷ 0 ∷ 0 ∷ 0 ∷ 1 ∷ 16 ∷ [])
    ++ two_fields
    ++ (0 ∷ 1 ∷ 255 ∷ 0 ∷ 0 ∷ 0 ∷ 1 ∷ 17 ∷ 0 ∷ 1 ∷ 255 ∷ 0 ∷ 0 ∷ 0 ∷ 1 ∷ 16 ∷ 0 ∷ 7 ∷ 0 ∷ 5 ∷ [])

abbrev pub two_plain : List ℕ
two_plain = (2 ∷ 3 ∷ []) ++ replicate 24 0 ++ two_fields

-- ---- a path of three segments, with 16, 1 and 2 hops: 16 × 4096 + 1 × 64 + 2

abbrev pub times : ℕ → List ℕ → List ℕ
times n h = flat_map (λ x. x) (replicate n h)

abbrev pub long_wire : List ℕ
long_wire =
    (0 ∷ 1 ∷ 0 ∷ 0x42 ∷ [])
    ++ (1 ∷ 0 ∷ 0 ∷ 1 ∷ 0 ∷ 0 ∷ 0 ∷ 1 ∷ [])
    ++ (2 ∷ 0 ∷ 0 ∷ 2 ∷ 0 ∷ 0 ∷ 0 ∷ 2 ∷ [])
    ++ (0 ∷ 0 ∷ 0 ∷ 3 ∷ 0 ∷ 0 ∷ 0 ∷ 3 ∷ [])
    ++ times 19 (0 ∷ 63 ∷ 0 ∷ 7 ∷ 0 ∷ 9 ∷ 10 ∷ 11 ∷ 12 ∷ 13 ∷ 14 ∷ 15 ∷ [])

abbrev pub long_plain : List ℕ
long_plain =
    (3 ∷ 19 ∷ [])
    ++ replicate 24 0
    ++ (1 ∷ 16 ∷ 0 ∷ 1 ∷ 0 ∷ 0 ∷ 0 ∷ 1 ∷ [])
    ++ (2 ∷ 1 ∷ 0 ∷ 2 ∷ 0 ∷ 0 ∷ 0 ∷ 2 ∷ [])
    ++ (0 ∷ 2 ∷ 0 ∷ 3 ∷ 0 ∷ 0 ∷ 0 ∷ 3 ∷ [])
    ++ times 19 (63 ∷ 0 ∷ 7 ∷ 0 ∷ 9 ∷ 10 ∷ 11 ∷ 12 ∷ 13 ∷ 14 ∷ 15 ∷ [])

-- ---- each bit of a byte, from the lowest

abbrev pub bits : List ℕ
bits = 1 ∷ 2 ∷ 4 ∷ 8 ∷ 16 ∷ 32 ∷ 64 ∷ 128 ∷ []

-- ---- a path of three segments, with 3, 2 and 3 hops: 3 × 4096 + 2 × 64 + 3. Against construction with a peer's hop last, in construction direction,
-- and in it with a peer's hop first. No byte of a field is 0

abbrev pub three_wire : List ℕ
three_wire =
    (0 ∷ 0 ∷ 0x30 ∷ 0x83 ∷ [])
    ++ (2 ∷ 0 ∷ 0x11 ∷ 0x01 ∷ 0x61 ∷ 0x62 ∷ 0x63 ∷ 0x64 ∷ [])
    ++ (1 ∷ 0 ∷ 0x22 ∷ 0x02 ∷ 0x71 ∷ 0x72 ∷ 0x73 ∷ 0x74 ∷ [])
    ++ (3 ∷ 0 ∷ 0x33 ∷ 0x03 ∷ 0x81 ∷ 0x82 ∷ 0x83 ∷ 0x84 ∷ [])
    ++ flat_map (λ x. 0 ∷ x ∷ 0x51 ∷ x ∷ x ∷ 0x52 ∷ x ∷ x ∷ 0x91 ∷ 0x92 ∷ 0x93 ∷ 0x94 ∷ []) bits

abbrev pub three_plain : List ℕ
three_plain =
    (3 ∷ 8 ∷ [])
    ++ replicate 24 0
    ++ (2 ∷ 3 ∷ 0x11 ∷ 0x01 ∷ 0x61 ∷ 0x62 ∷ 0x63 ∷ 0x64 ∷ [])
    ++ (1 ∷ 2 ∷ 0x22 ∷ 0x02 ∷ 0x71 ∷ 0x72 ∷ 0x73 ∷ 0x74 ∷ [])
    ++ (3 ∷ 3 ∷ 0x33 ∷ 0x03 ∷ 0x81 ∷ 0x82 ∷ 0x83 ∷ 0x84 ∷ [])
    ++ flat_map (λ x. x ∷ 0x51 ∷ x ∷ x ∷ 0x52 ∷ x ∷ x ∷ 0x91 ∷ 0x92 ∷ 0x93 ∷ 0x94 ∷ []) bits

-- ---- a path of one hop, all whose fields are at their greatest

abbrev pub top_wire : List ℕ
top_wire = (0 ∷ 0 ∷ 0x10 ∷ 0 ∷ []) ++ (3 ∷ 0 ∷ replicate 6 255) ++ (0 ∷ replicate 11 255)

abbrev pub top_plain : List ℕ
top_plain = (1 ∷ 1 ∷ []) ++ replicate 24 0 ++ (3 ∷ 1 ∷ replicate 6 255) ++ replicate 11 255

-- ---- as long as their counts ask for, all else zero

-- the three low bytes of the meta header, and the bytes of infos and hops
abbrev pub zero_wire : ℕ → ℕ → ℕ → ℕ → List ℕ
zero_wire x y z after = (0 ∷ x ∷ y ∷ z ∷ []) ++ replicate after 0

-- hop counts of the infos, their sum, and the bytes of the hops
abbrev pub zero_record : List ℕ → ℕ → ℕ → List ℕ
zero_record counts hops after = (length counts ∷ hops ∷ []) ++ replicate 24 0 ++ flat_map (λ n. 0 ∷ n ∷ replicate 6 0) counts ++ replicate after 0

-- ---- a byte changed

-- a data byte of the wire set to 2, and the byte of the record that follows it: read, and written
abbrev pub moved : ℕ → ℕ → List Case
moved place byte =
    case (read (set two_wire place 2) 1538) (75 ∷ (set two_plain byte 2 ++ replicate 1463 0))
    ∷ case (write (set two_record byte 2) 604) (56 ∷ (set two_wire place 2 ++ replicate 548 0))
    ∷ []

-- ---- the tables

unfoldable pub table : List Case
table =
    -- written and read; the output's rest is zero
    case (write two_record 604) (56 ∷ (two_wire ++ replicate 548 0))
    ∷ case (read two_wire 1538) (75 ∷ (two_plain ++ replicate 1463 0))
    ∷ case (write long_plain 605) (256 ∷ (long_wire ++ replicate 349 0))
    ∷ case (read long_wire 1540) (259 ∷ (long_plain ++ replicate 1281 0))
    ∷ case (write three_plain 604) (124 ∷ (three_wire ++ replicate 480 0))
    ∷ case (read three_wire 1538) (138 ∷ (three_plain ++ replicate 1400 0))
    -- every field at its greatest
    ∷ case (write top_plain 604) (24 ∷ (top_wire ++ replicate 580 0))
    ∷ case (read top_wire 1538) (45 ∷ (top_plain ++ replicate 1493 0))
    -- hop counts that rise: 1, 2 and 3
    ∷ case (write (zero_record (1 ∷ 2 ∷ 3 ∷ []) 6 66) 604) (100 ∷ (zero_wire 0 0x10 0x83 96 ++ replicate 504 0))
    ∷ case (read (zero_wire 0 0x10 0x83 96) 1538) (116 ∷ (zero_record (1 ∷ 2 ∷ 3 ∷ []) 6 66 ++ replicate 1422 0))
    -- the worked example's path, and with the ends reversed
    ∷ case (send worked_book a111 a110 (solution 1 (edge 0 0 0 0 ∷ [])))
    (36 ∷ ((0 ∷ 0 ∷ 0x20 ∷ 0 ∷ 0 ∷ 0 ∷ 0x13 ∷ 0x36 ∷ 0x00 ∷ 0x0f ∷ 0x42 ∷ 0x40 ∷ []) ++ (0 ∷ 63 ∷ 0 ∷ 7 ∷ 0 ∷ 0 ∷ 10 ∷ 11 ∷ 12 ∷ 13 ∷ 14 ∷ 15 ∷ []) ++ (0 ∷ 63 ∷ 0 ∷ 0 ∷ 0 ∷ 5 ∷ 1 ∷ 2 ∷ 3 ∷ 4 ∷ 5 ∷ 6 ∷ []) ++ replicate 568 0))
    ∷ case (send worked_book a110 a111 (solution 1 (edge 0 0 0 1 ∷ [])))
    (36 ∷ ((0 ∷ 0 ∷ 0x20 ∷ 0 ∷ 1 ∷ 0 ∷ 0x12 ∷ 0x34 ∷ 0x00 ∷ 0x0f ∷ 0x42 ∷ 0x40 ∷ []) ++ (0 ∷ 63 ∷ 0 ∷ 0 ∷ 0 ∷ 5 ∷ 1 ∷ 2 ∷ 3 ∷ 4 ∷ 5 ∷ 6 ∷ []) ++ (0 ∷ 63 ∷ 0 ∷ 7 ∷ 0 ∷ 0 ∷ 10 ∷ 11 ∷ 12 ∷ 13 ∷ 14 ∷ 15 ∷ []) ++ replicate 568 0))
    -- through the peers: one hop, then two; both infos are flagged peering, the second construction too
    ∷ case (send peers_book a112 a111 (solution 2 (edge 1 0 1 0 ∷ edge 0 0 1 1 ∷ [])))
    (56
    ∷ ((0 ∷ 0 ∷ 0x10 ∷ 0x80 ∷ 2 ∷ 0 ∷ 0x42 ∷ 0x23 ∷ 0x00 ∷ 0x0f ∷ 0x42 ∷ 0x40 ∷ 3 ∷ 0 ∷ 0x13 ∷ 0x36 ∷ 0x00 ∷ 0x0f ∷ 0x42 ∷ 0x40 ∷ [])
    ++ (0 ∷ 63 ∷ 0 ∷ 8 ∷ 0 ∷ 0 ∷ 10 ∷ 11 ∷ 12 ∷ 13 ∷ 14 ∷ 15 ∷ [])
    ++ (0 ∷ 63 ∷ 0 ∷ 9 ∷ 0 ∷ 5 ∷ 10 ∷ 11 ∷ 12 ∷ 13 ∷ 14 ∷ 15 ∷ [])
    ++ (0 ∷ 63 ∷ 0 ∷ 7 ∷ 0 ∷ 0 ∷ 10 ∷ 11 ∷ 12 ∷ 13 ∷ 14 ∷ 15 ∷ [])
    ++ replicate 548 0))
    -- the router, by the bytes alone: against construction the second hop's MAC is folded in, 1336 XOR 0102; of nothing, none
    ∷ case (carry two_wire) (0x1336 ∷ 0x1234 ∷ 0x4321 ∷ [])
    ∷ case (carry []) []
    -- of three segments: 1101, XOR 0202, and the peer's hop folds nothing; 2202, XOR 0808; 3303, of which the peer's hop folds nothing, XOR 4040
    ∷ case (carry three_wire) (0x1101 ∷ 0x1303 ∷ 0x1303 ∷ 0x2202 ∷ 0x2a0a ∷ 0x3303 ∷ 0x3303 ∷ 0x7343 ∷ [])
    -- what stands after the counts' bytes, at offsets 3 to 25 and in the interfaces makes no difference
    ∷ case (write (two_record ++ (1 ∷ 2 ∷ 3 ∷ [])) 604) (56 ∷ (two_wire ++ replicate 548 0))
    ∷ case (write (set (set two_record 3 9) 25 9) 604) (56 ∷ (two_wire ++ replicate 548 0))
    ∷ case (write (set (set two_record 75 9) 94 9) 604) (56 ∷ (two_wire ++ replicate 548 0))
    ∷ case (write two_plain 604) (56 ∷ (two_wire ++ replicate 548 0))
    -- 9 before 12, then 12; a refusal leaves zeros
    ∷ case (write two_record 603) (65545 ∷ replicate 603 0)
    ∷ case (read two_wire 1537) (65545 ∷ replicate 1537 0)
    ∷ case (write [] 603) (65545 ∷ replicate 603 0)
    ∷ case (read [] 1537) (65545 ∷ replicate 1537 0)
    ∷ case (write [] 604) (65548 ∷ replicate 604 0)
    ∷ case (read [] 1538) (65548 ∷ replicate 1538 0)
    ∷ case (write (set two_record 26 4) 606) (65548 ∷ replicate 606 0)
    ∷ case (read (set two_wire 20 1) 1540) (65548 ∷ replicate 1540 0)
    ∷ case (write [] 0) (65545 ∷ [])
    ∷ case (read two_wire 0) (65545 ∷ [])
    -- a byte changed in each field. Current info, current hop (of three, 1 and the last, 2), reserved: every bit
    ∷ case (reads (map (λ x. set two_wire 0 x) bits)) (replicate 8 65548)
    ∷ case (reads (map (λ x. set two_wire 1 x) (4 ∷ 8 ∷ 16 ∷ 32 ∷ 64 ∷ 128 ∷ []))) (replicate 6 65548)
    -- lengths: the first 34, 18, 3, 0
    ∷ case (reads (set two_wire 1 2 ∷ set two_wire 1 1 ∷ set two_wire 2 0x30 ∷ set two_wire 2 0 ∷ [])) (replicate 4 65548)
    -- the second 33, 5, 3, 0; the third 32, 1
    ∷ case (reads (set two_wire 2 0x28 ∷ set two_wire 2 0x21 ∷ set two_wire 3 0xc0 ∷ set two_wire 3 0 ∷ set two_wire 3 0x60 ∷ set two_wire 3 0x41 ∷ [])) (replicate 6 65548)
    -- an info's reserved bits, and its reserved byte
    ∷ case (reads (set two_wire 4 4 ∷ set two_wire 4 0x80 ∷ set two_wire 12 7 ∷ set two_wire 5 1 ∷ set two_wire 13 0x80 ∷ [])) (replicate 5 65548)
    ∷ case (reads (map (λ x. set two_wire 12 x) (4 ∷ 8 ∷ 16 ∷ 32 ∷ 64 ∷ 128 ∷ []) ++ map (λ x. set two_wire 13 x) bits))
    (replicate 14 65548)
    -- a hop's alerts and reserved bits
    ∷ case (reads (map (λ x. set two_wire 20 x) bits ++ (set two_wire 32 0x80 ∷ set two_wire 44 1 ∷ []))) (replicate 10 65548)
    -- of three infos the last, and of 19 and 48 hops the last
    ∷ case (reads (set long_wire 20 4 ∷ set long_wire 21 1 ∷ set long_wire 244 1 ∷ set (zero_wire 1 4 0x10 600) 592 1 ∷ [])) (replicate 4 65548)
    -- more by 4 bytes, a hop and 256
    ∷ case (reads ((two_wire ++ replicate 4 0) ∷ (two_wire ++ replicate 12 0) ∷ (two_wire ++ replicate 256 0) ∷ [])) (replicate 3 65548)
    -- a byte less, a byte more, none; the meta header alone, and less
    ∷ case (reads (take 55 two_wire ∷ (two_wire ++ (0 ∷ [])) ∷ [] ∷ take 4 two_wire ∷ take 3 two_wire ∷ [])) (replicate 5 65548)
    -- to the writer: no info, four, one, three; a hop less and more
    ∷ case (writes (set two_record 0 0 ∷ set two_record 0 4 ∷ set two_record 0 1 ∷ set two_record 0 3 ∷ set two_record 1 2 ∷ set two_record 1 4 ∷ [])) (replicate 6 65548)
    -- flags above 3, of the last of three too
    ∷ case (writes (map (λ x. set two_record 26 x) (4 ∷ 8 ∷ 16 ∷ 32 ∷ 64 ∷ 128 ∷ []) ++ (set two_record 34 7 ∷ set long_plain 42 4 ∷ []))) (replicate 8 65548)
    -- hop counts 0 and 17, and such as do not sum
    ∷ case (writes (set two_record 27 0 ∷ set two_record 27 17 ∷ set two_record 27 3 ∷ set two_record 35 2 ∷ set two_record 35 0 ∷ [])) (replicate 5 65548)
    -- interfaces that the bytes lack: one more is counted, a byte is missing, all are; the head is cut
    ∷ case (writes (set two_record 2 3 ∷ take 94 two_record ∷ take 75 two_record ∷ take 25 two_record ∷ [])) (replicate 4 65548)
    -- 130 interfaces, and 255, a byte of which is missing; with no interface, a byte of the hops, all of them, and the infos
    ∷ case (writes (set two_record 2 130 ∷ (set two_plain 2 255 ++ replicate 2549 7) ∷ take 74 two_plain ∷ take 42 two_plain ∷ take 26 two_plain ∷ [])) (replicate 5 65548)
    -- with all bytes of 255 interfaces; longer than any path
    ∷ case (writes ((set two_plain 2 255 ++ replicate 2550 7) ∷ (two_record ++ replicate 1600 7) ∷ [])) (56 ∷ 56 ∷ [])
    -- with one interface less there are bytes enough
    ∷ case (writes (set two_record 2 1 ∷ two_record ∷ two_plain ∷ [])) (56 ∷ 56 ∷ 56 ∷ [])
    -- lengths 1 0 1, 0 1 0, 0 0 1, 0 0 0, with the bytes of one info or two
    ∷ case (reads (zero_wire 0 0x10 0x01 32 ∷ zero_wire 0 0x10 0x01 40 ∷ zero_wire 0 0 0x40 20 ∷ zero_wire 0 0 0x40 28 ∷ zero_wire 0 0 1 20 ∷ zero_wire 0 0 0 0 ∷ zero_wire 0 0 0 8 ∷ []))
    (replicate 7 65548)
    -- 1 0 1 with the bytes of three infos; 0 1 0, 0 0 1 and 0 1 1 with those of none, 0 1 1 with those of two
    ∷ case (reads (zero_wire 0 0x10 0x01 48 ∷ zero_wire 0 0 0x40 12 ∷ zero_wire 0 0 1 12 ∷ zero_wire 0 0 0x41 24 ∷ zero_wire 0 0 0x41 40 ∷ [])) (replicate 5 65548)
    -- 17 0 0, 1 17 0, 1 1 17, 32 0 0, 63 0 0
    ∷ case (reads (zero_wire 1 0x10 0 212 ∷ zero_wire 0 0x14 0x40 232 ∷ zero_wire 0 0x10 0x51 252 ∷ zero_wire 2 0 0 392 ∷ zero_wire 3 0xf0 0 764 ∷ [])) (replicate 5 65548)
    -- 1 0 0, 16 1 0, three times 16; their records
    ∷ case (reads (zero_wire 0 0x10 0 20 ∷ zero_wire 1 0 0x40 220 ∷ zero_wire 1 4 0x10 600 ∷ [])) (45 ∷ 229 ∷ 578 ∷ [])
    ∷ case (writes (zero_record (1 ∷ []) 1 11 ∷ zero_record (16 ∷ 1 ∷ []) 17 187 ∷ zero_record (16 ∷ 16 ∷ 16 ∷ []) 48 528 ∷ [])) (24 ∷ 224 ∷ 604 ∷ [])
    -- no info; counts 0; 17; 2 0; 0 2; 1 1 17; four infos
    ∷ case (writes (zero_record [] 0 0 ∷ zero_record (0 ∷ []) 0 0 ∷ zero_record (17 ∷ []) 17 187 ∷ zero_record (2 ∷ 0 ∷ []) 2 22 ∷ zero_record (0 ∷ 2 ∷ []) 2 22 ∷ zero_record (1 ∷ 1 ∷ 17 ∷ []) 19 209 ∷ zero_record (1 ∷ 1 ∷ 1 ∷ 1 ∷ []) 4 44 ∷ []))
    (replicate 7 65548)
    -- a count of 1 for 65 hops
    ∷ case (writes (zero_record (1 ∷ []) 65 715 ∷ [])) (65548 ∷ [])
    ∷ []

-- a byte of the wire, and where it stands in the record: of infos flags, ids, timestamps; of hops units, ingress, egress, MAC
unfoldable pub bytewise : List Case
bytewise =
    moved 4 26 ++ moved 6 28 ++ moved 7 29 ++ moved 8 30 ++ moved 11 33 ++ moved 12 34 ++ moved 14 36 ++ moved 19 41
    ++ moved 21 42 ++ moved 22 43 ++ moved 23 44 ++ moved 24 45 ++ moved 25 46 ++ moved 26 47 ++ moved 31 52 ++ moved 33 53 ++ moved 45 64 ++ moved 55 74

-- ---- the theorem

pub all_right : (digest : List ℕ → List ℕ) → T (every (right digest) (table ++ bytewise))
unfolding table bytewise every right answer flat_map
    Basics.any Basics.filter Basics.range Basics.sum Basics.same_list Basics.padded
    Octets.be16 Octets.be32 Octets.be64 Octets.octets2 Octets.octets4 Octets.octets8
    Book.cores Book.non_cores Book.body_total Book.segment_count Book.head_offset Book.timestamp_at Book.id_at Book.entry_count_at Book.body_length_at
    Book.lengths_below Book.body_offset Book.whole_length Book.peer_count Book.entry_end Book.entries_verdict Book.isd_asn_at Book.same_as Book.entry_offset Book.local_at
    Book.has_local_of Book.stands_earlier Book.passes_twice Book.body_verdict Book.bodies_verdict Book.is_long Book.too_long Book.verdict Book.mac_at Book.as_entry_at Book.peer_entry_at Book.peer_offset Book.peer_of_entry_at Book.entry_at Book.entries_at Book.segment_at Book.segments
    Edges.same_vertex Edges.no_entry Edges.no_peer Edges.entry_of Edges.as_of Edges.leaf_as Edges.peer_of Edges.edge_of Edges.add_core_segment
    Edges.as_insertions Edges.peer_insertions Edges.entry_insertions Edges.insertions Edges.same_ends Edges.lasting Edges.same_bool Edges.same_segment
    Edges.in_construction Edges.is_earlier Edges.is_first Edges.firsts Edges.stored_of Edges.stored_edges
    Chains.allowed_kinds Chains.leaves Chains.leaving Chains.beginning Chains.walks Chains.chains
    Order.compare_by Order.solution_edge Order.weight_of Order.cost Order.compare_solutions Order.compare_chains Order.insert_all Order.insert Order.solutions
    Assembly.least Assembly.is_peer_edge Assembly.at_shortcut Assembly.is_peer_hop Assembly.hop_count Assembly.used_entries Assembly.hop_of Assembly.mtus_at
    Assembly.interface_if Assembly.interfaces_at Assembly.in_direction Assembly.fold_step Assembly.fold_macs Assembly.mac_of Assembly.id_below Assembly.stop_at Assembly.life Assembly.hops_of
    Assembly.interfaces_of Assembly.mtus_of Assembly.info_of Assembly.expiry_of Assembly.segment_of Assembly.units_of Assembly.info_on Assembly.hops_on Assembly.interfaces_on Assembly.mtus_on Assembly.expiry_on Assembly.combined_path Assembly.is_of Assembly.times_of Assembly.is_crowded Assembly.is_loop Assembly.is_bare Assembly.outcome
    Records.bit Records.edge_octets Records.solution_octets Records.slots
    Records.info_octets Records.hop_octets Records.as_octets Records.no_interface Records.interface_as_octets Records.interface_id_octets Records.path_head Records.path_head_octets Records.path_octets Records.path_head_in
    Router.info_at Router.hop_at Router.record_info Router.record_hop Router.infos_in Router.hops_in Router.is_none Router.against Router.along Router.walk_info Router.walk_infos
    Answers.refused_path Answers.path_answer Answers.path_of_record Answers.assembly
    Wire.current_info Wire.current_hop Wire.meta_reserved Wire.segment_length Wire.wire_info_count Wire.wire_hop_count Wire.hops_of_info Wire.meta_number Wire.meta_octets
    Wire.wire_info_offset Wire.wire_info Wire.wire_infos_in Wire.wire_info_octets Wire.wire_hop_at Wire.wire_hop_offset Wire.wire_hop Wire.wire_hops_in Wire.wire_hop_octets Wire.wire_octets
    Wire.wire_router_ids Wire.is_wrong_info Wire.record_needs Wire.writer_refuses Wire.wire_of Wire.wrong_lengths Wire.uses_reserved Wire.is_flagged Wire.reader_refuses Wire.plain_path Wire.record_of
    Wire.refused_wire Wire.carried Wire.writing Wire.reading
all_right digest = tt

-- The cases of docs/SPECIFICATION.md 13.1: one table of questions with their answers, and one theorem, which computes every answer.
-- Every answer is the specification's own. No case depends on the digest.
-- Assumes nothing.
use Prim.Native.Nat.{ℕ}
use mathlib.Core.List.{List, [], ◌∷◌, ◌++◌, map, flat_map}
use lib.ListN.{replicate}
use lib.Dec.{T}
use Rattle.spec.specs.Basics
use Rattle.spec.specs.Octets
use Rattle.spec.specs.Book
use Rattle.spec.specs.Edges
use Rattle.spec.specs.Chains
use Rattle.spec.specs.Order
use Rattle.spec.specs.Assembly
use Rattle.spec.specs.Records
use Rattle.spec.specs.Answers
use Rattle.spec.specs.Printed
use Rattle.spec.specs.Routes
use Rattle.spec.proofs.CasesForm.{entry, peer, Draft, segment, book, in_row, edge, solution, accept, list, route, print, live, input, Case, case, answer, right, every, a110, a111, a112, mac0, mac1}

-- ---- the books

-- the worked book at a timestamp, with entry 0's AS MTU and peers
abbrev pub worked : ℕ → ℕ → List (List ℕ) → Draft
worked timestamp mtu peers =
    segment timestamp 0x1234 (entry a110 mtu 0 0 5 63 mac0 peers ∷ entry a111 1400 1350 7 0 63 mac1 [] ∷ [])

abbrev pub worked_book : List ℕ
worked_book = book [] (worked 1000000 1500 [] ∷ [])

-- entry 0 of the worked book, and a segment of one entry, have each other for a peer
abbrev pub peers_book : List ℕ
peers_book =
    book []
    (worked 1000000 1500 (peer a112 8 1450 63 9 5 mac1 ∷ [])
    ∷ segment 1000000 0x4321 (entry a112 1500 0 0 0 63 mac0 (peer a110 9 1450 63 8 0 mac1 ∷ []) ∷ [])
    ∷ [])

abbrev pub cores_book : List ℕ
cores_book =
    book
    (segment 1 2 (entry a110 1500 0 0 1 63 mac0 [] ∷ entry a111 1500 0 2 0 63 mac1 [] ∷ [])
    ∷ segment 1 2 (entry a111 1500 0 0 3 63 mac0 [] ∷ entry a112 1500 0 4 0 63 mac1 [] ∷ [])
    ∷ [])
    []

-- the worked segment, and at a timestamp a copy of its route, of which an AS in the midst shows no interface
abbrev pub copies_book : ℕ → List ℕ
copies_book timestamp =
    book []
    (worked 1000000 1500 []
    ∷ segment timestamp 0x1234 (entry a110 1500 0 0 5 63 mac0 [] ∷ entry a112 1500 0 0 0 63 mac0 [] ∷ entry a111 1400 1350 7 0 63 mac1 [] ∷ [])
    ∷ [])

abbrev pub many_entries : ℕ → List ℕ
many_entries n = book [] (segment 1 2 (map (λ local. entry local 1500 0 0 1 63 mac0 []) (in_row a110 n)) ∷ [])

-- a segment of two entries that have their AS in common, and nothing else
abbrev pub twice_book : List ℕ
twice_book = book [] (segment 1 2 (entry a110 1500 0 0 1 63 mac0 [] ∷ entry a110 1400 1350 2 0 62 mac1 [] ∷ []) ∷ [])

-- ---- the table

pub table : List Case
table =
    -- 8 zero bytes: accepted, empty list; 7 bytes: 1
    case (list (replicate 8 0) a111 a110 16) (0 ∷ replicate 16 0)
    ∷ case (accept (replicate 7 0)) (1 ∷ [])
    -- 8 bytes with C 65: 4; C + N = 64 passes
    ∷ case (accept (0 ∷ 65 ∷ replicate 6 0)) (4 ∷ [])
    ∷ case (accept (0 ∷ 60 ∷ 0 ∷ 4 ∷ replicate 644 0)) (0 ∷ [])
    -- 16 entries pass, 17: 5
    ∷ case (accept (many_entries 16)) (0 ∷ [])
    ∷ case (accept (many_entries 17)) (5 ∷ [])
    -- two entries of one AS: 11
    ∷ case (accept twice_book) (11 ∷ [])
    ∷ case (list twice_book a111 a110 0) (65547 ∷ [])
    ∷ case (route twice_book a111 a110 0) (65547 ∷ [])
    ∷ case (print (input twice_book a111 a110)) (Printed.ascii "refused 11\n")
    -- the worked list, and with the ends reversed
    ∷ case (print (input worked_book a111 a110))
    (Printed.ascii "solutions 1 paths 1\n1 cost 1 segments 1 mtu 1350 expiry 1021600 hops 2\ninfo 0 1336 1000000\nif 0001ff0000000111 7\nif 0001ff0000000110 5\n")
    ∷ case (print (input worked_book a110 a111))
    (Printed.ascii "solutions 1 paths 1\n1 cost 1 segments 1 mtu 1350 expiry 1021600 hops 2\ninfo 1 1234 1000000\nif 0001ff0000000110 5\nif 0001ff0000000111 7\n")
    -- through the peers: in construction direction the id is 1336; a one-entry segment against construction has its own MAC folded in, 4321 XOR 0102
    ∷ case (print (input peers_book a112 a111))
    (Printed.ascii "solutions 1 paths 1\n1 cost 2 segments 2 mtu 1350 expiry 1021600 hops 3\ninfo 2 4223 1000000\ninfo 3 1336 1000000\nif 0001ff0000000112 8\nif 0001ff0000000110 9\nif 0001ff0000000110 5\nif 0001ff0000000111 7\n")
    -- the life of 0, 1 and 255 units
    ∷ case (live 0) (337 ∷ [])
    ∷ case (live 1) (675 ∷ [])
    ∷ case (live 255) (86400 ∷ [])
    -- the last timestamp; an AS MTU of 70000
    ∷ case (print (input (book [] (worked 4294967295 1500 [] ∷ [])) a111 a110))
    (Printed.ascii "solutions 1 paths 1\n1 cost 1 segments 1 mtu 1350 expiry 4294967295 hops 2\ninfo 0 1336 4294967295\nif 0001ff0000000111 7\nif 0001ff0000000110 5\n")
    ∷ case (print (input (book [] (segment 1000000 0x1234 (entry a110 70000 0 0 5 63 mac0 [] ∷ entry a111 9000 9000 7 0 63 mac1 [] ∷ []) ∷ [])) a111 a110))
    (Printed.ascii "solutions 1 paths 1\n1 cost 1 segments 1 mtu 4464 expiry 1021600 hops 2\ninfo 0 1336 1000000\nif 0001ff0000000111 7\nif 0001ff0000000110 5\n")
    -- cores A to B and B to C: none from A to C; from A to B there is one, and from B to C
    ∷ case (list cores_book a110 a112 16) (0 ∷ replicate 16 0)
    ∷ case (list cores_book a110 a111 16) (1 ∷ solution 1 (edge 0 0 0 1 ∷ []))
    ∷ case (list cores_book a111 a112 16) (1 ∷ solution 1 (edge 1 0 0 1 ∷ []))
    -- one solution, no slot: 8; one slot: listed
    ∷ case (list worked_book a111 a110 15) (65544 ∷ replicate 15 0)
    ∷ case (list worked_book a111 a110 16) (1 ∷ solution 1 (edge 0 0 0 0 ∷ []))
    -- one route, two solutions: the second, where it lives longer; the first, where both live as long; a slot for one: 8
    ∷ case (route (copies_book 1000001) a111 a110 32) (1 ∷ (solution 2 (edge 1 0 0 0 ∷ []) ++ replicate 16 0))
    ∷ case (route (copies_book 1000000) a111 a110 32) (1 ∷ (solution 1 (edge 0 0 0 0 ∷ []) ++ replicate 16 0))
    ∷ case (route (copies_book 1000001) a111 a110 16) (65544 ∷ replicate 16 0)
    ∷ []

-- ---- the theorem

pub all_right : (digest : List ℕ → List ℕ) → T (every (right digest) table)
unfolding table every right answer flat_map
    Basics.any Basics.filter Basics.range Basics.sum Basics.same_list Basics.padded
    Octets.be16 Octets.be32 Octets.be64 Octets.octets2 Octets.octets4 Octets.octets8
    Book.cores Book.non_cores Book.body_total Book.segment_count Book.head_offset Book.timestamp_at Book.id_at Book.entry_count_at Book.body_length_at
    Book.lengths_below Book.body_offset Book.whole_length Book.peer_count Book.entry_end Book.entries_verdict Book.isd_asn_at Book.same_as Book.entry_offset Book.local_at
    Book.has_local_of Book.stands_earlier Book.passes_twice Book.body_verdict Book.bodies_verdict Book.is_long Book.too_long Book.verdict Book.mac_at Book.as_entry_at Book.peer_entry_at Book.peer_offset Book.peer_of_entry_at Book.entry_at Book.entries_at Book.segment_at Book.segments
    Edges.same_vertex Edges.no_entry Edges.no_peer Edges.entry_of Edges.as_of Edges.leaf_as Edges.peer_of Edges.edge_of Edges.add_core_segment
    Edges.as_insertions Edges.peer_insertions Edges.entry_insertions Edges.insertions Edges.same_ends Edges.lasting Edges.same_bool Edges.same_segment
    Edges.in_construction Edges.is_earlier Edges.is_first Edges.firsts Edges.stored_of Edges.stored_edges
    Chains.allowed_kinds Chains.leaves Chains.leaving Chains.beginning Chains.walks Chains.chains
    Order.compare_by Order.solution_edge Order.weight_of Order.cost Order.compare_solutions Order.compare_chains Order.insert_all Order.insert Order.solutions
    Assembly.least Assembly.is_peer_edge Assembly.at_shortcut Assembly.is_peer_hop Assembly.hop_count Assembly.used_entries Assembly.hop_of Assembly.mtus_at
    Assembly.interface_if Assembly.interfaces_at Assembly.in_direction Assembly.fold_step Assembly.fold_macs Assembly.mac_of Assembly.id_below Assembly.stop_at Assembly.life Assembly.hops_of
    Assembly.interfaces_of Assembly.mtus_of Assembly.info_of Assembly.expiry_of Assembly.segment_of Assembly.units_of Assembly.info_on Assembly.hops_on Assembly.interfaces_on Assembly.mtus_on Assembly.expiry_on Assembly.combined_path Assembly.is_of Assembly.times_of Assembly.is_crowded Assembly.is_loop Assembly.is_bare Assembly.outcome
    Records.bit Records.edge_octets Records.solution_octets Records.slots
    Answers.refused_list Answers.listing_of Answers.listing
    Printed.ascii Printed.decimal_in Printed.decimal Printed.hex Printed.item Printed.newline Printed.info_line Printed.interface_line Printed.path_lines
    Printed.outcome_lines Printed.solution_lines Printed.solutions_lines Printed.has_path Printed.refused_line Printed.list_lines Printed.printed
    Routes.same_interface Routes.same_interfaces Routes.longer Routes.hold Routes.hold_all Routes.route_of Routes.lasts_to Routes.with_path Routes.routes
    Routes.routing_of Routes.routing
all_right digest = tt

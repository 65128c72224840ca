-- How a table of cases is written: books field by field, questions, their answers by the definitions, and the test of a whole table.
-- Assumes nothing.
use Prim.Native.Nat.{ℕ, ◌+◌, ◌-◌, ◌*◌, Ordering}
use mathlib.Core.Bool.{Bool, true, ◌&&◌}
use mathlib.Core.List.{List, [], ◌∷◌, ◌++◌, map, flat_map}
use lib.ListN.{length, replicate, take}
use Rattle.spec.specs.declared.IsdAsn.{IsdAsn}
use Rattle.spec.specs.declared.Edge.{Edge}
use Rattle.spec.specs.Limits.{path_size, wire_size}
use Rattle.spec.specs.Basics.{same_list}
use Rattle.spec.specs.Octets.{octets2, octets4, octets8}
use Rattle.spec.specs.Book.{verdict}
use Rattle.spec.specs.Order.{compare_chains, solutions}
use Rattle.spec.specs.Digests.{chain_digests}
use Rattle.spec.specs.Assembly.{CombinedPath, combined_path, life}
use Rattle.spec.specs.Records.{bit, slots}
use Rattle.spec.specs.ByRecord.{compare_records, record_digests}
use Rattle.spec.specs.Router.{router_ids}
use Rattle.spec.specs.Answers.{Listed, Assembled, listing, assembly, verdict_number, list_number, path_number}
use Rattle.spec.specs.Printed.{printed}
use Rattle.spec.specs.Routes.{routing}
use Rattle.spec.specs.Wire.{Carried, wire_number, wire_router_ids, writing, reading}

-- ---- books

-- AS, AS MTU, ingress MTU, ingress, egress, units, MAC, peers
abbrev pub entry : ℕ → ℕ → ℕ → ℕ → ℕ → ℕ → List ℕ → List (List ℕ) → List ℕ
entry local mtu ingress_mtu ingress egress units mac peers =
    octets8 local ++ octets4 mtu ++ octets2 ingress_mtu ++ octets2 ingress ++ octets2 egress
    ++ (units ∷ []) ++ mac ++ (length peers ∷ []) ++ flat_map (λ p. p) peers

-- peer AS, peer interface, peer MTU, units, ingress, egress, MAC
abbrev pub peer : ℕ → ℕ → ℕ → ℕ → ℕ → ℕ → List ℕ → List ℕ
peer local interface mtu units ingress egress mac =
    octets8 local ++ octets2 interface ++ octets2 mtu ++ (units ∷ []) ++ octets2 ingress ++ octets2 egress ++ mac

-- a segment: timestamp, id, entries
pub record Draft : Type 0 where
  pub timestamp : ℕ
  pub id : ℕ
  pub entries : List (List ℕ)

abbrev pub segment : ℕ → ℕ → List (List ℕ) → Draft
segment timestamp id entries = record { timestamp = timestamp; id = id; entries = entries }

abbrev pub body : Draft → List ℕ
body s = flat_map (λ x. x) s.entries

abbrev pub head : Draft → List ℕ
head s = octets4 s.timestamp ++ octets2 s.id ++ octets2 (length s.entries) ++ octets2 (length (body s))

-- of core and non-core segments
abbrev pub book : List Draft → List Draft → List ℕ
book cores others =
    let bodies : List ℕ = flat_map body (cores ++ others) in
    octets2 (length cores) ++ octets2 (length others) ++ octets4 (length bodies) ++ flat_map head (cores ++ others) ++ bodies

-- so many ASes in a row, from one on; at most 17
abbrev pub in_row : ℕ → ℕ → List ℕ
in_row first n = map (λ i. first + i) (take n (0 ∷ 1 ∷ 2 ∷ 3 ∷ 4 ∷ 5 ∷ 6 ∷ 7 ∷ 8 ∷ 9 ∷ 10 ∷ 11 ∷ 12 ∷ 13 ∷ 14 ∷ 15 ∷ 16 ∷ []))

-- ---- solution records: position, shortcut, peer index plus 1 or 0, direction for each edge

abbrev pub edge : ℕ → ℕ → ℕ → ℕ → List ℕ
edge position shortcut peer direction = position ∷ shortcut ∷ peer ∷ direction ∷ []

-- of a cost below 256
abbrev pub solution : ℕ → List (List ℕ) → List ℕ
solution cost edges = 0 ∷ cost ∷ length edges ∷ 0 ∷ (flat_map (λ e. e) edges ++ replicate (12 - 4 * length edges) 0)

-- ---- the questions

pub data Question : Type 0 where
  -- is the book accepted?
  accept : List ℕ → Question
  -- the list from a source to a destination, in so many bytes
  list : List ℕ → ℕ → ℕ → ℕ → Question
  -- the routes from a source to a destination, in so many bytes
  route : List ℕ → ℕ → ℕ → ℕ → Question
  -- what is printed for an input
  print : List ℕ → Question
  -- the path of a record, in so many bytes
  assemble : List ℕ → ℕ → ℕ → List ℕ → ℕ → Question
  -- of every path in one book after the other: MTU and expiry
  least : List (List ℕ) → ℕ → ℕ → Question
  -- flags, hop count and id of each info, ingress and egress of each hop, all interface ids
  sketch : List (List ℕ) → ℕ → ℕ → Question
  -- the ids that a router holds at the hops of that path
  hold : List ℕ → ℕ → ℕ → List ℕ → Question
  -- a path record as bytes on the wire, and such bytes as a record, in so many bytes
  write : List ℕ → ℕ → Question
  read : List ℕ → ℕ → Question
  -- of one record after the other, and of one list of bytes after the other: the number answered
  writes : List (List ℕ) → Question
  reads : List (List ℕ) → Question
  -- the path of a solution record as bytes on the wire
  send : List ℕ → ℕ → ℕ → List ℕ → Question
  -- the ids that a router holds at the hops, by the bytes on the wire
  carry : List ℕ → Question
  -- of solution records of a book, each with the next: before, same or after, and how many fingerprints are worked out
  compared : List ℕ → List (List ℕ) → Question
  -- the same of the solutions from a source to a destination, each with every one
  compared_all : List ℕ → ℕ → ℕ → Question
  -- how many solutions fit in so many bytes?
  room : ℕ → Question
  -- how long does a hop of so many units live?
  live : ℕ → Question

abbrev pub isd_asn : ℕ → IsdAsn
isd_asn n = record { 0 = n }

-- the program's input
abbrev pub input : List ℕ → ℕ → ℕ → List ℕ
input b src dst = octets8 src ++ octets8 dst ++ b

unfoldable pub sketch_of : CombinedPath → List ℕ
sketch_of p =
    flat_map (λ i. (bit i.construction + 2 * bit i.peering) ∷ i.hops ∷ i.id ∷ []) p.infos
    ++ flat_map (λ h. h.ingress ∷ h.egress ∷ []) p.hops
    ++ map (λ x. x.id) p.interfaces

-- before, same, after
unfoldable pub order_number : Ordering → ℕ
order_number Ordering.lt = 0
order_number Ordering.eq = 1
order_number Ordering.gt = 2

-- each with the next
unfoldable pub each_next : (List ℕ → List ℕ → List ℕ) → List (List ℕ) → List ℕ
each_next f [] = []
each_next f (r ∷ []) = []
each_next f (r ∷ s ∷ rs) = f r s ++ each_next f (s ∷ rs)

unfoldable pub answer : (List ℕ → List ℕ) → Question → List ℕ
answer digest (accept b) = verdict_number (verdict b) ∷ []
answer digest (list b src dst bytes) =
    let l : Listed = listing digest b (isd_asn src) (isd_asn dst) bytes in
    list_number l.0 ∷ l.1
answer digest (route b src dst bytes) =
    let l : Listed = routing digest b (isd_asn src) (isd_asn dst) bytes in
    list_number l.0 ∷ l.1
answer digest (print i) = printed digest i
answer digest (assemble b src dst given bytes) =
    let a : Assembled = assembly b (isd_asn src) (isd_asn dst) given bytes in
    path_number a.0 ∷ a.1
answer digest (least books src dst) =
    flat_map (λ b. flat_map (λ c. (combined_path b c).mtu ∷ (combined_path b c).expiry ∷ []) (solutions digest b (isd_asn src) (isd_asn dst))) books
answer digest (sketch books src dst) =
    flat_map (λ b. flat_map (λ c. sketch_of (combined_path b c)) (solutions digest b (isd_asn src) (isd_asn dst))) books
answer digest (hold b src dst given) = router_ids (assembly b (isd_asn src) (isd_asn dst) given path_size).1
answer digest (write path bytes) =
    let w : Carried = writing path bytes in
    wire_number w.0 ∷ w.1
answer digest (read wire bytes) =
    let r : Carried = reading wire bytes in
    wire_number r.0 ∷ r.1
answer digest (writes paths) = map (λ path. wire_number (writing path wire_size).0) paths
answer digest (reads wires) = map (λ wire. wire_number (reading wire path_size).0) wires
answer digest (send b src dst given) =
    let w : Carried = writing (assembly b (isd_asn src) (isd_asn dst) given path_size).1 wire_size in
    wire_number w.0 ∷ w.1
answer digest (carry wire) = wire_router_ids wire
answer digest (compared b records) = each_next (λ r s. order_number (compare_records digest b r s) ∷ record_digests digest b r s ∷ []) records
answer digest (compared_all b src dst) =
    let found : List (List Edge) = solutions digest b (isd_asn src) (isd_asn dst) in
    flat_map (λ c. flat_map (λ d. order_number (compare_chains digest b c d) ∷ chain_digests digest b c d ∷ []) found) found
answer digest (room bytes) = slots bytes ∷ []
answer digest (live units) = life units ∷ []

-- ---- tables

pub record Case : Type 0 where
  pub question : Question
  pub expected : List ℕ

abbrev pub case : Question → List ℕ → Case
case q a = record { question = q; expected = a }

unfoldable pub right : (List ℕ → List ℕ) → Case → Bool
right digest c = same_list (answer digest c.question) c.expected

unfoldable pub every : (Case → Bool) → List Case → Bool
every p [] = true
every p (c ∷ cs) = p c && every p cs

-- ---- ASes and MACs

abbrev pub a110 : ℕ
a110 = 0x0001_ff00_0000_0110

abbrev pub a111 : ℕ
a111 = 0x0001_ff00_0000_0111

abbrev pub a112 : ℕ
a112 = 0x0001_ff00_0000_0112

abbrev pub a0 : ℕ
a0 = 0

abbrev pub a113 : ℕ
a113 = 0x0001_ff00_0000_0113

abbrev pub a114 : ℕ
a114 = 0x0001_ff00_0000_0114

-- the first of many ASes
abbrev pub a200 : ℕ
a200 = 0x0001_ff00_0000_0200

-- a110's AS number in another ISD
abbrev pub b110 : ℕ
b110 = 0x0002_ff00_0000_0110

abbrev pub mac0 : List ℕ
mac0 = 1 ∷ 2 ∷ 3 ∷ 4 ∷ 5 ∷ 6 ∷ []

abbrev pub mac1 : List ℕ
mac1 = 10 ∷ 11 ∷ 12 ∷ 13 ∷ 14 ∷ 15 ∷ []

abbrev pub mac2 : List ℕ
mac2 = 0x20 ∷ 0x31 ∷ 0x42 ∷ 0x53 ∷ 0x64 ∷ 0x75 ∷ []

abbrev pub mac3 : List ℕ
mac3 = 0x86 ∷ 0x97 ∷ 0xa8 ∷ 0xb9 ∷ 0xca ∷ 0xdb ∷ []

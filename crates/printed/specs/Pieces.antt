-- The pieces of a printed list: its first line, and the lines of each solution. `proofs/Joined` says that, one after the other, they
-- are the list.
-- Assumes nothing.
use Rattle.std.specs.Prelude.{ℕ, ◌+◌, ◌*◌, Bool, length, drop, ltb, if◌then◌else◌, Ok, Err}
use mathlib.Core.List.{List, [], ◌∷◌, ◌++◌, flat_map}
use Rattle.sha256.specs.Message.{sha256}
use Rattle.spec.specs.declared.IsdAsn.{IsdAsn}
use Rattle.spec.specs.declared.Edge.{Edge}
use Rattle.spec.specs.declared.Refusal.TheVariants.{Cut}
use Rattle.spec.specs.Answers.{ListAnswer, PathAnswer, Listed, refused_list, listing, assembly}
use Rattle.spec.specs.Book.{Verdict, verdict, isd_asn_at}
use Rattle.spec.specs.declared.Outcome.TheVariants.{Path, Loop, Bare}
use Rattle.spec.specs.Limits.{max_edges, max_entries, path_size}
use Rattle.spec.specs.Basics.{filter, range, same_list}
use Rattle.spec.specs.Chains.{chains}
use Rattle.spec.specs.Records.{solution_octets, solution_in}
use Rattle.spec.specs.Printed.{ascii, decimal, item, newline, solution_lines, is_path, refused_line}
use Rattle.order.specs.Records.{record_at}
use Rattle.printed.specs.Lines.{path_text}

-- ---- a solution, from its record

-- its number, cost, edges
unfoldable pub start_text : List ℕ → ℕ → List ℕ
start_text given number = decimal number ++ item " cost " (solution_in given).cost ++ item " segments " (solution_in given).count

-- what is printed of it, for assembly's answer and the path's record that it left
abbrev pub text_by : PathAnswer → List ℕ → List ℕ → ℕ → List ℕ
text_by (Ok Path) p given number = start_text given number ++ path_text p
text_by (Ok Loop) p given number = start_text given number ++ (ascii " loop" ++ newline)
text_by (Ok Bare) p given number = start_text given number ++ (ascii " bare" ++ newline)
text_by (Err r) p given number = []

-- the lines of the chain that the record is of; a record of no chain has none
unfoldable pub lines_of_record : List ℕ → ℕ → List ℕ → List (List Edge) → List ℕ
lines_of_record b number given [] = []
lines_of_record b number given (c ∷ cs) =
    let others = lines_of_record b number given cs in
    if same_list given (solution_octets c) then solution_lines b number c else others

-- nor has a refused book any
abbrev pub lines_on : Verdict → List ℕ → ℕ → List ℕ → List (List Edge) → List ℕ
lines_on (Ok tt) b number given found = lines_of_record b number given found
lines_on (Err r) b number given found = []

unfoldable pub solution_text : List ℕ → IsdAsn → IsdAsn → List ℕ → ℕ → List ℕ
solution_text b src dst given number = lines_on (verdict b) b number given (chains b src dst)

-- ---- how long a piece is at most

-- "info ", flags, id, timestamp
abbrev pub info_line_size : ℕ
info_line_size = 5 + 1 + 1 + 4 + 1 + 10 + 1

-- "if ", AS, id
abbrev pub interface_line_size : ℕ
interface_line_size = 3 + 16 + 1 + 5 + 1

-- the counts of solutions and of those with a path
abbrev pub first_line_size : ℕ
first_line_size = (10 + 20) + (7 + 20) + 1

-- number, cost, segments, mtu, expiry, hops
abbrev pub solution_line_size : ℕ
solution_line_size = 20 + (6 + 5) + (10 + 1) + (5 + 5) + (8 + 10) + (6 + 2) + 1

-- the longest solution, 2644: an info for each edge, two interfaces for each entry
abbrev pub solution_text_size : ℕ
solution_text_size = solution_line_size + max_edges * info_line_size + max_edges * max_entries * 2 * interface_line_size

-- ---- the first line

unfoldable pub counts_line : ℕ → ℕ → List ℕ
counts_line solutions paths = item "solutions " solutions ++ item " paths " paths ++ newline

-- ---- an input: source 8, destination 8, then the book

abbrev pub ends_size : ℕ
ends_size = 8 + 8

module _ (input : List ℕ) where
  -- the lines of the solution in slot k
  unfoldable pub slot_text : List ℕ → ℕ → List ℕ
  slot_text records k = solution_text (drop ends_size input) (isd_asn_at input 0) (isd_asn_at input 8) (record_at records k) (k + 1)

  -- assembly of the record in slot k answers a path
  unfoldable pub slot_has_path : List ℕ → ℕ → Bool
  slot_has_path records k = is_path (assembly (drop ends_size input) (isd_asn_at input 0) (isd_asn_at input 8) (record_at records k) path_size).0

  -- among so many slots
  unfoldable pub paths_to : List ℕ → ℕ → ℕ
  paths_to records n = length (filter (slot_has_path records) (range 0 n))

  -- what listing answers into so many bytes; an input without its ends is answer 1
  unfoldable pub listed : ℕ → Listed
  listed bytes =
      if ltb (length input) ends_size then refused_list bytes Cut
      else listing sha256 (drop ends_size input) (isd_asn_at input 0) (isd_asn_at input 8) bytes

  -- the first line, for what listing answered
  abbrev pub first_by : ListAnswer → List ℕ → List ℕ
  first_by (Ok n) records = counts_line n (paths_to records n)
  first_by (Err r) records = refused_line r

  unfoldable pub first_line : ℕ → List ℕ
  first_line bytes = first_by (listed bytes).0 (listed bytes).1

-- how many solutions follow it
abbrev pub count_of : ListAnswer → ℕ
count_of (Ok n) = n
count_of (Err r) = 0

-- the first line, then the lines of each solution
unfoldable pub pieces : List ℕ → ℕ → List ℕ
pieces input bytes = first_line input bytes ++ flat_map (slot_text input (listed input bytes).1) (range 0 (count_of (listed input bytes).0))

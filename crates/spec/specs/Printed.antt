-- What the program prints for its standard input: source 8, destination 8, then the book.
-- Assumes nothing.
use Rattle.std.specs.Prelude.{ℕ, zero, suc, ◌+◌, ◌*◌, ◌/◌, ◌%◌, ◌^◌, Bool, true, false, length, drop, ltb, if◌then◌else◌, Ok, Err}
use Prim.Native.Char.{code}
use Prim.Native.String.{String}
use mathlib.Core.List.{List, [], ◌∷◌, ◌++◌, flat_map}
use Rattle.spec.specs.declared.IsdAsn.{IsdAsn}
use Rattle.spec.specs.declared.InfoField.{InfoField}
use Rattle.spec.specs.declared.PathInterface.{PathInterface}
use Rattle.spec.specs.declared.Edge.{Edge}
use Rattle.spec.specs.declared.Refusal.{Refusal}
use Rattle.spec.specs.Answers.{PathAnswer, refusal_number, assembly}
use Rattle.spec.specs.Book.{Verdict, verdict, isd_asn_at}
use Rattle.spec.specs.declared.Outcome.TheVariants.{Path, Loop, Bare}
use Rattle.spec.specs.declared.Refusal.TheVariants.{Cut, Full}
use Rattle.spec.specs.Limits.{max_slots, path_size}
use Rattle.spec.specs.Basics.{filter}
use Rattle.spec.specs.Order.{cost, solutions}
use Rattle.spec.specs.Assembly.{CombinedPath, combined_path, outcome}
use Rattle.spec.specs.Records.{bit, solution_octets}

-- ---- text

-- 10.2: the bytes of a text
unfoldable pub ascii : String → List ℕ
ascii String.[] = []
ascii (String.◌∷◌ c s) = code c ∷ ascii s

-- 10.2: in base ten, of at most so many digits
unfoldable pub decimal_in : ℕ → ℕ → List ℕ
decimal_in zero n = []
decimal_in (suc most) n =
    let higher = decimal_in most (n / 10) in
    (if ltb n 10 then [] else higher) ++ ((48 + n % 10) ∷ [])

-- 10.2: in base ten
unfoldable pub decimal : ℕ → List ℕ
decimal n = decimal_in 20 n

-- 10.2: in so many hex digits
unfoldable pub hex : ℕ → ℕ → List ℕ
hex zero n = []
hex (suc k) n =
    let digit : ℕ = n / 16 ^ k % 16 in
    (if ltb digit 10 then 48 + digit else 87 + digit) ∷ hex k n

-- 10.2: a word, and a number in base ten after it
unfoldable pub item : String → ℕ → List ℕ
item word n = ascii word ++ decimal n

-- 10.2: the end of a line
unfoldable pub newline : List ℕ
newline = 10 ∷ []

-- ---- the lines

-- 10.4: flags, id (4 hex digits), timestamp
unfoldable pub info_line : InfoField → List ℕ
info_line i =
    item "info " (bit i.construction + 2 * bit i.peering) ++ ascii " " ++ hex 4 i.id ++ item " " i.timestamp ++ newline

-- 10.4: AS (16 hex digits), id
unfoldable pub interface_line : PathInterface → List ℕ
interface_line i = ascii "if " ++ hex 16 i.local.0 ++ item " " i.id ++ newline

-- 10.4: the named fields, then all infos, then all interfaces
unfoldable pub path_lines : CombinedPath → List ℕ
path_lines p =
    item " mtu " p.mtu ++ item " expiry " p.expiry ++ item " hops " (length p.hops) ++ newline
    ++ flat_map info_line p.infos
    ++ flat_map interface_line p.interfaces

-- 10.4: the named fields, or in their place only loop or bare, with no lines below
abbrev pub lines_by : PathAnswer → CombinedPath → List ℕ
lines_by (Ok Path) p = path_lines p
lines_by (Ok Loop) p = ascii " loop" ++ newline
lines_by (Ok Bare) p = ascii " bare" ++ newline
lines_by (Err r) p = []

unfoldable pub outcome_lines : CombinedPath → List ℕ
outcome_lines p = lines_by (Ok (outcome p)) p

-- 10.4: its number, cost, edges, then the named fields, or loop or bare
unfoldable pub solution_lines : List ℕ → ℕ → List Edge → List ℕ
solution_lines b number c =
    decimal number ++ item " cost " (cost c) ++ item " segments " (length c) ++ outcome_lines (combined_path b c)

-- 10.4: the solutions, numbered from 1
unfoldable pub solutions_lines : List ℕ → ℕ → List (List Edge) → List ℕ
solutions_lines b number [] = []
solutions_lines b number (c ∷ cs) = solution_lines b number c ++ solutions_lines b (number + 1) cs

-- 10.3: the solution has a path
abbrev pub is_path : PathAnswer → Bool
is_path (Ok Path) = true
is_path (Ok Loop) = false
is_path (Ok Bare) = false
is_path (Err r) = false

unfoldable pub has_path : List ℕ → List Edge → Bool
has_path b c = is_path (Ok (outcome (combined_path b c)))

-- 10.3: assembly of the chain's record, into a buffer that holds any path, answers a path
unfoldable pub assembles : List ℕ → IsdAsn → IsdAsn → List Edge → Bool
assembles b src dst c = is_path (assembly b src dst (solution_octets c) path_size).0

-- 10.5: a refusal prints its number
unfoldable pub refused_line : Refusal → List ℕ
refused_line r = item "refused " (refusal_number r) ++ newline

-- 10.3, 10.5: the counts of solutions and of those with a path, then each solution; or Full
unfoldable pub list_lines : List ℕ → List (List Edge) → List ℕ
list_lines b found =
    if ltb max_slots (length found) then refused_line Full
    else item "solutions " (length found) ++ item " paths " (length (filter (has_path b) found)) ++ newline
    ++ solutions_lines b 1 found

-- 10.1: by the tests of the book
abbrev pub printed_on : Verdict → List ℕ → List (List Edge) → List ℕ
printed_on (Ok tt) b found = list_lines b found
printed_on (Err r) b found = refused_line r

-- 10.1: under 16 bytes is Cut
unfoldable pub printed : (List ℕ → List ℕ) → List ℕ → List ℕ
printed digest input =
    let b : List ℕ = drop 16 input in
    if ltb (length input) 16 then refused_line Cut
    else printed_on (verdict b) b (solutions digest b (isd_asn_at input 0) (isd_asn_at input 8))

-- What listing and assembly answer, and what they leave in the output: on every book, source, destination and output length.
-- Assumes nothing.
use Rattle.std.specs.Prelude.{ℕ, ◌+◌, length, replicate, ltb, if◌then◌else◌, Result, Ok, Err}
use mathlib.Core.List.{List, [], ◌∷◌, flat_map}
use Rattle.spec.specs.declared.IsdAsn.{IsdAsn}
use Rattle.spec.specs.declared.Edge.{Edge}
use Rattle.spec.specs.declared.Refusal.{Refusal}
use Rattle.spec.specs.declared.Refusal.TheVariants.{Cut, Surplus, Oversize, Crowded, Long, Peers, Misfit, Full, Small, Stranger, Twice, Wire}
use Rattle.spec.specs.Book.{Verdict, verdict}
use Rattle.spec.specs.declared.Outcome.{Outcome}
use Rattle.spec.specs.declared.Outcome.TheVariants.{Path, Loop, Bare}
use Rattle.spec.specs.Limits.{path_size}
use Rattle.spec.specs.Basics.{padded, same_list}
use Rattle.spec.specs.Chains.{chains}
use Rattle.spec.specs.Order.{solutions}
use Rattle.spec.specs.Assembly.{CombinedPath, combined_path, outcome}
use Rattle.spec.specs.Records.{solution_octets, path_octets, slots}

-- 9.2: the numbers of the refusals
abbrev pub refusal_number : Refusal → ℕ
refusal_number Cut = 1
refusal_number Surplus = 2
refusal_number Oversize = 3
refusal_number Crowded = 4
refusal_number Long = 5
refusal_number Peers = 6
refusal_number Misfit = 7
refusal_number Full = 8
refusal_number Small = 9
refusal_number Stranger = 10
refusal_number Twice = 11
refusal_number Wire = 12

-- 9.8: the answer about a book as a number: 0 for an accepted one, or the refusal's
abbrev pub verdict_number : Verdict → ℕ
verdict_number (Ok tt) = 0
verdict_number (Err r) = refusal_number r

-- 9.8, 11.1: listing's and assembly's answers as the numbers that the exported functions return: a refusal is told by being past `refusals`
abbrev pub refusals : ℕ
refusals = 65536

-- 9.1: listing's answer: the count of solutions, or a refusal
abbrev pub ListAnswer : Type 0
ListAnswer = Result ℕ Refusal

-- 9.1: assembly's: what becomes of the chain, or a refusal
abbrev pub PathAnswer : Type 0
PathAnswer = Result Outcome Refusal

-- 9.8: listing's, and assembly's
abbrev pub list_number : ListAnswer → ℕ
list_number (Ok n) = n
list_number (Err r) = refusals + refusal_number r

abbrev pub path_number : PathAnswer → ℕ
path_number (Ok Path) = 0
path_number (Ok Loop) = 1
path_number (Ok Bare) = 2
path_number (Err r) = refusals + refusal_number r

-- 9.1: an answer, and the bytes that the output then holds
abbrev pub Listed : Type 0
Listed = ListAnswer × List ℕ

abbrev pub Assembled : Type 0
Assembled = PathAnswer × List ℕ

-- ---- listing; `bytes` is the output's length

-- 9.7: a refusal leaves the output zero
unfoldable pub refused_list : ℕ → Refusal → Listed
refused_list bytes r = (Err r, replicate bytes 0)

-- 9.5: of an accepted book: Full, or the count and the records of what was found
unfoldable pub listing_of : ℕ → List (List Edge) → Listed
listing_of bytes found =
    if ltb (slots bytes) (length found) then refused_list bytes Full
    else (Ok (length found), padded bytes (flat_map solution_octets found))

-- 9.5: by the tests of the book
abbrev pub listing_on : Verdict → ℕ → List (List Edge) → Listed
listing_on (Ok tt) bytes found = listing_of bytes found
listing_on (Err r) bytes found = refused_list bytes r

-- 9.5: listing, on every input
unfoldable pub listing : (List ℕ → List ℕ) → List ℕ → IsdAsn → IsdAsn → ℕ → Listed
listing digest b src dst bytes = listing_on (verdict b) bytes (solutions digest b src dst)

-- ---- assembly of the solution whose record is given

-- 9.7: a refusal leaves the output zero
unfoldable pub refused_path : ℕ → Refusal → Assembled
refused_path bytes r = (Err r, replicate bytes 0)

-- 9.7: what an outcome leaves in the output: the path's record; Loop and Bare leave zeros
abbrev pub output_of : Outcome → ℕ → CombinedPath → List ℕ
output_of Path bytes p = padded bytes (path_octets p)
output_of Loop bytes p = replicate bytes 0
output_of Bare bytes p = replicate bytes 0

-- 9.6: the answer to a chain
unfoldable pub path_answer : List ℕ → ℕ → List Edge → Assembled
path_answer b bytes c = (Ok (outcome (combined_path b c)), output_of (outcome (combined_path b c)) bytes (combined_path b c))

-- 9.6: the chain that the record is of; a record of no chain is a stranger's
unfoldable pub path_of_record : List ℕ → ℕ → List ℕ → List (List Edge) → Assembled
path_of_record b bytes given [] = refused_path bytes Stranger
path_of_record b bytes given (c ∷ cs) =
    let others = path_of_record b bytes given cs in
    if same_list given (solution_octets c) then path_answer b bytes c else others

-- 9.6: by the tests of the book, then Small
abbrev pub assembly_on : Verdict → List ℕ → ℕ → List ℕ → List (List Edge) → Assembled
assembly_on (Ok tt) b bytes given found =
    if ltb bytes path_size then refused_path bytes Small else path_of_record b bytes given found
assembly_on (Err r) b bytes given found = refused_path bytes r

-- 9.6: assembly, on every input
unfoldable pub assembly : List ℕ → IsdAsn → IsdAsn → List ℕ → ℕ → Assembled
assembly b src dst given bytes = assembly_on (verdict b) b bytes given (chains b src dst)

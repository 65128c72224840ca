-- The chain that a record is of, as the code answers it.
-- Assumes nothing.
use Rattle.std.specs.Prelude.{ℕ, ◌+◌, Bool, List, [], ◌∷◌, length, Option, Some, None, Result, Ok, Err}
use Rattle.spec.specs.declared.IsdAsn.{IsdAsn}
use Rattle.spec.specs.declared.Edge.{Edge}
use Rattle.spec.specs.declared.Refusal.{Refusal}
use Rattle.spec.specs.declared.Refusal.TheVariants.{Stranger}
use Rattle.spec.specs.Book.{Verdict, verdict}
use Rattle.spec.specs.Basics.{filter, same_list}
use Rattle.spec.specs.Chains.{chains}
use Rattle.spec.specs.Records.{solution_octets}
use Rattle.spec.specs.Answers.{refusals, refusal_number}

-- the record is that of a chain
unfoldable pub is_record_of : List ℕ → List Edge → Bool
is_record_of r c = same_list r (solution_octets c)

-- the chains whose record it is: at most one
unfoldable pub recorded_chains : List ℕ → IsdAsn → IsdAsn → List ℕ → List (List Edge)
recorded_chains b src dst r = filter (is_record_of r) (chains b src dst)

-- ---- the answer of `chain_of`

-- how many edges the chain has, if there is one, or the refusal of the book
abbrev pub Chain : Type 0
Chain = Result (Option ℕ) Refusal

-- as a number: of a chain how many edges it has, else the refusal's past `refusals`, as assembly returns it
abbrev pub chain_number : Chain → ℕ
chain_number (Err r) = refusals + refusal_number r
chain_number (Ok None) = refusals + refusal_number Stranger
chain_number (Ok (Some n)) = n

-- how many edges the chain has, if there is one
abbrev pub chain_in : List (List Edge) → Option ℕ
chain_in [] = None
chain_in (c ∷ cs) = Some (length c)

abbrev pub recorded_on : Verdict → List (List Edge) → Chain
recorded_on (Ok tt) found = Ok (chain_in found)
recorded_on (Err r) found = Err r

unfoldable pub recorded : List ℕ → IsdAsn → IsdAsn → List ℕ → Chain
recorded b src dst r = recorded_on (verdict b) (recorded_chains b src dst r)

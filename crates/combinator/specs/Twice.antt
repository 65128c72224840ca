-- What the exported functions answer of a book that is refused: one number, and zeros.
-- Assumes nothing.
use Rattle.std.specs.Prelude.{ℕ, ◌+◌, ◌≡◌, List, replicate}
use Rattle.spec.specs.declared.Refusal.{Refusal}
use Rattle.spec.specs.Answers.{refusals, refusal_number}
use Rattle.combinator.specs.Exports.{list_returned, routes_returned, path_returned}

-- every function, for every source, destination, record and output
pub record AllRefuse (b : List ℕ) (r : Refusal) : Type 0 where
  pub listed : (src dst bytes : ℕ) → list_returned b src dst bytes ≡ (refusals + refusal_number r, replicate bytes 0)
  pub routed : (src dst bytes : ℕ) → routes_returned b src dst bytes ≡ (refusals + refusal_number r, replicate bytes 0)
  pub assembled : (src dst : ℕ) (given : List ℕ) (bytes : ℕ) → path_returned b src dst given bytes ≡ (refusals + refusal_number r, replicate bytes 0)

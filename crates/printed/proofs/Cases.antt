-- The cases of docs/SPECIFICATION.md 13.1 end to end, those that ask for the printed text: the pieces that the program hands over, one after the
-- other, are what stands beside the question.
-- Assumes nothing.
use Prim.Native.Nat.{ℕ, ◌*◌}
use mathlib.Core.Path.{◌≡◌, ◌∙◌}
use mathlib.Core.List.{List, Memᴰ as Mem}
use Rattle.sha256.specs.Message.{sha256}
use Rattle.spec.specs.Limits.{max_slots, solution_size}
use Rattle.spec.proofs.CasesForm.{print, case, answer}
use Rattle.spec.proofs.Cases.{table}
use Rattle.spec.proofs.CasesRead.{p-answer}
use Rattle.printed.specs.Pieces.{pieces}
use Rattle.printed.proofs.Joined.{pieces-printed}

pub print-case : (input expected : List ℕ) → Mem (case (print input) expected) table → pieces input (max_slots * solution_size) ≡ expected
unfolding answer
print-case input expected m = pieces-printed input ∙ p-answer sha256 (case (print input) expected) m

-- What a refusal of assembly leaves in the output.
-- Assumes nothing.
use Rattle.std.specs.Prelude.{ℕ, Ok, Err, List, length, replicate}
use Rattle.spec.specs.Answers.{PathAnswer}

-- zeros in place of d, if it is one
unfoldable pub zeros_if_refused : PathAnswer → List ℕ → List ℕ
zeros_if_refused (Ok o) d = d
zeros_if_refused (Err r) d = replicate (length d) 0

-- `bit` meets its contract.
use Rattle.spec.specs.Records.{bit}
use Rattle.std.proofs.lemmas.Grind.{common_steps}
use native.Mathlib.Omega.{arith}
use Rattle.records.proofs.solution_record.bit.Goals as goal

pub returns : goal.returns
unfolding bit
returns c = grind (arith, common_steps)

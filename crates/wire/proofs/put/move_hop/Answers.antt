-- `move_hop` meets its contract.
use native.Mathlib.Omega.{arith}
use mathlib.Core.Path.{refl, ◌∙◌}
use Rattle.spec.specs.Limits.{hop_size}
use Rattle.output.proofs.Copied.{copied_part}
use Rattle.wire.proofs.put.move_hop.Goals as goal

pub returns : goal.returns
returns c = copied_part _ _ _ _ _ hop_size hop_size _ (c.copy_from_slice.ensures.after ∙ c.hop_in.ensures) refl (omega arith) c.requires.0 c.requires.1

-- `head_offset` meets its contract.
use mathlib.Core.Path.{refl}
use Rattle.spec.specs.Book.{head_offset}
use Rattle.segment.proofs.heads.head_offset.Goals as goal

pub returns : goal.returns
unfolding head_offset
returns c = (refl, refl)

-- `bodies_end` meets its contract.
use mathlib.Core.Path.{ap, ◌∙◌}
use native.Mathlib.Omega.{arith}
use Rattle.spec.specs.Book.{body_offset}
use Rattle.segment.proofs.Positions.{body-next}
use Rattle.book.proofs.sizes.bodies_end.Goals as goal

pub loop-k-preserved : goal.loop-k-preserved
loop-k-preserved c = (omega arith, body-next _ _ c.loop-k.invariant.1 c.body_length-at.ensures.0)

pub returns : goal.returns
returns c = c.loop-k.invariant.1 ∙ ap (body_offset _) (omega arith)

-- `put_interfaces` meets its contract. The invariant of its loop: the first k lines are written.
use native.Mathlib.Omega.{arith}
use mathlib.Core.Path.{refl, ap}
use Rattle.spec.specs.Printed.{interface_line}
use Rattle.path.proofs.Writes.{wrote_as}
use Rattle.printed.specs.Lines.{interface_text}
use Rattle.printed.proofs.Rows.{lines_none, lines_more}
use Rattle.printed.proofs.lines.put_interfaces.Goals as goal

pub loop-k-init : goal.loop-k-init
loop-k-init c = (lines_none _ _ _, omega arith, refl)

pub loop-k-preserved : goal.loop-k-preserved
unfolding interface_text
loop-k-preserved c = (
  lines_more (interface_text c.args.path.now) _ c.loop-k.invariant.0 (wrote_as (ap interface_line c.interface.ensures) c.interface_line-to.ensures.0),
  omega arith,
  omega arith,
)

pub shape_of-out : goal.shape_of-out
shape_of-out c = c.loop-k.invariant.2

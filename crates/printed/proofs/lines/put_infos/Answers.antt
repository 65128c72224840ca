-- `put_infos` meets its contract. The invariant of its loop: the first k lines are written.
use native.Mathlib.Omega.{arith}
use mathlib.Core.Path.{refl, ap}
use Rattle.spec.specs.Printed.{info_line}
use Rattle.path.proofs.Writes.{wrote_as}
use Rattle.printed.specs.Lines.{info_text}
use Rattle.printed.proofs.Rows.{lines_none, lines_more}
use Rattle.printed.proofs.lines.put_infos.Goals as goal

pub loop-k-init : goal.loop-k-init
loop-k-init c = (lines_none _ _ _, omega arith, refl)

pub loop-k-preserved : goal.loop-k-preserved
unfolding info_text
loop-k-preserved c = (
  lines_more (info_text c.args.path.now) _ c.loop-k.invariant.0 (wrote_as (ap info_line c.info.ensures) c.info_line-to.ensures.0),
  omega arith,
  omega arith,
)

pub shape_of-out : goal.shape_of-out
shape_of-out c = c.loop-k.invariant.2

-- `lengths_below` meets its contract.
use native.Mathlib.Omega.{arith}
use Rattle.spec.specs.Book.{lengths_below}
use Rattle.segment.proofs.Positions.{lengths-more}
use Rattle.segment.proofs.heads.lengths_below.Goals as goal

pub loop-i-init : goal.loop-i-init
unfolding lengths_below
loop-i-init c = (omega arith, omega arith)

pub loop-i-preserved : goal.loop-i-preserved
loop-i-preserved c = let b = c.args.book.now in
    (omega (arith, lengths-more b c.loop-i.i), omega arith)

-- `counts_line` meets its contract.
use native.Mathlib.Omega.{arith}
use Rattle.spec.specs.Printed.{ascii, item, newline}
use Rattle.path.proofs.Writes.{wrote-join}
use Rattle.printed.specs.Pieces.{counts_line}
use Rattle.printed.proofs.first.counts_line.Goals as goal

pub returns : goal.returns
unfolding counts_line item ascii newline
returns c = (
  wrote-join (wrote-join c.put_item-next.ensures.0 c.put_item-then.ensures.0) c.put_word.ensures,
  omega (arith, c.put_item-next.ensures.1, c.put_item-then.ensures.1, c.put_word.ensures.end),
)

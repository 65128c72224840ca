-- `interface_line` meets its contract.
use native.Mathlib.Omega.{arith}
use Rattle.spec.specs.Printed.{ascii, item, newline, interface_line}
use Rattle.path.proofs.Writes.{wrote-join}
use Rattle.printed.proofs.Rows.{item-as}
use Rattle.printed.proofs.lines.interface_line.Goals as goal

pub returns : goal.returns
unfolding interface_line item ascii newline
returns c = (
  wrote-join (wrote-join (wrote-join c.put_word-next.ensures c.put_hex-then.ensures.0) (item-as (ascii " ") c.from.ensures c.put_item-last.ensures.0)) c.put_word.ensures,
  omega (arith, c.put_word-next.ensures.end, c.put_hex-then.ensures.1, c.put_item-last.ensures.1, c.put_word.ensures.end),
)

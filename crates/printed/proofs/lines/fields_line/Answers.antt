-- `fields_line` meets its contract.
use native.Mathlib.Omega.{arith}
use Rattle.spec.specs.Printed.{ascii, item, newline}
use Rattle.path.proofs.Writes.{wrote-join}
use Rattle.printed.specs.Lines.{fields_line}
use Rattle.printed.proofs.Rows.{item-as}
use Rattle.printed.proofs.lines.fields_line.Goals as goal

pub returns : goal.returns
unfolding fields_line item ascii newline
returns c = (
  wrote-join (wrote-join (wrote-join
      (item-as (ascii " mtu ") c.from.ensures c.put_item-next.ensures.0)
      (item-as (ascii " expiry ") c.from-2.ensures c.put_item-then.ensures.0))
      (item-as (ascii " hops ") c.from-3.ensures c.put_item-last.ensures.0)) c.put_word.ensures,
  omega (arith, c.put_item-next.ensures.1, c.put_item-then.ensures.1, c.put_item-last.ensures.1, c.put_word.ensures.end),
)

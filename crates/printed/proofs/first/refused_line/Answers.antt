-- `refused_line` meets its contract.
use native.Mathlib.Omega.{arith}
use mathlib.Core.Path.{◌∙◌}
use Rattle.spec.specs.Printed.{ascii, item, newline, refused_line}
use Rattle.path.proofs.Writes.{wrote-join}
use Rattle.printed.proofs.Rows.{item-as}
use Rattle.printed.proofs.first.refused_line.Goals as goal

pub returns : goal.returns
unfolding refused_line item ascii newline
returns c = (
  wrote-join (item-as (ascii "refused ") (c.from.ensures ∙ c.number.ensures.0) c.put_item-next.ensures.0) c.put_word.ensures,
  omega (arith, c.put_item-next.ensures.1, c.put_word.ensures.end),
)

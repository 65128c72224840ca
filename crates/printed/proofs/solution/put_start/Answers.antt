-- `put_start` meets its contract.
use native.Mathlib.Omega.{arith}
use mathlib.Core.Path.{◌∙◌}
use Rattle.spec.specs.Printed.{ascii, item}
use Rattle.path.proofs.Writes.{wrote-join}
use Rattle.printed.specs.Pieces.{start_text}
use Rattle.printed.proofs.Rows.{item-as}
use Rattle.printed.proofs.solution.put_start.Goals as goal

pub returns : goal.returns
unfolding start_text item ascii
returns c = (
  wrote-join (wrote-join c.put_decimal-next.ensures.0
      (item-as (ascii " cost ") (c.from.ensures ∙ c.cost-cost.ensures) c.put_item-then.ensures.0))
      (item-as (ascii " segments ") (c.from-2.ensures ∙ c.edge_count-count.ensures) c.put_item.ensures.0),
  omega (arith, c.put_decimal-next.ensures.1, c.put_item-then.ensures.1, c.put_item.ensures.1),
)

-- `put_item` meets its contract.
use native.Mathlib.Omega.{arith}
use Rattle.path.proofs.Writes.{wrote-join}
use Rattle.printed.proofs.text.put_item.Goals as goal

pub put_decimal-requires : goal.put_decimal-requires
put_decimal-requires c = omega (arith, c.put_word-next.ensures.end)

pub returns : goal.returns
returns c = (wrote-join c.put_word-next.ensures c.put_decimal.ensures.0, omega (arith, c.put_word-next.ensures.end, c.put_decimal.ensures.1))

-- `info_line` meets its contract.
use native.Mathlib.Omega.{arith}
use Prim.Native.Nat.{◌+◌, ◌*◌}
use mathlib.Core.Path.{ap, ap₂, ◌∙◌}
use Rattle.spec.specs.Printed.{ascii, hex, item, newline, info_line}
use Rattle.path.proofs.Writes.{wrote-join, wrote_as}
use Rattle.printed.proofs.Rows.{bit-from, item-as}
use Rattle.printed.proofs.lines.info_line.Goals as goal

pub returns : goal.returns
unfolding info_line item ascii newline
returns c = (
  wrote-join (wrote-join (wrote-join (wrote-join
      (item-as (ascii "info ") (ap₂ (λ x y. x + 2 * y) (c.from.ensures ∙ bit-from _) (c.from-2.ensures ∙ bit-from _)) c.put_item-next.ensures.0)
      c.put_word-space.ensures) (wrote_as (ap (hex 4) c.from-3.ensures) c.put_hex-then.ensures.0))
      (item-as (ascii " ") c.from-4.ensures c.put_item-last.ensures.0)) c.put_word.ensures,
  omega (arith, c.put_item-next.ensures.1, c.put_word-space.ensures.end, c.put_hex-then.ensures.1, c.put_item-last.ensures.1, c.put_word.ensures.end),
)

-- `entry_count` meets its contract.
use mathlib.Core.Path.{◌∙◌}
use native.Mathlib.Omega.{arith}
use Rattle.book.proofs.Turns.{count-read}
use Rattle.book.proofs.numbers.entry_count.Goals as goal

pub returns : goal.returns
returns c = (c.from.ensures ∙ c.be16.ensures ∙ count-read _ _, omega arith)

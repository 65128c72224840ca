-- `body_length` meets its contract.
use mathlib.Core.Path.{◌∙◌}
use native.Mathlib.Omega.{arith}
use Rattle.book.proofs.Turns.{length-read}
use Rattle.book.proofs.numbers.body_length.Goals as goal

pub returns : goal.returns
returns c = (c.from.ensures ∙ c.be16.ensures ∙ length-read _ _, omega arith)

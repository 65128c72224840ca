-- `put_decimal` meets its contract.
use Rattle.printed.proofs.Numbers.{decimal-wrote}
use borrow.Author.Rules.{rules}
use Rattle.printed.proofs.text.put_decimal.Goals as goal

pub returns : goal.returns
returns c = (decimal-wrote _ _ _ _ _ c.put_digits.ensures c.width-count.ensures.0, search rules)

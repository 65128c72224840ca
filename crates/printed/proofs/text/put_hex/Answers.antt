-- `put_hex` meets its contract.
use Rattle.printed.proofs.Numbers.{hex-wrote}
use borrow.Author.Rules.{rules}
use Rattle.printed.proofs.text.put_hex.Goals as goal

pub returns : goal.returns
returns c = (hex-wrote _ _ _ _ _ c.put_digits.ensures, search rules)

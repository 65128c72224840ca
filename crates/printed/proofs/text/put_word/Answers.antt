-- `put_word` meets its contract.
use Rattle.printed.proofs.Numbers.{word-wrote}
use Rattle.printed.proofs.text.put_word.Goals as goal

pub returns : goal.returns
returns c = word-wrote _ _ _ _ c.copy.ensures

-- `mark` meets its contract.
use Rattle.book.proofs.Marking.{mark-low}
use Rattle.book.proofs.marks.mark.Goals as goal

pub returns : goal.returns
returns c = mark-low _

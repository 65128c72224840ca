-- `has` meets its contract.
use Rattle.book.proofs.Marking.{mark-few, mark-read}
use Rattle.book.proofs.marks.Marks.has.Goals as goal

pub overflow_shr-result : goal.overflow_shr-result
overflow_shr-result c = mark-few _ c.mark.ensures

pub returns : goal.returns
returns c = mark-read _ _ c.mark.ensures

-- `with` meets its contract.
use Rattle.book.proofs.Marking.{mark-few, mark_added}
use Rattle.book.proofs.marks.Marks.with.Goals as goal

pub overflow_shl-result : goal.overflow_shl-result
overflow_shl-result c = mark-few _ c.mark.ensures

pub returns : goal.returns
returns c = mark_added _ _ c.mark.ensures

-- `stands_marked` meets its contract: an AS whose mark is not there does not stand earlier.
use mathlib.Core.Path.{sym, ap, ◌∙◌}
use Rattle.book.specs.Marks.{has_mark}
use Rattle.book.proofs.Marking.{unmarked}
use Rattle.book.proofs.twice.Row.stands_marked.Goals as goal

pub returns-then-not-has : goal.returns-then-not-has
returns-then-not-has c = sym (unmarked _ _ _ c.requires.marked (ap (has_mark _) (sym c.isd_asn.ensures) ∙ sym c.has.ensures ∙ c.if-not-has.true))

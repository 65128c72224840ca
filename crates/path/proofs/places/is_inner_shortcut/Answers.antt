-- `is_inner_shortcut` meets its contract.
use mathlib.Core.Path.{sym, ◌∙◌}
use borrow.Author.Tests.{ne_eqb}
use Rattle.path.proofs.Standing.{inner-test, inner-none}
use Rattle.path.proofs.places.is_inner_shortcut.Goals as goal

pub returns-then-m-from : goal.returns-then-m-from
returns-then-m-from c = inner-test _ _ (c.if-m-from.true ∙ c.from.ensures)

pub returns-else-m-from : goal.returns-else-m-from
returns-else-m-from c = ne_eqb _ _ c.if-m-from.false ∙ inner-none _ _ (λ q. c.if-m-from.false (q ∙ sym c.from.ensures))

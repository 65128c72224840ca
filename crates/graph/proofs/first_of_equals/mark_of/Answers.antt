-- The bytes lie in the head, and the sum is the mark.
use native.Mathlib.Omega.{arith}
use mathlib.Core.Path.{◌∙◌}
use Rattle.graph.proofs.FirstOfEqualsLaws.{head-within, mark-read}
use Rattle.graph.proofs.first_of_equals.mark_of.Goals as goal

pub bounds-opened-head : goal.bounds-opened-head
bounds-opened-head c = let p = c.requires in omega (arith, c.from.ensures, head-within _ c.args.opened.now.ready.ok _ p.k_bound)

pub bounds-opened-head-2 : goal.bounds-opened-head-2
bounds-opened-head-2 c = let p = c.requires in omega (arith, c.from.ensures, head-within _ c.args.opened.now.ready.ok _ p.k_bound)

pub returns : goal.returns
returns c = mark-read _ _ (rw c.from.ensures at c.from-2.ensures) (rw c.from.ensures at c.from-3.ensures) (c.from-egress.ensures ∙ c.body_byte.ensures) (c.from-mac.ensures ∙ c.body_byte-2.ensures)

-- `passes_marked` meets its contract.
use mathlib.Core.Path.{refl, sym, ◌∙◌}
use native.Mathlib.Omega.{arith}
use borrow.Author.Tests.{not-true}
use Rattle.spec.specs.Book.{entry_offset}
use Rattle.book.specs.Offsets.{with_row}
use Rattle.book.proofs.Tables.{row_step}
use Rattle.book.proofs.Turns.{rest-first}
use Rattle.book.proofs.Marking.{none-marked, one-marked}
use Rattle.book.proofs.Repeating.{row_within, row-twice}
use Rattle.book.proofs.Passing.{entry-here, next-offset, next-rest, none-again, row_fits, row-stored, row_done, row-unseen}
use Rattle.book.proofs.body.Body.passes_marked.Goals as goal

pub loop-i-init : goal.loop-i-init
unfolding entry_offset with_row
loop-i-init c =
    let z = c.args.self.now.in_book in
    (omega (arith, z.filled), refl, refl, rest-first _ _ _ _ z.filled, none-marked _ _, λ q j h. absurd (omega arith))

pub loop-i-preserved : goal.loop-i-preserved
loop-i-preserved c =
    let l = c.loop-i.invariant in
    let e = c.in-Ok.ensures in
    let here = entry-here _ _ _ l.1 c.isd_asn-a.ensures in (
      omega (arith, e.0, e.2),
      next-offset _ _ _ l.1 e.1 (omega (arith, e.2)),
      row_step _ _ _ _ _ l.1 l.2,
      l.3 ∙ next-rest _ _ _ _ _ e.0 e.1 e.2 (omega arith) (omega (arith, e.2)),
      one-marked _ _ l.4 (rw here at c.with-seen.ensures),
      none-again _ _ _ _ _ l.4 (rw here at c.has-again.ensures) l.5,
    )

pub returns-then-not-again : goal.returns-then-not-again
returns-then-not-again c =
    λ q.
    let l = c.loop-i.invariant in
    row-unseen _ _ _ _ _ (omega arith) (omega arith) c.if-at-self.false l.3 l.2 _ l.5 c.if-not-again.true

pub invariant_of-stored : goal.invariant_of-stored
invariant_of-stored c =
    let l = c.loop-i.invariant in
    let z = c.args.self.now.in_book in
    let full = c.if-at-self.false in
    record { within = row_within _ z (row_fits _ _ _ _ _ (omega arith) (omega arith) full l.3 l.2) _ c.requires (row-stored _ _ _ _ _ (omega arith) (omega arith) full l.3 l.2) }

pub returns : goal.returns
returns c =
    λ q.
    let l = c.loop-i.invariant in
    let z = c.args.self.now.in_book in
    let full = c.if-at-self.false in
    row_done _ _ _ _ _ (omega arith) (omega arith) full l.3 l.2
    (sym (row-twice _ z (row_fits _ _ _ _ _ (omega arith) (omega arith) full l.3 l.2) _ c.requires (row-stored _ _ _ _ _ (omega arith) (omega arith) full l.3 l.2)) ∙ sym c.passes_twice.ensures ∙ not-true _ q)

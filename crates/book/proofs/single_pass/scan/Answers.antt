-- `scan` meets its contract. The loop's invariant: what is left says what the whole says, of heads and of bodies, the rows before k are stored, and `at`, `head` and `row` are where the next body, head and row start.
use mathlib.Core.Path.{refl, ap, ◌∙◌}
use native.Mathlib.Omega.{arith}
use lib.ListN.{length}
use borrow.Author.Tests.{eqb-true}
use Rattle.segment.proofs.Positions.{body-next, any_next}
use Rattle.book.specs.Offsets.{rows_below}
use Rattle.book.proofs.Tables.{rows_step, rows_all, rows-length}
use Rattle.book.proofs.Turns.{long-all, not-long, bodies-first, bodies-next, head-count, head-length, front-starts, front-heads, front-body, passed-book}
use Rattle.book.proofs.Passing.{row-says}
use Rattle.book.proofs.single_pass.scan.Goals as goal

pub loop-k-init : goal.loop-k-init
unfolding rows_below
loop-k-init c =
    let z = c.requires.fronted in
    (front-starts _ z, z.first, c.requires.table_value, long-all _ _ z.all, bodies-first _ _ 0 z.all, refl, refl)

pub be16-requires-in-loop-k : goal.be16-requires-in-loop-k
be16-requires-in-loop-k c = omega (arith, front-heads _ c.requires.fronted c.loop-k._k (omega arith), c.loop-k.invariant.5)

pub be16-requires : goal.be16-requires
be16-requires c = omega (arith, front-heads _ c.requires.fronted c.loop-k._k (omega arith), c.loop-k.invariant.5)

pub invariant_of-body : goal.invariant_of-body
invariant_of-body c = record { in_book = front-body _ c.requires.fronted c.loop-k._k (omega arith) c.loop-k.invariant.6 c.if-count-gt-ENTRIES.false (omega arith) c.if-book-end.false }

pub passes-requires : goal.passes-requires
passes-requires c = ap length c.loop-k.invariant.2 ∙ rows-length _ _

pub loop-k-preserved : goal.loop-k-preserved
loop-k-preserved c =
    let l = c.loop-k.invariant in
    let count = c.from-count.ensures ∙ head-count _ _ l.5 c.be16.ensures in
    let size = c.from.ensures ∙ head-length _ _ l.5 c.be16-in-loop-k.ensures in
    let passed = c.passes.ensures c.if-not-passes.false in (
      c.if-book-end.false,
      body-next _ _ l.1 size,
      rows_step _ _ l.6 l.1 count l.2 passed.rows,
      l.3 ∙ any_next _ _ _ (omega arith) (not-long _ _ count c.if-count-gt-ENTRIES.false),
      l.4 ∙ bodies-next _ _ _ (omega arith) (row-says _ _ l.1 size count passed),
      omega (arith, l.5),
      omega (arith, l.6),
    )

pub returns : goal.returns
returns c =
    λ q.
    let i = c.loop-k.invariant in
    let z = c.requires.fronted in
    (passed-book _ z (omega arith) (omega arith) i.1 (eqb-true _ _ q) i.3 i.4, rows_all _ i.2 (omega (arith, z.all)))

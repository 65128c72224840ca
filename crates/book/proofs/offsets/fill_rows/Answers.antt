-- `fill_rows` meets its contract.
use mathlib.Core.Path.{refl, sym, ap, ◌∙◌}
use native.Mathlib.Omega.{arith}
use lib.ListN.{length}
use Rattle.std.proofs.lemmas.Result.{err_from_is_err_and}
use Rattle.segment.proofs.Positions.{body-next}
use Rattle.book.specs.Offsets.{rows_below}
use Rattle.book.proofs.Tables.{rows_step, rows_all, rows-length}
use Rattle.book.proofs.Turns.{heads-inside, bodies-first, bodies-refused, bodies-next, bodies-done, body-fits, not-accepted}
use Rattle.book.proofs.Repeating.{row_within, row-twice, body_refused, body-told}
use Rattle.book.proofs.offsets.fill_rows.Goals as goal

pub loop-k-init : goal.loop-k-init
unfolding rows_below
loop-k-init c = (omega arith, c.body_offset-at.ensures.0, c.requires.table_value, bodies-first _ _ 0 refl)

pub body_length-requires : goal.body_length-requires
body_length-requires c = heads-inside _ c.requires.sized _ (omega (arith, c.segment_count-k-end.ensures.0))

pub entry_count-requires : goal.entry_count-requires
entry_count-requires c = heads-inside _ c.requires.sized _ (omega (arith, c.segment_count-k-end.ensures.0))

pub invariant_of-body : goal.invariant_of-body
invariant_of-body c = record { in_book = body-fits _ c.requires.sized _ (omega (arith, c.segment_count-k-end.ensures.0)) c.loop-k.invariant.1 c.body_length.ensures.0 c.entry_count.ensures.0 }

pub returns-in_err-fill : goal.returns-in_err-fill
returns-in_err-fill c =
    let p = err_from_is_err_and c.from_residual.result c.from_residual.ensures.1 in
    let l = c.loop-k.invariant in
    let says = body_refused _ _ l.1 c.body_length.ensures.0 c.entry_count.ensures.0 c.fill.ensures.0 c.in_err-fill.was in
    rw (p.1, p.2) (sym (l.3 ∙ bodies-refused _ _ _ _ (omega (arith, c.segment_count-k-end.ensures.0)) says), not-accepted)

pub invariant_of-stored : goal.invariant_of-stored
invariant_of-stored c =
    let l = c.loop-k.invariant in
    let e = c.in_ok-fill.was in
    let z = body-fits _ c.requires.sized _ (omega (arith, c.segment_count-k-end.ensures.0)) l.1 c.body_length.ensures.0 c.entry_count.ensures.0 in
    record { within = row_within _ z (sym c.fill.ensures.0 ∙ e) _ (ap length l.2 ∙ rows-length _ _) (c.fill.ensures.1 e) }

pub returns-then-passes_twice : goal.returns-then-passes_twice
returns-then-passes_twice c =
    let l = c.loop-k.invariant in
    let e = c.in_ok-fill.was in
    let z = body-fits _ c.requires.sized _ (omega (arith, c.segment_count-k-end.ensures.0)) l.1 c.body_length.ensures.0 c.entry_count.ensures.0 in
    let fits = sym c.fill.ensures.0 ∙ e in
    let same = row-twice _ z fits _ (ap length l.2 ∙ rows-length _ _) (c.fill.ensures.1 e) in
    let says = body-told _ _ l.1 c.body_length.ensures.0 c.entry_count.ensures.0 fits (sym c.if-passes_twice.true ∙ c.passes_twice.ensures ∙ same) in
    (sym (l.3 ∙ bodies-refused _ _ _ _ (omega (arith, c.segment_count-k-end.ensures.0)) says), not-accepted)

pub loop-k-preserved : goal.loop-k-preserved
loop-k-preserved c =
    let l = c.loop-k.invariant in
    let size = c.body_length.ensures.0 in
    let count = c.entry_count.ensures.0 in
    let e = c.in_ok-fill.was in
    let z = body-fits _ c.requires.sized _ (omega (arith, c.segment_count-k-end.ensures.0)) l.1 size count in
    let fits = sym c.fill.ensures.0 ∙ e in
    let same = row-twice _ z fits _ (ap length l.2 ∙ rows-length _ _) (c.fill.ensures.1 e) in
    let says = body-told _ _ l.1 size count fits (sym c.if-passes_twice.false ∙ c.passes_twice.ensures ∙ same) in (
      omega arith,
      body-next _ _ l.1 size,
      rows_step _ _ refl l.1 count l.2 (c.fill.ensures.1 e),
      l.3 ∙ bodies-next _ _ _ (omega (arith, c.segment_count-k-end.ensures.0)) says,
    )

pub returns : goal.returns
returns c =
    let l = c.loop-k.invariant in
    (sym (l.3 ∙ bodies-done _ _ _ (omega (arith, c.segment_count-k-end.ensures.0))), λ q. rows_all _ l.2 (omega (arith, c.segment_count-k-end.ensures.0)))

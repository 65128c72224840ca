-- `open_slowly` meets its contract: the sizes, then the bodies; a refused book leaves zeros.
use mathlib.Core.Path.{refl, sym, ◌∙◌}
use Rattle.std.proofs.lemmas.Result.{err_from_is_err_and}
use Rattle.book.specs.Offsets.{no_offsets}
use Rattle.book.proofs.Tables.{open-refused, open-accepted, is-refused, is-accepted}
use Rattle.book.proofs.Turns.{by-sizes, by-bodies, sized-book}
use Rattle.book.proofs.answer.open_slowly.Goals as goal

pub returns-in_err-sizes_verdict : goal.returns-in_err-sizes_verdict
unfolding no_offsets
returns-in_err-sizes_verdict c =
    let p = err_from_is_err_and c.from_residual.result c.from_residual.ensures.1 in
    let q = by-sizes _ c.sizes_verdict.ensures c.in_err-sizes_verdict.was in
    rw (p.1, p.2) (sym c.in_err-sizes_verdict.was ∙ q, open-refused _ q c.in_err-sizes_verdict.was)

pub fill_rows-rows-requires : goal.fill_rows-rows-requires
unfolding no_offsets
fill_rows-rows-requires c = record { sized = sized-book _ c.sizes_verdict.ensures c.in_ok-sizes_verdict.was; table_value = refl }

pub returns-then-is_err : goal.returns-then-is_err
unfolding no_offsets
returns-then-is_err c =
    let p = by-bodies _ c.sizes_verdict.ensures c.in_ok-sizes_verdict.was c.fill_rows-rows.ensures.0 in
    (p, open-refused _ p (is-refused _ c.if-is_err.ensures.value).1)

pub returns-else-is_err : goal.returns-else-is_err
returns-else-is_err c =
    let p = by-bodies _ c.sizes_verdict.ensures c.in_ok-sizes_verdict.was c.fill_rows-rows.ensures.0 in
    let q = is-accepted _ c.if-is_err.ensures.value in
    (p, c.fill_rows-rows.ensures.1 q ∙ sym (open-accepted _ p q))

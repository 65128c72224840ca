-- `open` meets its contract: what the one pass accepts is accepted, and of the rest the tests in their order answer.
use mathlib.Core.Path.{refl, sym, ◌∙◌}
use Rattle.book.specs.Offsets.{no_offsets}
use Rattle.book.proofs.Tables.{open-accepted}
use Rattle.book.proofs.answer.open.Goals as goal

pub open_fast-requires : goal.open_fast-requires
unfolding no_offsets
open_fast-requires c = refl

pub returns-then-open_fast : goal.returns-then-open_fast
returns-then-open_fast c =
    let q = c.open_fast.ensures c.if-open_fast.true in
    (sym q.0, q.1 ∙ sym (open-accepted _ (sym q.0) refl))

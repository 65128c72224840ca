-- `fill` meets its contract.
use mathlib.Core.Path.{◌≡◌, refl, sym, ap, ◌∙◌}
use Prim.Native.Nat.{◌+◌, ◌*◌}
use native.Mathlib.Omega.{arith}
use Rattle.std.proofs.lemmas.Result.{err_from_is_err_and}
use Rattle.spec.specs.Limits.{entry_size, peer_size}
use Rattle.spec.specs.Book.{entry_offset}
use Rattle.segment.proofs.Fitting.{offset_step}
use Rattle.book.specs.Offsets.{with_row}
use Rattle.book.proofs.Tables.{row_step}
use Rattle.book.proofs.Turns.{rest-first, rest-refused, rest-next, rest-off, rest-fill, not-accepted}
use Rattle.book.proofs.body.Body.fill.Goals as goal

pub loop-i-init : goal.loop-i-init
unfolding entry_offset with_row
loop-i-init c =
    let z = c.args.self.now.in_book in
    (omega (arith, z.filled), refl, refl, rest-first _ _ _ _ z.filled)

pub returns-in_err-peers : goal.returns-in_err-peers
returns-in_err-peers c =
    let p = err_from_is_err_and c.from_residual.result c.from_residual.ensures.1 in
    rw (p.1, p.2) (sym (c.loop-i.invariant.3 ∙ rest-refused _ _ _ _ _ (omega arith) c.in_err-peers.ensures), not-accepted)

pub loop-i-preserved : goal.loop-i-preserved
loop-i-preserved c =
    let l = c.loop-i.invariant in
    let e = c.in_ok-peers.ensures in (
      omega (arith, e.0, e.2),
      offset_step _ _ _ l.1 (ap (λ p. entry_size + peer_size * p) e.1),
      row_step _ _ _ _ _ l.1 l.2,
      l.3 ∙ rest-next _ _ _ e.0 e.1 e.2 _ _ (omega arith),
    )

pub returns-then-at-self : goal.returns-then-at-self
returns-then-at-self c = (sym (c.loop-i.invariant.3 ∙ rest-off _ _ _ _ _ (omega arith) c.if-at-self.true), not-accepted)

pub returns : goal.returns
returns c =
    let s = c.args.self.now in
    let e : c.loop-i.i ≡ s.count = omega arith in
    (sym (c.loop-i.invariant.3 ∙ rest-fill _ _ _ _ _ (omega arith) c.if-at-self.false), λ q. c.loop-i.invariant.2 ∙ ap (λ n. with_row s.book.now s.start s.row n c.args.table.now) e)

-- `passes_short` meets its contract: none, one or two entries.
use mathlib.Core.Path.{sym, ◌∙◌}
use native.Mathlib.Omega.{arith}
use borrow.Author.Tests.{eqb-true, not-true}
use Rattle.book.proofs.Repeating.{same_read}
use Rattle.book.proofs.Passing.{none_passed, one-passed, two-passed}
use Rattle.book.proofs.body.Body.passes_short.Goals as goal

pub returns-then-self-eq0 : goal.returns-then-self-eq0
returns-then-self-eq0 c = λ q. none_passed _ _ _ _ _ c.args.self.now.in_book.filled c.if-self-eq0.true (eqb-true _ _ q)

pub returns-then-self-eq1 : goal.returns-then-self-eq1
returns-then-self-eq1 c =
    λ q.
    let e = c.in-Ok.ensures in
    one-passed _ _ _ _ _ c.args.self.now.in_book.filled e.0 e.1 e.2 (omega arith) c.if-self-eq1.true (eqb-true _ _ q)

pub returns : goal.returns
returns c =
    λ q.
    let e = c.in-Ok.ensures in
    let f = c.in-Ok-peers.ensures in
    two-passed _ _ _ _ _ c.args.self.now.in_book.filled e.0 e.1 e.2 (omega arith) f.0 f.1 f.2 (omega (arith, c.requires, c.if-self-eq0.false, c.if-self-eq1.false)) (omega arith) c.if-at-others.false (same_read c.isd_asn.ensures c.isd_asn-2.ensures) (not-true _ (sym c.ne.ensures ∙ q))

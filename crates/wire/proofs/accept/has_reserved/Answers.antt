-- `has_reserved` meets its contract. The invariant of its loop: the first k infos are not odd.
use native.Mathlib.Omega.{arith}
use mathlib.Core.Path.{sym, ◌∙◌}
use Rattle.wire.proofs.Testing.{none_first, none-next, found, none_last}
use Rattle.wire.proofs.accept.has_reserved.Goals as goal

pub loop-k-init : goal.loop-k-init
loop-k-init c = none_first _ 0

pub uses_reserved-requires : goal.uses_reserved-requires
uses_reserved-requires c = (omega arith, omega arith)

pub returns-then-uses_reserved : goal.returns-then-uses_reserved
returns-then-uses_reserved c = found _ _ _ c.loop-k-test.true (sym c.uses_reserved.ensures ∙ c.if-uses_reserved.true)

pub loop-k-preserved : goal.loop-k-preserved
loop-k-preserved c = none-next _ 0 _ c.loop-k.invariant (sym c.uses_reserved.ensures ∙ c.if-uses_reserved.false)

pub returns : goal.returns
returns c = none_last _ _ _ c.loop-k-test.false c.loop-k.invariant

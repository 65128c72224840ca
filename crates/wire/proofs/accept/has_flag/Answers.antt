-- `has_flag` meets its contract. The invariant of its loop: the first k hops have no flag.
use Rattle.wire.proofs.Testing.{none_first, none-next, found, none_last, flagged, unflagged}
use Rattle.wire.proofs.accept.has_flag.Goals as goal

pub loop-k-init : goal.loop-k-init
loop-k-init c = none_first _ 0

pub returns-then-wire-base-ne0 : goal.returns-then-wire-base-ne0
returns-then-wire-base-ne0 c = found _ _ _ c.loop-k-test.true (flagged _ _ _ c.requires.0 c.if-wire-base-ne0.true)

pub loop-k-preserved : goal.loop-k-preserved
loop-k-preserved c = none-next _ 0 _ c.loop-k.invariant (unflagged _ _ _ c.requires.0 c.if-wire-base-ne0.false)

pub returns : goal.returns
returns c = none_last _ _ _ c.loop-k-test.false c.loop-k.invariant

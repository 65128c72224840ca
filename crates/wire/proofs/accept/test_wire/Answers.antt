-- `test_wire` meets its contract.
use Rattle.wire.proofs.Taking.{taking-small, taking-wire, taking-ok}
use Rattle.wire.proofs.accept.test_wire.Goals as goal

pub returns-then-room-lt-SIZE : goal.returns-then-room-lt-SIZE
returns-then-room-lt-SIZE c = taking-small _ _ _ c.if-room-lt-SIZE.true

pub returns-then-refuses_wire : goal.returns-then-refuses_wire
returns-then-refuses_wire c = taking-wire _ _ _ c.if-room-lt-SIZE.false _ c.refuses_wire.ensures c.if-refuses_wire.true

pub returns : goal.returns
returns c = taking-ok _ _ _ c.if-room-lt-SIZE.false _ c.refuses_wire.ensures c.if-refuses_wire.false

-- `test_record` meets its contract.
use Rattle.wire.proofs.Taking.{taking-small, taking-wire, taking-ok}
use Rattle.wire.proofs.accept.test_record.Goals as goal

pub returns-then-room-lt-WIRE : goal.returns-then-room-lt-WIRE
returns-then-room-lt-WIRE c = taking-small _ _ _ c.if-room-lt-WIRE.true

pub returns-then-refuses_record : goal.returns-then-refuses_record
returns-then-refuses_record c = taking-wire _ _ _ c.if-room-lt-WIRE.false _ c.refuses_record.ensures c.if-refuses_record.true

pub returns : goal.returns
returns c = taking-ok _ _ _ c.if-room-lt-WIRE.false _ c.refuses_record.ensures c.if-refuses_record.false

-- `hops` meets its contract.
use native.Mathlib.Omega.{arith}
use Rattle.wire.proofs.Carrying.{record-room}
use Rattle.wire.proofs.put.TakenRecord.hops.Goals as goal

pub bounds-self-1 : goal.bounds-self-1
bounds-self-1 c = omega (arith, (record-room _ c.args.self.now.bytes c.args.self.now.taken).0)

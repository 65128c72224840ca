-- `infos` meets its contract.
use native.Mathlib.Omega.{arith}
use Rattle.wire.proofs.Carrying.{record-room}
use Rattle.wire.proofs.put.TakenRecord.infos.Goals as goal

pub bounds-self-0 : goal.bounds-self-0
bounds-self-0 c = omega (arith, (record-room _ c.args.self.now.bytes c.args.self.now.taken).0)

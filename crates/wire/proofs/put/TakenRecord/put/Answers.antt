-- `put` meets its contract.
use native.Mathlib.Omega.{arith}
use Rattle.wire.proofs.Carrying.{record-room, wire-put}
use Rattle.wire.proofs.put.TakenRecord.put.Goals as goal

pub put_hops-requires : goal.put_hops-requires
put_hops-requires c = omega (arith, (record-room _ c.args.self.now.bytes c.args.self.now.taken).1, c.infos.ensures.0)

pub returns : goal.returns
returns c = wire-put _ c.args.self.now.bytes c.args.self.now.taken _ _ _ _ _ _ _ _ _ c.hops_of-first.ensures.0 c.hops_of-second.ensures.0 c.hops_of-third.ensures.0 c.infos.ensures.0 c.hops.ensures.0 c.put32.ensures c.put_infos.ensures c.put_hops.ensures

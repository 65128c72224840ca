-- `hops_of` meets its contract.
use native.Mathlib.Omega.{arith}
use Rattle.wire.proofs.Carrying.{record-room, hops-there, hops-past}
use Rattle.wire.proofs.put.TakenRecord.hops_of.Goals as goal

pub bounds-self-k : goal.bounds-self-k
bounds-self-k c = omega (arith, (record-room _ c.args.self.now.bytes c.args.self.now.taken).0, c.infos.ensures.0)

pub returns-then-k-infos : goal.returns-then-k-infos
returns-then-k-infos c = hops-there _ c.args.self.now.bytes c.args.self.now.taken _ _ _ c.infos.ensures.0 c.if-k-infos.true c.from.ensures

pub returns : goal.returns
returns c = hops-past _ c.args.self.now.bytes c.args.self.now.taken _ _ c.infos.ensures.0 c.if-k-infos.false

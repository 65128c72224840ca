-- `put_hops` meets its contract. The invariant of its loop: the first k hops are written.
use native.Mathlib.Omega.{arith}
use mathlib.Core.Path.{refl}
use Rattle.wire.proofs.Carrying.{filled_none, record-room, wire-hop-more, wire-hop-all, kept}
use Rattle.wire.proofs.put.TakenRecord.put_hops.Goals as goal

pub loop-k-init : goal.loop-k-init
loop-k-init c = (filled_none _ _ _, refl)

pub overflow_add-to : goal.overflow_add-to
overflow_add-to c = omega (arith, (record-room _ c.args.self.now.bytes c.args.self.now.taken).2, c.infos.ensures.0, c.hops-k-end.ensures.0)

pub overflow_add-base-in-loop-k : goal.overflow_add-base-in-loop-k
overflow_add-base-in-loop-k c = omega (arith, (record-room _ c.args.self.now.bytes c.args.self.now.taken).0, c.infos.ensures.0, c.hops-k-end.ensures.0)

pub overflow_add-to-in-loop-k : goal.overflow_add-to-in-loop-k
overflow_add-to-in-loop-k c = omega (arith, (record-room _ c.args.self.now.bytes c.args.self.now.taken).2, c.infos.ensures.0, c.hops-k-end.ensures.0)

pub move_hop-requires : goal.move_hop-requires
move_hop-requires c = (omega (arith, (record-room _ c.args.self.now.bytes c.args.self.now.taken).0, c.infos.ensures.0, c.hops-k-end.ensures.0), omega (arith, (record-room _ c.args.self.now.bytes c.args.self.now.taken).2, c.infos.ensures.0, c.hops-k-end.ensures.0))

pub loop-k-preserved : goal.loop-k-preserved
loop-k-preserved c = (
  wire-hop-more _ c.args.self.now.bytes c.args.self.now.taken _ c.infos.ensures.0 _ _ _ _ _ _ _ c.hops-k-end.ensures.0 c.loop-k-test.true c.loop-k.invariant.0 c.put_byte.ensures c.move_hop.ensures,
  kept _ _ _ c.move_hop.ensures (kept _ _ _ c.put_byte.ensures c.loop-k.invariant.1),
)

pub shape_of-out : goal.shape_of-out
shape_of-out c = c.loop-k.invariant.1

pub returns : goal.returns
returns c = wire-hop-all _ c.args.self.now.bytes c.args.self.now.taken _ _ _ _ _ c.hops-k-end.ensures.0 c.loop-k.auto.k-end c.loop-k-test.false c.loop-k.invariant.0

-- `put_hops` meets its contract. The invariant of its loop: the first k hops are read.
use native.Mathlib.Omega.{arith}
use mathlib.Core.Path.{refl}
use Rattle.wire.proofs.Carrying.{filled_none, wire-room, record-hop-more, record-hop-all, kept}
use Rattle.wire.proofs.put.TakenWire.put_hops.Goals as goal

pub loop-k-init : goal.loop-k-init
loop-k-init c = (filled_none _ _ _, refl)

pub overflow_mul-from : goal.overflow_mul-from
overflow_mul-from c = omega (arith, (wire-room _ c.args.self.now.bytes c.args.self.now.taken).2, c.info_count.ensures.0)

pub overflow_add-from : goal.overflow_add-from
overflow_add-from c = omega (arith, (wire-room _ c.args.self.now.bytes c.args.self.now.taken).0, c.info_count.ensures.0)

pub overflow_add-from-in-loop-k : goal.overflow_add-from-in-loop-k
overflow_add-from-in-loop-k c = omega (arith, (wire-room _ c.args.self.now.bytes c.args.self.now.taken).0, c.info_count.ensures.0)

pub overflow_mul-k : goal.overflow_mul-k
overflow_mul-k c = omega (arith, (wire-room _ c.args.self.now.bytes c.args.self.now.taken).2, c.info_count.ensures.0)

pub overflow_add-at : goal.overflow_add-at
overflow_add-at c = omega (arith, (wire-room _ c.args.self.now.bytes c.args.self.now.taken).2, c.info_count.ensures.0)

pub move_hop-requires : goal.move_hop-requires
move_hop-requires c = (omega (arith, (wire-room _ c.args.self.now.bytes c.args.self.now.taken).0, c.info_count.ensures.0), omega (arith, (wire-room _ c.args.self.now.bytes c.args.self.now.taken).2, c.info_count.ensures.0))

pub loop-k-preserved : goal.loop-k-preserved
loop-k-preserved c = (
  record-hop-more _ c.args.self.now.bytes c.args.self.now.taken _ _ _ _ _ _ _ c.info_count.ensures.0 c.requires.0 c.loop-k-test.true c.loop-k.invariant.0 c.move_hop.ensures,
  kept _ _ _ c.move_hop.ensures c.loop-k.invariant.1,
)

pub shape_of-out : goal.shape_of-out
shape_of-out c = c.loop-k.invariant.1

pub returns : goal.returns
returns c = record-hop-all _ c.args.self.now.bytes c.args.self.now.taken _ _ _ _ _ c.requires.0 c.loop-k.auto.k-end c.loop-k-test.false c.loop-k.invariant.0

-- `put_infos` meets its contract. The invariant of its loop: the first k infos are read.
use native.Mathlib.Omega.{arith}
use mathlib.Core.Path.{refl}
use Rattle.wire.proofs.Carrying.{filled_none, wire-room, length_at, record-info-more, record-info-all, kept}
use Rattle.wire.proofs.put.TakenWire.put_infos.Goals as goal

pub loop-k-init : goal.loop-k-init
loop-k-init c = (filled_none _ _ _, refl)

pub put_info-requires : goal.put_info-requires
put_info-requires c = (omega (arith, (wire-room _ c.args.self.now.bytes c.args.self.now.taken).0, c.info_count-k-end.ensures.0), omega (arith, c.info_count-k-end.ensures.1))

pub loop-k-preserved : goal.loop-k-preserved
loop-k-preserved c = (
  record-info-more _ c.args.self.now.bytes c.args.self.now.taken _ _ _ _ _ _ c.info_count-k-end.ensures.0 c.loop-k-test.true
      (length_at _ _ c.lengths_in-lengths.ensures _ (omega (arith, c.info_count-k-end.ensures.1))) c.loop-k.invariant.0 c.put_info.ensures,
  kept _ _ _ c.put_info.ensures c.loop-k.invariant.1,
)

pub shape_of-out : goal.shape_of-out
shape_of-out c = c.loop-k.invariant.1

pub returns : goal.returns
returns c = record-info-all _ c.args.self.now.bytes c.args.self.now.taken _ _ _ _ c.info_count-k-end.ensures.0 c.loop-k.auto.k-end c.loop-k-test.false c.loop-k.invariant.0

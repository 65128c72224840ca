-- `put` meets its contract.
use native.Mathlib.Omega.{arith}
use Rattle.wire.proofs.Testing.{three-from, three-few}
use Rattle.wire.proofs.Carrying.{hop-total, record-put}
use Rattle.wire.proofs.put.TakenWire.put.Goals as goal

pub overflow_cast-m : goal.overflow_cast-m
overflow_cast-m c = record { fits = omega (arith, three-few _ (three-from _ _ c.lengths_in-lengths.ensures c.from.ensures c.from-2.ensures c.from-3.ensures)) }

pub put_hops-requires : goal.put_hops-requires
put_hops-requires c = (hop-total _ _ _ _ (three-from _ _ c.lengths_in-lengths.ensures c.from.ensures c.from-2.ensures c.from-3.ensures), omega (arith, c.info_count-n.ensures.1))

pub returns : goal.returns
returns c =
    record-put _ c.args.self.now.bytes c.args.self.now.taken _ _ _ _ _ _ _ c.info_count-n.ensures.0
    (hop-total _ _ _ _ (three-from _ _ c.lengths_in-lengths.ensures c.from.ensures c.from-2.ensures c.from-3.ensures))
    c.new.ensures c.put_head.ensures c.put_infos.ensures c.put_hops.ensures

-- `segment_id` meets its contract. The invariant of its loop: the MACs of the first i entries are folded in.
use native.Mathlib.Omega.{arith}
use Rattle.path.proofs.Walking.{id-none, id-more, id-all, stop-all}
use Rattle.path.proofs.places.PlacedEdge.segment_id.Goals as goal

pub loop-i-init : goal.loop-i-init
loop-i-init c = id-none _ _ _ c.id-id.ensures

pub loop-i-preserved : goal.loop-i-preserved
loop-i-preserved c =
    rw (c.mac_beta_step-id.ensures, c.mac.ensures)
    (id-more _ _ _ _ _ c.offset-at.ensures.0 (omega (arith, c.stop_from-stop.ensures.1, c.entry_of.ensures.1, c.entry_count-n.ensures.0)) c.loop-i.invariant)

pub returns : goal.returns
returns c =
    id-all _ _ _ _ c.loop-i.invariant (stop-all _ _ _ _ _ _ c.entry_count-n.ensures.0 c.entry_of.ensures.0 c.stop_from-stop.ensures.0 (omega arith))

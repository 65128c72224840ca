-- `put` meets its contract. The invariant of its loop: the first j hops are walked.
use native.Mathlib.Omega.{arith}
use mathlib.Core.Path.{◌∙◌}
use Rattle.path.proofs.Standing.{entry-from}
use Rattle.path.proofs.Walking.{hops-are, walk_none, walk_more, walk-all}
use Rattle.path.proofs.places.PlacedEdge.put.Goals as goal

pub loop-j-init : goal.loop-j-init
loop-j-init c = (walk_none _ _ _ _ _ _, omega arith, omega arith, omega arith)

pub put-w-requires : goal.put-w-requires
put-w-requires c =
    let v = c.loop-j.invariant in
    omega (arith, v.0.hops.size, v.0.ases.size, v.0.ids.size, v.1, v.2, v.3, c.requires, c.entry_count-n.ensures.1)

pub loop-j-preserved : goal.loop-j-preserved
loop-j-preserved c =
    let v = c.loop-j.invariant in (
      walk_more _ _ _ _ (c.entry_of-m.ensures.0 ∙ entry-from _ _ _ _ c.entry_count-n.ensures.0) v.0 c.put-w.ensures.entry_walked,
      omega (arith, v.1, c.put-w.ensures.hops_bound.0),
      omega (arith, v.2, c.put-w.ensures.hops_bound.1),
      omega (arith, v.3, c.put-w.ensures.hops_bound.2),
    )

pub returns : goal.returns
returns c =
    let v = c.loop-j.invariant in record { edge_walked = walk-all _ _ c.args.self.now.in_book _ (hops-are _ _ _ _ c.entry_count-n.ensures.0 (omega (arith, c.from.ensures))) v.0; hops_bound = omega (arith, v.1, v.2, v.3, c.entry_count-n.ensures.1) }

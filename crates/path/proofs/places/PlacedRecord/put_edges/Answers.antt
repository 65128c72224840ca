-- `put_edges` meets its contract. The invariant of its loop: the first x edges are walked.
use native.Mathlib.Omega.{arith}
use mathlib.Core.Path.{refl}
use Rattle.path.proofs.Chaining.{few-edges, edge-fits, edge-in-book, walked_none, walked_more, walked-ends, walked-hops}
use Rattle.path.proofs.places.PlacedRecord.put_edges.Goals as goal

pub overflow_mul-ends : goal.overflow_mul-ends
overflow_mul-ends c = omega (arith, few-edges _ _ _ c.args.self.now.in_book)

pub overflow_add-ends : goal.overflow_add-ends
overflow_add-ends c = omega (arith, few-edges _ _ _ c.args.self.now.in_book)

pub loop-x-init : goal.loop-x-init
loop-x-init c = (walked_none _ _ _ _ _ _, omega arith, omega arith, omega arith)

pub edge_in-requires : goal.edge_in-requires
edge_in-requires c = edge-fits _ _ _ c.args.self.now.in_book _ c.loop-x-test.true

pub invariant_of-edge : goal.invariant_of-edge
invariant_of-edge c = record { in_book = edge-in-book _ _ _ c.args.self.now.in_book _ c.loop-x-test.true _ c.edge_in.ensures }

pub put-w-requires : goal.put-w-requires
put-w-requires c =
    let v = c.loop-x.invariant in
    omega (arith, v.0.hops.size, v.0.ases.size, v.0.ids.size, v.1, v.2, v.3, c.requires, few-edges _ _ _ c.args.self.now.in_book)

pub loop-x-preserved : goal.loop-x-preserved
loop-x-preserved c =
    let v = c.loop-x.invariant in (
      walked_more _ _ _ _ _ c.edge_in.ensures v.0 c.put-w.ensures.edge_walked _ _ c.expiry.ensures c.min.ensures,
      omega (arith, v.1, c.put-w.ensures.hops_bound.0),
      omega (arith, v.2, c.put-w.ensures.hops_bound.1),
      omega (arith, v.3, c.put-w.ensures.hops_bound.2),
    )

pub returns : goal.returns
returns c =
    let v = c.loop-x.invariant in
    record { ends_of = walked-ends _ _ _ _ _ (omega arith) c.loop-x-test.false refl v.0; hops_and_ids = walked-hops _ _ _ _ _ (omega arith) c.loop-x-test.false refl v.0 }

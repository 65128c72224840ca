-- `put_infos` meets its contract. The invariant of its loop: the infos of the first x edges are written.
use native.Mathlib.Omega.{arith}
use mathlib.Core.Path.{refl}
use Rattle.path.proofs.Chaining.{few-edges, edge-fits, edge-in-book, all_none, all_more, all_done}
use Rattle.path.proofs.places.PlacedRecord.put_infos.Goals as goal

pub loop-x-init : goal.loop-x-init
loop-x-init c = (all_none _ _ _ _, omega arith, refl)

pub edge_in-requires : goal.edge_in-requires
edge_in-requires c = edge-fits _ _ _ c.args.self.now.in_book _ c.loop-x-test.true

pub invariant_of-edge : goal.invariant_of-edge
invariant_of-edge c = record { in_book = edge-in-book _ _ _ c.args.self.now.in_book _ c.loop-x-test.true _ c.edge_in.ensures }

pub put_info-to-requires : goal.put_info-to-requires
put_info-to-requires c = omega (arith, few-edges _ _ _ c.args.self.now.in_book)

pub loop-x-preserved : goal.loop-x-preserved
loop-x-preserved c = (all_more _ _ _ _ c.edge_in.ensures c.loop-x.invariant.0 c.put_info-to.ensures.0, omega arith, omega arith)

pub returns : goal.returns
returns c = (all_done _ _ _ _ (omega arith) c.loop-x-test.false c.loop-x.invariant.0, omega (arith, few-edges _ _ _ c.args.self.now.in_book))

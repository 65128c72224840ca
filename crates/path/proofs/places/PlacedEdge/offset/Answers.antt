-- `offset` meets its contract.
use native.Mathlib.Omega.{arith}
use Rattle.spec.proofs.BookLaws.{accepted}
use Rattle.path.proofs.Standing.{row_small, stands}
use Rattle.path.proofs.places.PlacedEdge.offset.Goals as goal

pub overflow_add-row : goal.overflow_add-row
overflow_add-row c = omega (arith, c.from-row.ensures, row_small _ (accepted _ c.args.self.now.opened.ready.ok) _ c.args.self.now.in_book _ c.requires)

pub offset_bounds-self-row : goal.offset_bounds-self-row
offset_bounds-self-row c = omega (arith, c.from-row.ensures, row_small _ (accepted _ c.args.self.now.opened.ready.ok) _ c.args.self.now.in_book _ c.requires)

pub bounds-self-row : goal.bounds-self-row
bounds-self-row c = rw c.from-row.ensures (row_small _ (accepted _ c.args.self.now.opened.ready.ok) _ c.args.self.now.in_book _ c.requires)

pub returns : goal.returns
returns c = rw (c.from.ensures, c.from-row.ensures) (stands _ _ c.args.self.now.opened.ready _ c.args.self.now.in_book _ c.requires)

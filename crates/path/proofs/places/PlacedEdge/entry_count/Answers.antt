-- `entry_count` meets its contract.
use native.Mathlib.Omega.{arith}
use Rattle.path.proofs.Standing.{count-within, count-byte, count-few}
use Rattle.path.proofs.places.PlacedEdge.entry_count.Goals as goal

pub bounds-self-from : goal.bounds-self-from
bounds-self-from c = rw c.from.ensures (count-within _ c.args.self.now.opened.ready.ok _ c.args.self.now.in_book)

pub returns : goal.returns
returns c =
    let s = c.args.self.now in
    let q = count-byte _ s.opened.ready.ok _ s.in_book in
    rw (c.from-2.ensures, c.from.ensures) (q, count-few _ s.opened.ready.ok _ s.in_book, omega (arith, q, s.in_book.shortcut))

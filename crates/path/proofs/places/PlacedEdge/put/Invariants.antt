-- `put` meets its contract. The invariant of its loop: the first j hops are walked.
use Prim.Native.Nat.{◌+◌, ◌*◌, ◌≤◌}
use Rattle.spec.specs.Limits.{hop_size}
use Rattle.path.specs.Edges.{edge_by}
use Rattle.path.specs.Parts.{walked, walked_mtus, walked_units, Walked}
use Rattle.path.specs.Places.{entry_ases, entry_ids}
use Rattle.path.proofs.places.PlacedEdge.put.Given as goal

abbrev pub invariant-loop-j : goal.invariant-loop-j
invariant-loop-j l =
    let book = l.self.opened.book.now in
    let e = edge_by l.self.edge in
    Walked (λ part. walked book e part l.j) (walked_mtus book e l.j) (walked_units book e l.j) l.initial.out l.out l.initial.ases l.ases l.initial.ids l.ids l.initial.w l.w
    × (l.w.hops ≤ l.initial.w.hops + hop_size * l.j) × (l.w.ases ≤ l.initial.w.ases + entry_ases * l.j) × (l.w.ids ≤ l.initial.w.ids + entry_ids * l.j)

-- `put_edges` meets its contract. The invariant of its loop: the first x edges are walked.
use Prim.Native.Nat.{◌+◌, ◌*◌, ◌≤◌}
use Rattle.spec.specs.Limits.{max_entries, path_head_size, info_size, hop_size}
use Rattle.path.proofs.Chaining.{EdgesWalked}
use Rattle.path.specs.Places.{entry_ases, entry_ids}
use Rattle.path.proofs.places.PlacedRecord.put_edges.Given as goal

abbrev pub invariant-loop-x : goal.invariant-loop-x
invariant-loop-x l =
    let start = path_head_size + info_size * l.self.count in
    EdgesWalked l.self.opened.book.now l.self.given.now start l.x l.initial.out l.out l.initial.ases l.ases l.initial.ids l.ids l.ends
    × (l.ends.hops ≤ start + hop_size * max_entries * l.x) × (l.ends.ases ≤ entry_ases * max_entries * l.x) × (l.ends.ids ≤ entry_ids * max_entries * l.x)

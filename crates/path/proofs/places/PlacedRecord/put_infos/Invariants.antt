-- `put_infos` meets its contract. The invariant of its loop: the infos of the first x edges are written.
use Prim.Native.Nat.{◌+◌, ◌*◌, ◌≤◌}
use mathlib.Core.Path.{◌≡◌}
use mathlib.Core.List.{flat_map}
use lib.ListN.{length}
use Rattle.spec.specs.Limits.{info_size}
use Rattle.path.specs.Edges.{edges_in}
use Rattle.path.specs.Places.{Wrote}
use Rattle.path.specs.Parts.{info_bytes}
use Rattle.path.proofs.places.PlacedRecord.put_infos.Given as goal

abbrev pub invariant-loop-x : goal.invariant-loop-x
invariant-loop-x l = Wrote l.initial.out l.at (flat_map (info_bytes l.self.opened.book.now) (edges_in l.self.given.now l.x)) l.out l.to × (l.to ≤ l.at + info_size * l.x) × (length l.out ≡ length l.initial.out)

-- `segment_id` meets its contract. The invariant of its loop: the MACs of the first i entries are folded in.
use mathlib.Core.Path.{◌≡◌}
use Rattle.spec.specs.Assembly.{id_below, segment_of}
use Rattle.path.specs.Edges.{edge_by}
use Rattle.path.proofs.places.PlacedEdge.segment_id.Given as goal

abbrev pub invariant-loop-i : goal.invariant-loop-i
invariant-loop-i l = l.id ≡ id_below (segment_of l.self.opened.book.now (edge_by l.self.edge)) l.i

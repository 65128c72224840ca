-- `find_peer` meets its contract. The loop's invariant: no peer from p on has the link.
use Rattle.spec.specs.Book.{segment_at}
use Rattle.graph.specs.Leaving.{peer_count_of, is_link}
use Rattle.graph.specs.Link.{end_of}
use Rattle.graph.proofs.LookupScan.{Sinking}
use Rattle.graph.proofs.opened.Opened.find_peer.Given as goal

abbrev pub invariant-loop-p : goal.invariant-loop-p
invariant-loop-p l = Sinking (is_link (segment_at l.self.book.now l.k) (end_of l.link) l.i) (peer_count_of (segment_at l.self.book.now l.k) l.i) l.p

abbrev pub decreases-loop-p : goal.decreases-loop-p
decreases-loop-p l = l.p

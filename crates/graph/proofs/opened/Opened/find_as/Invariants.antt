-- `find_as` meets its contract. The loop's invariant: no entry below i has the AS.
use Rattle.spec.specs.Book.{segment_at}
use Rattle.graph.specs.Leaving.{is_entry_of}
use Rattle.graph.proofs.LookupScan.{Scanning}
use Rattle.graph.proofs.opened.Opened.find_as.Given as goal

abbrev pub invariant-loop-i : goal.invariant-loop-i
invariant-loop-i l = Scanning (is_entry_of (segment_at l.self.book.now l.k) l.a) l.n l.i

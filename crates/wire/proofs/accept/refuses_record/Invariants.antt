-- `refuses_record` meets its contract. The invariant of its loop: the first k infos are not wrong, and have `total` hops.
use Rattle.wire.proofs.Testing.{Passed}
use Rattle.wire.proofs.accept.refuses_record.Given as goal

abbrev pub invariant-loop-k : goal.invariant-loop-k
invariant-loop-k l = Passed l.path l.k l.total

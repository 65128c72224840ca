-- `has_flag` meets its contract. The invariant of its loop: the first k hops have no flag.
use Rattle.spec.specs.Wire.{is_flagged}
use Rattle.wire.proofs.Testing.{None}
use Rattle.wire.proofs.accept.has_flag.Given as goal

abbrev pub invariant-loop-k : goal.invariant-loop-k
invariant-loop-k l = None (is_flagged l.wire) l.m l.k

-- `has_reserved` meets its contract. The invariant of its loop: the first k infos are not odd.
use Rattle.spec.specs.Wire.{uses_reserved}
use Rattle.wire.proofs.Testing.{None}
use Rattle.wire.proofs.accept.has_reserved.Given as goal

abbrev pub invariant-loop-k : goal.invariant-loop-k
invariant-loop-k l = None (uses_reserved l.wire) l.n l.k

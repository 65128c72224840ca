-- `sha256::Digest::rounds` meets its contract. The loops' invariants: the words before the next one are those of the schedule, and the
-- variables are those after 2 i rounds over the words there are.
use Rattle.std.proofs.Common.{◌≡◌, ◌+◌, ◌*◌, length, take}
use Rattle.sha256.specs.Hash.{schedule, rounds}
use Rattle.sha256.proofs.Digest.rounds.Given as goal

abbrev pub invariant-loop-i : goal.invariant-loop-i
invariant-loop-i l = (length l.w ≡ 64) × (take (l.i * 2 + 16) l.w ≡ schedule (l.i * 2) l.m) × (l.v ≡ rounds (l.i * 2) l.w l.fn.self)

abbrev pub invariant-loop-i-2 : goal.invariant-loop-i-2
invariant-loop-i-2 l = l.v ≡ rounds (l.i * 2) l.w l.fn.self

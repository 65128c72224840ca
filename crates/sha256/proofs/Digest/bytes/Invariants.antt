-- `sha256::Digest::bytes` meets its contract. The loop's invariant: the first i words are stored.
use Rattle.std.proofs.Common.{◌≡◌, ◌*◌, length, take}
use Rattle.sha256.proofs.Bytes.{joined}
use Rattle.sha256.proofs.Digest.bytes.Given as goal

abbrev pub invariant-loop-i : goal.invariant-loop-i
invariant-loop-i l = (length l.out ≡ 32) × (take (l.i * 4) l.out ≡ joined (take l.i l.word-items))

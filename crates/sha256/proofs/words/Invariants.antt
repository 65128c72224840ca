-- `sha256::words` meets its contract. The loop's invariant: the words before the next one are those of the definition's recursion.
use Rattle.std.proofs.Common.{◌≡◌, length, take}
use Rattle.sha256.specs.Hash.{words}
use Rattle.sha256.proofs.words.Given as goal

abbrev pub invariant-loop-i : goal.invariant-loop-i
invariant-loop-i l = (length l.w ≡ 64) × (take l.i l.w ≡ words l.i l.m)

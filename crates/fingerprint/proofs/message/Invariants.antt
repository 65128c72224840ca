-- `message` meets its contract. The loop's invariant: what i entries give is written, and `at` is the next entry's offset.
use mathlib.Core.Path.{◌≡◌}
use Prim.Native.Nat.{◌+◌, ◌*◌, ◌^◌, ◌<◌}
use lib.ListN.{length, take}
use Rattle.spec.specs.Limits.{max_entries}
use Rattle.spec.specs.Book.{entry_offset}
use Rattle.fingerprint.specs.Print.{input_size, inputs}
use Rattle.fingerprint.proofs.message.Given as goal

abbrev pub invariant-loop-i : goal.invariant-loop-i
invariant-loop-i l = (l.at < 2 ^ 32 + 2 ^ 13 * l.i) × (length l.m ≡ input_size * max_entries) × (l.at ≡ entry_offset l.book l.start l.i) × (take (input_size * l.i) l.m ≡ inputs l.book l.start l.i)

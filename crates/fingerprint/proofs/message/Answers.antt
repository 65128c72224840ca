-- `message` meets its contract. The loop's invariant: what i entries give is written, and `at` is the next entry's offset.
use mathlib.Core.Path.{refl, ap, ◌∙◌}
use mathlib.Core.List.{flat_map}
use Prim.Native.Nat.{◌+◌, ◌*◌}
use native.Mathlib.Omega.{arith}
use lib.ListN.{length, take}
use Rattle.spec.specs.Book.{entries_at, entry_offset}
use Rattle.output.proofs.Writing.{written-length}
use Rattle.segment.proofs.Fitting.{offset_step}
use Rattle.fingerprint.specs.Print.{input_size, inputs}
use Rattle.fingerprint.proofs.Printing.{written-more}
use Rattle.fingerprint.proofs.message.Goals as goal

pub loop-i-init : goal.loop-i-init
unfolding entry_offset inputs entries_at flat_map
loop-i-init c = (omega arith, refl, refl, refl)

pub loop-i-preserved : goal.loop-i-preserved
loop-i-preserved c =
    let e = c.put_entry.ensures in (
      omega arith,
      ap length e ∙ written-length _ _ _ ∙ c.loop-i.invariant.1,
      offset_step _ _ _ c.loop-i.invariant.2 c.entry_size-at.ensures.0,
      ap (take (input_size * (c.loop-i.i + 1))) e ∙ written-more _ _ _ _ _ (omega arith) c.loop-i.invariant.2 c.loop-i.invariant.3,
    )

-- What a piece leaves at the front of a buffer that has room for it, and how long the pieces are together.
-- Assumes nothing.
use Prim.Native.Nat.{ℕ, ◌+◌, ◌*◌, ◌≤◌, zero-le}
use native.Mathlib.Omega.{arith}
use mathlib.Core.Path.{◌≡◌, refl, ap, sym, ◌∙◌}
use mathlib.Core.List.{List, ◌++◌, flat_map}
use lib.ListN.{length, take, drop, length-append}
use lib.Seq.{take_at}
use Rattle.sha256.specs.Message.{sha256}
use Rattle.std.specs.Prelude.{Ok, Err}
use Rattle.spec.specs.Answers.{ListAnswer}
use Rattle.spec.specs.Limits.{max_slots, solution_size}
use Rattle.spec.specs.Basics.{range}
use Rattle.spec.specs.Printed.{printed}
use Rattle.spec.proofs.Lists.{flat-range-last}
use Rattle.output.specs.Write.{written}
use Rattle.output.proofs.Writing.{written-within}
use Rattle.printed.specs.Pieces.{listed, count_of, first_line, slot_text, pieces}
use Rattle.printed.proofs.Joined.{counted-room, pieces-printed}

pub wrote-front : (d xs d' : List ℕ) (r : ℕ) → d' ≡ written d 0 xs → r ≡ length xs → r ≤ length d → take r d' ≡ xs
wrote-front d xs d' r w e h = ap (take r) (w ∙ written-within d 0 xs (omega arith)) ∙ take_at xs (drop (0 + length xs) d) r (sym e)

-- ---- each piece after those before it

module _ (line : ℕ → List ℕ) where
  pub none-long : 0 ≡ length (flat_map line (range 0 0))
  unfolding range flat_map
  none-long = refl

  pub one-longer : (k : ℕ) → length (flat_map line (range 0 (k + 1))) ≡ length (flat_map line (range 0 k)) + length (line k)
  one-longer k = ap length (flat-range-last line k) ∙ length-append (flat_map line (range 0 k)) (line k)

-- ---- all of them

module _ (input : List ℕ) where
  pub count-few : count_of (listed input (max_slots * solution_size)).0 ≤ max_slots
  count-few = go (listed input (max_slots * solution_size)).0 refl
    where
      go : (a : ListAnswer) → (listed input (max_slots * solution_size)).0 ≡ a → count_of a ≤ max_slots
      go (Ok n) q = let w = counted-room input (max_slots * solution_size) n q in omega (arith, w.1)
      go (Err r) q = zero-le

  pub whole_long : (records : List ℕ) → records ≡ (listed input (max_slots * solution_size)).1 → (n : ℕ) → n ≡ count_of (listed input (max_slots * solution_size)).0
      → length (first_line input (max_slots * solution_size)) + length (flat_map (slot_text input records) (range 0 n)) ≡ length (printed sha256 input)
  unfolding pieces
  whole_long records q n e =
      let line : List ℕ = first_line input (max_slots * solution_size) in
      let same : flat_map (slot_text input records) (range 0 n)
      ≡ flat_map (slot_text input (listed input (max_slots * solution_size)).1) (range 0 (count_of (listed input (max_slots * solution_size)).0)) = cc in
      sym (length-append line (flat_map (slot_text input records) (range 0 n))) ∙ ap (λ l. length (line ++ l)) same ∙ ap length (pieces-printed input)

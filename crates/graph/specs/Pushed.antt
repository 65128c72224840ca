-- The lent buffer as slots that are filled from the front, and a count that stops one past the slots there are.
-- Assumes nothing.
use Rattle.std.specs.Prelude.{ℕ, ◌+◌, ◌*◌, ◌≤◌, ◌≡◌, List, [], ◌∷◌, ◌++◌, length, take, drop, ltb, if◌then◌else◌}
use Rattle.spec.specs.declared.Edge.{Edge}
use Rattle.spec.specs.Limits.{solution_size}
use Rattle.spec.specs.Records.{solution_octets}

-- the count, and what the buffer holds
abbrev pub Slots : Type 0
Slots = ℕ × List ℕ

-- a buffer with the record r at slot q
unfoldable pub put_at : List ℕ → ℕ → List ℕ → List ℕ
put_at s q r = take (solution_size * q) s ++ r ++ drop (solution_size * q + solution_size) s

-- one record more, of which there is room for `slots`
unfoldable pub push_record : ℕ → Slots → List ℕ → Slots
push_record slots st r = if ltb st.0 slots then (st.0 + 1, put_at st.1 st.0 r) else (slots + 1, st.1)

-- one chain more
unfoldable pub push_one : ℕ → Slots → List Edge → Slots
push_one slots st c = push_record slots st (solution_octets c)

unfoldable pub pushed : ℕ → Slots → List (List Edge) → Slots
pushed slots st [] = st
pushed slots st (c ∷ cs) = pushed slots (push_one slots st c) cs

-- ---- what a function that pushes asks, and what it leaves

pub record Room (slots n : ℕ) (out : List ℕ) : Type 0 where
  pub room : solution_size * slots ≤ length out
  pub most : n ≤ slots + 1

pub record Pushes (slots : ℕ) (before after : Slots) (cs : List (List Edge)) : Type 0 where
  pub state : after ≡ pushed slots before cs
  pub most : after.0 ≤ slots + 1

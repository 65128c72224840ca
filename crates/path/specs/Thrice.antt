-- Numbers that stand three times among those of a buffer.
-- Assumes nothing.
use Rattle.std.specs.Prelude.{ℕ, ◌+◌, ◌-◌, ◌*◌, ◌≤◌, ◌<◌, ◌≡◌, Bool, false, ◌||◌, List, [], ◌∷◌, map, length, eqb, ltb}
use Rattle.spec.specs.Basics.{filter, range}
use Rattle.spec.specs.Octets.{be64}

-- numbers of 8 bytes from an offset on
unfoldable pub number_at : List ℕ → ℕ → ℕ → ℕ
number_at d at k = be64 d (at + 8 * k)

unfoldable pub numbers_in : List ℕ → ℕ → ℕ → List ℕ
numbers_in d at n = map (number_at d at) (range 0 n)

unfoldable pub is_number : ℕ → ℕ → Bool
is_number x y = eqb y x

-- how often x is among them
unfoldable pub times_in : ℕ → List ℕ → ℕ
times_in x ns = length (filter (is_number x) ns)

-- some number stands three times: two of those after it equal it
unfoldable pub some_thrice : List ℕ → Bool
some_thrice [] = false
some_thrice (x ∷ xs) = ltb 1 (times_in x xs) || some_thrice xs

-- x is the first r of n numbers: some number stands three times where 3 - r of x follow, or among those that follow
pub record Run (d : List ℕ) (at n x r : ℕ) : Type 0 where
  pub some : 0 < r
  pub most : r ≤ 2
  pub room : r ≤ n
  pub rest : some_thrice (numbers_in d at n) ≡ (ltb (2 - r) (times_in x (numbers_in d (at + 8 * r) (n - r))) || some_thrice (numbers_in d (at + 8 * r) (n - r)))

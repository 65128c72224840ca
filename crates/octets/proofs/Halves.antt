-- A number of four bytes as one sum: for the crates that read within a book without a test.
-- Assumes nothing.
use mathlib.Core.Path.{◌≡◌, ap}
use mathlib.Core.List.{List}
use Prim.Native.Nat.{ℕ, ◌+◌, ◌*◌}
use native.Mathlib.Omega.{arith}
use lib.ListN.{get_or}
use Rattle.spec.specs.Octets.{be16, be32}

pub four_bytes : (b : List ℕ) (at : ℕ) → be32 b at ≡ get_or b at 0 * 16777216 + get_or b (at + 1) 0 * 65536 + get_or b (at + 2) 0 * 256 + get_or b (at + 3) 0
unfolding be32 be16
four_bytes b at =
    let e : at + 2 + 1 ≡ at + 3 = omega arith in
    omega (arith, ap (λ i. get_or b i 0) e)

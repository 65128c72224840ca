-- What the loops of the search count is small.
-- Assumes nothing.
use Prim.Native.Nat.{ℕ, ◌+◌, ◌≤◌}
use native.Mathlib.Omega.{arith}
use mathlib.Core.Path.{◌≡◌, ap, ap₂}
use mathlib.Core.List.{List}
use Rattle.std.specs.Prelude.{Ok}
use Rattle.spec.specs.declared.Sizes.{Sizes}
use Rattle.spec.specs.Limits.{max_segments}
use Rattle.spec.specs.Book.{sizes_at, verdict, segment_count, cores, non_cores}
use Rattle.spec.proofs.BookLaws.{accepted}

-- the book's sizes as the search holds them
pub record Counted (b : List ℕ) (c n : ℕ) : Type 0 where
  pub cores : c ≡ cores b
  pub count : c + n ≡ segment_count b
  pub small : c + n ≤ max_segments

pub counted : (b : List ℕ) → verdict b ≡ Ok tt → (s : Sizes) → s ≡ sizes_at b → Counted b s.cores s.others
unfolding sizes_at segment_count
counted b ok s e =
    let c : s.cores ≡ cores b = ap (λ (x : Sizes). x.cores) e in
    let n : s.others ≡ non_cores b = ap (λ (x : Sizes). x.others) e in
    record { cores = c; count = ap₂ (λ x y. x + y) c n; small = omega (arith, (accepted b ok).crowd) }

-- The fields of sizes that were read whole, for callers; and records put together of what was read.
-- Assumes nothing.
use mathlib.Core.Path.{◌≡◌, ap}
use mathlib.Core.List.{List}
use Prim.Native.Nat.{ℕ}
use Rattle.spec.specs.declared.Sizes.{Sizes}
use Rattle.spec.specs.Octets.{be16, be32}
use Rattle.spec.specs.Book.{cores, non_cores, body_total, sizes_at}

pub cores-read : (b : List ℕ) {s : Sizes} → s ≡ sizes_at b → s.cores ≡ cores b
unfolding sizes_at
cores-read b q = ap (λ (s : Sizes). s.cores) q

pub total-read : (b : List ℕ) {s : Sizes} → s ≡ sizes_at b → s.bodies ≡ body_total b
unfolding sizes_at
total-read b q = ap (λ (s : Sizes). s.bodies) q

-- ---- records put together of what was read

pub sizes-are : (b : List ℕ) {c o t : ℕ} → c ≡ be16 b 0 → o ≡ be16 b 2 → t ≡ be32 b 4
    → ◌≡◌ {A = Sizes} (record { cores = c; others = o; bodies = t }) (sizes_at b)
unfolding sizes_at cores non_cores body_total
sizes-are b ec eo et = cc

-- How many fingerprints a comparison works out: none for edges at one position, at most two for a pair, and two for each pair that needs them.
-- Assumes nothing.
use Prim.Native.Nat.{ℕ, ◌+◌, ◌*◌, ◌≤◌, ◌<◌}
use native.Mathlib.Omega.{arith}
use mathlib.Core.Path.{◌≡◌, refl, sym, ap, ◌∙◌}
use mathlib.Core.Bool.{Bool, true, false, ◌&&◌, not}
use mathlib.Core.List.{List, [], ◌∷◌, ◌++◌}
use lib.Dec.{eqb, compare_is_eq}
use lib.ListN.{length}
use borrow.Author.Tests.{eqb-false}
use Rattle.spec.specs.declared.SolutionEdge.{SolutionEdge}
use Rattle.spec.specs.Limits.{max_edges}
use Rattle.std.specs.Prelude.{if◌then◌else◌}
use Rattle.spec.specs.Basics.{filter, range}
use Rattle.spec.specs.Order.{compare_edges}
use Rattle.spec.specs.Digests.{pair_digests, edge_digests, solution_digests}
use Rattle.spec.specs.Records.{record_edge, solution_in}
use Rattle.spec.specs.ByRecord.{record_digests, equal_before, needs_digests}

-- ---- a pair

abbrev two : Bool → ℕ
two t = if t then 2 else 0

two-most : (t : Bool) → two t ≤ 2
two-most true = omega arith
two-most false = omega arith

module _ (e f : SolutionEdge) where
  pub pair_one : e.position ≡ f.position → pair_digests e f ≡ 0
  unfolding pair_digests
  pair_one h = go (eqb e.peer f.peer) (eqb e.shortcut f.shortcut) (eqb e.position f.position) refl
    where
      go : (s t u : Bool) → eqb e.position f.position ≡ u → two (s && t && not u) ≡ 0
      go true true true r = refl
      go true true false r = absurd (eqb-false e.position f.position r h)
      go true false u r = refl
      go false t u r = refl

  pair-most : pair_digests e f ≤ 2
  unfolding pair_digests
  pair-most = two-most (eqb e.peer f.peer && eqb e.shortcut f.shortcut && not (eqb e.position f.position))

-- ---- edges

module _ (digest : List ℕ → List ℕ) (b : List ℕ) where
  same_none : (es : List SolutionEdge) → edge_digests digest b es es ≡ 0
  unfolding edge_digests
  same_none [] = refl
  same_none (e ∷ es) = go (compare_is_eq (compare_edges digest b e e)) (same_none es)
    where
      go : (t : Bool) → edge_digests digest b es es ≡ 0 → pair_digests e e + (if t then edge_digests digest b es es else 0) ≡ 0
      go true h = omega (arith, pair_one e e refl)
      go false h = omega (arith, pair_one e e refl)

  -- what follows two lists of one length, and is the same, does not count
  pub digests-padded : (es fs zs : List SolutionEdge) → length es ≡ length fs → edge_digests digest b (es ++ zs) (fs ++ zs) ≡ edge_digests digest b es fs
  unfolding edge_digests
  digests-padded [] [] zs l = same_none zs
  digests-padded [] (f ∷ fs) zs l = absurd (omega arith)
  digests-padded (e ∷ es) [] zs l = absurd (omega arith)
  digests-padded (e ∷ es) (f ∷ fs) zs l = ap (λ n. pair_digests e f + (if compare_is_eq (compare_edges digest b e f) then n else 0)) (digests-padded es fs zs (omega arith))

-- ---- two records

-- by whether cost and count, and the pairs before, leave them equal
abbrev row : Bool → Bool → Bool → Bool → ℕ → ℕ → ℕ → ℕ
row h u v w x y z = if h then x + (if u then y + (if v then z + (if w then 0 else 0) else 0) else 0) else 0

row-none : (h u v w : Bool) (x y z : ℕ) → x ≡ 0 → y ≡ 0 → z ≡ 0 → row h u v w x y z ≡ 0
row-none false u v w x y z p q r = refl
row-none true false v w x y z p q r = omega arith
row-none true true false w x y z p q r = omega arith
row-none true true true false x y z p q r = omega arith
row-none true true true true x y z p q r = omega arith

row-most : (h u v w : Bool) (x y z : ℕ) → x ≤ 2 → y ≤ 2 → z ≤ 2 → row h u v w x y z ≤ 2 * max_edges
row-most false u v w x y z p q r = omega arith
row-most true false v w x y z p q r = omega arith
row-most true true false w x y z p q r = omega arith
row-most true true true false x y z p q r = omega arith
row-most true true true true x y z p q r = omega arith

module _ (digest : List ℕ → List ℕ) (b r s : List ℕ) where
  abbrev level : Bool
  level = eqb (solution_in r).cost (solution_in s).cost && eqb (solution_in r).count (solution_in s).count

  abbrev tie : ℕ → Bool
  tie k = compare_is_eq (compare_edges digest b (record_edge r k) (record_edge s k))

  abbrev pair : ℕ → ℕ
  pair k = pair_digests (record_edge r k) (record_edge s k)

  as_row : record_digests digest b r s ≡ row level (tie 0) (tie 1) (tie 2) (pair 0) (pair 1) (pair 2)
  unfolding record_digests solution_digests edge_digests solution_in range
  as_row = refl

  -- where each pair of edges is at one position
  pub records-none : ((k : ℕ) → k < max_edges → (record_edge r k).position ≡ (record_edge s k).position) → record_digests digest b r s ≡ 0
  records-none h =
      as_row
      ∙ row-none level (tie 0) (tie 1) (tie 2) (pair 0) (pair 1) (pair 2)
      (pair_one (record_edge r 0) (record_edge s 0) (h 0 (omega arith))) (pair_one (record_edge r 1) (record_edge s 1) (h 1 (omega arith))) (pair_one (record_edge r 2) (record_edge s 2) (h 2 (omega arith)))

  pub records-most : record_digests digest b r s ≤ 2 * max_edges
  records-most =
      rw as_row
      (row-most level (tie 0) (tie 1) (tie 2) (pair 0) (pair 1) (pair 2)
      (pair-most (record_edge r 0) (record_edge s 0)) (pair-most (record_edge r 1) (record_edge s 1)) (pair-most (record_edge r 2) (record_edge s 2)))

-- ---- two for each pair that needs them

twice-more : (t : Bool) (k : ℕ) (ks : List ℕ) → 2 * length (if t then k ∷ ks else ks) ≡ two t + 2 * length ks
twice-more true k ks = omega arith
twice-more false k ks = omega arith

row-each : (h u v w x y z : Bool) → row h u v w (two x) (two y) (two z) ≡ two (h && x) + (two ((h && u) && y) + (two (((h && u) && v) && z) + 0))
row-each false u v w x y z = refl
row-each true false v w x y z = omega arith
row-each true true false w x y z = omega arith
row-each true true true false x y z = omega arith
row-each true true true true x y z = omega arith

module _ (digest : List ℕ → List ℕ) (b r s : List ℕ) where
  abbrev same : ℕ → Bool
  same k =
      eqb (record_edge r k).peer (record_edge s k).peer
      && eqb (record_edge r k).shortcut (record_edge s k).shortcut
      && not (eqb (record_edge r k).position (record_edge s k).position)

  abbrev p : ℕ → Bool
  p k = equal_before digest b r s k && same k

  pub records-each : record_digests digest b r s ≡ 2 * length (filter (needs_digests digest b r s) (range 0 max_edges))
  unfolding pair_digests filter range needs_digests equal_before
  records-each =
      as_row digest b r s
      ∙ row-each (level digest b r s) (tie digest b r s 0) (tie digest b r s 1) (tie digest b r s 2) (same 0) (same 1) (same 2)
      ∙ sym
      (twice-more (p 0) 0 (if p 1 then 1 ∷ (if p 2 then 2 ∷ [] else []) else (if p 2 then 2 ∷ [] else []))
      ∙ ap (λ n. two (p 0) + n) (twice-more (p 1) 1 (if p 2 then 2 ∷ [] else []) ∙ ap (λ n. two (p 1) + n) (twice-more (p 2) 2 [])))

-- In an accepted book no segment passes one AS twice.
-- Assumes nothing.
use Prim.Native.Nat.{ℕ, ◌<◌}
use native.Mathlib.Omega.{arith}
use mathlib.Core.Path.{◌≡◌, refl, sym, ap, ◌∙◌}
use mathlib.Core.Bool.{Bool, true, false}
use mathlib.Core.List.{List}
use lib.ListN.{length}
use lib.Dec.{ltb}
use borrow.Author.Tests.{ltb-true, ltb-false}
use Rattle.spec.specs.Basics.{range}
use Rattle.spec.specs.Book.{Entry, segment_count, entry_count_at, same_as, local_at, has_local_of, stands_earlier, passes_twice, as_entry_at, entry_at, segment_at}
use Rattle.spec.specs.Edges.{as_of}
use Rattle.spec.specs.Loopless.{Apart}
use Rattle.spec.proofs.Membership.{not-both}
use Rattle.spec.proofs.Vertices.{same_as-refl}
use Rattle.spec.proofs.BookLaws.{AcceptedBook, mem-range, any_none, segment-length}
use Rattle.spec.proofs.BodyLaws.{entry-at, not-twice}

-- the AS of an entry is read at its place
local-at : (b : List ℕ) (k i : ℕ) → i < entry_count_at b k → as_of (segment_at b k) i ≡ local_at b k i
unfolding as_of local_at entry_at as_entry_at
local-at b k i h = ap (λ (x : Entry). x.own.local) (entry-at b k i h)

module _ (b : List ℕ) (a : AcceptedBook b) (k : ℕ) (h : k < segment_count b) where
  -- an entry's AS does not stand earlier
  not_earlier : (i j : ℕ) → j < i → i < entry_count_at b k → local_at b k j ≡ local_at b k i → ⊥
  unfolding passes_twice stands_earlier has_local_of
  not_earlier i j l m q =
      let e = any_none (stands_earlier b k) (range 0 (entry_count_at b k)) (not-twice b a k h) (mem-range 0 (entry_count_at b k) i (omega arith) (omega arith)) in
      let f = any_none (has_local_of b k i) (range 0 i) e (mem-range 0 i j (omega arith) (omega arith)) in
      not-both (ap (λ x. same_as x (local_at b k i)) q ∙ same_as-refl (local_at b k i)) f

  pub apart : Apart (segment_at b k)
  apart i j l m q = go (ltb i j) refl (ltb j i) refl
    where
      inside : (x : ℕ) → x < length (segment_at b k).entries → x < entry_count_at b k
      inside x g = omega (arith, segment-length b k)

      same : local_at b k i ≡ local_at b k j
      same = sym (local-at b k i (inside i l)) ∙ q ∙ local-at b k j (inside j m)

      go : (t : Bool) → ltb i j ≡ t → (u : Bool) → ltb j i ≡ u → i ≡ j
      go true r u s = absurd (not_earlier j i (ltb-true i j r) (inside j m) same)
      go false r true s = absurd (not_earlier i j (ltb-true j i s) (inside i l) (sym same))
      go false r false s = let x = ltb-false i j r in let y = ltb-false j i s in omega arith

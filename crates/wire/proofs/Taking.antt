-- What is taken, and what it leaves of the output.
-- Assumes nothing.
use Prim.Native.Nat.{ℕ, ◌≤◌, ◌<◌}
use mathlib.Core.Path.{◌≡◌, refl, sym, ap, ap₂, ◌∙◌}
use mathlib.Core.Bool.{Bool, true, false}
use native.Mathlib.Omega.{arith}
use mathlib.Core.List.{List, [], ◌++◌}
use lib.ListN.{length, drop, replicate, length-drop}
use lib.Dec.{ltb}
use borrow.Author.Tests.{lt-ltb, le-ltb, ltb-false}
use Rattle.std.specs.Prelude.{Ok, Err, if◌then◌else◌}
use Rattle.spec.specs.declared.Refusal.{Refusal}
use Rattle.spec.specs.declared.Refusal.TheVariants.{Small, Wire}
use Rattle.spec.specs.Book.{Verdict}
use Rattle.spec.specs.Basics.{padded}
use Rattle.spec.specs.Wire.{Carried, refused_wire, carried}
use Rattle.output.specs.Write.{written, zeroed}
use Rattle.output.proofs.Writing.{written_next, zeroed-all, zeroed_rest}
use Rattle.wire.specs.Taking.{taking}

module _ (room needs : ℕ) (refused : Bool) where
  abbrev by : Bool → Bool → Verdict
  by s t = if s then Err Small else if t then Err Wire else Ok tt

  pub taking-small : room < needs → ◌≡◌ {A = Verdict} (Err Small) (taking room needs refused)
  unfolding taking
  taking-small h = sym (ap (λ s. by s refused) (lt-ltb room needs h))

  module _ (enough : needs ≤ room) (t : Bool) (e : t ≡ refused) where
    pub taking-wire : t ≡ true → ◌≡◌ {A = Verdict} (Err Wire) (taking room needs refused)
    unfolding taking
    taking-wire q = sym (ap₂ by (le-ltb room needs enough) (sym e ∙ q))

    pub taking-ok : t ≡ false → ◌≡◌ {A = Verdict} (Ok tt) (taking room needs refused)
    unfolding taking
    taking-ok q = sym (ap₂ by (le-ltb room needs enough) (sym e ∙ q))

  -- what is taken has room, and is not refused
  pub taken : ◌≡◌ {A = Verdict} (taking room needs refused) (Ok tt) → (needs ≤ room) × (refused ≡ false)
  unfolding taking
  taken q = go (ltb room needs) refused refl refl q
    where
      go : (s t : Bool) → ltb room needs ≡ s → refused ≡ t → ◌≡◌ {A = Verdict} (by s t) (Ok tt) → (needs ≤ room) × (refused ≡ false)
      go true t e f q = let z : ◌≡◌ {A = ℕ} 0 1 = cc in absurd (omega arith)
      go false true e f q = let z : ◌≡◌ {A = ℕ} 0 1 = cc in absurd (omega arith)
      go false false e f q = (ltb-false room needs e, f)

-- ---- answers

module _ (d z : List ℕ) (room : ℕ) (refused : Bool) (xs : List ℕ) where
  abbrev answer : Bool → Bool → Carried
  answer s t = if s then refused_wire (length d) Small else if t then refused_wire (length d) Wire else (Ok (length xs), padded (length d) xs)

  pub refused-answer : (r : Refusal) → ◌≡◌ {A = Verdict} (taking (length d) room refused) (Err r) → z ≡ zeroed d 0 → ◌≡◌ {A = Carried} (Err r, z) (carried (length d) room refused xs)
  unfolding taking carried
  refused-answer r q e = go (ltb (length d) room) refused q
    where
      zeros : (s : Refusal) → ◌≡◌ {A = Verdict} (Err s) (Err r) → ◌≡◌ {A = Carried} (Err r, z) (refused_wire (length d) s)
      zeros s p = unfold refused_wire in cc (e ∙ zeroed-all d)

      go : (s t : Bool) → ◌≡◌ {A = Verdict} (if s then Err Small else if t then Err Wire else Ok tt) (Err r) → ◌≡◌ {A = Carried} (Err r, z) (answer s t)
      go true t p = zeros Small p
      go false true p = zeros Wire p
      go false false p = let y : ◌≡◌ {A = ℕ} 0 1 = cc in absurd (omega arith)

  filled-up : (d₁ : List ℕ) → length xs ≤ length d → d₁ ≡ written d 0 xs → zeroed d₁ (length xs) ≡ padded (length d) xs
  unfolding padded
  filled-up d₁ h p =
      ap (λ l. zeroed l (length xs)) (p ∙ written_next [] d 0 xs refl h) ∙ zeroed_rest xs (drop (length xs) d)
      ∙ ap (λ k. xs ++ replicate k 0) (length-drop (length xs) d)

  pub count-answer : ◌≡◌ {A = Verdict} (taking (length d) room refused) (Ok tt) → (n : ℕ) (d₁ : List ℕ) → length xs ≤ room → n ≡ length xs → d₁ ≡ written d 0 xs
      → z ≡ zeroed d₁ n → ◌≡◌ {A = Carried} (Ok n, z) (carried (length d) room refused xs)
  unfolding carried
  count-answer q n d₁ most l p e =
      let w = taken (length d) room refused q in
      ap₂ {C = Carried} (λ a b. (Ok a, b)) l (e ∙ ap (zeroed d₁) l ∙ filled-up d₁ (omega (arith, w.0)) p)
      ∙ sym (ap₂ answer (le-ltb (length d) room w.0) w.1)

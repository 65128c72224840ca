-- A function that pushes part by part: what is pushed and what is left.
-- Assumes nothing.
use Prim.Native.Nat.{ℕ, ◌+◌, ◌≤◌, ◌<◌}
use native.Mathlib.Omega.{arith}
use mathlib.Core.Path.{◌≡◌, refl, sym, ap, ap₂, ◌∙◌, subst}
use mathlib.Core.List.{List, [], ◌++◌, append-nil}
use Rattle.spec.specs.declared.Edge.{Edge}
use Rattle.graph.specs.Pushed.{Slots, pushed, Pushes}
use Rattle.graph.proofs.PushedLaws.{pushed-append, pushed_none, pushed-full}

-- all of the chains pushed before are those that are left pushed now
pub record Going (slots : ℕ) (before after : Slots) (all left : List (List Edge)) : Type 0 where
  pub state : pushed slots before all ≡ pushed slots after left
  pub most : after.0 ≤ slots + 1

module _ {slots : ℕ} {before : Slots} {all : List (List Edge)} where
  going_start : before.0 ≤ slots + 1 → Going slots before before all all
  going_start h = record { state = refl; most = h }

  -- nothing is pushed
  going-pass : {after : Slots} {left next : List (List Edge)} → Going slots before after all left → left ≡ next → Going slots before after all next
  going-pass {after = after} g e = record { state = g.state ∙ ap (pushed slots after) e; most = g.most }

  pub going-push : {after then : Slots} {left part next : List (List Edge)} → Going slots before after all left → left ≡ part ++ next
      → Pushes slots after then part → Going slots before then all next
  going-push {after = after} {part = part} {next = next} g e p =
      record {
        state = g.state ∙ ap (pushed slots after) e ∙ pushed-append slots after part next ∙ ap (λ st. pushed slots st next) (sym p.state);
        most = p.most;
      }

  pub going_end : {after : Slots} {left : List (List Edge)} → Going slots before after all left → left ≡ [] → Pushes slots before after all
  going_end {after = after} g e = record { state = sym (g.state ∙ ap (pushed slots after) e ∙ pushed_none slots after); most = g.most }

  -- the count is past the slots: what is left changes nothing
  pub going-full : {after : Slots} {left : List (List Edge)} → Going slots before after all left → slots < after.0 → Pushes slots before after all
  going-full {after = after} {left = left} g h =
      record { state = sym (g.state ∙ pushed-full slots after.0 after.1 left (omega (arith, g.most))); most = g.most }

-- the same chains under another name
pub pushes-as : {slots : ℕ} {before after : Slots} {xs ys : List (List Edge)} → Pushes slots before after xs → ys ≡ xs → Pushes slots before after ys
pushes-as {slots} {before} p e = record { state = p.state ∙ ap (pushed slots before) (sym e); most = p.most }

pub pushes-none : {slots : ℕ} {before : Slots} {xs : List (List Edge)} → before.0 ≤ slots + 1 → xs ≡ [] → Pushes slots before before xs
pushes-none h e = going_end (going_start h) e

-- ---- the turns of a loop, whose state the code holds as a count and a buffer

module _ {slots : ℕ} {before : Slots} {all left : List (List Edge)} {n : ℕ} {out : List ℕ} {m : ℕ} {o : List ℕ} where
  pub turn-push : {part next : List (List Edge)} {n' : ℕ} {out' : List ℕ} → Going slots before (n, out) all left → left ≡ part ++ next
      → Pushes slots (n, out) (n', out') part → m ≡ n' → o ≡ out' → Going slots before (m, o) all next
  turn-push {next = next} g e p q r = subst (λ st. Going slots before st all next) (sym (ap₂ (λ x y. (x, y)) q r)) (going-push g e p)

  pub turn-pass : {next : List (List Edge)} → Going slots before (n, out) all left → left ≡ next → m ≡ n → o ≡ out → Going slots before (m, o) all next
  turn-pass {next} g e q r = subst (λ st. Going slots before st all next) (sym (ap₂ (λ x y. (x, y)) q r)) (going-pass g e)

-- all of what is to be pushed, as a loop begins
pub going-begin : {slots : ℕ} {before : Slots} {all left : List (List Edge)} → before.0 ≤ slots + 1 → all ≡ left → Going slots before before all left
going-begin h e = going-pass (going_start h) e

-- two parts, one after the other
pub pushes-both : {slots : ℕ} {before after last : Slots} {all xs ys : List (List Edge)} → Pushes slots before after xs → Pushes slots after last ys
    → before.0 ≤ slots + 1 → all ≡ xs ++ ys → Pushes slots before last all
pushes-both {ys = ys} p q h e = going_end (going-push {next = []} (going-push (going_start h) e p) (sym (append-nil ys)) q) refl

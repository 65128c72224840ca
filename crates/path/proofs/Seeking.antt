-- A route looked for among those held.
-- Assumes nothing.
use Prim.Native.Nat.{ℕ, suc, ◌-◌, ◌%◌, ◌≤◌, ◌<◌}
use native.Mathlib.Decide.{ℕ_discrete, dec_lt}
use native.Mathlib.Omega.{arith}
use mathlib.Core.Path.{◌≡◌, refl, sym, ap, ◌∙◌, subst}
use mathlib.Core.Bool.{Bool, true, false}
use mathlib.Core.List.{List}
use lib.ListN.{length, get_or}
use Rattle.std.specs.Prelude.{Option, Some, None}
use Rattle.spec.specs.declared.PathInterface.{PathInterface}
use Rattle.spec.specs.Routes.{same_interfaces}
use Rattle.spec.proofs.HoldingLaws.{interfaces-eq}
use Rattle.path.specs.declared.shown.Shown.{Shown}
use Rattle.path.specs.declared.route_list.Held.{Held}
use Rattle.path.specs.Slots.{record_at, shown_in, route_in, expiry_in, last_before, Shows, Compared, Sought, Told, Chained}
use Rattle.path.proofs.Interfaces.{shown-length}
use Rattle.path.proofs.Buckets.{last-le, last-in, last_none}

-- ---- one slot

none-some : {P : Type 0} (x : Held) → ◌≡◌ {A = Option Held} None (Some x) → P
none-some x z = let y : ◌≡◌ {A = ℕ} 0 1 = cc in absurd (omega arith)

held-in : Held → Option Held → Held
held-in y None = y
held-in y (Some x) = x

some-same : {y x : Held} → ◌≡◌ {A = Option Held} (Some y) (Some x) → y ≡ x
unfolding held-in
some-same {y} q = ap (held-in y) q

-- what is none where it is not some
pub absent : (h : Option Held) → ((x : Held) → h ≡ Some x → ⊥) → h ≡ None
absent None f = refl
absent (Some x) f = absurd (f x refl)

pub not-compared : (b : List ℕ) (route : List PathInterface) (given : List ℕ) (k : ℕ) → same_interfaces route (route_in b given) ≡ false
    → Compared b route given k None
not-compared b route given k q = record { here = λ x z. none-some x z; other = λ z. q }

module _ (b a i : List ℕ) (count : ℕ) (given others ids : List ℕ) (s : Shown) (w : Shows b given others ids s) where
  counts-differ : (s.count ≡ count → ⊥) → same_interfaces (shown_in a i count) (route_in b given) ≡ false
  counts-differ n = go (same_interfaces (shown_in a i count) (route_in b given)) refl
    where
      go : (t : Bool) → same_interfaces (shown_in a i count) (route_in b given) ≡ t → t ≡ false
      go false e = refl
      go true e =
          absurd (n (sym (shown-length others ids s.count) ∙ ap length (sym w.route) ∙ sym (ap length (interfaces-eq (shown_in a i count) (route_in b given) e)) ∙ shown-length a i count))

  routes-by : s.count ≡ count → {t : Bool} → t ≡ same_interfaces (shown_in a i count) (shown_in others ids count) → same_interfaces (shown_in a i count) (route_in b given) ≡ t
  routes-by e q = ap (same_interfaces (shown_in a i count)) (w.route ∙ ap (shown_in others ids) e) ∙ sym q

  module _ (k : ℕ) (r : List ℕ) (e : given ≡ r) where
    at : {t : Bool} → same_interfaces (shown_in a i count) (route_in b given) ≡ t → same_interfaces (shown_in a i count) (route_in b r) ≡ t
    at q = ap (λ g. same_interfaces (shown_in a i count) (route_in b g)) (sym e) ∙ q

    pub compared-count : (s.count ≡ count → ⊥) → Compared b (shown_in a i count) r k None
    compared-count n = not-compared b (shown_in a i count) r k (at (counts-differ n))

    module _ (l : s.count ≡ count) (t : Bool) (q : t ≡ same_interfaces (shown_in a i count) (shown_in others ids count)) where
      pub compared-other : t ≡ false → Compared b (shown_in a i count) r k None
      compared-other f = not-compared b (shown_in a i count) r k (at (routes-by l q ∙ f))

      pub compared_same : t ≡ true → Compared b (shown_in a i count) r k (Some (record { slot = k; expiry = s.expiry }))
      compared_same f =
          record {
            here = λ x z. let g : record { slot = k; expiry = s.expiry } ≡ x = some-same z in (
              sym (ap (λ (h : Held). h.slot) g),
              at (routes-by l q ∙ f),
              sym (ap (λ (h : Held). h.expiry) g) ∙ w.expiry ∙ ap (expiry_in b) e,
            );
            other = λ z. none-some (record { slot = k; expiry = s.expiry }) (sym z);
          }

-- ---- the slots of a bucket

module _ (b : List ℕ) (route : List PathInterface) (d marks : List ℕ) (kept : ℕ) where
  pub told-other : Told b route d marks kept → (j : ℕ) → j < kept → (get_or marks j 0 ≡ get_or marks kept 0 → ⊥) → same_interfaces route (route_in b (record_at d j)) ≡ false
  told-other t j l n = go (same_interfaces route (route_in b (record_at d j))) refl
    where
      go : (s : Bool) → same_interfaces route (route_in b (record_at d j)) ≡ s → s ≡ false
      go false e = refl
      go true e = absurd (n (t.told j l e))

  abbrev Found : Held → Type 0
  Found x = (x.slot < kept) × (same_interfaces route (route_in b (record_at d x.slot)) ≡ true) × (x.expiry ≡ expiry_in b (record_at d x.slot))

  -- no slot from `at` on holds the route, and the one before it is in the route's bucket
  pub record Passed (m at : ℕ) : Type 0 where
    pub within : at ≤ kept
    pub bucket : (k : ℕ) → at ≡ suc k → get_or marks k 0 % m ≡ get_or marks kept 0 % m
    pub others : (j : ℕ) → at ≤ j → j < kept → same_interfaces route (route_in b (record_at d j)) ≡ false

  module _ (next heads : List ℕ) (t : Told b route d marks kept) (w : Chained marks next heads kept) where
    abbrev m : ℕ
    m = length heads

    pub passed_first : (h at : ℕ) → h ≡ get_or marks kept 0 % length heads → h < length heads → at ≡ get_or heads h 0 → Passed (length heads) at
    passed_first h at its below q =
        record {
          within = omega (arith, e, last-le marks m h kept);
          bucket = λ k z. last-in marks m h kept k (sym e ∙ z) ∙ its;
          others = λ j l u. told-other t j u (λ z. last_none marks m h kept j (omega (arith, e)) u (ap (λ x. x % m) z ∙ sym its));
        }
      where
        e : at ≡ last_before marks m h kept
        e = q ∙ w.headed h below

    module _ (at : ℕ) (some : 0 < at) (p : Passed (length heads) at) where
      abbrev k : ℕ
      k = at - 1

      here : at ≡ suc k
      here = omega arith

      back : get_or next k 0 ≡ last_before marks m (get_or marks k 0 % m) k
      back = w.linked k (omega (arith, p.within))

      pub passed-less : get_or next (at - 1) 0 < at
      passed-less = omega (arith, back, last-le marks m (get_or marks k 0 % m) k)

      pub passed-next : same_interfaces route (route_in b (record_at d (at - 1))) ≡ false → Passed (length heads) (get_or next (at - 1) 0)
      passed-next q =
          record {
            within = omega (arith, passed-less, p.within);
            bucket = λ i z. last-in marks m (get_or marks k 0 % m) k i (sym back ∙ z) ∙ p.bucket k here;
            others = λ j l u. by j l u (dec_lt j k) (ℕ_discrete j k);
          }
        where
          by : (j : ℕ) → get_or next k 0 ≤ j → j < kept → Dec (j < k) → Dec (j ≡ k) → same_interfaces route (route_in b (record_at d j)) ≡ false
          by j l u (yes f) e =
              told-other t j u (λ z. last_none marks m (get_or marks k 0 % m) k j (omega (arith, back)) f (ap (λ x. x % m) z ∙ sym (p.bucket k here)))
          by j l u (no f) (yes e) = ap (λ i. same_interfaces route (route_in b (record_at d i))) e ∙ q
          by j l u (no f) (no e) = p.others j (omega arith) u

      pub sought-here : (h : Option Held) → Compared b route (record_at d (at - 1)) (at - 1) h → (x : Held) → h ≡ Some x → Sought b route d kept (Some x)
      sought-here h c x e =
          let v = c.here x e in
          record {
            some = λ y z. let g : x ≡ y = some-same z in subst Found g (
              omega (arith, v.0, p.within),
              ap (λ i. same_interfaces route (route_in b (record_at d i))) v.0 ∙ v.1,
              v.2 ∙ sym (ap (λ i. expiry_in b (record_at d i)) v.0),
            );
            none = λ z. none-some x (sym z);
          }

  pub sought-none : (m at : ℕ) → Passed m at → at ≤ 0 → Sought b route d kept None
  sought-none m at p z = record { some = λ x q. none-some x q; none = λ e j l. p.others j (omega arith) l }

-- The mark of a list of interfaces, one interface after the other.
-- Assumes nothing.
use Prim.Native.Nat.{ℕ, ◌+◌, ◌*◌, ◌/◌, ◌%◌, ◌≤◌, ◌<◌, ◌^◌}
use native.Mathlib.Nat.{mul-le-mul_left}
use native.Mathlib.Omega.{arith}
use mathlib.Core.Path.{◌≡◌, refl, sym, ap, ap₂, ◌∙◌}
use mathlib.Core.List.{List, [], ◌∷◌, ◌++◌}
use Rattle.spec.specs.declared.PathInterface.{PathInterface}
use Rattle.spec.specs.Octets.{be16, be64}
use Rattle.spec.specs.Book.{isd_asn_at}
use Rattle.path.specs.declared.mark.Keys.{Keys}
use Rattle.path.specs.Marking.{prime, weighed, turned, mark_from, mark_of}
use Rattle.path.specs.Slots.{shown_at, shown_in}
use Rattle.path.proofs.Interfaces.{shown-none, shown-more}

-- a product with a key
pub product-most : (x key : ℕ) → key < 2 ^ 32 → x * key ≤ x * 4294967295
product-most x key h = mul-le-mul_left {m = key} {n = 4294967295} x (omega arith)

pub marks-fit : (x y : ℕ) → x < prime → y < prime → x * y < 2 ^ 64
marks-fit x y p q = omega (arith, product-most x y (omega arith))

-- ---- the parts of an interface, added up

small : (x : ℕ) → x < 65536 → {r : ℕ} → r ≤ x * 4294967295 → r < 2 ^ 48
small x h q = omega arith

half : (x : ℕ) → x < 16777216 → {r : ℕ} → r ≤ x * 4294967295 → r < 2 ^ 56
half x h q = omega arith

add2 : {i h : ℕ} → i < 2 ^ 48 → h < 2 ^ 56 → i + h < 2 ^ 64
add2 p q = omega arith

add3 : {i h l : ℕ} → i < 2 ^ 48 → h < 2 ^ 56 → l < 2 ^ 56 → i + h + l < 2 ^ 64
add3 p q r = omega arith

add4 : {i h l n : ℕ} → i < 2 ^ 48 → h < 2 ^ 56 → l < 2 ^ 56 → n < 2 ^ 48 → i + h + l + n < 2 ^ 64
add4 p q r s = omega arith

module _ (local : ℕ) (fits : local < 2 ^ 64) {i h : ℕ} (bi : i ≤ local / 281474976710656 * 4294967295) (bh : h ≤ local / 16777216 % 16777216 * 4294967295) where
  isd-most : i < 2 ^ 48
  isd-most = small (local / 281474976710656) (omega (arith, fits)) bi

  high-most : h < 2 ^ 56
  high-most = half (local / 16777216 % 16777216) (omega arith) bh

  pub two-fit : i + h < 2 ^ 64
  two-fit = add2 isd-most high-most

  module _ {l : ℕ} (bl : l ≤ local % 16777216 * 4294967295) where
    low-most : l < 2 ^ 56
    low-most = half (local % 16777216) (omega arith) bl

    pub three-fit : i + h + l < 2 ^ 64
    three-fit = add3 isd-most high-most low-most

    pub four-fit : {w n : ℕ} → w < 65536 → n ≤ w * 4294967295 → i + h + l + n < 2 ^ 64
    four-fit {w = w} bw bn = add4 isd-most high-most low-most (small w bw bn)

pub weighed-is : (keys : Keys) (local id : ℕ) {i h l w n : ℕ} → i ≡ local / 281474976710656 * keys.isd → h ≡ local / 16777216 % 16777216 * keys.high
    → l ≡ local % 16777216 * keys.low → w ≡ id → n ≡ w * keys.id → i + h + l + n ≡ weighed keys local id
unfolding weighed
weighed-is keys local id qi qh ql qw qn = ap₂ ◌+◌ (ap₂ ◌+◌ (ap₂ ◌+◌ qi qh) ql) (qn ∙ ap (λ x. x * keys.id) qw)

pub turned-is : (keys : Keys) (mark : ℕ) (a i : List ℕ) (k : ℕ) {local id x w : ℕ} → local ≡ be64 a (8 * k) → id ≡ be16 i (2 * k)
    → x ≡ mark * keys.turn → w ≡ weighed keys local id → (x + w % prime) % prime ≡ turned keys mark (shown_at a i k)
unfolding turned shown_at isd_asn_at
turned-is keys mark a i k ql qi qx qw = ap₂ (λ x w. (x + w % prime) % prime) qx (qw ∙ ap₂ (weighed keys) ql qi)

-- ---- one interface more

mark-last : (keys : Keys) (mark : ℕ) (is : List PathInterface) (i : PathInterface)
    → mark_from keys mark (is ++ (i ∷ [])) ≡ turned keys (mark_from keys mark is) i
unfolding mark_from
mark-last keys mark [] i = refl
mark-last keys mark (j ∷ is) i = mark-last keys (turned keys mark j) is i

pub mark-none : (keys : Keys) (a i : List ℕ) → 0 ≡ mark_from keys 0 (shown_in a i 0)
unfolding mark_from
mark-none keys a i = sym (ap (mark_from keys 0) (shown-none a i))

pub mark-more : (keys : Keys) (a i : List ℕ) (k : ℕ) {mark next : ℕ} → mark ≡ mark_from keys 0 (shown_in a i k) → next ≡ turned keys mark (shown_at a i k)
    → next ≡ mark_from keys 0 (shown_in a i (k + 1))
mark-more keys a i k q e =
    e ∙ ap (λ m. turned keys m (shown_at a i k)) q ∙ sym (ap (mark_from keys 0) (shown-more a i k) ∙ mark-last keys 0 (shown_in a i k) (shown_at a i k))

pub mark-all : (keys : Keys) (a i : List ℕ) (k n : ℕ) → k ≤ n → n ≤ k → {mark : ℕ} → mark ≡ mark_from keys 0 (shown_in a i k)
    → mark ≡ mark_of keys (shown_in a i n)
unfolding mark_of
mark-all keys a i k n h l q = let e : k ≡ n = omega arith in q ∙ ap (λ m. mark_from keys 0 (shown_in a i m)) e

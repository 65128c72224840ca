-- Bytes of infos and hops, of a record and on the wire, as runs of the bytes that they were read from.
-- Assumes nothing.
use Prim.Native.Nat.{ℕ, zero, suc, ◌+◌, ◌*◌, ◌/◌, ◌%◌, ◌≤◌, ◌<◌}
use native.Mathlib.Nat.{add_assoc, mul-suc, mul-zero}
use native.Mathlib.Numerals.{add-one}
use native.Mathlib.Omega.{arith}
use mathlib.Core.Path.{◌≡◌, refl, sym, ap, ap₂, ◌∙◌}
use mathlib.Core.List.{List, ◌∷◌, ◌++◌, flat_map}
use lib.ListN.{length, get_or, take, drop}
use lib.Seq.{drop-drop, take-add}
use lib.Dec.{eqb}
use Rattle.spec.specs.Limits.{info_size, hop_size, wire_info_size, wire_hop_size}
use Rattle.spec.specs.Basics.{range}
use Rattle.spec.specs.Octets.{Bytes, be16, be32, octets2, octets4}
use Rattle.spec.specs.Book.{mac_at}
use Rattle.spec.specs.Records.{bit, info_octets, hop_octets}
use Rattle.spec.specs.Router.{info_at, hop_at}
use Rattle.spec.specs.Wire.{segment_length, wire_info_offset, wire_info, wire_info_octets, wire_hop_at, wire_hop_octets}
use Rattle.spec.proofs.OctetLaws.{byte-first, bytes-split, mac-bytes, be16-bytes, be16s-bytes, be32-bytes}

pub flags_of : (x : ℕ) → x ≤ 3 → bit (eqb (x % 2) 1) + 2 * bit (eqb (x / 2 % 2) 1) ≡ x
unfolding bit
flags_of zero h = refl
flags_of (suc zero) h = refl
flags_of (suc (suc zero)) h = refl
flags_of (suc (suc (suc zero))) h = refl
flags_of (suc (suc (suc (suc x)))) h = absurd (omega arith)

-- a hop on the wire is one of a record after its flags
pub wire-hop : (b : List ℕ) (at : ℕ) → wire_hop_at b at ≡ hop_at b (at + 1)
unfolding wire_hop_at hop_at mac_at
wire-hop b at = simp add_assoc

module _ (b : List ℕ) (bytes : Bytes b) where
  -- id and timestamp of the info at an offset
  info-rest : (at : ℕ) → at + info_size ≤ length b → octets2 (be16 b (at + 2)) ++ octets4 (be32 b (at + 4)) ≡ take 6 (drop (at + 2) b)
  info-rest at h =
      ap (λ n. octets2 (be16 b (at + 2)) ++ octets4 (be32 b n)) (sym (add_assoc at 2 2))
      ∙ sym (bytes-split b 2 4 (at + 2) ∙ ap₂ (λ x y. x ++ y) (be16-bytes b bytes (at + 2) (omega arith)) (be32-bytes b bytes (at + 2 + 2) (omega arith)))

  hop-bytes : (at : ℕ) → at + hop_size ≤ length b → hop_octets (hop_at b at) ≡ take hop_size (drop at b)
  unfolding hop_octets hop_at octets2
  hop-bytes at h =
      sym
      (byte-first b 10 at (omega arith)
      ∙ ap (λ l. get_or b at 0 ∷ l)
      (bytes-split b 4 6 (at + 1)
      ∙ ap₂ (λ x y. x ++ y) (be16s-bytes b bytes (at + 1) (omega arith)) (mac-bytes b (at + 1 + 4) (omega arith))
      ∙ simp add_assoc))

  -- a record's info on the wire, and the wire's in a record
  pub info-on-wire : (at : ℕ) → get_or b at 0 ≤ 3 → at + info_size ≤ length b → wire_info_octets (info_at b at) ≡ get_or b at 0 ∷ 0 ∷ take 6 (drop (at + 2) b)
  unfolding wire_info_octets info_at
  info-on-wire at f h = ap₂ (λ x l. x ∷ 0 ∷ l) (flags_of (get_or b at 0) f) (info-rest at h)

  module _ (k : ℕ) (f : get_or b (wire_info_offset k) 0 ≤ 3) (h : wire_info_offset k + wire_info_size ≤ length b) where
    pub info-in-record : info_octets (wire_info b k) ≡ get_or b (wire_info_offset k) 0 ∷ segment_length b k ∷ take 6 (drop (wire_info_offset k + 2) b)
    unfolding info_octets wire_info
    info-in-record = ap₂ (λ x l. x ∷ segment_length b k ∷ l) (flags_of (get_or b (wire_info_offset k) 0) f) (info-rest (wire_info_offset k) h)

    -- written again as it was read
    pub info-again : get_or b (wire_info_offset k + 1) 0 ≡ 0 → wire_info_octets (wire_info b k) ≡ take wire_info_size (drop (wire_info_offset k) b)
    unfolding wire_info_octets wire_info
    info-again z =
        ap₂ (λ x l. x ∷ 0 ∷ l) (flags_of (get_or b (wire_info_offset k) 0) f) (info-rest (wire_info_offset k) h)
        ∙ ap (λ x. get_or b (wire_info_offset k) 0 ∷ x ∷ take 6 (drop (wire_info_offset k + 2) b)) (sym z)
        ∙ ap (λ n. get_or b (wire_info_offset k) 0 ∷ get_or b (wire_info_offset k + 1) 0 ∷ take 6 (drop n b)) (sym (add_assoc (wire_info_offset k) 1 1))
        ∙ ap (λ l. get_or b (wire_info_offset k) 0 ∷ l) (sym (byte-first b 6 (wire_info_offset k + 1) (omega arith)))
        ∙ sym (byte-first b 7 (wire_info_offset k) (omega arith))

  pub hop-on-wire : (at : ℕ) → at + hop_size ≤ length b → wire_hop_octets (hop_at b at) ≡ 0 ∷ take hop_size (drop at b)
  unfolding wire_hop_octets
  hop-on-wire at h = unfold hop_octets in ap (λ l. 0 ∷ l) (hop-bytes at h)

  pub hop-in-record : (at : ℕ) → at + wire_hop_size ≤ length b → hop_octets (wire_hop_at b at) ≡ take hop_size (drop (at + 1) b)
  hop-in-record at h = ap hop_octets (wire-hop b at) ∙ hop-bytes (at + 1) (omega arith)

  pub hop-again : (at : ℕ) → at + wire_hop_size ≤ length b → get_or b at 0 ≡ 0 → wire_hop_octets (wire_hop_at b at) ≡ take wire_hop_size (drop at b)
  hop-again at h z =
      ap wire_hop_octets (wire-hop b at) ∙ hop-on-wire (at + 1) (omega arith) ∙ ap (λ x. x ∷ take hop_size (drop (at + 1) b)) (sym z)
      ∙ sym (byte-first b 11 at (omega arith))

-- ---- runs one after the other

pub runs : (f : ℕ → List ℕ) (b : List ℕ) (base size i n : ℕ) → ((k : ℕ) → k < i + n → f k ≡ take size (drop (base + size * k) b))
    → flat_map f (range i n) ≡ take (size * n) (drop (base + size * i) b)
unfolding range flat_map
runs f b base size i zero h = ap (λ m. take m (drop (base + size * i) b)) (sym (mul-zero size))
runs f b base size i (suc n) h =
    let e : base + size * (i + 1) ≡ (base + size * i) + size = rw add-one (omega (arith, mul-suc size i)) in
    let g : size * suc n ≡ size + size * n = omega (arith, mul-suc size n) in
    ap₂ (λ l m. l ++ m) (h i (omega arith))
    (runs f b base size (i + 1) n (λ k l. h k (omega arith)) ∙ ap (λ m. take (size * n) (drop m b)) e ∙ ap (take (size * n)) (sym (drop-drop size (base + size * i) b)))
    ∙ sym (take-add size (size * n) (drop (base + size * i) b)) ∙ ap (λ m. take m (drop (base + size * i) b)) (sym g)

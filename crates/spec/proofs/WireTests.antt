-- What the writer and the reader accept, as facts about numbers.
-- Assumes nothing.
use Rattle.std.proofs.lemmas.Bool.{or_parts, or_from}
use Prim.Native.Nat.{ℕ, zero, suc, ◌+◌, ◌*◌, ◌/◌, ◌%◌, ◌^◌, ◌≤◌, ◌<◌}
use native.Mathlib.Decide.{dec_le}
use native.Mathlib.Omega.{arith}
use mathlib.Core.Path.{◌≡◌, refl, sym, ap, ◌∙◌}
use mathlib.Core.Bool.{Bool, true, false, ◌&&◌, ◌||◌, not}
use mathlib.Core.List.{List, map}
use lib.ListN.{length, get_or}
use lib.Dec.{eqb, ltb}
use borrow.Author.Tests.{ltb-false, le-ltb, eqb-true, eqb-false, eq-eqb, ne_eqb, not-false}
use Rattle.spec.specs.Limits.{max_edges, max_entries, path_head_size, info_size}
use Rattle.spec.specs.Basics.{any, range, sum}
use Rattle.spec.specs.Octets.{be32}
use Rattle.spec.specs.Records.{path_head_in}
use Rattle.spec.specs.Router.{infos_in}
use Rattle.spec.specs.Wire.{current_info, current_hop, meta_reserved, segment_length, wire_info_count, wire_hop_count, hops_of_info, wire_info_offset, wire_hop_offset, is_wrong_info, record_needs, writer_refuses, wrong_lengths, uses_reserved, is_flagged, reader_refuses}

-- ---- tests

pub or-false : {s t : Bool} → (s || t) ≡ false → (s ≡ false) × (t ≡ false)
or-false {s} {t} q = or_parts s t q

pub false-or : {s t : Bool} → s ≡ false → t ≡ false → (s || t) ≡ false
false-or {s} {t} p q = or_from s t p q

-- a test that fails where the facts hold, and only there
pub fails : {A : Type 0} (t : Bool) → (t ≡ false → A) → (A → ⊥) → t ≡ true
fails true f n = refl
fails false f n = absurd (n (f refl))

pub eq-not : (x y : ℕ) → x ≡ y → not (eqb x y) ≡ false
eq-not x y q = ap not (eq-eqb x y q)

pub some-eqb : (x : ℕ) → 0 < x → eqb x 0 ≡ false
some-eqb x h = ne_eqb x 0 (λ e. omega arith)

pub eqb-some : (x : ℕ) → eqb x 0 ≡ false → 0 < x
eqb-some x q = let n : x ≡ 0 → ⊥ = eqb-false x 0 q in omega arith

not-eq : (x y : ℕ) → not (eqb x y) ≡ false → x ≡ y
not-eq x y q = eqb-true x y (not-false (eqb x y) q)

module _ (p : ℕ → Bool) where
  none_of : (i n : ℕ) → any p (range i n) ≡ false → (k : ℕ) → i ≤ k → k < i + n → p k ≡ false
  unfolding any range
  none_of i zero q k l h = absurd (omega arith)
  none_of i (suc n) q k l h = go (none_of (i + 1) n (or-false {s = p i} q).1 k) (dec_le (i + 1) k)
    where
      go : (i + 1 ≤ k → k < (i + 1) + n → p k ≡ false) → Dec (i + 1 ≤ k) → p k ≡ false
      go ih (yes m) = ih m (omega arith)
      go ih (no m) = let e : k ≡ i = omega arith in ap p e ∙ (or-false {s = p i} {t = any p (range (i + 1) n)} q).0

  pub none_below : (n : ℕ) → any p (range 0 n) ≡ false → (k : ℕ) → k < n → p k ≡ false
  none_below n q k h = none_of 0 n q k (omega arith) (omega arith)

  pub of_none : (i n : ℕ) → ((k : ℕ) → k < i + n → p k ≡ false) → any p (range i n) ≡ false
  unfolding any range
  of_none i zero h = refl
  of_none i (suc n) h = false-or (h i (omega arith)) (of_none (i + 1) n (λ k l. h k (omega arith)))

none3 : {x y z : Bool} → (x || (y || z)) ≡ false → (x ≡ false) × (y ≡ false) × (z ≡ false)
none3 {x} {y} {z} q =
    let p = or-false {s = x} {t = y || z} q in
    let r = or-false {s = y} {t = z} p.1 in
    (p.0, r.0, r.1)

-- ---- the writer

module _ (r : List ℕ) where
  abbrev info_start : ℕ → ℕ
  info_start k = path_head_size + info_size * k

  pub record Writable : Type 0 where
    pub some : 0 < (path_head_in r).infos
    pub few : (path_head_in r).infos ≤ max_edges
    pub room : record_needs r ≤ length r
    pub flags : (k : ℕ) → k < (path_head_in r).infos → get_or r (info_start k) 0 ≤ 3
    pub low : (k : ℕ) → k < (path_head_in r).infos → 0 < get_or r (info_start k + 1) 0
    pub high : (k : ℕ) → k < (path_head_in r).infos → get_or r (info_start k + 1) 0 ≤ max_entries
    pub total : sum (map hops_of_info (infos_in r)) ≡ (path_head_in r).hops

  pub writable : writer_refuses r ≡ false → Writable
  unfolding writer_refuses is_wrong_info
  writable q =
      let a = or-false q in
      let b = or-false a.1 in
      let c = or-false b.1 in
      let d = or-false c.1 in
      let even : (k : ℕ) → k < (path_head_in r).infos → (ltb 3 (get_or r (info_start k) 0) ≡ false) × (eqb (get_or r (info_start k + 1) 0) 0 ≡ false) × (ltb max_entries (get_or r (info_start k + 1) 0) ≡ false) =
      λ k h. none3 (none_below (is_wrong_info r) (path_head_in r).infos d.0 k h) in
      record {
        some = eqb-some _ a.0;
        few = ltb-false _ _ b.0;
        room = ltb-false _ _ c.0;
        flags = λ k h. ltb-false _ _ (even k h).0;
        low = λ k h. eqb-some _ (even k h).1;
        high = λ k h. ltb-false _ _ (even k h).2;
        total = not-eq _ _ d.1;
      }

  pub writes : Writable → writer_refuses r ≡ false
  unfolding writer_refuses is_wrong_info
  writes w =
      false-or (some-eqb _ w.some)
      (false-or (le-ltb _ _ w.few)
      (false-or (le-ltb _ _ w.room)
      (false-or
      (of_none (is_wrong_info r) 0 (path_head_in r).infos
      (λ k h.
      let l : k < (path_head_in r).infos = omega arith in
      false-or (le-ltb _ _ (w.flags k l)) (false-or (some-eqb _ (w.low k l)) (le-ltb _ _ (w.high k l)))))
      (eq-not _ _ w.total))))

-- ---- the reader

module _ (w : List ℕ) where
  pub record Readable : Type 0 where
    -- both indexes and what is reserved
    pub meta : be32 w 0 < 2 ^ 18
    pub first : 0 < segment_length w 0
    pub most : (segment_length w 0 ≤ max_entries) × (segment_length w 1 ≤ max_entries) × (segment_length w 2 ≤ max_entries)
    pub order : segment_length w 1 ≡ 0 → segment_length w 2 ≡ 0
    pub size : length w ≡ wire_hop_offset w (wire_hop_count w)
    pub flags : (k : ℕ) → k < wire_info_count w → get_or w (wire_info_offset k) 0 ≤ 3
    pub spare : (k : ℕ) → k < wire_info_count w → get_or w (wire_info_offset k + 1) 0 ≡ 0
    pub plain : (k : ℕ) → k < wire_hop_count w → get_or w (wire_hop_offset w k) 0 ≡ 0

  gap : (b c : ℕ) → (eqb b 0 && not (eqb c 0)) ≡ false → b ≡ 0 → c ≡ 0
  gap b c q z = not-eq c 0 (sym (ap (λ t. t && not (eqb c 0)) (eq-eqb b 0 z)) ∙ q)

  no_gap : (b c : ℕ) → (b ≡ 0 → c ≡ 0) → (eqb b 0 && not (eqb c 0)) ≡ false
  no_gap b c h = go (eqb b 0) refl
    where
      go : (t : Bool) → eqb b 0 ≡ t → (t && not (eqb c 0)) ≡ false
      go true q = eq-not c 0 (h (eqb-true b 0 q))
      go false q = refl

  six : (x : ℕ) → x < 2 ^ 6 → x % 2 ^ 6 ≡ 0 → x ≡ 0
  six x h q = omega arith

  low : (x : ℕ) → x / 2 ^ 30 ≡ 0 → x / 2 ^ 24 % 2 ^ 6 ≡ 0 → x / 2 ^ 18 % 2 ^ 6 ≡ 0 → x < 2 ^ 18
  low x p q r =
      let a : x < 2 ^ 30 = omega arith in
      let b : x / 2 ^ 24 < 2 ^ 6 = omega arith in
      let c : x / 2 ^ 24 ≡ 0 = six (x / 2 ^ 24) b q in
      let d : x < 2 ^ 24 = omega arith in
      let e : x / 2 ^ 18 < 2 ^ 6 = omega arith in
      let f : x / 2 ^ 18 ≡ 0 = six (x / 2 ^ 18) e r in
      omega arith

  pub readable : reader_refuses w ≡ false → Readable
  unfolding reader_refuses wrong_lengths uses_reserved is_flagged current_info current_hop meta_reserved
  readable q =
      let a = or-false q in
      let b = or-false a.1 in
      let c = or-false b.1 in
      let d = or-false c.1 in
      let e = or-false d.1 in
      let f = or-false e.1 in
      let l = or-false d.0 in
      let m = or-false l.1 in
      let n = or-false m.1 in
      let o = or-false n.1 in
      let even : (k : ℕ) → k < wire_info_count w → (ltb 3 (get_or w (wire_info_offset k) 0) ≡ false) × (not (eqb (get_or w (wire_info_offset k + 1) 0) 0) ≡ false) =
      λ k h. or-false (none_below (uses_reserved w) (wire_info_count w) f.0 k h) in
      record {
        meta = low (be32 w 0) (not-eq _ _ a.0) (not-eq _ _ b.0) (not-eq _ _ c.0);
        first = eqb-some _ l.0;
        most = (ltb-false _ _ m.0, ltb-false _ _ n.0, ltb-false _ _ o.0);
        order = gap _ _ o.1;
        size = not-eq _ _ e.0;
        flags = λ k h. ltb-false _ _ (even k h).0;
        spare = λ k h. not-eq _ _ (even k h).1;
        plain = λ k h. not-eq _ _ (none_below (is_flagged w) (wire_hop_count w) f.1 k h);
      }

  pub reads : Readable → reader_refuses w ≡ false
  unfolding reader_refuses wrong_lengths uses_reserved is_flagged current_info current_hop meta_reserved
  reads f =
      let x : ℕ = be32 w 0 in
      false-or (eq-not (x / 2 ^ 30) 0 (omega (arith, f.meta)))
      (false-or (eq-not (x / 2 ^ 24 % 2 ^ 6) 0 (omega (arith, f.meta)))
      (false-or (eq-not (x / 2 ^ 18 % 2 ^ 6) 0 (omega (arith, f.meta)))
      (false-or
      (false-or (some-eqb _ f.first)
      (false-or (le-ltb _ _ f.most.0) (false-or (le-ltb _ _ f.most.1) (false-or (le-ltb _ _ f.most.2) (no_gap _ _ f.order)))))
      (false-or (eq-not _ _ f.size)
      (false-or
      (of_none (uses_reserved w) 0 (wire_info_count w)
      (λ k h.
      let l : k < wire_info_count w = omega arith in
      false-or (le-ltb _ _ (f.flags k l)) (eq-not _ _ (f.spare k l))))
      (of_none (is_flagged w) 0 (wire_hop_count w) (λ k h. eq-not _ _ (f.plain k (omega arith)))))))))

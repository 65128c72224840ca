-- The tests of writer and reader, in the order of the code.
-- Assumes nothing.
use Rattle.std.proofs.lemmas.List.{map-append}
use Prim.Native.Nat.{ℕ, suc, ◌+◌, ◌-◌, ◌*◌, ◌/◌, ◌%◌, ◌^◌, ◌≤◌, ◌<◌}
use native.Mathlib.Nat.{zero-add}
use native.Mathlib.Decide.{dec_le}
use native.Mathlib.Numerals.{add-one}
use native.Mathlib.Omega.{arith}
use mathlib.Core.Path.{◌≡◌, refl, sym, ap, ap₂, ◌∙◌}
use mathlib.Core.Bool.{Bool, true, false, ◌&&◌, ◌||◌, not}
use mathlib.Core.List.{List, [], ◌∷◌, ◌++◌, map}
use lib.ListN.{length, get_or}
use lib.Dec.{eqb, ltb}
use borrow.Author.Tests.{lt-ltb, le-ltb, eq-eqb, ne_eqb}
use Rattle.spec.specs.Limits.{max_edges, max_entries, path_head_size, info_size, hop_size, interface_size, meta_size, wire_info_size, wire_hop_size}
use Rattle.std.specs.Prelude.{if◌then◌else◌}
use Rattle.spec.specs.Basics.{any, range, sum}
use Rattle.spec.specs.Octets.{be32}
use Rattle.spec.specs.Records.{path_head_in}
use Rattle.spec.specs.Router.{info_at, record_info, infos_in}
use Rattle.spec.specs.Wire.{current_info, current_hop, meta_reserved, segment_length, wire_info_count, wire_hop_count, hops_of_info, wire_info_offset, wire_hop_offset, is_wrong_info, record_needs, writer_refuses, wrong_lengths, uses_reserved, is_flagged, reader_refuses}
use Rattle.spec.proofs.Membership.{not-both}
use Rattle.spec.proofs.Lists.{range-suc}
use Rattle.spec.proofs.WireTests.{eq-not, fails, none_below, of_none, writable, readable}

-- ---- tests one after the other

pub this : (t : Bool) {s : Bool} → s ≡ true → true ≡ (s || t)
this t {s} q = sym (ap (λ x. x || t) q)

pub later : {r s t : Bool} → s ≡ false → r ≡ t → r ≡ (s || t)
later {r} {s} {t} q e = e ∙ sym (ap (λ x. x || t) q)

unequal : (x y : ℕ) → (x ≡ y → ⊥) → not (eqb x y) ≡ true
unequal x y h = ap not (ne_eqb x y h)

pub gap_of : (b c : ℕ) → b ≡ 0 → not (eqb c 0) ≡ (eqb b 0 && not (eqb c 0))
gap_of b c h = sym (ap (λ t. t && not (eqb c 0)) (eq-eqb b 0 h))

pub no-gap-of : (b c : ℕ) → (b ≡ 0 → ⊥) → false ≡ (eqb b 0 && not (eqb c 0))
no-gap-of b c h = sym (ap (λ t. t && not (eqb c 0)) (ne_eqb b 0 h))

-- a loop that looks for one of which a test holds
module _ (p : ℕ → Bool) (n : ℕ) where
  abbrev pub None : ℕ → Type 0
  None k = (j : ℕ) → j < k → p j ≡ false

  pub none_first : None 0
  none_first j h = absurd (omega arith)

  pub none-next : (k : ℕ) → None k → p k ≡ false → None (k + 1)
  none-next k h q j l = go (dec_le k j)
    where
      go : Dec (k ≤ j) → p j ≡ false
      go (yes m) = let e : j ≡ k = omega arith in ap p e ∙ q
      go (no m) = h j (omega arith)

  pub found : (k : ℕ) → k < n → p k ≡ true → true ≡ any p (range 0 n)
  found k h q = sym (fails (any p (range 0 n)) (λ e. none_below p n e k h) (λ f. not-both q f))

  pub none_last : (k : ℕ) → n ≤ k → None k → false ≡ any p (range 0 n)
  none_last k h f = sym (of_none p 0 n (λ j l. f j (omega arith)))

-- ---- an info of a record

module _ (r : List ℕ) (k : ℕ) where
  abbrev flags : ℕ
  flags = get_or r (path_head_size + info_size * k) 0

  abbrev hops : ℕ
  hops = get_or r (path_head_size + info_size * k + 1) 0

  pub wrong-flags : 3 < flags → true ≡ is_wrong_info r k
  unfolding is_wrong_info
  wrong-flags h = this _ (lt-ltb 3 flags h)

  pub wrong-none : (n : ℕ) → flags ≤ 3 → n ≡ hops → n ≡ 0 → true ≡ is_wrong_info r k
  unfolding is_wrong_info
  wrong-none n l e z = later (le-ltb 3 flags l) (this _ (eq-eqb hops 0 (sym e ∙ z)))

  pub wrong-many : (n : ℕ) → flags ≤ 3 → n ≡ hops → (n ≡ 0 → ⊥) → ltb max_entries n ≡ is_wrong_info r k
  unfolding is_wrong_info
  wrong-many n l e h = later (le-ltb 3 flags l) (later (ne_eqb hops 0 (λ z. h (e ∙ z))) (ap (ltb max_entries) e))

-- ---- a record

module _ (r : List ℕ) where
  -- the first k infos are not wrong, and have so many hops
  pub record Passed (k total : ℕ) : Type 0 where
    pub even : None (is_wrong_info r) k k
    pub sum : total ≡ sum (map hops_of_info (map (record_info r) (range 0 k)))
    pub most : total ≤ 256 * k

  pub passed_none : Passed 0 0
  unfolding sum range
  passed_none = record { even = none_first (is_wrong_info r) 0; sum = refl; most = omega arith }

  sum-append : (xs ys : List ℕ) → sum (xs ++ ys) ≡ sum xs + sum ys
  unfolding sum
  sum-append [] ys = omega arith
  sum-append (x ∷ xs) ys = omega (arith, sum-append xs ys)

  sum-next : (k : ℕ) → sum (map hops_of_info (map (record_info r) (range 0 (suc k)))) ≡ sum (map hops_of_info (map (record_info r) (range 0 k))) + get_or r (path_head_size + info_size * k + 1) 0
  unfolding sum hops_of_info record_info info_at
  sum-next k =
      ap (λ l. sum (map hops_of_info (map (record_info r) l))) (range-suc 0 k)
      ∙ ap (λ l. sum (map hops_of_info l)) (map-append (record_info r) (range 0 k) ((0 + k) ∷ []))
      ∙ ap sum (map-append hops_of_info (map (record_info r) (range 0 k)) (map (record_info r) ((0 + k) ∷ [])))
      ∙ sum-append (map hops_of_info (map (record_info r) (range 0 k))) (map hops_of_info (map (record_info r) ((0 + k) ∷ [])))
      ∙ omega (arith, ap (λ j. get_or r (path_head_size + info_size * j + 1) 0) (zero-add k))

  pub passed-more : (k total n : ℕ) → Passed k total → is_wrong_info r k ≡ false → n ≡ get_or r (path_head_size + info_size * k + 1) 0 → n < 256 → Passed (k + 1) (total + n)
  passed-more k total n p q e h =
      record {
        even = none-next (is_wrong_info r) k k p.even q;
        sum = ap₂ (λ a b. a + b) p.sum e ∙ sym (sum-next k) ∙ ap (λ j. sum (map hops_of_info (map (record_info r) (range 0 j)))) (sym (add-one k));
        most = omega (arith, p.most);
      }

  abbrev infos : ℕ
  infos = get_or r 0 0

  abbrev needs : ℕ
  needs = path_head_size + info_size * infos + hop_size * get_or r 1 0 + interface_size * get_or r 2 0

  pub no-head : length r < path_head_size → true ≡ writer_refuses r
  unfolding record_needs path_head_in
  no-head h = sym (fails (writer_refuses r) (writable r) (λ w. omega (arith, w.room)))

  pub no-info : (n : ℕ) → n ≡ infos → n ≡ 0 → true ≡ writer_refuses r
  unfolding path_head_in
  no-info n e z = sym (fails (writer_refuses r) (writable r) (λ w. omega (arith, w.some)))

  pub many-infos : (n : ℕ) → n ≡ infos → max_edges < n → true ≡ writer_refuses r
  unfolding path_head_in
  many-infos n e h = sym (fails (writer_refuses r) (writable r) (λ w. omega (arith, w.few)))

  module _ (n m i : ℕ) (e : n ≡ infos) (f : m ≡ get_or r 1 0) (g : i ≡ get_or r 2 0) where
    pub no_room : length r < path_head_size + info_size * n + hop_size * m + interface_size * i → true ≡ writer_refuses r
    unfolding record_needs path_head_in
    no_room h = sym (fails (writer_refuses r) (writable r) (λ w. omega (arith, w.room)))

    -- the tests up to the infos
    module _ (some : n ≡ 0 → ⊥) (few : n ≤ max_edges) (room : path_head_size + info_size * n + hop_size * m + interface_size * i ≤ length r) where
      pub wrong-found : (k : ℕ) → k < n → is_wrong_info r k ≡ true → true ≡ writer_refuses r
      unfolding writer_refuses record_needs path_head_in
      wrong-found k h q =
          later (ne_eqb infos 0 (λ z. some (e ∙ z)))
          (later (le-ltb max_edges infos (omega arith))
          (later (le-ltb (length r) needs (omega arith)) (this _ (sym (found (is_wrong_info r) infos k (omega arith) q)))))

      pub wrong-sum : (k total : ℕ) → n ≤ k → k ≤ n → Passed k total → not (eqb total m) ≡ writer_refuses r
      unfolding writer_refuses record_needs path_head_in infos_in
      wrong-sum k total h l p =
          let z : k ≡ infos = omega arith in
          later (ne_eqb infos 0 (λ z. some (e ∙ z)))
          (later (le-ltb max_edges infos (omega arith))
          (later (le-ltb (length r) needs (omega arith))
          (later (sym (none_last (is_wrong_info r) infos k (omega arith) p.even))
          (ap₂ (λ a b. not (eqb a b)) (p.sum ∙ ap (λ j. sum (map hops_of_info (map (record_info r) (range 0 j)))) z) f))))

-- ---- the wire

module _ (w : List ℕ) where
  -- the three lengths, of the meta header as a number
  pub lengths-are : (x : ℕ) → x ≡ be32 w 0
      → ◌≡◌ {A = List ℕ} (x / 4096 % 64 ∷ x / 64 % 64 ∷ x % 64 ∷ []) (segment_length w 0 ∷ segment_length w 1 ∷ segment_length w 2 ∷ [])
  unfolding segment_length
  lengths-are x e =
      let third : x % 64 ≡ be32 w 0 / 2 ^ (6 * (2 - 2)) % 2 ^ 6 = omega arith in
      ap₂ (λ a b. (a / 4096 % 64 ∷ a / 64 % 64 ∷ b ∷ [])) e third

  abbrev pub Three : ℕ → ℕ → ℕ → Type 0
  Three a b c = (a ≡ segment_length w 0) × (b ≡ segment_length w 1) × (c ≡ segment_length w 2)

  -- so that they are few hops
  pub three-few : {a b c : ℕ} → Three a b c → a + b + c < 192
  unfolding segment_length
  three-few t = omega (arith, t.0, t.1, t.2)

  pub three-lengths : (l : List ℕ) → l ≡ segment_length w 0 ∷ segment_length w 1 ∷ segment_length w 2 ∷ [] → Three (get_or l 0 0) (get_or l 1 0) (get_or l 2 0)
  three-lengths l q = (ap (λ m. get_or m 0 0) q, ap (λ m. get_or m 1 0) q, ap (λ m. get_or m 2 0) q)

  pub three-from : (l : List ℕ) → l ≡ segment_length w 0 ∷ segment_length w 1 ∷ segment_length w 2 ∷ [] → {a b c : ℕ}
      → a ≡ get_or l 0 0 → b ≡ get_or l 1 0 → c ≡ get_or l 2 0 → Three a b c
  three-from l q e f g = let t = three-lengths l q in (e ∙ t.0, f ∙ t.1, g ∙ t.2)

  module _ (a b c : ℕ) (p : (a ≡ segment_length w 0) × (b ≡ segment_length w 1) × (c ≡ segment_length w 2)) where
    abbrev counts : Bool → Bool → Bool → ℕ
    counts r s t = if r then 0 else if s then 1 else if t then 2 else 3

    none : (n l : ℕ) → n ≡ l → n ≡ 0 → eqb l 0 ≡ true
    none n l e z = eq-eqb l 0 (sym e ∙ z)

    some : (n l : ℕ) → n ≡ l → (n ≡ 0 → ⊥) → eqb l 0 ≡ false
    some n l e y = ne_eqb l 0 (λ z. y (e ∙ z))

    pub count_none : a ≡ 0 → 0 ≡ wire_info_count w
    unfolding wire_info_count
    count_none x = sym (ap (λ r. counts r (eqb (segment_length w 1) 0) (eqb (segment_length w 2) 0)) (none a (segment_length w 0) p.0 x))

    module _ (x : a ≡ 0 → ⊥) where
      first : wire_info_count w ≡ counts false (eqb (segment_length w 1) 0) (eqb (segment_length w 2) 0)
      unfolding wire_info_count
      first = ap (λ r. counts r (eqb (segment_length w 1) 0) (eqb (segment_length w 2) 0)) (some a (segment_length w 0) p.0 x)

      pub count-one : b ≡ 0 → 1 ≡ wire_info_count w
      count-one y = sym (first ∙ ap (λ s. counts false s (eqb (segment_length w 2) 0)) (none b (segment_length w 1) p.1 y))

      pub count-two : (b ≡ 0 → ⊥) → c ≡ 0 → 2 ≡ wire_info_count w
      count-two y z = sym (first ∙ ap₂ (counts false) (some b (segment_length w 1) p.1 y) (none c (segment_length w 2) p.2 z))

      pub count-three : (b ≡ 0 → ⊥) → (c ≡ 0 → ⊥) → 3 ≡ wire_info_count w
      count-three y z = sym (first ∙ ap₂ (counts false) (some b (segment_length w 1) p.1 y) (some c (segment_length w 2) p.2 z))

  pub reserved-flags : (k : ℕ) → 3 < get_or w (meta_size + wire_info_size * k) 0 → true ≡ uses_reserved w k
  unfolding uses_reserved wire_info_offset
  reserved-flags k h = this _ (lt-ltb 3 (get_or w (meta_size + wire_info_size * k) 0) h)

  pub reserved-byte : (k : ℕ) → get_or w (meta_size + wire_info_size * k) 0 ≤ 3 → not (eqb (get_or w (meta_size + wire_info_size * k + 1) 0) 0) ≡ uses_reserved w k
  unfolding uses_reserved wire_info_offset
  reserved-byte k h = later (le-ltb 3 (get_or w (meta_size + wire_info_size * k) 0) h) refl

  pub flagged : (n k : ℕ) → n ≡ wire_info_count w → (get_or w (meta_size + wire_info_size * n + wire_hop_size * k) 0 ≡ 0 → ⊥) → is_flagged w k ≡ true
  unfolding is_flagged wire_hop_offset
  flagged n k e h = ap (λ j. not (eqb (get_or w (meta_size + wire_info_size * j + wire_hop_size * k) 0) 0)) (sym e) ∙ unequal (get_or w (meta_size + wire_info_size * n + wire_hop_size * k) 0) 0 h

  pub unflagged : (n k : ℕ) → n ≡ wire_info_count w → get_or w (meta_size + wire_info_size * n + wire_hop_size * k) 0 ≡ 0 → is_flagged w k ≡ false
  unfolding is_flagged wire_hop_offset
  unflagged n k e h = ap (λ j. not (eqb (get_or w (meta_size + wire_info_size * j + wire_hop_size * k) 0) 0)) (sym e) ∙ eq-not (get_or w (meta_size + wire_info_size * n + wire_hop_size * k) 0) 0 h

  pub over-meta : (x : ℕ) → x ≡ be32 w 0 → 2 ^ 18 ≤ x → true ≡ reader_refuses w
  over-meta x e h = sym (fails (reader_refuses w) (readable w) (λ f. omega (arith, f.meta)))

  module _ (x : ℕ) (q : x ≡ be32 w 0) (low : x < 2 ^ 18) (a b c : ℕ) (p : (a ≡ segment_length w 0) × (b ≡ segment_length w 1) × (c ≡ segment_length w 2)) where
    wrong-as : (t : Bool) → wrong_lengths a b c ≡ t → wrong_lengths (segment_length w 0) (segment_length w 1) (segment_length w 2) ≡ t
    wrong-as t e =
        ap (λ y. wrong_lengths y (segment_length w 1) (segment_length w 2)) (sym p.0)
        ∙ ap₂ (wrong_lengths a) (sym p.1) (sym p.2) ∙ e

    meta-low : be32 w 0 < 2 ^ 18
    meta-low = omega arith

    past-meta : (t : Bool)
        → t ≡ (wrong_lengths (segment_length w 0) (segment_length w 1) (segment_length w 2)
        || (not (eqb (length w) (wire_hop_offset w (wire_hop_count w)))
        || (any (uses_reserved w) (range 0 (wire_info_count w)) || any (is_flagged w) (range 0 (wire_hop_count w)))))
        → t ≡ reader_refuses w
    unfolding reader_refuses current_info current_hop meta_reserved
    past-meta t e =
        let y : ℕ = be32 w 0 in
        let l : y < 2 ^ 18 = meta-low in
        later (eq-not (y / 2 ^ 30) 0 (omega arith)) (later (eq-not (y / 2 ^ 24 % 2 ^ 6) 0 (omega arith)) (later (eq-not (y / 2 ^ 18 % 2 ^ 6) 0 (omega arith)) e))

    pub wrong-refused : wrong_lengths a b c ≡ true → true ≡ reader_refuses w
    wrong-refused o = past-meta true (this _ (wrong-as true o))

    module _ (o : wrong_lengths a b c ≡ false) (n : ℕ) (e : n ≡ wire_info_count w) where
      size-as : wire_hop_offset w (wire_hop_count w) ≡ meta_size + wire_info_size * n + wire_hop_size * (a + b + c)
      unfolding wire_hop_offset wire_hop_count
      size-as = omega (arith, p.0, p.1, p.2)

      hops-as : a + b + c ≡ wire_hop_count w
      unfolding wire_hop_count
      hops-as = omega (arith, p.0, p.1, p.2)

      pub size-refused : (length w ≡ meta_size + wire_info_size * n + wire_hop_size * (a + b + c) → ⊥) → true ≡ reader_refuses w
      size-refused h = past-meta true (later (wrong-as false o) (this _ (unequal (length w) (wire_hop_offset w (wire_hop_count w)) (λ z. h (z ∙ size-as)))))

      module _ (size : length w ≡ meta_size + wire_info_size * n + wire_hop_size * (a + b + c)) where
        past-size : (t : Bool) → t ≡ (any (uses_reserved w) (range 0 (wire_info_count w)) || any (is_flagged w) (range 0 (wire_hop_count w))) → t ≡ reader_refuses w
        past-size t z = past-meta t (later (wrong-as false o) (later (eq-not (length w) (wire_hop_offset w (wire_hop_count w)) (size ∙ sym size-as)) z))

        pub infos-refused : (r : Bool) → r ≡ any (uses_reserved w) (range 0 n) → r ≡ true → true ≡ reader_refuses w
        infos-refused r z t = past-size true (this _ (ap (λ j. any (uses_reserved w) (range 0 j)) (sym e) ∙ sym z ∙ t))

        pub hops-refused : (r s : Bool) → r ≡ any (uses_reserved w) (range 0 n) → r ≡ false → s ≡ any (is_flagged w) (range 0 (a + b + c)) → s ≡ reader_refuses w
        hops-refused r s z t y =
            past-size s (later (ap (λ j. any (uses_reserved w) (range 0 j)) (sym e) ∙ sym z ∙ t) (y ∙ ap (λ j. any (is_flagged w) (range 0 j)) hops-as))

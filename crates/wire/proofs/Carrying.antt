-- The bytes of writer and reader, piece by piece.
-- Assumes nothing.
use Prim.Native.Nat.{ℕ, zero, suc, ◌+◌, ◌*◌, ◌^◌, ◌≤◌, ◌<◌}
use native.Mathlib.Nat.{zero-add, mul_comm}
use native.Mathlib.Numerals.{add-one}
use native.Mathlib.Omega.{arith}
use mathlib.Core.Path.{◌≡◌, refl, sym, ap, ap₂, ◌∙◌}
use mathlib.Core.Bool.{false}
use mathlib.Core.List.{List, [], ◌∷◌, ◌++◌, map, flat_map, append-nil}
use lib.ListN.{length, get_or, take, drop, length-append, length-map, get_or-eq_default}
use Rattle.spec.specs.declared.HopField.{HopField}
use Rattle.spec.specs.declared.InfoField.{InfoField}
use Rattle.spec.specs.declared.Path.{Path}
use Rattle.spec.specs.Limits.{max_edges, max_entries, path_head_size, info_size, hop_size, path_size, meta_size, wire_info_size, wire_hop_size, wire_size}
use Rattle.spec.specs.Basics.{range}
use Rattle.spec.specs.Octets.{Bytes, be16, be32, be64, octets2, octets4}
use Rattle.spec.specs.Book.{mac_at, isd_asn_at}
use Rattle.spec.specs.Records.{info_octets, hop_octets, no_interface, path_head, path_head_octets, path_head_in, path_octets}
use Rattle.spec.specs.Router.{info_at, hop_at, record_info, record_hop, infos_in, hops_in}
use Rattle.spec.specs.Wire.{segment_length, wire_info_count, wire_hop_count, hops_of_info, meta_number, meta_octets, wire_info_offset, wire_info, wire_infos_in, wire_info_octets, wire_hop_at, wire_hop_offset, wire_hop, wire_hops_in, wire_hop_octets, wire_octets, wire_of, plain_path, record_of, record_needs, writer_refuses, reader_refuses}
use Rattle.spec.proofs.Lists.{length-range, range-suc, map-range-first, flat_map-append, flat-map}
use Rattle.spec.proofs.Bounds.{flat-exact}
use Rattle.spec.proofs.PathLaws.{head-length}
use Rattle.spec.proofs.ByteLaws.{info-length}
use Rattle.spec.proofs.WireBytes.{info-on-wire, info-in-record, hop-on-wire, hop-in-record}
use Rattle.spec.proofs.WireTests.{Writable, writable, Readable, readable}
use Rattle.spec.proofs.WireForms.{counted, wire-length, writable-legal, readable-legal}
use Rattle.spec.proofs.WireLaws.{sum-most, wire-fits, plain_fits, plain-length}
use Rattle.output.specs.Write.{written}
use Rattle.output.proofs.Writing.{written-length, written_none, written-pair}

-- ---- copies

-- a write keeps the length
pub kept : (d xs : List ℕ) (at : ℕ) {d' : List ℕ} {n : ℕ} → d' ≡ written d at xs → length d ≡ n → length d' ≡ n
kept d xs at q e = ap length q ∙ written-length d at xs ∙ e

-- a byte, two bytes before others
pub byte_put : (d : List ℕ) (to x : ℕ) (zs d₁ d₂ : List ℕ) → d₁ ≡ written d to (x ∷ []) → d₂ ≡ written d₁ (to + 1) zs → d₂ ≡ written d to (x ∷ zs)
byte_put d to x zs d₁ d₂ p q = q ∙ ap (λ l. written l (to + 1) zs) p ∙ written-pair d to 1 (x ∷ []) zs refl

pub info-put : (d : List ℕ) (to x y : ℕ) (zs d₁ d₂ d₃ : List ℕ) → d₁ ≡ written d to (x ∷ []) → d₂ ≡ written d₁ (to + 1) (y ∷ []) → d₃ ≡ written d₂ (to + 2) zs
    → d₃ ≡ written d to (x ∷ y ∷ zs)
info-put d to x y zs d₁ d₂ d₃ p q e = e ∙ ap (λ l. written l (to + 2) zs) (byte_put d to x (y ∷ []) d₁ d₂ p q) ∙ written-pair d to 2 (x ∷ y ∷ []) zs refl

-- after what stands at the front
next-put : (d : List ℕ) (n : ℕ) (xs ys : List ℕ) → length xs ≡ n → written (written d 0 xs) n ys ≡ written d 0 (xs ++ ys)
next-put d n xs ys e = ap (λ m. written (written d 0 xs) m ys) (sym (zero-add n)) ∙ written-pair d 0 n xs ys e

-- ---- pieces of one size, one after the other

module _ (f : ℕ → List ℕ) where
  -- the first k pieces from an offset on
  unfoldable pub filled : List ℕ → ℕ → ℕ → List ℕ
  filled d at k = written d at (flat_map f (range 0 k))

  pub filled_none : (d : List ℕ) (at : ℕ) → d ≡ filled d at 0
  unfolding filled range flat_map
  filled_none d at = sym (written_none d at)

  pub filled-length : (d : List ℕ) (at k : ℕ) → length (filled d at k) ≡ length d
  unfolding filled
  filled-length d at k = written-length d at (flat_map f (range 0 k))

  module _ (size : ℕ) (long : (j : ℕ) → length (f j) ≡ size) where
    filled_more : (d : List ℕ) (at k : ℕ) (e d' : List ℕ) → e ≡ filled d at k → d' ≡ written e (at + size * k) (f k) → d' ≡ filled d at (k + 1)
    unfolding filled flat_map
    filled_more d at k e d' p q =
        let n : length (flat_map f (range 0 k)) ≡ size * k = omega (arith, flat-exact f size (range 0 k) (λ j m. long j), ap (λ l. l * size) (length-range 0 k), mul_comm k size) in
        q ∙ ap (λ l. written l (at + size * k) (f k)) p ∙ written-pair d at (size * k) (flat_map f (range 0 k)) (f k) n
        ∙ ap (written d at)
        (ap (λ l. flat_map f (range 0 k) ++ l) (sym (append-nil (f k)) ∙ ap (λ j. f j ++ []) (sym (zero-add k)))
        ∙ sym (flat_map-append f (range 0 k) ((0 + k) ∷ [])) ∙ ap (flat_map f) (sym (range-suc 0 k) ∙ ap (range 0) (sym (add-one k))))

filled-all : {A : Type 0} (enc : A → List ℕ) (g : ℕ → A) (d : List ℕ) (at k n : ℕ) → k ≡ n → filled (λ j. enc (g j)) d at k ≡ written d at (flat_map enc (map g (range 0 n)))
unfolding filled
filled-all enc g d at k n e = ap (λ m. written d at (flat_map (λ j. enc (g j)) (range 0 m))) e ∙ ap (written d at) (sym (flat-map g enc (range 0 n)))

-- element k of what is read at each number below n
get_or-range : (f : ℕ → ℕ) (n k : ℕ) → k < n → get_or (map f (range 0 n)) k 0 ≡ f k
get_or-range f zero k h = absurd (omega arith)
get_or-range f (suc n) zero h = unfold range in refl
get_or-range f (suc n) (suc k) h =
    ap (λ l. get_or l (suc k) 0) (map-range-first f n) ∙ get_or-range (λ j. f (j + 1)) n k (omega arith) ∙ ap f (add-one k)

map-map : {A B C : Type 0} (f : A → B) (g : B → C) (xs : List A) → map g (map f xs) ≡ map (λ x. g (f x)) xs
map-map f g [] = refl
map-map f g (x ∷ xs) = ap (λ l. g (f x) ∷ l) (map-map f g xs)

-- a record's head that counts infos and hops alone
abbrev pub plain_head : ℕ → ℕ → Path
plain_head n m = record { infos = n; hops = m; interfaces = 0; mtu = 0; expiry = 0; first = record { 0 = 0 }; last = record { 0 = 0 } }

heads : (is : List InfoField) (hs : List HopField) (n m : ℕ) → length is ≡ n → length hs ≡ m → plain_head n m ≡ path_head (plain_path is hs)
unfolding path_head plain_path no_interface isd_asn_at be64 be32 be16
heads is hs n m i h = ap₂ plain_head (sym i) (sym h)

-- ---- on the wire

module _ (r : List ℕ) where
  abbrev pub info_wire : ℕ → List ℕ
  info_wire j = wire_info_octets (record_info r j)

  abbrev pub hop_wire : ℕ → List ℕ
  hop_wire j = wire_hop_octets (record_hop r j)

  info-wire-length : (j : ℕ) → length (info_wire j) ≡ 8
  unfolding wire_info_octets octets4 octets2
  info-wire-length j = refl

  hop-wire-length : (j : ℕ) → length (hop_wire j) ≡ 12
  unfolding wire_hop_octets record_hop hop_at mac_at octets2
  hop-wire-length j = refl

  module _ (bytes : Bytes r) (ok : writer_refuses r ≡ false) where
    taken : Writable r
    taken = writable r ok

    infos-count : length (infos_in r) ≡ get_or r 0 0
    unfolding infos_in path_head_in
    infos-count = length-map (range 0 (get_or r 0 0)) (record_info r) ∙ length-range 0 (get_or r 0 0)

    hops-count : length (hops_in r) ≡ get_or r 1 0
    unfolding hops_in path_head_in
    hops-count = length-map (range 0 (get_or r 1 0)) (record_hop r) ∙ length-range 0 (get_or r 1 0)

    -- a record that is taken has the bytes of its infos and hops
    pub record-room : (path_head_size + info_size * get_or r 0 0 + hop_size * get_or r 1 0 ≤ length r) × (get_or r 0 0 ≤ max_edges) × (get_or r 1 0 ≤ max_edges * max_entries)
    unfolding record_needs path_head_in
    record-room = (
      omega (arith, taken.room),
      taken.few,
      omega (arith, taken.few, taken.total, sum-most (infos_in r) (writable-legal r bytes taken).high, infos-count),
    )

    module _ (n : ℕ) (e : n ≡ get_or r 0 0) where
      pub wire-info-more : (d : List ℕ) (k : ℕ) (d₁ d₂ : List ℕ) → k < n → d₁ ≡ filled info_wire d meta_size k
          → d₂ ≡ written d₁ (meta_size + wire_info_size * k) (get_or r (path_head_size + info_size * k) 0 ∷ 0 ∷ take 6 (drop (path_head_size + info_size * k + 2) r)) → d₂ ≡ filled info_wire d meta_size (k + 1)
      unfolding record_info path_head_in
      wire-info-more d k d₁ d₂ h p q =
          filled_more info_wire 8 info-wire-length d 4 k d₁ d₂ p
          (q ∙ ap (written d₁ (meta_size + wire_info_size * k)) (sym (info-on-wire r bytes (path_head_size + info_size * k) (taken.flags k (omega arith)) (omega (arith, record-room.0)))))

      pub wire-info-all : (d : List ℕ) (k : ℕ) (d₁ : List ℕ) → k ≤ n → n ≤ k → d₁ ≡ filled info_wire d meta_size k → d₁ ≡ written d meta_size (flat_map wire_info_octets (infos_in r))
      unfolding infos_in path_head_in
      wire-info-all d k d₁ h l p = p ∙ filled-all wire_info_octets (record_info r) d 4 k (get_or r 0 0) (omega arith)

      pub wire-hop-more : (d : List ℕ) (at k m : ℕ) (d₁ d₂ d₃ : List ℕ) → m ≡ get_or r 1 0 → k < m → d₁ ≡ filled hop_wire d at k
          → d₂ ≡ written d₁ (at + wire_hop_size * k) (0 ∷ []) → d₃ ≡ written d₂ (at + wire_hop_size * k + 1) (take hop_size (drop (path_head_size + info_size * n + hop_size * k) r)) → d₃ ≡ filled hop_wire d at (k + 1)
      unfolding record_hop path_head_in
      wire-hop-more d at k m d₁ d₂ d₃ f h p q s =
          filled_more hop_wire 12 hop-wire-length d at k d₁ d₃ p
          (byte_put d₁ (at + wire_hop_size * k) 0 (take hop_size (drop (path_head_size + info_size * n + hop_size * k) r)) d₂ d₃ q s
          ∙ ap (λ m. written d₁ (at + wire_hop_size * k) (0 ∷ take hop_size (drop (path_head_size + info_size * m + hop_size * k) r))) e
          ∙ ap (written d₁ (at + wire_hop_size * k)) (sym (hop-on-wire r bytes (path_head_size + info_size * get_or r 0 0 + hop_size * k) (omega (arith, record-room.0)))))

    pub wire-hop-all : (d : List ℕ) (at k m : ℕ) (d₁ : List ℕ) → m ≡ get_or r 1 0 → k ≤ m → m ≤ k → d₁ ≡ filled hop_wire d at k → d₁ ≡ written d at (flat_map wire_hop_octets (hops_in r))
    unfolding hops_in path_head_in
    wire-hop-all d at k m d₁ f h l p = p ∙ filled-all wire_hop_octets (record_hop r) d at k (get_or r 1 0) (omega arith)

    -- the hop count of info k
    pub hops-there : (k n x : ℕ) → n ≡ get_or r 0 0 → k < n → x ≡ get_or r (path_head_size + info_size * k + 1) 0 → (x ≡ get_or (map hops_of_info (infos_in r)) k 0) × (x < 64)
    unfolding infos_in path_head_in hops_of_info record_info info_at
    hops-there k n x e h q = (
      q ∙ sym (get_or-range (λ j. get_or r (path_head_size + info_size * j + 1) 0) (get_or r 0 0) k (omega arith)) ∙ ap (λ l. get_or l k 0) (sym (map-map (record_info r) hops_of_info (range 0 (get_or r 0 0)))),
      omega (arith, taken.high k (omega arith)),
    )

    pub hops-past : (k n : ℕ) → n ≡ get_or r 0 0 → n ≤ k → (0 ≡ get_or (map hops_of_info (infos_in r)) k 0) × (0 < 64)
    hops-past k n e h = (
      sym (get_or-eq_default (map hops_of_info (infos_in r)) 0 (omega (arith, length-map (infos_in r) hops_of_info, infos-count))),
      omega arith,
    )

    -- meta header, infos and hops
    pub wire-put : (a b c n m : ℕ) (d d₁ d₂ d₃ : List ℕ) → a ≡ get_or (map hops_of_info (infos_in r)) 0 0 → b ≡ get_or (map hops_of_info (infos_in r)) 1 0
        → c ≡ get_or (map hops_of_info (infos_in r)) 2 0 → n ≡ get_or r 0 0 → m ≡ get_or r 1 0 → d₁ ≡ written d 0 (octets4 (a * 4096 + b * 64 + c))
        → d₂ ≡ written d₁ meta_size (flat_map wire_info_octets (infos_in r)) → d₃ ≡ written d₂ (meta_size + wire_info_size * n) (flat_map wire_hop_octets (hops_in r))
        → (meta_size + wire_info_size * n + wire_hop_size * m ≡ length (wire_of r)) × (d₃ ≡ written d 0 (wire_of r))
    unfolding wire_of wire_octets meta_octets meta_number
    wire-put a b c n m d d₁ d₂ d₃ p q s e f u v w =
        let is : List InfoField = infos_in r in
        let infos : List ℕ = flat_map wire_info_octets is in
        let l : length infos ≡ wire_info_size * n = omega (arith, flat-exact wire_info_octets 8 is (λ i k. unfold wire_info_octets octets4 octets2 in refl), infos-count) in
        let x : List ℕ = octets4 (a * 4096 + b * 64 + c) in
        let four : length x ≡ 4 = unfold octets4 octets2 in refl in
        let same : x ≡ meta_octets is =
        ap₂ (λ i j. octets4 (i * 2 ^ 12 + j * 2 ^ 6 + c)) p q ∙ ap (λ k. octets4 (get_or (map hops_of_info is) 0 0 * 2 ^ 12 + get_or (map hops_of_info is) 1 0 * 2 ^ 6 + k)) s in (
          omega (arith, wire-length is (hops_in r) (writable-legal r bytes taken) [], infos-count, hops-count),
          w
              ∙ ap (λ y. written y (meta_size + wire_info_size * n) (flat_map wire_hop_octets (hops_in r))) (v ∙ ap (λ y. written y meta_size infos) u ∙ next-put d meta_size x infos four)
              ∙ next-put d (meta_size + wire_info_size * n) (x ++ infos) (flat_map wire_hop_octets (hops_in r)) (omega (arith, length-append x infos))
              ∙ ap (λ y. written d 0 ((y ++ infos) ++ flat_map wire_hop_octets (hops_in r))) same,
        )

    pub wire-most : length (wire_of r) ≤ wire_size
    unfolding wire_of
    wire-most = wire-fits (infos_in r) (hops_in r) (writable-legal r bytes taken)

-- ---- in a record

-- length k of the three
pub length_at : (w l : List ℕ) → l ≡ segment_length w 0 ∷ segment_length w 1 ∷ segment_length w 2 ∷ [] → (k : ℕ) → k < 3 → get_or l k 0 ≡ segment_length w k
length_at w l q zero h = ap (λ m. get_or m 0 0) q
length_at w l q (suc zero) h = ap (λ m. get_or m 1 0) q
length_at w l q (suc (suc zero)) h = ap (λ m. get_or m 2 0) q
length_at w l q (suc (suc (suc k))) h = absurd (omega arith)

pub hop-total : (w : List ℕ) (a b c : ℕ) → (a ≡ segment_length w 0) × (b ≡ segment_length w 1) × (c ≡ segment_length w 2) → a + b + c ≡ wire_hop_count w
unfolding wire_hop_count
hop-total w a b c p = omega (arith, p.0, p.1, p.2)

module _ (w : List ℕ) where
  abbrev pub info_record : ℕ → List ℕ
  info_record j = info_octets (wire_info w j)

  abbrev pub hop_record : ℕ → List ℕ
  hop_record j = hop_octets (wire_hop w j)

  hop-record-length : (j : ℕ) → length (hop_record j) ≡ 11
  unfolding hop_octets wire_hop wire_hop_at mac_at octets2
  hop-record-length j = refl

  module _ (bytes : Bytes w) (ok : reader_refuses w ≡ false) where
    read : Readable w
    read = readable w ok

    pub wire-room : (meta_size + wire_info_size * wire_info_count w + wire_hop_size * wire_hop_count w ≤ length w) × (wire_info_count w ≤ max_edges) × (wire_hop_count w ≤ max_edges * max_entries)
    unfolding wire_hop_offset
    wire-room = (omega (arith, read.size), (counted w read).few, unfold wire_hop_count in omega (arith, read.most.0, read.most.1, read.most.2))

    pub record-info-more : (d : List ℕ) (k n x : ℕ) (d₁ d₂ : List ℕ) → n ≡ wire_info_count w → k < n → x ≡ segment_length w k → d₁ ≡ filled info_record d path_head_size k
        → d₂ ≡ written d₁ (path_head_size + info_size * k) (get_or w (meta_size + wire_info_size * k) 0 ∷ x ∷ take 6 (drop (meta_size + wire_info_size * k + 2) w)) → d₂ ≡ filled info_record d path_head_size (k + 1)
    unfolding wire_info_offset
    record-info-more d k n x d₁ d₂ z h e p q =
        filled_more info_record 8 (λ j. info-length (wire_info w j)) d 26 k d₁ d₂ p
        (q ∙ ap (λ y. written d₁ (path_head_size + info_size * k) (get_or w (meta_size + wire_info_size * k) 0 ∷ y ∷ take 6 (drop (meta_size + wire_info_size * k + 2) w))) e
        ∙ ap (written d₁ (path_head_size + info_size * k)) (sym (info-in-record w bytes k (read.flags k (omega arith)) (omega (arith, wire-room.0)))))

    pub record-info-all : (d : List ℕ) (k n : ℕ) (d₁ : List ℕ) → n ≡ wire_info_count w → k ≤ n → n ≤ k → d₁ ≡ filled info_record d path_head_size k
        → d₁ ≡ written d path_head_size (flat_map info_octets (wire_infos_in w))
    unfolding wire_infos_in
    record-info-all d k n d₁ e h l p = p ∙ filled-all info_octets (wire_info w) d 26 k (wire_info_count w) (omega arith)

    pub record-hop-more : (d : List ℕ) (at n k m : ℕ) (d₁ d₂ : List ℕ) → n ≡ wire_info_count w → m ≡ wire_hop_count w → k < m → d₁ ≡ filled hop_record d at k
        → d₂ ≡ written d₁ (at + hop_size * k) (take hop_size (drop (meta_size + wire_info_size * n + wire_hop_size * k + 1) w)) → d₂ ≡ filled hop_record d at (k + 1)
    unfolding wire_hop wire_hop_offset
    record-hop-more d at n k m d₁ d₂ e f h p q =
        filled_more hop_record 11 hop-record-length d at k d₁ d₂ p
        (q ∙ ap (λ m. written d₁ (at + hop_size * k) (take hop_size (drop (meta_size + wire_info_size * m + wire_hop_size * k + 1) w))) e
        ∙ ap (written d₁ (at + hop_size * k)) (sym (hop-in-record w bytes (meta_size + wire_info_size * wire_info_count w + wire_hop_size * k) (omega (arith, wire-room.0)))))

    pub record-hop-all : (d : List ℕ) (at k m : ℕ) (d₁ : List ℕ) → m ≡ wire_hop_count w → k ≤ m → m ≤ k → d₁ ≡ filled hop_record d at k
        → d₁ ≡ written d at (flat_map hop_octets (wire_hops_in w))
    unfolding wire_hops_in
    record-hop-all d at k m d₁ e h l p = p ∙ filled-all hop_octets (wire_hop w) d at k (wire_hop_count w) (omega arith)

    -- counts, infos and hops
    pub record-put : (n m : ℕ) (x : Path) (d d₁ d₂ d₃ : List ℕ) → n ≡ wire_info_count w → m ≡ wire_hop_count w → x ≡ plain_head n m
        → d₁ ≡ written d 0 (path_head_octets x) → d₂ ≡ written d₁ path_head_size (flat_map info_octets (wire_infos_in w))
        → d₃ ≡ written d₂ (path_head_size + info_size * n) (flat_map hop_octets (wire_hops_in w))
        → (path_head_size + info_size * n + hop_size * m ≡ length (record_of w)) × (d₃ ≡ written d 0 (record_of w))
    unfolding record_of path_octets flat_map plain_path
    record-put n m x d d₁ d₂ d₃ e f q u v y =
        let is : List InfoField = wire_infos_in w in
        let hs : List HopField = wire_hops_in w in
        let infos : List ℕ = flat_map info_octets is in
        let hops : List ℕ = flat_map hop_octets hs in
        let head : List ℕ = path_head_octets (path_head (plain_path is hs)) in
        let i : length is ≡ n = unfold wire_infos_in in length-map (range 0 (wire_info_count w)) (wire_info w) ∙ length-range 0 (wire_info_count w) ∙ sym e in
        let h : length hs ≡ m = unfold wire_hops_in in length-map (range 0 (wire_hop_count w)) (wire_hop w) ∙ length-range 0 (wire_hop_count w) ∙ sym f in
        let l : length infos ≡ info_size * n = omega (arith, flat-exact info_octets info_size is (λ x k. info-length x)) in
        let same : path_head_octets x ≡ head = ap path_head_octets (q ∙ heads is hs n m i h) in (
          omega (arith, plain-length is hs (readable-legal w bytes read)),
          y
              ∙ ap (λ x. written x (path_head_size + info_size * n) hops)
              (v ∙ ap (λ x. written x path_head_size infos) (u ∙ ap (written d 0) same) ∙ next-put d path_head_size head infos (head-length _))
              ∙ next-put d (path_head_size + info_size * n) (head ++ infos) hops (omega (arith, length-append head infos, head-length (path_head (plain_path is hs))))
              ∙ ap (written d 0) (sym (append-nil _ ∙ append-nil _)),
        )

    pub record-most : length (record_of w) ≤ path_size
    unfolding record_of
    record-most = plain_fits (wire_infos_in w) (wire_hops_in w) (readable-legal w bytes read)

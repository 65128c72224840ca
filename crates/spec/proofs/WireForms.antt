-- Infos and hops that have a form on the wire: written, they are read back, and the reader accepts them; in a record, the writer does.
-- Assumes nothing.
use Prim.Native.Nat.{ℕ, zero, suc, ◌+◌, ◌-◌, ◌*◌, ◌/◌, ◌%◌, ◌^◌, ◌≤◌, ◌<◌}
use native.Mathlib.Nat.{add-zero, zero-add, add_assoc, mul-suc, mul-zero}
use native.Mathlib.Omega.{arith}
use mathlib.Core.Path.{◌≡◌, refl, sym, ap, ap₂, ◌∙◌, subst}
use mathlib.Core.Bool.{Bool, true, false}
use mathlib.Core.List.Memᴰ.{head, tail}
use mathlib.Core.List.{List, [], ◌∷◌, ◌++◌, map, flat_map, append_assoc, append-nil, Memᴰ as Mem}
use lib.ListN.{length, get_or, take, drop, replicate, length-append, length-map, get_or-append}
use lib.Seq.{get_or-append-add, take_all, take-add}
use lib.Dec.{eqb}
use borrow.Author.Tests.{eqb-true}
use Rattle.spec.specs.declared.HopField.{HopField}
use Rattle.spec.specs.declared.InfoField.{InfoField}
use Rattle.spec.specs.declared.PathInterface.{PathInterface}
use Rattle.spec.specs.Limits.{max_edges, max_entries, path_head_size, info_size, meta_size, wire_info_size, wire_hop_size}
use Rattle.std.specs.Prelude.{if◌then◌else◌}
use Rattle.spec.specs.Basics.{range, sum, padded}
use Rattle.spec.specs.Octets.{Bytes, be32, octets2, octets4}
use Rattle.spec.specs.Assembly.{CombinedPath}
use Rattle.spec.specs.Records.{bit, info_octets, hop_octets, interface_as_octets, interface_id_octets, path_head, path_head_octets, path_head_in, path_octets}
use Rattle.spec.specs.Router.{info_at, hop_at, record_info, record_hop, infos_in, hops_in}
use Rattle.spec.specs.Wire.{segment_length, wire_info_count, wire_hop_count, hops_of_info, meta_number, meta_octets, wire_info_offset, wire_info, wire_infos_in, wire_info_octets, wire_hop_at, wire_hop_offset, wire_hop, wire_hops_in, wire_hop_octets, wire_octets, record_needs, reader_refuses, writer_refuses}
use Rattle.spec.proofs.ByteLaws.{GoodInfo, GoodHop, octets4-back, info_at-shift, hop_at-shift, info-back, hop-back, info-length, hop-length, read_all}
use Rattle.spec.proofs.Membership.{map-mem}
use Rattle.spec.proofs.OnceLaws.{range-mem}
use Rattle.spec.proofs.Lists.{length-range, flat-map}
use Rattle.spec.proofs.BookLaws.{be16-lt, be32-lt, mac-six, mac-word}
use Rattle.spec.proofs.PathLaws.{regroup, infos-back, head-length}
use Rattle.spec.proofs.Bounds.{flat-exact, path-length}
use Rattle.spec.proofs.LengthLaws.{padded-length}
use Rattle.spec.proofs.WireBytes.{wire-hop, info-again, hop-again, runs}
use Rattle.spec.proofs.OctetLaws.{be32-bytes}
use Rattle.spec.proofs.WireTests.{some-eqb, eqb-some, Writable, writes, Readable, reads}

-- one to three infos, of 1 to 16 hops each, and as many hops as they count
pub record Legal (is : List InfoField) (hs : List HopField) : Type 0 where
  pub some : 0 < length is
  pub few : length is ≤ max_edges
  pub infos : (i : InfoField) → Mem i is → GoodInfo i
  pub low : (i : InfoField) → Mem i is → 0 < i.hops
  pub high : (i : InfoField) → Mem i is → i.hops ≤ max_entries
  pub hops : (h : HopField) → Mem h hs → GoodHop h
  pub total : sum (map hops_of_info is) ≡ length hs

-- ---- bytes of records of one size, one after the other

module _ {A : Type 0} (enc : A → List ℕ) (size : ℕ) where
  -- record k, and its byte j
  nth : (xs : List A) (post : List ℕ) → ((x : A) → Mem x xs → length (enc x) ≡ size) → (k : ℕ) → k < length xs
      → (x : A) × Mem x xs × ((j : ℕ) → j < size → get_or (flat_map enc xs ++ post) (size * k + j) 0 ≡ get_or (enc x) j 0)
  unfolding flat_map
  nth [] post long k h = absurd (omega arith)
  nth (x ∷ xs) post long zero h = (
    x,
    head refl,
    λ j l.
        ap₂ (λ b n. get_or b n 0) (append_assoc (enc x) (flat_map enc xs) post) (ap (λ n. n + j) (mul-zero size) ∙ zero-add j)
        ∙ get_or-append (enc x) (flat_map enc xs ++ post) 0 j (omega (arith, long x (head refl))),
  )
  nth (x ∷ xs) post long (suc k) h =
      let w = nth xs post (λ y m. long y (tail m)) k (omega arith) in (
        w.0,
        tail w.1,
        λ j l.
            let e : size * suc k + j ≡ length (enc x) + (size * k + j) = omega (arith, mul-suc size k, long x (head refl)) in
            ap₂ (λ b n. get_or b n 0) (append_assoc (enc x) (flat_map enc xs) post) e ∙ get_or-append-add (enc x) (flat_map enc xs ++ post) (size * k + j) 0 ∙ w.2 j l,
      )

-- ---- sizes

wire-info-length : (i : InfoField) → length (wire_info_octets i) ≡ 8
unfolding wire_info_octets octets4 octets2
wire-info-length i = refl

wire-hop-length : (h : HopField) → GoodHop h → length (wire_hop_octets h) ≡ 12
unfolding wire_hop_octets hop_octets octets2
wire-hop-length h g = ap suc (hop-length h g)

pub flags-most : (c p : Bool) → bit c + 2 * bit p ≤ 3
unfolding bit
flags-most true true = omega arith
flags-most true false = omega arith
flags-most false true = omega arith
flags-most false false = omega arith

-- ---- read from the wire

-- an info with another hop count
abbrev hopped : ℕ → InfoField → InfoField
hopped n i = record { construction = i.construction; peering = i.peering; hops = n; id = i.id; timestamp = i.timestamp }

info-read : (pre post : List ℕ) (i : InfoField) (k : ℕ) → GoodInfo i → length pre ≡ wire_info_offset k
    → segment_length (pre ++ (wire_info_octets i ++ post)) k ≡ i.hops → wire_info (pre ++ (wire_info_octets i ++ post)) k ≡ i
unfolding wire_info wire_info_octets info_octets info_at
info-read pre post i k g e q =
    let w : List ℕ = pre ++ (wire_info_octets i ++ post) in
    ap₂ hopped q
    (ap (info_at w) (sym e ∙ sym (add-zero (length pre))) ∙ info_at-shift pre (wire_info_octets i ++ post) 0
    ∙ info-back (hopped 0 i) (record { id = g.id; timestamp = g.timestamp }) post)

hop-shift : (xs ys : List ℕ) (i : ℕ) → wire_hop_at (xs ++ ys) (length xs + i) ≡ wire_hop_at ys i
hop-shift xs ys i =
    wire-hop (xs ++ ys) (length xs + i) ∙ ap (hop_at (xs ++ ys)) (add_assoc (length xs) i 1) ∙ hop_at-shift xs ys (i + 1) ∙ sym (wire-hop ys i)

wire-hop-back : (h : HopField) → GoodHop h → (rest : List ℕ) → wire_hop_at (wire_hop_octets h ++ rest) 0 ≡ h
unfolding wire_hop_octets hop_octets
wire-hop-back h g rest = wire-hop (wire_hop_octets h ++ rest) 0 ∙ hop_at-shift (0 ∷ []) (hop_octets h ++ rest) 0 ∙ hop-back h g rest

-- the meta header
module _ (a b c : ℕ) (rest : List ℕ) (x : a ≤ max_entries) (y : b ≤ max_entries) (z : c ≤ max_entries) where
  abbrev meta : ℕ
  meta = a * 2 ^ 12 + b * 2 ^ 6 + c

  abbrev wire : List ℕ
  wire = octets4 meta ++ rest

  meta-back : be32 wire 0 ≡ meta
  meta-back = octets4-back meta rest (omega arith)

  first-length : segment_length wire 0 ≡ a
  unfolding segment_length
  first-length = ap (λ n. n / 2 ^ 12 % 2 ^ 6) meta-back ∙ omega arith

  second-length : segment_length wire 1 ≡ b
  unfolding segment_length
  second-length = ap (λ n. n / 2 ^ 6 % 2 ^ 6) meta-back ∙ omega arith

  third-length : segment_length wire 2 ≡ c
  unfolding segment_length
  third-length = ap (λ n. n / 1 % 2 ^ 6) meta-back ∙ omega arith

-- what the meta header says
record Meta (w : List ℕ) (a b c : ℕ) : Type 0 where
  low : be32 w 0 < 2 ^ 18
  first : segment_length w 0 ≡ a
  second : segment_length w 1 ≡ b
  third : segment_length w 2 ≡ c

meta-of : (a b c : ℕ) (rest : List ℕ) → a ≤ max_entries → b ≤ max_entries → c ≤ max_entries → Meta (octets4 (a * 2 ^ 12 + b * 2 ^ 6 + c) ++ rest) a b c
meta-of a b c rest x y z =
    record {
      low = omega (arith, meta-back a b c rest x y z);
      first = first-length a b c rest x y z;
      second = second-length a b c rest x y z;
      third = third-length a b c rest x y z;
    }

count_of : (w : List ℕ) (a b c : ℕ) → Meta w a b c → 0 < a → wire_info_count w ≡ (if eqb b 0 then 1 else if eqb c 0 then 2 else 3)
unfolding wire_info_count
count_of w a b c m h =
    ap (λ t. if t then 0 else if eqb (segment_length w 1) 0 then 1 else if eqb (segment_length w 2) 0 then 2 else 3)
    (ap (λ x. eqb x 0) m.first ∙ some-eqb a h)
    ∙ ap₂ (λ x y. if eqb x 0 then 1 else if eqb y 0 then 2 else 3) m.second m.third

-- the infos as the wire tells them, whatever follows them
record Told (is : List InfoField) (w : List ℕ) : Type 0 where
  low : be32 w 0 < 2 ^ 18
  first : 0 < segment_length w 0
  most : (segment_length w 0 ≤ max_entries) × (segment_length w 1 ≤ max_entries) × (segment_length w 2 ≤ max_entries)
  order : segment_length w 1 ≡ 0 → segment_length w 2 ≡ 0
  count : wire_info_count w ≡ length is
  total : wire_hop_count w ≡ sum (map hops_of_info is)
  infos : wire_infos_in w ≡ is

told : (is : List InfoField) → 0 < length is → length is ≤ max_edges → ((i : InfoField) → Mem i is → GoodInfo i) → ((i : InfoField) → Mem i is → 0 < i.hops)
    → ((i : InfoField) → Mem i is → i.hops ≤ max_entries) → (rest : List ℕ) → Told is (meta_octets is ++ flat_map wire_info_octets is ++ rest)
unfolding meta_octets meta_number hops_of_info flat_map wire_hop_count wire_infos_in range sum wire_info_octets octets4 octets2 wire_info_offset
told [] some few good low high rest = absurd (omega arith)
told (i ∷ []) some few good low high rest =
    let x : i.hops ≤ max_entries = high i (head refl) in
    let p : 0 < i.hops = low i (head refl) in
    let w : List ℕ = octets4 (i.hops * 2 ^ 12 + 0 * 2 ^ 6 + 0) ++ (wire_info_octets i ++ rest) in
    let m : Meta w i.hops 0 0 = meta-of i.hops 0 0 (wire_info_octets i ++ rest) x (omega arith) (omega arith) in
    let n : wire_info_count w ≡ 1 = count_of w i.hops 0 0 m p in
    record {
      low = m.low;
      first = omega (arith, m.first);
      most = (omega (arith, m.first), omega (arith, m.second), omega (arith, m.third));
      order = λ e. m.third;
      count = n;
      total = omega (arith, m.first, m.second, m.third);
      infos = ap (λ k. map (wire_info w) (range 0 k)) n ∙ ap (λ a. a ∷ []) (info-read (octets4 _) rest i 0 (good i (head refl)) refl m.first);
    }
told (i ∷ j ∷ []) some few good low high rest =
    let x : i.hops ≤ max_entries = high i (head refl) in
    let y : j.hops ≤ max_entries = high j (tail (head refl)) in
    let p : 0 < i.hops = low i (head refl) in
    let q : 0 < j.hops = low j (tail (head refl)) in
    let w : List ℕ = octets4 (i.hops * 2 ^ 12 + j.hops * 2 ^ 6 + 0) ++ (wire_info_octets i ++ (wire_info_octets j ++ rest)) in
    let m : Meta w i.hops j.hops 0 = meta-of i.hops j.hops 0 (wire_info_octets i ++ (wire_info_octets j ++ rest)) x y (omega arith) in
    let n : wire_info_count w ≡ 2 = count_of w i.hops j.hops 0 m p ∙ ap (λ t. if t then 1 else 2) (some-eqb j.hops q) in
    record {
      low = m.low;
      first = omega (arith, m.first);
      most = (omega (arith, m.first), omega (arith, m.second), omega (arith, m.third));
      order = λ e. m.third;
      count = n;
      total = omega (arith, m.first, m.second, m.third);
      infos = ap (λ k. map (wire_info w) (range 0 k)) n
          ∙ ap₂ (λ a b. a ∷ b ∷ []) (info-read (octets4 _) (wire_info_octets j ++ rest) i 0 (good i (head refl)) refl m.first)
          (info-read (octets4 _ ++ wire_info_octets i) rest j 1 (good j (tail (head refl))) refl m.second);
    }
told (i ∷ j ∷ k ∷ []) some few good low high rest =
    let x : i.hops ≤ max_entries = high i (head refl) in
    let y : j.hops ≤ max_entries = high j (tail (head refl)) in
    let z : k.hops ≤ max_entries = high k (tail (tail (head refl))) in
    let p : 0 < i.hops = low i (head refl) in
    let q : 0 < j.hops = low j (tail (head refl)) in
    let r : 0 < k.hops = low k (tail (tail (head refl))) in
    let w : List ℕ = octets4 (i.hops * 2 ^ 12 + j.hops * 2 ^ 6 + k.hops) ++ (wire_info_octets i ++ (wire_info_octets j ++ (wire_info_octets k ++ rest))) in
    let m : Meta w i.hops j.hops k.hops = meta-of i.hops j.hops k.hops (wire_info_octets i ++ (wire_info_octets j ++ (wire_info_octets k ++ rest))) x y z in
    let n : wire_info_count w ≡ 3 =
    count_of w i.hops j.hops k.hops m p ∙ ap₂ (λ s t. if s then 1 else if t then 2 else 3) (some-eqb j.hops q) (some-eqb k.hops r) in
    record {
      low = m.low;
      first = omega (arith, m.first);
      most = (omega (arith, m.first), omega (arith, m.second), omega (arith, m.third));
      order = λ e. absurd (omega (arith, m.second));
      count = n;
      total = omega (arith, m.first, m.second, m.third);
      infos = ap (λ l. map (wire_info w) (range 0 l)) n
          ∙ ap₂ (λ a l. a ∷ l) (info-read (octets4 _) (wire_info_octets j ++ (wire_info_octets k ++ rest)) i 0 (good i (head refl)) refl m.first)
          (ap₂ (λ a b. a ∷ b ∷ []) (info-read (octets4 _ ++ wire_info_octets i) (wire_info_octets k ++ rest) j 1 (good j (tail (head refl))) refl m.second)
          (info-read (octets4 _ ++ wire_info_octets i ++ wire_info_octets j) rest k 2 (good k (tail (tail (head refl)))) refl m.third));
    }
told (i ∷ j ∷ k ∷ l ∷ is) some few good low high rest = absurd (omega arith)

-- ---- infos and hops on the wire

module _ (is : List InfoField) (hs : List HopField) (legal : Legal is hs) (post : List ℕ) where
  abbrev front : List ℕ
  front = meta_octets is ++ flat_map wire_info_octets is

  abbrev body : List ℕ
  body = flat_map wire_hop_octets hs

  abbrev whole : List ℕ
  whole = wire_octets is hs ++ post

  at-hops : whole ≡ front ++ (body ++ post)
  unfolding wire_octets
  at-hops = append_assoc front body post

  at-infos : whole ≡ meta_octets is ++ (flat_map wire_info_octets is ++ (body ++ post))
  at-infos = at-hops ∙ append_assoc (meta_octets is) (flat_map wire_info_octets is) (body ++ post)

  meta-length : length (meta_octets is) ≡ meta_size
  unfolding meta_octets octets4 octets2
  meta-length = refl

  front_length : length front ≡ meta_size + wire_info_size * length is
  front_length = omega (arith, meta-length, length-append (meta_octets is) (flat_map wire_info_octets is), flat-exact wire_info_octets wire_info_size is (λ i m. wire-info-length i))

  -- the bytes of a path are as many as its infos and hops need
  pub wire-length : length (wire_octets is hs) ≡ meta_size + wire_info_size * length is + wire_hop_size * length hs
  unfolding wire_octets
  wire-length =
      omega (arith, front_length, length-append front body, flat-exact wire_hop_octets wire_hop_size hs (λ h m. wire-hop-length h (legal.hops h m)))

  told-whole : Told is whole
  told-whole = subst (Told is) (sym at-hops) (told is legal.some legal.few legal.infos legal.low legal.high (body ++ post))

  pub wire-infos : wire_infos_in whole ≡ is
  wire-infos = told-whole.infos

  hop-count : wire_hop_count whole ≡ length hs
  hop-count = told-whole.total ∙ legal.total

  pub wire-hops : wire_hops_in whole ≡ hs
  unfolding wire_hops_in wire_hop wire_hop_offset
  wire-hops =
      ap₂ (λ m n. map (λ k. wire_hop_at whole (meta_size + wire_info_size * m + wire_hop_size * k)) (range 0 n)) told-whole.count hop-count
      ∙ read_all wire_hop_at wire_hop_octets GoodHop wire_hop_size hop-shift wire-hop-back wire-hop-length whole (meta_size + wire_info_size * length is) hs legal.hops 0 front
      post (omega (arith, front_length)) at-hops

  -- byte j of info k, and of hop k
  info-byte : (k j : ℕ) → k < length is → j < 8 → (i : InfoField) × (get_or whole (wire_info_offset k + j) 0 ≡ get_or (wire_info_octets i) j 0)
  unfolding wire_info_offset
  info-byte k j h l =
      let n = nth wire_info_octets wire_info_size is (body ++ post) (λ i m. wire-info-length i) k h in
      let e : meta_size + wire_info_size * k + j ≡ length (meta_octets is) + (wire_info_size * k + j) = omega (arith, meta-length) in
      (n.0, ap₂ (λ w m. get_or w m 0) at-infos e ∙ get_or-append-add (meta_octets is) _ (wire_info_size * k + j) 0 ∙ n.2 j l)

  hop-byte : (k : ℕ) → k < length hs → (h : HopField) × (get_or whole (wire_hop_offset whole k) 0 ≡ get_or (wire_hop_octets h) 0 0)
  unfolding wire_hop_offset
  hop-byte k h =
      let n = nth wire_hop_octets wire_hop_size hs post (λ x m. wire-hop-length x (legal.hops x m)) k h in
      let e : meta_size + wire_info_size * wire_info_count whole + wire_hop_size * k ≡ length front + (wire_hop_size * k + 0) = omega (arith, front_length, told-whole.count) in
      (n.0, ap₂ (λ w m. get_or w m 0) at-hops e ∙ get_or-append-add front _ (wire_hop_size * k + 0) 0 ∙ n.2 0 (omega arith))

-- the reader accepts them where nothing follows
pub legal-reads : (is : List InfoField) (hs : List HopField) → Legal is hs → reader_refuses (wire_octets is hs) ≡ false
unfolding wire_info_octets wire_hop_octets wire_hop_offset
legal-reads is hs legal = subst (λ w. reader_refuses w ≡ false) (append-nil (wire_octets is hs)) (reads w facts)
  where
    w : List ℕ
    w = wire_octets is hs ++ []

    t : Told is w
    t = told-whole is hs legal []

    facts : Readable w
    facts =
        record {
          meta = t.low;
          first = t.first;
          most = t.most;
          order = t.order;
          size = omega (arith, ap length (append-nil (wire_octets is hs)), wire-length is hs legal [], t.count, hop-count is hs legal []);
          flags = λ k h.
              let b = info-byte is hs legal [] k 0 (omega (arith, t.count)) (omega arith) in
              let e : get_or w (wire_info_offset k) 0 ≡ bit b.0.construction + 2 * bit b.0.peering = ap (λ n. get_or w n 0) (sym (add-zero (wire_info_offset k))) ∙ b.1 in
              omega (arith, flags-most b.0.construction b.0.peering);
          spare = λ k h. (info-byte is hs legal [] k 1 (omega (arith, t.count)) (omega arith)).1;
          plain = λ k h. (hop-byte is hs legal [] k (omega (arith, hop-count is hs legal []))).1;
        }

-- ---- infos and hops in a record

module _ (is : List InfoField) (hs : List HopField) (interfaces : List PathInterface) (mtu expiry n : ℕ) (legal : Legal is hs) where
  abbrev path : CombinedPath
  path = record { infos = is; hops = hs; interfaces = interfaces; mtu = mtu; expiry = expiry }

  abbrev stored : List ℕ
  stored = padded n (path_octets path)

  rest : List ℕ
  rest =
      flat_map hop_octets hs
      ++ (flat_map interface_as_octets interfaces ++ (flat_map interface_id_octets interfaces ++ replicate (n - length (path_octets path)) 0))

  stands : stored ≡ path_head_octets (path_head path) ++ (flat_map info_octets is ++ rest)
  unfolding padded path_octets rest
  stands = regroup (path_head_octets (path_head path)) (flat_map info_octets is) (flat_map hop_octets hs) _ _ _

  -- byte j of info k
  stored-byte : (k j : ℕ) → k < length is → j < 8 → (i : InfoField) × Mem i is × (get_or stored (path_head_size + info_size * k + j) 0 ≡ get_or (info_octets i) j 0)
  stored-byte k j h l =
      let x = nth info_octets info_size is rest (λ i m. info-length i) k h in
      let e : path_head_size + info_size * k + j ≡ length (path_head_octets (path_head path)) + (info_size * k + j) = omega (arith, head-length (path_head path)) in
      (x.0, x.1, ap₂ (λ r m. get_or r m 0) stands e ∙ get_or-append-add (path_head_octets (path_head path)) _ (info_size * k + j) 0 ∙ x.2 j l)

  counts : ((path_head_in stored).infos ≡ length is) × ((path_head_in stored).hops ≡ length hs) × ((path_head_in stored).interfaces ≡ length interfaces)
  unfolding path_head_in padded path_octets path_head_octets path_head
  counts = (refl, refl, refl)

  -- the writer accepts the record
  pub legal-writes : length (path_octets path) ≤ n → writer_refuses (padded n (path_octets path)) ≡ false
  unfolding record_needs info_octets
  legal-writes fits =
      writes stored
      (record {
        some = omega (arith, counts.0, legal.some);
        few = omega (arith, counts.0, legal.few);
        room = omega (arith, counts.0, counts.1, counts.2, path-length path legal.hops, padded-length n (path_octets path) fits);
        flags = λ k h.
            let b = stored-byte k 0 (omega (arith, counts.0)) (omega arith) in
            let e : get_or stored (path_head_size + info_size * k) 0 ≡ bit b.0.construction + 2 * bit b.0.peering =
            ap (λ m. get_or stored m 0) (sym (add-zero (path_head_size + info_size * k))) ∙ b.2 in
            omega (arith, flags-most b.0.construction b.0.peering);
        low = λ k h.
            let b = stored-byte k 1 (omega (arith, counts.0)) (omega arith) in
            omega (arith, b.2, legal.low b.0 b.1);
        high = λ k h.
            let b = stored-byte k 1 (omega (arith, counts.0)) (omega arith) in
            omega (arith, b.2, legal.high b.0 b.1);
        total = ap (λ l. sum (map hops_of_info l)) (infos-back path n legal.infos) ∙ legal.total ∙ sym counts.1;
      })

-- ---- what is accepted has a form

module _ (b : List ℕ) (bytes : Bytes b) where
  good-info-at : (at : ℕ) → GoodInfo (info_at b at)
  unfolding info_at
  good-info-at at = record { id = be16-lt b bytes _; timestamp = be32-lt b bytes _ }

  good-hop-at : (at : ℕ) → GoodHop (hop_at b at)
  unfolding hop_at
  good-hop-at at = record { ingress = be16-lt b bytes _; egress = be16-lt b bytes _; mac = mac-six b bytes _; word = mac-word b bytes _ }

  -- to the writer
  pub writable-legal : Writable b → Legal (infos_in b) (hops_in b)
  unfolding infos_in hops_in record_info record_hop info_at
  writable-legal w =
      let n : ℕ = (path_head_in b).infos in
      let l : length (map (record_info b) (range 0 n)) ≡ n = length-map (range 0 n) (record_info b) ∙ length-range 0 n in
      let of : (P : InfoField → Type 0) → ((k : ℕ) → k < n → P (record_info b k)) → (i : InfoField) → Mem i (map (record_info b) (range 0 n)) → P i =
      λ P f i m.
      let x = map-mem (record_info b) (range 0 n) m in
      let r = range-mem 0 n x.1 in
      subst P (sym x.2) (f x.0 (omega arith)) in
      record {
        some = omega (arith, w.some);
        few = omega (arith, w.few);
        infos = of GoodInfo (λ k h. good-info-at (path_head_size + info_size * k));
        low = of (λ i. 0 < i.hops) w.low;
        high = of (λ i. i.hops ≤ max_entries) w.high;
        hops = λ h m. let x = map-mem (record_hop b) (range 0 (path_head_in b).hops) m in subst GoodHop (sym x.2) (good-hop-at _);
        total = w.total ∙ sym (length-map (range 0 (path_head_in b).hops) (record_hop b) ∙ length-range 0 (path_head_in b).hops);
      }

-- how many segments the reader counts, and their lengths
pub record Counted (w : List ℕ) (n : ℕ) : Type 0 where
  pub some : 0 < n
  pub few : n ≤ max_edges
  pub second : 1 < n → 0 < segment_length w 1
  pub third : 2 < n → 0 < segment_length w 2
  pub total : sum (map hops_of_info (map (wire_info w) (range 0 n))) ≡ wire_hop_count w
  pub meta : meta_number (map hops_of_info (map (wire_info w) (range 0 n))) ≡ segment_length w 0 * 2 ^ 12 + segment_length w 1 * 2 ^ 6 + segment_length w 2

pub counted : (w : List ℕ) → Readable w → Counted w (wire_info_count w)
unfolding wire_info_count wire_hop_count sum hops_of_info wire_info range meta_number
counted w f =
    subst (Counted w)
    (sym (ap (λ t. if t then 0 else if eqb (segment_length w 1) 0 then 1 else if eqb (segment_length w 2) 0 then 2 else 3) (some-eqb (segment_length w 0) f.first)))
    (go (eqb (segment_length w 1) 0) (eqb (segment_length w 2) 0) refl refl)
  where
    go : (s t : Bool) → eqb (segment_length w 1) 0 ≡ s → eqb (segment_length w 2) 0 ≡ t → Counted w (if s then 1 else if t then 2 else 3)
    go true t q r =
        let y : segment_length w 1 ≡ 0 = eqb-true (segment_length w 1) 0 q in
        let z : segment_length w 2 ≡ 0 = f.order y in
        record { some = omega arith; few = omega arith; second = λ h. absurd (omega arith); third = λ h. absurd (omega arith); total = omega arith; meta = omega arith }
    go false true q r =
        let y : 0 < segment_length w 1 = eqb-some (segment_length w 1) q in
        let z : segment_length w 2 ≡ 0 = eqb-true (segment_length w 2) 0 r in
        record { some = omega arith; few = omega arith; second = λ h. y; third = λ h. absurd (omega arith); total = omega arith; meta = omega arith }
    go false false q r =
        let y : 0 < segment_length w 1 = eqb-some (segment_length w 1) q in
        let z : 0 < segment_length w 2 = eqb-some (segment_length w 2) r in
        record { some = omega arith; few = omega arith; second = λ h. y; third = λ h. z; total = omega arith; meta = omega arith }

below : (P : ℕ → Type 0) (n : ℕ) → n ≤ max_edges → (0 < n → P 0) → (1 < n → P 1) → (2 < n → P 2) → (k : ℕ) → k < n → P k
below P n few a b c zero h = a h
below P n few a b c (suc zero) h = b h
below P n few a b c (suc (suc zero)) h = c h
below P n few a b c (suc (suc (suc k))) h = absurd (omega arith)

module _ (w : List ℕ) (bytes : Bytes w) (f : Readable w) where
  -- to the reader
  pub readable-legal : Legal (wire_infos_in w) (wire_hops_in w)
  unfolding wire_infos_in wire_hops_in wire_info wire_hop
  readable-legal =
      let n : ℕ = wire_info_count w in
      let u : Counted w n = counted w f in
      let l : length (map (wire_info w) (range 0 n)) ≡ n = length-map (range 0 n) (wire_info w) ∙ length-range 0 n in
      let of : (P : InfoField → Type 0) → ((k : ℕ) → k < n → P (wire_info w k)) → (i : InfoField) → Mem i (map (wire_info w) (range 0 n)) → P i =
      λ P g i m.
      let x = map-mem (wire_info w) (range 0 n) m in
      let r = range-mem 0 n x.1 in
      subst P (sym x.2) (g x.0 (omega arith)) in
      record {
        some = omega (arith, u.some);
        few = omega (arith, u.few);
        infos = of GoodInfo (λ k h. record { id = be16-lt w bytes _; timestamp = be32-lt w bytes _ });
        low = of (λ i. 0 < i.hops) (below (λ k. 0 < segment_length w k) n u.few (λ h. f.first) u.second u.third);
        high = of (λ i. i.hops ≤ max_entries) (below (λ k. segment_length w k ≤ max_entries) n u.few (λ h. f.most.0) (λ h. f.most.1) (λ h. f.most.2));
        hops = λ h m.
            let x = map-mem (wire_hop w) (range 0 (wire_hop_count w)) m in
            subst GoodHop (sym x.2) (subst GoodHop (sym (wire-hop w (wire_hop_offset w x.0))) (good-hop-at w bytes _));
        total = u.total ∙ sym (length-map (range 0 (wire_hop_count w)) (wire_hop w) ∙ length-range 0 (wire_hop_count w));
      }

  six-bits : (x : ℕ) → x < 2 ^ 18 → x / 2 ^ 12 % 2 ^ 6 * 2 ^ 12 + x / 2 ^ 6 % 2 ^ 6 * 2 ^ 6 + x / 1 % 2 ^ 6 ≡ x
  six-bits x h = omega arith

  meta-again : meta_octets (wire_infos_in w) ≡ take 4 w
  unfolding meta_octets wire_infos_in segment_length wire_hop_offset
  meta-again = ap octets4 ((counted w f).meta ∙ six-bits (be32 w 0) f.meta) ∙ sym (be32-bytes w bytes 0 (omega (arith, f.size)))

  infos-again : flat_map wire_info_octets (wire_infos_in w) ≡ take (wire_info_size * wire_info_count w) (drop meta_size w)
  unfolding wire_infos_in wire_info_offset wire_hop_offset
  infos-again =
      flat-map (wire_info w) wire_info_octets (range 0 (wire_info_count w))
      ∙ runs (λ k. wire_info_octets (wire_info w k)) w meta_size wire_info_size 0 (wire_info_count w)
      (λ k h.
      let l : k < wire_info_count w = omega arith in
      info-again w bytes k (f.flags k l) (omega (arith, f.size)) (f.spare k l))

  hops-again : flat_map wire_hop_octets (wire_hops_in w) ≡ take (wire_hop_size * wire_hop_count w) (drop (meta_size + wire_info_size * wire_info_count w) w)
  unfolding wire_hops_in wire_hop wire_hop_offset
  hops-again =
      let base : ℕ = meta_size + wire_info_size * wire_info_count w in
      flat-map (wire_hop w) wire_hop_octets (range 0 (wire_hop_count w))
      ∙ runs (λ k. wire_hop_octets (wire_hop w k)) w base wire_hop_size 0 (wire_hop_count w)
      (λ k h.
      let l : k < wire_hop_count w = omega arith in
      hop-again w bytes (base + wire_hop_size * k) (omega (arith, f.size)) (f.plain k l))
      ∙ ap (λ m. take (wire_hop_size * wire_hop_count w) (drop m w)) (add-zero base)

  -- written again as they were read
  pub wire-again : wire_octets (wire_infos_in w) (wire_hops_in w) ≡ w
  unfolding wire_octets wire_hop_offset
  wire-again =
      let i : ℕ = wire_info_size * wire_info_count w in
      let h : ℕ = wire_hop_size * wire_hop_count w in
      ap₂ (λ x y. x ++ y) (ap₂ (λ x y. x ++ y) meta-again infos-again) hops-again
      ∙ ap (λ x. x ++ take h (drop (meta_size + i) w)) (sym (take-add meta_size i w))
      ∙ sym (take-add (meta_size + i) h w)
      ∙ take_all (meta_size + i + h) w (omega (arith, f.size))

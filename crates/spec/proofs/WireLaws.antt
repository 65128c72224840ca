-- The writer and the reader undo each other, and a path that assembly left goes on the wire with the ids of its segments.
-- Assumes nothing.
use Prim.Native.Nat.{ℕ, zero, suc, ◌+◌, ◌-◌, ◌*◌, ◌%◌, ◌^◌, ◌≤◌, ◌<◌}
use native.Mathlib.Omega.{arith}
use mathlib.Core.Path.{◌≡◌, refl, sym, ap, ap₂, ◌∙◌, subst}
use mathlib.Core.Bool.{Bool, true, false}
use mathlib.Core.List.Memᴰ.{head, tail}
use mathlib.Core.List.{List, [], ◌∷◌, ◌++◌, map, flat_map, append-nil, Memᴰ as Mem}
use lib.ListN.{length, take, replicate, length-append, length-map, length-replicate}
use lib.Seq.{take_at}
use lib.Dec.{T, ltb}
use borrow.Author.Tests.{ltb-false, le-ltb}
use Rattle.spec.specs.declared.IsdAsn.{IsdAsn}
use Rattle.spec.specs.declared.HopField.{HopField}
use Rattle.spec.specs.declared.InfoField.{InfoField}
use Rattle.spec.specs.declared.Edge.{Edge}
use Rattle.spec.specs.declared.Refusal.{Refusal}
use Rattle.spec.specs.declared.Refusal.TheVariants.{Small, Wire}
use Rattle.std.specs.Prelude.{Ok, Err, if◌then◌else◌}
use Rattle.spec.specs.declared.Outcome.TheVariants.{Path}
use Rattle.spec.specs.Limits.{max_entries, path_head_size, info_size, hop_size, path_size, meta_size, wire_info_size, wire_hop_size, wire_size}
use Rattle.spec.specs.Basics.{range, sum, padded}
use Rattle.spec.specs.Octets.{Bytes, be16, be32, be64, octets2, octets4, octets8}
use Rattle.spec.specs.Book.{verdict, mac_at, isd_asn_at}
use Rattle.spec.specs.Chains.{allowed_kinds, IsChain}
use Rattle.spec.specs.Assembly.{CombinedPath, combined_path, info_on, info_of, hops_on, segment_of, hop_count, outcome}
use Rattle.spec.specs.Records.{bit, info_octets, hop_octets, as_octets, no_interface, path_head, path_head_octets, path_octets, solution_octets}
use Rattle.spec.specs.Router.{infos_in, hops_in, walk_infos, router_ids, RouterAgrees, shape_of}
use Rattle.spec.specs.Answers.{Assembled, path_answer, assembly}
use Rattle.spec.specs.Wire.{hops_of_info, wire_infos_in, wire_hop_count, wire_hop_at, wire_hop_offset, wire_hop, wire_hops_in, wire_router_ids, wire_octets, wire_of, plain_path, record_of, writer_refuses, reader_refuses, Carried, refused_wire, carried, writing, reading}
use Rattle.spec.specs.WireDemand.{front, Reversible, WireAgrees}
use Rattle.spec.proofs.Bounds.{path-length, chain-bounds}
use Rattle.spec.proofs.BookLaws.{accepted, Stored, stored}
use Rattle.spec.proofs.PathLaws.{infos-back, hops-back, hops-length, good-infos, good-hops, router-agrees}
use Rattle.spec.proofs.AnswerLaws.{assembly-chain, answer-by, outcome-is}
use Rattle.spec.proofs.LengthLaws.{padded-length}
use Rattle.spec.proofs.Membership.{map-mem}
use Rattle.spec.proofs.WireTests.{writable, readable}
use Rattle.spec.proofs.WireForms.{Legal, flags-most, wire-infos, wire-hops, wire-length, legal-reads, legal-writes, writable-legal, readable-legal, wire-again}

-- ---- answers

module _ (bytes room : ℕ) (refused : Bool) (xs : List ℕ) where
  abbrev by : Bool → Bool → Carried
  by small odd = if small then refused_wire bytes Small else if odd then refused_wire bytes Wire else (Ok (length xs), padded bytes xs)

  -- what an answer that is no refusal says
  record Told (n : ℕ) : Type 0 where
    big : room ≤ bytes
    taken : refused ≡ false
    size : n ≡ length xs
    answer : carried bytes room refused xs ≡ (Ok (length xs), padded bytes xs)

  pub taken-by : room ≤ bytes → refused ≡ false → carried bytes room refused xs ≡ (Ok (length xs), padded bytes xs)
  unfolding carried
  taken-by h q = ap₂ by (le-ltb bytes room h) q

  told-by : (n : ℕ) → (carried bytes room refused xs).0 ≡ Ok n → Told n
  unfolding carried refused_wire
  told-by n q = go (ltb bytes room) refused refl refl (λ s t e f. ap₂ by e f) q
    where
      go : (s t : Bool) → ltb bytes room ≡ s → refused ≡ t → ((s t : Bool) → ltb bytes room ≡ s → refused ≡ t → carried bytes room refused xs ≡ by s t)
          → (by s t).0 ≡ Ok n → Told n
      go true t e f a q = let z : ◌≡◌ {A = ℕ} 0 1 = cc in absurd (omega arith)
      go false true e f a q = let z : ◌≡◌ {A = ℕ} 0 1 = cc in absurd (omega arith)
      go false false e f a q = record { big = ltb-false bytes room e; taken = f; size = let k : length xs ≡ n = cc in sym k; answer = a false false e f }

  -- the output keeps its length, and a refusal leaves zeros
  carried-length : (refused ≡ false → length xs ≤ room) → length (carried bytes room refused xs).1 ≡ bytes
  unfolding carried refused_wire
  carried-length most = go (ltb bytes room) refused refl refl
    where
      go : (s t : Bool) → ltb bytes room ≡ s → refused ≡ t → length (by s t).1 ≡ bytes
      go true t e f = length-replicate {A = ℕ} bytes 0
      go false true e f = length-replicate {A = ℕ} bytes 0
      go false false e f = padded-length bytes xs (omega (arith, ltb-false bytes room e, most f))

  carried-refused : (r : Refusal) → (carried bytes room refused xs).0 ≡ Err r → (carried bytes room refused xs).1 ≡ replicate bytes 0
  unfolding carried refused_wire
  carried-refused r q = go (ltb bytes room) refused q
    where
      go : (s t : Bool) → (by s t).0 ≡ Err r → (by s t).1 ≡ replicate bytes 0
      go true t q = refl
      go false true q = refl
      go false false q = let z : ◌≡◌ {A = ℕ} 0 1 = cc in absurd (omega arith)

-- what is in front of the padding
front-padded : (xs : List ℕ) (n bytes : ℕ) → n ≡ length xs → take n (padded bytes xs) ≡ xs
unfolding padded
front-padded xs n bytes e = take_at xs _ n (sym e)

-- ---- a record and its wire

pub sum-most : (is : List InfoField) → ((i : InfoField) → Mem i is → i.hops ≤ max_entries) → sum (map hops_of_info is) ≤ max_entries * length is
unfolding sum hops_of_info
sum-most [] h = omega arith
sum-most (i ∷ is) h = omega (arith, h i (head refl), sum-most is (λ j m. h j (tail m)))

module _ (is : List InfoField) (hs : List HopField) (legal : Legal is hs) where
  pub wire-fits : length (wire_octets is hs) ≤ wire_size
  wire-fits = omega (arith, wire-length is hs legal [], legal.few, legal.total, sum-most is legal.high)

  abbrev plain : List ℕ
  plain = path_octets (plain_path is hs)

  pub plain-length : length plain ≡ path_head_size + info_size * length is + hop_size * length hs
  unfolding plain_path
  plain-length = omega (arith, path-length (plain_path is hs) legal.hops)

  pub plain_fits : length plain ≤ path_size
  plain_fits = omega (arith, plain-length, legal.few, legal.total, sum-most is legal.high)

  plain-infos : (n : ℕ) → infos_in (padded n plain) ≡ is
  unfolding plain_path
  plain-infos n = infos-back (plain_path is hs) n legal.infos

  plain-hops : (n : ℕ) → hops_in (padded n plain) ≡ hs
  unfolding plain_path
  plain-hops n = hops-back (plain_path is hs) n legal.hops

  plain-writes : (n : ℕ) → length plain ≤ n → writer_refuses (padded n plain) ≡ false
  unfolding plain_path
  plain-writes n h = legal-writes is hs [] 0 0 n legal h

  bare-infos : wire_infos_in (wire_octets is hs) ≡ is
  bare-infos = ap wire_infos_in (sym (append-nil (wire_octets is hs))) ∙ wire-infos is hs legal []

  bare-hops : wire_hops_in (wire_octets is hs) ≡ hs
  bare-hops = ap wire_hops_in (sym (append-nil (wire_octets is hs))) ∙ wire-hops is hs legal []

  -- what the reader makes of it
  read_of : record_of (wire_octets is hs) ≡ plain
  unfolding record_of
  read_of = ap₂ (λ x y. path_octets (plain_path x y)) bare-infos bare-hops

-- what the writer returns where it refuses nothing
module _ (x : List ℕ) (has : writer_refuses x ≡ false → Legal (infos_in x) (hops_in x)) (n room : ℕ) (q : (writing x room).0 ≡ Ok n) where
  written-told : Told room wire_size (writer_refuses x) (wire_of x) n
  unfolding writing
  written-told = told-by room wire_size (writer_refuses x) (wire_of x) n q

  written-legal : Legal (infos_in x) (hops_in x)
  written-legal = has written-told.taken

  written-front : front n (writing x room) ≡ wire_octets (infos_in x) (hops_in x)
  unfolding writing wire_of
  written-front = ap (λ (c : Carried). take n c.1) written-told.answer ∙ front-padded (wire_of x) n room written-told.size

  written-size : n ≡ meta_size + wire_info_size * length (infos_in x) + wire_hop_size * length (hops_in x)
  unfolding wire_of
  written-size = written-told.size ∙ wire-length (infos_in x) (hops_in x) written-legal []

  written-most : n ≤ wire_size
  unfolding wire_of
  written-most = omega (arith, written-told.size, wire-fits (infos_in x) (hops_in x) written-legal)

  pub written-infos : wire_infos_in (front n (writing x room)) ≡ infos_in x
  written-infos = ap wire_infos_in written-front ∙ bare-infos (infos_in x) (hops_in x) written-legal

  pub written-hops : wire_hops_in (front n (writing x room)) ≡ hops_in x
  written-hops = ap wire_hops_in written-front ∙ bare-hops (infos_in x) (hops_in x) written-legal

  read_again : (m : ℕ) → path_size ≤ m
      → reading (front n (writing x room)) m ≡ (Ok (length (path_octets (plain_path (infos_in x) (hops_in x)))), padded m (path_octets (plain_path (infos_in x) (hops_in x))))
  unfolding reading
  read_again m h =
      let is : List InfoField = infos_in x in
      let hs : List HopField = hops_in x in
      ap (λ w. carried m path_size (reader_refuses w) (record_of w)) written-front
      ∙ taken-by m path_size (reader_refuses (wire_octets is hs)) (record_of (wire_octets is hs)) h (legal-reads is hs written-legal)
      ∙ ap (λ l. (Ok (length l), padded m l)) (read_of is hs written-legal)

-- and the reader
module _ (x : List ℕ) (bytes : Bytes x) where
  legal-record : writer_refuses x ≡ false → Legal (infos_in x) (hops_in x)
  legal-record q = writable-legal x bytes (writable x q)

  legal-wire : reader_refuses x ≡ false → Legal (wire_infos_in x) (wire_hops_in x)
  legal-wire q = readable-legal x bytes (readable x q)

  module _ (n room : ℕ) (q : (reading x room).0 ≡ Ok n) where
    read_told : Told room path_size (reader_refuses x) (record_of x) n
    unfolding reading
    read_told = told-by room path_size (reader_refuses x) (record_of x) n q

    read-legal : Legal (wire_infos_in x) (wire_hops_in x)
    read-legal = legal-wire read_told.taken

    read-front : front n (reading x room) ≡ record_of x
    unfolding reading
    read-front = ap (λ (c : Carried). take n c.1) read_told.answer ∙ front-padded (record_of x) n room read_told.size

    read-size : n ≡ path_head_size + info_size * length (wire_infos_in x) + hop_size * length (wire_hops_in x)
    unfolding record_of
    read-size = read_told.size ∙ plain-length (wire_infos_in x) (wire_hops_in x) read-legal

    read-most : n ≤ path_size
    unfolding record_of
    read-most = omega (arith, read_told.size, plain_fits (wire_infos_in x) (wire_hops_in x) read-legal)

    -- the record alone, with no padding
    unpadded : record_of x ≡ padded (length (record_of x)) (record_of x)
    unfolding padded
    unpadded =
        let e : length (record_of x) - length (record_of x) ≡ 0 = omega arith in
        sym (ap (λ k. record_of x ++ replicate k 0) e ∙ append-nil (record_of x))

    write_again : (m : ℕ) → wire_size ≤ m → writing (record_of x) m ≡ (Ok (length x), padded m x)
    unfolding writing wire_of record_of
    write_again m h =
        let is : List InfoField = wire_infos_in x in
        let hs : List HopField = wire_hops_in x in
        let k : ℕ = length (record_of x) in
        ap (λ r. carried m wire_size (writer_refuses r) (wire_of r)) unpadded
        ∙ taken-by m wire_size (writer_refuses (padded k (record_of x))) (wire_of (padded k (record_of x))) h (plain-writes is hs read-legal k (omega arith))
        ∙ ap (λ l. (Ok (length l), padded m l))
        (ap₂ wire_octets (plain-infos is hs read-legal k) (plain-hops is hs read-legal k) ∙ wire-again x bytes (readable x read_told.taken))

-- ---- bytes

data Each : List ℕ → Type 0 where
  none : Each []
  one : {x : ℕ} {xs : List ℕ} → x < 2 ^ 8 → Each xs → Each (x ∷ xs)

each-bytes : {xs : List ℕ} → Each xs → Bytes xs
each-bytes none i = omega arith
each-bytes (one h e) zero = h
each-bytes (one h e) (suc i) = each-bytes e i

each_append : {xs : List ℕ} → Each xs → (ys : List ℕ) → Each ys → Each (xs ++ ys)
each_append none ys f = f
each_append (one h e) ys f = one h (each_append e ys f)

each-flat : {A : Type 0} (f : A → List ℕ) (xs : List A) → ((x : A) → Mem x xs → Each (f x)) → Each (flat_map f xs)
unfolding flat_map
each-flat f [] h = none
each-flat f (x ∷ xs) h = each_append (h x (head refl)) (flat_map f xs) (each-flat f xs (λ y m. h y (tail m)))

zeros : (k : ℕ) → Each (replicate k 0)
zeros zero = none
zeros (suc k) = one {x = 0} (omega arith) (zeros k)

low_byte : (x : ℕ) → x % 2 ^ 8 < 2 ^ 8
low_byte x = omega arith

info-each : (i : InfoField) → i.hops ≤ max_entries → Each (info_octets i)
unfolding info_octets octets4 octets2
info-each i h =
    one {x = bit i.construction + 2 * bit i.peering} (omega (arith, flags-most i.construction i.peering)) (one {x = i.hops} (omega arith)
    (one (low_byte _) (one (low_byte _) (one (low_byte _) (one (low_byte _) (one (low_byte _) (one (low_byte _) none)))))))

module _ (w : List ℕ) (bytes : Bytes w) where
  hop-each : (at : ℕ) → Each (hop_octets (wire_hop_at w at))
  unfolding hop_octets wire_hop_at octets2 mac_at
  hop-each at =
      one (bytes _) (one (low_byte _) (one (low_byte _) (one (low_byte _) (one (low_byte _)
      (one (bytes _) (one (bytes _) (one (bytes _) (one (bytes _) (one (bytes _) (one (bytes _) none))))))))))

  -- the reader's record is one of bytes
  record-bytes : Legal (wire_infos_in w) (wire_hops_in w) → Bytes (record_of w)
  unfolding record_of plain_path path_octets path_head_octets path_head as_octets no_interface isd_asn_at be64 be32 be16 octets8 octets4 octets2 flat_map wire_hops_in wire_hop
  record-bytes legal =
      let n : length (wire_infos_in w) < 2 ^ 8 = omega (arith, legal.few) in
      let m : length (wire_hops_in w) < 2 ^ 8 = omega (arith, legal.few, legal.total, sum-most (wire_infos_in w) legal.high) in
      let infos : Each (flat_map info_octets (wire_infos_in w)) = each-flat info_octets (wire_infos_in w) (λ i k. info-each i (legal.high i k)) in
      let hops : Each (flat_map hop_octets (wire_hops_in w)) =
      each-flat hop_octets (wire_hops_in w)
      (λ h k. let x = map-mem (wire_hop w) (range 0 (wire_hop_count w)) k in subst (λ y. Each (hop_octets y)) (sym x.2) (hop-each (wire_hop_offset w x.0))) in
      each-bytes (each_append (each_append (each_append (each_append (one n (one m (zeros 24))) _ infos) _ hops) [] none) [] none)

-- ---- the two undo each other

pub reversible : (x : List ℕ) → Bytes x → Reversible x
unfolding wire_router_ids router_ids
reversible x bs =
    record {
      back = λ n bytes room q h.
          let has = legal-record x bs in
          let l : Legal (infos_in x) (hops_in x) = written-legal x has n bytes q in
          let e = read_again x has n bytes q room h in
          let o : (reading (front n (writing x bytes)) room).1 ≡ padded room (path_octets (plain_path (infos_in x) (hops_in x))) = ap (λ (c : Carried). c.1) e in (
            length (path_octets (plain_path (infos_in x) (hops_in x))),
            plain_fits (infos_in x) (hops_in x) l,
            ap (λ (c : Carried). c.0) e,
            ap infos_in o ∙ plain-infos (infos_in x) (hops_in x) l room,
            ap hops_in o ∙ plain-hops (infos_in x) (hops_in x) l room,
          );
      router = λ n bytes q. let has = legal-record x bs in ap₂ walk_infos (written-infos x has n bytes q) (written-hops x has n bytes q);
      again = λ n bytes room q h. ap (λ r. writing r room) (read-front x bs n bytes q) ∙ write_again x bs n bytes q room h;
      produced = λ r rs n bytes room q e h.
          let has = legal-record r rs in (
            length (path_octets (plain_path (infos_in r) (hops_in r))),
            plain_fits (infos_in r) (hops_in r) (written-legal r has n bytes q),
            ap (λ w. (reading w room).0) (sym e) ∙ ap (λ (c : Carried). c.0) (read_again r has n bytes q room h),
          );
      only = λ n bytes q. (record_of x, record-bytes x bs (read-legal x bs n bytes q), λ room h. write_again x bs n bytes q room h);
      wire-count = λ n bytes q. let has = legal-record x bs in (written-size x has n bytes q, written-most x has n bytes q);
      record-count = λ n bytes q. (read-size x bs n bytes q, read-most x bs n bytes q);
    }

-- the output keeps its length, and a refusal leaves zeros
module _ (x : List ℕ) (bytes : ℕ) where
  pub writing-length : Bytes x → length (writing x bytes).1 ≡ bytes
  unfolding writing wire_of
  writing-length bs = carried-length bytes wire_size (writer_refuses x) (wire_of x) (λ q. wire-fits (infos_in x) (hops_in x) (legal-record x bs q))

  pub reading-length : Bytes x → length (reading x bytes).1 ≡ bytes
  unfolding reading record_of
  reading-length bs = carried-length bytes path_size (reader_refuses x) (record_of x) (λ q. plain_fits (wire_infos_in x) (wire_hops_in x) (legal-wire x bs q))

  pub writing-zeros : (r : Refusal) → (writing x bytes).0 ≡ Err r → (writing x bytes).1 ≡ replicate bytes 0
  unfolding writing
  writing-zeros r q = carried-refused bytes wire_size (writer_refuses x) (wire_of x) r q

  pub reading-zeros : (r : Refusal) → (reading x bytes).0 ≡ Err r → (reading x bytes).1 ≡ replicate bytes 0
  unfolding reading
  reading-zeros r q = carried-refused bytes path_size (reader_refuses x) (record_of x) r q

-- ---- a chain's path

kinds-some : (c : List Edge) → T (allowed_kinds c) → 0 < length c
unfolding allowed_kinds
kinds-some [] h = absurd h
kinds-some (e ∷ c) h = omega arith

module _ (b : List ℕ) where
  hops-total : (c : List Edge) → sum (map hops_of_info (map (info_on b) c)) ≡ length (flat_map (hops_on b) c)
  unfolding sum hops_of_info flat_map info_on info_of hops_on
  hops-total [] = refl
  hops-total (e ∷ c) =
      omega (arith, length-append (hops_on b e) (flat_map (hops_on b) c), hops-length (segment_of b e) e, hops-total c)

  module _ (bytes : Bytes b) (ok : verdict b ≡ Ok tt) (src dst : IsdAsn) (c : List Edge) (h : IsChain b src dst c) where
    abbrev path : CombinedPath
    path = combined_path b c

    st : (e : Edge) → Mem e c → Stored b e
    st e m = stored b (h.stored e m)

    -- its infos and hops have a form on the wire
    chain-legal : Legal path.infos path.hops
    unfolding combined_path info_on info_of hop_count
    chain-legal =
        let bounds = chain-bounds b bytes (accepted b ok) src dst c h in
        let l : length (map (info_on b) c) ≡ length c = length-map c (info_on b) in
        record {
          some = omega (arith, kinds-some c h.kinds);
          few = omega (arith, bounds.count);
          infos = good-infos b bytes c;
          low = λ i m.
              let w = map-mem (info_on b) c m in
              subst (λ (x : InfoField). 0 < x.hops) (sym w.2) (omega (arith, (st w.0 w.1).edge.shortcut));
          high = λ i m. let w = map-mem (info_on b) c m in subst (λ (x : InfoField). x.hops ≤ max_entries) (sym w.2) (bounds.edges w.0 w.1).hops;
          hops = good-hops b bytes c;
          total = hops-total c;
        }

    module _ (n : ℕ) (fits : path_size ≤ n) where
      abbrev left : List ℕ
      left = padded n (path_octets path)

      -- the writer takes its record
      pub chain-writes : writer_refuses (padded n (path_octets (combined_path b c))) ≡ false
      chain-writes =
          legal-writes path.infos path.hops path.interfaces path.mtu path.expiry n chain-legal
          (omega (arith, (chain-bounds b bytes (accepted b ok) src dst c h).path))

      left-legal : Legal (infos_in left) (hops_in left)
      left-legal =
          subst (λ (is : List InfoField). Legal is (hops_in left)) (sym (infos-back path n chain-legal.infos))
          (subst (λ (hs : List HopField). Legal path.infos hs) (sym (hops-back path n chain-legal.hops)) chain-legal)

      -- and what it writes leads a router by the ids of the segments
      pub chain-sent : (room : ℕ) → wire_size ≤ room
          → (k : ℕ) × (k ≤ wire_size) × ((writing left room).0 ≡ Ok k) × WireAgrees b c (front k (writing left room))
      unfolding writing wire_router_ids router_ids
      chain-sent room r =
          let e = taken-by room wire_size (writer_refuses left) (wire_of left) r chain-writes in
          let k : ℕ = length (wire_of left) in
          let q : (writing left room).0 ≡ Ok k = ap (λ (x : Carried). x.0) e in
          let i = written-infos left (λ _. left-legal) k room q in
          let j = written-hops left (λ _. left-legal) k room q in
          let a : RouterAgrees b c left = router-agrees b bytes c st n in
          (k, unfold wire_of in wire-fits (infos_in left) (hops_in left) left-legal, q, record { infos = ap (map shape_of) i ∙ a.infos; hops = j ∙ a.hops; held = ap₂ walk_infos i j ∙ a.held })

-- what assembly leaves where it answers a path
assembled : (b : List ℕ) → Bytes b → verdict b ≡ Ok tt → (src dst : IsdAsn) (c : List Edge) → IsChain b src dst c → (bytes : ℕ) → path_size ≤ bytes
    → (assembly b src dst (solution_octets c) bytes).0 ≡ Ok Path → (assembly b src dst (solution_octets c) bytes).1 ≡ padded bytes (path_octets (combined_path b c))
assembled b bs ok src dst c h bytes room q =
    let e : assembly b src dst (solution_octets c) bytes ≡ path_answer b bytes c = assembly-chain b src dst bytes ok room c h in
    let o : outcome (combined_path b c) ≡ Path = outcome-is b bytes c Path (sym (ap (λ (x : Assembled). x.0) e) ∙ q) in
    ap (λ (x : Assembled). x.1) (e ∙ answer-by b bytes c Path o)

-- a chain's path that assembly left is taken by the writer, and a router fed the bytes written, and nothing else, holds the segments' ids
pub sent : (b : List ℕ) → Bytes b → verdict b ≡ Ok tt → (src dst : IsdAsn) (c : List Edge) → IsChain b src dst c → (bytes room : ℕ) → path_size ≤ bytes → wire_size ≤ room
    → (assembly b src dst (solution_octets c) bytes).0 ≡ Ok Path
    → (n : ℕ) × (n ≤ wire_size) × ((writing (assembly b src dst (solution_octets c) bytes).1 room).0 ≡ Ok n)
    × WireAgrees b c (front n (writing (assembly b src dst (solution_octets c) bytes).1 room))
sent b bs ok src dst c h bytes room big enough q =
    subst (λ (l : List ℕ). (n : ℕ) × (n ≤ wire_size) × ((writing l room).0 ≡ Ok n) × WireAgrees b c (front n (writing l room)))
    (sym (assembled b bs ok src dst c h bytes big q)) (chain-sent b bs ok src dst c h bytes big room enough)

-- Records read back: what the record of a solution says is the chain's, and each part of the record of a path is the path's own.
-- Assumes nothing.
use Prim.Native.Nat.{ℕ, zero, suc, ◌+◌, ◌-◌, ◌*◌, ◌^◌, ◌≤◌, ◌<◌, min}
use native.Mathlib.Nat.{le_refl}
use native.Mathlib.Omega.{arith}
use mathlib.Core.Path.{◌≡◌, refl, sym, ap, ap₂, ◌∙◌, subst}
use mathlib.Core.Logic.{⊎_elim}
use mathlib.Core.Bool.{Bool, true, false}
use mathlib.Core.List.Memᴰ.{append_cases, eq_of_singleton, head, not-nil, tail}
use mathlib.Core.List.{List, [], ◌∷◌, ◌++◌, map, flat_map, append_assoc, append-nil, Memᴰ as Mem, head-eq_of_cons-eq, tail-eq_of_cons-eq}
use lib.ListN.{length, get_or, replicate, length-append, length-map, length-replicate}
use Rattle.spec.specs.declared.IsdAsn.{IsdAsn}
use Rattle.spec.specs.declared.HopField.{HopField}
use Rattle.spec.specs.declared.PathInterface.{PathInterface}
use Rattle.spec.specs.declared.Edge.{Edge}
use Rattle.spec.specs.declared.SolutionEdge.{SolutionEdge}
use Rattle.spec.specs.Limits.{max_mtu, max_time, max_edges, edge_size, solution_head_size, solution_size, path_head_size, info_size, hop_size}
use Rattle.spec.specs.Basics.{range, padded}
use Rattle.spec.specs.Octets.{Bytes, be16, be32, be64, octets2, octets4, octets8}
use Rattle.spec.specs.Book.{Entry, Segment, segment_at, entry_count_at, entry_at, entry_offset, body_offset, as_entry_at, isd_asn_at}
use Rattle.spec.specs.Edges.{as_of}
use Rattle.spec.specs.Order.{cost, solution_edge}
use Rattle.spec.specs.Assembly.{least, interface_if, hop_count, used_entries, hop_of, interfaces_at, interfaces_of, in_direction, segment_of, interfaces_on, mtus_on, expiry_on, CombinedPath, combined_path}
use Rattle.spec.specs.Records.{bit, edge_octets, edge_at, edge_offset, record_edge, no_edge, solution_octets, solution_in, solution_of, info_octets, hop_octets, as_octets, interface_as_octets, interface_id_octets, no_interface, path_head, path_head_octets, path_octets, path_head_in, ases_offset, ids_offset, record_interface, interfaces_in}
use Rattle.spec.specs.Router.{infos_in, hops_in}
use Rattle.spec.proofs.Membership.{map-mem, flat_map-mem}
use Rattle.spec.proofs.Lists.{flat_map-append, flat-map}
use Rattle.spec.proofs.OnceLaws.{reverse-mem, range-mem}
use Rattle.spec.proofs.ByteLaws.{GoodHop, octets2-back, octets4-back, octets8-back, be16-shift, isd_asn_at-shift, info-length, hop-length, read_all, edge_at-shift, edge-back, edge-length, cost-back}
use Rattle.spec.proofs.BookLaws.{be32-lt, segment-length, hop-good}
use Rattle.spec.proofs.BodyLaws.{entry-at}
use Rattle.spec.proofs.PathLaws.{head-length, infos-back, hops-back, good-infos, good-hops}
use Rattle.spec.proofs.Bounds.{flat-exact}

-- ---- a solution's record

zero-edges : (k : ℕ) → flat_map edge_octets (replicate k no_edge) ≡ replicate (k * edge_size) 0
unfolding flat_map edge_octets no_edge edge_at bit
zero-edges zero = refl
zero-edges (suc k) =
    let n : suc (suc (suc (suc (k * edge_size)))) ≡ suc k * edge_size = omega arith in
    ap (λ l. 0 ∷ 0 ∷ 0 ∷ 0 ∷ l) (zero-edges k) ∙ ap (λ m. replicate {A = ℕ} m 0) n

-- the chain's edges, then zero edges, fill the record
module _ (c : List Edge) (few : length c ≤ max_edges) where
  abbrev three : List SolutionEdge
  three = map solution_edge c ++ replicate (max_edges - length c) no_edge

  -- what stands before the edges
  abbrev start : List ℕ
  start = octets2 (cost c) ++ (length c ∷ 0 ∷ [])

  at-edges : solution_octets c ≡ start ++ (flat_map edge_octets three ++ [])
  unfolding solution_octets padded octets2
  at-edges =
      let used : List ℕ = flat_map edge_octets (map solution_edge c) in
      let l : length used ≡ length c * edge_size =
      flat-exact edge_octets edge_size (map solution_edge c) (λ e m. edge-length e tt) ∙ ap (λ n. n * edge_size) (length-map c solution_edge) in
      let n : solution_size - length (start ++ used) ≡ (max_edges - length c) * edge_size = omega arith in
      ap (λ l. start ++ (used ++ l)) (ap (λ m. replicate {A = ℕ} m 0) n ∙ sym (zero-edges (max_edges - length c)))
      ∙ ap (λ l. start ++ l) (sym (flat_map-append edge_octets (map solution_edge c) (replicate (max_edges - length c) no_edge)) ∙ sym (append-nil (flat_map edge_octets three)))

  three_back : map (record_edge (solution_octets c)) (range 0 max_edges) ≡ three
  unfolding record_edge edge_offset octets2
  three_back =
      let l : length three ≡ max_edges =
      omega (arith, length-append (map solution_edge c) (replicate (max_edges - length c) no_edge), length-map c solution_edge, length-replicate (max_edges - length c) no_edge) in
      ap (λ n. map (λ k. edge_at (solution_octets c) (solution_head_size + edge_size * k)) (range 0 n)) (sym l)
      ∙ read_all edge_at edge_octets (λ e. Unit {0}) edge_size edge_at-shift edge-back edge-length (solution_octets c) solution_head_size three (λ e m. tt) 0 start [] refl
      at-edges

  -- the record of a chain reads as the chain's cost, count and edges
  pub solution-back : cost c < 2 ^ 16 → solution_in (solution_octets c) ≡ solution_of c
  unfolding solution_in solution_of solution_octets padded octets2
  solution-back h = λ k. record { cost = cost-back c h k; count = length c; edges = three_back k }

-- ---- a path's record

-- an interface that fits in its bytes
pub record GoodInterface (i : PathInterface) : Type 0 where
  pub local : i.local.0 < 2 ^ 64
  pub id : i.id < 2 ^ 16

-- interface k of a list fits, past its end too
interface-of : (is : List PathInterface) → ((i : PathInterface) → Mem i is → GoodInterface i) → (k : ℕ) → (get_or is k no_interface).local.0 < 2 ^ 64
unfolding no_interface isd_asn_at be64 be32 be16
interface-of [] good k = omega arith
interface-of (i ∷ is) good zero = (good i (head refl)).local
interface-of (i ∷ is) good (suc k) = interface-of is (λ j m. good j (tail m)) k

as-back : (a : IsdAsn) → a.0 < 2 ^ 64 → (rest : List ℕ) → isd_asn_at (as_octets a ++ rest) 0 ≡ a
unfolding isd_asn_at as_octets
as-back a h rest = λ k. record { 0 = octets8-back a.0 rest h k }

as-length : (a : IsdAsn) → a.0 < 2 ^ 64 → length (as_octets a) ≡ 8
unfolding as_octets octets8 octets4 octets2
as-length a h = refl

id-length : (x : ℕ) → x < 2 ^ 16 → length (octets2 x) ≡ 2
unfolding octets2
id-length x h = refl

-- ASes and ids read apart make the interfaces
abbrev local_of : PathInterface → IsdAsn
local_of i = i.local

abbrev id_of : PathInterface → ℕ
id_of i = i.id

both_read : (f : ℕ → IsdAsn) (g : ℕ → ℕ) (ks : List ℕ) (is : List PathInterface) → map f ks ≡ map local_of is → map g ks ≡ map id_of is
    → map (λ k. record { local = f k; id = g k }) ks ≡ is
both_read f g [] [] p q = refl
both_read f g [] (i ∷ is) p q = absurd (omega (arith, ap length p))
both_read f g (k ∷ ks) [] p q = absurd (omega (arith, ap length p))
both_read f g (k ∷ ks) (i ∷ is) p q =
    ap₂ {B = List PathInterface} (λ (a : PathInterface) l. a ∷ l) (λ t. record { local = head-eq_of_cons-eq p t; id = head-eq_of_cons-eq q t })
    (both_read f g ks is (tail-eq_of_cons-eq p) (tail-eq_of_cons-eq q))

ases-flat : (is : List PathInterface) → flat_map interface_as_octets is ≡ flat_map as_octets (map local_of is)
unfolding interface_as_octets
ases-flat is = sym (flat-map local_of as_octets is)

-- the ASes of interfaces, read where they stand
pub ases-read : (is : List PathInterface) → ((i : PathInterface) → Mem i is → GoodInterface i) → (r front rest : List ℕ) (base : ℕ)
    → length front ≡ base → r ≡ front ++ (flat_map interface_as_octets is ++ rest) → map (λ k. isd_asn_at r (base + 8 * k)) (range 0 (length is)) ≡ map local_of is
ases-read is good r front rest base l q =
    ap (λ n. map (λ k. isd_asn_at r (base + 8 * k)) (range 0 n)) (sym (length-map is local_of))
    ∙ read_all isd_asn_at as_octets (λ a. a.0 < 2 ^ 64) 8 isd_asn_at-shift as-back as-length r base (map local_of is)
    (λ a m. let w = map-mem local_of is m in subst (λ (x : IsdAsn). x.0 < 2 ^ 64) (sym w.2) (good w.0 w.1).local)
    0 front rest (omega (arith, l)) (q ∙ ap (λ l. front ++ (l ++ rest)) (ases-flat is))

ids-flat : (is : List PathInterface) → flat_map interface_id_octets is ≡ flat_map octets2 (map id_of is)
unfolding interface_id_octets
ids-flat is = sym (flat-map id_of octets2 is)

regroup : (h i k x y z : List ℕ) → ((((h ++ i) ++ k) ++ x) ++ y) ++ z ≡ ((h ++ i) ++ k) ++ (x ++ (y ++ z))
regroup h i k x y z = simp append_assoc

module _ (p : CombinedPath) (n : ℕ) where
  abbrev whole : List ℕ
  whole = padded n (path_octets p)

  -- what stands before the interfaces
  abbrev front : List ℕ
  front = (path_head_octets (path_head p) ++ flat_map info_octets p.infos) ++ flat_map hop_octets p.hops

  abbrev after : List ℕ
  after = replicate (n - length (path_octets p)) 0

  abbrev base : ℕ
  base = path_head_size + info_size * length p.infos + hop_size * length p.hops

  at-ases : whole ≡ front ++ (flat_map interface_as_octets p.interfaces ++ (flat_map interface_id_octets p.interfaces ++ after))
  unfolding padded path_octets
  at-ases = regroup (path_head_octets (path_head p)) (flat_map info_octets p.infos) (flat_map hop_octets p.hops) (flat_map interface_as_octets p.interfaces) _ _

  at-ids : whole ≡ (front ++ flat_map interface_as_octets p.interfaces) ++ (flat_map octets2 (map id_of p.interfaces) ++ after)
  unfolding padded path_octets
  at-ids =
      append_assoc (front ++ flat_map interface_as_octets p.interfaces) (flat_map interface_id_octets p.interfaces) after
      ∙ ap (λ l. (front ++ flat_map interface_as_octets p.interfaces) ++ (l ++ after)) (ids-flat p.interfaces)

  counts-interfaces : (path_head_in whole).interfaces ≡ length p.interfaces
  unfolding path_head_in padded path_octets path_head_octets path_head
  counts-interfaces = refl

  starts-ases : ases_offset whole ≡ base
  unfolding ases_offset path_head_in padded path_octets path_head_octets path_head
  starts-ases = refl

  starts-ids : ids_offset whole ≡ base + 8 * length p.interfaces
  unfolding ids_offset
  starts-ids = ap₂ (λ a m. a + 8 * m) starts-ases counts-interfaces

  module _ (good : (i : PathInterface) → Mem i p.interfaces → GoodInterface i) where
    -- what stands before the infos reads as the path's counts, MTU, expiry, and first and last AS
    pub head-back : p.mtu < 2 ^ 16 → p.expiry < 2 ^ 32 → path_head_in (padded n (path_octets p)) ≡ path_head p
    unfolding path_head_in padded path_octets path_head_octets path_head isd_asn_at as_octets be64 be32 be16 octets8 octets4 octets2
    head-back m e =
        λ k. record {
          infos = length p.infos;
          hops = length p.hops;
          interfaces = length p.interfaces;
          mtu = octets2-back p.mtu [] m k;
          expiry = octets4-back p.expiry [] e k;
          first = as-back (get_or p.interfaces 0 no_interface).local (interface-of p.interfaces good 0) [] k;
          last = as-back (get_or p.interfaces (length p.interfaces - 1) no_interface).local (interface-of p.interfaces good (length p.interfaces - 1)) [] k;
        }

    -- the interfaces of a path's record are the path's
    pub interfaces-back : ((h : HopField) → Mem h p.hops → GoodHop h) → interfaces_in (padded n (path_octets p)) ≡ p.interfaces
    unfolding interfaces_in record_interface
    interfaces-back hops =
        ap (λ m. map (record_interface whole) (range 0 m)) counts-interfaces
        ∙ both_read (λ k. isd_asn_at whole (ases_offset whole + 8 * k)) (λ k. be16 whole (ids_offset whole + 2 * k)) (range 0 (length p.interfaces)) p.interfaces ases ids
      where
        front_length : length front ≡ base
        front_length =
            omega (
              arith,
              length-append (path_head_octets (path_head p)) (flat_map info_octets p.infos),
              length-append (path_head_octets (path_head p) ++ flat_map info_octets p.infos) (flat_map hop_octets p.hops),
              head-length (path_head p),
              flat-exact info_octets info_size p.infos (λ i m. info-length i),
              flat-exact hop_octets hop_size p.hops (λ h m. hop-length h (hops h m)),
            )

        ases : map (λ k. isd_asn_at whole (ases_offset whole + 8 * k)) (range 0 (length p.interfaces)) ≡ map local_of p.interfaces
        ases =
            ap (λ a. map (λ k. isd_asn_at whole (a + 8 * k)) (range 0 (length p.interfaces))) starts-ases
            ∙ ases-read p.interfaces good whole front (flat_map interface_id_octets p.interfaces ++ after) base front_length at-ases

        ids : map (λ k. be16 whole (ids_offset whole + 2 * k)) (range 0 (length p.interfaces)) ≡ map id_of p.interfaces
        ids =
            ap₂ (λ a m. map (λ k. be16 whole (a + 2 * k)) (range 0 m)) starts-ids (sym (length-map p.interfaces id_of))
            ∙ read_all be16 octets2 (λ x. x < 2 ^ 16) 2 be16-shift (λ x h rest. octets2-back x rest h) id-length whole (base + 8 * length p.interfaces) (map id_of p.interfaces)
            (λ x m. let w = map-mem id_of p.interfaces m in subst (λ (y : ℕ). y < 2 ^ 16) (sym w.2) (good w.0 w.1).id)
            0 (front ++ flat_map interface_as_octets p.interfaces) after
            (omega (
              arith,
              front_length,
              length-append front (flat_map interface_as_octets p.interfaces),
              flat-exact interface_as_octets 8 p.interfaces (λ i m. unfold interface_as_octets in as-length i.local (good i m).local),
            ))
            at-ids

-- ---- a chain's path fits

least-le : (m : ℕ) (xs : List ℕ) → least m xs ≤ m
unfolding least
least-le m [] = le_refl m
least-le m (x ∷ xs) = omega (arith, least-le (min m x) xs)

interface-if : (t : Bool) (a : IsdAsn) (x : ℕ) → a.0 < 2 ^ 64 → x < 2 ^ 16 → {i : PathInterface} → Mem i (interface_if t a x) → GoodInterface i
unfolding interface_if
interface-if true a x h k m = subst GoodInterface (sym (eq_of_singleton m)) (record { local = h; id = k })
interface-if false a x h k m = absurd (not-nil m)

interface-either : (s t : Bool) (a : IsdAsn) (x y : ℕ) → a.0 < 2 ^ 64 → x < 2 ^ 16 → y < 2 ^ 16 → {i : PathInterface}
    → Mem i (interface_if s a x ++ interface_if t a y) → GoodInterface i
interface-either s t a x y h k l m = ⊎_elim (interface-if s a x h k) (interface-if t a y h l) (append_cases (interface_if s a x) m)

module _ (b : List ℕ) (bytes : Bytes b) where
  -- what is read from eight bytes is below 2 ^ 64
  pub be64-lt : (i : ℕ) → be64 b i < 2 ^ 64
  unfolding be64
  be64-lt i = omega (arith, be32-lt b bytes i, be32-lt b bytes (i + 4))

  as-lt : (k i : ℕ) → i < entry_count_at b k → (as_of (segment_at b k) i).0 < 2 ^ 64
  unfolding as_of entry_at as_entry_at isd_asn_at
  as-lt k i h = subst (λ (x : Entry). x.own.local.0 < 2 ^ 64) (sym (entry-at b k i h)) (be64-lt (entry_offset b (body_offset b k) i))

  interfaces-at : (k : ℕ) (e : Edge) (i : ℕ) → i < entry_count_at b k → {x : PathInterface} → Mem x (interfaces_at (segment_at b k) e i) → GoodInterface x
  unfolding interfaces_at
  interfaces-at k e i h m =
      let g : GoodHop (hop_of (segment_at b k) e i) = hop-good b bytes k e i in
      interface-either _ _ _ _ _ (as-lt k i h) g.egress g.ingress m

  interfaces-of : (k : ℕ) (e : Edge) {x : PathInterface} → Mem x (interfaces_of (segment_at b k) e) → GoodInterface x
  unfolding interfaces_of used_entries hop_count in_direction
  interfaces-of k e {x} m = go e.construction m
    where
      seg : Segment
      seg = segment_at b k

      every : Mem x (flat_map (interfaces_at seg e) (used_entries seg e)) → GoodInterface x
      every l =
          let w = flat_map-mem (interfaces_at seg e) (used_entries seg e) l in
          let r = range-mem e.shortcut (hop_count seg e) (reverse-mem _ w.1) in
          interfaces-at k e w.0 (omega (arith, segment-length b k)) w.2

      go : (t : Bool) → Mem x (in_direction t (flat_map (interfaces_at seg e) (used_entries seg e))) → GoodInterface x
      go true l = every (reverse-mem _ l)
      go false l = every l

  -- the interfaces of a path fit in their bytes
  pub good-interfaces : (c : List Edge) (i : PathInterface) → Mem i (combined_path b c).interfaces → GoodInterface i
  unfolding combined_path interfaces_on segment_of
  good-interfaces c i m = let w = flat_map-mem (interfaces_on b) c m in interfaces-of w.0.position w.0 w.2

-- and so does its MTU
pub mtu-lt : (b : List ℕ) (c : List Edge) → (combined_path b c).mtu < 2 ^ 16
unfolding combined_path
mtu-lt b c = omega (arith, least-le max_mtu (flat_map (mtus_on b) c))

-- and its expiry
pub expiry-lt : (b : List ℕ) (c : List Edge) → (combined_path b c).expiry < 2 ^ 32
unfolding combined_path
expiry-lt b c = omega (arith, least-le max_time (map (expiry_on b) c))

-- each part read from the record of a chain's path is the path's own
pub record PathRead (b : List ℕ) (c : List Edge) (n : ℕ) : Type 0 where
  pub head : path_head_in (padded n (path_octets (combined_path b c))) ≡ path_head (combined_path b c)
  pub infos : infos_in (padded n (path_octets (combined_path b c))) ≡ (combined_path b c).infos
  pub hops : hops_in (padded n (path_octets (combined_path b c))) ≡ (combined_path b c).hops
  pub interfaces : interfaces_in (padded n (path_octets (combined_path b c))) ≡ (combined_path b c).interfaces

-- so for any edges, whether the book is accepted or not
pub path-read : (b : List ℕ) → Bytes b → (c : List Edge) (n : ℕ) → PathRead b c n
path-read b bytes c n =
    let p : CombinedPath = combined_path b c in
    let hops : (x : HopField) → Mem x p.hops → GoodHop x = good-hops b bytes c in
    let interfaces : (i : PathInterface) → Mem i p.interfaces → GoodInterface i = good-interfaces b bytes c in
    record {
      head = head-back p n interfaces (mtu-lt b c) (expiry-lt b c);
      infos = infos-back p n (good-infos b bytes c);
      hops = hops-back p n hops;
      interfaces = interfaces-back p n interfaces hops;
    }

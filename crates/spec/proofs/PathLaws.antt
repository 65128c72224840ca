-- A router fed the path record of a chain of stored edges holds the ids that demand 3 asks for.
-- Assumes nothing.
use Prim.Native.Nat.{ℕ, ◌+◌, ◌-◌, ◌*◌}
use native.Mathlib.Nat.{add_comm, mul-suc}
use native.Mathlib.Omega.{arith}
use mathlib.Core.Path.{◌≡◌, refl, sym, ap, ap₂, ◌∙◌, subst}
use mathlib.Core.Bool.{Bool, true, false}
use mathlib.Core.List.Memᴰ.{head, tail}
use mathlib.Core.List.{List, [], ◌∷◌, ◌++◌, map, flat_map, append_assoc, Memᴰ as Mem}
use lib.ListN.{length, replicate, length-append, length-map, length-reverse}
use lib.Seq.{take_at, drop_at}
use Rattle.spec.specs.declared.HopField.{HopField}
use Rattle.spec.specs.declared.InfoField.{InfoField}
use Rattle.spec.specs.declared.Edge.{Edge}
use Rattle.spec.specs.Limits.{path_head_size, info_size, hop_size}
use Rattle.spec.specs.Basics.{range, padded}
use Rattle.spec.specs.Octets.{Bytes, octets2, octets4, octets8}
use Rattle.spec.specs.Book.{Segment}
use Rattle.spec.specs.declared.Path.{Path}
use Rattle.spec.specs.Assembly.{is_peer_edge, in_direction, used_entries, hop_of, hop_count, hops_of, info_of, segment_of, info_on, hops_on, CombinedPath, combined_path}
use Rattle.spec.specs.Records.{info_octets, hop_octets, as_octets, interface_as_octets, interface_id_octets, path_head, path_head_octets, path_head_in, path_octets}
use Rattle.spec.specs.Router.{info_at, hop_at, record_info, record_hop, infos_in, hops_in, walk_info, walk_infos, router_ids, is_along, InfoShape, shape_of, shape_on, entry_hops_on, held_on, RouterAgrees}
use Rattle.spec.proofs.Membership.{map-mem, flat_map-mem}
use Rattle.spec.proofs.Lists.{length-range}
use Rattle.spec.proofs.RouterLaws.{hops-entries, walk-info}
use Rattle.spec.proofs.ByteLaws.{GoodInfo, GoodHop, info_at-shift, hop_at-shift, info-back, hop-back, info-length, hop-length, read_all}
use Rattle.spec.proofs.BookLaws.{Stored, hops-good, info-good}

-- ---- the walk over a whole path

pub direction-length : {A : Type 0} (t : Bool) (xs : List A) → length (in_direction t xs) ≡ length xs
unfolding in_direction
direction-length true xs = length-reverse xs
direction-length false xs = refl

pub used-length : (seg : Segment) (e : Edge) → length (used_entries seg e) ≡ hop_count seg e
unfolding used_entries
used-length seg e = length-reverse (range e.shortcut (hop_count seg e)) ∙ length-range e.shortcut (hop_count seg e)

pub hops-length : (seg : Segment) (e : Edge) → length (hops_of seg e) ≡ hop_count seg e
unfolding hops_of
hops-length seg e =
    direction-length e.construction (map (hop_of seg e) (used_entries seg e)) ∙ length-map (used_entries seg e) (hop_of seg e) ∙ used-length seg e

info-hops : (seg : Segment) (e : Edge) → (info_of seg e).hops ≡ hop_count seg e
unfolding info_of
info-hops seg e = refl

module _ (b : List ℕ) where
  -- direction, as assembly goes by it and as demand 3 states it
  along : (e : Edge) → Stored b e → e.construction ≡ is_along (segment_of b e) e
  unfolding is_along
  along e st = st.edge.direction

  pub walk-chain : (c : List Edge) → ((e : Edge) → Mem e c → Stored b e) → walk_infos (map (info_on b) c) (flat_map (hops_on b) c) ≡ flat_map (held_on b) c
  unfolding walk_infos flat_map info_on hops_on held_on
  walk-chain [] st = refl
  walk-chain (e ∷ c) st =
      let seg : Segment = segment_of b e in
      let hops : List HopField = hops_of seg e in
      let s : Stored b e = st e (head refl) in
      let n : length hops ≡ (info_of seg e).hops = hops-length seg e ∙ sym (info-hops seg e) in
      ap₂ (λ x y. walk_info (info_of seg e) x ++ walk_infos (map (info_on b) c) y)
      (take_at hops (flat_map (hops_on b) c) (info_of seg e).hops n) (drop_at hops (flat_map (hops_on b) c) (info_of seg e).hops n)
      ∙ ap₂ (λ x y. x ++ y) (walk-info seg e (along e s) s.edge.shortcut) (walk-chain c (λ f m. st f (tail m)))

-- ---- the record's bytes

pub regroup : (h i k x y z : List ℕ) → ((((h ++ i) ++ k) ++ x) ++ y) ++ z ≡ h ++ (i ++ (k ++ (x ++ (y ++ z))))
regroup h i k x y z = simp append_assoc

regroup' : (h i k x y z : List ℕ) → ((((h ++ i) ++ k) ++ x) ++ y) ++ z ≡ (h ++ i) ++ (k ++ (x ++ (y ++ z)))
regroup' h i k x y z = simp append_assoc

pub infos-length : (is : List InfoField) → length (flat_map info_octets is) ≡ info_size * length is
unfolding flat_map
infos-length [] = refl
infos-length (i ∷ is) =
    length-append (info_octets i) (flat_map info_octets is) ∙ ap₂ (λ a c. a + c) (info-length i) (infos-length is)
    ∙ add_comm 8 (info_size * length is) ∙ sym (mul-suc info_size (length is))

pub head-length : (h : Path) → length (path_head_octets h) ≡ path_head_size
unfolding path_head_octets as_octets octets8 octets4 octets2
head-length h = refl

module _ (p : CombinedPath) (n : ℕ) where
  -- what stands before the infos
  abbrev front : List ℕ
  front = path_head_octets (path_head p)

  -- what stands after the hops
  rest : List ℕ
  rest =
      flat_map interface_as_octets p.interfaces
      ++ (flat_map interface_id_octets p.interfaces ++ replicate (n - length (path_octets p)) 0)

  at-infos : padded n (path_octets p) ≡ front ++ (flat_map info_octets p.infos ++ (flat_map hop_octets p.hops ++ rest))
  unfolding padded path_octets rest
  at-infos = regroup front (flat_map info_octets p.infos) (flat_map hop_octets p.hops) _ _ _

  at-hops : padded n (path_octets p) ≡ (front ++ flat_map info_octets p.infos) ++ (flat_map hop_octets p.hops ++ rest)
  unfolding padded path_octets rest
  at-hops = regroup' front (flat_map info_octets p.infos) (flat_map hop_octets p.hops) _ _ _

  counts-infos : (path_head_in (padded n (path_octets p))).infos ≡ length p.infos
  unfolding path_head_in padded path_octets path_head_octets path_head
  counts-infos = refl

  counts-hops : (path_head_in (padded n (path_octets p))).hops ≡ length p.hops
  unfolding path_head_in padded path_octets path_head_octets path_head
  counts-hops = refl

  pub infos-back : ((i : InfoField) → Mem i p.infos → GoodInfo i) → infos_in (padded n (path_octets p)) ≡ p.infos
  unfolding infos_in record_info
  infos-back good =
      let r : List ℕ = padded n (path_octets p) in
      ap (λ k. map (λ j. info_at r (path_head_size + info_size * j)) (range 0 k)) counts-infos
      ∙ read_all info_at info_octets GoodInfo info_size info_at-shift info-back (λ i g. info-length i) r path_head_size p.infos good 0 front
      (flat_map hop_octets p.hops ++ rest) (head-length (path_head p)) at-infos

  pub hops-back : ((h : HopField) → Mem h p.hops → GoodHop h) → hops_in (padded n (path_octets p)) ≡ p.hops
  unfolding hops_in record_hop
  hops-back good =
      let r : List ℕ = padded n (path_octets p) in
      let base : ℕ = path_head_size + info_size * length p.infos in
      ap₂ (λ m k. map (λ j. hop_at r (path_head_size + info_size * m + hop_size * j)) (range 0 k)) counts-infos counts-hops
      ∙ read_all hop_at hop_octets GoodHop hop_size hop_at-shift hop-back hop-length r base p.hops good 0 (front ++ flat_map info_octets p.infos) rest
      (length-append front (flat_map info_octets p.infos) ∙ ap₂ (λ a c. a + c) (head-length (path_head p)) (infos-length p.infos) ∙ omega arith)
      at-hops

-- ---- the theorem

module _ (b : List ℕ) where
  shape : (e : Edge) → Stored b e → shape_of (info_on b e) ≡ shape_on b e
  unfolding shape_of info_on info_of shape_on
  shape e st =
      ap {B = InfoShape} (λ t. record { construction = t; peering = is_peer_edge e; hops = hop_count (segment_of b e) e }) (along b e st)

  shapes : (c : List Edge) → ((e : Edge) → Mem e c → Stored b e) → map shape_of (map (info_on b) c) ≡ map (shape_on b) c
  shapes [] st = refl
  shapes (e ∷ c) st = ap₂ (λ x l. x ∷ l) (shape e (st e (head refl))) (shapes c (λ f m. st f (tail m)))

  hop-lists : (c : List Edge) → ((e : Edge) → Mem e c → Stored b e) → flat_map (hops_on b) c ≡ flat_map (entry_hops_on b) c
  unfolding flat_map hops_on entry_hops_on
  hop-lists [] st = refl
  hop-lists (e ∷ c) st = ap₂ (λ x y. x ++ y) (hops-entries (segment_of b e) e (along b e (st e (head refl)))) (hop-lists c (λ f m. st f (tail m)))

module _ (b : List ℕ) (bytes : Bytes b) (c : List Edge) where
  abbrev path : CombinedPath
  path = combined_path b c

  pub good-infos : (i : InfoField) → Mem i path.infos → GoodInfo i
  unfolding combined_path info_on segment_of
  good-infos i m = let w = map-mem (info_on b) c m in subst GoodInfo (sym w.2) (info-good b bytes w.0.position w.0)

  pub good-hops : (h : HopField) → Mem h path.hops → GoodHop h
  unfolding combined_path hops_on segment_of
  good-hops h m = let w = flat_map-mem (hops_on b) c m in hops-good b bytes w.0.position w.0 w.2

  pub router-agrees : ((e : Edge) → Mem e c → Stored b e) → (n : ℕ) → RouterAgrees b c (padded n (path_octets (combined_path b c)))
  unfolding combined_path router_ids
  router-agrees st n =
      record {
        infos = ap (map shape_of) (infos-back path n good-infos) ∙ shapes b c st;
        hops = hops-back path n good-hops ∙ hop-lists b c st;
        held = ap₂ walk_infos (infos-back path n good-infos) (hops-back path n good-hops) ∙ walk-chain b c st;
      }

-- Edges and paths of an accepted book stay within the record's bytes: positions below 64, shortcuts below 16, peers to 4, and a path
-- record of at most 1,538 bytes.
-- Assumes nothing.
use Prim.Native.Nat.{ℕ, ◌+◌, ◌*◌, ◌^◌, ◌≤◌, ◌<◌, zero-le}
use native.Mathlib.Nat.{suc-mul, zero-mul}
use native.Mathlib.Omega.{arith}
use mathlib.Core.Path.{◌≡◌, refl, sym, ap, ◌∙◌}
use mathlib.Core.Bool.{Bool, true, false}
use mathlib.Core.List.Memᴰ.{head, tail}
use mathlib.Core.List.{List, [], ◌∷◌, ◌++◌, flat_map, Memᴰ as Mem}
use lib.ListN.{length, length-append, length-map}
use Rattle.spec.specs.declared.IsdAsn.{IsdAsn}
use Rattle.spec.specs.declared.HopField.{HopField}
use Rattle.spec.specs.declared.Edge.{Edge}
use Rattle.spec.specs.Limits.{max_edges, max_entries, max_peers, max_segments, path_size, path_head_size, info_size, hop_size, interface_size}
use Rattle.spec.specs.Basics.{range, sum}
use Rattle.spec.specs.Order.{weight_of, cost}
use Rattle.spec.specs.Octets.{Bytes, octets2, octets4, octets8}
use Rattle.spec.specs.Book.{Segment, entry_count_at, entry_at, entry_offset, body_offset, peer_count, peer_of_entry_at, segment_at}
use Rattle.spec.specs.Edges.{entry_of}
use Rattle.spec.specs.Assembly.{hop_count, used_entries, interface_if, interfaces_at, interfaces_of, segment_of, info_on, hops_on, interfaces_on, CombinedPath, combined_path}
use Rattle.spec.specs.Records.{info_octets, hop_octets, as_octets, interface_as_octets, interface_id_octets, path_head, path_head_octets, path_octets}
use Rattle.spec.specs.Chains.{IsChain}
use Rattle.spec.proofs.ChainLaws.{allowed-length}
use Rattle.spec.proofs.Lists.{length-range}
use Rattle.spec.proofs.BookLaws.{AcceptedBook, Stored, stored, entry-count, segment-length}
use Rattle.spec.proofs.BodyLaws.{entry-at, entry_place}
use Rattle.spec.proofs.ByteLaws.{GoodHop, info-length, hop-length}
use Rattle.spec.proofs.PathLaws.{direction-length, used-length, hops-length, head-length, good-hops}

-- ---- an edge

pub record EdgeBounds (b : List ℕ) (e : Edge) : Type 0 where
  pub position : e.position < max_segments
  pub shortcut : e.shortcut < max_entries
  pub peer : e.peer ≤ max_peers
  pub weight : e.weight ≤ max_entries
  pub hops : hop_count (segment_of b e) e ≤ max_entries

entry-peers : (b : List ℕ) (at : ℕ) → length (entry_at b at).peers ≡ peer_count b at
unfolding entry_at
entry-peers b at = length-map (range 0 (peer_count b at)) (peer_of_entry_at b at) ∙ length-range 0 (peer_count b at)

pub edge-bounds : (b : List ℕ) → AcceptedBook b → (e : Edge) → Stored b e → EdgeBounds b e
unfolding segment_of hop_count
edge-bounds b a e s =
    let k : ℕ = e.position in
    let n = entry-count b a k s.position in
    let l : length (segment_at b k).entries ≡ entry_count_at b k = segment-length b k in
    let i : e.shortcut < length (segment_at b k).entries = s.edge.shortcut in
    let j : e.shortcut < entry_count_at b k = omega arith in
    let g = entry_place b a k s.position e.shortcut j in
    let f : peer_count b (entry_offset b (body_offset b k) e.shortcut) ≤ max_peers = g.few in
    let p : e.peer ≤ length (entry_of (segment_at b k) e.shortcut).peers = s.edge.peer in
    let q : length (entry_of (segment_at b k) e.shortcut).peers ≡ peer_count b (entry_offset b (body_offset b k) e.shortcut) =
    ap (λ x. length x.peers) (entry-at b k e.shortcut j) ∙ entry-peers b (entry_offset b (body_offset b k) e.shortcut) in
    record {
      position = omega (arith, s.position, a.crowd);
      shortcut = omega arith;
      peer = omega arith;
      weight = omega (arith, s.edge.weight);
      hops = omega arith;
    }

-- a chain's cost, from its edges' weights
pub cost-most : (b : List ℕ) (c : List Edge) → ((e : Edge) → Mem e c → EdgeBounds b e) → cost c ≤ length c * max_entries
unfolding cost sum weight_of
cost-most b [] h = zero-le
cost-most b (e ∷ c) h = omega (arith, suc-mul (length c) max_entries, (h e (head refl)).weight, cost-most b c (λ f m. h f (tail m)))

-- ---- a path

-- lists of at most so many elements each, and of just so many
module _ {A B : Type 0} (f : A → List B) (size : ℕ) where
  pub flat-most : (xs : List A) → ((x : A) → Mem x xs → length (f x) ≤ size) → length (flat_map f xs) ≤ length xs * size
  unfolding flat_map
  flat-most [] h = zero-le
  flat-most (x ∷ xs) h =
      omega (arith, suc-mul (length xs) size, length-append (f x) (flat_map f xs), h x (head refl), flat-most xs (λ y m. h y (tail m)))

  pub flat-exact : (xs : List A) → ((x : A) → Mem x xs → length (f x) ≡ size) → length (flat_map f xs) ≡ length xs * size
  unfolding flat_map
  flat-exact [] h = sym (zero-mul size)
  flat-exact (x ∷ xs) h =
      omega (arith, suc-mul (length xs) size, length-append (f x) (flat_map f xs), h x (head refl), flat-exact xs (λ y m. h y (tail m)))

at_most_one : (t : Bool) (a : IsdAsn) (id : ℕ) → length (interface_if t a id) ≤ 1
unfolding interface_if
at_most_one true a id = omega arith
at_most_one false a id = omega arith

two-interfaces : (seg : Segment) (e : Edge) (i : ℕ) → length (interfaces_at seg e i) ≤ 2
unfolding interfaces_at
two-interfaces seg e i = both _ _ _ _ _
  where
    both : (s t : Bool) (a : IsdAsn) (x y : ℕ) → length (interface_if s a x ++ interface_if t a y) ≤ 2
    both s t a x y = omega (arith, length-append (interface_if s a x) (interface_if t a y), at_most_one s a x, at_most_one t a y)

pub interfaces-most : (seg : Segment) (e : Edge) → length (interfaces_of seg e) ≤ hop_count seg e * 2
unfolding interfaces_of
interfaces-most seg e =
    omega (
      arith,
      direction-length e.construction (flat_map (interfaces_at seg e) (used_entries seg e)),
      used-length seg e,
      flat-most (interfaces_at seg e) 2 (used_entries seg e) (λ i m. two-interfaces seg e i),
    )

-- hops and interfaces of a path, from those of its edges
module _ (b : List ℕ) (c : List Edge) (few : length c ≤ max_edges) (each : (e : Edge) → Mem e c → hop_count (segment_of b e) e ≤ max_entries) where
  pub path-hops : length (combined_path b c).hops ≤ max_edges * max_entries
  unfolding combined_path hops_on
  path-hops = omega (arith, flat-most (hops_on b) max_entries c (λ e m. omega (arith, hops-length (segment_of b e) e, each e m)))

  pub path-interfaces : length (combined_path b c).interfaces ≤ max_edges * max_entries * 2
  unfolding combined_path interfaces_on
  path-interfaces = omega (arith, flat-most (interfaces_on b) (max_entries * 2) c (λ e m. omega (arith, interfaces-most (segment_of b e) e, each e m)))

octets-split : (p : CombinedPath)
    → path_octets p
    ≡ (((path_head_octets (path_head p) ++ flat_map info_octets p.infos) ++ flat_map hop_octets p.hops) ++ flat_map interface_as_octets p.interfaces)
    ++ flat_map interface_id_octets p.interfaces
unfolding path_octets
octets-split p = refl

-- the record's length, from how many infos, hops and interfaces there are
pub path-length : (p : CombinedPath) → ((h : HopField) → Mem h p.hops → GoodHop h)
    → length (path_octets p) ≡ path_head_size + length p.infos * info_size + length p.hops * hop_size + length p.interfaces * interface_size
path-length p good =
    let infos : List ℕ = flat_map info_octets p.infos in
    let hops : List ℕ = flat_map hop_octets p.hops in
    let ases : List ℕ = flat_map interface_as_octets p.interfaces in
    let ids : List ℕ = flat_map interface_id_octets p.interfaces in
    let front : List ℕ = path_head_octets (path_head p) in
    let f : length front ≡ path_head_size = head-length (path_head p) in
    let l₁ = length-append front infos in
    let l₂ = length-append (front ++ infos) hops in
    let l₃ = length-append ((front ++ infos) ++ hops) ases in
    let l₄ = length-append (((front ++ infos) ++ hops) ++ ases) ids in
    let e₁ = flat-exact info_octets info_size p.infos (λ i m. info-length i) in
    let e₂ = flat-exact hop_octets hop_size p.hops (λ h m. hop-length h (good h m)) in
    let e₃ = flat-exact interface_as_octets 8 p.interfaces (λ i m. unfold interface_as_octets as_octets octets8 octets4 octets2 in refl) in
    let e₄ = flat-exact interface_id_octets 2 p.interfaces (λ i m. unfold interface_id_octets octets2 in refl) in
    ap length (octets-split p) ∙ l₄ ∙ omega arith

pub path-fits : (b : List ℕ) → Bytes b → AcceptedBook b → (c : List Edge) → length c ≤ max_edges → ((e : Edge) → Mem e c → Stored b e)
    → length (path_octets (combined_path b c)) ≤ path_size
unfolding combined_path
path-fits b bytes a c most st =
    let each : (e : Edge) → Mem e c → hop_count (segment_of b e) e ≤ max_entries = λ e m. (edge-bounds b a e (st e m)).hops in
    omega (arith, path-length (combined_path b c) (good-hops b bytes c), length-map c (info_on b), path-hops b c most each, path-interfaces b c most each)

-- ---- a chain

pub record ChainBounds (b : List ℕ) (c : List Edge) : Type 0 where
  pub count : length c ≤ max_edges
  pub edges : (e : Edge) → Mem e c → EdgeBounds b e
  pub cost : cost c < 2 ^ 16
  pub path : length (path_octets (combined_path b c)) ≤ path_size

pub chain-bounds : (b : List ℕ) → Bytes b → AcceptedBook b → (src dst : IsdAsn) (c : List Edge) → IsChain b src dst c → ChainBounds b c
chain-bounds b bytes a src dst c h =
    let st : (e : Edge) → Mem e c → Stored b e = λ e m. stored b (h.stored e m) in
    let n : length c ≤ max_edges = allowed-length c h.kinds in
    let bound : (e : Edge) → Mem e c → EdgeBounds b e = λ e m. edge-bounds b a e (st e m) in
    record { count = n; edges = bound; cost = omega (arith, cost-most b c bound); path = path-fits b bytes a c n st }

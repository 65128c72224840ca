-- Where the entries of an edge stand, and what is read there.
-- Assumes nothing.
use Prim.Native.Nat.{ℕ, ◌+◌, ◌-◌, ◌*◌, ◌^◌, ◌≤◌, ◌<◌}
use native.Mathlib.Omega.{arith}
use mathlib.Core.Path.{◌≡◌, refl, sym, ap, ◌∙◌, subst}
use mathlib.Core.Bool.{Bool, true, false, ◌&&◌}
use mathlib.Core.List.{List}
use lib.ListN.{length, get_or}
use lib.Dec.{ltb}
use borrow.Author.Tests.{ltb-true, eqb-true, eq-eqb, ne_eqb}
use Rattle.spec.specs.declared.HopField.{HopField}
use Rattle.spec.specs.declared.AsEntry.{AsEntry}
use Rattle.spec.specs.declared.PeerEntry.{PeerEntry}
use Rattle.spec.specs.declared.Edge.{Edge}
use Rattle.std.specs.Prelude.{Ok, if◌then◌else◌}
use Rattle.spec.specs.Limits.{sizes_size, head_size, max_entries, max_segments}
use Rattle.spec.specs.Octets.{be16, be32}
use Rattle.spec.specs.Book.{verdict, head_offset, timestamp_at, id_at, entry_count_at, body_offset, entry_offset, peer_count, isd_asn_at, as_entry_at, peer_entry_at, segment_at}
use Rattle.spec.specs.Edges.{entry_of, as_of, peer_of}
use Rattle.spec.specs.Assembly.{is_peer_hop, is_peer_edge, at_shortcut, hop_of, segment_of}
use Rattle.spec.proofs.Membership.{and-true}
use Rattle.spec.proofs.BookLaws.{AcceptedBook, accepted, entry-count, segment-length}
use Rattle.spec.proofs.BodyLaws.{entry_place, body_end, peer-place}
use Rattle.segment.proofs.Fitting.{own_read, peers-read, peer-read, offset-small}
use Rattle.book.proofs.Tables.{table_at}
use Rattle.graph.specs.Leaving.{entry_count}
use Rattle.graph.proofs.OpenedReads.{count-place, count_low_lem}
use Rattle.graph.specs.Ready.{Ready}
use Rattle.path.specs.Edges.{InBook}
use Rattle.path.specs.Places.{is_inner_shortcut, link_offset, PeerStandsAt, StandsAt, entry_from}

peer-at : (e : Edge) (m : ℕ) → is_peer_hop e m ≡ true → (m ≡ e.shortcut) × (0 < e.peer)
unfolding is_peer_hop at_shortcut is_peer_edge
peer-at e m q =
    let p = and-true _ _ q in
    (eqb-true _ _ p.0, ltb-true _ _ p.1)

-- ---- the tests of an entry

pub peer-test : (e : Edge) (m : ℕ) → m ≡ e.shortcut → ltb 0 e.peer ≡ is_peer_hop e m
unfolding is_peer_hop at_shortcut is_peer_edge
peer-test e m q = sym (ap (λ t. t && ltb 0 e.peer) (eq-eqb m e.shortcut q))

pub peer-none : (e : Edge) (m : ℕ) → (m ≡ e.shortcut → ⊥) → false ≡ is_peer_hop e m
unfolding is_peer_hop at_shortcut
peer-none e m f = sym (ap (λ t. t && is_peer_edge e) (ne_eqb m e.shortcut f))

pub inner-test : (e : Edge) (m : ℕ) → m ≡ e.shortcut → ltb 0 e.shortcut ≡ is_inner_shortcut e m
unfolding is_inner_shortcut at_shortcut
inner-test e m q = sym (ap (λ t. t && ltb 0 e.shortcut) (eq-eqb m e.shortcut q))

pub inner-none : (e : Edge) (m : ℕ) → (m ≡ e.shortcut → ⊥) → false ≡ is_inner_shortcut e m
unfolding is_inner_shortcut at_shortcut
inner-none e m f = sym (ap (λ t. t && ltb 0 e.shortcut) (ne_eqb m e.shortcut f))

-- ---- the table tells where an entry stands

module _ (b : List ℕ) (a : AcceptedBook b) (e : Edge) (u : InBook b e) where
  abbrev k : ℕ
  k = e.position

  pub count-is : length (segment_of b e).entries ≡ entry_count_at b e.position
  unfolding segment_of
  count-is = segment-length b e.position

  pub count_most : length (segment_of b e).entries ≤ max_entries
  count_most = omega (arith, count-is, entry-count b a k u.position)

  -- the entry's place in the table
  pub row_small : (m : ℕ) → m < length (segment_of b e).entries → max_entries * e.position + m < max_segments * max_entries
  row_small m h = omega (arith, count_most, u.position, a.crowd)

  module _ (m : ℕ) (h : m < length (segment_of b e).entries) where
    abbrev at : ℕ
    at = entry_offset b (body_offset b k) m

    inside : m < entry_count_at b k
    inside = omega (arith, count-is)

    link : is_peer_hop e m ≡ true → PeerStandsAt b e m at
    unfolding segment_of link_offset
    link q =
        let w = peer-at e m q in
        let some : 0 < e.peer = w.1 in
        let n : length (entry_of (segment_at b k) m).peers ≡ peer_count b at = peers-read b k m inside in
        let most : e.peer ≤ length (entry_of (segment_at b k) m).peers =
        subst (λ i. e.peer ≤ length (entry_of (segment_at b k) i).peers) (sym w.0) u.peer in
        let few : e.peer - 1 < peer_count b at = omega arith in
        record {
          some = some;
          peer = peer-read b k m (e.peer - 1) inside few;
          room = omega (arith, peer-place b a k u.position m (e.peer - 1) inside few, body_end b a k u.position);
        }

    here : StandsAt b e m at
    unfolding segment_of
    here =
        record {
          own = own_read b k m inside;
          room = omega (arith, (entry_place b a k u.position m inside).entry, body_end b a k u.position);
          link = link;
        }

pub stands : (b offsets : List ℕ) → Ready b offsets → (e : Edge) → InBook b e → (m : ℕ) → m < length (segment_of b e).entries
    → StandsAt b e m (get_or offsets (max_entries * e.position + m) 0) × (get_or offsets (max_entries * e.position + m) 0 < 2 ^ 16)
stands b offsets r e u m h =
    let a : AcceptedBook b = accepted b r.ok in
    let i : m < entry_count_at b e.position = inside b a e u m h in
    let t : get_or offsets (max_entries * e.position + m) 0 ≡ entry_offset b (body_offset b e.position) m =
    ap (λ l. get_or l (max_entries * e.position + m) 0) r.table ∙ table_at b a e.position m u.position i in
    (subst (StandsAt b e m) (sym t) (here b a e u m h), omega (arith, offset-small b a e.position u.position m i))

-- in an accepted book the count of entries is its low byte
module _ (b : List ℕ) (ok : verdict b ≡ Ok tt) (e : Edge) (u : InBook b e) where
  pub count-within : sizes_size + 7 + head_size * e.position < length b
  count-within = count-place b ok e.position u.position

  pub count-byte : get_or b (sizes_size + 7 + head_size * e.position) 0 ≡ length (segment_of b e).entries
  unfolding segment_of entry_count
  count-byte = count_low_lem b ok e.position u.position

  pub count-few : get_or b (sizes_size + 7 + head_size * e.position) 0 ≤ max_entries
  count-few = omega (arith, count-byte, count_most b (accepted b ok) e u)

  pub time-within : sizes_size + head_size * e.position + 4 ≤ length b
  time-within = omega (arith, count-within)

  pub id-within : sizes_size + 4 + head_size * e.position + 2 ≤ length b
  id-within = omega (arith, count-within)

-- what a head says
module _ (b : List ℕ) (e : Edge) where
  pub time-read : be32 b (sizes_size + head_size * e.position) ≡ (segment_of b e).timestamp
  unfolding segment_of segment_at timestamp_at head_offset
  time-read = refl

  pub id-read : be16 b (sizes_size + 4 + head_size * e.position) ≡ (segment_of b e).id
  unfolding segment_of segment_at id_at head_offset
  id-read =
      let p : sizes_size + 4 + head_size * e.position ≡ sizes_size + head_size * e.position + 4 = omega arith in
      ap (be16 b) p

-- the entry of a hop
pub entry-from : (b : List ℕ) (e : Edge) (n j : ℕ) → n ≡ length (segment_of b e).entries → entry_from e n j ≡ entry_from e (length (segment_of b e).entries) j
entry-from b e n j q = ap (λ k. entry_from e k j) q

pub from-along : (e : Edge) (n j : ℕ) → e.construction ≡ true → e.shortcut + j ≡ entry_from e n j
unfolding entry_from
from-along e n j q = sym (ap (λ (t : Bool). if t then e.shortcut + j else n - 1 - j) q)

pub from-against : (e : Edge) (n j : ℕ) → e.construction ≡ false → n - 1 - j ≡ entry_from e n j
unfolding entry_from
from-against e n j q = sym (ap (λ (t : Bool). if t then e.shortcut + j else n - 1 - j) q)

-- ---- what is read there

module _ (b : List ℕ) (e : Edge) (m at : ℕ) (here : StandsAt b e m at) where
  pub local-read : isd_asn_at b at ≡ as_of (segment_of b e) m
  unfolding as_of as_entry_at
  local-read = sym (ap (λ (x : AsEntry). x.local) here.own)

  pub mtu-read : be32 b (at + 8) ≡ (entry_of (segment_of b e) m).own.mtu
  unfolding as_entry_at
  mtu-read = sym (ap (λ (x : AsEntry). x.mtu) here.own)

  pub ingress-mtu-read : be16 b (at + 12) ≡ (entry_of (segment_of b e) m).own.ingress_mtu
  unfolding as_entry_at
  ingress-mtu-read = sym (ap (λ (x : AsEntry). x.ingress_mtu) here.own)

  module _ (q : is_peer_hop e m ≡ true) where
    pub link-hop : hop_of (segment_of b e) e m ≡ (peer_entry_at b (link_offset e at)).hop
    unfolding hop_of
    link-hop = rw q (ap (λ (x : PeerEntry). x.hop) (here.link q).peer)

    pub link-units : get_or b (link_offset e at + 12) 0 ≡ (hop_of (segment_of b e) e m).units
    unfolding peer_entry_at
    link-units = sym (ap (λ (x : HopField). x.units) link-hop)

    link-ingress : be16 b (link_offset e at + 13) ≡ (hop_of (segment_of b e) e m).ingress
    unfolding peer_entry_at
    link-ingress = sym (ap (λ (x : HopField). x.ingress) link-hop)

    link-egress : be16 b (link_offset e at + 15) ≡ (hop_of (segment_of b e) e m).egress
    unfolding peer_entry_at
    link-egress = sym (ap (λ (x : HopField). x.egress) link-hop)

    pub link-ids : (x : ℕ) → x ≡ link_offset e at
        → (be16 b (x + 13) ≡ (hop_of (segment_of b e) e m).ingress) × (be16 b (x + 13 + 2) ≡ (hop_of (segment_of b e) e m).egress) × (x + 13 + 4 ≤ length b)
    link-ids x p =
        let f : x + 13 ≡ link_offset e at + 13 = omega arith in
        let g : x + 13 + 2 ≡ link_offset e at + 15 = omega arith in
        (ap (be16 b) f ∙ link-ingress, ap (be16 b) g ∙ link-egress, omega (arith, (here.link q).room))

    pub link-mtu-read : be16 b (link_offset e at + 10) ≡ (peer_of (segment_of b e) m (e.peer - 1)).mtu
    unfolding peer_entry_at
    link-mtu-read = sym (ap (λ (x : PeerEntry). x.mtu) (here.link q).peer)

  module _ (q : is_peer_hop e m ≡ false) where
    pub own-hop : hop_of (segment_of b e) e m ≡ (as_entry_at b at).hop
    unfolding hop_of
    own-hop = rw q (ap (λ (x : AsEntry). x.hop) here.own)

    pub own-units : get_or b (at + 18) 0 ≡ (hop_of (segment_of b e) e m).units
    unfolding as_entry_at
    own-units = sym (ap (λ (x : HopField). x.units) own-hop)

    own-ingress : be16 b (at + 14) ≡ (hop_of (segment_of b e) e m).ingress
    unfolding as_entry_at
    own-ingress = sym (ap (λ (x : HopField). x.ingress) own-hop)

    own-egress : be16 b (at + 16) ≡ (hop_of (segment_of b e) e m).egress
    unfolding as_entry_at
    own-egress = sym (ap (λ (x : HopField). x.egress) own-hop)

    pub own-ids : (be16 b (at + 14) ≡ (hop_of (segment_of b e) e m).ingress) × (be16 b (at + 14 + 2) ≡ (hop_of (segment_of b e) e m).egress) × (at + 14 + 4 ≤ length b)
    own-ids =
        let g : at + 14 + 2 ≡ at + 16 = omega arith in
        (own-ingress, ap (be16 b) g ∙ own-egress, omega (arith, here.room))

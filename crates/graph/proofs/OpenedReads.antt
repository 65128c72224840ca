-- What the code reads of a segment of an accepted book, by its table of offsets.
-- Assumes nothing.
use Prim.Native.Nat.{ℕ, zero, suc, ◌+◌, ◌*◌, ◌-◌, ◌≤◌, ◌<◌}
use native.Mathlib.Omega.{arith}
use mathlib.Core.Path.{◌≡◌, refl, sym, ap, ap₂, ◌∙◌}
use mathlib.Core.Bool.{Bool, true, false, ◌&&◌, ◌||◌}
use mathlib.Core.List.{List}
use lib.ListN.{length, get_or}
use lib.Dec.{ltb, eqb}
use borrow.Author.Tests.{eq-eqb, ne_eqb, le-ltb}
use Rattle.std.proofs.Math.Bool.{or_comm}
use Rattle.spec.specs.declared.IsdAsn.{IsdAsn}
use Rattle.spec.specs.declared.Vertex.TheVariants.{Peering}
use Rattle.spec.specs.declared.PeerEntry.{PeerEntry}
use Rattle.spec.specs.declared.Sizes.{Sizes}
use Rattle.std.specs.Prelude.{Ok, if◌then◌else◌}
use Rattle.spec.specs.Book.{Verdict, same_as, Segment, segment_at, segment_count, sizes_at, head_offset, whole_length, verdict, entry_count_at, body_offset, isd_asn_at, peer_count, peer_entry_at, peer_offset, entry_offset}
use Rattle.spec.specs.Limits.{sizes_size, head_size, entry_size, peer_size, max_segments, max_entries}
use Rattle.spec.specs.Octets.{be16}
use Rattle.spec.specs.Edges.{same_vertex, as_of, leaf_as, peer_of}
use Rattle.spec.specs.Loopless.{Apart}
use Rattle.spec.proofs.Membership.{not-both}
use Rattle.spec.proofs.BookLaws.{AcceptedBook, accepted, entry-count, segment-length}
use Rattle.spec.proofs.LoopLaws.{apart}
use Rattle.spec.proofs.BodyLaws.{body_end, entry_place, peer-place}
use Rattle.book.specs.Offsets.{open_table}
use Rattle.segment.proofs.Fitting.{position-small}
use Rattle.book.proofs.Tables.{open-accepted, table_at, table-as, table-peers, table-peer}
use Rattle.graph.specs.declared.vertices.Link.{Link}
use Rattle.graph.specs.Leaving.{entry_count, peer_count_of, link_of, is_entry_of, is_link, entry_with, has_as, peer_linked}
use Rattle.graph.specs.Scan.{first_with, last_with}
use Rattle.graph.specs.Ready.{Ready}
use Rattle.graph.specs.Link.{end_of, same_peer}
use Rattle.graph.proofs.LookupScan.{first_more}

-- what `book::open` leaves of an accepted book
pub opened-ready : (b t : List ℕ) {v : Verdict} → v ≡ verdict b → t ≡ open_table b → v ≡ Ok tt → Ready b t
opened-ready b t p e q = record { ok = sym p ∙ q; table = e ∙ open-accepted b p q }

pub count-read : (b : List ℕ) (k : ℕ) → entry_count (segment_at b k) ≡ entry_count_at b k
unfolding entry_count
count-read b k = segment-length b k

-- the leaf is the last entry
pub leaf-is : (seg : Segment) → as_of seg (entry_count seg - 1) ≡ leaf_as seg
unfolding leaf_as entry_count
leaf-is seg = refl

pub leaf-read : (seg : Segment) {x : IsdAsn} {n : ℕ} → n ≡ entry_count seg → x ≡ as_of seg (n - 1) → x ≡ leaf_as seg
leaf-read seg p q = q ∙ ap (λ m. as_of seg (m - 1)) p ∙ leaf-is seg

module _ (b t : List ℕ) (r : Ready b t) (k : ℕ) (h : k < segment_count b) where
  book : AcceptedBook b
  book = accepted b r.ok

  pub position-below : k < max_segments
  position-below = position-small b book k h

  pub ready-apart : Apart (segment_at b k)
  ready-apart = apart b book k h

  module _ (i : ℕ) (l : i < entry_count (segment_at b k)) where
    below : i < entry_count_at b k
    below = omega (arith, count-read b k)

    -- where the table says that the entry starts
    pub place : get_or t (max_entries * k + i) 0 ≡ entry_offset b (body_offset b k) i
    place = ap (λ u. get_or u (max_entries * k + i) 0) r.table ∙ table_at b book k i h below

    -- its bytes lie within the book
    pub entry-within : {o : ℕ} → o ≡ get_or t (max_entries * k + i) 0 → o + entry_size ≤ length b
    entry-within e = omega (arith, place, (entry_place b book k h i below).entry, body_end b book k h)

    pub as_read : as_of (segment_at b k) i ≡ isd_asn_at b (get_or t (max_entries * k + i) 0)
    as_read = table-as b book k i h below ∙ ap (λ u. isd_asn_at b (get_or u (max_entries * k + i) 0)) (sym r.table)

    pub peers-read : peer_count_of (segment_at b k) i ≡ peer_count b (get_or t (max_entries * k + i) 0)
    unfolding peer_count_of
    peers-read = table-peers b book k i h below ∙ ap (λ u. peer_count b (get_or u (max_entries * k + i) 0)) (sym r.table)

    module _ (p : ℕ) (g : p < peer_count_of (segment_at b k) i) where
      pub peer-within : {o m : ℕ} → o ≡ get_or t (max_entries * k + i) 0 → m ≡ peer_offset o p → m + peer_size ≤ length b
      peer-within e f =
          omega (
            arith,
            f ∙ ap (λ z. peer_offset z p) (e ∙ place),
            peer-place b book k h i p below (omega (arith, peers-read, ap (peer_count b) place)),
            body_end b book k h,
          )

      pub peer-read : peer_of (segment_at b k) i p ≡ peer_entry_at b (peer_offset (get_or t (max_entries * k + i) 0) p)
      peer-read =
          table-peer b book k i h below p (omega (arith, peers-read, ap (λ u. peer_count b (get_or u (max_entries * k + i) 0)) r.table))
          ∙ ap (λ u. peer_entry_at b (peer_offset (get_or u (max_entries * k + i) 0) p)) (sym r.table)

-- ---- peers

-- where a peer's ingress and interface stand in it
abbrev peer_ingress : ℕ
peer_ingress = 13

abbrev peer_interface : ℕ
peer_interface = 8

swap_and : (a c d e : Bool) → a ≡ true → (((a && c) && d) && e) ≡ ((c && e) && d)
swap_and true true true true q = refl
swap_and true true true false q = refl
swap_and true true false true q = refl
swap_and true true false false q = refl
swap_and true false d e q = refl
swap_and false c d e q = not-both q refl

-- the peer at an offset, test by test
module _ (b : List ℕ) (at : ℕ) (l : Link) where
  pub peer-ingress : {x : ℕ} → x ≡ be16 b (at + peer_ingress) → (x ≡ l.ingress → ⊥) → false ≡ same_peer (peer_entry_at b at) l
  unfolding same_peer peer_entry_at
  peer-ingress p q =
      sym (ap (λ y. (y && eqb (be16 b (at + peer_interface)) l.interface) && same_as (isd_asn_at b at) l.peer) (ne_eqb _ _ (λ e. q (p ∙ e))))

  pub peer-interface : {y : ℕ} → y ≡ be16 b (at + peer_interface) → (y ≡ l.interface → ⊥) → false ≡ same_peer (peer_entry_at b at) l
  unfolding same_peer peer_entry_at
  peer-interface p q = go (eqb (be16 b (at + peer_ingress)) l.ingress) (eqb (be16 b (at + peer_interface)) l.interface) (ne_eqb _ _ (λ e. q (p ∙ e)))
    where
      go : (x y : Bool) → y ≡ false → false ≡ ((x && y) && same_as (isd_asn_at b at) l.peer)
      go true true h = not-both refl h
      go true false h = refl
      go false y h = refl

  pub peer-same : {x y : ℕ} {a : IsdAsn} {u : Bool} → x ≡ be16 b (at + peer_ingress) → x ≡ l.ingress → y ≡ be16 b (at + peer_interface) → y ≡ l.interface
      → a ≡ isd_asn_at b at → u ≡ same_as a l.peer → u ≡ same_peer (peer_entry_at b at) l
  unfolding same_peer peer_entry_at
  peer-same p q r s t w =
      w
      ∙ ap (λ c. same_as c l.peer) t
      ∙ sym (ap₂ (λ x y. (x && y) && same_as (isd_asn_at b at) l.peer) (eq-eqb _ _ (sym p ∙ q)) (eq-eqb _ _ (sym r ∙ s)))

module _ (seg : Segment) (l : Link) (i : ℕ) where
  -- a peer of an entry of the link's AS
  pub link-peer : same_as (as_of seg i) l.local ≡ true → (p : ℕ) → is_link seg (end_of l) i p ≡ same_peer (peer_of seg i p) l
  unfolding is_link link_of same_vertex same_peer
  link-peer h p =
      swap_and (same_as (as_of seg i) l.local) (eqb (peer_of seg i p).hop.ingress l.ingress) (same_as (peer_of seg i p).peer l.peer)
      (eqb (peer_of seg i p).interface l.interface) h

  link_apart : same_as (as_of seg i) l.local ≡ false → (p : ℕ) → is_link seg (end_of l) i p ≡ false
  unfolding is_link link_of same_vertex
  link_apart h p =
      ap (λ x. ((x && eqb (peer_of seg i p).hop.ingress l.ingress) && same_as (peer_of seg i p).peer l.peer) && eqb (peer_of seg i p).interface l.interface) h

  no-peers : (n : ℕ) → ((p : ℕ) → is_link seg (end_of l) i p ≡ false) → last_with (is_link seg (end_of l) i) n ≡ 0
  unfolding last_with
  no-peers zero f = refl
  no-peers (suc n) f = ap (λ x. if x then suc n else last_with (is_link seg (end_of l) i) n) (f n) ∙ no-peers n f

  -- an entry of another AS has no peer with the link
  pub link-none : same_as (as_of seg i) l.local ≡ false → 0 ≡ peer_linked seg (end_of l) i
  unfolding peer_linked
  link-none h = sym (no-peers (peer_count_of seg i) (link_apart h))

module _ (b t : List ℕ) (r : Ready b t) (k : ℕ) (h : k < segment_count b) (i : ℕ) (l : i < entry_count (segment_at b k)) where
  -- a test of the AS read at an entry's offset is one of its AS
  pub here-test : (a : IsdAsn) {o : ℕ} {x : IsdAsn} {u v : Bool} → o ≡ get_or t (max_entries * k + i) 0 → x ≡ isd_asn_at b o → u ≡ same_as x a → u ≡ v
      → same_as (as_of (segment_at b k) i) a ≡ v
  here-test a p q s w = ap (λ y. same_as y a) (as_read b t r k h i l ∙ ap (isd_asn_at b) (sym p) ∙ sym q) ∙ sym s ∙ w

  -- and one of a peer, of its link
  pub peer-test : (n : Link) → same_as (as_of (segment_at b k) i) n.local ≡ true → (q : ℕ) → q < peer_count_of (segment_at b k) i
      → {o m : ℕ} {u v : Bool} → o ≡ get_or t (max_entries * k + i) 0 → m ≡ peer_offset o q → u ≡ same_peer (peer_entry_at b m) n → u ≡ v
      → is_link (segment_at b k) (end_of n) i q ≡ v
  peer-test n s q g p e f w =
      link-peer (segment_at b k) n i s q
      ∙ ap (λ y. same_peer y n) (peer-read b t r k h i l q g ∙ ap (λ z. peer_entry_at b (peer_offset z q)) (sym p) ∙ ap (peer_entry_at b) (sym e))
      ∙ sym f
      ∙ w

-- a test of the AS found, or of the peer found
pub entry-test : (seg : Segment) (a : IsdAsn) (i : ℕ) {x : IsdAsn} {u v : Bool} → x ≡ as_of seg i → u ≡ same_as x a → u ≡ v → is_entry_of seg a i ≡ v
unfolding is_entry_of
entry-test seg a i p q s = ap (λ y. same_as y a) (sym p) ∙ sym q ∙ s

-- an entry below i has an AS, as a look at every entry tells
abbrev pub has_below : Segment → IsdAsn → ℕ → Bool
has_below seg a i = ltb (entry_with seg a i) i

module _ (seg : Segment) (a : IsdAsn) where
  pub below_none : false ≡ has_below seg a 0
  below_none = sym (le-ltb (entry_with seg a 0) 0 (unfold entry_with first_with in omega arith))

  pub below-turn : (i : ℕ) {x : IsdAsn} {t u : Bool} → x ≡ as_of seg i → t ≡ has_below seg a i → u ≡ same_as x a → (t || u) ≡ has_below seg a (i + 1)
  unfolding entry_with is_entry_of
  below-turn i {x} {t} {u} p q r =
      let e : i ≡ 0 + i = omega arith in
      let e' : suc i ≡ i + 1 = omega arith in
      let z : 0 + suc i ≡ suc i = omega arith in
      or_comm t u
      ∙ ap (λ y. y || t) r
      ∙ ap (λ y. same_as y a || t) p
      ∙ ap (λ y. is_entry_of seg a i || y) q
      ∙ ap (λ m. is_entry_of seg a m || ltb (first_with (is_entry_of seg a) 0 i) m) e
      ∙ first_more (is_entry_of seg a) 0 i
      ∙ ap (ltb (first_with (is_entry_of seg a) 0 (suc i))) z
      ∙ ap (λ m. ltb (first_with (is_entry_of seg a) 0 m) m) e'

  pub below_all : {n i : ℕ} {t : Bool} → n ≡ entry_count seg → i ≡ n → t ≡ has_below seg a i → t ≡ has_as seg a
  unfolding has_as
  below_all p e q = q ∙ ap (has_below seg a) (e ∙ p)

-- ---- sizes and heads

pub core-read : (b : List ℕ) (k : ℕ) {x : Sizes} → x ≡ sizes_at b → ltb k x.cores ≡ (segment_at b k).core
unfolding sizes_at segment_at
core-read b k q = ap (λ (y : Sizes). ltb k y.cores) q

pub count_most : (b : List ℕ) → verdict b ≡ Ok tt → (k : ℕ) → k < segment_count b → entry_count (segment_at b k) ≤ max_entries
count_most b a k h = omega (arith, count-read b k, entry-count b (accepted b a) k h)

-- in an accepted book the count is its low byte, which lies within the book; where, past the heads before its own
abbrev count_low : ℕ
count_low = sizes_size + 7

module _ (b : List ℕ) (a : verdict b ≡ Ok tt) (k : ℕ) (h : k < segment_count b) where
  pub count-place : count_low + head_size * k < length b
  unfolding whole_length head_offset
  count-place = let w = (accepted b a).whole in omega arith

  pub count_low_lem : get_or b (count_low + head_size * k) 0 ≡ entry_count (segment_at b k)
  unfolding entry_count_at head_offset be16
  count_low_lem =
      let e : head_offset k + 6 + 1 ≡ count_low + head_size * k = omega arith in
      omega (arith, ap (λ n. get_or b n 0) e, count-read b k, entry-count b (accepted b a) k h)

-- ---- the link of a peer

module _ (b : List ℕ) (k : ℕ) where
  abbrev seg : Segment
  seg = segment_at b k

  pub link-read : (t : List ℕ) (r : Ready b t) (h : k < segment_count b) (i : ℕ) (l : i < entry_count seg) (p : ℕ) (g : p < peer_count_of seg i)
      → {o m : ℕ} {a c : IsdAsn} {x y : ℕ} → o ≡ get_or t (max_entries * k + i) 0 → m ≡ peer_offset o p
      → a ≡ isd_asn_at b o → x ≡ be16 b (m + peer_ingress) → c ≡ isd_asn_at b m → y ≡ be16 b (m + peer_interface) → Peering a x c y ≡ link_of seg i p
  unfolding link_of peer_entry_at
  link-read t r h i l p g {o = o} {m = m} eo em ea ex ec ey =
      let read : peer_entry_at b m ≡ peer_of seg i p =
      ap (peer_entry_at b) em ∙ ap (λ z. peer_entry_at b (peer_offset z p)) eo ∙ sym (peer-read b t r k h i l p g) in
      link-of (ea ∙ ap (isd_asn_at b) eo ∙ sym (as_read b t r k h i l))
      (ex ∙ ap (λ (z : PeerEntry). z.hop.ingress) read)
      (ec ∙ ap (λ (z : PeerEntry). z.peer) read)
      (ey ∙ ap (λ (z : PeerEntry). z.interface) read)
    where
      link-of : {a a' c c' : IsdAsn} {x x' y y' : ℕ} → a ≡ a' → x ≡ x' → c ≡ c' → y ≡ y' → Peering a x c y ≡ Peering a' x' c' y'
      link-of p q r s = cc

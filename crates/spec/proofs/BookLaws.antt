-- What an accepted book says of its segments, and the ranges of what is read in it.
-- Assumes nothing.
use Prim.Native.Nat.{ℕ, zero, suc, ◌+◌, ◌-◌, ◌^◌, ◌≤◌, ◌<◌}
use native.Mathlib.Omega.{arith}
use mathlib.Core.Path.{◌≡◌, refl, sym, ap, ◌∙◌, subst}
use mathlib.Core.Logic.{⊎_elim}
use mathlib.Core.Bool.{Bool, true, false, not}
use mathlib.Core.List.Memᴰ.{cases_cons, head, not-nil, tail}
use mathlib.Core.List.{List, [], ◌∷◌, map, Memᴰ as Mem}
use lib.ListN.{length, get_or, take}
use lib.Dec.{eqb, ltb}
use lib.Bits.{bit_xor, xor_lt}
use borrow.Author.Tests.{ltb-false, eqb-true, eqb-false, not-false}
use Rattle.spec.specs.declared.HopField.{HopField}
use Rattle.spec.specs.declared.PeerEntry.{PeerEntry}
use Rattle.spec.specs.declared.Refusal.{Refusal}
use Rattle.spec.specs.declared.Refusal.TheVariants.{Cut, Surplus, Oversize, Crowded, Long, Misfit}
use Rattle.std.specs.Prelude.{Ok, Err, if◌then◌else◌}
use Rattle.spec.specs.Book.{Verdict, Entry, segment_count, body_total, whole_length, lengths_below, is_long, too_long, bodies_verdict, verdict, mac_at, as_entry_at, peer_entry_at, peer_offset, peer_of_entry_at, peer_count, entry_at, entries_at, entry_end, segment_at, segments, entry_count_at, body_offset, id_at, timestamp_at}
use Rattle.spec.specs.declared.Edge.{Edge}
use Rattle.spec.specs.Limits.{sizes_size, max_book, max_segments, max_entries}
use Rattle.spec.specs.Basics.{any, range}
use Rattle.spec.specs.Octets.{Bytes, be16, be32}
use Rattle.spec.specs.Edges.{no_entry, no_peer, entry_of, peer_of, insertions, firsts, stored_of, stored_edges}
use Rattle.spec.specs.Assembly.{fold_step, fold_macs, mac_of, id_below, in_direction, used_entries, hop_of, hops_of, info_of, segment_of, is_peer_hop}
use Rattle.spec.proofs.Membership.{not-both, filter-mem, map-mem, flat_map-mem}
use Rattle.spec.proofs.OnceLaws.{any-mem, Inserted, inserted, lasting-mem, reverse-mem, range-mem, segment-position}
use Rattle.spec.proofs.ByteLaws.{GoodInfo, GoodHop}

-- ---- an accepted book

pub record AcceptedBook (b : List ℕ) : Type 0 where
  pub small : length b ≤ max_book
  pub sizes : sizes_size ≤ length b
  pub crowd : segment_count b ≤ max_segments
  pub whole : length b ≡ whole_length b
  pub short : too_long b ≡ false
  pub sum : lengths_below b (segment_count b) ≡ body_total b
  pub bodies : bodies_verdict b 0 (segment_count b) ≡ Ok tt

abbrev is_accepted : Verdict → Type 0
is_accepted (Ok tt) = Unit
is_accepted (Err r) = ⊥

pub passed : (t : Bool) (r : Refusal) (v : Verdict) → (if t then Err r else v) ≡ Ok tt → (t ≡ false) × (v ≡ Ok tt)
passed true r v q = absurd (subst is_accepted (sym q) tt)
passed false r v q = (refl, q)

pub accepted : (b : List ℕ) → verdict b ≡ Ok tt → AcceptedBook b
unfolding verdict
accepted b q =
    let p₁ = passed (ltb max_book (length b)) Oversize _ q in
    let p₂ = passed (ltb (length b) sizes_size) Cut _ p₁.1 in
    let p₃ = passed (ltb max_segments (segment_count b)) Crowded _ p₂.1 in
    let p₄ = passed (ltb (length b) (whole_length b)) Cut _ p₃.1 in
    let p₅ = passed (ltb (whole_length b) (length b)) Surplus _ p₄.1 in
    let p₆ = passed (too_long b) Long _ p₅.1 in
    let p₇ = passed (not (eqb (lengths_below b (segment_count b)) (body_total b))) Misfit _ p₆.1 in
    record {
      small = ltb-false _ _ p₁.0;
      sizes = ltb-false _ _ p₂.0;
      crowd = ltb-false _ _ p₃.0;
      whole = omega (arith, ltb-false (length b) (whole_length b) p₄.0, ltb-false (whole_length b) (length b) p₅.0);
      short = p₆.0;
      sum = eqb-true _ _ (not-false _ p₇.0);
      bodies = p₇.1;
    }

-- ---- numbers of segments and entries

pub mem-range : (i k x : ℕ) → i ≤ x → x < i + k → Mem x (range i k)
unfolding range
mem-range i zero x h l = absurd (omega arith)
mem-range i (suc k) x h l = go (mem-range (i + 1) k x) (eqb x i) refl
  where
    go : (i + 1 ≤ x → x < i + 1 + k → Mem x (range (i + 1) k)) → (t : Bool) → eqb x i ≡ t → Mem x (i ∷ range (i + 1) k)
    go ih true q = head (eqb-true x i q)
    go ih false q = let n = eqb-false x i q in tail (ih (omega arith) (omega arith))

pub any_none : {A : Type 0} (p : A → Bool) (xs : List A) → any p xs ≡ false → {x : A} → Mem x xs → p x ≡ false
any_none p xs q {x} m = go (p x) refl
  where
    go : (t : Bool) → p x ≡ t → t ≡ false
    go true r = not-both (any-mem p xs m r) q
    go false r = refl

pub entry-count : (b : List ℕ) → AcceptedBook b → (k : ℕ) → k < segment_count b → entry_count_at b k ≤ max_entries
unfolding too_long is_long
entry-count b a k h =
    ltb-false _ _ (any_none (is_long b) (range 0 (segment_count b)) a.short (mem-range 0 (segment_count b) k (omega arith) (omega arith)))

length-entries : (b : List ℕ) (at n : ℕ) → length (entries_at b at n) ≡ n
unfolding entries_at
length-entries b at zero = refl
length-entries b at (suc n) = ap suc (length-entries b (entry_end b at) n)

pub segment-length : (b : List ℕ) (k : ℕ) → length (segment_at b k).entries ≡ entry_count_at b k
unfolding segment_at
segment-length b k = length-entries b (body_offset b k) (entry_count_at b k)

-- a stored edge is of a segment of the book
pub record Stored (b : List ℕ) (e : Edge) : Type 0 where
  pub position : e.position < segment_count b
  pub edge : Inserted (segment_of b e) e

pub stored : (b : List ℕ) {e : Edge} → Mem e (stored_edges b) → Stored b e
unfolding stored_edges stored_of firsts segments segment_of
stored b {e} m =
    let w = flat_map-mem stored_of (firsts (segments b)) m in
    let f = filter-mem _ (segments b) w.1 in
    let s = map-mem (segment_at b) (range 0 (segment_count b)) f.0 in
    let i : Inserted (segment_at b s.0) e = subst (λ x. Inserted x e) s.2 (inserted w.0 (lasting-mem (insertions w.0) w.2)) in
    let p : e.position ≡ s.0 = i.position ∙ segment-position b s.0 in
    let r = range-mem 0 (segment_count b) s.1 in
    record { position = omega arith; edge = subst (λ k. Inserted (segment_at b k) e) (sym p) i }

-- ---- ranges

each-get_or : {A : Type 0} (P : A → Type 0) (xs : List A) (d : A) → P d → ((x : A) → Mem x xs → P x) → (i : ℕ) → P (get_or xs i d)
each-get_or P [] d h f i = h
each-get_or P (x ∷ xs) d h f zero = f x (head refl)
each-get_or P (x ∷ xs) d h f (suc i) = each-get_or P xs d h (λ y m. f y (tail m)) i

module _ (b : List ℕ) (bytes : Bytes b) where
  pub be16-lt : (i : ℕ) → be16 b i < 2 ^ 16
  unfolding be16
  be16-lt i = omega (arith, bytes i, bytes (i + 1))

  pub be32-lt : (i : ℕ) → be32 b i < 2 ^ 32
  unfolding be32
  be32-lt i = omega (arith, be16-lt i, be16-lt (i + 2))

  pub mac-word : (at : ℕ) → be16 (mac_at b at) 0 < 2 ^ 16
  unfolding mac_at be16
  mac-word at = omega (arith, bytes at, bytes (at + 1))

  pub mac-six : (at : ℕ) → (l : List ℕ) × (mac_at b at ≡ mac_at l 0)
  unfolding mac_at
  mac-six at = (mac_at b at, refl)

  good-own : (at : ℕ) → GoodHop (as_entry_at b at).hop
  unfolding as_entry_at
  good-own at = record { ingress = be16-lt _; egress = be16-lt _; mac = mac-six _; word = mac-word _ }

  good-peer : (at : ℕ) → GoodHop (peer_entry_at b at).hop
  unfolding peer_entry_at
  good-peer at = record { ingress = be16-lt _; egress = be16-lt _; mac = mac-six _; word = mac-word _ }

-- what is past the end is good as well
no_bytes : Bytes []
no_bytes i = omega arith

pub record GoodEntry (x : Entry) : Type 0 where
  pub own : GoodHop x.own.hop
  pub peers : (p : ℕ) → GoodHop (get_or x.peers p no_peer).hop

no-peer-good : GoodHop no_peer.hop
unfolding no_peer
no-peer-good = good-peer [] no_bytes 0

module _ (b : List ℕ) (bytes : Bytes b) where
  entry-good : (at : ℕ) → GoodEntry (entry_at b at)
  unfolding entry_at peer_of_entry_at
  entry-good at =
      record {
        own = good-own b bytes at;
        peers = each-get_or (λ p. GoodHop p.hop) (map (peer_of_entry_at b at) (range 0 (peer_count b at))) no_peer no-peer-good
            (λ p m.
            let w = map-mem (peer_of_entry_at b at) (range 0 (peer_count b at)) m in
            subst (λ (x : PeerEntry). GoodHop x.hop) (sym w.2) (good-peer b bytes (peer_offset at w.0)));
      }

no-entry-good : GoodEntry no_entry
unfolding no_entry
no-entry-good = entry-good [] no_bytes 0

take-mem : {A : Type 0} (n : ℕ) (xs : List A) {x : A} → Mem x (take n xs) → Mem x xs
take-mem zero xs m = absurd (not-nil m)
take-mem (suc n) [] m = m
take-mem (suc n) (y ∷ ys) m = ⊎_elim (λ q. head q) (λ k. tail (take-mem n ys k)) (cases_cons m)

in-direction-mem : {A : Type 0} (t : Bool) (xs : List A) {x : A} → Mem x (in_direction t xs) → Mem x xs
unfolding in_direction
in-direction-mem true xs m = reverse-mem xs m
in-direction-mem false xs m = m

fold-lt : (id : ℕ) (macs : List (List ℕ)) → id < 2 ^ 16 → ((x : List ℕ) → Mem x macs → be16 x 0 < 2 ^ 16) → fold_macs id macs < 2 ^ 16
unfolding fold_macs fold_step
fold-lt id [] h f = h
fold-lt id (x ∷ xs) h f = fold-lt (bit_xor id (be16 x 0)) xs (xor_lt 16 id (be16 x 0) h (f x (head refl))) (λ y m. f y (tail m))

module _ (b : List ℕ) (bytes : Bytes b) where
  entries-good : (at n : ℕ) {x : Entry} → Mem x (entries_at b at n) → GoodEntry x
  unfolding entries_at
  entries-good at zero m = absurd (not-nil m)
  entries-good at (suc n) {x} m = ⊎_elim (λ q. subst GoodEntry (sym q) (entry-good b bytes at)) (λ k. entries-good (entry_end b at) n k) (cases_cons m)

  entry-of-good : (k i : ℕ) → GoodEntry (entry_of (segment_at b k) i)
  unfolding entry_of segment_at
  entry-of-good k i = each-get_or GoodEntry (entries_at b (body_offset b k) (entry_count_at b k)) no_entry no-entry-good (λ x m. entries-good (body_offset b k) (entry_count_at b k) m) i

  pub hop-good : (k : ℕ) (e : Edge) (i : ℕ) → GoodHop (hop_of (segment_at b k) e i)
  unfolding hop_of peer_of
  hop-good k e i = go (is_peer_hop e i)
    where
      go : (t : Bool) → GoodHop (if t then (peer_of (segment_at b k) i (e.peer - 1)).hop else (entry_of (segment_at b k) i).own.hop)
      go true = (entry-of-good k i).peers (e.peer - 1)
      go false = (entry-of-good k i).own

  pub hops-good : (k : ℕ) (e : Edge) {h : HopField} → Mem h (hops_of (segment_at b k) e) → GoodHop h
  unfolding hops_of
  hops-good k e {h} m =
      let w = map-mem (hop_of (segment_at b k) e) (used_entries (segment_at b k) e) (in-direction-mem e.construction _ m) in
      subst GoodHop (sym w.2) (hop-good k e w.0)

  id-lt : (k n : ℕ) → id_below (segment_at b k) n < 2 ^ 16
  unfolding id_below segment_at id_at mac_of
  id-lt k n =
      fold-lt _ _ (be16-lt b bytes _)
      (λ h m.
      let w = map-mem mac_of (take n (entries_at b (body_offset b k) (entry_count_at b k))) m in
      let g : GoodEntry w.0 = entries-good (body_offset b k) (entry_count_at b k) (take-mem n (entries_at b (body_offset b k) (entry_count_at b k)) w.1) in
      subst (λ (x : List ℕ). be16 x 0 < 2 ^ 16) (sym w.2) g.own.word)

  pub info-good : (k : ℕ) (e : Edge) → GoodInfo (info_of (segment_at b k) e)
  unfolding info_of segment_at timestamp_at
  info-good k e = record { id = id-lt k _; timestamp = be32-lt b bytes _ }

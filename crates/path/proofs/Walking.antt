-- The walks over an edge's hops: their turns, and what they end in.
-- Assumes nothing.
use Rattle.std.proofs.lemmas.List.{map-append}
use Prim.Native.Nat.{ℕ, ◌+◌, ◌-◌, ◌<◌, min}
use native.Mathlib.Nat.{add-zero}
use native.Mathlib.Omega.{arith}
use mathlib.Core.Path.{◌≡◌, refl, sym, ap, ap₂, ◌∙◌}
use mathlib.Core.Bool.{Bool, true, false, ◌&&◌}
use mathlib.Core.List.{List, [], ◌∷◌, ◌++◌, map, flat_map, reverse, reverse-cons, reverse-append, reverse-reverse}
use lib.ListN.{length, take, drop}
use lib.Seq.{take_all}
use lib.Dec.{eqb, ltb}
use borrow.Author.Tests.{eqb-true, eq-eqb}
use Rattle.spec.specs.declared.HopField.{HopField}
use Rattle.spec.specs.declared.InfoField.{InfoField}
use Rattle.spec.specs.declared.AsEntry.{AsEntry}
use Rattle.spec.specs.declared.Edge.{Edge}
use Rattle.spec.specs.Limits.{info_size, max_time}
use Rattle.std.specs.Prelude.{if◌then◌else◌}
use Rattle.spec.specs.Basics.{range}
use Rattle.spec.specs.Book.{Segment, mac_at, as_entry_at}
use Rattle.spec.specs.Assembly.{least, units_of, life, mtus_at, hop_of, hop_count, used_entries, interfaces_at, in_direction, hops_of, interfaces_of, mtus_of, info_of, expiry_of, segment_of, hops_on, interfaces_on, mtus_on, info_on, expiry_on, is_peer_hop, is_peer_edge, at_shortcut, fold_step, fold_macs, id_below, stop_at}
use Rattle.spec.specs.Records.{hop_octets, info_octets, interface_as_octets, interface_id_octets}
use Rattle.spec.proofs.Membership.{not-both}
use Rattle.spec.proofs.Lists.{map-reverse, map-range-last, range-up, range-down, flat_map-append, flat-one, flat-map, flat-flat}
use Rattle.spec.proofs.ByteLaws.{info-length}
use Rattle.spec.proofs.RouterLaws.{id_below-next}
use Rattle.output.specs.Write.{written}
use Rattle.path.specs.Edges.{InBook}
use Rattle.path.specs.declared.entry.Walk.{Walk}
use Rattle.path.specs.Places.{StandsAt, Wrote, entry_from, passed}
use Rattle.path.specs.Parts.{Part, Hops, Ases, Ids, info_bytes, interfaces_here, entry_bytes, edge_bytes, walked, walked_units, walked_mtus, stop_from, Walked, EntryWalked, EdgeWalked}
use Rattle.path.proofs.Writes.{wrote_one, appended-none, appended-join, appended-as}
use Rattle.path.proofs.Showing.{least-append, least-reverse}

-- ---- lists

flat-reverse : {A B : Type 0} (f : A → List B) (xs : List A) → reverse (flat_map f xs) ≡ flat_map (λ x. reverse (f x)) (reverse xs)
unfolding flat_map
flat-reverse f [] = refl
flat-reverse f (x ∷ xs) =
    reverse-append (f x) (flat_map f xs) ∙ ap (λ l. l ++ reverse (f x)) (flat-reverse f xs)
    ∙ ap (λ l. flat_map (λ y. reverse (f y)) (reverse xs) ++ l) (sym (flat-one (λ y. reverse (f y)) x))
    ∙ sym (flat_map-append (λ y. reverse (f y)) (reverse xs) (x ∷ [])) ∙ ap (flat_map (λ y. reverse (f y))) (sym (reverse-cons x xs))

-- the reverse of lists put together is the reverses, from the last
flat-direction : {A B : Type 0} (t : Bool) (f : A → List B) (xs : List A) → in_direction t (flat_map f xs) ≡ flat_map (λ x. in_direction t (f x)) (in_direction t xs)
unfolding in_direction
flat-direction true f xs = flat-reverse f xs
flat-direction false f xs = refl

map-direction : {A B : Type 0} (t : Bool) (f : A → B) (xs : List A) → in_direction t (map f xs) ≡ map f (in_direction t xs)
unfolding in_direction
map-direction true f xs = sym (map-reverse f xs)
map-direction false f xs = refl

-- ---- the entries of the hops

module _ (b : List ℕ) (e : Edge) where
  abbrev seg : Segment
  seg = segment_of b e

  abbrev n : ℕ
  n = length (segment_of b e).entries

  passed-more : (j : ℕ) → passed b e (j + 1) ≡ passed b e j ++ (entry_from e n j ∷ [])
  unfolding passed
  passed-more j = map-range-last (entry_from e (length (segment_of b e).entries)) j

  module _ (u : InBook b e) where
    used-entries : passed b e (hop_count seg e) ≡ in_direction e.construction (used_entries seg e)
    unfolding passed entry_from
    used-entries = go e.construction
      where
        up : map (λ j. e.shortcut + j) (range 0 (hop_count seg e)) ≡ reverse (used_entries seg e)
        up =
            unfold used_entries in
            (range-up e.shortcut 0 (hop_count seg e) ∙ ap (λ i. range i (hop_count seg e)) (add-zero e.shortcut)
            ∙ sym (reverse-reverse (range e.shortcut (hop_count seg e))))

        down : map (λ j. n - 1 - j) (range 0 (hop_count seg e)) ≡ used_entries seg e
        down = unfold used_entries hop_count in range-down e.shortcut (n - e.shortcut) n (omega (arith, u.shortcut))

        go : (t : Bool) → map (λ j. if t then e.shortcut + j else n - 1 - j) (range 0 (hop_count seg e)) ≡ in_direction t (used_entries seg e)
        go true = unfold in_direction in up
        go false = unfold in_direction in down

    hops-on : hops_on b e ≡ map (hop_of seg e) (passed b e (hop_count seg e))
    unfolding hops_on hops_of
    hops-on = map-direction e.construction (hop_of seg e) (used_entries seg e) ∙ ap (map (hop_of seg e)) (sym used-entries)

    interfaces-on : interfaces_on b e ≡ flat_map (interfaces_here b e) (passed b e (hop_count seg e))
    unfolding interfaces_on interfaces_of interfaces_here
    interfaces-on =
        flat-direction e.construction (interfaces_at seg e) (used_entries seg e)
        ∙ ap (flat_map (λ m. in_direction e.construction (interfaces_at seg e m))) (sym used-entries)

    walk_end : (part : Part) → walked b e part (hop_count seg e) ≡ edge_bytes b part e
    walk_end Hops =
        unfold walked edge_bytes entry_bytes in
        (sym (flat-map (hop_of seg e) hop_octets (passed b e (hop_count seg e))) ∙ ap (flat_map hop_octets) (sym hops-on))
    walk_end Ases =
        unfold walked edge_bytes entry_bytes in
        (sym (flat-flat (interfaces_here b e) interface_as_octets (passed b e (hop_count seg e))) ∙ ap (flat_map interface_as_octets) (sym interfaces-on))
    walk_end Ids =
        unfold walked edge_bytes entry_bytes in
        (sym (flat-flat (interfaces_here b e) interface_id_octets (passed b e (hop_count seg e))) ∙ ap (flat_map interface_id_octets) (sym interfaces-on))

-- ---- the hops one after the other

pub hops-are : (b : List ℕ) (e : Edge) (n j : ℕ) → n ≡ length (segment_of b e).entries → j ≡ n - e.shortcut → j ≡ hop_count (segment_of b e) e
unfolding hop_count
hops-are b e n j q r = r ∙ ap (λ k. k - e.shortcut) q

module _ (b : List ℕ) (e : Edge) where
  -- one more hop
  part-more : (part : Part) (j m : ℕ) → m ≡ entry_from e (length (segment_of b e).entries) j → walked b e part j ++ entry_bytes b e part m ≡ walked b e part (j + 1)
  unfolding walked
  part-more part j m q =
      ap (λ l. flat_map (entry_bytes b e part) (passed b e j) ++ l) (sym (flat-one (entry_bytes b e part) m))
      ∙ sym (flat_map-append (entry_bytes b e part) (passed b e j) (m ∷ []))
      ∙ ap (flat_map (entry_bytes b e part)) (ap (λ i. passed b e j ++ (i ∷ [])) q ∙ sym (passed-more b e j))

  mtus-more : (j m : ℕ) → m ≡ entry_from e (length (segment_of b e).entries) j → walked_mtus b e j ++ mtus_at (segment_of b e) e m ≡ walked_mtus b e (j + 1)
  unfolding walked_mtus
  mtus-more j m q =
      ap (λ l. flat_map (mtus_at (segment_of b e) e) (passed b e j) ++ l) (sym (flat-one (mtus_at (segment_of b e) e) m))
      ∙ sym (flat_map-append (mtus_at (segment_of b e) e) (passed b e j) (m ∷ []))
      ∙ ap (flat_map (mtus_at (segment_of b e) e)) (ap (λ i. passed b e j ++ (i ∷ [])) q ∙ sym (passed-more b e j))

  units-more : (j m : ℕ) → m ≡ entry_from e (length (segment_of b e).entries) j → walked_units b e j ++ (units_of (hop_of (segment_of b e) e m) ∷ []) ≡ walked_units b e (j + 1)
  unfolding walked_units
  units-more j m q =
      let f : ℕ → HopField = hop_of (segment_of b e) e in
      sym (map-append units_of (map f (passed b e j)) (f m ∷ []))
      ∙ ap (map units_of) (sym (map-append f (passed b e j) (m ∷ [])))
      ∙ ap (λ l. map units_of (map f l)) (ap (λ i. passed b e j ++ (i ∷ [])) q ∙ sym (passed-more b e j))

  pub walk_none : (o a i : List ℕ) (w : Walk) → Walked (λ part. walked b e part 0) (walked_mtus b e 0) (walked_units b e 0) o o a a i i w w
  unfolding walked walked_mtus walked_units passed range flat_map least
  walk_none o a i w =
      record { hops = appended-none o w.hops; ases = appended-none a w.ases; ids = appended-none i w.ids; mtu = refl; units = refl }

  pub walk_more : (j m : ℕ) → m ≡ entry_from e (length (segment_of b e).entries) j
      → {o o₁ o₂ a a₁ a₂ i i₁ i₂ : List ℕ} {w w₁ w₂ : Walk}
      → Walked (λ part. walked b e part j) (walked_mtus b e j) (walked_units b e j) o o₁ a a₁ i i₁ w w₁
      → EntryWalked b e m o₁ o₂ a₁ a₂ i₁ i₂ w₁ w₂
      → Walked (λ part. walked b e part (j + 1)) (walked_mtus b e (j + 1)) (walked_units b e (j + 1)) o o₂ a a₂ i i₂ w w₂
  walk_more j m q {w = w} v x =
      record {
        hops = appended-as (part-more Hops j m q) (appended-join v.hops x.hops);
        ases = appended-as (part-more Ases j m q) (appended-join v.ases x.ases);
        ids = appended-as (part-more Ids j m q) (appended-join v.ids x.ids);
        mtu =
            x.mtu ∙ ap (λ n. least n (mtus_at (segment_of b e) e m)) v.mtu
            ∙ sym (least-append w.mtu (walked_mtus b e j) (mtus_at (segment_of b e) e m)) ∙ ap (least w.mtu) (mtus-more j m q);
        units =
            x.units ∙ ap (λ n. least n (units_of (hop_of (segment_of b e) e m) ∷ [])) v.units
            ∙ sym (least-append w.units (walked_units b e j) (units_of (hop_of (segment_of b e) e m) ∷ [])) ∙ ap (least w.units) (units-more j m q);
      }

  module _ (u : InBook b e) where
    least-mtus : (x : ℕ) → least x (walked_mtus b e (hop_count (segment_of b e) e)) ≡ least x (mtus_on b e)
    unfolding walked_mtus mtus_on mtus_of
    least-mtus x =
        ap (λ l. least x (flat_map (mtus_at (segment_of b e) e) l)) (used-entries b e u) ∙ go e.construction
      where
        go : (t : Bool) → least x (flat_map (mtus_at (segment_of b e) e) (in_direction t (used_entries (segment_of b e) e))) ≡ least x (flat_map (mtus_at (segment_of b e) e) (used_entries (segment_of b e) e))
        go true = unfold in_direction in least-reverse (mtus_at (segment_of b e) e) x (used_entries (segment_of b e) e)
        go false = unfold in_direction in refl

    all-units : walked_units b e (hop_count (segment_of b e) e) ≡ map units_of (hops_on b e)
    unfolding walked_units
    all-units = ap (map units_of) (sym (hops-on b e u))

    pub walk-all : (j : ℕ) → j ≡ hop_count (segment_of b e) e → {o o' a a' i i' : List ℕ} {w w' : Walk}
        → Walked (λ part. walked b e part j) (walked_mtus b e j) (walked_units b e j) o o' a a' i i' w w'
        → EdgeWalked b e o o' a a' i i' w w'
    walk-all j q {w = w} v =
        record {
          hops = appended-as (ap (walked b e Hops) q ∙ walk_end b e u Hops) v.hops;
          ases = appended-as (ap (walked b e Ases) q ∙ walk_end b e u Ases) v.ases;
          ids = appended-as (ap (walked b e Ids) q ∙ walk_end b e u Ids) v.ids;
          mtu = v.mtu ∙ ap (λ k. least w.mtu (walked_mtus b e k)) q ∙ least-mtus w.mtu;
          units = v.units ∙ ap (λ k. least w.units (walked_units b e k)) q ∙ ap (least w.units) all-units;
        }

-- ---- expiry

module _ (b : List ℕ) (e : Edge) where
  module _ (t x l : ℕ) (p : t ≡ (segment_of b e).timestamp) (q : x ≡ least 255 (map units_of (hops_on b e))) (s : l ≡ life x) where
    pub expiry-is : (r : ℕ) → r ≡ min (t + l) max_time → r ≡ expiry_on b e
    unfolding expiry_on expiry_of hops_on
    expiry-is r h =
        let m : r ≡ min max_time (t + l) = omega arith in
        m ∙ ap₂ (λ a c. min max_time (a + c)) p (s ∙ ap life q)

  -- ---- ids

  pub id-none : (x : ℕ) → x ≡ (segment_of b e).id → x ≡ id_below (segment_of b e) 0
  unfolding id_below fold_macs
  id-none x q = q

  pub id-more : (i at x : ℕ) → StandsAt b e i at → i < length (segment_of b e).entries → x ≡ id_below (segment_of b e) i → fold_step x (mac_at b (at + 19)) ≡ id_below (segment_of b e) (i + 1)
  unfolding as_entry_at
  id-more i at x here h q =
      ap₂ fold_step q (sym (ap (λ (a : AsEntry). a.hop.mac) here.own)) ∙ id_below-next (segment_of b e) i h

  pub id-all : (i x : ℕ) → x ≡ id_below (segment_of b e) i → i ≡ stop_at (segment_of b e) e → x ≡ id_below (segment_of b e) (stop_at (segment_of b e) e)
  id-all i x p q = p ∙ ap (id_below (segment_of b e)) q

pub stop-peer : (e : Edge) (k : ℕ) → is_peer_hop e k ≡ true → k + 1 ≡ stop_from e k
unfolding stop_from
stop-peer e k q = sym (ap (λ (t : Bool). if t then k + 1 else k) q)

pub stop-own : (e : Edge) (k : ℕ) → is_peer_hop e k ≡ false → k ≡ stop_from e k
unfolding stop_from
stop-own e k q = sym (ap (λ (t : Bool). if t then k + 1 else k) q)

-- whether the peer's entry is the first or the entry the peer's
same_tests : (e : Edge) (k : ℕ) → is_peer_hop e k ≡ (is_peer_edge e && eqb e.shortcut k)
unfolding is_peer_hop at_shortcut
same_tests e k = go (eqb k e.shortcut) refl (eqb e.shortcut k) refl (is_peer_edge e)
  where
    go : (s : Bool) → eqb k e.shortcut ≡ s → (t : Bool) → eqb e.shortcut k ≡ t → (p : Bool) → (s && p) ≡ (p && t)
    go true q true r true = refl
    go true q true r false = refl
    go true q false r p = not-both (eq-eqb e.shortcut k (sym (eqb-true k e.shortcut q))) r
    go false q true r p = not-both (eq-eqb k e.shortcut (sym (eqb-true e.shortcut k r))) q
    go false q false r true = refl
    go false q false r false = refl

pub stop_is : (b : List ℕ) (e : Edge) (n : ℕ) → n ≡ length (segment_of b e).entries → stop_from e (entry_from e n 0) ≡ stop_at (segment_of b e) e
unfolding stop_from stop_at entry_from
stop_is b e n q =
    ap (λ k. if is_peer_hop e k then k + 1 else k) first
    ∙ ap (λ (t : Bool). if t then k + 1 else k) (same_tests e k)
  where
    k : ℕ
    k = if e.construction then e.shortcut else length (segment_of b e).entries - 1

    first : (if e.construction then e.shortcut + 0 else n - 1 - 0) ≡ k
    first = ap₂ (λ (x y : ℕ). if e.construction then x else y) (add-zero e.shortcut) (omega arith)

pub stop-all : (b : List ℕ) (e : Edge) (n k s i : ℕ) → n ≡ length (segment_of b e).entries → k ≡ entry_from e n 0 → s ≡ stop_from e k → i ≡ s → i ≡ stop_at (segment_of b e) e
stop-all b e n k s i p q r h = h ∙ r ∙ ap (stop_from e) q ∙ stop_is b e n p

-- ---- an info

pub info-is : (b : List ℕ) (e : Edge) (h i t : ℕ) → h ≡ hop_count (segment_of b e) e → i ≡ id_below (segment_of b e) (stop_at (segment_of b e) e) → t ≡ (segment_of b e).timestamp
    → record { construction = e.construction; peering = ltb 0 e.peer; hops = h; id = i; timestamp = t } ≡ info_on b e
unfolding info_on info_of is_peer_edge
info-is b e h i t p q r = λ k. record { construction = e.construction; peering = ltb 0 e.peer; hops = p k; id = q k; timestamp = r k }

pub info-wrote : (b : List ℕ) (e : Edge) (i : InfoField) (r d : List ℕ) (at : ℕ) (d' : List ℕ)
    → i ≡ info_on b e → r ≡ info_octets i → d' ≡ written d at (take info_size (drop 0 r)) → Wrote d at (info_bytes b e) d' (at + info_size)
unfolding info_bytes
info-wrote b e i r d at d' p q w =
    wrote_one d at (info_octets (info_on b e)) d' info_size (at + info_size)
    (w ∙ ap (λ l. written d at (take info_size l)) (q ∙ ap info_octets p)
    ∙ ap (written d at) (take_all info_size (info_octets (info_on b e)) (omega (arith, info-length (info_on b e)))))
    (info-length (info_on b e)) refl

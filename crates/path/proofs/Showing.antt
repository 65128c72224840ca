-- The interfaces and MTUs of one entry.
-- Assumes nothing.
use Prim.Native.Nat.{ℕ, ◌+◌, ◌-◌, ◌%◌, ◌^◌, ◌≤◌, min}
use native.Mathlib.Omega.{arith}
use mathlib.Core.Path.{◌≡◌, refl, sym, ap, ap₂, ◌∙◌}
use mathlib.Core.Bool.{Bool, true, false, ◌&&◌, ◌||◌, not, and-true, and-false}
use mathlib.Core.List.{List, [], ◌∷◌, ◌++◌, flat_map, reverse, reverse-append, reverse-cons, append-nil}
use lib.ListN.{length, take, drop}
use lib.Dec.{eqb, ltb}
use borrow.Author.Tests.{eqb-true, eqb-false, lt-ltb, eq-eqb, ne_eqb}
use Rattle.spec.specs.declared.IsdAsn.{IsdAsn}
use Rattle.spec.specs.declared.Edge.{Edge}
use Rattle.std.specs.Prelude.{if◌then◌else◌}
use Rattle.spec.specs.Limits.{hop_size, max_mtu}
use Rattle.spec.specs.Octets.{Bytes, octets2, octets8}
use Rattle.spec.specs.Book.{Segment, as_entry_at, segment_at}
use Rattle.spec.specs.Edges.{entry_of, as_of, peer_of}
use Rattle.spec.specs.Assembly.{least, is_peer_edge, at_shortcut, is_peer_hop, interface_if, mtus_at, interfaces_at, in_direction, hop_of, units_of, segment_of}
use Rattle.spec.specs.Records.{hop_octets, as_octets, interface_as_octets, interface_id_octets}
use Rattle.spec.proofs.Lists.{flat_map-append}
use Rattle.spec.proofs.ByteLaws.{hop-length}
use Rattle.spec.proofs.BookLaws.{hop-good}
use Rattle.output.specs.Write.{written}
use Rattle.output.proofs.Writing.{octets2-length, octets8-length}
use Rattle.path.specs.Places.{is_inner_shortcut, link_offset, StandsAt, Wrote, Appended}
use Rattle.path.specs.Parts.{Hops, Ases, Ids, link_mtus, ingress_shown, shown_as, as_if, id_if, interfaces_here, entry_bytes}
use Rattle.path.proofs.Copies.{link-copied}
use Rattle.path.proofs.Standing.{link-hop, own-hop}
use Rattle.path.proofs.Writes.{wrote_one, appended-as, appended-join, appended-over, appended-some}

positive : (n : ℕ) → ltb 0 n ≡ not (eqb n 0)
positive n = go (eqb n 0) refl
  where
    go : (t : Bool) → eqb n 0 ≡ t → ltb 0 n ≡ not t
    go true q = rw (eqb-true n 0 q)
    go false q = let f = eqb-false n 0 q in lt-ltb 0 n (omega arith)

-- ---- interfaces

ingress-shown : (e : Edge) (m : ℕ) (a : IsdAsn) (i : ℕ)
    → interface_if (not (eqb i 0) && (not (at_shortcut e m) || eqb e.shortcut 0 || is_peer_hop e m)) a i ≡ shown_as a (ingress_shown e m i)
unfolding is_peer_hop is_peer_edge ingress_shown is_inner_shortcut
ingress-shown e m a i = rw (positive e.peer, positive e.shortcut) (go (at_shortcut e m) (eqb e.shortcut 0) (eqb e.peer 0))
  where
    go : (s z p : Bool) → interface_if (not (eqb i 0) && (not s || z || (s && not p))) a i ≡ shown_as a (if p && (s && not z) then 0 else i)
    go false z true = unfold shown_as in ap (λ t. interface_if t a i) (and-true (not (eqb i 0)))
    go false z false = unfold shown_as in ap (λ t. interface_if t a i) (and-true (not (eqb i 0)))
    go true true true = unfold shown_as in ap (λ t. interface_if t a i) (and-true (not (eqb i 0)))
    go true true false = unfold shown_as in ap (λ t. interface_if t a i) (and-true (not (eqb i 0)))
    go true false true = unfold shown_as in (ap (λ t. interface_if t a i) (and-false (not (eqb i 0))) ∙ (unfold interface_if in refl))
    go true false false = unfold shown_as in ap (λ t. interface_if t a i) (and-true (not (eqb i 0)))

module _ (e : Edge) (m i : ℕ) where
  pub ingress-hidden : e.peer ≡ 0 → is_inner_shortcut e m ≡ true → 0 ≡ ingress_shown e m i
  unfolding ingress_shown
  ingress-hidden p q = sym (ap₂ (λ s t. if s && t then 0 else i) (eq-eqb e.peer 0 p) q)

  pub ingress-kept : e.peer ≡ 0 → is_inner_shortcut e m ≡ false → i ≡ ingress_shown e m i
  unfolding ingress_shown
  ingress-kept p q = sym (ap₂ (λ s t. if s && t then 0 else i) (eq-eqb e.peer 0 p) q)

  pub ingress-peer : (e.peer ≡ 0 → ⊥) → i ≡ ingress_shown e m i
  unfolding ingress_shown
  ingress-peer f = sym (ap (λ s. if s && is_inner_shortcut e m then 0 else i) (ne_eqb e.peer 0 f))

-- a list of one or none is its own reverse
reverse_if : (t : Bool) (a : IsdAsn) (i : ℕ) → reverse (interface_if t a i) ≡ interface_if t a i
unfolding interface_if
reverse_if true a i = refl
reverse_if false a i = refl

module _ (b : List ℕ) (e : Edge) (m : ℕ) where
  abbrev seg : Segment
  seg = segment_of b e

  abbrev local : IsdAsn
  local = as_of (segment_of b e) m

  interfaces-shown : (ingress egress : ℕ) → ingress ≡ ingress_shown e m (hop_of seg e m).ingress → egress ≡ (hop_of seg e m).egress
      → interfaces_at seg e m ≡ shown_as local egress ++ shown_as local ingress
  unfolding interfaces_at
  interfaces-shown ingress egress p q =
      ap₂ (λ x y. x ++ y) (shown-egress ∙ ap (shown_as local) (sym q)) (ingress-shown e m local (hop_of seg e m).ingress ∙ ap (shown_as local) (sym p))
    where
      shown-egress : interface_if (not (eqb (hop_of seg e m).egress 0)) local (hop_of seg e m).egress ≡ shown_as local (hop_of seg e m).egress
      shown-egress = unfold shown_as in refl

  pub shown-against : (ingress egress : ℕ) → ingress ≡ ingress_shown e m (hop_of seg e m).ingress → egress ≡ (hop_of seg e m).egress → e.construction ≡ false
      → interfaces_here b e m ≡ shown_as (as_of (segment_of b e) m) egress ++ shown_as (as_of (segment_of b e) m) ingress
  unfolding interfaces_here in_direction
  shown-against ingress egress p q d = ap (λ (t : Bool). in_direction t (interfaces_at seg e m)) d ∙ interfaces-shown ingress egress p q

  pub shown-along : (ingress egress : ℕ) → ingress ≡ ingress_shown e m (hop_of seg e m).ingress → egress ≡ (hop_of seg e m).egress → e.construction ≡ true
      → interfaces_here b e m ≡ shown_as (as_of (segment_of b e) m) ingress ++ shown_as (as_of (segment_of b e) m) egress
  unfolding interfaces_here in_direction
  shown-along ingress egress p q d =
      ap (λ (t : Bool). in_direction t (interfaces_at seg e m)) d
      ∙ ap reverse (interfaces-shown ingress egress p q)
      ∙ reverse-append (shown_as local egress) (shown_as local ingress)
      ∙ ap₂ (λ x y. x ++ y) (once ingress) (once egress)
    where
      once : (i : ℕ) → reverse (shown_as local i) ≡ shown_as local i
      once i = unfold shown_as in reverse_if (not (eqb i 0)) local i

-- their bytes
as-if : (a : IsdAsn) (i : ℕ) → flat_map interface_as_octets (shown_as a i) ≡ as_if a i
unfolding shown_as interface_if as_if interface_as_octets flat_map
as-if a i = go (eqb i 0)
  where
    go : (t : Bool) → flat_map interface_as_octets (if not t then record { local = a; id = i } ∷ [] else []) ≡ (if t then [] else as_octets a)
    go true = refl
    go false = append-nil (as_octets a)

id-if : (a : IsdAsn) (i : ℕ) → flat_map interface_id_octets (shown_as a i) ≡ id_if i
unfolding shown_as interface_if id_if interface_id_octets flat_map
id-if a i = go (eqb i 0)
  where
    go : (t : Bool) → flat_map interface_id_octets (if not t then record { local = a; id = i } ∷ [] else []) ≡ (if t then [] else octets2 i)
    go true = refl
    go false = append-nil (octets2 i)

module _ (b : List ℕ) (e : Edge) (m : ℕ) (a : IsdAsn) (x y : ℕ) (q : interfaces_here b e m ≡ shown_as a x ++ shown_as a y) where
  ases-shown : as_if a x ++ as_if a y ≡ entry_bytes b e Ases m
  unfolding entry_bytes
  ases-shown =
      sym (ap (flat_map interface_as_octets) q ∙ flat_map-append interface_as_octets (shown_as a x) (shown_as a y) ∙ ap₂ (λ u v. u ++ v) (as-if a x) (as-if a y))

  ids-shown : id_if x ++ id_if y ≡ entry_bytes b e Ids m
  unfolding entry_bytes
  ids-shown =
      sym (ap (flat_map interface_id_octets) q ∙ flat_map-append interface_id_octets (shown_as a x) (shown_as a y) ∙ ap₂ (λ u v. u ++ v) (id-if a x) (id-if a y))

  -- two writes make an entry's part
  pub ases-appended : {d : List ℕ} {at : ℕ} {d' : List ℕ} {r : ℕ} {d'' : List ℕ} {s : ℕ} → Appended d at (as_if a x) d' r → Appended d' r (as_if a y) d'' s
      → Appended d at (entry_bytes b e Ases m) d'' s
  ases-appended v w = appended-as ases-shown (appended-join v w)

  pub ids-appended : {d : List ℕ} {at : ℕ} {d' : List ℕ} {r : ℕ} {d'' : List ℕ} {s : ℕ} → Appended d at (id_if x) d' r → Appended d' r (id_if y) d'' s
      → Appended d at (entry_bytes b e Ids m) d'' s
  ids-appended v w = appended-as ids-shown (appended-join v w)

-- what is written of one interface
module _ (d : List ℕ) (at : ℕ) (a : IsdAsn) (i : ℕ) (d' : List ℕ) (q : d' ≡ written d at (octets8 a.0)) (room : at + 8 ≤ length d) where
  as_fits : at + length (octets8 a.0) ≤ length d
  as_fits = omega (arith, octets8-length a.0)

  pub as_none : i ≡ 0 → Appended d at (as_if a i) d' at
  unfolding as_if
  as_none z = rw (eq-eqb i 0 z) (appended-over d at (octets8 a.0) d' q as_fits)

  pub as_some : (i ≡ 0 → ⊥) → Appended d at (as_if a i) d' (at + 8)
  unfolding as_if as_octets
  as_some f = rw (ne_eqb i 0 f) (appended-some d at (octets8 a.0) d' q as_fits 8 (octets8-length a.0))

module _ (d : List ℕ) (at i : ℕ) (d' : List ℕ) (q : d' ≡ written d at (octets2 i)) (room : at + 2 ≤ length d) where
  id-fits : at + length (octets2 i) ≤ length d
  id-fits = omega (arith, octets2-length i)

  pub id-none : i ≡ 0 → Appended d at (id_if i) d' at
  unfolding id_if
  id-none z = rw (eq-eqb i 0 z) (appended-over d at (octets2 i) d' q id-fits)

  pub id-some : (i ≡ 0 → ⊥) → Appended d at (id_if i) d' (at + 2)
  unfolding id_if
  id-some f = rw (ne_eqb i 0 f) (appended-some d at (octets2 i) d' q id-fits 2 (octets2-length i))

-- ---- MTUs

pub least-append : (x : ℕ) (xs ys : List ℕ) → least x (xs ++ ys) ≡ least (least x xs) ys
unfolding least
least-append x [] ys = refl
least-append x (z ∷ xs) ys = least-append (min x z) xs ys

pub least-one : (x y : ℕ) → least x (y ∷ []) ≡ min x y
unfolding least
least-one x y = refl

pub units-one : (seg : Segment) (e : Edge) (m x y r : ℕ) → r ≡ min x y → y ≡ (hop_of seg e m).units → r ≡ least x (units_of (hop_of seg e m) ∷ [])
unfolding least units_of
units-one s e m x y r q p = q ∙ ap (min x) p

-- the order of numbers does not matter to the least of them
pub least-min : (x y : ℕ) (xs : List ℕ) → least (min x y) xs ≡ min (least x xs) y
unfolding least
least-min x y [] = refl
least-min x y (z ∷ xs) =
    let q : min (min x y) z ≡ min (min x z) y = omega arith in
    ap (λ n. least n xs) q ∙ least-min (min x z) y xs

least-turn : (x : ℕ) (xs ys : List ℕ) → least (least x xs) ys ≡ least (least x ys) xs
unfolding least
least-turn x [] ys = refl
least-turn x (z ∷ xs) ys = least-turn (min x z) xs ys ∙ ap (λ n. least n xs) (least-min x z ys)

pub least-reverse : {A : Type 0} (f : A → List ℕ) (x : ℕ) (xs : List A) → least x (flat_map f (reverse xs)) ≡ least x (flat_map f xs)
unfolding flat_map
least-reverse f x [] = refl
least-reverse f x (a ∷ xs) =
    ap (λ l. least x (flat_map f l)) (reverse-cons a xs)
    ∙ ap (least x) (flat_map-append f (reverse xs) (a ∷ []))
    ∙ least-append x (flat_map f (reverse xs)) (flat_map f (a ∷ []))
    ∙ ap₂ (λ n l. least n l) (least-reverse f x xs) (append-nil (f a))
    ∙ least-turn x (flat_map f xs) (f a)
    ∙ sym (least-append x (f a) (flat_map f xs))

module _ (seg : Segment) (e : Edge) (m : ℕ) where
  abbrev ingress_mtu : ℕ
  ingress_mtu = (entry_of seg m).own.ingress_mtu

  pub link-peer : is_peer_hop e m ≡ true → (r : ℕ) → r ≡ (peer_of seg m (e.peer - 1)).mtu → r ≤ max_mtu → r ≡ least max_mtu (link_mtus seg e m)
  unfolding link_mtus least
  link-peer q r p h = rw q (omega arith)

  pub link-shortcut : is_peer_hop e m ≡ false → is_inner_shortcut e m ≡ true → max_mtu ≡ least max_mtu (link_mtus seg e m)
  unfolding link_mtus least
  link-shortcut q l = rw (q, l) (go (eqb ingress_mtu 0))
    where
      go : (t : Bool) → max_mtu ≡ least max_mtu (if t || true then [] else ingress_mtu ∷ [])
      go true = refl
      go false = refl

  pub link-regular : is_peer_hop e m ≡ false → is_inner_shortcut e m ≡ false → (x r : ℕ) → x ≡ (entry_of seg m).own.ingress_mtu → x ≤ max_mtu
      → (x ≡ 0 → r ≡ max_mtu) × ((x ≡ 0 → ⊥) → r ≡ x) → r ≡ least max_mtu (link_mtus seg e m)
  unfolding link_mtus least
  link-regular q l x r p h t = rw (q, l, sym p) (go (eqb x 0) refl)
    where
      go : (s : Bool) → eqb x 0 ≡ s → r ≡ least max_mtu (if s || false then [] else x ∷ [])
      go true z = t.0 (eqb-true x 0 z)
      go false z = let f = t.1 (eqb-false x 0 z) in omega arith

  mtus-split : mtus_at seg e m ≡ link_mtus seg e m ++ ((entry_of seg m).own.mtu % 2 ^ 16 ∷ [])
  unfolding mtus_at link_mtus is_inner_shortcut
  mtus-split = refl

  pub mtus-both : (x : ℕ) → x ≤ max_mtu → min (min x (least max_mtu (link_mtus seg e m))) ((entry_of seg m).own.mtu % 2 ^ 16) ≡ least x (mtus_at seg e m)
  mtus-both x h =
      let l : List ℕ = link_mtus seg e m in
      let a : ℕ = (entry_of seg m).own.mtu % 2 ^ 16 in
      let q : min max_mtu x ≡ x = omega arith in
      let s : min x (least max_mtu l) ≡ min (least max_mtu l) x = omega arith in
      ap (λ n. min n a) (s ∙ sym (least-min max_mtu x l) ∙ ap (λ n. least n l) q)
      ∙ sym (ap (least x) mtus-split ∙ least-append x l (a ∷ []) ∙ least-one (least x l) a)

-- ---- hops

module _ (b : List ℕ) (bytes : Bytes b) (e : Edge) (m at : ℕ) (here : StandsAt b e m at) (d : List ℕ) (to : ℕ) (d' : List ℕ) where
  hop-wrote : d' ≡ written d to (hop_octets (hop_of (segment_of b e) e m)) → Wrote d to (entry_bytes b e Hops m) d' (to + hop_size)
  unfolding entry_bytes segment_of
  hop-wrote q = wrote_one d to (hop_octets (hop_of (segment_at b e.position) e m)) d' hop_size (to + hop_size) q (hop-length _ (hop-good b bytes e.position e m)) refl

  pub link-wrote : is_peer_hop e m ≡ true → d' ≡ written d to (take hop_size (drop (link_offset e at + 12) b)) → Wrote d to (entry_bytes b e Hops m) d' (to + hop_size)
  link-wrote t q =
      hop-wrote (q ∙ ap (written d to) (link-copied b bytes (link_offset e at) (here.link t).room ∙ ap hop_octets (sym (link-hop b e m at here t))))

  pub own-wrote : is_peer_hop e m ≡ false → d' ≡ written d to (hop_octets (as_entry_at b at).hop) → Wrote d to (entry_bytes b e Hops m) d' (to + hop_size)
  own-wrote t q = hop-wrote (q ∙ ap (λ h. written d to (hop_octets h)) (sym (own-hop b e m at here t)))

-- The router's walk over one info and its hops holds, at each hop, the segment's id folded over the entries before it.
-- Assumes nothing.
use Rattle.std.proofs.lemmas.List.{map-append}
use Prim.Native.Nat.{ℕ, zero, suc, ◌+◌, ◌-◌, ◌≤◌, ◌<◌}
use native.Mathlib.Nat.{le_refl, add-zero}
use native.Mathlib.Numerals.{add-one}
use native.Mathlib.Omega.{arith}
use mathlib.Core.Path.{◌≡◌, refl, sym, ap, ap₂, ◌∙◌, subst}
use mathlib.Core.Bool.{Bool, true, false, ◌&&◌}
use mathlib.Core.List.{List, [], ◌∷◌, ◌++◌, map, reverse, reverse-reverse}
use lib.ListN.{length, take, get_or}
use lib.Seq.{take-suc}
use lib.Dec.{eqb, ltb}
use borrow.Author.Tests.{ne_eqb, eq-eqb, eqb-true, eqb-false, ltb-true, ltb-false}
use Rattle.spec.specs.declared.HopField.{HopField}
use Rattle.spec.specs.declared.Edge.{Edge}
use Rattle.std.specs.Prelude.{if◌then◌else◌}
use Rattle.spec.specs.Basics.{range}
use Rattle.spec.specs.Book.{Segment}
use Rattle.spec.specs.Edges.{entry_of, no_entry}
use Rattle.spec.specs.Assembly.{fold_step, fold_macs, mac_of, id_below, stop_at, is_peer_hop, is_peer_edge, at_shortcut, hop_of, hop_count, used_entries, in_direction, hops_of, info_of}
use Rattle.spec.specs.Router.{is_none, against, along, walk_info, is_along, hop_entry, hop_entries, id_held}
use Rattle.spec.proofs.Lists.{map-reverse, reverse-range, range-up, range-down}
use Rattle.spec.proofs.Membership.{not-both}
use Rattle.spec.proofs.Xor.{xor-cancel}

fold-append : (id : ℕ) (xs ys : List (List ℕ)) → fold_macs id (xs ++ ys) ≡ fold_macs (fold_macs id xs) ys
unfolding fold_macs
fold-append id [] ys = refl
fold-append id (x ∷ xs) ys = fold-append (fold_step id x) xs ys

-- one entry more
pub id_below-next : (seg : Segment) (i : ℕ) → i < length seg.entries → fold_step (id_below seg i) (entry_of seg i).own.hop.mac ≡ id_below seg (i + 1)
unfolding id_below fold_macs entry_of mac_of
id_below-next seg i h =
    sym
    (ap (λ n. fold_macs seg.id (map mac_of (take n seg.entries))) (add-one i)
    ∙ ap (λ l. fold_macs seg.id (map mac_of l)) (take-suc seg.entries i no_entry h)
    ∙ ap (fold_macs seg.id) (map-append mac_of (take i seg.entries) (get_or seg.entries i no_entry ∷ []))
    ∙ fold-append seg.id (map mac_of (take i seg.entries)) (mac_of (get_or seg.entries i no_entry) ∷ []))

fold-twice : (id : ℕ) (mac : List ℕ) → fold_step (fold_step id mac) mac ≡ id
unfolding fold_step
fold-twice id mac = xor-cancel id _

and_comm : (s t : Bool) → (s && t) ≡ (t && s)
and_comm true true = refl
and_comm true false = refl
and_comm false true = refl
and_comm false false = refl

pub eqb-sym : (m n : ℕ) → eqb m n ≡ eqb n m
eqb-sym m n = go (eqb m n) refl
  where
    go : (t : Bool) → eqb m n ≡ t → t ≡ eqb n m
    go true q = sym (eq-eqb n m (sym (eqb-true m n q)))
    go false q = sym (ne_eqb n m (λ r. eqb-false m n q (sym r)))

-- ---- peer hops and regular hops

module _ (seg : Segment) (e : Edge) where
  regular-hop : (i : ℕ) → is_peer_hop e i ≡ false → hop_of seg e i ≡ (entry_of seg i).own.hop
  unfolding hop_of
  regular-hop i q = rw q

  regular-held : (i : ℕ) → is_peer_hop e i ≡ false → id_held seg e i ≡ id_below seg i
  unfolding id_held
  regular-held i q = rw q

  peer-held : (i : ℕ) → is_peer_hop e i ≡ true → id_held seg e i ≡ id_below seg (i + 1)
  unfolding id_held
  peer-held i q = rw q

  above-regular : (i : ℕ) → e.shortcut < i → is_peer_hop e i ≡ false
  unfolding is_peer_hop at_shortcut
  above-regular i h = rw (ne_eqb i e.shortcut (λ q. omega arith))

  no-peer-regular : (i : ℕ) → is_peer_edge e ≡ false → is_peer_hop e i ≡ false
  unfolding is_peer_hop
  no-peer-regular i q = rw q (go (at_shortcut e i))
    where
      go : (t : Bool) → (t && false) ≡ false
      go true = refl
      go false = refl

  shortcut-peer : is_peer_edge e ≡ true → is_peer_hop e e.shortcut ≡ true
  unfolding is_peer_hop at_shortcut
  shortcut-peer q = rw (eq-eqb e.shortcut e.shortcut refl, q)

  -- ---- in construction direction

  pub along-regular : (k i : ℕ) → i + k ≤ length seg.entries → ((j : ℕ) → i ≤ j → j < i + k → is_peer_hop e j ≡ false)
      → along false (id_below seg i) (map (hop_of seg e) (range i k)) ≡ map (id_held seg e) (range i k)
  unfolding along range
  along-regular zero i h r = refl
  along-regular (suc k) i h r =
      let q : is_peer_hop e i ≡ false = r i (le_refl i) (omega arith) in
      ap₂ (λ x l. x ∷ l) (sym (regular-held i q))
      (ap (λ id. along false id (map (hop_of seg e) (range (i + 1) k))) (ap (λ (x : HopField). fold_step (id_below seg i) x.mac) (regular-hop i q) ∙ id_below-next seg i (omega arith))
      ∙ along-regular k (i + 1) (omega arith) (λ j a b. r j (omega arith) (omega arith)))

  along-peer : (k : ℕ) → is_peer_edge e ≡ true → e.shortcut + suc k ≤ length seg.entries
      → along true (id_below seg (e.shortcut + 1)) (map (hop_of seg e) (range e.shortcut (suc k))) ≡ map (id_held seg e) (range e.shortcut (suc k))
  unfolding along range
  along-peer k q h =
      ap₂ (λ x l. x ∷ l) (sym (peer-held e.shortcut (shortcut-peer q)))
      (along-regular k (e.shortcut + 1) (omega arith) (λ j a b. above-regular j (omega arith)))

  -- ---- against construction

  last_none : (k : ℕ) → is_none (map (hop_of seg e) (reverse (range e.shortcut (suc k)))) ≡ false
  unfolding is_none
  last_none k = rw reverse-range

  -- the last hop
  against-last : e.shortcut + 1 ≤ length seg.entries
      → against (is_peer_edge e) false (id_below seg (e.shortcut + 1)) (hop_of seg e e.shortcut ∷ []) ≡ id_held seg e e.shortcut ∷ []
  unfolding against is_none
  against-last h = go (is_peer_edge e) refl
    where
      id : ℕ
      id = id_below seg (e.shortcut + 1)

      go : (t : Bool) → is_peer_edge e ≡ t → (if t && true then id else fold_step id (hop_of seg e e.shortcut).mac) ∷ [] ≡ id_held seg e e.shortcut ∷ []
      go true q = ap (λ x. x ∷ []) (sym (peer-held e.shortcut (shortcut-peer q)))
      go false q = ap (λ x. x ∷ []) (unfolded (no-peer-regular e.shortcut q))
        where
          unfolded : is_peer_hop e e.shortcut ≡ false → fold_step id (hop_of seg e e.shortcut).mac ≡ id_held seg e e.shortcut
          unfolded r =
              ap (λ x. fold_step x (hop_of seg e e.shortcut).mac) (sym (id_below-next seg e.shortcut (omega arith)))
              ∙ ap (λ (x : HopField). fold_step (fold_step (id_below seg e.shortcut) (entry_of seg e.shortcut).own.hop.mac) x.mac) (regular-hop e.shortcut r)
              ∙ fold-twice _ _
              ∙ sym (regular-held e.shortcut r)

  -- a hop above the shortcut folds the entry's MAC out again
  folds-out : (i : ℕ) → i < length seg.entries → is_peer_hop e i ≡ false → fold_step (id_below seg (i + 1)) (hop_of seg e i).mac ≡ id_below seg i
  folds-out i h r =
      ap (λ (x : HopField). fold_step (id_below seg (i + 1)) x.mac) (regular-hop i r)
      ∙ ap (λ x. fold_step x (entry_of seg i).own.hop.mac) (sym (id_below-next seg i h))
      ∙ fold-twice _ _

  against-regular : (id : ℕ) (h : HopField) (hs : List HopField) → is_none hs ≡ false
      → against (is_peer_edge e) false id (h ∷ hs) ≡ fold_step id h.mac ∷ against (is_peer_edge e) false (fold_step id h.mac) hs
  unfolding against
  against-regular id h hs q = rw q (go (is_peer_edge e))
    where
      P : Bool
      P = is_peer_edge e

      go : (t : Bool)
          → (if t && false then id else fold_step id h.mac) ∷ against P false (if t && false then id else fold_step id h.mac) hs
          ≡ fold_step id h.mac ∷ against P false (fold_step id h.mac) hs
      go true = refl
      go false = refl

  -- below an entry that has been used
  pub against-rest : (k : ℕ) → e.shortcut + k ≤ length seg.entries
      → against (is_peer_edge e) false (id_below seg (e.shortcut + k)) (map (hop_of seg e) (reverse (range e.shortcut k)))
      ≡ map (id_held seg e) (reverse (range e.shortcut k))
  against-rest zero h = unfold against range in refl
  against-rest (suc zero) h = unfold range in against-last h
  against-rest (suc (suc k)) h =
      let i : ℕ = e.shortcut + suc k in
      let r : is_peer_hop e i ≡ false = above-regular i (omega arith) in
      let held : fold_step (id_below seg (e.shortcut + suc (suc k))) (hop_of seg e i).mac ≡ id_below seg i =
      ap (λ n. fold_step (id_below seg n) (hop_of seg e i).mac) (omega arith) ∙ folds-out i (omega arith) r in
      ap (λ l. against (is_peer_edge e) false (id_below seg (e.shortcut + suc (suc k))) (map (hop_of seg e) l)) (reverse-range e.shortcut (suc k))
      ∙ against-regular (id_below seg (e.shortcut + suc (suc k))) (hop_of seg e i) (map (hop_of seg e) (reverse (range e.shortcut (suc k)))) (last_none k)
      ∙ ap (λ id. id ∷ against (is_peer_edge e) false id (map (hop_of seg e) (reverse (range e.shortcut (suc k))))) held
      ∙ ap₂ (λ x l. x ∷ l) (sym (regular-held i r)) (against-rest (suc k) (omega arith))
      ∙ ap (map (id_held seg e)) (sym (reverse-range e.shortcut (suc k)))

  -- ---- an info and its hops

  -- the entries of the hops are those that the edge uses, in its direction
  pub entries-used : e.construction ≡ is_along seg e → hop_entries seg e ≡ in_direction e.construction (used_entries seg e)
  unfolding hop_entries hop_entry in_direction used_entries
  entries-used dir = go (is_along seg e) ∙ ap (λ t. in_direction t (used_entries seg e)) (sym dir)
    where
      s : ℕ
      s = e.shortcut

      n : ℕ
      n = length seg.entries

      up : map (λ j. s + j) (range 0 (hop_count seg e)) ≡ reverse (reverse (range s (hop_count seg e)))
      up = range-up s 0 (hop_count seg e) ∙ ap (λ i. range i (hop_count seg e)) (add-zero s) ∙ sym (reverse-reverse (range s (hop_count seg e)))

      down : (t : Bool) → ltb n s ≡ t → map (λ j. n - 1 - j) (range 0 (hop_count seg e)) ≡ reverse (range s (hop_count seg e))
      down true q = subst (λ k. map (λ j. n - 1 - j) (range 0 k) ≡ reverse (range s k)) (sym none) (unfold range in refl)
        where
          none : hop_count seg e ≡ 0
          none = unfold hop_count in (let h = ltb-true n s q in omega arith)
      down false q = range-down s (hop_count seg e) n some
        where
          some : n ≡ s + hop_count seg e
          some = unfold hop_count in (let h = ltb-false n s q in omega arith)

      go : (t : Bool)
          → map (λ j. if t then s + j else n - 1 - j) (range 0 (hop_count seg e))
          ≡ (if t then reverse (reverse (range s (hop_count seg e))) else reverse (range s (hop_count seg e)))
      go true = up
      go false = down (ltb n s) refl

  -- the hops are those of the entries
  pub hops-entries : e.construction ≡ is_along seg e → hops_of seg e ≡ map (hop_of seg e) (hop_entries seg e)
  unfolding hops_of in_direction
  hops-entries dir = go e.construction ∙ ap (map (hop_of seg e)) (sym (entries-used dir))
    where
      go : (t : Bool)
          → (if t then reverse (map (hop_of seg e) (used_entries seg e)) else map (hop_of seg e) (used_entries seg e))
          ≡ map (hop_of seg e) (if t then reverse (used_entries seg e) else used_entries seg e)
      go true = sym (map-reverse (hop_of seg e) (used_entries seg e))
      go false = refl

  -- k is how many hops there are, less one
  module _ (dir : e.construction ≡ is_along seg e) (k : ℕ) (len : length seg.entries ≡ e.shortcut + suc k) where
    count-suc : hop_count seg e ≡ suc k
    unfolding hop_count
    count-suc = omega arith

    entries-along : e.construction ≡ true → hop_entries seg e ≡ range e.shortcut (suc k)
    unfolding in_direction used_entries
    entries-along q =
        entries-used dir ∙ ap (λ t. in_direction t (used_entries seg e)) q ∙ reverse-reverse (range e.shortcut (hop_count seg e)) ∙ ap (range e.shortcut) count-suc

    entries-against : e.construction ≡ false → hop_entries seg e ≡ (e.shortcut + k) ∷ reverse (range e.shortcut k)
    unfolding in_direction used_entries
    entries-against q =
        entries-used dir ∙ ap (λ t. in_direction t (used_entries seg e)) q ∙ ap (λ n. reverse (range e.shortcut n)) count-suc ∙ reverse-range e.shortcut k

  -- where the fold stops, by direction
  stop : Bool → ℕ
  stop t = if t then e.shortcut else length seg.entries - 1

  stopping : Bool → ℕ → ℕ
  stopping peering k = if peering && eqb e.shortcut k then k + 1 else k

  stop-at : (t : Bool) → e.construction ≡ t → stop_at seg e ≡ stopping (is_peer_edge e) (stop t)
  unfolding stop_at stop stopping
  stop-at t q = ap (λ (d : Bool). stopping (is_peer_edge e) (stop d)) q

  walk-by : (t : Bool) → e.construction ≡ t → (hs : List HopField)
      → walk_info (info_of seg e) hs
      ≡ (if t then along (is_peer_edge e) (id_below seg (stopping (is_peer_edge e) (stop t))) hs
      else against (is_peer_edge e) true (id_below seg (stopping (is_peer_edge e) (stop t))) hs)
  unfolding walk_info info_of
  walk-by t q hs =
      ap (λ d. if d then along (is_peer_edge e) (id_below seg (stop_at seg e)) hs else against (is_peer_edge e) true (id_below seg (stop_at seg e)) hs) q
      ∙ ap (λ n. if t then along (is_peer_edge e) (id_below seg n) hs else against (is_peer_edge e) true (id_below seg n) hs) (stop-at t q)

  along-all : (k : ℕ) → e.shortcut + suc k ≤ length seg.entries
      → along (is_peer_edge e) (id_below seg (stopping (is_peer_edge e) (stop true))) (map (hop_of seg e) (range e.shortcut (suc k)))
      ≡ map (id_held seg e) (range e.shortcut (suc k))
  unfolding stop stopping
  along-all k h = go (is_peer_edge e) refl (eqb e.shortcut e.shortcut) (eq-eqb e.shortcut e.shortcut refl)
    where
      go : (p : Bool) → is_peer_edge e ≡ p → (t : Bool) → t ≡ true
          → along p (id_below seg (if p && t then e.shortcut + 1 else e.shortcut)) (map (hop_of seg e) (range e.shortcut (suc k)))
          ≡ map (id_held seg e) (range e.shortcut (suc k))
      go true q true r = along-peer k q h
      go true q false r = not-both r refl
      go false q t r = along-regular (suc k) e.shortcut h (λ j a b. no-peer-regular j q)

  -- the first hop against construction, and those after it
  against-first : (k : ℕ) → length seg.entries ≡ e.shortcut + suc k
      → id_below seg (stopping (is_peer_edge e) (stop false)) ≡ id_held seg e (e.shortcut + k)
  unfolding stop stopping id_held is_peer_hop at_shortcut
  against-first k len =
      let m : ℕ = e.shortcut + k in
      ap (λ n. id_below seg (stopping (is_peer_edge e) n)) (omega arith)
      ∙ ap (λ t. id_below seg (if t then m + 1 else m)) (and_comm (is_peer_edge e) (eqb e.shortcut m) ∙ ap (λ t. t && is_peer_edge e) (eqb-sym e.shortcut m))

  against-start : (id : ℕ) (h : HopField) (hs : List HopField) → against (is_peer_edge e) true id (h ∷ hs) ≡ id ∷ against (is_peer_edge e) false id hs
  unfolding against
  against-start id h hs = refl

  against-after : (k : ℕ) → length seg.entries ≡ e.shortcut + suc k
      → against (is_peer_edge e) false (id_held seg e (e.shortcut + k)) (map (hop_of seg e) (reverse (range e.shortcut k)))
      ≡ map (id_held seg e) (reverse (range e.shortcut k))
  against-after zero len = unfold against range in refl
  against-after (suc k) len =
      ap (λ id. against (is_peer_edge e) false id (map (hop_of seg e) (reverse (range e.shortcut (suc k))))) (regular-held (e.shortcut + suc k) (above-regular (e.shortcut + suc k) (omega arith)))
      ∙ against-rest (suc k) (omega arith)

  against-all : (k : ℕ) → length seg.entries ≡ e.shortcut + suc k
      → against (is_peer_edge e) true (id_below seg (stopping (is_peer_edge e) (stop false))) (map (hop_of seg e) ((e.shortcut + k) ∷ reverse (range e.shortcut k)))
      ≡ map (id_held seg e) ((e.shortcut + k) ∷ reverse (range e.shortcut k))
  against-all k len =
      ap (λ id. against (is_peer_edge e) true id (map (hop_of seg e) ((e.shortcut + k) ∷ reverse (range e.shortcut k)))) (against-first k len)
      ∙ against-start (id_held seg e (e.shortcut + k)) (hop_of seg e (e.shortcut + k)) (map (hop_of seg e) (reverse (range e.shortcut k)))
      ∙ ap (λ l. id_held seg e (e.shortcut + k) ∷ l) (against-after k len)

  walk-entries : e.construction ≡ is_along seg e → (k : ℕ) → length seg.entries ≡ e.shortcut + suc k → (t : Bool) → e.construction ≡ t
      → walk_info (info_of seg e) (map (hop_of seg e) (hop_entries seg e)) ≡ map (id_held seg e) (hop_entries seg e)
  walk-entries dir k len true q =
      ap (λ l. walk_info (info_of seg e) (map (hop_of seg e) l)) (entries-along dir k len q)
      ∙ walk-by true q (map (hop_of seg e) (range e.shortcut (suc k)))
      ∙ along-all k (omega arith)
      ∙ ap (map (id_held seg e)) (sym (entries-along dir k len q))
  walk-entries dir k len false q =
      ap (λ l. walk_info (info_of seg e) (map (hop_of seg e) l)) (entries-against dir k len q)
      ∙ walk-by false q (map (hop_of seg e) ((e.shortcut + k) ∷ reverse (range e.shortcut k)))
      ∙ against-all k len
      ∙ ap (map (id_held seg e)) (sym (entries-against dir k len q))

  -- the ids held at the hops of an edge
  pub walk-info : e.construction ≡ is_along seg e → e.shortcut < length seg.entries → walk_info (info_of seg e) (hops_of seg e) ≡ map (id_held seg e) (hop_entries seg e)
  walk-info dir h =
      ap (walk_info (info_of seg e)) (hops-entries dir)
      ∙ walk-entries dir (length seg.entries - 1 - e.shortcut) (omega arith) e.construction refl

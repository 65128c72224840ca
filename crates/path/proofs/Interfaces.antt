-- Interfaces whose ASes stand in one buffer and whose ids in another: one more of them, two lists compared, and those of a path.
-- Assumes nothing.
use Prim.Native.Nat.{ℕ, suc, ◌+◌, ◌-◌, ◌*◌, ◌/◌, ◌≤◌, ◌<◌, ◌^◌}
use native.Mathlib.Nat.{zero-add}
use native.Mathlib.Omega.{arith}
use mathlib.Core.Path.{◌≡◌, refl, sym, ap, ap₂, ◌∙◌, subst}
use mathlib.Core.Bool.{Bool, true, false, ◌&&◌, not}
use mathlib.Core.List.{List, [], ◌∷◌, ◌++◌, map, flat_map, append-nil}
use lib.ListN.{length, get_or, take, drop, length-map, length-drop, take-append-drop, drop_of_length-le, get_or-map}
use lib.Seq.{ext_get_or, length-take-le}
use lib.Dec.{eqb}
use borrow.Author.Tests.{eq-eqb, ne_eqb, not-true, not-false}
use Rattle.spec.specs.declared.PathInterface.{PathInterface}
use Rattle.spec.specs.declared.Edge.{Edge}
use Rattle.spec.specs.Limits.{solution_size}
use Rattle.spec.specs.Basics.{range}
use Rattle.spec.specs.Octets.{Bytes, be16, be64, octets2}
use Rattle.spec.specs.Book.{same_as, isd_asn_at}
use Rattle.spec.specs.Assembly.{combined_path, is_loop}
use Rattle.spec.specs.Records.{interface_id_octets, no_interface, solution_in}
use Rattle.spec.specs.Routes.{same_interface, same_interfaces}
use Rattle.spec.proofs.Lists.{length-range, flat-map, map-range-last}
use Rattle.spec.proofs.Membership.{map-mem}
use Rattle.spec.proofs.ByteLaws.{octets2-back, be16-shift, read_all}
use Rattle.spec.proofs.BookLaws.{AcceptedBook}
use Rattle.spec.proofs.ReadBack.{good-interfaces}
use Rattle.segment.proofs.Fitting.{map-range-at}
use Rattle.output.specs.Write.{written}
use Rattle.output.proofs.Writing.{written_next, octets2-length}
use Rattle.path.specs.Edges.{edges_in, EdgesInBook, RecordInBook}
use Rattle.path.specs.declared.record.Ends.{Ends}
use Rattle.path.specs.Whole.{EndsOf, HopsAndIds}
use Rattle.path.specs.Slots.{record_at, shown_at, shown_in, path_in, route_in, expiry_in, OfBook, Shows}
use Rattle.path.proofs.Assembling.{interfaces-count, as_read, loop-read, ids-of}

-- ---- one more

module _ (a i : List ℕ) where
  pub shown-none : shown_in a i 0 ≡ []
  unfolding shown_in range
  shown-none = refl

  pub shown-more : (k : ℕ) → shown_in a i (k + 1) ≡ shown_in a i k ++ (shown_at a i k ∷ [])
  unfolding shown_in
  shown-more k = map-range-last (shown_at a i) k

  pub shown-length : (n : ℕ) → length (shown_in a i n) ≡ n
  unfolding shown_in
  shown-length n = length-map (range 0 n) (shown_at a i) ∙ length-range 0 n

-- ---- one interface and another

module _ (a i a' i' : List ℕ) (k : ℕ) {x y : ℕ} (qx : x ≡ be64 a (8 * k)) (qy : y ≡ be64 a' (8 * k)) where
  pub same_not : (x ≡ y → ⊥) → false ≡ same_interface (shown_at a i k) (shown_at a' i' k)
  unfolding same_interface same_as shown_at isd_asn_at
  same_not n = sym (ap (λ t. t && eqb (be16 i (2 * k)) (be16 i' (2 * k))) (sym (ap₂ eqb qx qy) ∙ ne_eqb x y n))

  pub same_then : x ≡ y → {u v : ℕ} → u ≡ be16 i (2 * k) → v ≡ be16 i' (2 * k) → eqb u v ≡ same_interface (shown_at a i k) (shown_at a' i' k)
  unfolding same_interface same_as shown_at isd_asn_at
  same_then e qu qv =
      ap₂ eqb qu qv ∙ sym (ap (λ t. t && eqb (be16 i (2 * k)) (be16 i' (2 * k))) (sym (ap₂ eqb qx qy) ∙ eq-eqb x y e))

-- ---- all of them, from index k on

unfoldable pub same_from : List ℕ → List ℕ → List ℕ → List ℕ → ℕ → ℕ → Bool
same_from a i a' i' n k = same_interfaces (map (shown_at a i) (range k (n - k))) (map (shown_at a' i') (range k (n - k)))

module _ (a i a' i' : List ℕ) (n : ℕ) where
  pub same_start : same_interfaces (shown_in a i n) (shown_in a' i' n) ≡ same_from a i a' i' n 0
  unfolding shown_in same_from
  same_start =
      let e : n ≡ n - 0 = omega arith in
      ap (λ m. same_interfaces (map (shown_at a i) (range 0 m)) (map (shown_at a' i') (range 0 m))) e

  module _ (k : ℕ) where
    same_here : k < n → same_from a i a' i' n k ≡ (same_interface (shown_at a i k) (shown_at a' i' k) && same_from a i a' i' n (k + 1))
    unfolding same_from range same_interfaces
    same_here l =
        let e : n - k ≡ suc (n - (k + 1)) = omega arith in
        ap (λ m. same_interfaces (map (shown_at a i) (range k m)) (map (shown_at a' i') (range k m))) e

    pub same_more : k < n → {t : Bool} → t ≡ same_interface (shown_at a i k) (shown_at a' i' k) → not t ≡ false
        → same_from a i a' i' n k ≡ same_from a i a' i' n (k + 1)
    same_more l {t = t} q h = same_here l ∙ ap (λ s. s && same_from a i a' i' n (k + 1)) (sym q ∙ not-false t h)

    pub same-less : k < n → {t : Bool} → t ≡ same_interface (shown_at a i k) (shown_at a' i' k) → not t ≡ true → false ≡ same_from a i a' i' n k
    same-less l {t = t} q h = sym (same_here l ∙ ap (λ s. s && same_from a i a' i' n (k + 1)) (sym q ∙ not-true t h))

    pub same_end : n ≤ k → true ≡ same_from a i a' i' n k
    unfolding same_from range same_interfaces
    same_end l =
        let e : 0 ≡ n - k = omega arith in
        ap (λ m. same_interfaces (map (shown_at a i) (range k m)) (map (shown_at a' i') (range k m))) e

-- ---- a record copied

pub record-copied : (d z r : List ℕ) (k : ℕ) → length z ≡ solution_size → solution_size * (k + 1) ≤ length d
    → r ≡ written z 0 (take solution_size (drop (solution_size * k) d)) → r ≡ record_at d k
record-copied d z r k l h q =
    q ∙ written_next [] z 0 xs refl (omega (arith, long))
    ∙ ap (λ t. xs ++ t) (drop_of_length-le z {i = length xs} (omega (arith, long)))
    ∙ append-nil xs
  where
    xs : List ℕ
    xs = record_at d k

    long : length xs ≡ solution_size
    long = length-take-le solution_size (drop (solution_size * k) d) (omega (arith, length-drop (solution_size * k) d))

-- ---- those of a path

abbrev id_of : PathInterface → ℕ
id_of i = i.id

module _ (b : List ℕ) (bytes : Bytes b) (accepted : AcceptedBook b) (c : List Edge) (u : EdgesInBook b c) (d a i : List ℕ) (ends : Ends)
    (f : EndsOf b c a ends) (g : HopsAndIds b c d i ends) where
  abbrev is : List PathInterface
  is = (combined_path b c).interfaces

  ids-stand : i ≡ [] ++ (flat_map octets2 (map id_of is) ++ drop ends.ids i)
  unfolding interface_id_octets
  ids-stand = sym (take-append-drop ends.ids i) ∙ ap (λ l. l ++ drop ends.ids i) (g.ids ∙ ids-of b c ∙ sym (flat-map id_of octets2 is))

  ids-are : map (λ k. be16 i (0 + 2 * k)) (range 0 (length is)) ≡ map id_of is
  ids-are =
      ap (λ n. map (λ k. be16 i (0 + 2 * k)) (range 0 n)) (sym (length-map is id_of))
      ∙ read_all be16 octets2 (λ x. x < 2 ^ 16) 2 be16-shift (λ x h rest. octets2-back x rest h) (λ x h. octets2-length x) i 0 (map id_of is)
      (λ x m. let w = map-mem id_of is m in omega (arith, w.2, (good-interfaces b bytes c w.0 w.1).id))
      0 [] (drop ends.ids i) refl ids-stand

  id-read : (k : ℕ) → k < length is → be16 i (0 + 2 * k) ≡ (get_or is k no_interface).id
  id-read k h =
      sym (map-range-at (λ j. be16 i (0 + 2 * j)) 0 (length is) k no_interface.id h ∙ ap (λ j. be16 i (0 + 2 * j)) (zero-add k))
      ∙ ap (λ l. get_or l k no_interface.id) ids-are ∙ get_or-map id_of is k no_interface

  shown-is : (combined_path b c).interfaces ≡ shown_in a i (ends.ases / 8)
  shown-is =
      let n = (interfaces-count b bytes accepted c u a ends f).0 in
      ext_get_or no_interface is (shown_in a i (ends.ases / 8)) (sym (shown-length a i (ends.ases / 8) ∙ n))
      (λ k h. sym (at-index k (omega (arith, n)) ∙ (λ t. record { local = local k h t; id = id k h t })))
    where
      at-index : (k : ℕ) → k < ends.ases / 8 → get_or (shown_in a i (ends.ases / 8)) k no_interface ≡ shown_at a i k
      at-index k h = unfold shown_in in (map-range-at (shown_at a i) 0 (ends.ases / 8) k no_interface h ∙ ap (shown_at a i) (zero-add k))

      local : (k : ℕ) → k < length is → (shown_at a i k).local ≡ (get_or is k no_interface).local
      local k h = unfold shown_at in (ap (isd_asn_at a) (sym (zero-add (8 * k))) ∙ as_read b bytes accepted c u a ends f k h)

      id : (k : ℕ) → k < length is → (shown_at a i k).id ≡ (get_or is k no_interface).id
      id k h = unfold shown_at in (ap (be16 i) (sym (zero-add (2 * k))) ∙ id-read k h)

  shows-at : (given : List ℕ) → c ≡ edges_in given (solution_in given).count → Shows b given a i (record { count = ends.ases / 8; expiry = ends.expiry })
  unfolding route_in expiry_in path_in combined_path
  shows-at given e =
      let n = interfaces-count b bytes accepted c u a ends f in
      record {
        few = omega (arith, n.0, n.1);
        route = ap (λ x. (combined_path b x).interfaces) (sym e) ∙ shown-is;
        expiry = f.expiry ∙ ap (λ x. (combined_path b x).expiry) e;
        loops = loop-read b bytes accepted c u a ends f ∙ ap (λ x. is_loop (combined_path b x).interfaces) e;
      }

-- the walk over a record's edges, as many as it says
pub counted : (b given : List ℕ) {n : ℕ} → n ≡ (solution_in given).count → OfBook b given → RecordInBook b given n
counted b given q u = subst (RecordInBook b given) (sym q) u

pub walked : (b : List ℕ) → Bytes b → AcceptedBook b → (given : List ℕ) → OfBook b given → {n : ℕ} → n ≡ (solution_in given).count
    → (d a i : List ℕ) (ends : Ends) → EndsOf b (edges_in given n) a ends → HopsAndIds b (edges_in given n) d i ends
    → Shows b given a i (record { count = ends.ases / 8; expiry = ends.expiry })
walked b bytes accepted given u {n = n} q d a i ends f g =
    shows-at b bytes accepted (edges_in given n) (counted b given q u).edges d a i ends f g given (ap (edges_in given) q)

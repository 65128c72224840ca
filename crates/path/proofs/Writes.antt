-- Writes one after the other.
-- Assumes nothing.
use Prim.Native.Nat.{ℕ, ◌+◌, ◌≤◌}
use native.Mathlib.Omega.{arith}
use mathlib.Core.Path.{◌≡◌, refl, sym, ap, ap₂, ◌∙◌}
use mathlib.Core.List.{List, [], ◌++◌, append_assoc, append-nil}
use lib.ListN.{length, take, drop, length-append}
use lib.Seq.{length-take-le, take-append-le, take-append-add, take-take, take_at, take-add, drop_at}
use Rattle.output.specs.Write.{written}
use Rattle.output.proofs.Writing.{written_none, written-join, written-length, written-within}
use Rattle.path.specs.Places.{Wrote, Appended}

pub wrote_none : (d : List ℕ) (at : ℕ) → Wrote d at [] d at
wrote_none d at = record { bytes = sym (written_none d at); end = omega arith }

pub wrote_one : (d : List ℕ) (at : ℕ) (xs d' : List ℕ) (n r : ℕ) → d' ≡ written d at xs → length xs ≡ n → r ≡ at + n → Wrote d at xs d' r
wrote_one d at xs d' n r q l e = record { bytes = q; end = omega arith }

pub wrote-join : {d : List ℕ} {at : ℕ} {xs d' : List ℕ} {r : ℕ} {ys d'' : List ℕ} {s : ℕ} → Wrote d at xs d' r → Wrote d' r ys d'' s → Wrote d at (xs ++ ys) d'' s
wrote-join {d} {at} {xs} {d'} {r} {ys} v w =
    record {
      bytes = w.bytes ∙ ap₂ (λ l n. written l n ys) v.bytes v.end ∙ written-join d at xs ys;
      end = omega (arith, v.end, w.end, length-append xs ys);
    }

pub wrote_as : {d : List ℕ} {at : ℕ} {xs ys d' : List ℕ} {r : ℕ} → xs ≡ ys → Wrote d at xs d' r → Wrote d at ys d' r
wrote_as q w = rw q at w

-- ---- bytes after those that count

pub appended-none : (d : List ℕ) (at : ℕ) → Appended d at [] d at
appended-none d at = record { front = sym (append-nil (take at d)); end = omega arith; size = refl }

pub appended-join : {d : List ℕ} {at : ℕ} {xs d' : List ℕ} {r : ℕ} {ys d'' : List ℕ} {s : ℕ} → Appended d at xs d' r → Appended d' r ys d'' s → Appended d at (xs ++ ys) d'' s
appended-join {d} {at} {xs} {d'} {r} {ys} v w =
    record {
      front = w.front ∙ ap (λ l. l ++ ys) v.front ∙ append_assoc (take at d) xs ys;
      end = omega (arith, v.end, w.end, length-append xs ys);
      size = w.size ∙ v.size;
    }

pub appended-as : {d : List ℕ} {at : ℕ} {xs ys d' : List ℕ} {r : ℕ} → xs ≡ ys → Appended d at xs d' r → Appended d at ys d' r
appended-as q w = rw q at w

module _ (d : List ℕ) (at : ℕ) (xs d' : List ℕ) (q : d' ≡ written d at xs) (room : at + length xs ≤ length d) where
  stands : d' ≡ (take at d ++ xs) ++ drop (at + length xs) d
  stands = q ∙ written-within d at xs room

  reaches : length (take at d ++ xs) ≡ at + length xs
  reaches = omega (arith, length-append (take at d) xs, length-take-le at d (omega arith))

  same : length d' ≡ length d
  same = ap length q ∙ written-length d at xs

  -- what is written counts
  pub appended-some : (n : ℕ) → length xs ≡ n → Appended d at xs d' (at + n)
  appended-some n l =
      record {
        front = ap (take (at + n)) stands ∙ take_at (take at d ++ xs) (drop (at + length xs) d) (at + n) (omega (arith, reaches));
        end = omega arith;
        size = same;
      }

  kept : take at d' ≡ take at d
  kept =
      ap (take at) stands ∙ take-append-le at (take at d ++ xs) (drop (at + length xs) d) (omega (arith, reaches))
      ∙ take-append-le at (take at d) xs (omega (arith, length-take-le at d (omega arith))) ∙ take-take at at d (omega arith)

  -- what is written does not count
  pub appended-over : Appended d at [] d' at
  appended-over = record { front = kept ∙ sym (append-nil (take at d)); end = omega arith; size = same }

pub appended-wrote : {d : List ℕ} {at : ℕ} {xs d' : List ℕ} {r n : ℕ} → Wrote d at xs d' r → r ≤ n → n ≤ length d → Appended d at xs d' r
appended-wrote {d} {at} {xs} {d'} {r} w h room =
    let s = appended-some d at xs d' w.bytes (omega (arith, w.end)) (length xs) refl in
    rw w.end s

-- xs are written right before what was appended
pub appended-before : {d : List ℕ} {h : ℕ} {ys d' : List ℕ} {r at : ℕ} {xs d'' : List ℕ} {s : ℕ} → Appended d h ys d' r → Wrote d' at xs d'' s → h ≡ at + length xs → r ≤ length d'
    → Appended d at (xs ++ ys) d'' r
appended-before {d} {h} {ys} {d'} {r} {at} {xs} {d''} v w q room =
    record {
      front =
          ap (take r) (w.bytes ∙ written-within d' at xs (omega (arith, v.end)))
          ∙ ap (λ n. take n ((take at d' ++ xs) ++ drop (at + length xs) d')) until
          ∙ take-append-add (take at d' ++ xs) (drop (at + length xs) d') (length ys)
          ∙ ap₂ (λ x y. (x ++ xs) ++ y) early late
          ∙ append_assoc (take at d) xs ys;
      end = omega (arith, v.end, length-append xs ys);
      size = ap length w.bytes ∙ written-length d' at xs ∙ v.size;
    }
  where
    reached : length (take h d) ≡ h
    reached = length-take-le h d (omega (arith, v.end, v.size))

    until : r ≡ length (take at d' ++ xs) + length ys
    until = omega (arith, v.end, length-append (take at d') xs, length-take-le at d' (omega (arith, v.end)))

    -- what stood in d up to h stands in d'
    kept-front : take h d' ≡ take h d
    kept-front =
        sym (take-take h r d' (omega (arith, v.end))) ∙ ap (take h) v.front ∙ take_at (take h d) ys h reached

    early : take at d' ≡ take at d
    early = sym (take-take at h d' (omega arith)) ∙ ap (take at) kept-front ∙ take-take at h d (omega arith)

    late : take (length ys) (drop (at + length xs) d') ≡ ys
    late =
        ap (λ n. take (length ys) (drop n d')) (sym q)
        ∙ sym (drop_at (take h d') (take (length ys) (drop h d')) h (ap length kept-front ∙ reached))
        ∙ ap (drop h) (sym (take-add h (length ys) d') ∙ ap (λ n. take n d') (sym v.end) ∙ v.front)
        ∙ drop_at (take h d) ys h reached

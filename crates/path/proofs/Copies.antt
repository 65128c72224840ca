-- Bytes copied from the book into a path.
-- Assumes nothing.
use Prim.Native.Nat.{ℕ, ◌+◌, ◌≤◌}
use native.Mathlib.Nat.{add_assoc}
use native.Mathlib.Omega.{arith}
use mathlib.Core.Path.{◌≡◌, refl, sym, ap, ap₂, ◌∙◌}
use mathlib.Core.List.{List, [], ◌∷◌, ◌++◌}
use lib.ListN.{length, get_or, take, drop, set, length-append, length-drop}
use lib.Seq.{length-take-le}
use Rattle.spec.specs.Limits.{entry_size, peer_size, hop_size}
use Rattle.spec.specs.Octets.{Bytes, octets2, octets8}
use Rattle.spec.specs.Book.{isd_asn_at, as_entry_at, peer_entry_at}
use Rattle.spec.specs.Records.{hop_octets}
use Rattle.spec.proofs.OctetLaws.{byte-first, bytes-split, mac-bytes, be16s-bytes, be64-bytes}
use Rattle.output.specs.Write.{written}
use Rattle.output.proofs.Writing.{written_one, written-pair, passed_on, piece-put}

pub same_byte : (s : List ℕ) (i j : ℕ) → i ≡ j → get_or s i 0 ≡ get_or s j 0
same_byte s i j q = ap (λ k. get_or s k 0) q

module _ (b : List ℕ) (bytes : Bytes b) where
  -- of a peer the bytes of a hop stand in one piece
  pub link-copied : (q : ℕ) → q + peer_size ≤ length b → take hop_size (drop (q + 12) b) ≡ hop_octets (peer_entry_at b q).hop
  unfolding hop_octets peer_entry_at octets2
  link-copied q h =
      byte-first b 10 (q + 12) (omega arith)
      ∙ ap (λ l. get_or b (q + 12) 0 ∷ l)
      (bytes-split b 4 6 (q + 12 + 1)
      ∙ ap₂ (λ x y. x ++ y) (be16s-bytes b bytes (q + 12 + 1) (omega arith)) (mac-bytes b (q + 12 + 1 + 4) (omega arith))
      ∙ simp add_assoc)

  -- an entry's hop, put together of three pieces
  own-pieces : (at : ℕ) → at + entry_size ≤ length b
      → ((get_or b (at + 18) 0 ∷ []) ++ take 4 (drop (at + 14) b)) ++ take 6 (drop (at + 19) b) ≡ hop_octets (as_entry_at b at).hop
  unfolding hop_octets as_entry_at octets2
  own-pieces at h =
      ap₂ (λ x y. ((get_or b (at + 18) 0 ∷ []) ++ x) ++ y) (be16s-bytes b bytes (at + 14) (omega arith)) (mac-bytes b (at + 19) (omega arith))
      ∙ simp add_assoc

-- ---- by way of a local piece

pub as-put : (b : List ℕ) → Bytes b → (at : ℕ) → at + 8 ≤ length b → (z r d : List ℕ) (to : ℕ) (d' : List ℕ) → length z ≡ 8
    → r ≡ written z 0 (take 8 (drop at b)) → d' ≡ written d to (take 8 (drop 0 r)) → d' ≡ written d to (octets8 (isd_asn_at b at).0)
unfolding isd_asn_at
as-put b bytes at h z r d to d' lz q p = piece-put 8 z b at r d to d' lz h q p ∙ ap (written d to) (be64-bytes b bytes at h)

pub own_put : (b : List ℕ) → Bytes b → (at : ℕ) → at + entry_size ≤ length b → (z r₁ r₂ d : List ℕ) (to : ℕ) (d' : List ℕ) → length z ≡ hop_size
    → r₁ ≡ written (set z 0 (get_or b (at + 18) 0)) 1 (take 4 (drop (at + 14) b)) → r₂ ≡ written r₁ 5 (take 6 (drop (at + 19) b)) → d' ≡ written d to (take hop_size (drop 0 r₂))
    → d' ≡ written d to (hop_octets (as_entry_at b at).hop)
own_put b bytes at h z r₁ r₂ d to d' lz q₁ q₂ p =
    passed_on hop_size z ((units ++ ids) ++ mac) r₂ d to d' lz (omega (arith, length-append (units ++ ids) mac, five, mac-length)) written_all p
    ∙ ap (written d to) (own-pieces b bytes at h)
  where
    units : List ℕ
    units = get_or b (at + 18) 0 ∷ []

    ids : List ℕ
    ids = take 4 (drop (at + 14) b)

    mac : List ℕ
    mac = take 6 (drop (at + 19) b)

    mac-length : length mac ≡ 6
    mac-length = length-take-le 6 (drop (at + 19) b) (simp length-drop (omega arith))

    five : length (units ++ ids) ≡ 5
    five = omega (arith, length-append units ids, length-take-le 4 (drop (at + 14) b) (simp length-drop (omega arith)))

    written_all : r₂ ≡ written z 0 ((units ++ ids) ++ mac)
    written_all =
        q₂
        ∙ ap (λ l. written l 5 mac) (q₁ ∙ ap (λ l. written l 1 ids) (sym (written_one z 0 (get_or b (at + 18) 0))) ∙ written-pair z 0 1 units ids refl)
        ∙ written-pair z 0 5 (units ++ ids) mac five

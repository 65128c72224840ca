-- How long the lines of a solution are at most.
-- Assumes nothing.
use Prim.Native.Nat.{ℕ, suc, ◌+◌, ◌*◌, ◌^◌, ◌<◌, ◌≤◌, zero-le}
use native.Mathlib.Omega.{arith}
use mathlib.Core.Path.{◌≡◌, refl, sym, ap, ◌∙◌, subst}
use mathlib.Core.Logic.{◌⊎◌, inl, inr}
use mathlib.Core.Bool.{Bool, true, false}
use mathlib.Core.List.{List, [], ◌++◌, flat_map, Memᴰ as Mem}
use Prim.Native.String.{String}
use lib.ListN.{length, length-append, length-map}
use Rattle.spec.specs.declared.IsdAsn.{IsdAsn}
use Rattle.spec.specs.declared.Edge.{Edge}
use Rattle.spec.specs.declared.InfoField.{InfoField}
use Rattle.spec.specs.declared.PathInterface.{PathInterface}
use Rattle.std.specs.Prelude.{Ok, Err}
use Rattle.spec.specs.Answers.{PathAnswer}
use Rattle.spec.specs.Book.{Verdict, verdict}
use Rattle.spec.specs.declared.Outcome.TheVariants.{Path, Loop, Bare}
use Rattle.spec.specs.Limits.{max_edges, max_entries}
use Rattle.spec.specs.Octets.{Bytes}
use Rattle.spec.specs.Chains.{IsChain, chains}
use Rattle.spec.specs.Order.{cost}
use Rattle.spec.specs.Assembly.{hop_count, segment_of, info_on, CombinedPath, combined_path, outcome}
use Rattle.spec.specs.Records.{bit, solution_octets}
use Rattle.spec.specs.Printed.{ascii, decimal, hex, item, newline, info_line, interface_line, path_lines, lines_by, outcome_lines, solution_lines}
use Rattle.spec.proofs.ChainLaws.{chains-sound, chains-complete}
use Rattle.spec.proofs.ByteLaws.{GoodInfo}
use Rattle.spec.proofs.BookLaws.{accepted}
use Rattle.spec.proofs.PathLaws.{good-infos}
use Rattle.spec.proofs.Bounds.{ChainBounds, flat-most, path-hops, path-interfaces, chain-bounds}
use Rattle.spec.proofs.ReadBack.{GoodInterface, good-interfaces, mtu-lt, expiry-lt}
use Rattle.spec.proofs.PrintedLaws.{decimal-length, hex-length}
use Rattle.printed.specs.Pieces.{info_line_size, interface_line_size, solution_text_size, solution_text}
use Rattle.printed.proofs.Solutions.{text-chain, text-stranger, text-refused, record_of_lem}

pub item-most : (word : String) (k n : ℕ) → n < 10 ^ suc k → length (item word n) ≤ length (ascii word) + suc k
unfolding item
item-most word k n h = omega (arith, length-append (ascii word) (decimal n), decimal-length k n h)

bit-most : (t : Bool) → bit t ≤ 1
unfolding bit
bit-most true = omega arith
bit-most false = omega arith

-- ---- lines

five : (v w x y z : List ℕ) → length (v ++ w ++ x ++ y ++ z) ≡ length v + length w + length x + length y + length z
five v w x y z =
    omega (arith, length-append (v ++ w ++ x ++ y) z, length-append (v ++ w ++ x) y, length-append (v ++ w) x, length-append v w)

four : (w x y z : List ℕ) → length (w ++ x ++ y ++ z) ≡ length w + length x + length y + length z
four w x y z = omega (arith, length-append (w ++ x ++ y) z, length-append (w ++ x) y, length-append w x)

three : (x y z : List ℕ) → length (x ++ y ++ z) ≡ length x + length y + length z
three x y z = omega (arith, length-append (x ++ y) z, length-append x y)

info-most : (i : InfoField) → GoodInfo i → length (info_line i) ≤ info_line_size
unfolding info_line ascii newline
info-most i g =
    let flags : ℕ = bit i.construction + 2 * bit i.peering in
    omega (
      arith,
      five (item "info " flags) (ascii " ") (hex 4 i.id) (item " " i.timestamp) newline,
      item-most "info " 0 flags (omega (arith, bit-most i.construction, bit-most i.peering)),
      hex-length 4 i.id,
      item-most " " 9 i.timestamp (omega (arith, g.timestamp)),
    )

interface-most : (i : PathInterface) → GoodInterface i → length (interface_line i) ≤ interface_line_size
unfolding interface_line ascii newline
interface-most i g =
    omega (
      arith,
      four (ascii "if ") (hex 16 i.local.0) (item " " i.id) newline,
      hex-length 16 i.local.0,
      item-most " " 4 i.id (omega (arith, g.id)),
    )

-- ---- a solution

module _ (b : List ℕ) (bytes : Bytes b) (src dst : IsdAsn) (ok : verdict b ≡ Ok tt) (c : List Edge) (h : IsChain b src dst c) where
  abbrev p : CombinedPath
  p = combined_path b c

  bounds : ChainBounds b c
  bounds = chain-bounds b bytes (accepted b ok) src dst c h

  infos-few : length (combined_path b c).infos ≤ max_edges
  unfolding combined_path
  infos-few = let s = bounds in omega (arith, s.count, length-map c (info_on b))

  hops-few : (e : Edge) → Mem e c → hop_count (segment_of b e) e ≤ max_entries
  hops-few e m = let s = bounds in (s.edges e m).hops

  path-most : length (path_lines (combined_path b c)) ≤ 5 + 5 + (8 + 10) + (6 + 2) + 1 + max_edges * info_line_size + max_edges * max_entries * 2 * interface_line_size
  unfolding path_lines ascii newline
  path-most =
      let few : length c ≤ max_edges = let s = bounds in s.count in
      let infos : List ℕ = flat_map info_line p.infos in
      let interfaces : List ℕ = flat_map interface_line p.interfaces in
      let fields : List ℕ = item " mtu " p.mtu ++ item " expiry " p.expiry ++ item " hops " (length p.hops) ++ newline in
      omega (
        arith,
        three fields infos interfaces,
        four (item " mtu " p.mtu) (item " expiry " p.expiry) (item " hops " (length p.hops)) newline,
        item-most " mtu " 4 p.mtu (omega (arith, mtu-lt b c)),
        item-most " expiry " 9 p.expiry (omega (arith, expiry-lt b c)),
        item-most " hops " 1 (length p.hops) (omega (arith, path-hops b c few hops-few)),
        flat-most info_line info_line_size p.infos (λ i m. info-most i (good-infos b bytes c i m)),
        flat-most interface_line interface_line_size p.interfaces (λ i m. interface-most i (good-interfaces b bytes c i m)),
        infos-few,
        path-interfaces b c few hops-few,
      )

  lines-most : (number : ℕ) → number < 10 ^ 20 → length (solution_lines b number c) ≤ solution_text_size
  unfolding solution_lines outcome_lines ascii newline
  lines-most number n = go (Ok (outcome p))
    where
      start : List ℕ
      start = decimal number ++ item " cost " (cost c) ++ item " segments " (length c)

      start-most : length start ≤ 20 + (6 + 5) + (10 + 1)
      start-most =
          let s = bounds in
          omega (
            arith,
            three (decimal number) (item " cost " (cost c)) (item " segments " (length c)),
            decimal-length 19 number n,
            item-most " cost " 4 (cost c) (omega (arith, s.cost)),
            item-most " segments " 0 (length c) (omega (arith, s.count)),
          )

      go : (o : PathAnswer) → length (start ++ lines_by o p) ≤ solution_text_size
      go (Ok Path) = omega (arith, start-most, path-most, length-append start (path_lines p))
      go (Ok Loop) = omega (arith, start-most, length-append start (ascii " loop" ++ newline))
      go (Ok Bare) = omega (arith, start-most, length-append start (ascii " bare" ++ newline))
      go (Err r) = omega (arith, start-most, length-append start [])

pub text-most : (b : List ℕ) → Bytes b → (src dst : IsdAsn) (given : List ℕ) (number : ℕ) → number < 10 ^ 20
    → length (solution_text b src dst given number) ≤ solution_text_size
text-most b bytes src dst given number n = on (verdict b) refl
  where
    none-most : solution_text b src dst given number ≡ [] → length (solution_text b src dst given number) ≤ solution_text_size
    none-most q = subst (λ l. length l ≤ solution_text_size) (sym q) zero-le

    of : verdict b ≡ Ok tt
        → ((c : List Edge) × Mem c (chains b src dst) × (given ≡ solution_octets c)) ⊎ ((c : List Edge) → Mem c (chains b src dst) → given ≡ solution_octets c → ⊥)
        → length (solution_text b src dst given number) ≤ solution_text_size
    of ok (inl w) =
        let c : List Edge = w.0 in
        let h : IsChain b src dst c = chains-sound b src dst c w.1 in
        subst (λ l. length l ≤ solution_text_size)
        (sym (ap (λ g. solution_text b src dst g number) w.2 ∙ text-chain b src dst number ok c h))
        (lines-most b bytes src dst ok c h number n)
    of ok (inr none) = none-most (text-stranger b src dst number ok given (λ c h. none c (chains-complete b src dst c h)))

    on : (v : Verdict) → verdict b ≡ v → length (solution_text b src dst given number) ≤ solution_text_size
    on (Ok tt) ok = of ok (record_of_lem given (chains b src dst))
    on (Err r) q = none-most (text-refused b src dst number r q given)

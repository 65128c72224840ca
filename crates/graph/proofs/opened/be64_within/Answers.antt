-- `be64_within` meets its contract.
use mathlib.Core.Path.{◌≡◌, ap}
use Prim.Native.Nat.{◌+◌}
use native.Mathlib.Omega.{arith}
use lib.ListN.{get_or}
use Rattle.spec.specs.Octets.{be64}
use Rattle.octets.proofs.Halves.{four_bytes}
use Rattle.graph.proofs.opened.be64_within.Goals as goal

pub returns : goal.returns
unfolding be64
returns c =
    let b = c.args.book.now in
    let at = c.args.at in
    let five : at + 4 + 1 ≡ at + 5 = omega arith in
    let six : at + 4 + 2 ≡ at + 6 = omega arith in
    let seven : at + 4 + 3 ≡ at + 7 = omega arith in
    omega (
      arith,
      c.from_be_bytes.ensures,
      four_bytes b at,
      four_bytes b (at + 4),
      ap (λ i. get_or b i 0) five,
      ap (λ i. get_or b i 0) six,
      ap (λ i. get_or b i 0) seven,
    )

-- `isd_asn` meets its contract: eight bytes are two halves.
use mathlib.Core.Path.{◌≡◌, ap}
use Prim.Native.Nat.{◌+◌}
use native.Mathlib.Omega.{arith}
use lib.ListN.{get_or}
use Rattle.spec.specs.declared.IsdAsn.{IsdAsn}
use Rattle.spec.specs.Octets.{be64}
use Rattle.spec.specs.Book.{isd_asn_at}
use Rattle.octets.proofs.Halves.{four_bytes}
use Rattle.book.proofs.numbers.isd_asn.Goals as goal

pub returns : goal.returns
unfolding isd_asn_at be64
returns c =
    let b = c.args.book.now in
    let at = c.args.at in
    let e₁ : at + 4 + 1 ≡ at + 5 = omega arith in
    let e₂ : at + 4 + 2 ≡ at + 6 = omega arith in
    let e₃ : at + 4 + 3 ≡ at + 7 = omega arith in
    ap {B = IsdAsn} (λ n. record { 0 = n }) (omega (arith, four_bytes b at, four_bytes b (at + 4), ap (λ i. get_or b i 0) e₁, ap (λ i. get_or b i 0) e₂, ap (λ i. get_or b i 0) e₃))

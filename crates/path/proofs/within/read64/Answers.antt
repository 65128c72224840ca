-- `read64` meets its contract.
use Prim.Native.Nat.{◌+◌}
use native.Mathlib.Omega.{arith}
use Rattle.spec.specs.Octets.{be16, be32, be64}
use Rattle.path.proofs.Copies.{same_byte}
use Rattle.path.proofs.within.read64.Goals as goal

pub returns : goal.returns
unfolding be64 be32 be16
returns c =
    let s = c.args.s.now in
    let at = c.args.at in
    omega (
      arith,
      c.from_be_bytes.ensures,
      same_byte s (at + 2 + 1) (at + 3) (omega arith),
      same_byte s (at + 4 + 1) (at + 5) (omega arith),
      same_byte s (at + 4 + 2) (at + 6) (omega arith),
      same_byte s (at + 4 + 2 + 1) (at + 7) (omega arith),
    )

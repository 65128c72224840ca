-- `read32` meets its contract.
use Prim.Native.Nat.{◌+◌}
use native.Mathlib.Omega.{arith}
use Rattle.spec.specs.Octets.{be16, be32}
use Rattle.path.proofs.Copies.{same_byte}
use Rattle.path.proofs.within.read32.Goals as goal

pub returns : goal.returns
unfolding be32 be16
returns c = omega (arith, c.from_be_bytes.ensures, same_byte c.args.s.now (c.args.at + 2 + 1) (c.args.at + 3) (omega arith))

-- `be16_within` meets its contract.
use native.Mathlib.Omega.{arith}
use Rattle.spec.specs.Octets.{be16}
use Rattle.graph.proofs.opened.be16_within.Goals as goal

pub returns : goal.returns
unfolding be16
returns c = omega (arith, c.from_be_bytes.ensures)

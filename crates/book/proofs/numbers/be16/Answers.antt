-- `be16` meets its contract.
use native.Mathlib.Omega.{arith}
use Rattle.spec.specs.Octets.{be16}
use Rattle.book.proofs.numbers.be16.Goals as goal

pub returns : goal.returns
unfolding be16
returns c = omega arith

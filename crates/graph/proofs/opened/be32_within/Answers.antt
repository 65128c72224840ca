-- `be32_within` meets its contract.
use native.Mathlib.Omega.{arith}
use Rattle.octets.proofs.Halves.{four_bytes}
use Rattle.graph.proofs.opened.be32_within.Goals as goal

pub returns : goal.returns
returns c = omega (arith, c.from_be_bytes.ensures, four_bytes c.args.book.now c.args.at)

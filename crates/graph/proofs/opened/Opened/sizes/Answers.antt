-- `sizes` meets its contract.
use native.Mathlib.Omega.{arith}
use Rattle.spec.proofs.BookLaws.{accepted}
use Rattle.segment.proofs.Fields.{sizes-are}
use Rattle.graph.proofs.opened.Opened.sizes.Goals as goal

pub be16_within-requires : goal.be16_within-requires
be16_within-requires c = omega (arith, (accepted _ c.args.self.now.ready.ok).sizes)

pub be16_within-requires-2 : goal.be16_within-requires-2
be16_within-requires-2 c = omega (arith, (accepted _ c.args.self.now.ready.ok).sizes)

pub be32_within-requires : goal.be32_within-requires
be32_within-requires c = omega (arith, (accepted _ c.args.self.now.ready.ok).sizes)

pub returns : goal.returns
returns c = sizes-are _ c.be16_within.ensures c.be16_within-2.ensures c.be32_within.ensures

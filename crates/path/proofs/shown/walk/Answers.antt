-- `walk` meets its contract.
use native.Mathlib.Omega.{arith}
use mathlib.Core.Path.{◌∙◌}
use Rattle.spec.proofs.BookLaws.{accepted}
use Rattle.path.proofs.Interfaces.{counted, walked}
use Rattle.path.proofs.shown.walk.Goals as goal

pub invariant_of-record : goal.invariant_of-record
invariant_of-record c = record { in_book = rw c.from.ensures (counted _ _ c.edge_count.ensures c.requires.of_book); bytes = c.all_bytes.ensures }

pub put_edges-ends-requires : goal.put_edges-ends-requires
put_edges-ends-requires c = (omega arith, omega arith, omega arith)

pub returns : goal.returns
returns c =
    walked _ c.all_bytes.ensures (accepted _ c.args.opened.now.ready.ok) _ c.requires.of_book (c.from.ensures ∙ c.edge_count.ensures) _ _ _ _ c.put_edges-ends.ensures.ends_of c.put_edges-ends.ensures.hops_and_ids

-- `next_at` meets its contract.
use mathlib.Core.Path.{sym, ap}
use Rattle.std.specs.Prelude.{if◌then◌else◌}
use Rattle.graph.proofs.search.next_at.Goals as goal

pub returns-then-here : goal.returns-then-here
returns-then-here c = sym (ap (λ t. if t then c.args.k else c.args.next) c.if-here.true)

pub returns-else-here : goal.returns-else-here
returns-else-here c = sym (ap (λ t. if t then c.args.k else c.args.next) c.if-here.false)

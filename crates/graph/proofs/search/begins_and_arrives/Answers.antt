-- Not the first of its equals, a core segment, or by what its entries have.
use native.Mathlib.Omega.{arith}
use Rattle.graph.proofs.SearchTurns.{ends-later, ends-core, ends-other}
use Rattle.graph.proofs.search.begins_and_arrives.Goals as goal

pub returns-then-not-first : goal.returns-then-not-first
returns-then-not-first c = ends-later _ _ _ _ c.requires.first_value c.if-not-first.true

pub returns-then-k-q : goal.returns-then-k-q
returns-then-k-q c =
    let p = c.requires in
    ends-core _ _ _ _ p.first_value c.if-not-first.false (omega arith)

pub returns : goal.returns
returns c =
    let p = c.requires in
    ends-other _ _ _ _ p.first_value c.if-not-first.false (omega arith) c.ends_among_entries.ensures.0 c.ends_among_entries.ensures.1

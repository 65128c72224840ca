-- The edges that the record names are a chain, three at most, or there is none.
use mathlib.Core.Path.{sym, ◌∙◌}
use mathlib.Core.Bool.{true, false}
use Rattle.graph.proofs.RecordWalkLaws.{recorded-size, recorded-long, walk-recorded}
use Rattle.graph.proofs.chains.chain_in.Goals as goal

pub returns-then-given-ne-SIZE : goal.returns-then-given-ne-SIZE
returns-then-given-ne-SIZE c = recorded-size _ _ _ _ c.if-given-ne-SIZE.true

pub returns-then-count-gt-MOST : goal.returns-then-count-gt-MOST
returns-then-count-gt-MOST c = recorded-long _ _ _ _ c.edge_count-count.ensures c.if-count-gt-MOST.true

pub returns-then-is_chain : goal.returns-then-is_chain
returns-then-is_chain c = sym (walk-recorded _ _ _ _ c.edge_count-count.ensures c.if-count-gt-MOST.false true (sym c.is_chain.ensures ∙ c.if-is_chain.true))

pub returns : goal.returns
returns c = sym (walk-recorded _ _ _ _ c.edge_count-count.ensures c.if-count-gt-MOST.false false (sym c.is_chain.ensures ∙ c.if-is_chain.false))

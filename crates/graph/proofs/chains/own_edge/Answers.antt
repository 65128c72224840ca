-- The record's own edge, or none past those that it names.
use Rattle.graph.proofs.RecordWalkTurns.{own-used, own-unused}
use Rattle.graph.proofs.chains.own_edge.Goals as goal

pub returns-then-k-count : goal.returns-then-k-count
returns-then-k-count c = own-used _ _ _ c.if-k-count.true c.edge.ensures

pub returns : goal.returns
returns c = own-unused _ _ _ c.if-k-count.false c.no_edge.ensures

-- Three edges, of which some are unused.
use Rattle.graph.proofs.RecordWalkTurns.{own-solution}
use Rattle.graph.proofs.chains.own_solution.Goals as goal

pub returns : goal.returns
returns c = own-solution _ _ _ c.requires c.own_edge.ensures c.own_edge-2.ensures c.own_edge-3.ensures c.new.ensures

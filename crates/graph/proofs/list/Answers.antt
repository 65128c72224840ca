-- `list` meets its contract.
use Rattle.graph.proofs.ListLaws.{refused-answer}
use Rattle.graph.proofs.OpenedReads.{opened-ready}
use Rattle.graph.proofs.list.Goals as goal

pub returns-in-Err : goal.returns-in-Err
returns-in-Err c = refused-answer _ _ _ _ _ _ _ c.«open».ensures.0 c.in-Err.is c.zero.ensures

pub invariant_of-opened : goal.invariant_of-opened
invariant_of-opened c = record { ready = opened-ready _ _ c.«open».ensures.0 c.«open».ensures.1 c.in_default.is }

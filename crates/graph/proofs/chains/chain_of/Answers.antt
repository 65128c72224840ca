-- `chain_of` meets its contract: the table is what `book::open` leaves, and an accepted book has its chain.
use Rattle.std.proofs.lemmas.Result.{err_from_is_err_and}
use Rattle.graph.proofs.OpenedReads.{opened-ready}
use Rattle.graph.proofs.RecordWalkTurns.{refused-said, accepted-said}
use Rattle.graph.proofs.chains.chain_of.Goals as goal

pub returns-in_err-open : goal.returns-in_err-open
returns-in_err-open c =
    let p = err_from_is_err_and c.from_residual.result c.from_residual.ensures.1 in
    rw (p.1, p.2) (refused-said _ _ c.«open».ensures.0 _ _ _ _ c.in_err-open.was, c.«open».ensures.1)

pub invariant_of-opened : goal.invariant_of-opened
invariant_of-opened c = record { ready = opened-ready _ _ c.«open».ensures.0 c.«open».ensures.1 c.in_ok-open.was }

pub returns : goal.returns
returns c = (accepted-said _ _ c.«open».ensures.0 _ _ _ c.in_ok-open.was c.chain_in.ensures, c.«open».ensures.1)

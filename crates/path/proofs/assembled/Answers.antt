-- `assembled` meets its contract.
use Rattle.std.proofs.lemmas.Result.{err_from_is_err_and}
use Rattle.path.proofs.Answering.{chain-in-book, table-ready, refused-answer, small-answer, stranger-answer, path-answer}
use Rattle.graph.proofs.RecordedLaws.{said-edges}
use Rattle.path.proofs.assembled.Goals as goal

pub returns-in_err-chain : goal.returns-in_err-chain
returns-in_err-chain c =
    let p = err_from_is_err_and c.from_residual.result c.from_residual.ensures.1 in
    rw (p.1, p.2) (refused-answer _ _ _ _ _ c.chain_of.ensures.0 _ _ c.in_err-chain.was)

pub returns-then-out-lt-SIZE : goal.returns-then-out-lt-SIZE
returns-then-out-lt-SIZE c = small-answer _ _ _ _ _ c.chain_of.ensures.0 _ _ c.in_ok-chain.was c.if-out-lt-SIZE.true

pub returns-in_default : goal.returns-in_default
returns-in_default c = stranger-answer _ _ _ _ _ c.chain_of.ensures.0 _ _ c.in_ok-chain.was c.in_default.not-Some c.if-out-lt-SIZE.false

pub invariant_of-opened : goal.invariant_of-opened
invariant_of-opened c = let said = said-edges _ _ _ _ _ c.chain_of.ensures.0 _ (rw c.in-Some.is at c.in_ok-chain.was) in record { ready = table-ready _ _ said.1.ok c.chain_of.ensures.1 }

pub invariant_of-record : goal.invariant_of-record
invariant_of-record c =
    let said = said-edges _ _ _ _ _ c.chain_of.ensures.0 _ (rw c.in-Some.is at c.in_ok-chain.was) in
    record { in_book = rw c.from.ensures (chain-in-book _ _ _ _ _ said); bytes = λ i. (c.type_inv.book i).fits }

pub returns : goal.returns
returns c =
    let said = said-edges _ _ _ _ _ c.chain_of.ensures.0 _ (rw c.in-Some.is at c.in_ok-chain.was) in
    path-answer _ _ _ _ _ said _ c.if-out-lt-SIZE.false _ _ (rw c.from.ensures at c.build.ensures)

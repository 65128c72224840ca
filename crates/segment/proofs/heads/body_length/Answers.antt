-- `body_length` meets its contract.
use Rattle.spec.specs.Book.{body_length_at}
use Rattle.segment.proofs.heads.body_length.Goals as goal

pub returns : goal.returns
unfolding body_length_at
returns c = cc

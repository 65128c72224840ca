-- `id` meets its contract.
use Rattle.spec.specs.Book.{id_at}
use Rattle.segment.proofs.heads.id.Goals as goal

pub returns : goal.returns
unfolding id_at
returns c = cc

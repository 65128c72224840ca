-- `as_within` meets its contract.
use Rattle.spec.specs.Book.{isd_asn_at}
use Rattle.graph.proofs.opened.as_within.Goals as goal

pub returns : goal.returns
unfolding isd_asn_at
returns c = cc

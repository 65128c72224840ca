-- `isd_asn` meets its contract.
use Rattle.spec.specs.Book.{isd_asn_at}
use Rattle.segment.proofs.entries.isd_asn.Goals as goal

pub returns : goal.returns
unfolding isd_asn_at
returns c = cc

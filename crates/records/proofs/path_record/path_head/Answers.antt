-- `path_head` meets its contract.
use Rattle.spec.specs.Records.{path_head_in}
use Rattle.spec.specs.Book.{isd_asn_at}
use Rattle.records.proofs.path_record.path_head.Goals as goal

pub returns : goal.returns
unfolding path_head_in isd_asn_at
returns c = cc

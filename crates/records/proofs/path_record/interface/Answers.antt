-- `interface` meets its contract.
use Rattle.spec.specs.Records.{record_interface}
use Rattle.spec.specs.Book.{isd_asn_at}
use Rattle.records.proofs.path_record.interface.Goals as goal

pub returns : goal.returns
unfolding record_interface isd_asn_at
returns c = cc

-- `isd_asn` meets its contract.
use Rattle.book.specs.Repeats.{place_as}
use Rattle.book.proofs.twice.Row.isd_asn.Goals as goal

pub returns : goal.returns
unfolding place_as
returns c = cc

-- `query_in` meets its contract.
use Rattle.printed.proofs.Inputs.{book-part}
use Rattle.printed.proofs.slots.query_in.Goals as goal

pub returns : goal.returns
returns c = (c.isd_asn.ensures, c.isd_asn-2.ensures, book-part c.args.input.now)

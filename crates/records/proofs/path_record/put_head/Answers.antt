-- `put_head` meets its contract.
use Rattle.records.proofs.Octets.{head-written}
use Rattle.records.proofs.path_record.put_head.Goals as goal

pub returns : goal.returns
returns c =
    rw (c.put64-2.ensures, c.put64.ensures, c.put32.ensures, c.put16.ensures, c.put_byte-4.ensures, c.put_byte-3.ensures, c.put_byte-2.ensures, c.put_byte.ensures) (head-written _ _)

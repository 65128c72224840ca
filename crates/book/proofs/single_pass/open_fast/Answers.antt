-- `open_fast` meets its contract: its tests make the book one that `scan` takes.
use Rattle.book.proofs.Turns.{front}
use Rattle.book.proofs.single_pass.open_fast.Goals as goal

pub scan-requires : goal.scan-requires
scan-requires c = record { fronted = front _ c.if-n-gt-BOOK.false c.segment_count-segments.ensures.0 c.if-segments-gt-SEGMENTS.false c.sizes.ensures c.if-start-sizes.false; table_value = c.requires }

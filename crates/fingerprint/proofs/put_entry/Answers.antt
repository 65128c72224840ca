-- `put_entry` meets its contract.
use native.Mathlib.Omega.{arith}
use Rattle.fingerprint.proofs.Printing.{entry-copied}
use Rattle.fingerprint.proofs.put_entry.Goals as goal

pub returns-then-at-book : goal.returns-then-at-book
returns-then-at-book c =
    entry-copied _ (λ i. (c.type_inv.book i).fits) _ c.args.place c.args.at _ _ _ _ _ _ c.copy_from_slice.ensures.after (omega arith) (omega arith)
    c.copy_from_slice-then-at-book.ensures.after (omega arith) (omega arith) (omega arith) (omega arith)

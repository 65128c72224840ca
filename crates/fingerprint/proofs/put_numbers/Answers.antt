-- `put_numbers` meets its contract.
use mathlib.Core.Path.{ap, ap₂, ◌∙◌}
use Prim.Native.Nat.{◌+◌}
use Rattle.spec.specs.Octets.{octets2, octets8}
use Rattle.output.specs.Write.{written}
use Rattle.fingerprint.proofs.Printing.{entry-written}
use Rattle.fingerprint.proofs.put_numbers.Goals as goal

pub returns : goal.returns
returns c =
    let a = c.args in
    c.put16-2.ensures
    ∙ ap₂ (λ m x. written m (a.place + 10) (octets2 x))
    (c.put16.ensures
    ∙ ap₂ (λ m x. written m (a.place + 8) (octets2 x)) (c.put64.ensures ∙ ap (λ x. written a.message.now a.place (octets8 x)) c.be64.ensures) c.be16_past.ensures)
    c.be16_past-2.ensures
    ∙ entry-written a.message.now a.book.now a.place a.at

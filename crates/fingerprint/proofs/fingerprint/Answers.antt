-- `fingerprint` meets its contract.
use mathlib.Core.Path.{sym, ap, ap₂, ◌∙◌}
use Prim.Native.Nat.{min}
use Rattle.spec.specs.Limits.{max_entries}
use Rattle.sha256.specs.Message.{sha256}
use Rattle.fingerprint.specs.Print.{inputs}
use Rattle.fingerprint.proofs.Printing.{input-least}
use Rattle.fingerprint.proofs.fingerprint.Goals as goal

pub returns : goal.returns
returns c =
    let a = c.args in
    c.sha256.ensures
    ∙ ap sha256 (c.message-m.ensures
    ∙ ap₂ (inputs a.book.now) c.body_offset.ensures.0 (c.min-count.ensures ∙ ap (min max_entries) (c.from.ensures ∙ c.entry_count.ensures))
    ∙ sym (input-least a.book.now a.k))

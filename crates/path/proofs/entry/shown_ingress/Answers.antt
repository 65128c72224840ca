-- `shown_ingress` meets its contract.
use mathlib.Core.Path.{sym, ◌∙◌}
use Rattle.path.proofs.Showing.{ingress-hidden, ingress-kept, ingress-peer}
use Rattle.path.proofs.entry.shown_ingress.Goals.{else-e-eq0-via-then-e-eq0+else-is_inner_shortcut, else-e-eq0-via-else-e-eq0}
use Rattle.path.proofs.entry.shown_ingress.Goals as goal

pub returns-then-is_inner_shortcut : goal.returns-then-is_inner_shortcut
returns-then-is_inner_shortcut c = ingress-hidden _ _ _ c.if-e-eq0.true (sym c.is_inner_shortcut.ensures ∙ c.if-is_inner_shortcut.true)

pub returns : goal.returns
returns c =
    elim c.else-e-eq0.branch [
      | else-e-eq0-via-then-e-eq0+else-is_inner_shortcut w ↦ ingress-kept _ _ _ w.if-e-eq0.true (sym w.is_inner_shortcut.ensures ∙ w.if-is_inner_shortcut.false)
      | else-e-eq0-via-else-e-eq0 w ↦ ingress-peer _ _ _ w.if-e-eq0.false
    ]

-- `shown` meets its contract.
use mathlib.Core.Path.{◌∙◌}
use Rattle.path.proofs.Showing.{shown-along, shown-against}
use Rattle.path.proofs.places.PlacedEntry.shown.Goals as goal

pub returns-then-self : goal.returns-then-self
returns-then-self c = shown-along _ _ _ _ _ (rw (c.shown_ingress-ingress.ensures, c.read16.ensures, c.ids_offset-from.ensures.0)) (c.read16-egress.ensures ∙ c.ids_offset-from.ensures.1) c.if-self.true

pub returns : goal.returns
returns c = shown-against _ _ _ _ _ (rw (c.shown_ingress-ingress.ensures, c.read16.ensures, c.ids_offset-from.ensures.0)) (c.read16-egress.ensures ∙ c.ids_offset-from.ensures.1) c.if-self.false

-- `same_rest` meets its contract: at each return, the tests on the way there settle the definition's.
use mathlib.Core.Path.{sym, ◌∙◌}
use Rattle.equal.proofs.Sameness.{other-time, other-kind, by-bodies}
use Rattle.equal.proofs.same_rest.Goals as goal

pub returns-then-timestamp : goal.returns-then-timestamp
returns-then-timestamp c = sym (other-time _ _ _ c.timestamp.ensures c.timestamp-2.ensures c.if-timestamp.true)

pub returns-then-not-same_kind : goal.returns-then-not-same_kind
returns-then-not-same_kind c = sym (other-kind _ _ _ c.same_kind.ensures c.if-not-same_kind.true)

pub returns : goal.returns
returns c =
    sym (by-bodies _ _ _ c.same_kind.ensures c.requires c.timestamp.ensures c.timestamp-2.ensures c.if-timestamp.false c.if-not-same_kind.false (c.from-m.ensures ∙ c.body_length.ensures) (c.from-n.ensures ∙ c.body_length-2.ensures) c.body_offset-at_j.ensures.0 c.body_offset-at_k.ensures.0 c.same_parts.ensures)

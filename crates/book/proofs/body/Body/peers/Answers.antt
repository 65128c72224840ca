-- `peers` meets its contract: each test is the definition's.
use mathlib.Core.Path.{◌∙◌}
use Rattle.book.proofs.Turns.{entries-lack, entries-peers, peers-here}
use Rattle.book.proofs.body.Body.peers.Goals as goal

pub returns-then-self-at : goal.returns-then-self-at
returns-then-self-at c = λ left. entries-lack _ _ _ left c.if-self-at.true

pub returns-then-peers-gt-PEERS : goal.returns-then-peers-gt-PEERS
returns-then-peers-gt-PEERS c = λ left. entries-peers _ _ _ c.if-self-at.false (c.from-peers.ensures ∙ peers-here _ _) left c.if-peers-gt-PEERS.true

pub returns : goal.returns
returns c = (c.if-self-at.false, c.from-peers.ensures ∙ peers-here _ _, c.if-peers-gt-PEERS.false)

-- `sha256::sha256` meets its contract. The loop's invariant: the state is that after so many blocks of the padded message.
use Rattle.std.proofs.Common.{◌≡◌}
use Rattle.sha256.specs.Message.{pad, blocks}
use Rattle.sha256.proofs.sha256.Given as goal

abbrev pub invariant-loop-b : goal.invariant-loop-b
invariant-loop-b l = l.d ≡ blocks l.b-index (pad l.msg)

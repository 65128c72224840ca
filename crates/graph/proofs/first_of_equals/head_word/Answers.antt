-- `head_word` meets its contract.
use native.Mathlib.Omega.{arith}
use Rattle.spec.proofs.BookLaws.{accepted}
use Rattle.graph.proofs.FirstOfEqualsLaws.{head-within, head_read}
use Rattle.graph.proofs.first_of_equals.head_word.Goals as goal

pub overflow_mul-k : goal.overflow_mul-k
overflow_mul-k c = omega (arith, (accepted _ c.args.opened.now.ready.ok).crowd)

pub overflow_add-k : goal.overflow_add-k
overflow_add-k c = omega (arith, (accepted _ c.args.opened.now.ready.ok).crowd)

pub be64_within-requires : goal.be64_within-requires
be64_within-requires c = head-within _ c.args.opened.now.ready.ok _ c.requires.k_bound

pub returns : goal.returns
returns c = head_read _ _ c.be64_within.ensures

-- `entry_word` meets its contract.
use native.Mathlib.Omega.{arith}
use mathlib.Core.Path.{ap, ◌∙◌}
use Prim.Native.Nat.{◌+◌}
use Rattle.spec.specs.Octets.{be64}
use Rattle.graph.specs.FirstOfEquals.{egress_low, entry_word_at}
use Rattle.graph.proofs.OpenedReads.{position-below}
use Rattle.graph.proofs.FirstOfEqualsLaws.{word-inside}
use Rattle.graph.proofs.first_of_equals.entry_word.Goals as goal

pub overflow_mul-k : goal.overflow_mul-k
overflow_mul-k c = omega (arith, position-below _ _ c.args.opened.now.ready _ c.requires.k_bound)

pub offset_bounds-opened-k : goal.offset_bounds-opened-k
offset_bounds-opened-k c = omega (arith, position-below _ _ c.args.opened.now.ready _ c.requires.k_bound)

pub bounds-opened-k : goal.bounds-opened-k
bounds-opened-k c = omega (arith, position-below _ _ c.args.opened.now.ready _ c.requires.k_bound)

pub be64_within-requires : goal.be64_within-requires
be64_within-requires c =
    let p = c.requires in
    omega (arith, word-inside _ _ c.args.opened.now.ready _ p.k_bound p.word_end_in_bounds c.from.ensures)

pub returns : goal.returns
unfolding entry_word_at
returns c = c.be64_within.ensures ∙ ap (λ o. be64 c.args.opened.now.book.now (o + egress_low)) c.from.ensures

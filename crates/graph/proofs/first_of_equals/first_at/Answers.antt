-- By the mark, or by the comparison.
use mathlib.Core.Path.{sym}
use Rattle.graph.proofs.FirstOfEqualsLaws.{first-is}
use Rattle.graph.proofs.first_of_equals.first_at.Goals as goal

pub returns-then-not-seen : goal.returns-then-not-seen
returns-then-not-seen c = first-is _ _ (sym (c.requires.k_value c.if-not-seen.true))

pub none_from-requires : goal.none_from-requires
none_from-requires c =
    let p = c.requires in record { k_bound = p.k_bound; word_end_in_bounds = p.word_end_in_bounds c.if-not-seen.false; none_below = c.kind_start.ensures }

pub returns : goal.returns
returns c = first-is _ _ c.none_from.ensures

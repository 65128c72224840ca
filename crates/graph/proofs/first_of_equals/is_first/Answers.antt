-- No segment is alike, or it is looked on from the first that is.
use native.Mathlib.Omega.{arith}
use mathlib.Core.Path.{sym}
use Rattle.graph.proofs.FirstOfEqualsLaws.{some_bytes, none_first}
use Rattle.graph.proofs.first_of_equals.is_first.Goals as goal

pub entry_word-last-requires : goal.entry_word-last-requires
entry_word-last-requires c =
    let p = c.requires in
    record { k_bound = omega (arith, p.k_bound, c.from-end.ensures); word_end_in_bounds = some_bytes _ _ c.args.opened.now.ready _ p.k_bound p.nonzero }

pub next_alike-j-requires : goal.next_alike-j-requires
next_alike-j-requires c =
    let p = c.requires in
    record {
      end_bound = omega (arith, p.k_bound, c.from-end.ensures);
      word_end_in_bounds = some_bytes _ _ c.args.opened.now.ready _ p.k_bound p.nonzero;
      word_value = (c.head_word-word.ensures, c.entry_word-last.ensures);
      none_below = rw c.from-end.ensures c.kind_start.ensures;
    }

pub returns-then-end-j : goal.returns-then-end-j
returns-then-end-j c =
    let n = rw c.from-end.ensures at c.next_alike-j.ensures.1 in sym (none_first n (omega (arith, c.if-end-j.true, c.from-end.ensures)))

pub none_from-requires : goal.none_from-requires
none_from-requires c =
    let p = c.requires in
    record {
      k_bound = p.k_bound;
      word_end_in_bounds = some_bytes _ _ c.args.opened.now.ready _ p.k_bound p.nonzero;
      none_below = rw c.from-end.ensures at c.next_alike-j.ensures.1;
    }

-- The loop: no equal stands below j.
use Rattle.graph.proofs.FirstOfEqualsLaws.{head-differs, entry-differs}
use Rattle.graph.proofs.first_of_equals.next_alike.Goals as goal
use Rattle.graph.proofs.first_of_equals.next_alike.Goals.{else-head_word-word-via-then-head_word-word+else-entry_word-last, else-head_word-word-via-else-head_word-word}

pub loop-j-init : goal.loop-j-init
loop-j-init c = c.requires.none_below

pub loop-j-preserved : goal.loop-j-preserved
loop-j-preserved c =
    let p = c.requires in
    let n = c.loop-j.invariant in
    let l = c.loop-j-test.true in
    elim c.else-head_word-word.branch [
      | else-head_word-word-via-then-head_word-word+else-entry_word-last w ↦
          entry-differs n l _ c.args.opened.now.ready p.end_bound w.entry_word.ensures p.word_value.1 w.if-entry_word-last.false
      | else-head_word-word-via-else-head_word-word w ↦ head-differs n l _ c.args.opened.now.ready p.end_bound c.head_word.ensures p.word_value.0 w.if-head_word-word.false
    ]

-- `same_words` meets its contract.
use native.Mathlib.Omega.{arith}
use Rattle.graph.proofs.RecordWords.{words-differ, words_same}
use Rattle.graph.proofs.chains.same_words.Goals as goal

pub be64_within-requires : goal.be64_within-requires
be64_within-requires c = omega (arith, c.requires.a_len)

pub be64_within-requires-2 : goal.be64_within-requires-2
be64_within-requires-2 c = omega (arith, c.requires.b_len)

pub returns-then-be64_within : goal.returns-then-be64_within
returns-then-be64_within c =
    let p = c.requires in
    words-differ _ _ p.a_len p.b_len (λ i. (c.type_inv.a i).fits) (λ i. (c.type_inv.b i).fits) c.be64_within.ensures c.be64_within-2.ensures c.if-be64_within.true

pub be64_within-requires-3 : goal.be64_within-requires-3
be64_within-requires-3 c = omega (arith, c.requires.a_len)

pub be64_within-requires-4 : goal.be64_within-requires-4
be64_within-requires-4 c = omega (arith, c.requires.b_len)

pub returns : goal.returns
returns c =
    let p = c.requires in
    words_same _ _ p.a_len p.b_len (λ i. (c.type_inv.a i).fits) (λ i. (c.type_inv.b i).fits) c.be64_within.ensures c.be64_within-2.ensures c.if-be64_within.false
    c.be64_within-3.ensures c.be64_within-4.ensures

-- `refuses_wire` meets its contract.
use native.Mathlib.Omega.{arith}
use mathlib.Core.Path.{sym, ◌∙◌}
use Rattle.wire.proofs.Testing.{three-from, three-few, over-meta, wrong-refused, size-refused, infos-refused, hops-refused}
use Rattle.wire.proofs.accept.refuses_wire.Goals as goal

pub returns-then-be32-ge-LENGTHS : goal.returns-then-be32-ge-LENGTHS
returns-then-be32-ge-LENGTHS c = over-meta _ _ c.be32.ensures c.if-be32-ge-LENGTHS.true

pub returns-then-are_wrong_lengths : goal.returns-then-are_wrong_lengths
returns-then-are_wrong_lengths c = wrong-refused _ _ c.be32.ensures c.if-be32-ge-LENGTHS.false _ _ _ (three-from _ _ c.lengths_in-lengths.ensures c.from-first.ensures c.from-second.ensures c.from-third.ensures) (sym c.are_wrong_lengths.ensures ∙ c.if-are_wrong_lengths.true)

pub returns-then-wire-n : goal.returns-then-wire-n
returns-then-wire-n c = size-refused _ _ c.be32.ensures c.if-be32-ge-LENGTHS.false _ _ _ (three-from _ _ c.lengths_in-lengths.ensures c.from-first.ensures c.from-second.ensures c.from-third.ensures) (sym c.are_wrong_lengths.ensures ∙ c.if-are_wrong_lengths.false) _ c.info_count-n.ensures.0 c.if-wire-n.true

pub has_reserved-requires : goal.has_reserved-requires
has_reserved-requires c = (c.info_count-n.ensures.1, omega arith)

pub returns-then-has_reserved : goal.returns-then-has_reserved
returns-then-has_reserved c = infos-refused _ _ c.be32.ensures c.if-be32-ge-LENGTHS.false _ _ _ (three-from _ _ c.lengths_in-lengths.ensures c.from-first.ensures c.from-second.ensures c.from-third.ensures) (sym c.are_wrong_lengths.ensures ∙ c.if-are_wrong_lengths.false) _ c.info_count-n.ensures.0 c.if-wire-n.false _ c.has_reserved.ensures c.if-has_reserved.true

pub has_flag-requires : goal.has_flag-requires
has_flag-requires c = (c.info_count-n.ensures.0, c.info_count-n.ensures.1, three-few _ (three-from _ _ c.lengths_in-lengths.ensures c.from-first.ensures c.from-second.ensures c.from-third.ensures), omega arith)

pub returns : goal.returns
returns c = hops-refused _ _ c.be32.ensures c.if-be32-ge-LENGTHS.false _ _ _ (three-from _ _ c.lengths_in-lengths.ensures c.from-first.ensures c.from-second.ensures c.from-third.ensures) (sym c.are_wrong_lengths.ensures ∙ c.if-are_wrong_lengths.false) _ c.info_count-n.ensures.0 c.if-wire-n.false _ _ c.has_reserved.ensures c.if-has_reserved.false c.has_flag.ensures

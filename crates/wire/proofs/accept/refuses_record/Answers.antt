-- `refuses_record` meets its contract. The invariant of its loop: the first k infos are not wrong, and have `total` hops.
use Prim.Native.Nat.{◌+◌, ◌*◌}
use native.Mathlib.Omega.{arith}
use mathlib.Core.Path.{sym, ◌∙◌}
use Rattle.wire.proofs.Testing.{passed_none, passed-more, no-head, no-info, many-infos, no_room, wrong-found, wrong-sum}
use Rattle.wire.proofs.accept.refuses_record.Goals as goal

pub returns-then-path-lt-HEAD : goal.returns-then-path-lt-HEAD
returns-then-path-lt-HEAD c = no-head _ c.if-path-lt-HEAD.true

pub returns-then-infos-eq0 : goal.returns-then-infos-eq0
returns-then-infos-eq0 c = no-info _ _ c.from-infos.ensures c.if-infos-eq0.true

pub returns-then-infos-gt-EDGES : goal.returns-then-infos-gt-EDGES
returns-then-infos-gt-EDGES c = many-infos _ _ c.from-infos.ensures c.if-infos-gt-EDGES.true

pub returns-then-path-infos : goal.returns-then-path-infos
returns-then-path-infos c = no_room _ _ _ _ c.from-infos.ensures c.from-hops.ensures c.from.ensures c.if-path-infos.true

pub loop-k-init : goal.loop-k-init
loop-k-init c = passed_none _

pub is_wrong_info-requires : goal.is_wrong_info-requires
is_wrong_info-requires c = (omega arith, omega arith)

pub returns-then-is_wrong_info : goal.returns-then-is_wrong_info
returns-then-is_wrong_info c = wrong-found _ _ _ _ c.from-infos.ensures c.from-hops.ensures c.from.ensures c.if-infos-eq0.false c.if-infos-gt-EDGES.false c.if-path-infos.false _ c.loop-k-test.true (sym c.is_wrong_info.ensures ∙ c.if-is_wrong_info.true)

pub overflow_add-total : goal.overflow_add-total
overflow_add-total c = omega (arith, c.loop-k.invariant.most)

pub loop-k-preserved : goal.loop-k-preserved
loop-k-preserved c = passed-more _ _ _ _ c.loop-k.invariant (sym c.is_wrong_info.ensures ∙ c.if-is_wrong_info.false) c.from-total.ensures (omega (arith, c.from-total.ensures, (c.type_inv.path (26 + 8 * c.loop-k.k + 1)).fits))

pub returns : goal.returns
returns c = wrong-sum _ _ _ _ c.from-infos.ensures c.from-hops.ensures c.from.ensures c.if-infos-eq0.false c.if-infos-gt-EDGES.false c.if-path-infos.false _ _ c.loop-k-test.false c.loop-k.auto.k-end c.loop-k.invariant

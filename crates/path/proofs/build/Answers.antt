-- `build` meets its contract.
use native.Mathlib.Omega.{arith}
use Rattle.spec.proofs.BookLaws.{accepted}
use Rattle.path.proofs.Assembling.{interfaces-count, answer-loop, answer-bare, answer-path}
use Rattle.path.proofs.build.Goals as goal

pub put_edges-ends-requires : goal.put_edges-ends-requires
put_edges-ends-requires c = (c.requires, omega arith, omega arith)

pub is_loop-requires : goal.is_loop-requires
is_loop-requires c =
    let q = interfaces-count _ c.args.record.now.bytes (accepted _ c.args.record.now.opened.ready.ok) _ c.args.record.now.in_book.edges _ _ c.put_edges-ends.ensures.ends_of in record { count_in_bounds = omega (arith, q.0, q.1); count_bound = omega (arith, q.0, q.1) }

pub returns-then-is_loop : goal.returns-then-is_loop
returns-then-is_loop c =
    answer-loop _ c.args.record.now.bytes (accepted _ c.args.record.now.opened.ready.ok) _ c.args.record.now.in_book.edges _ _ c.put_edges-ends.ensures.ends_of
    _ _ (omega arith) _ c.is_loop.ensures c.if-is_loop.true _ c.zero.ensures

pub returns-then-shown-eq0 : goal.returns-then-shown-eq0
returns-then-shown-eq0 c =
    answer-bare _ c.args.record.now.bytes (accepted _ c.args.record.now.opened.ready.ok) _ c.args.record.now.in_book.edges _ _ c.put_edges-ends.ensures.ends_of
    _ _ (omega arith) _ c.is_loop.ensures c.if-is_loop.false c.if-shown-eq0.true _ c.zero-then-shown-eq0.ensures

pub put_path-requires : goal.put_path-requires
put_path-requires c = record { ends_of = c.put_edges-ends.ensures.ends_of; hops_and_ids = c.put_edges-ends.ensures.hops_and_ids; path_size_in_bounds = (omega arith, omega (arith, c.if-shown-eq0.false)) }

pub returns : goal.returns
returns c =
    answer-path _ c.args.record.now.bytes (accepted _ c.args.record.now.opened.ready.ok) _ c.args.record.now.in_book.edges _ _ c.put_edges-ends.ensures.ends_of
    _ c.is_loop.ensures c.if-is_loop.false c.if-shown-eq0.false _ _ c.put_path.ensures _ (omega arith)

-- `routes` meets its contract.
use native.Mathlib.Omega.{arith}
use mathlib.Core.Path.{sym, ◌∙◌}
use Rattle.std.proofs.lemmas.Result.{err_from_is_err_and}
use Rattle.path.proofs.Answering.{table-ready}
use Rattle.path.proofs.Listing.{counted, refused-same, refused-no-more, all-of-book, routes-counted}
use Rattle.path.proofs.route_list.routes.Goals as goal

pub keep_by_length-kept-requires : goal.keep_by_length-kept-requires
keep_by_length-kept-requires c =
    let w = counted _ _ _ _ _ _ c.list.ensures _ c.in_ok-n.was in record { n_in_bounds = (w.room, w.most); all_of_book = all-of-book _ _ _ _ _ _ w }

pub invariant_of-opened : goal.invariant_of-opened
invariant_of-opened c = let w = counted _ _ _ _ _ _ c.list.ensures _ c.in_ok-n.was in record { ready = table-ready _ _ w.ok c.«open».ensures.1 }

pub overflow_mul-kept : goal.overflow_mul-kept
overflow_mul-kept c = let w = counted _ _ _ _ _ _ c.list.ensures _ c.in_ok-n.was in record { fits = omega (arith, w.most, c.keep_by_length-kept.ensures.few) }

pub overflow_mul-n : goal.overflow_mul-n
overflow_mul-n c = let w = counted _ _ _ _ _ _ c.list.ensures _ c.in_ok-n.was in record { fits = omega (arith, w.most) }

pub clear-requires : goal.clear-requires
clear-requires c = let w = counted _ _ _ _ _ _ c.list.ensures _ c.in_ok-n.was in (omega (arith, c.keep_by_length-kept.ensures.few), omega (arith, w.room))

pub returns-in_err-n : goal.returns-in_err-n
returns-in_err-n c =
    let p = err_from_is_err_and c.from_residual.result c.from_residual.ensures.1 in
    rw (p.1, p.2) (refused-same _ _ _ _ _ _ c.list.ensures _ c.in_err-n.was)

pub returns-in_err-open : goal.returns-in_err-open
returns-in_err-open c = refused-no-more _ _ _ _ _ _ (counted _ _ _ _ _ _ c.list.ensures _ c.in_ok-n.was) _ (sym c.«open».ensures.0 ∙ c.in_err-open.was)

pub returns : goal.returns
returns c =
    let w = counted _ _ _ _ _ _ c.list.ensures _ c.in_ok-n.was in
    routes-counted _ _ _ _ _ _ w _ _ _ c.keep_by_length-kept.ensures (omega arith) c.clear.ensures

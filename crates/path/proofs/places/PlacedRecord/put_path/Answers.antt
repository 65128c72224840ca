-- `put_path` meets its contract.
use native.Mathlib.Omega.{arith}
use Rattle.spec.proofs.BookLaws.{accepted}
use Rattle.path.proofs.Assembling.{ases-fit, ids-fit, whole-fits, whole_is}
use Rattle.path.proofs.places.PlacedRecord.put_path.Goals as goal

pub path_head-head-requires : goal.path_head-head-requires
path_head-head-requires c = record { ends_of = c.requires.ends_of; ases_nonzero = c.requires.path_size_in_bounds.1 }

pub overflow_add-next : goal.overflow_add-next
overflow_add-next c = omega (arith, whole-fits _ c.args.self.now.bytes (accepted _ c.args.self.now.opened.ready.ok) _ c.args.self.now.in_book.edges _ _ _ _ c.requires.ends_of c.requires.hops_and_ids c.requires.path_size_in_bounds.0)

pub copy-requires : goal.copy-requires
copy-requires c =
    let p = c.requires in (
      omega (arith, ases-fit _ c.args.self.now.bytes (accepted _ c.args.self.now.opened.ready.ok) _ c.args.self.now.in_book.edges _ _ _ _ p.ends_of p.hops_and_ids p.path_size_in_bounds.0),
      omega (arith, whole-fits _ c.args.self.now.bytes (accepted _ c.args.self.now.opened.ready.ok) _ c.args.self.now.in_book.edges _ _ _ _ p.ends_of p.hops_and_ids p.path_size_in_bounds.0, p.path_size_in_bounds.0),
    )

pub copy-requires-2 : goal.copy-requires-2
copy-requires-2 c =
    let p = c.requires in (
      omega (arith, ids-fit _ c.args.self.now.bytes (accepted _ c.args.self.now.opened.ready.ok) _ c.args.self.now.in_book.edges _ _ _ _ p.ends_of p.hops_and_ids p.path_size_in_bounds.0),
      omega (arith, whole-fits _ c.args.self.now.bytes (accepted _ c.args.self.now.opened.ready.ok) _ c.args.self.now.in_book.edges _ _ _ _ p.ends_of p.hops_and_ids p.path_size_in_bounds.0, p.path_size_in_bounds.0),
    )

pub overflow_add-next-2 : goal.overflow_add-next-2
overflow_add-next-2 c = omega (arith, whole-fits _ c.args.self.now.bytes (accepted _ c.args.self.now.opened.ready.ok) _ c.args.self.now.in_book.edges _ _ _ _ c.requires.ends_of c.requires.hops_and_ids c.requires.path_size_in_bounds.0)

pub returns : goal.returns
returns c =
    whole_is _ c.args.self.now.bytes (accepted _ c.args.self.now.opened.ready.ok) _ c.args.self.now.in_book.edges _ _ _ _ c.requires.ends_of c.requires.hops_and_ids c.requires.path_size_in_bounds.0
    _ _ _ _ _ _ _ c.put_infos.ensures.0 c.copy.ensures c.copy-2.ensures c.path_head-head.ensures c.put_head.ensures c.zero.ensures

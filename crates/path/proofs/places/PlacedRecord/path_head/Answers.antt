-- `path_head` meets its contract.
use native.Mathlib.Omega.{arith}
use mathlib.Core.Path.{refl, sym, ◌∙◌}
use Rattle.spec.proofs.BookLaws.{accepted}
use Rattle.path.proofs.Chaining.{few-edges, edges_are}
use Rattle.path.proofs.Assembling.{reach, hops-count, interfaces-count, head-is}
use Rattle.path.proofs.places.PlacedRecord.path_head.Goals as goal

pub overflow_sub-ends : goal.overflow_sub-ends
overflow_sub-ends c =
    let s = reach _ c.args.self.now.bytes (accepted _ c.args.self.now.opened.ready.ok) _ c.args.self.now.in_book.edges _ _ c.requires.ends_of in
    omega (arith, s.ases, c.requires.ases_nonzero)

pub overflow_cast-self : goal.overflow_cast-self
overflow_cast-self c = omega (arith, few-edges _ _ _ c.args.self.now.in_book)

pub overflow_mul-self : goal.overflow_mul-self
overflow_mul-self c = omega (arith, few-edges _ _ _ c.args.self.now.in_book)

pub overflow_sub-ends-3 : goal.overflow_sub-ends-3
overflow_sub-ends-3 c =
    let s = reach _ c.args.self.now.bytes (accepted _ c.args.self.now.opened.ready.ok) _ c.args.self.now.in_book.edges _ _ c.requires.ends_of in
    omega (arith, s.hops, edges_are _ _ _ c.args.self.now.in_book)

pub overflow_cast-ends : goal.overflow_cast-ends
overflow_cast-ends c =
    let q = hops-count _ c.args.self.now.bytes (accepted _ c.args.self.now.opened.ready.ok) _ c.args.self.now.in_book.edges _ _ c.requires.ends_of in
    omega (arith, q.0, q.1, edges_are _ _ _ c.args.self.now.in_book)

pub overflow_cast-ends-2 : goal.overflow_cast-ends-2
overflow_cast-ends-2 c =
    let q = interfaces-count _ c.args.self.now.bytes (accepted _ c.args.self.now.opened.ready.ok) _ c.args.self.now.in_book.edges _ _ c.requires.ends_of in
    omega (arith, q.0, q.1)

pub returns : goal.returns
returns c =
    let e = edges_are _ _ _ c.args.self.now.in_book in
    c.new.ensures
    ∙ head-is _ c.args.self.now.bytes (accepted _ c.args.self.now.opened.ready.ok) _ c.args.self.now.in_book.edges _ _ c.requires.ends_of c.requires.ases_nonzero _ _ _ _ _ _ _
    (sym e) (omega (arith, e)) refl refl refl c.isd_asn-first.ensures c.isd_asn-last.ensures

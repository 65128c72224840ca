-- `put_solution` meets its contract.
use native.Mathlib.Omega.{arith}
use mathlib.Core.Path.{refl}
use Rattle.printed.proofs.Solutions.{wrote-solution}
use Rattle.printed.proofs.Lengths.{text-most}
use Rattle.printed.proofs.solution.put_solution.Goals as goal

pub returns : goal.returns
returns c =
    let w = wrote-solution c.args.book.now (λ i. (c.type_inv.book i).fits) _ _ _ _ _ _ _ c.assemble-answer.ensures refl c.put_answered.ensures in
    (w, omega (arith, w.end, text-most c.args.book.now (λ i. (c.type_inv.book i).fits) c.args.src c.args.dst c.args.given.now c.args.number (omega arith)))

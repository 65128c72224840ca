-- `append` meets its contract.
use Prim.Native.Nat.{ℕ}
use native.Mathlib.Omega.{arith}
use mathlib.Core.Path.{ap, ◌∙◌}
use lib.ListN.{length, take, drop}
use Rattle.std.proofs.Common.{rules}
use Rattle.output.specs.Write.{written}
use Rattle.builder.proofs.Appending.{wrote}
use Rattle.builder.proofs.append.Goals as goal

pub returns : goal.returns
returns c =
    let xs = c.args.xs.now in
    let copied = c.copy.ensures ∙ ap (λ (n : ℕ). written c.args.out.now c.args.at (take n (drop 0 xs))) {y = length xs} (search rules) in
    wrote _ _ _ _ _ _ copied (omega arith) c.saturating_add.ensures c.min.ensures

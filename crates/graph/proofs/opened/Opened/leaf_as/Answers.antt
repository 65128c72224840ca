-- `leaf_as` meets its contract.
use mathlib.Core.Path.{ap, ◌∙◌}
use Prim.Native.Nat.{◌-◌}
use Rattle.spec.specs.Book.{segment_at}
use Rattle.spec.specs.Edges.{as_of}
use Rattle.graph.proofs.OpenedReads.{leaf-is}
use Rattle.graph.proofs.opened.Opened.leaf_as.Goals as goal

pub returns : goal.returns
returns c =
    let a = c.args in
    c.as_at.ensures ∙ ap (λ n. as_of (segment_at a.self.now.book.now a.k) (n - 1)) c.count_of.ensures.0 ∙ leaf-is _

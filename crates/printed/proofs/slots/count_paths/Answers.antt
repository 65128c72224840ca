-- `count_paths` meets its contract. The invariant of its loop: the paths among the first k slots are counted.
use native.Mathlib.Omega.{arith}
use mathlib.Core.Path.{◌≡◌, sym, ap, ◌∙◌}
use Rattle.printed.specs.Pieces.{paths_to}
use Rattle.printed.proofs.Inputs.{paths-none, paths-more, paths-same}
use Rattle.printed.proofs.slots.count_paths.Goals as goal
use Rattle.printed.proofs.slots.count_paths.Goals.{then-has_path, else-has_path}

pub loop-k-init : goal.loop-k-init
loop-k-init c = (paths-none _ _, omega arith)

pub has_path-requires : goal.has_path-requires
has_path-requires c = record { ends_size_in_bounds = c.requires.ends_size_in_bounds; k_in_bounds = omega arith }

pub loop-k-preserved : goal.loop-k-preserved
loop-k-preserved c =
    elim c.if-has_path.branch [
      | then-has_path w ↦ (w.paths-is ∙ paths-more _ _ _ _ c.loop-k.invariant.0 (sym w.if-has_path.true ∙ c.has_path.ensures), omega arith)
      | else-has_path w ↦ (w.paths-is ∙ paths-same _ _ _ _ c.loop-k.invariant.0 (sym w.if-has_path.false ∙ c.has_path.ensures), omega arith)
    ]

-- `look` meets its contract.
use native.Mathlib.Omega.{arith}
use Rattle.path.proofs.route_list.Buckets.look.Goals as goal

pub compare-requires : goal.compare-requires
compare-requires g c = record { of_book = c.requires.all_of_book _ c.requires.in_bounds.2; k_in_bounds = omega arith }

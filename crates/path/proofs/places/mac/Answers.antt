-- `mac` meets its contract.
use native.Mathlib.Nat.{add_assoc}
use Rattle.spec.specs.Book.{mac_at}
use Rattle.path.proofs.places.mac.Goals as goal

pub returns : goal.returns
unfolding mac_at
returns c = simp add_assoc

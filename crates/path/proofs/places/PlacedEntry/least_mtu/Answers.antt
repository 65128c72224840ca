-- `least_mtu` meets its contract.
use native.Mathlib.Omega.{arith}
use Rattle.path.proofs.Standing.{mtu-read}
use Rattle.path.proofs.Showing.{mtus-both}
use Rattle.path.proofs.places.PlacedEntry.least_mtu.Goals as goal

pub returns : goal.returns
returns c =
    rw (c.min-2.ensures, c.min.ensures, c.link_mtu.ensures, c.read32.ensures, mtu-read _ _ _ _ c.args.self.now.stands) (mtus-both _ _ _ _ (omega arith))

-- `bucket` meets its contract.
use mathlib.Core.Path.{refl}
use native.Mathlib.Nat.{mod-lt}
use Rattle.path.proofs.route_list.Buckets.bucket.Goals as goal

pub returns : goal.returns
returns g c = let s = c.args.self.now.sized in rw (c.from.ensures, s.2) (refl, mod-lt _ s.3)

-- `put_info` meets its contract.
use mathlib.Core.Path.{refl}
use Rattle.path.proofs.Walking.{info-wrote}
use Rattle.path.proofs.places.PlacedEdge.put_info.Goals as goal

pub returns : goal.returns
returns c = (info-wrote _ _ _ _ _ _ _ c.info.ensures c.info_octets-r.ensures c.copy.ensures, refl)

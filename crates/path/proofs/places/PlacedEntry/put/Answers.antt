-- `put` meets its contract: each part is that of its own function.
use native.Mathlib.Omega.{arith}
use Rattle.path.proofs.Standing.{local-read}
use Rattle.path.proofs.Writes.{appended-wrote}
use Rattle.path.proofs.Showing.{ases-appended, ids-appended, units-one}
use Rattle.path.proofs.places.PlacedEntry.put.Goals as goal

pub put_as-next_as-requires : goal.put_as-next_as-requires
put_as-next_as-requires c = (omega (arith, c.args.self.now.stands.room), omega arith)

pub put_as-end_as-requires : goal.put_as-end_as-requires
put_as-end_as-requires c = (omega (arith, c.args.self.now.stands.room), omega arith)

pub returns : goal.returns
returns c =
    let e = local-read _ _ _ _ c.args.self.now.stands in record {
      entry_walked = record {
        hops = appended-wrote c.put_hop-hops.ensures.0 c.put_hop-hops.ensures.1 c.requires.0;
        ases = ases-appended _ _ _ _ _ _ c.shown-shown.ensures (rw e at c.put_as-next_as.ensures.0) (rw e at c.put_as-end_as.ensures.0);
        ids = ids-appended _ _ _ _ _ _ c.shown-shown.ensures c.put_id-next_id.ensures.0 c.put_id-end_id.ensures.0;
        mtu = c.least_mtu-mtu.ensures;
        units = units-one _ _ _ _ _ _ c.min-units.ensures c.units.ensures;
      };
      hops_bound = omega (arith, c.put_hop-hops.ensures.1, c.put_as-next_as.ensures.1, c.put_as-end_as.ensures.1, c.put_id-next_id.ensures.1, c.put_id-end_id.ensures.1);
    }

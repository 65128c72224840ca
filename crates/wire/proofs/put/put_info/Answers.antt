-- `put_info` meets its contract.
use Prim.Native.Nat.{◌+◌, ◌-◌}
use native.Mathlib.Omega.{arith}
use mathlib.Core.Path.{refl}
use Rattle.spec.specs.Limits.{info_size}
use Rattle.output.proofs.Copied.{copied_part}
use Rattle.wire.proofs.Carrying.{info-put, kept}
use Rattle.wire.proofs.put.put_info.Goals as goal

pub returns : goal.returns
returns c =
    info-put _ _ _ _ _ _ _ _ c.put_byte.ensures c.put_byte-2.ensures
    (copied_part _ (c.args.to + 2) (c.args.to + info_size - (c.args.to + 2)) c.args.src.now (c.args.from + 2) (c.args.from + info_size - (c.args.from + 2)) 6 _ c.copy_from_slice.ensures.after (omega arith) (omega arith) (omega arith)
    (omega (arith, kept _ _ _ c.put_byte-2.ensures (kept _ _ _ c.put_byte.ensures refl))))

-- `print_slots` meets its contract. The invariant of its loop: the first k solutions are written.
use native.Mathlib.Omega.{arith}
use mathlib.Core.Path.{◌≡◌, ap, ◌∙◌}
use mathlib.Core.List.{flat_map}
use lib.ListN.{length}
use Rattle.spec.specs.Basics.{range}
use Rattle.printed.specs.Pieces.{slot_text}
use Rattle.list.proofs.Fronts.{none-long, one-longer, count-few}
use Rattle.list.proofs.print_slots.Goals as goal

pub loop-k-init : goal.loop-k-init
loop-k-init g c = (none-long _, omega arith)

pub print_slot-written-requires : goal.print_slot-written-requires
print_slot-written-requires g c = record { records_value = c.requires.records_value; k_bound = omega arith }

pub overflow_add-written : goal.overflow_add-written
overflow_add-written g c = omega (arith, count-few c.args.input.now)

pub loop-k-preserved : goal.loop-k-preserved
loop-k-preserved g c = (
  omega (arith, one-longer (slot_text c.args.input.now c.args.records.now) c.loop-k.k, c.print_slot-written.ensures.0),
  omega (arith, c.print_slot-written.ensures.1),
)

pub returns : goal.returns
returns g c =
    let e : c.loop-k.k ≡ c.args.count = omega arith in (
      c.loop-k.invariant.0 ∙ ap (λ n. length (flat_map (slot_text c.args.input.now c.args.records.now) (range 0 n))) e,
      omega (arith, count-few c.args.input.now),
    )

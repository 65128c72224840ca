-- `same` meets its contract. The invariant of its loop: what is left decides.
use mathlib.Core.Path.{◌≡◌}
use Rattle.spec.specs.Routes.{same_interfaces}
use Rattle.path.specs.Slots.{shown_in}
use Rattle.path.proofs.Interfaces.{same_from}
use Rattle.path.proofs.shown.Interfaces.same.Given as goal

abbrev pub invariant-loop-k : goal.invariant-loop-k
invariant-loop-k l =
    let n = l.self.count in
    same_interfaces (shown_in l.self.ases.now l.self.ids.now n) (shown_in l.others.ases.now l.others.ids.now n) ≡ same_from l.self.ases.now l.self.ids.now l.others.ases.now l.others.ids.now n l.k

-- What is taken: where there is room, what is not refused.
-- Assumes nothing.
use Rattle.std.specs.Prelude.{ℕ, Bool, ltb, if◌then◌else◌, Ok, Err}
use Rattle.spec.specs.declared.Refusal.TheVariants.{Small, Wire}
use Rattle.spec.specs.Book.{Verdict}

-- into so much room, of which so much is needed
unfoldable pub taking : ℕ → ℕ → Bool → Verdict
taking room needs refused = if ltb room needs then Err Small else if refused then Err Wire else Ok tt

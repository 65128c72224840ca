-- Marks of ASes as bits of a word.
-- Assumes nothing.
use Rattle.std.specs.Prelude.{ℕ, ◌%◌, ◌<◌, ◌≡◌, Bool, true, eqb}
use Rattle.std.specs.Int.{bit_at}
use Rattle.spec.specs.declared.IsdAsn.{IsdAsn}

-- as many as a word has bits
abbrev pub marks : ℕ
marks = 64

-- the mark of an AS: its lowest six bits
unfoldable pub mark_of : IsdAsn → ℕ
mark_of a = a.0 % marks

-- a word has the bit that is the mark of an AS
unfoldable pub has_mark : ℕ → IsdAsn → Bool
has_mark word a = eqb (bit_at word (mark_of a)) 1

-- a word that has the mark of an AS and all that another has
pub record Adds (a : IsdAsn) (word more : ℕ) : Type 0 where
  pub own : has_mark more a ≡ true
  pub kept : (x : IsdAsn) → has_mark word x ≡ true → has_mark more x ≡ true

-- a word has the marks of the first n ASes
abbrev pub Marked : (ℕ → IsdAsn) → ℕ → ℕ → Type 0
Marked ases word n = (j : ℕ) → j < n → has_mark word (ases j) ≡ true

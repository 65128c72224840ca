-- The first of equal segments: what is read of a segment before it is compared with another, and marks that equal segments share.
-- Assumes nothing.
use Rattle.std.specs.Prelude.{ℕ, ◌+◌, ◌*◌, ◌%◌, ◌≤◌, ◌<◌, ◌≡◌, Bool, true, false, List, get_or}
use Rattle.spec.specs.Limits.{max_entries}
use Rattle.spec.specs.Octets.{be64}
use Rattle.spec.specs.Book.{Segment, segments, segment_at, head_offset}
use Rattle.spec.specs.Edges.{same_segment, is_first}

-- bytes of an entry that differ in most entries: the low one of its egress, which units and MAC follow, and the last of its MAC
abbrev pub egress_low : ℕ
egress_low = 17

abbrev pub mac_last : ℕ
mac_last = 24

-- past the eight from the low one of the egress on
abbrev pub word_end : ℕ
word_end = egress_low + 8

-- timestamp, id and entry count of the segment at k: the first eight bytes of its head
unfoldable pub head_word_at : List ℕ → ℕ → ℕ
head_word_at b k = be64 b (head_offset k)

-- eight bytes of its first entry, by the table of offsets
unfoldable pub entry_word_at : List ℕ → List ℕ → ℕ → ℕ
entry_word_at b t k = be64 b (get_or t (max_entries * k) 0 + egress_low)

-- no equal of the segment at k stands below j
pub record NoneBelow (b : List ℕ) (k j : ℕ) : Type 0 where
  pub within : j ≤ k
  pub none : (i : ℕ) → i < j → same_segment (segment_at b k) (segment_at b i) ≡ false

-- a byte of what tells equal segments
unfoldable pub mark_of : Segment → ℕ
mark_of s = (s.timestamp + s.id + get_or s.body egress_low 0 + get_or s.body mac_last 0) % 256

-- the segment at k is the first of its equals
unfoldable pub first_at : List ℕ → ℕ → Bool
first_at b k = is_first (segments b) (segment_at b k)

-- the same for each of n positions
pub record Firsts (b : List ℕ) (n : ℕ) (w : List Bool) : Type 0 where
  pub each : (i : ℕ) → i < n → get_or w i false ≡ first_at b i

-- the marks of the segments before k are seen, and none where there are none
pub record Seen (b : List ℕ) (k : ℕ) (w : List Bool) : Type 0 where
  pub marked : (i : ℕ) → i < k → get_or w (mark_of (segment_at b i)) false ≡ true
  pub empty : k ≡ 0 → (i : ℕ) → get_or w i false ≡ false

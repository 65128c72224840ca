-- What refusing Twice gives: in an accepted book no segment passes one AS twice, and what follows for its edges.
-- Assumes nothing.
use Rattle.std.specs.Prelude.{ℕ, ◌≤◌, ◌<◌, ◌≡◌, true, false, length}
use mathlib.Core.List.{Memᴰ as Mem}
use Rattle.spec.specs.declared.Edge.{Edge}
use Rattle.spec.specs.Book.{Segment}
use Rattle.spec.specs.Edges.{same_vertex, as_of, insertions, same_ends, stored_of}

-- 2.7: no two entries of a segment have one AS
abbrev pub Apart : Segment → Type 0
Apart seg = (i j : ℕ) → i < length seg.entries → j < length seg.entries → as_of seg i ≡ as_of seg j → i ≡ j

-- 3.7: a segment, and its edges
pub record Loopless (seg : Segment) : Type 0 where
  pub apart : Apart seg
  -- of a non-core segment, two AS edges with equal ends are one
  pub edges : seg.core ≡ false → {e f : Edge} → Mem e (insertions seg) → Mem f (insertions seg) → e.peer ≡ 0 → f.peer ≡ 0 → same_ends e f ≡ true → e ≡ f
  -- an edge from a vertex to itself comes only of a core segment with one entry
  pub self : {e : Edge} → Mem e (insertions seg) → same_vertex e.src e.dst ≡ true → (seg.core ≡ true) × (length seg.entries ≡ 1)
  -- what stands between the ends of a peer's edge is of the same entry, and of no smaller a peer
  pub peers : {e f : Edge} → Mem e (stored_of seg) → Mem f (insertions seg) → 0 < f.peer → same_ends e f ≡ true → (e.shortcut ≡ f.shortcut) × (f.peer ≤ e.peer)

-- From an AS or from a link, as it is told.
use Rattle.graph.proofs.EdgeFoundLaws.{whole-at}
use Rattle.graph.proofs.SearchTurns.{other_at, not-link}
use Rattle.graph.proofs.search.edge_from.Goals as goal

pub edge_to_as-requires : goal.edge_to_as-requires
edge_to_as-requires c = let p = c.requires in record { k_bound = p.book_bound.1; k_value = other_at _ _ p.book_bound.0 }

pub edge_between_ases-requires : goal.edge_between_ases-requires
edge_between_ases-requires c = let p = c.requires in record { k_bound = p.book_bound.1; k_value = other_at _ _ p.book_bound.0 }

pub edge_between_ases-requires-in-Two : goal.edge_between_ases-requires-in-Two
edge_between_ases-requires-in-Two c = let p = c.requires in record { k_bound = p.book_bound.1; k_value = other_at _ _ p.book_bound.0 }

pub returns-in-One : goal.returns-in-One
returns-in-One c = whole-at _ _ _ _ (not-link (λ z. z) c.in-One.is c.requires.fact) c.edge_between_ases.ensures

pub returns-in-Two : goal.returns-in-Two
returns-in-Two c = whole-at _ _ _ _ (not-link (λ z. z) c.in-Two.is c.requires.fact) c.edge_between_ases-in-Two.ensures

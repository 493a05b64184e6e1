use Rattle.std.proofs.Common.{List, ℕ, ap, length, map, slice_index, sym, ◌∙◌}
use Rattle.vax_lists.proofs.Moves.{order-length}
use Rattle.vax_lists.proofs.Reading.{residents_there}
use Rattle.vax_lists.proofs.lists.Lists.residents.Goals as goal

pub read-requires-clause-table : goal.read-requires-clause-table
read-requires-clause-table c = ap length c.deref.ensures.value ∙ sym c.self.invariant.held_limit

pub read-requires-clause-room : goal.read-requires-clause-room
read-requires-clause-room c = rw (order-length c.self.inside.held c.self.inside.modified c.self.inside.pages.items _ c.self.view_is) c.requires.room

pub returns-clause-count : goal.returns-clause-count
returns-clause-count c = c.read.ensures.count ∙ order-length c.self.inside.held c.self.inside.modified c.self.inside.pages.items _ c.self.view_is

pub returns-clause-pages : goal.returns-clause-pages
returns-clause-pages c =
    c.read.ensures.cells ∙ ap (λ (l : List ℕ). map (slice_index l) c.self.inside.held.first) c.deref.ensures.value
    ∙ residents_there c.self.inside.held c.self.inside.modified c.self.inside.pages.items _ c.self.view_is

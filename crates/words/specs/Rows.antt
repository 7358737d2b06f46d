-- Document 02, card 3: tickets as rows of four numbers, in which the code gathers them before they are handed out.
use Rattle.std.specs.Prelude.{ℕ, List, ◌++◌, map, take, drop}
use Rattle.levels.specs.declared.Ticket.{Ticket}
use Rattle.levels.specs.Tickets.{laid}
pub use Rattle.levels.specs.Tickets.{row_of}

-- the four numbers of each of these tickets
unfoldable pub rows_of : List Ticket → List (List ℕ)
rows_of ts = map row_of ts

-- new entries laid over a list from entry n on
unfoldable pub laid_from : {A : Type 0} → ℕ → List A → List A → List A
laid_from n new old = take n old ++ laid new (drop n old)

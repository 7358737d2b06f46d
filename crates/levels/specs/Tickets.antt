-- Document 02, card 3: "A ticket for each merge." A `Ticket` is four numbers; the code declares it.
use Rattle.std.specs.Prelude.{ℕ, suc, ◌+◌, ◌≤◌, ◌<◌, ◌≡◌, List, [], ◌∷◌, ◌++◌, map, eqb, length, take, drop, get_or}
use Rattle.geometry.specs.declared.Geometry.{Geometry}
use Rattle.geometry.specs.Geometry.{window_of}
use Rattle.levels.specs.declared.Ticket.{Ticket}
use Rattle.levels.specs.Basics.{if◌then◌otherwise◌, total}
use Rattle.levels.specs.Call.{Merge}
use Rattle.levels.specs.Count.{overlap_of, blocks_merged}

-- "each with upper level, number of the run's first block in that level from 0, overlap, and blocks written"
unfoldable pub ticket_of : Geometry → Merge → Ticket
ticket_of g m = record { level = m.level; first = m.first; overlap = overlap_of g m; written = blocks_merged m }

-- a ticket's four numbers, in the order in which card 3 names them, and the ticket of a row of four numbers
abbrev pub row_of : Ticket → List ℕ
row_of t = t.level ∷ t.first ∷ t.overlap ∷ t.written ∷ []

abbrev pub ticket_from : List ℕ → Ticket
ticket_from row = record { level = get_or row 0 0; first = get_or row 1 0; overlap = get_or row 2 0; written = get_or row 3 0 }

-- "Tickets are filled in the order of the merges"
abbrev pub tickets_of : Geometry → List Merge → List Ticket
tickets_of g ms = map (ticket_of g) ms

-- "if the list is shorter, the further merges are only counted. Tickets not reached stay unchanged." New entries laid over a lent list.
unfoldable pub laid : {A : Type 0} → List A → List A → List A
laid new old = take (length old) new ++ drop (length new) old

-- "the written column, summed for an upper level": for the one above level j
abbrev pub written_column : ℕ → List Ticket → ℕ
written_column j ts = total (λ (t : Ticket). if eqb (suc t.level) j then t.written otherwise 0) ts

-- "The overlap and the write bound of each merge are then read from its ticket": what is read from one
pub record TicketKeeps (g : Geometry) (t : Ticket) : Type 0 where
  -- it is out of one of the levels 0 to h − 1
  pub level_high : t.level < g.h
  -- q is at most W(i + 1), and at most W(i) + q + 1 blocks are written, out of level 0 at most w + q
  pub overlap_high : t.overlap ≤ window_of g (suc t.level)
  pub written_high : t.written ≤ window_of g t.level + t.overlap + 1
  pub written_top : t.level ≡ 0 → t.written ≤ window_of g 0 + t.overlap

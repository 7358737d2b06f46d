-- The tickets of a call out of the rows in which it has left them.
use Rattle.std.proofs.Common.{◌≡◌, ℕ, ◌≤◌, List, [], ◌∷◌, map, length, take, refl, sym, ap, ◌∙◌, arith}
use Rattle.std.proofs.lemmas.List.{length-map}
use Rattle.levels.specs.declared.Ticket.{Ticket}
use Rattle.levels.specs.Tickets.{ticket_from, laid}
use Rattle.words.specs.Rows.{row_of, rows_of}
use Rattle.levels.proofs.Laying.{laid_all}

-- a ticket goes into a row and back
back : (ts : List Ticket) → map ticket_from (map row_of ts) ≡ ts
back [] = refl
back (t ∷ ts) = ap (λ r. t ∷ r) (back ts)

-- rows over which all tickets were laid give them back
pub gathered_all : (ts : List Ticket) (rows₀ rows : List (List ℕ)) (n : ℕ) → n ≡ length ts → length ts ≤ length rows₀ → rows ≡ laid (rows_of ts) rows₀ → map ticket_from (take n rows) ≡ ts
unfolding rows_of
gathered_all ts rows₀ rows n en h e =
    let l = length-map ts row_of in
    ap (λ m. map ticket_from (take m rows)) (en ∙ sym l) ∙ ap (λ r. map ticket_from (take (length (map row_of ts)) r)) e ∙ ap (map ticket_from) (laid_all (map row_of ts) rows₀ (omega arith)) ∙ back ts

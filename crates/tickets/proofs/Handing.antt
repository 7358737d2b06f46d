-- What the loop of `hand_out` keeps: the tickets of the rows that are left, laid from entry i on, make of the list what all of them
-- make of the first.
use Rattle.std.proofs.Common.{◌≡◌, ℕ, suc, ◌+◌, ◌<◌, ◌≤◌, List, [], ◌∷◌, map, length, drop, set, get_or, sym, ap, ◌∙◌, arith, add-one, drop-cons, drop_of_length-le}
use Rattle.std.proofs.lemmas.List.{length-map, get_or-map}
use Rattle.levels.specs.declared.Ticket.{Ticket}
use Rattle.levels.specs.Tickets.{ticket_from}
use Rattle.words.specs.Rows.{laid_from}
use Rattle.words.proofs.Rows.{laid_from_none, laid_from_next}

-- the tickets of rows, from row i on
abbrev pub left : List (List ℕ) → ℕ → List Ticket
left rows i = drop i (map ticket_from rows)

module _ (rows : List (List ℕ)) (i : ℕ) where
  -- the next ticket, and those after it
  left_next : i < length rows → left rows i ≡ ticket_from (get_or rows i []) ∷ left rows (suc i)
  left_next h =
      let d : Ticket = ticket_from [] in
      drop-cons (map ticket_from rows) i d (omega (arith, length-map rows ticket_from)) ∙ ap (λ x. x ∷ left rows (suc i)) (get_or-map ticket_from rows i [] d h)

  pub handed_on : (x : Ticket) (t t' : List Ticket) → i < length rows → x ≡ ticket_from (get_or rows i []) → t' ≡ set t i x → laid_from (i + 1) (left rows (i + 1)) t' ≡ laid_from i (left rows i) t
  handed_on x t t' h ex et =
      ap (λ j. laid_from j (left rows j) t') (add-one i) ∙ ap (laid_from (suc i) (left rows (suc i))) (et ∙ ap (set t i) ex)
      ∙ sym (laid_from_next i (ticket_from (get_or rows i [])) (left rows (suc i)) t) ∙ ap (λ xs. laid_from i xs t) (sym (left_next h))

  -- none is left
  pub handed_all : (t : List Ticket) → length rows ≤ i → t ≡ laid_from i (left rows i) t
  handed_all t h = sym (laid_from_none i t) ∙ ap (λ xs. laid_from i xs t) (sym (drop_of_length-le (map ticket_from rows) (omega (arith, length-map rows ticket_from))))

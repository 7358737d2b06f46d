-- What the proofs of `print_tickets`, `say_put` and `say_delete` need: of rows over which tickets were laid, the lines are those of the
-- first tickets, as many as there are rows.
use Prim.Native.Nat.{ℕ, zero, suc, ◌+◌, ◌*◌, ◌≤◌, ◌<◌, min}
use mathlib.Core.Path.{◌≡◌, refl, sym, ap, ◌∙◌, subst}
use mathlib.Core.Logic.{◌≢◌}
use mathlib.Core.List.{List, [], ◌∷◌, ◌++◌, append_assoc, append-nil, map, map-append}
use native.Mathlib.Nat.{zero-min, suc-min-suc, min-le_left, min-le_right, min_comm}
use native.Mathlib.Numerals.{add-one}
use native.Mathlib.Omega.{arith}
use lib.ListN.{length, take, get_or, length-take}
use lib.Seq.{take-suc, take_all}
use Rattle.std.proofs.lemmas.List.{get_or-take, take_min}
use Rattle.levels.specs.declared.Ticket.{Ticket}
use Rattle.levels.specs.Tickets.{ticket_from, laid}
use Rattle.levels.proofs.Lists.{map_take}
use Rattle.words.specs.Calls.{Outcome, ChangeAnswer, merges_counted}
use Rattle.words.specs.Rows.{row_of, rows_of}
use Rattle.levels.proofs.Laying.{laid_length, laid_short}
use Rattle.std.specs.Prelude.{Result}
use Rattle.geometry.specs.declared.Refusal.{Refusal}
use Rattle.writer.specs.declared.Change.{Change}
use Rattle.writer.specs.Answers.{changed_answer}
use Rattle.tickets.proofs.Gathering.{gathered_all}
use Rattle.lines.specs.Bytes.{letter_t, Printed}
use Rattle.lines.specs.Lines.{longest_line, printed_line, room}
use Rattle.lines.proofs.Print.{printed_then, printed_as, change_is}
use Rattle.dialogue.specs.Said.{ticket_line, ticket_lines, changed_line, change_said, longest_answer}
use Rattle.dialogue.specs.State.{Says}
use Rattle.dialogue.proofs.Feeding.{printed_none}
use Rattle.dialogue.proofs.Replies.{answer_long}

lines_append : (ts us : List Ticket) → ticket_lines (ts ++ us) ≡ ticket_lines ts ++ ticket_lines us
lines_append [] us = refl
lines_append (t ∷ ts) us = ap (λ (x : List ℕ). ticket_line t ++ x) (lines_append ts us) ∙ sym (append_assoc (ticket_line t) (ticket_lines ts) (ticket_lines us))

-- the line of one row more
lines_more : (rows : List (List ℕ)) (i : ℕ) → i < length rows
    → ticket_lines (map ticket_from (take i rows)) ++ ticket_line (ticket_from (get_or rows i [])) ≡ ticket_lines (map ticket_from (take (i + 1) rows))
lines_more rows i h =
    let u : Ticket = ticket_from (get_or rows i []) in
    let ts : List Ticket = map ticket_from (take i rows) in
    let e : take (i + 1) rows ≡ take i rows ++ (get_or rows i [] ∷ []) = ap (λ (k : ℕ). take k rows) (add-one i) ∙ take-suc rows i [] h in
    ap (λ (x : List ℕ). ticket_lines ts ++ x) (sym (append-nil (ticket_line u))) ∙ sym (lines_append ts (u ∷ []))
    ∙ ap ticket_lines (sym (map-append ticket_from (take i rows) (get_or rows i [] ∷ []))) ∙ ap (λ (x : List (List ℕ)). ticket_lines (map ticket_from x)) (sym e)

-- a row of four words, printed, is the line of its ticket
pub row_line : (row : List ℕ) → length row ≡ 4 → printed_line letter_t row ≡ ticket_line (ticket_from row)
row_line (a ∷ b ∷ c ∷ d ∷ []) h = change_is letter_t a b c d
row_line [] h = absurd (omega (arith, h))
row_line (a ∷ []) h = absurd (omega (arith, h))
row_line (a ∷ b ∷ []) h = absurd (omega (arith, h))
row_line (a ∷ b ∷ c ∷ []) h = absurd (omega (arith, h))
row_line (a ∷ b ∷ c ∷ d ∷ e ∷ row) h = absurd (omega (arith, h))

-- each of the first k rows has four words
pub row_four : (rows : List (List ℕ)) (k i : ℕ) → ((j : ℕ) → j < length rows → length (get_or rows j []) ≡ 4) → i < length (take k rows) → length (get_or (take k rows) i []) ≡ 4
row_four rows k i told h =
    let e = length-take k rows in
    ap length (get_or-take k rows i [] (omega (arith, h, e, min-le_left k (length rows)))) ∙ told i (omega (arith, h, e, min-le_right k (length rows)))

-- What the loop of `print_tickets` keeps, after i of the rows that it shows.
pub record Shows (rows : List (List ℕ)) (at : ℕ) (before : List ℕ) (i end : ℕ) (after : List ℕ) : Type 0 where
  pub ends : end ≤ at + longest_line * i
  pub output : Printed before after at end (ticket_lines (map ticket_from (take i rows)))

pub shows_none : (rows : List (List ℕ)) (at : ℕ) (before : List ℕ) → at ≤ length before → Shows rows at before 0 at before
shows_none rows at before h = record { ends = omega arith; output = printed_none before at h }

pub shows_more : (rows : List (List ℕ)) (at : ℕ) (before : List ℕ) (i end : ℕ) (mid : List ℕ) (r : ℕ) (after : List ℕ) → i < length rows
    → (r ≤ end + longest_line) × Printed mid after end r (ticket_line (ticket_from (get_or rows i []))) → Shows rows at before i end mid → Shows rows at before (i + 1) r after
shows_more rows at before i end mid r after h p s = record {
  ends = omega (arith, s.ends, p.0);
  output = subst (λ (x : List ℕ). Printed before after at r x) (lines_more rows i h)
      (printed_then before mid after at end r (ticket_lines (map ticket_from (take i rows))) (ticket_line (ticket_from (get_or rows i []))) s.output p.1);
}

-- behind the last of the first n rows, or of all
pub shows_all : (rows shown : List (List ℕ)) (n at : ℕ) (before : List ℕ) (i end : ℕ) (after : List ℕ) → shown ≡ take (min n (length rows)) rows → i ≡ length shown → Shows shown at before i end after
    → (end ≤ at + longest_line * length rows) × Printed before after at end (ticket_lines (map ticket_from (take n rows)))
shows_all rows shown n at before i end after e h s =
    let f : take i shown ≡ take n rows = take_all i shown (omega arith) ∙ e ∙ take_min n rows in
    let l : length shown ≤ length rows = omega (arith, ap length e, length-take (min n (length rows)) rows, min-le_right (min n (length rows)) (length rows)) in
    (omega (arith, s.ends, l, h), subst (λ (x : List (List ℕ)). Printed before after at end (ticket_lines (map ticket_from x))) f s.output)

-- the line of the call and those of its tickets, one after the other; k merges are counted
pub whole_printed : (rows : List (List ℕ)) (bs before mid after : List ℕ) (at end r k n : ℕ) → n ≡ k → (end ≤ at + longest_line) × Printed before mid at end bs
    → (r ≤ end + longest_line * length rows) × Printed mid after end r (ticket_lines (map ticket_from (take n rows)))
    → (r ≤ at + longest_answer (length rows)) × Printed before after at r (bs ++ ticket_lines (map ticket_from (take k rows)))
whole_printed rows bs before mid after at end r k n e p q = (
  omega (arith, p.0, q.0, answer_long (length rows)),
  subst (λ (j : ℕ). Printed before after at r (bs ++ ticket_lines (map ticket_from (take j rows)))) e (printed_then before mid after at end r bs (ticket_lines (map ticket_from (take n rows))) p.1 q.1),
)

-- laying tickets over rows leaves as many rows, and so as much room for their lines
pub rows_room : (ts : List Ticket) (rows₀ rows : List (List ℕ)) (at l : ℕ) → rows ≡ laid (rows_of ts) rows₀ → at + longest_answer (length rows₀) ≤ l → at + longest_answer (length rows) ≤ l
rows_room ts rows₀ rows at l e h = subst (λ (k : ℕ). at + longest_answer k ≤ l) (sym (ap length e ∙ laid_length (rows_of ts) rows₀)) h

-- rows over which tickets were laid give the first tickets back, as many as there are rows
rows_show : (ts : List Ticket) (rows₀ rows : List (List ℕ)) → rows ≡ laid (rows_of ts) rows₀ → map ticket_from (take (length ts) rows) ≡ take (length rows₀) ts
unfolding rows_of
rows_show ts rows₀ rows e =
    let us : List Ticket = take (length rows₀) ts in
    let k : length us ≡ min (length rows₀) (length ts) = length-take (length rows₀) ts in
    let l : length rows ≡ length rows₀ = ap length e ∙ laid_length (rows_of ts) rows₀ in
    let f : rows ≡ laid (rows_of us) rows₀ = e ∙ sym (laid_short (rows_of ts) rows₀) ∙ ap (λ (x : List (List ℕ)). laid x rows₀) (sym (map_take row_of (length rows₀) ts)) in
    let j : min (length ts) (length rows) ≡ length us = min_comm (length ts) (length rows) ∙ ap (λ (x : ℕ). min x (length ts)) l ∙ sym k in
    ap (map ticket_from) (sym (take_min (length ts) rows) ∙ ap (λ (x : ℕ). take x rows) j)
    ∙ gathered_all us rows₀ rows (length us) refl (omega (arith, k, min-le_left (length rows₀) (length ts))) f

-- What a put or delete has done and what is printed for it are what is said of it: c is what the code answers, o the definition's outcome.
pub change_said_lem : (letter : ℕ) (c : Result Change Refusal) (o : Outcome ChangeAnswer) (ts : List Ticket) (rows₀ rows : List (List ℕ)) (at r : ℕ) (ys before after : List ℕ)
    → ◌≡◌ {A = Outcome ChangeAnswer} (record { answer = changed_answer c; words = ys }) o → merges_counted (changed_answer c) ≡ length ts → rows ≡ laid (rows_of ts) rows₀
    → (r ≤ at + longest_answer (length rows)) × Printed before after at r (changed_line letter (changed_answer c) ++ ticket_lines (map ticket_from (take (merges_counted (changed_answer c)) rows)))
    → Says (length rows₀) (change_said letter o (take (length rows₀) ts)) at r ys before after
change_said_lem letter c o ts rows₀ rows at r ys before after e n f p =
    let l : length rows ≡ length rows₀ = ap length f ∙ laid_length (rows_of ts) rows₀ in
    let h : ticket_lines (map ticket_from (take (merges_counted (changed_answer c)) rows)) ≡ ticket_lines (take (length rows₀) ts) =
    ap (λ (k : ℕ). ticket_lines (map ticket_from (take k rows))) n ∙ ap ticket_lines (rows_show ts rows₀ rows f) in
    let g : changed_line letter (changed_answer c) ≡ changed_line letter o.answer = ap (λ (x : Outcome ChangeAnswer). changed_line letter x.answer) e in
    record {
      ends = subst (λ (k : ℕ). r ≤ at + longest_answer k) l p.0;
      store = ap (λ (x : Outcome ChangeAnswer). x.words) e;
      output = subst (λ (x : List ℕ). Printed before after at r x) (λ i. g i ++ h i) p.1;
    }

-- Laws of the dialogue: in whatever parts the input comes, what is printed for it is what `dialogue` says of the whole.
use Prim.Native.Nat.{ℕ}
use mathlib.Core.Path.{◌≡◌, refl, sym, ◌∙◌, ap}
use mathlib.Core.Bool.{Bool, true, false}
use mathlib.Core.List.{List, [], ◌∷◌, ◌++◌, append_assoc, append-nil, flatten}
use borrow.Author.Tests.{ne_eqb}
use lib.Dec.{eqb}
use lib.ListN.{take}
use Rattle.words.specs.Calls.{put_of, delete_of, put_tickets, delete_tickets}
use Rattle.lines.specs.declared.Line.{Line}
use Rattle.lines.specs.declared.Line.TheVariants.{Format, Put, Delete, Get, Unreadable}
use Rattle.lines.specs.Bytes.{line_end, letter_p, letter_d}
use Rattle.lines.specs.Lines.{first_field, further_fields, named, line_of, unreadable_line}
use Rattle.dialogue.specs.Said.{Said, changed_line, ticket_lines, said_of}
use Rattle.dialogue.specs.Dialogue.{joined, lines_of, answers_to, dialogue, Session, Heard, opening, after, heard, ended_on, ended, heard_parts, in_parts}

-- the session after an answer, and after a byte more of the line that has begun
abbrev pub anew : Said → Session
anew a = record { store = a.store; begun = [] }

abbrev pub further : Session → ℕ → Session
further s x = record { store = s.store; begun = s.begun ++ (x ∷ []) }

-- what is printed after two lists of bytes is printed after their join
pub after_after : (bs cs : List ℕ) (h : Heard) → after bs (after cs h) ≡ after (bs ++ cs) h
after_after bs cs h = ap (λ ds. record { session = h.session; bytes = ds }) (sym (append_assoc bs cs h.bytes))

-- The line that has begun with the lines of the bytes that follow: it goes on in the first of them, or is the last where there is none.
abbrev pub last_line : List ℕ → List (List ℕ)
last_line [] = []
last_line (x ∷ xs) = (x ∷ xs) ∷ []

abbrev pub going_on : List ℕ → List (List ℕ) → List (List ℕ)
going_on bs [] = last_line bs
going_on bs (l ∷ ls) = (bs ++ l) ∷ ls

pub going_none : (ls : List (List ℕ)) → going_on [] ls ≡ ls
going_none [] = refl
going_none (l ∷ ls) = refl

pub last_more : (bs : List ℕ) (x : ℕ) → last_line (bs ++ (x ∷ [])) ≡ (bs ++ (x ∷ [])) ∷ []
last_more [] x = refl
last_more (b ∷ bs) x = refl

-- a byte more of the line that has begun is a byte before the lines that follow
pub going_more : (bs : List ℕ) (x : ℕ) (ls : List (List ℕ)) → going_on bs (joined x ls) ≡ going_on (bs ++ (x ∷ [])) ls
going_more bs x [] = sym (last_more bs x)
going_more bs x (l ∷ ls) = ap (λ m. m ∷ ls) (sym (append_assoc bs (x ∷ []) l))

-- `lines_of`, clause by clause
pub lines_end : (x : ℕ) (xs : List ℕ) → eqb x line_end ≡ true → lines_of (x ∷ xs) ≡ [] ∷ lines_of xs
unfolding lines_of
lines_end x xs e = rw (e, lines_of)

pub lines_byte : (x : ℕ) (xs : List ℕ) → eqb x line_end ≡ false → lines_of (x ∷ xs) ≡ joined x (lines_of xs)
unfolding lines_of
lines_byte x xs e = rw (e, lines_of)

-- bytes printed before
abbrev pub said_after : List ℕ → Said → Said
said_after bs a = record { store = a.store; bytes = bs ++ a.bytes }

pub said_after_after : (bs cs : List ℕ) (a : Said) → said_after bs (said_after cs a) ≡ said_after (bs ++ cs) a
said_after_after bs cs a = ap (λ ds. record { store = a.store; bytes = ds }) (sym (append_assoc bs cs a.bytes))

-- "a final line end begins no further line"
pub lines_final : (xs : List ℕ) (x : ℕ) → eqb x line_end ≡ false → lines_of (xs ++ (x ∷ line_end ∷ [])) ≡ lines_of (xs ++ (x ∷ []))
unfolding lines_of
lines_final [] x e = rw (lines_byte x (line_end ∷ []) e, lines_byte x [] e)
lines_final (y ∷ ys) x e = go (lines_final ys x e) (eqb y line_end) refl
  where
    go :
        lines_of (ys ++ (x ∷ line_end ∷ [])) ≡ lines_of (ys ++ (x ∷ [])) → (t : Bool) → eqb y line_end ≡ t →
        lines_of (y ∷ (ys ++ (x ∷ line_end ∷ []))) ≡ lines_of (y ∷ (ys ++ (x ∷ [])))
    go ih true f = rw (lines_end y (ys ++ (x ∷ line_end ∷ [])) f, lines_end y (ys ++ (x ∷ [])) f, ih)
    go ih false f = rw (lines_byte y (ys ++ (x ∷ line_end ∷ [])) f, lines_byte y (ys ++ (x ∷ [])) f, ih)

-- Where no tickets are printed, nothing but document 01's line is.
pub put_alone : (ws : List ℕ) (k v : ℕ) → (said_of 0 ws (Put k v)).bytes ≡ changed_line letter_p (put_of ws k v).answer
put_alone ws k v = append-nil (changed_line letter_p (put_of ws k v).answer)

pub delete_alone : (ws : List ℕ) (k : ℕ) → (said_of 0 ws (Delete k)).bytes ≡ changed_line letter_d (delete_of ws k).answer
delete_alone ws k = append-nil (changed_line letter_d (delete_of ws k).answer)

-- With tickets it is the same line and then theirs, and the store is the same.
pub put_traced : (m : ℕ) (ws : List ℕ) (k v : ℕ) → (said_of m ws (Put k v)).bytes ≡ (said_of 0 ws (Put k v)).bytes ++ ticket_lines (take m (put_tickets ws k v))
put_traced m ws k v = ap (λ (bs : List ℕ). bs ++ ticket_lines (take m (put_tickets ws k v))) (sym (put_alone ws k v))

pub delete_traced : (m : ℕ) (ws : List ℕ) (k : ℕ) → (said_of m ws (Delete k)).bytes ≡ (said_of 0 ws (Delete k)).bytes ++ ticket_lines (take m (delete_tickets ws k))
delete_traced m ws k = ap (λ (bs : List ℕ). bs ++ ticket_lines (take m (delete_tickets ws k))) (sym (delete_alone ws k))

pub same_store : (m : ℕ) (ws : List ℕ) (l : Line) → (said_of m ws l).store ≡ (said_of 0 ws l).store
same_store m ws (Format b w d g h p) = refl
same_store m ws (Put k v) = refl
same_store m ws (Delete k) = refl
same_store m ws (Get k) = refl
same_store m ws Unreadable = refl

-- The dialogue with the tickets of at most m merges for a call.
module _ (m : ℕ) where
  -- the answer to the line that has begun, at its end
  abbrev pub answer_at : Session → Said
  answer_at s = said_of m s.store (line_of s.begun)

  -- `heard`, clause by clause
  pub heard_end : (s : Session) (x : ℕ) (xs : List ℕ) → eqb x line_end ≡ true → heard m s (x ∷ xs) ≡ after (answer_at s).bytes (heard m (anew (answer_at s)) xs)
  unfolding heard
  heard_end s x xs e = rw (e, heard)

  pub heard_byte : (s : Session) (x : ℕ) (xs : List ℕ) → eqb x line_end ≡ false → heard m s (x ∷ xs) ≡ heard m (further s x) xs
  unfolding heard
  heard_byte s x xs e = rw (e, heard)

  -- A part in two pieces, cut anywhere: the second piece is heard from the session that the first left.
  pub heard_append : (s : Session) (xs ys : List ℕ) → heard m s (xs ++ ys) ≡ after (heard m s xs).bytes (heard m (heard m s xs).session ys)
  unfolding heard
  heard_append s [] ys = refl
  heard_append s (x ∷ xs) ys = go (λ r. heard_append r xs ys) (eqb x line_end) refl
    where
      go : ((r : Session) → heard m r (xs ++ ys) ≡ after (heard m r xs).bytes (heard m (heard m r xs).session ys)) → (t : Bool) → eqb x line_end ≡ t → heard m s ((x ∷ xs) ++ ys) ≡ after (heard m s (x ∷ xs)).bytes (heard m (heard m s (x ∷ xs)).session ys)
      go ih true e = rw (heard_end s x (xs ++ ys) e, heard_end s x xs e, ih (anew (answer_at s))) (after_after (answer_at s).bytes (heard m (anew (answer_at s)) xs).bytes _)
      go ih false e = rw (heard_byte s x (xs ++ ys) e, heard_byte s x xs e) (ih (further s x))

  -- Any number of parts, cut anywhere: they are heard like their join.
  pub heard_parts_lem : (s : Session) (ps : List (List ℕ)) → heard_parts m s ps ≡ heard m s (flatten ps)
  unfolding heard_parts heard flatten
  heard_parts_lem s [] = refl
  heard_parts_lem s (p ∷ ps) = ap (after (heard m s p).bytes) (heard_parts_lem (heard m s p).session ps) ∙ sym (heard_append s p (flatten ps))

  pub answers_more : (ws l : List ℕ) (ls : List (List ℕ)) → answers_to m ws (l ∷ ls) ≡ said_after (said_of m ws (line_of l)).bytes (answers_to m (said_of m ws (line_of l)).store ls)
  unfolding answers_to
  answers_more ws l ls = refl

  -- the end of the input answers the line that has begun, if one has
  pub ended_answers : (ws bs : List ℕ) → ended_on m ws bs ≡ answers_to m ws (last_line bs)
  unfolding answers_to
  ended_answers ws [] = refl
  ended_answers ws (x ∷ xs) = ap (λ ds. record { store = (said_of m ws (line_of (x ∷ xs))).store; bytes = ds }) (sym (append-nil (said_of m ws (line_of (x ∷ xs))).bytes))

  -- From any session: the bytes that are left and the end of the input answer the line that has begun and the lines after it.
  pub heard_answers : (s : Session) (xs : List ℕ) → said_after (heard m s xs).bytes (ended m (heard m s xs).session) ≡ answers_to m s.store (going_on s.begun (lines_of xs))
  unfolding heard lines_of
  heard_answers s [] = ended_answers s.store s.begun
  heard_answers s (x ∷ xs) = go (λ r. heard_answers r xs) (eqb x line_end) refl
    where
      go :
          ((r : Session) → said_after (heard m r xs).bytes (ended m (heard m r xs).session) ≡ answers_to m r.store (going_on r.begun (lines_of xs))) →
          (t : Bool) → eqb x line_end ≡ t →
          said_after (heard m s (x ∷ xs)).bytes (ended m (heard m s (x ∷ xs)).session) ≡ answers_to m s.store (going_on s.begun (lines_of (x ∷ xs)))
      go ih true e =
          let a = answer_at s in
          let h = heard m (anew a) xs in
          let k = ih (anew a) in
          let n = going_none (lines_of xs) in
          rw (heard_end s x xs e, lines_end x xs e, append-nil s.begun, answers_more s.store s.begun (lines_of xs))
          (sym (said_after_after a.bytes h.bytes (ended m h.session)) ∙ ap (said_after a.bytes) (k ∙ ap (answers_to m a.store) n))
      go ih false e = rw (heard_byte s x xs e, lines_byte x xs e, going_more s.begun x (lines_of xs)) (ih (further s x))

  -- Whatever parts the input comes in, the program prints what `dialogue` says of the whole, and ends with its store.
  pub parts_whole : (ps : List (List ℕ)) → in_parts m ps ≡ dialogue m (flatten ps)
  unfolding in_parts dialogue
  parts_whole ps = rw (heard_parts_lem opening ps) (heard_answers opening (flatten ps) ∙ ap (answers_to m []) (going_none (lines_of (flatten ps))))

  -- So two ways of cutting an input print the same.
  pub cut_anywhere : (ps qs : List (List ℕ)) → flatten ps ≡ flatten qs → in_parts m ps ≡ in_parts m qs
  cut_anywhere ps qs e = rw (parts_whole ps, parts_whole qs, e)

  -- Nothing waits: once a line end has been heard, all that `dialogue` says of the input so far is printed, before any further byte.
  pub heard_at_end : (s : Session) (xs : List ℕ) → (heard m s (xs ++ (line_end ∷ []))).session.begun ≡ []
  unfolding heard
  heard_at_end s xs = ap (λ h. h.session.begun) (heard_append s xs (line_end ∷ []))

  pub answered_at_once : (ps : List (List ℕ)) (xs : List ℕ) → flatten ps ≡ xs ++ (line_end ∷ []) → (heard_parts m opening ps).bytes ≡ (dialogue m (flatten ps)).bytes
  unfolding in_parts
  answered_at_once ps xs e =
      let b : (heard_parts m opening ps).session.begun ≡ [] = rw (heard_parts_lem opening ps, e) (heard_at_end opening xs) in
      let n : (ended_on m (heard_parts m opening ps).session.store (heard_parts m opening ps).session.begun).bytes ≡ [] = rw b in
      sym (append-nil _) ∙ ap (λ ds. (heard_parts m opening ps).bytes ++ ds) (sym n) ∙ ap (λ a. a.bytes) (parts_whole ps)

  -- Reading 23: "Empty input prints nothing"
  pub empty_input : dialogue m [] ≡ record { store = []; bytes = [] }
  unfolding dialogue lines_of answers_to
  empty_input = refl

  -- "a lone line end prints `?`"
  pub lone_line_end : dialogue m (line_end ∷ []) ≡ record { store = []; bytes = unreadable_line }
  unfolding dialogue lines_of answers_to line_of further_fields first_field named unreadable_line
  lone_line_end = refl

  pub final_line_end : (xs : List ℕ) (x : ℕ) → (x ≡ line_end → ⊥) → dialogue m ((xs ++ (x ∷ [])) ++ (line_end ∷ [])) ≡ dialogue m (xs ++ (x ∷ []))
  unfolding dialogue
  final_line_end xs x n = rw (append_assoc xs (x ∷ []) (line_end ∷ []), lines_final xs x (ne_eqb x line_end n))

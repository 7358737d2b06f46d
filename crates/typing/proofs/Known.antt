-- What a run has written where the bytes are known: the dialogue's answers to what it has read.
use Rattle.std.proofs.Common.{rules, Result, Ok, Err, ◌≡◌, ℕ, ◌+◌, ◌-◌, ◌^◌, ◌<◌, ◌≤◌, List, [], ◌++◌, None, Some, length, take, drop, sym, ap, ◌∙◌, subst, append_assoc, append-nil, length-append, arith}
use Rattle.std.specs.Prelude.{Option}
use Rattle.std.proofs.lemmas.List.{take_rest, take-append-drop}
use Rattle.std.specs.Io.{StartsWith}
use Rattle.std.specs.Io.KnownBytes.{Keeps, Appends, Consumes, IsAtEnd, ReadConsumes, WriteAppends}
use Rattle.std.specs.declared.io.Error.{Error}
use Rattle.std.proofs.KnownBytes.{Consumes-nil, Appends-nil, Appends-trans, Consumes-trans, Consumes-whole, starts_with_rest}
use Rattle.std.proofs.Transfers.{starts_with_of_append}
use Rattle.dialogue.specs.declared.State.{State}
use Rattle.dialogue.specs.declared.Fed.{Fed}
use Rattle.dialogue.specs.Said.{Said}
use Rattle.dialogue.specs.Dialogue.{Heard, lines_of, answers_to, dialogue, opening, heard, ended}
use Rattle.dialogue.specs.State.{Holds, Feeds, closed}
use Rattle.dialogue.proofs.Laws.{going_none, heard_append, heard_answers}
use Rattle.dialogue.proofs.Runs.{printed_front}
use Rattle.typing.specs.Typed.{Answers, Begins, AnswersBegin}

-- what a call does that fails did nothing before it
pub read_after : (a b d : Option (List ℕ)) (r : Result ℕ Error) (xs : List ℕ) → Keeps a b → ReadConsumes b d r xs → ReadConsumes a d r xs
read_after None b d (Ok n) xs p q = search rules
read_after None b d (Err e) xs p q = search rules
read_after (Some x) None d r xs p q = absurd p
read_after (Some x) (Some y) d r xs p q = subst (λ (z : List ℕ). ReadConsumes (Some z) d r xs) p q

pub written_after : (a b d : Option (List ℕ)) (r : Result ℕ Error) (xs : List ℕ) → Keeps a b → WriteAppends b d r xs → WriteAppends a d r xs
written_after None b d (Ok n) xs p q = search rules
written_after None b d (Err e) xs p q = search rules
written_after (Some x) None d r xs p q = absurd p
written_after (Some x) (Some y) d r xs p q = subst (λ (z : List ℕ). WriteAppends (Some z) d r xs) p q

-- the first n bytes of the rest belong to what is done
pub more_done : (bs done rest : List ℕ) (n : ℕ) → bs ≡ done ++ rest → bs ≡ (done ++ take n rest) ++ take (length rest - n) (drop n rest)
more_done bs done rest n e =
    e ∙ ap (λ (zs : List ℕ). done ++ zs) (sym (take-append-drop n rest) ∙ ap (λ (zs : List ℕ). take n rest ++ zs) (sym (take_rest rest n))) ∙ sym (append_assoc done (take n rest) (take (length rest - n) (drop n rest)))

-- The program for at most m tickets, that has read the bytes `part`.
module _ (m : ℕ) (part : List ℕ) where
  -- what has been printed for them
  abbrev pub said : List ℕ
  said = (heard m opening part).bytes

  -- what is printed for more bytes, and what is if there is none
  abbrev pub said_then : List ℕ → List ℕ
  said_then more = (heard m (heard m opening part).session more).bytes

  abbrev pub said_last : List ℕ
  said_last = (ended m (heard m opening part).session).bytes

  -- the whole input
  whole : (dialogue m part).bytes ≡ said ++ said_last
  unfolding dialogue
  whole = ap (λ (a : Said). a.bytes) (sym (heard_answers m opening part ∙ ap (answers_to m []) (going_none (lines_of part))))

  two_parts : (more : List ℕ) → (heard m opening (part ++ more)).bytes ≡ said ++ said_then more
  two_parts more = ap (λ (h : Heard). h.bytes) (heard_append m opening part more)

-- A front of the input is answered by a front of the answers.
front : (m : ℕ) (xs part more : List ℕ) → xs ≡ part ++ more → (dialogue m xs).bytes ≡ said m part ++ (said_then m part more ++ said_last m xs)
front m xs part more e =
    whole m xs ∙ ap (λ (bs : List ℕ). bs ++ said_last m xs) (ap (λ (zs : List ℕ). said m zs) e ∙ two_parts m part more) ∙ append_assoc (said m part) (said_then m part more) (said_last m xs)

-- bytes and a front of further ones are a front of them all
front_on : (bs cs ds : List ℕ) → StartsWith cs ds → bs ++ cs ≡ (bs ++ ds) ++ drop (length ds) cs
front_on bs cs ds h = ap (λ (xs : List ℕ). bs ++ xs) (starts_with_rest cs ds h) ∙ sym (append_assoc bs ds (drop (length ds) cs))

-- What has been written begins what is said of the whole, if it begins what is said of the bytes read so far ..
begun_at : (m : ℕ) (i j a b : Option (List ℕ)) (part cs rest : List ℕ) → Consumes i j part → Appends a b cs → said m part ≡ cs ++ rest → AnswersBegin m i a b
begun_at m None j a b part cs rest p q e = tt
begun_at m (Some xs) None a b part cs rest p q e = absurd p
begun_at m (Some xs) (Some ys) a b part cs rest p q e =
    let more : List ℕ = said_then m part ys ++ said_last m xs in
    (cs, q, starts_with_of_append (dialogue m xs).bytes cs (rest ++ more) (front m xs part ys p ∙ ap (λ (bs : List ℕ). bs ++ more) e ∙ append_assoc cs rest more))

-- .. or of all bytes, where there are no more.
begun_end : (m : ℕ) (i j a b : Option (List ℕ)) (part cs rest : List ℕ) → Consumes i j part → IsAtEnd j → Appends a b cs → said m part ++ said_last m part ≡ cs ++ rest → AnswersBegin m i a b
begun_end m i j a b part cs rest p f q e =
    Consumes-whole i j part (λ (xs : List ℕ). Begins (dialogue m xs).bytes a b) p f (cs, q, starts_with_of_append (dialogue m part).bytes cs rest (whole m part ∙ e))

-- Of a reader's bytes `part` are read, j are left, and a writer's bytes were a: with what is said of `part` they are b.
module _ (m : ℕ) (i j a b : Option (List ℕ)) (part : List ℕ) (read : Consumes i j part) (written : Appends a b (said m part)) where
  pub so_far : AnswersBegin m i a b
  so_far = begun_at m i j a b part (said m part) [] read written (sym (append-nil (said m part)))

  -- a read that gives nothing
  none_read : (k : Option (List ℕ)) (xs : List ℕ) (n : ℕ) → n ≡ 0 → Consumes j k (take n xs) → Consumes i k part
  none_read k xs n e q = subst (Consumes i k) (append-nil part) (Consumes-trans i j k part [] read (subst (λ (x : ℕ). Consumes j k (take x xs)) e q))

  -- the end of the input, and the bytes that `finish` gives
  module _ (k c : Option (List ℕ)) (xs : List ℕ) (n : ℕ) (none : n ≡ 0) (more : Consumes j k (take n xs)) (end : IsAtEnd k) (r : Fed) (us before after : List ℕ) (gave : Feeds m (closed (ended m (heard m opening part).session)) 0 r us before after) where
    pub all_answered : Appends b c (take r.bytes after) → Answers m i a c
    all_answered q =
        Consumes-whole i k part (λ (zs : List ℕ). length zs < 2 ^ 64 - 1 → Appends a c (dialogue m zs).bytes) (none_read k xs n none more) end
        (λ _. subst (Appends a c) (sym (whole m part)) (Appends-trans a b c _ _ written (subst (Appends b c) (printed_front before after (said_last m part) r.bytes gave.output) q)))

    pub end_begun : Begins (take r.bytes after) b c → AnswersBegin m i a c
    end_begun (cs, q, s) =
        begun_end m i k a c part (said m part ++ cs) _ (none_read k xs n none more) end (Appends-trans a b c _ _ written q)
        (front_on (said m part) (said_last m part) cs (subst (λ (zs : List ℕ). StartsWith zs cs) (printed_front before after (said_last m part) r.bytes gave.output) s))

  -- a part more, and the bytes that `feed` gives
  module _ (k c : Option (List ℕ)) (more : List ℕ) (taken : Consumes j k more) (r : Fed) (us before after : List ℕ) (gave : Feeds m (heard m (heard m opening part).session more) 0 r us before after) where
    pub more_begun : Begins (take r.bytes after) b c → AnswersBegin m i a c
    more_begun (cs, q, s) =
        begun_at m i k a c (part ++ more) (said m part ++ cs) _ (Consumes-trans i j k part more read taken) (Appends-trans a b c _ _ written q)
        (two_parts m part more ∙ front_on (said m part) (said_then m part more) cs (subst (λ (zs : List ℕ). StartsWith zs cs) (printed_front before after (said_then m part more) r.bytes gave.output) s))

    -- the same, where all is written: one byte more is read at least
    pub more_answered : (t : ℕ) → t ≤ length part → 1 ≤ length more → Appends b c (take r.bytes after)
        → (all : List ℕ) × (t + 1 ≤ length all) × Consumes i k all × Appends a c (said m all) × Holds m r.state us (heard m opening all).session
    more_answered t l f q = (
      part ++ more,
      omega (arith, length-append part more),
      Consumes-trans i j k part more read taken,
      subst (Appends a c) (sym (two_parts m part more)) (Appends-trans a b c _ _ written (subst (Appends b c) (printed_front before after (said_then m part more) r.bytes gave.output) q)),
      subst (Holds m r.state us) (sym (ap (λ (h : Heard). h.session) (heard_append m opening part more))) gave.session,
    )

-- Before the first read.
pub none_heard : (m : ℕ) (i a : Option (List ℕ)) (d : State) (ws : List ℕ) → Holds m d ws opening
    → (part : List ℕ) × (0 ≤ length part) × Consumes i i part × Appends a a (said m part) × Holds m d ws (heard m opening part).session
unfolding heard
none_heard m i a d ws h = ([], omega arith, Consumes-nil i, Appends-nil a, h)

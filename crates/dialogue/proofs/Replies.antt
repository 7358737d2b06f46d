-- What the proofs of `answer` and of what it calls need: the answer to a line is what `said_of` says.
use Prim.Native.Nat.{ℕ, ◌+◌, ◌-◌, ◌*◌, ◌≤◌, ◌<◌}
use mathlib.Core.Path.{◌≡◌, refl, sym, ap, ◌∙◌, subst}
use mathlib.Core.Bool.{Bool, true, false}
use mathlib.Core.List.{List, [], ◌++◌}
use native.Mathlib.Nat.{sub-zero}
use native.Mathlib.Omega.{arith}
use lib.Dec.{leb}
use lib.ListN.{length, take, length-take}
use lib.Seq.{take_at}
use borrow.Author.Tests.{leb-true, le-leb, lt-leb}
use Rattle.geometry.specs.declared.Geometry.{Geometry}
use Rattle.std.specs.Prelude.{Option, Result, Ok, Err}
use Rattle.geometry.specs.declared.Refusal.{Refusal}
use Rattle.geometry.specs.declared.Refusal.TheVariants.{BrokenLimit, WrongLength}
use Rattle.geometry.specs.Refusals.{number_of}
use Rattle.geometry.specs.Geometry.{Valid, is_legal, built_of, key_limit_of}
use Rattle.layout.specs.Layouts.{old}
use Rattle.geometry.proofs.Laws.{built_valid, built_broken, legal_valid, valid_legal}
use Rattle.words.specs.Calls.{Outcome, FormatAnswer, format_words, format_of, look_up_of}
use Rattle.words.proofs.Reason.{size_none}
use Rattle.lines.specs.declared.Line.{Line}
use Rattle.lines.specs.declared.Line.TheVariants.{Format, Get, Unreadable}
use Rattle.lines.specs.Bytes.{Printed}
use Rattle.lines.specs.Lines.{longest_line, format_line, unreadable_line}
use Rattle.lines.specs.Machine.{run}
use Rattle.writer.specs.declared.Change.{Change}
use Rattle.reader.specs.Answers.{looked_answer}
use Rattle.writer.specs.Answers.{changed_answer}
use Rattle.store.specs.Answers.{format_answer}
use Rattle.store.specs.Change.{SumsFit}
use Rattle.dialogue.specs.declared.Fed.{Fed}
use Rattle.dialogue.specs.Bench.{bench_words, room_of}
use Rattle.dialogue.specs.Said.{Said, formatted_line, looked_line, format_said, said_of, tickets_most, longest_answer}
use Rattle.dialogue.specs.State.{Feeds, closed, answered_as, Says}

-- the sums of what was done are words
pub done_fit : (c : Result Change Refusal) (d : Change) → c ≡ Ok d → SumsFit (changed_answer c) → SumsFit (changed_answer (Ok d))
done_fit c d e h = subst (λ (x : Result Change Refusal). SumsFit (changed_answer x)) e h

-- The room that a format finds.
pub room_broken : (g : Geometry) (r : Refusal) → Err r ≡ built_of g → Err r ≡ room_of g
unfolding room_of
room_broken g r e = let b = built_broken g r (sym e) in rw (b.1, room_of, b.0)

pub room_long : (g t : Geometry) → Ok t ≡ built_of g → bench_words < (old t).length → Err WrongLength ≡ room_of g
unfolding room_of
room_long g t e h =
    let k = built_valid g t (sym e) in
    let u : is_legal g ≡ true = ap is_legal k.0 ∙ valid_legal t k.1 in
    let z : leb (old g).length bench_words ≡ false = ap (λ (x : Geometry). leb (old x).length bench_words) k.0 ∙ lt-leb (old t).length bench_words h in
    rw (u, room_of, z, room_of)

pub room_words : (g t : Geometry) (m : ℕ) → Ok t ≡ built_of g → m ≡ (old t).length → m ≤ bench_words → Ok m ≡ room_of g
unfolding room_of
room_words g t m e q h =
    let k = built_valid g t (sym e) in
    let u : is_legal g ≡ true = ap is_legal k.0 ∙ valid_legal t k.1 in
    let s : (old g).length ≡ m = ap (λ (x : Geometry). (old x).length) k.0 ∙ sym q in
    let z : leb (old g).length bench_words ≡ true = le-leb (old g).length bench_words (omega arith) in
    rw (u, room_of, z, room_of, s)

pub built_legal : (g t : Geometry) → Ok t ≡ built_of g → Valid t
built_legal g t e = (built_valid g t (sym e)).1

-- what is said of a format that finds this room, and what is known of it then
abbrev room_said : List ℕ → Geometry → Result ℕ Refusal → Said
room_said ws g (Err r) = record { store = ws; bytes = format_line (number_of r) 0 }
room_said ws g (Ok m) = record { store = format_words (old g); bytes = format_line 0 (key_limit_of g) }

abbrev RoomFits : Geometry → Result ℕ Refusal → Type 0
RoomFits g (Err r) = Unit {0}
RoomFits g (Ok m) = Valid g × ((m ≡ (old g).length) × (m ≤ bench_words))

record Roomed (ws : List ℕ) (g : Geometry) (r : Result ℕ Refusal) : Type 0 where
  pub said : format_said ws g ≡ room_said ws g r
  pub fits : RoomFits g r

roomed : (ws : List ℕ) (g : Geometry) → Roomed ws g (room_of g)
unfolding format_said room_of
roomed ws g = go (is_legal g) refl (leb (old g).length bench_words) refl
  where
    go : (t : Bool) → is_legal g ≡ t → (u : Bool) → leb (old g).length bench_words ≡ u → Roomed ws g (room_of g)
    go false e u f =
        let r : Err BrokenLimit ≡ room_of g = rw (e, room_of) in
        subst (Roomed ws g) r (record { said = rw (e, format_said); fits = tt })
    go true e false f =
        let r : Err WrongLength ≡ room_of g = rw (e, room_of, f, room_of) in
        subst (Roomed ws g) r (record { said = rw (e, format_said, f, format_said); fits = tt })
    go true e true f =
        let r : Ok (old g).length ≡ room_of g = rw (e, room_of, f, room_of) in
        subst (Roomed ws g) r (record { said = rw (e, format_said, f, format_said); fits = (legal_valid g e, (refl, leb-true _ _ f)) })

pub room_fits : (g : Geometry) (m : ℕ) → Ok m ≡ room_of g → Valid g × ((m ≡ (old g).length) × (m ≤ bench_words))
room_fits g m e = subst (RoomFits g) (sym e) (roomed [] g).fits

-- What has been printed for a line, in the words of the functions that print: no line is longer than the longest.
abbrev LinePrinted : List ℕ → List ℕ → ℕ → ℕ → List ℕ → Type 0
LinePrinted before after at r bs = (r ≤ at + longest_line) × Printed before after at r bs

abbrev Answers : ℕ → Said → ℕ → Fed → List ℕ → List ℕ → List ℕ → Type 0
Answers t a at f words before after = (f.bytes ≤ at + longest_answer t) × Feeds t (closed a) at f words before after

-- a line is no longer than an answer, and an answer is a line and the lines of its tickets
pub line_fits : (t : ℕ) → longest_line ≤ longest_answer t
unfolding longest_answer
line_fits t = omega arith

pub answer_long : (t : ℕ) → longest_line + longest_line * t ≡ longest_answer t
unfolding longest_answer
answer_long t = omega arith

-- the part of the words that a call is lent
part_is : (n : ℕ) (ws : List ℕ) → take (n - 0) ws ≡ take n ws
part_is n ws = rw (sub-zero n)

part_long : {A : Type 0} (n : ℕ) (ws : List A) → n ≤ length ws → length (take (n - 0) ws) ≡ n
part_long n ws h = rw (sub-zero n, length-take n ws) (omega arith)

-- room for the answer to a call that works in t of the rows
pub part_room_lem : (at t : ℕ) (rows : List (List ℕ)) (o : ℕ) → t ≤ length rows → at + longest_answer t ≤ o → at + longest_answer (length (take (t - 0) rows)) ≤ o
part_room_lem at t rows o h l = subst (λ (k : ℕ). at + longest_answer k ≤ o) (sym (part_long t rows h)) l

format_is : (g : Geometry) (ws : List ℕ) → Valid g → length ws ≡ (old g).length → format_of ws g ≡ record { answer = record { reason = 0; limit = key_limit_of g }; words = format_words (old g) }
unfolding format_of
format_is g ws v l = rw (size_none (length ws) g v l, format_of)

-- A line answered, by what it says: at most t tickets are printed, the store is the first n words then, and the answer ends at place r.
module _ (at t n r : ℕ) (f : Fed) (before after : List ℕ) (few : t ≤ tickets_most) (low : n ≤ bench_words) (x : f ≡ answered_as t n r) where
  replied : (a : Said) (words bs : List ℕ) → take n words ≡ a.store → bs ≡ a.bytes → r ≤ at + longest_answer t → Printed before after at r bs → Answers t a at f words before after
  unfolding run
  replied a words bs e q l p =
      subst (λ (y : Fed). Answers t a at y words before after) (sym x)
      (l, record { session = record { tickets = refl; few = few; fits = low; store = e; begun = refl }; output = subst (λ (b : List ℕ). Printed before after at r b) q p })

  line_replied : (a : Said) (words bs : List ℕ) → take n words ≡ a.store → bs ≡ a.bytes → LinePrinted before after at r bs → Answers t a at f words before after
  line_replied a words bs e q p = replied a words bs e q (omega (arith, p.0, line_fits t)) p.1

  module _ (ws : List ℕ) (line : Line) (m : length ws ≡ bench_words) where
    -- a put or delete, on the store's part of the words and with some of the rows
    pub change_replied : (o : Line) (rows : List (List ℕ)) (ys rest : List ℕ) → line ≡ o → t ≤ length rows → length ys ≡ length (take (n - 0) ws)
        → Says (length (take (t - 0) rows)) (said_of (length (take (t - 0) rows)) (take (n - 0) ws) o) at r ys before after → Answers t (said_of t (take n ws) line) at f (ys ++ rest) before after
    change_replied o rows ys rest e h l p =
        let q : Says t (said_of t (take (n - 0) ws) o) at r ys before after = subst (λ (j : ℕ). Says j (said_of j (take (n - 0) ws) o) at r ys before after) (part_long t rows h) p in
        let s : Says t (said_of t (take n ws) line) at r ys before after =
        subst (λ (y : Line). Says t (said_of t (take n ws) y) at r ys before after) (sym e)
        (subst (λ (z : List ℕ). Says t (said_of t z o) at r ys before after) (part_is n ws) q) in
        replied (said_of t (take n ws) line) (ys ++ rest) (said_of t (take n ws) line).bytes (take_at ys rest n (l ∙ part_long n ws (omega arith)) ∙ s.store) refl s.ends s.output

    pub get_replied : (k : ℕ) (a : Result (Option ℕ) Refusal) → line ≡ Get k → looked_answer a ≡ look_up_of (take (n - 0) ws) k → LinePrinted before after at r (looked_line (looked_answer a)) → Answers t (said_of t (take n ws) line) at f ws before after
    get_replied k a e d p =
        subst (λ (y : Line). Answers t (said_of t (take n ws) y) at f ws before after) (sym e)
        (line_replied (said_of t (take n ws) (Get k)) ws (looked_line (looked_answer a)) refl (ap looked_line (d ∙ ap (λ (z : List ℕ). look_up_of z k) (part_is n ws))) p)

    pub unreadable_replied : line ≡ Unreadable → LinePrinted before after at r unreadable_line → Answers t (said_of t (take n ws) line) at f ws before after
    unreadable_replied e p =
        subst (λ (y : Line). Answers t (said_of t (take n ws) y) at f ws before after) (sym e)
        (line_replied (said_of t (take n ws) Unreadable) ws unreadable_line refl refl p)

  module _ (b w d g h p : ℕ) (line : Line) (e : line ≡ Format b w d g h p) where
    pub refused_replied : (k : Refusal) (ws : List ℕ) → Err k ≡ room_of (record { b = b; w = w; d = d; g = g; h = h; p = p }) → LinePrinted before after at r (formatted_line (format_answer (Err k))) → Answers t (said_of t (take n ws) line) at f ws before after
    refused_replied k ws u y =
        let z : Geometry = record { b = b; w = w; d = d; g = g; h = h; p = p } in
        let s = (roomed (take n ws) z).said ∙ ap (room_said (take n ws) z) (sym u) in
        subst (λ (y : Line). Answers t (said_of t (take n ws) y) at f ws before after) (sym e)
        (subst (λ (a : Said). Answers t a at f ws before after) (sym s) (line_replied (record { store = take n ws; bytes = format_line (number_of k) 0 }) ws (format_line (number_of k) 0) refl refl y))

    pub format_replied : (o : ℕ) (a : Result ℕ Refusal) (ws ys rest : List ℕ) → Ok n ≡ room_of (record { b = b; w = w; d = d; g = g; h = h; p = p }) → length ws ≡ bench_words
        → ◌≡◌ {A = Outcome FormatAnswer} (record { answer = format_answer a; words = ys }) (format_of (take (n - 0) ws) (record { b = b; w = w; d = d; g = g; h = h; p = p })) → length ys ≡ length (take (n - 0) ws)
        → LinePrinted before after at r (formatted_line (format_answer a)) → Answers t (said_of t (take o ws) line) at f (ys ++ rest) before after
    format_replied o a ws ys rest u m v l y =
        let z : Geometry = record { b = b; w = w; d = d; g = g; h = h; p = p } in
        let s = (roomed (take o ws) z).said ∙ ap (room_said (take o ws) z) (sym u) in
        let k = room_fits z n u in
        let j : length (take (n - 0) ws) ≡ n = part_long n ws (omega arith) in
        let i = v ∙ format_is z (take (n - 0) ws) k.0 (j ∙ k.1.0) in
        subst (λ (y : Line). Answers t (said_of t (take o ws) y) at f (ys ++ rest) before after) (sym e)
        (subst (λ (c : Said). Answers t c at f (ys ++ rest) before after) (sym s)
        (line_replied (record { store = format_words (old z); bytes = format_line 0 (key_limit_of z) }) (ys ++ rest) (formatted_line (format_answer a))
        (take_at ys rest n (l ∙ j) ∙ ap (λ (y : Outcome FormatAnswer). y.words) i) (ap (λ (z : Outcome FormatAnswer). formatted_line z.answer) i) y))

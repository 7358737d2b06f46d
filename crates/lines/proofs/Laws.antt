-- Laws of reading: the machine of `specs/Machine.antt` finds at a line's end what the line says.
use Prim.Native.Nat.{ℕ, ◌+◌, ◌-◌, ◌*◌, ◌≤◌, ◌<◌}
use mathlib.Core.Path.{◌≡◌, refl, sym, subst}
use mathlib.Core.Bool.{Bool, true, false, ◌&&◌, ◌||◌, and-eq-true_iff, and-false}
use mathlib.Core.List.{List, [], ◌∷◌, ◌++◌, map, append_assoc}
use native.Mathlib.Omega.{arith}
use borrow.Author.Tests.{eqb-true, ltb-true, ltb-false, leb-true, lt-ltb, le-ltb, ne_eqb}
use lib.Dec.{ltb, eqb}
use lib.ListN.{length, length-append}
use Rattle.std.specs.Prelude.{Option, None, Some, IfSome}
use Rattle.lines.specs.declared.Call.{Call}
use Rattle.lines.specs.declared.Call.TheVariants.{Format as AFormat, Put as APut, Delete as ADelete, Get as AGet}
use Rattle.lines.specs.declared.Line.{Line}
use Rattle.lines.specs.declared.Line.TheVariants.{Unreadable}
use Rattle.lines.specs.declared.Numbers.{Numbers}
use Rattle.lines.specs.declared.Reading.{Reading}
use Rattle.lines.specs.declared.Reading.TheVariants.{Start, Letter, Space, Digits, Spoiled}
use Rattle.lines.specs.Bytes.{digit_nine, space, letter_d, letter_f, letter_g, letter_p, is_digit, if◌then◌otherwise◌, every}
use Rattle.lines.specs.Lines.{first_field, further_fields, value_from, value_of, word_limit, is_number, spoken, named, line_of}
use Rattle.lines.specs.Machine.{call_of, no_numbers, pushed, last_of, after_start, after_letter, after_space, grown, after_digits, step, run, said, line_after, is_start}

-- a call's letter
abbrev pub letter_of : Call → ℕ
letter_of AFormat = letter_f
letter_of APut = letter_p
letter_of ADelete = letter_d
letter_of AGet = letter_g

-- a byte that a call begins with
unfoldable pub is_letter : ℕ → Bool
is_letter x = eqb x letter_f || (eqb x letter_p || (eqb x letter_d || eqb x letter_g))

-- small facts of tests
pub if_same : {A : Type 0} (t : Bool) (a : A) → (if t then a otherwise a) ≡ a
if_same true a = refl
if_same false a = refl

pub or_left_no : (s t : Bool) → (s || t) ≡ false → s ≡ false
or_left_no true t e = e
or_left_no false t e = refl

pub or_right_no : (s t : Bool) → (s || t) ≡ false → t ≡ false
or_right_no true true e = e
or_right_no true false e = refl
or_right_no false t e = e

-- what holds of both branches
if_either : {A : Type 0} (P : A → Type 0) (t : Bool) (a b : A) → P a → P b → P (if t then a otherwise b)
if_either P true a b p q = p
if_either P false a b p q = q

-- a digit is at least 48, and so no space
pub digit_low : (x : ℕ) → is_digit x ≡ true → 48 ≤ x
digit_low x e = let k = simp and-eq-true_iff at e in leb-true _ _ k.0

pub digit_high : (x : ℕ) → is_digit x ≡ true → x ≤ digit_nine
digit_high x e = let k = simp and-eq-true_iff at e in leb-true _ _ k.1

pub digit_no_space : (x : ℕ) → is_digit x ≡ true → eqb x space ≡ false
digit_no_space x e = let l = digit_low x e in ne_eqb x space (λ s. omega arith)

-- "Fields are parted by one space", clause by clause
pub first_end : (x : ℕ) (xs : List ℕ) → eqb x space ≡ true → first_field (x ∷ xs) ≡ []
unfolding first_field
first_end x xs e = rw e

pub first_more : (x : ℕ) (xs : List ℕ) → eqb x space ≡ false → first_field (x ∷ xs) ≡ x ∷ first_field xs
unfolding first_field
first_more x xs e = rw e

pub further_here : (x : ℕ) (xs : List ℕ) → eqb x space ≡ true → further_fields (x ∷ xs) ≡ first_field xs ∷ further_fields xs
unfolding further_fields
further_here x xs e = rw e

pub further_past : (x : ℕ) (xs : List ℕ) → eqb x space ≡ false → further_fields (x ∷ xs) ≡ further_fields xs
unfolding further_fields
further_past x xs e = rw e

-- a field is a number exactly if the digits after its first are such that the whole stays below 2^32
pub number_more : (x : ℕ) (xs : List ℕ) → is_digit x ≡ true → is_number (x ∷ xs) ≡ (every is_digit xs && ltb (value_from (x - 48) xs) word_limit)
unfolding value_from
number_more x xs e = let z : 0 * 10 + (x - 48) ≡ x - 48 = omega arith in rw (e, z)

pub value_more : (x : ℕ) (xs : List ℕ) → value_of (x ∷ xs) ≡ value_from (x - 48) xs
unfolding value_from
value_more x xs = let z : 0 * 10 + (x - 48) ≡ x - 48 = omega arith in rw z

pub number_bad : (x : ℕ) (xs : List ℕ) → is_digit x ≡ false → is_number (x ∷ xs) ≡ false
number_bad x xs e = rw e

-- further digits never make a number smaller: what has reached 2^32 stays there
pub value_low : (n : ℕ) (xs : List ℕ) → n ≤ value_from n xs
unfolding value_from
value_low n [] = omega arith
value_low n (x ∷ xs) = omega (arith, value_low (n * 10 + (x - 48)) xs)

-- the numbers vs, held by the machine after those of n
unfoldable pub held_from : Numbers → List ℕ → Numbers
held_from n [] = n
held_from n (v ∷ vs) = held_from (pushed n v) vs

abbrev pub held : List ℕ → Numbers
held vs = held_from no_numbers vs

pub held_more : (n : Numbers) (vs : List ℕ) (v : ℕ) → held_from n (vs ++ (v ∷ [])) ≡ pushed (held_from n vs) v
unfolding held_from
held_more n [] v = refl
held_more n (u ∷ vs) v = held_more (pushed n u) vs v

pub held_count : (n : Numbers) (vs : List ℕ) → (held_from n vs).count ≡ n.count + length vs
unfolding held_from
held_count n [] = omega arith
held_count n (u ∷ vs) = omega (arith, held_count (pushed n u) vs)

-- of each call
format_held : (vs : List ℕ) → length vs ≤ 6 → said AFormat (held vs) ≡ spoken (letter_of AFormat) vs
unfolding said spoken held_from
format_held [] h = refl
format_held (a ∷ []) h = refl
format_held (a ∷ b ∷ []) h = refl
format_held (a ∷ b ∷ c ∷ []) h = refl
format_held (a ∷ b ∷ c ∷ d ∷ []) h = refl
format_held (a ∷ b ∷ c ∷ d ∷ e ∷ []) h = refl
format_held (a ∷ b ∷ c ∷ d ∷ e ∷ f ∷ []) h = refl
format_held (a ∷ b ∷ c ∷ d ∷ e ∷ f ∷ g ∷ vs) h = absurd (omega arith)

put_held : (vs : List ℕ) → length vs ≤ 6 → said APut (held vs) ≡ spoken (letter_of APut) vs
unfolding said spoken held_from
put_held [] h = refl
put_held (a ∷ []) h = refl
put_held (a ∷ b ∷ []) h = refl
put_held (a ∷ b ∷ c ∷ []) h = refl
put_held (a ∷ b ∷ c ∷ d ∷ []) h = refl
put_held (a ∷ b ∷ c ∷ d ∷ e ∷ []) h = refl
put_held (a ∷ b ∷ c ∷ d ∷ e ∷ f ∷ []) h = refl
put_held (a ∷ b ∷ c ∷ d ∷ e ∷ f ∷ g ∷ vs) h = absurd (omega arith)

delete_held : (vs : List ℕ) → length vs ≤ 6 → said ADelete (held vs) ≡ spoken (letter_of ADelete) vs
unfolding said spoken held_from
delete_held [] h = refl
delete_held (a ∷ []) h = refl
delete_held (a ∷ b ∷ []) h = refl
delete_held (a ∷ b ∷ c ∷ []) h = refl
delete_held (a ∷ b ∷ c ∷ d ∷ []) h = refl
delete_held (a ∷ b ∷ c ∷ d ∷ e ∷ []) h = refl
delete_held (a ∷ b ∷ c ∷ d ∷ e ∷ f ∷ []) h = refl
delete_held (a ∷ b ∷ c ∷ d ∷ e ∷ f ∷ g ∷ vs) h = absurd (omega arith)

get_held : (vs : List ℕ) → length vs ≤ 6 → said AGet (held vs) ≡ spoken (letter_of AGet) vs
unfolding said spoken held_from
get_held [] h = refl
get_held (a ∷ []) h = refl
get_held (a ∷ b ∷ []) h = refl
get_held (a ∷ b ∷ c ∷ []) h = refl
get_held (a ∷ b ∷ c ∷ d ∷ []) h = refl
get_held (a ∷ b ∷ c ∷ d ∷ e ∷ []) h = refl
get_held (a ∷ b ∷ c ∷ d ∷ e ∷ f ∷ []) h = refl
get_held (a ∷ b ∷ c ∷ d ∷ e ∷ f ∷ g ∷ vs) h = absurd (omega arith)

-- up to six numbers are held whole, so the call says of them what its letter says of the list
pub said_held : (call : Call) (vs : List ℕ) → length vs ≤ 6 → said call (held vs) ≡ spoken (letter_of call) vs
said_held AFormat vs h = format_held vs h
said_held APut vs h = put_held vs h
said_held ADelete vs h = delete_held vs h
said_held AGet vs h = get_held vs h

-- no letter has more than six numbers, and none has none
pub spoken_long : (letter : ℕ) (vs : List ℕ) → 6 < length vs → spoken letter vs ≡ Unreadable
unfolding spoken
spoken_long letter vs h =
    rw (ne_eqb (length vs) 6 (λ e. omega arith), ne_eqb (length vs) 2 (λ e. omega arith), ne_eqb (length vs) 1 (λ e. omega arith))

pub spoken_other : (x : ℕ) (vs : List ℕ) → is_letter x ≡ false → spoken x vs ≡ Unreadable
unfolding spoken is_letter
spoken_other x vs e =
    let f = or_left_no (eqb x letter_f) _ e in
    let e1 = or_right_no (eqb x letter_f) _ e in
    let p = or_left_no (eqb x letter_p) _ e1 in
    let e2 = or_right_no (eqb x letter_p) _ e1 in
    let d = or_left_no (eqb x letter_d) _ e2 in
    let g = or_right_no (eqb x letter_d) _ e2 in
    simp (f, p, d, g, and-false)

-- nothing mends a spoiled line
pub run_spoiled : (xs : List ℕ) → run Spoiled xs ≡ Spoiled
unfolding run step
run_spoiled [] = refl
run_spoiled (x ∷ xs) = run_spoiled xs

-- what the rest xs of a line makes of a letter, the numbers ns before, and the digits so far of one more number, v
unfoldable pub digits_line : ℕ → List ℕ → ℕ → List ℕ → Line
digits_line letter ns v xs =
    if (every is_digit (first_field xs) && ltb (value_from v (first_field xs)) word_limit) && every is_number (further_fields xs)
    then spoken letter (ns ++ (value_from v (first_field xs) ∷ map value_of (further_fields xs)))
    otherwise Unreadable

-- the same after a space
unfoldable pub space_line : ℕ → List ℕ → List ℕ → Line
space_line letter ns xs =
    if is_number (first_field xs) && every is_number (further_fields xs)
    then spoken letter (ns ++ (value_of (first_field xs) ∷ map value_of (further_fields xs)))
    otherwise Unreadable

-- One byte after a space.
pub after_space_digit : (call : Call) (ns : Numbers) (x : ℕ) → ns.count < 6 → is_digit x ≡ true → step (Space call ns) x ≡ Digits call (pushed ns (x - 48))
unfolding step after_space
after_space_digit call ns x h e = rw (lt-ltb _ _ h, e)

pub after_space_full : (call : Call) (ns : Numbers) (x : ℕ) → 6 ≤ ns.count → step (Space call ns) x ≡ Spoiled
unfolding step after_space
after_space_full call ns x h = rw (le-ltb _ _ h)

pub after_space_bad : (call : Call) (ns : Numbers) (x : ℕ) → is_digit x ≡ false → step (Space call ns) x ≡ Spoiled
unfolding step after_space
after_space_bad call ns x e = rw (e, and-false)

-- One byte after a digit.
pub after_digits_space : (call : Call) (ns : Numbers) (x : ℕ) → eqb x space ≡ true → step (Digits call ns) x ≡ Space call ns
unfolding step after_digits
after_digits_space call ns x e = rw e

pub after_digits_digit : (call : Call) (ns : Numbers) (x : ℕ) → is_digit x ≡ true → step (Digits call ns) x ≡ grown call ns (last_of ns * 10 + (x - 48))
unfolding step after_digits
after_digits_digit call ns x e = rw (digit_no_space x e, e)

pub after_digits_bad : (call : Call) (ns : Numbers) (x : ℕ) → eqb x space ≡ false → is_digit x ≡ false → step (Digits call ns) x ≡ Spoiled
unfolding step after_digits
after_digits_bad call ns x e f = rw (e, f)

pub grown_below : (call : Call) (ns : Numbers) (u v : ℕ) → v < word_limit → grown call (pushed ns u) v ≡ Digits call (pushed ns v)
unfolding grown
grown_below call ns u v h = rw (lt-ltb _ _ h)

pub grown_above : (call : Call) (ns : Numbers) (v : ℕ) → word_limit ≤ v → grown call ns v ≡ Spoiled
unfolding grown
grown_above call ns v h = rw (le-ltb _ _ h)

-- The rest of a line after a space, byte by byte.
pub space_line_end : (letter : ℕ) (ns : List ℕ) → space_line letter ns [] ≡ Unreadable
unfolding space_line first_field
space_line_end letter ns = refl

pub space_line_bad : (letter : ℕ) (ns : List ℕ) (x : ℕ) (xs : List ℕ) → is_digit x ≡ false → space_line letter ns (x ∷ xs) ≡ Unreadable
unfolding space_line
space_line_bad letter ns x xs e = go (eqb x space) refl
  where
    go : (t : Bool) → eqb x space ≡ t → space_line letter ns (x ∷ xs) ≡ Unreadable
    go true s = rw (first_end x xs s)
    go false s = rw (first_more x xs s, number_bad x (first_field xs) e)

pub space_line_digit : (letter : ℕ) (ns : List ℕ) (x : ℕ) (xs : List ℕ) → is_digit x ≡ true → space_line letter ns (x ∷ xs) ≡ digits_line letter ns (x - 48) xs
unfolding space_line digits_line
space_line_digit letter ns x xs e =
    let s = digit_no_space x e in
    rw (first_more x xs s, further_past x xs s, number_more x (first_field xs) e, value_more x (first_field xs))

pub space_line_full : (letter : ℕ) (ns : List ℕ) (xs : List ℕ) → 6 ≤ length ns → space_line letter ns xs ≡ Unreadable
unfolding space_line
space_line_full letter ns xs h =
    let v = value_of (first_field xs) in
    let vs = map value_of (further_fields xs) in
    let l : 6 < length (ns ++ (v ∷ vs)) = simp length-append (omega arith) in
    rw (spoken_long letter (ns ++ (v ∷ vs)) l, if_same)

-- The rest of a line after a digit, byte by byte.
pub digits_line_end : (letter : ℕ) (ns : List ℕ) (v : ℕ) → v < word_limit → digits_line letter ns v [] ≡ spoken letter (ns ++ (v ∷ []))
unfolding digits_line first_field further_fields value_from
digits_line_end letter ns v h = rw (lt-ltb _ _ h)

pub digits_line_space : (letter : ℕ) (ns : List ℕ) (v x : ℕ) (xs : List ℕ) → v < word_limit → eqb x space ≡ true → digits_line letter ns v (x ∷ xs) ≡ space_line letter (ns ++ (v ∷ [])) xs
unfolding digits_line space_line value_from
digits_line_space letter ns v x xs h e = rw (first_end x xs e, further_here x xs e, lt-ltb _ _ h, append_assoc)

pub digits_line_digit : (letter : ℕ) (ns : List ℕ) (v x : ℕ) (xs : List ℕ) → is_digit x ≡ true → digits_line letter ns v (x ∷ xs) ≡ digits_line letter ns (v * 10 + (x - 48)) xs
unfolding digits_line value_from
digits_line_digit letter ns v x xs e =
    let s = digit_no_space x e in
    rw (first_more x xs s, further_past x xs s, e)

pub digits_line_high : (letter : ℕ) (ns : List ℕ) (v : ℕ) (xs : List ℕ) → word_limit ≤ v → digits_line letter ns v xs ≡ Unreadable
unfolding digits_line
digits_line_high letter ns v xs h =
    let l : word_limit ≤ value_from v (first_field xs) = omega (arith, value_low v (first_field xs)) in
    rw (le-ltb _ _ l, and-false)

pub digits_line_bad : (letter : ℕ) (ns : List ℕ) (v x : ℕ) (xs : List ℕ) → eqb x space ≡ false → is_digit x ≡ false → digits_line letter ns v (x ∷ xs) ≡ Unreadable
unfolding digits_line
digits_line_bad letter ns v x xs s e = rw (first_more x xs s, e)

-- What the machine finds in the rest xs of a line, after a space and after a digit.
pub record Rest (xs : List ℕ) : Type 0 where
  pub spaced : (call : Call) (ns : List ℕ) → length ns ≤ 6 → line_after (run (Space call (held ns)) xs) ≡ space_line (letter_of call) ns xs
  pub within : (call : Call) (ns : List ℕ) (v : ℕ) → length ns < 6 → v < word_limit → line_after (run (Digits call (pushed (held ns) v)) xs) ≡ digits_line (letter_of call) ns v xs

pub spoiled_line : (xs : List ℕ) → line_after (run Spoiled xs) ≡ Unreadable
unfolding line_after
spoiled_line xs = rw (run_spoiled xs)

pub run_cons : (r : Reading) (x : ℕ) (xs : List ℕ) → run r (x ∷ xs) ≡ run (step r x) xs
unfolding run
run_cons r x xs = refl

held_length : (ns : List ℕ) → (held ns).count ≡ length ns
held_length ns = omega (arith, held_count no_numbers ns)

spaced_step : (x : ℕ) (xs : List ℕ) → Rest xs → (call : Call) (ns : List ℕ) → length ns ≤ 6 → line_after (run (Space call (held ns)) (x ∷ xs)) ≡ space_line (letter_of call) ns (x ∷ xs)
spaced_step x xs rest call ns h = go (is_digit x) refl (ltb (length ns) 6) refl
  where
    go : (t : Bool) → is_digit x ≡ t → (u : Bool) → ltb (length ns) 6 ≡ u → line_after (run (Space call (held ns)) (x ∷ xs)) ≡ space_line (letter_of call) ns (x ∷ xs)
    go true e true k =
        let l : length ns < 6 = ltb-true _ _ k in
        let c : (held ns).count < 6 = omega (arith, held_length ns) in
        let b : x - 48 < word_limit = omega (arith, digit_high x e) in
        rw (run_cons, after_space_digit call (held ns) x c e, space_line_digit (letter_of call) ns x xs e) (rest.within call ns (x - 48) l b)
    go true e false k =
        let l : 6 ≤ length ns = ltb-false _ _ k in
        let c : 6 ≤ (held ns).count = omega (arith, held_length ns) in
        rw (run_cons, after_space_full call (held ns) x c, spoiled_line xs, space_line_full (letter_of call) ns (x ∷ xs) l)
    go false e u k =
        rw (run_cons, after_space_bad call (held ns) x e, spoiled_line xs, space_line_bad (letter_of call) ns x xs e)

within_step : (x : ℕ) (xs : List ℕ) → Rest xs → (call : Call) (ns : List ℕ) (v : ℕ) → length ns < 6 → v < word_limit → line_after (run (Digits call (pushed (held ns) v)) (x ∷ xs)) ≡ digits_line (letter_of call) ns v (x ∷ xs)
within_step x xs rest call ns v h b = go (eqb x space) refl (is_digit x) refl
  where
    grow_on : (t : Bool) → ltb (v * 10 + (x - 48)) word_limit ≡ t → line_after (run (grown call (pushed (held ns) v) (v * 10 + (x - 48))) xs) ≡ digits_line (letter_of call) ns (v * 10 + (x - 48)) xs
    grow_on true k =
        let l = ltb-true _ _ k in
        rw (grown_below call (held ns) v (v * 10 + (x - 48)) l) (rest.within call ns (v * 10 + (x - 48)) h l)
    grow_on false k =
        let l = ltb-false _ _ k in
        rw (grown_above call (pushed (held ns) v) (v * 10 + (x - 48)) l, spoiled_line xs, digits_line_high (letter_of call) ns (v * 10 + (x - 48)) xs l)

    go : (s : Bool) → eqb x space ≡ s → (t : Bool) → is_digit x ≡ t → line_after (run (Digits call (pushed (held ns) v)) (x ∷ xs)) ≡ digits_line (letter_of call) ns v (x ∷ xs)
    go true e t k =
        let l : length (ns ++ (v ∷ [])) ≤ 6 = simp length-append (omega arith) in
        rw (run_cons, after_digits_space call (pushed (held ns) v) x e, ← held_more no_numbers ns v, digits_line_space (letter_of call) ns v x xs b e) (rest.spaced call (ns ++ (v ∷ [])) l)
    go false e true k =
        rw (run_cons, after_digits_digit call (pushed (held ns) v) x k, digits_line_digit (letter_of call) ns v x xs k) (grow_on (ltb (v * 10 + (x - 48)) word_limit) refl)
    go false e false k =
        rw (run_cons, after_digits_bad call (pushed (held ns) v) x e k, spoiled_line xs, digits_line_bad (letter_of call) ns v x xs e k)

within_end : (call : Call) (ns : List ℕ) (v : ℕ) → length ns < 6 → v < word_limit → line_after (run (Digits call (pushed (held ns) v)) []) ≡ digits_line (letter_of call) ns v []
unfolding run line_after
within_end call ns v h b =
    let l : length (ns ++ (v ∷ [])) ≤ 6 = simp length-append (omega arith) in
    rw (digits_line_end (letter_of call) ns v b, ← held_more no_numbers ns v) (said_held call (ns ++ (v ∷ [])) l)

spaced_end : (call : Call) (ns : List ℕ) → length ns ≤ 6 → line_after (run (Space call (held ns)) []) ≡ space_line (letter_of call) ns []
unfolding run line_after
spaced_end call ns h = sym (space_line_end (letter_of call) ns)

pub rest_is : (xs : List ℕ) → Rest xs
rest_is [] = record { spaced = spaced_end; within = within_end }
rest_is (x ∷ xs) = record { spaced = spaced_step x xs (rest_is xs); within = within_step x xs (rest_is xs) }

-- The first bytes of a line.
pub after_start_letter : (x : ℕ) (call : Call) → call_of x ≡ Some call → step Start x ≡ Letter call
unfolding step after_start
after_start_letter x call e = rw (e, after_start)

pub after_start_other : (x : ℕ) → call_of x ≡ None → step Start x ≡ Spoiled
unfolding step after_start
after_start_other x e = rw (e, after_start)

pub after_letter_space : (call : Call) (x : ℕ) → eqb x space ≡ true → step (Letter call) x ≡ Space call no_numbers
unfolding step after_letter
after_letter_space call x e = rw e

pub after_letter_bad : (call : Call) (x : ℕ) → eqb x space ≡ false → step (Letter call) x ≡ Spoiled
unfolding step after_letter
after_letter_bad call x e = rw e

-- a call is named by its letter, and by no other
pub call_letter : (x : ℕ) (call : Call) → call_of x ≡ Some call → letter_of call ≡ x
unfolding call_of
call_letter x call = go (eqb x letter_f) refl (eqb x letter_p) refl (eqb x letter_d) refl (eqb x letter_g) refl
  where
    go : (f : Bool) → eqb x letter_f ≡ f → (p : Bool) → eqb x letter_p ≡ p → (d : Bool) → eqb x letter_d ≡ d → (g : Bool) → eqb x letter_g ≡ g
        → (if f then Some AFormat otherwise if p then Some APut otherwise if d then Some ADelete otherwise if g then Some AGet otherwise None) ≡ Some call → letter_of call ≡ x
    go true a p b d c g e k = subst (λ (o : Option Call). IfSome o (λ c. letter_of c ≡ x)) k (sym (eqb-true _ _ a))
    go false a true b d c g e k = subst (λ (o : Option Call). IfSome o (λ c. letter_of c ≡ x)) k (sym (eqb-true _ _ b))
    go false a false b true c g e k = subst (λ (o : Option Call). IfSome o (λ c. letter_of c ≡ x)) k (sym (eqb-true _ _ c))
    go false a false b false c true e k = subst (λ (o : Option Call). IfSome o (λ c. letter_of c ≡ x)) k (sym (eqb-true _ _ e))
    go false a false b false c false e k = cc

-- a byte that names no call is no letter
pub no_call : (x : ℕ) → call_of x ≡ None → is_letter x ≡ false
unfolding call_of is_letter
no_call x = go (eqb x letter_f) (eqb x letter_p) (eqb x letter_d) (eqb x letter_g)
  where
    go : (f p d g : Bool) → (if f then Some AFormat otherwise if p then Some APut otherwise if d then Some ADelete otherwise if g then Some AGet otherwise None) ≡ None → (f || (p || (d || g))) ≡ false
    go true p d g k = cc
    go false true d g k = cc
    go false false true g k = cc
    go false false false true k = cc
    go false false false false k = refl

-- a letter is no space
pub letter_no_space : (call : Call) → eqb (letter_of call) space ≡ false
letter_no_space AFormat = refl
letter_no_space APut = refl
letter_no_space ADelete = refl
letter_no_space AGet = refl

-- a letter and a space, and what follows as after any space; a letter and another byte name nothing
letter_more : (call : Call) (y : ℕ) (ys : List ℕ) → line_after (run (Letter call) (y ∷ ys)) ≡ line_of (letter_of call ∷ y ∷ ys)
unfolding line_of named space_line held_from
letter_more call y ys = go (eqb y space) refl
  where
    x : ℕ
    x = letter_of call

    e : eqb x space ≡ false
    e = letter_no_space call

    go : (t : Bool) → eqb y space ≡ t → line_after (run (Letter call) (y ∷ ys)) ≡ line_of (x ∷ y ∷ ys)
    go true s =
        rw (run_cons, after_letter_space call y s, first_more x (y ∷ ys) e, further_past x (y ∷ ys) e, first_end y ys s, further_here y ys s)
        ((rest_is ys).spaced call [] (omega arith))
    go false s =
        rw (run_cons, after_letter_bad call y s, spoiled_line ys, first_more x (y ∷ ys) e, first_more y ys s, if_same)

-- After the letter alone.
pub letter_line : (call : Call) (xs : List ℕ) → line_after (run (Letter call) xs) ≡ line_of (letter_of call ∷ xs)
unfolding run line_after line_of named spoken first_field further_fields
letter_line call [] = rw (letter_no_space call)
letter_line call (y ∷ ys) = letter_more call y ys

-- a first field that begins with another byte names nothing
pub named_other : (x : ℕ) (f ns : List ℕ) → is_letter x ≡ false → named (x ∷ f) ns ≡ Unreadable
unfolding named
named_other x [] ns e = spoken_other x ns e
named_other x (y ∷ f) ns e = refl

other_line : (x : ℕ) (xs : List ℕ) → is_letter x ≡ false → line_of (x ∷ xs) ≡ Unreadable
unfolding line_of named
other_line x xs e = go (eqb x space) refl
  where
    go : (t : Bool) → eqb x space ≡ t → line_of (x ∷ xs) ≡ Unreadable
    go true s = rw (first_end x xs s, if_same)
    go false s = rw (first_more x xs s, named_other x (first_field xs) (map value_of (further_fields (x ∷ xs))) e, if_same)

-- THE LAW of reading: the machine, run over all bytes of a line, finds what the line says.
pub line_is : (xs : List ℕ) → line_after (run Start xs) ≡ line_of xs
unfolding run line_after line_of named first_field further_fields
line_is [] = refl
line_is (x ∷ xs) = go (call_of x) refl
  where
    go : (t : Option Call) → call_of x ≡ t → line_after (run Start (x ∷ xs)) ≡ line_of (x ∷ xs)
    go (Some call) e = rw (run_cons, after_start_letter x call e) (subst (λ (y : ℕ). line_after (run (Letter call) xs) ≡ line_of (y ∷ xs)) (call_letter x call e) (letter_line call xs))
    go None e = rw (run_cons, after_start_other x e, spoiled_line xs, other_line x xs (no_call x e))

-- one byte more at the end
pub run_then : (r : Reading) (xs : List ℕ) (x : ℕ) → run r (xs ++ (x ∷ [])) ≡ step (run r xs) x
unfolding run
run_then r [] x = refl
run_then r (y ∷ xs) x = run_then (step r y) xs x

-- a line that has begun does not go back to its start
step_begun : (r : Reading) (x : ℕ) → is_start (step r x) ≡ false
unfolding step after_start after_letter after_space after_digits grown
step_begun Start x = begun (call_of x)
  where
    begun : (t : Option Call) → is_start (elim t [ Some call ↦ Letter call | None ↦ Spoiled ]) ≡ false
    begun (Some call) = refl
    begun None = refl
step_begun (Letter call) x = if_either (λ r. is_start r ≡ false) (eqb x space) _ _ refl refl
step_begun (Space call ns) x = if_either (λ r. is_start r ≡ false) (ltb ns.count 6 && is_digit x) _ _ refl refl
step_begun (Digits call ns) x =
    if_either (λ r. is_start r ≡ false) (eqb x space) _ _ refl
    (if_either (λ r. is_start r ≡ false) (is_digit x) _ _ (if_either (λ r. is_start r ≡ false) (ltb (last_of ns * 10 + (x - 48)) word_limit) _ _ refl refl) refl)
step_begun Spoiled x = refl

pub run_begun : (r : Reading) (x : ℕ) (xs : List ℕ) → is_start (run r (x ∷ xs)) ≡ false
unfolding run
run_begun r x [] = step_begun r x
run_begun r x (y ∷ xs) = run_begun (step r x) y xs

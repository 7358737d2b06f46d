-- The code's reading of a line byte by byte, as a machine: the contracts' own definitions. What it finds at a line's end is
-- `Lines.line_of`, the law `line_is` of `proofs/Laws.antt`.
use Rattle.std.specs.Prelude.{ℕ, ◌+◌, ◌-◌, ◌*◌, Bool, true, false, ◌&&◌, List, [], ◌∷◌, Option, None, Some, ltb, eqb, get_or, set}
use Rattle.lines.specs.declared.Line.{Line}
use Rattle.lines.specs.declared.Line.TheVariants.{Format, Put, Delete, Get, Unreadable}
use Rattle.lines.specs.declared.Call.{Call}
use Rattle.lines.specs.declared.Call.TheVariants.{Format as AFormat, Put as APut, Delete as ADelete, Get as AGet}
use Rattle.lines.specs.declared.Numbers.{Numbers}
use Rattle.lines.specs.declared.Reading.{Reading}
use Rattle.lines.specs.declared.Reading.TheVariants.{Start, Letter, Space, Digits, Spoiled}
use Rattle.lines.specs.Bytes.{space, letter_d, letter_f, letter_g, letter_p, is_digit, if◌then◌otherwise◌}
use Rattle.lines.specs.Lines.{word_limit}

-- the call that a letter names
unfoldable pub call_of : ℕ → Option Call
call_of x =
    if eqb x letter_f then Some AFormat otherwise if eqb x letter_p then Some APut otherwise if eqb x letter_d then Some ADelete otherwise if eqb x letter_g then Some AGet otherwise None

-- the number that a byte says as a digit
unfoldable pub digit_of : ℕ → Option ℕ
digit_of x = if is_digit x then Some (x - 48) otherwise None

abbrev pub no_numbers : Numbers
no_numbers = record { count = 0; last = 0 ∷ 0 ∷ 0 ∷ 0 ∷ 0 ∷ 0 ∷ [] }

-- the numbers from the sixth from the end to the last
abbrev pub sixth_of : Numbers → ℕ
sixth_of ns = get_or ns.last 0 0

abbrev pub fifth_of : Numbers → ℕ
fifth_of ns = get_or ns.last 1 0

abbrev pub fourth_of : Numbers → ℕ
fourth_of ns = get_or ns.last 2 0

abbrev pub third_of : Numbers → ℕ
third_of ns = get_or ns.last 3 0

abbrev pub second_of : Numbers → ℕ
second_of ns = get_or ns.last 4 0

abbrev pub last_of : Numbers → ℕ
last_of ns = get_or ns.last 5 0

-- one number more, the last; what stood sixth from the end falls out
abbrev pub pushed : Numbers → ℕ → Numbers
pushed ns v = record { count = ns.count + 1; last = fifth_of ns ∷ fourth_of ns ∷ third_of ns ∷ second_of ns ∷ last_of ns ∷ v ∷ [] }

-- the last number exchanged
abbrev pub relast : Numbers → ℕ → Numbers
relast ns v = record { count = ns.count; last = set ns.last 5 v }

unfoldable pub after_start : ℕ → Reading
after_start x = elim (call_of x) [ Some call ↦ Letter call | None ↦ Spoiled ]

unfoldable pub after_letter : Call → ℕ → Reading
after_letter call x = if eqb x space then Space call no_numbers otherwise Spoiled

-- a digit begins a number; no line has a seventh
unfoldable pub after_space : Call → Numbers → ℕ → Reading
after_space call ns x = if ltb ns.count 6 && is_digit x then Digits call (pushed ns (x - 48)) otherwise Spoiled

-- the last number is v now; one that reaches 2^32 spoils the line for good
unfoldable pub grown : Call → Numbers → ℕ → Reading
grown call ns v = if ltb v word_limit then Digits call (relast ns v) otherwise Spoiled

unfoldable pub after_digits : Call → Numbers → ℕ → Reading
after_digits call ns x =
    if eqb x space then Space call ns otherwise if is_digit x then grown call ns (last_of ns * 10 + (x - 48)) otherwise Spoiled

-- one byte that is no line end
unfoldable pub step : Reading → ℕ → Reading
step Start x = after_start x
step (Letter call) x = after_letter call x
step (Space call ns) x = after_space call ns x
step (Digits call ns) x = after_digits call ns x
step Spoiled x = Spoiled

-- the bytes of a line, first to last
unfoldable pub run : Reading → List ℕ → Reading
run r [] = r
run r (x ∷ xs) = run (step r x) xs

-- what a call's letter says with the numbers held
unfoldable pub said : Call → Numbers → Line
said AFormat ns = if eqb ns.count 6 then Format (sixth_of ns) (fifth_of ns) (fourth_of ns) (third_of ns) (second_of ns) (last_of ns) otherwise Unreadable
said APut ns = if eqb ns.count 2 then Put (second_of ns) (last_of ns) otherwise Unreadable
said ADelete ns = if eqb ns.count 1 then Delete (last_of ns) otherwise Unreadable
said AGet ns = if eqb ns.count 1 then Get (last_of ns) otherwise Unreadable

-- what the line says if it ends here: only the end of a number ends a line
unfoldable pub line_after : Reading → Line
line_after Start = Unreadable
line_after (Letter call) = Unreadable
line_after (Space call ns) = Unreadable
line_after (Digits call ns) = said call ns
line_after Spoiled = Unreadable

-- reading 23: no byte of a line has been read
abbrev pub is_start : Reading → Bool
is_start Start = true
is_start (Letter call) = false
is_start (Space call ns) = false
is_start (Digits call ns) = false
is_start Spoiled = false

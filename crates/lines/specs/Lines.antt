-- Document 01, "Call list program": what a line says, and what is printed for it, as bytes.
-- A line is its bytes without the line end.
use Rattle.std.specs.Prelude.{ℕ, zero, suc, ◌+◌, ◌-◌, ◌*◌, ◌/◌, ◌%◌, Bool, true, false, ◌&&◌, List, [], ◌∷◌, ◌++◌, map, ltb, eqb, length, get_or}
use Rattle.std.specs.List.{flat_map}
use Rattle.lines.specs.declared.Line.{Line}
use Rattle.lines.specs.declared.Line.TheVariants.{Format, Put, Delete, Get, Unreadable}
use Rattle.lines.specs.Bytes.{line_end, space, question, letter_d, letter_f, letter_g, letter_p, is_digit, digit, if◌then◌otherwise◌, every}

-- "Fields are parted by one space": the bytes before the first space, or all where there is none
unfoldable pub first_field : List ℕ → List ℕ
first_field [] = []
first_field (x ∷ xs) = if eqb x space then [] otherwise (x ∷ first_field xs)

-- and the fields after it, one for each space; two spaces part an empty field from the next
unfoldable pub further_fields : List ℕ → List (List ℕ)
further_fields [] = []
further_fields (x ∷ xs) = if eqb x space then (first_field xs ∷ further_fields xs) otherwise further_fields xs

-- the number that digits say after digits that say n, of any size
unfoldable pub value_from : ℕ → List ℕ → ℕ
value_from n [] = n
value_from n (x ∷ xs) = value_from (n * 10 + (x - 48)) xs

abbrev pub value_of : List ℕ → ℕ
value_of xs = value_from 0 xs

-- "a number is digits, below 2^32"; reading 21: leading zeros are digits like others
abbrev pub word_limit : ℕ
word_limit = 4294967296

abbrev pub is_number : List ℕ → Bool
is_number [] = false
is_number (x ∷ xs) = every is_digit (x ∷ xs) && ltb (value_of (x ∷ xs)) word_limit

-- "`f B w d G h P`, `p key payload`, `d key`, `g key`": the number of fields and the letter must be these
unfoldable pub spoken : ℕ → List ℕ → Line
spoken letter ns =
    if eqb (length ns) 6 && eqb letter letter_f
    then Format (get_or ns 0 0) (get_or ns 1 0) (get_or ns 2 0) (get_or ns 3 0) (get_or ns 4 0) (get_or ns 5 0)
    otherwise if eqb (length ns) 2 && eqb letter letter_p
    then Put (get_or ns 0 0) (get_or ns 1 0)
    otherwise if eqb (length ns) 1 && eqb letter letter_d
    then Delete (get_or ns 0 0)
    otherwise if eqb (length ns) 1 && eqb letter letter_g
    then Get (get_or ns 0 0)
    otherwise Unreadable

-- the first field is one letter, alone
unfoldable pub named : List ℕ → List ℕ → Line
named [] ns = Unreadable
named (letter ∷ []) ns = spoken letter ns
named (letter ∷ x ∷ xs) ns = Unreadable

-- What a line says. "An unreadable line, an empty one too"; reading 21: a sign, a tab, a second, leading or trailing space,
-- a carriage return or any other byte makes a field that is no number, or no letter.
unfoldable pub line_of : List ℕ → Line
line_of xs =
    if every is_number (further_fields xs) then named (first_field xs) (map value_of (further_fields xs)) otherwise Unreadable

-- "decimal": the digits of n, the first not 0 but for n = 0; k bounds how many may follow the first
unfoldable pub decimal_within : ℕ → ℕ → List ℕ
decimal_within zero n = digit n ∷ []
decimal_within (suc k) n = elim (ltb n 10) [ true ↦ digit n ∷ [] | false ↦ decimal_within k (n / 10) ++ (digit (n % 10) ∷ []) ]

-- a number has fewer digits than it counts, or one
unfoldable pub decimal : ℕ → List ℕ
decimal n = decimal_within n n

-- "Fields are parted by one space": a printed number and the byte after it
unfoldable pub field : ℕ → ℕ → List ℕ
field n after = decimal n ++ (after ∷ [])

-- "Fields are parted by one space"
abbrev pub spaced : ℕ → List ℕ
spaced n = space ∷ decimal n

-- A line with a letter and any numbers. Each printed line is one: laws `format_is`, `get_is`, `change_is` and `unreadable_is` of proofs/Print.
unfoldable pub printed_line : ℕ → List ℕ → List ℕ
printed_line letter ns = letter ∷ (flat_map spaced ns ++ (line_end ∷ []))

-- No line with k numbers is longer: a letter, for each number a space and at most ten digits, and the line end.
abbrev pub room : ℕ → ℕ
room k = 2 + 11 * k

-- No line is longer than one with four numbers.
abbrev pub longest_line : ℕ
longest_line = 46

-- "Each line prints: letter, refusal number or 0, then for f N (0 if refused)"; reading 23: with a line end
unfoldable pub format_line : ℕ → ℕ → List ℕ
format_line reason limit = letter_f ∷ space ∷ (field reason space ++ field limit line_end)

-- "for g found 1 or 0 and payload or 0"
unfoldable pub get_line : ℕ → ℕ → ℕ → List ℕ
get_line reason found payload = letter_g ∷ space ∷ (field reason space ++ (field found space ++ field payload line_end))

-- "for p and d live-before 1 or 0, blocks written by merges, blocks written by compacting, each over all levels"; a ticket's line
-- has this form too
unfoldable pub change_line : ℕ → ℕ → ℕ → ℕ → ℕ → List ℕ
change_line letter reason live merged compacted =
    letter ∷ space ∷ (field reason space ++ (field live space ++ (field merged space ++ field compacted line_end)))

-- "An unreadable line, an empty one too, prints `?`"
unfoldable pub unreadable_line : List ℕ
unreadable_line = question ∷ line_end ∷ []

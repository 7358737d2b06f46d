-- Computed cases: document 01's own lines, in and out, and every kind of line that reading 21 names.
use Rattle.std.specs.Prelude.{ℕ, ◌≡◌, refl, Bool, true, false, ◌&&◌, List, [], ◌∷◌, eqb}
use Prim.Native.String.{String}
use Rattle.lines.specs.declared.Line.{Line}
use Rattle.lines.specs.declared.Line.TheVariants.{Format, Put, Delete, Get, Unreadable}
use Rattle.lines.specs.Bytes.{letter_d, letter_f, letter_g, letter_p, if◌then◌otherwise◌, bytes}
use Rattle.lines.specs.Lines.{
  first_field,
  further_fields,
  value_from,
  spoken,
  named,
  line_of,
  decimal_within,
  decimal,
  field,
  format_line,
  get_line,
  change_line,
  unreadable_line,
}

abbrev pub same : List ℕ → List ℕ → Bool
same [] [] = true
same [] (y ∷ ys) = false
same (x ∷ xs) [] = false
same (x ∷ xs) (y ∷ ys) = eqb x y && same xs ys

-- a line as its letter and numbers, so that two can be compared
abbrev pub parts : Line → List ℕ
parts (Format b w d g h p) = letter_f ∷ b ∷ w ∷ d ∷ g ∷ h ∷ p ∷ []
parts (Put key payload) = letter_p ∷ key ∷ payload ∷ []
parts (Delete key) = letter_d ∷ key ∷ []
parts (Get key) = letter_g ∷ key ∷ []
parts Unreadable = []

-- a text with what it says, or with the bytes that must be it
pub data Case : Type 0 where
  reads : String → Line → Case
  prints : String → List ℕ → Case

unfoldable pub holds : Case → Bool
unfolding line_of first_field further_fields value_from named spoken bytes
holds (reads text line) = same (parts (line_of (bytes text))) (parts line)
holds (prints text line) = same (bytes text) line

abbrev pub text_of : Case → String
text_of (reads text line) = text
text_of (prints text line) = text

-- The texts of the cases that do not hold: a refusal of the theorem prints them.
unfoldable pub failing : List Case → List String
failing [] = []
failing (c ∷ cs) = if holds c then failing cs otherwise (text_of c ∷ failing cs)

unfoldable pub cases : List Case
unfolding format_line get_line change_line unreadable_line field decimal decimal_within
cases =
    -- "Lines in"
    reads "f 4 1 2 4 1 40" (Format 4 1 2 4 1 40)
    ∷ reads "p 10 1" (Put 10 1)
    ∷ reads "g 10" (Get 10)
    ∷ reads "d 20" (Delete 20)
    -- "Out, whole"
    ∷ prints "f 0 17\n" (format_line 0 17)
    ∷ prints "p 0 0 0 0\n" (change_line letter_p 0 0 0 0)
    ∷ prints "g 0 1 1\n" (get_line 0 1 1)
    ∷ prints "d 0 0 0 0\n" (change_line letter_d 0 0 0 0)
    ∷ prints "d 0 1 0 0\n" (change_line letter_d 0 1 0 0)
    ∷ prints "g 0 0 0\n" (get_line 0 0 0)
    ∷ prints "?\n" unreadable_line
    ∷ prints "f 2 0\n" (format_line 2 0)
    ∷ prints "g 0 1 4294967295\n" (get_line 0 1 4294967295)
    ∷ prints "p 0 1 10 99\n" (change_line letter_p 0 1 10 99)
    -- "a number is digits, below 2^32"; "Numbers may have leading zeros, any number of them."
    ∷ reads "g 0" (Get 0)
    ∷ reads "g 4294967295" (Get 4294967295)
    ∷ reads "g 007" (Get 7)
    ∷ reads "p 0000000000000000000000004294967295 00" (Put 4294967295 0)
    ∷ reads "f 04 01 02 04 01 040" (Format 4 1 2 4 1 40)
    -- "2^32 and above"
    ∷ reads "g 4294967296" Unreadable
    ∷ reads "g 99999999999999999999" Unreadable
    ∷ reads "p 1 4294967296" Unreadable
    ∷ reads "f 4 1 2 4 1 4294967336" Unreadable
    -- "signs, tabs"
    ∷ reads "g +1" Unreadable
    ∷ reads "g -1" Unreadable
    ∷ reads "p 1\t2" Unreadable
    ∷ reads "g\t1" Unreadable
    ∷ reads "g 1\t" Unreadable
    -- "a second, leading or trailing space"
    ∷ reads "p  1 2" Unreadable
    ∷ reads "p 1  2" Unreadable
    ∷ reads " g 1" Unreadable
    ∷ reads "g 1 " Unreadable
    ∷ reads "g " Unreadable
    ∷ reads " " Unreadable
    -- "a carriage return, any other byte"
    ∷ reads "g 1\r" Unreadable
    ∷ reads "\r" Unreadable
    ∷ reads "g 1." Unreadable
    ∷ reads "g 0x1" Unreadable
    ∷ reads "g :" Unreadable
    ∷ reads "g /" Unreadable
    ∷ reads "g 1_0" Unreadable
    -- fields too few and too many
    ∷ reads "f 4 1 2 4 1" Unreadable
    ∷ reads "f 4 1 2 4 1 40 7" Unreadable
    ∷ reads "p 10" Unreadable
    ∷ reads "p 10 1 1" Unreadable
    ∷ reads "d" Unreadable
    ∷ reads "d 20 1" Unreadable
    ∷ reads "g" Unreadable
    ∷ reads "g 10 1" Unreadable
    ∷ reads "f 1 2 3 4 5 6 7 8 9 10 11 12 13" Unreadable
    -- letters
    ∷ reads "x 1" Unreadable
    ∷ reads "G 1" Unreadable
    ∷ reads "F 4 1 2 4 1 40" Unreadable
    ∷ reads "gg 1" Unreadable
    ∷ reads "g1" Unreadable
    ∷ reads "1 g" Unreadable
    ∷ reads "1" Unreadable
    ∷ reads "?" Unreadable
    -- "An unreadable line, an empty one too"
    ∷ reads "" Unreadable
    ∷ []

pub cases_hold : failing cases ≡ []
unfolding failing holds cases
cases_hold = refl

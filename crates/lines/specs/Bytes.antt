-- Bytes that document 01's call list names, and the t of the lines of tickets, by their ASCII codes, and small helpers that no rule names.
use Rattle.std.specs.Prelude.{ℕ, ◌+◌, ◌≤◌, ◌≡◌, Bool, true, false, ◌&&◌, List, [], ◌∷◌, leb, length}
use Prim.Native.Char.{code}
use Prim.Native.String.{String, [] as ε, ◌∷◌ as ◌▸◌}
use Rattle.slices.specs.Slices.{put_at}

abbrev pub line_end : ℕ
line_end = 10

abbrev pub space : ℕ
space = 32

abbrev pub question : ℕ
question = 63

abbrev pub letter_d : ℕ
letter_d = 100

abbrev pub letter_f : ℕ
letter_f = 102

abbrev pub letter_g : ℕ
letter_g = 103

abbrev pub letter_p : ℕ
letter_p = 112

abbrev pub letter_t : ℕ
letter_t = 116

abbrev pub digit_nine : ℕ
digit_nine = 57

-- 0 to 9 are the bytes 48 to 57
abbrev pub is_digit : ℕ → Bool
is_digit x = leb 48 x && leb x digit_nine

abbrev pub digit : ℕ → ℕ
digit n = 48 + n

abbrev pub if◌then◌otherwise◌ : {A : Type 0} → Bool → A → A → A
if◌then◌otherwise◌ true a b = a
if◌then◌otherwise◌ false a b = b

infixr 10 if◌then◌otherwise◌
-- the test holds of every element
abbrev pub every : {A : Type 0} → (A → Bool) → List A → Bool
every p [] = true
every p (x ∷ xs) = p x && every p xs

-- Printing bs from place i on made `after` of `before`, and stopped at place r.
pub record Printed (before after : List ℕ) (i r : ℕ) (bs : List ℕ) : Type 0 where
  pub ends : r ≡ i + length bs
  pub inside : r ≤ length before
  pub words : after ≡ put_at i bs before

-- a quoted text as bytes, for the computed cases
unfoldable pub bytes : String → List ℕ
bytes ε = []
bytes (c ▸ s) = code c ∷ bytes s

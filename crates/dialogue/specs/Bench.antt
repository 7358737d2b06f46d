-- The words that the program works on: "over 16,384 words of which format takes what the layout needs".
use Rattle.std.specs.Prelude.{ℕ, true, false, leb, Result, Ok, Err}
use Rattle.geometry.specs.declared.Geometry.{Geometry}
use Rattle.geometry.specs.Geometry.{is_legal}
use Rattle.layout.specs.Layouts.{old}
use Rattle.geometry.specs.declared.Refusal.{Refusal}
use Rattle.geometry.specs.declared.Refusal.TheVariants.{BrokenLimit, WrongLength}

abbrev pub bench_words : ℕ
bench_words = 16384

-- How many of them a format takes, or why it is refused; reading 22: never 1, 2 before 3.
unfoldable pub room_of : Geometry → Result ℕ Refusal
room_of g = elim (is_legal g) [
  | false ↦ Err BrokenLimit
  | true ↦ elim (leb (old g).length bench_words) [ true ↦ Ok (old g).length | false ↦ Err WrongLength ]
]

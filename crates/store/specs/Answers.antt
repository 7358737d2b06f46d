-- Document 01's number and values for each case of an answer: "the answer has only the number and zeros" where a call is turned down.
use Rattle.std.specs.Prelude.{ℕ, Result, Ok, Err}
use Rattle.geometry.specs.declared.Refusal.{Refusal}
use Rattle.geometry.specs.Refusals.{number_of}
use Rattle.words.specs.Calls.{FormatAnswer}

abbrev pub format_answer : Result ℕ Refusal → FormatAnswer
format_answer (Ok n) = record { reason = 0; limit = n }
format_answer (Err r) = record { reason = number_of r; limit = 0 }

-- the number, or 0
abbrev pub check_answer : Result (Unit {0}) Refusal → ℕ
check_answer (Ok u) = 0
check_answer (Err r) = number_of r

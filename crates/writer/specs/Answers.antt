-- Document 01's number and values for each case of an answer: "the answer has only the number and zeros" where a call is turned down.
use Rattle.std.specs.Prelude.{ℕ, false, Result, Ok, Err}
use Rattle.geometry.specs.declared.Refusal.{Refusal}
use Rattle.geometry.specs.Refusals.{number_of}
use Rattle.words.specs.Calls.{ChangeAnswer, ForecastAnswer}
use Rattle.writer.specs.declared.Change.{Change}
use Rattle.steps.specs.Running.{numbers_of, counts_in}

abbrev pub changed_answer : Result Change Refusal → ChangeAnswer
changed_answer (Ok c) = record { reason = 0; live = c.live; level1 = numbers_of (counts_in c.tally 0); level2 = numbers_of (counts_in c.tally 1); level3 = numbers_of (counts_in c.tally 2) }
changed_answer (Err r) = record {
  reason = number_of r;
  live = false;
  level1 = record { merges = 0; written = 0; compacted = 0 };
  level2 = record { merges = 0; written = 0; compacted = 0 };
  level3 = record { merges = 0; written = 0; compacted = 0 };
}

abbrev pub forecast_answer : Result ℕ Refusal → ForecastAnswer
forecast_answer (Ok n) = record { reason = 0; merges = n }
forecast_answer (Err r) = record { reason = number_of r; merges = 0 }

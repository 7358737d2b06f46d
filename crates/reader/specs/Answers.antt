-- Document 01's number and values for each case of an answer: "the answer has only the number and zeros" where a call is turned down.
use Rattle.std.specs.Prelude.{ℕ, true, false, Option, Some, None, Result, Ok, Err}
use Rattle.geometry.specs.declared.Refusal.{Refusal}
use Rattle.geometry.specs.Refusals.{number_of}
use Rattle.levels.specs.Basics.{if◌then◌otherwise◌}
use Rattle.words.specs.Calls.{LookAnswer, NextAnswer, StretchAnswer, AboutAnswer, about_refused}
use Rattle.search.specs.declared.Held.{Held}
use Rattle.walk.specs.declared.Listed.{Listed}
use Rattle.reader.specs.declared.Facts.{Facts}

abbrev pub looked_answer : Result (Option ℕ) Refusal → LookAnswer
looked_answer (Ok (Some v)) = record { reason = 0; found = true; pay = v }
looked_answer (Ok None) = record { reason = 0; found = false; pay = 0 }
looked_answer (Err r) = record { reason = number_of r; found = false; pay = 0 }

abbrev pub nexted_answer : Result (Option (ℕ × ℕ)) Refusal → NextAnswer
nexted_answer (Ok (Some (k, v))) = record { reason = 0; found = true; key = k; pay = v }
nexted_answer (Ok None) = record { reason = 0; found = false; key = 0; pay = 0 }
nexted_answer (Err r) = record { reason = number_of r; found = false; key = 0; pay = 0 }

abbrev pub stretch_answer : Result Listed Refusal → StretchAnswer
stretch_answer (Ok l) = record { reason = 0; written = l.written; more = l.more }
stretch_answer (Err r) = record { reason = number_of r; written = 0; more = false }

-- "a mark or no record is absent"
abbrev pub looked_of : Option Held → Option ℕ
looked_of None = None
looked_of (Some h) = if h.mark then None otherwise Some h.pay

-- "the six numbers, live, N, the records in level 0 and the blocks of each level"
abbrev pub facts_answer : Facts → AboutAnswer
facts_answer f = record {
  reason = 0;
  b = f.b;
  w = f.w;
  d = f.d;
  g = f.g;
  h = f.h;
  p = f.p;
  live = f.live;
  limit = f.limit;
  top = f.top;
  blocks1 = f.blocks1;
  blocks2 = f.blocks2;
  blocks3 = f.blocks3;
}

abbrev pub told_answer : Result Facts Refusal → AboutAnswer
told_answer (Ok f) = facts_answer f
told_answer (Err r) = about_refused (number_of r)

-- The exported structs: for each answer of document 01's calls (words, Calls) the numbers that a caller in C is given.
use Rattle.std.specs.Prelude.{ℕ, ◌<◌, ◌≡◌, true, false, List, Result}
use Rattle.geometry.specs.declared.Geometry.{Geometry}
use Rattle.geometry.specs.Geometry.{is_legal}
use Rattle.layout.specs.Layouts.{old}
use Rattle.levels.specs.Count as levels
use Rattle.words.specs.Stores.{bit}
use Rattle.words.specs.Calls.{Outcome, FormatAnswer, LookAnswer, NextAnswer, StretchAnswer, StretchOutcome, AboutAnswer, ChangeAnswer, ForecastAnswer, put_of, delete_of, will_put_merge_of, will_delete_merge_of}
use Rattle.geometry.specs.declared.Refusal.{Refusal}
use Rattle.writer.specs.declared.Change.{Change}
use Rattle.writer.specs.Answers.{changed_answer}
use Rattle.reader.specs.declared.Part as part
use Rattle.store.specs.Change.{PutDone, DeleteDone}
use Rattle.mewilovang.specs.declared.Formatted.{Formatted}
use Rattle.mewilovang.specs.declared.Looked.{Looked}
use Rattle.mewilovang.specs.declared.Nexted.{Nexted}
use Rattle.mewilovang.specs.declared.Stretched.{Stretched}
use Rattle.mewilovang.specs.declared.Part.{Part}
use Rattle.mewilovang.specs.declared.AboutStore.{AboutStore}
use Rattle.mewilovang.specs.declared.Forecast.{Forecast}
use Rattle.mewilovang.specs.declared.Counts.{Counts}
use Rattle.mewilovang.specs.declared.Changed.{Changed}

-- "Layout of the lent store": the words that it takes; a geometry that breaks a limit has none
unfoldable pub words_of : Geometry → ℕ
words_of g = elim (is_legal g) [ true ↦ (old g).length | false ↦ 0 ]

-- "Format .. answers N."
abbrev pub formatted_reply : FormatAnswer → Formatted
formatted_reply a = record { reason = a.reason; limit = a.limit }

abbrev pub formatted_outcome : Outcome FormatAnswer → Outcome Formatted
formatted_outcome o = record { answer = formatted_reply o.answer; words = o.words }

-- "Look up k"
abbrev pub looked_reply : LookAnswer → Looked
looked_reply a = record { reason = a.reason; found = bit a.found; payload = a.pay }

-- "Next k"
abbrev pub nexted_reply : NextAnswer → Nexted
nexted_reply a = record { reason = a.reason; found = bit a.found; key = a.key; payload = a.pay }

-- Document 02, card 1: the answer, and every entry of both arrays
abbrev pub stretched_reply : StretchAnswer → Stretched
stretched_reply a = record { reason = a.reason; written = a.written; more = bit a.more }

abbrev pub stretched_outcome : StretchOutcome StretchAnswer → StretchOutcome Stretched
stretched_outcome o = record { answer = stretched_reply o.answer; keys = o.keys; pays = o.pays }

-- "Show i, k"
abbrev pub part_reply : part.Part → Part
part_reply p = record { start = p.start; length = p.length }

-- About, field by field
abbrev pub told_reply : AboutAnswer → AboutStore
told_reply a = record {
  reason = a.reason;
  b = a.b;
  w = a.w;
  d = a.d;
  g = a.g;
  h = a.h;
  p = a.p;
  live = a.live;
  limit = a.limit;
  top = a.top;
  blocks1 = a.blocks1;
  blocks2 = a.blocks2;
  blocks3 = a.blocks3;
}

-- Document 02, card 5: the reason or 0, and the merges into level 1
abbrev pub forecast_reply : ForecastAnswer → Forecast
forecast_reply a = record { reason = a.reason; merges = a.merges }

-- "for each level 1 to 3: merges into it, blocks written by them, blocks written compacting it", if they are words
pub record CountsFit (c : levels.Counts) : Type 0 where
  pub merges : c.merges < 4294967296
  pub written : c.written < 4294967296
  pub compacted : c.compacted < 4294967296

abbrev pub counts_reply : levels.Counts → Counts
counts_reply c = record { merges = c.merges; written = c.written; compacted = c.compacted }

-- "The answer says if k was live."
abbrev pub changed_reply : ChangeAnswer → Changed
changed_reply a = record { reason = a.reason; live = bit a.live; level1 = counts_reply a.level1; level2 = counts_reply a.level2; level3 = counts_reply a.level3 }

-- "Put k, v": the answer in the struct's numbers and every lent word, and all that `PutDone` says of them, demand 3 with it.
pub record PutReplied (ws : List ℕ) (k v : ℕ) (r : Changed) (out : List ℕ) : Type 0 where
  pub reply : r ≡ changed_reply (put_of ws k v).answer
  pub words : out ≡ (put_of ws k v).words
  -- card 5: reason and merges into level 1 are those that `mewilovang_will_put_merge` answers of the words at entry
  pub foretold : record { reason = r.reason; merges = r.level1.merges } ≡ forecast_reply (will_put_merge_of ws k)
  -- what the store's put answers, of which all that `PutDone` says holds; r is its numbers
  pub change : Result Change Refusal
  pub answer : r ≡ changed_reply (changed_answer change)
  pub done : PutDone ws k v change out

-- "Delete k"
pub record DeleteReplied (ws : List ℕ) (k : ℕ) (r : Changed) (out : List ℕ) : Type 0 where
  pub reply : r ≡ changed_reply (delete_of ws k).answer
  pub words : out ≡ (delete_of ws k).words
  pub foretold : record { reason = r.reason; merges = r.level1.merges } ≡ forecast_reply (will_delete_merge_of ws k)
  pub change : Result Change Refusal
  pub answer : r ≡ changed_reply (changed_answer change)
  pub done : DeleteDone ws k change out

-- Demand 2 over a list of calls: "Every lookup and every next-key reading answers as a finite map fed with the same accepted puts and deletes.
-- A put is turned down as full only for a new key when the map holds its stated limit." The calls on lent words, the same calls on a finite map,
-- and what it is for the one to answer as the other, said once for every form of the store.
use Rattle.std.specs.Prelude.{ℕ, ◌≡◌, Bool, false, eqb, length, take}
use mathlib.Core.List.{List, [], ◌∷◌, foldl}
use Rattle.geometry.specs.declared.Geometry.{Geometry}
use Rattle.geometry.specs.Geometry.{key_limit_of}
use Rattle.layout.specs.Layouts.{size_reason}
use Rattle.levels.specs.Basics.{if◌then◌otherwise◌, is_some}
use Rattle.levels.specs.Record.{Rec}
use Rattle.levels.specs.Map.{find, first_from, stretch}
use Rattle.levels.specs.Put.{insert, without, put_rec}
use Rattle.words.specs.Stores.{layout_at}
use Rattle.words.specs.Form.{reason_of}
use Rattle.words.specs.Calls.{
  Outcome,
  FormatAnswer,
  LookAnswer,
  NextAnswer,
  AboutAnswer,
  ChangeAnswer,
  look_answer,
  next_answer,
  map_at,
  format_of,
  check_of,
  look_up_of,
  next_of,
  StretchAnswer,
  StretchOutcome,
  filled,
  stretch_of,
  show_of,
  put_of,
  delete_of,
  about_of,
  ForecastAnswer,
  is_full,
  will_put_merge_of,
  will_delete_merge_of,
}

-- Document 01's calls, card 1's and card 5's, and About.
pub data Call : Type 0 where
  format_as : Geometry → Call
  check : Call
  look_up_key : ℕ → Call
  next_key : ℕ → Call
  -- first and last key, and the two arrays as they are lent
  stretch_keys : ℕ → ℕ → List ℕ → List ℕ → Call
  show_key : ℕ → ℕ → Call
  put_key : ℕ → ℕ → Call
  del_key : ℕ → Call
  about : Call
  will_put : ℕ → Call
  will_delete : ℕ → Call

-- Their answers.
pub data Answer : Type 0 where
  formatted : FormatAnswer → Answer
  checked : ℕ → Answer
  looked : LookAnswer → Answer
  nexted : NextAnswer → Answer
  stretched : StretchOutcome StretchAnswer → Answer
  shown : List ℕ → Answer
  changed : ChangeAnswer → Answer
  told : AboutAnswer → Answer
  forecast : ForecastAnswer → Answer

-- One call on lent words: its answer and the words afterwards. "Look up, Next, Show and Check change no lent word."
unfoldable pub perform : List ℕ → Call → Outcome Answer
perform ws (format_as g) = let o = format_of ws g in record { answer = formatted o.answer; words = o.words }
perform ws check = record { answer = checked (check_of ws); words = ws }
perform ws (look_up_key k) = record { answer = looked (look_up_of ws k); words = ws }
perform ws (next_key k) = record { answer = nexted (next_of ws k); words = ws }
perform ws (stretch_keys first last keys pays) = record { answer = stretched (stretch_of ws first last keys pays); words = ws }
perform ws (show_key i k) = record { answer = shown (show_of ws i k); words = ws }
perform ws (put_key k v) = let o = put_of ws k v in record { answer = changed o.answer; words = o.words }
perform ws (del_key k) = let o = delete_of ws k in record { answer = changed o.answer; words = o.words }
perform ws about = record { answer = told (about_of ws); words = ws }
perform ws (will_put k) = record { answer = forecast (will_put_merge_of ws k); words = ws }
perform ws (will_delete k) = record { answer = forecast (will_delete_merge_of ws k); words = ws }

-- What a map settles of an answer: all but the counts of a put or delete, which are demand 3's, the merges of a forecast, which are card 5's, and Show's words and
-- About's geometry and blocks, which are the layout's.
pub data Reply : Type 0 where
  formats : FormatAnswer → Reply
  checks : ℕ → Reply
  looks : LookAnswer → Reply
  nexts : NextAnswer → Reply
  stretches : StretchOutcome StretchAnswer → Reply
  shows : Reply
  -- the reason or 0, and "if k was live"
  changes : ℕ → Bool → Reply
  -- the reason or 0, the number of keys, and N
  tells : ℕ → ℕ → ℕ → Reply
  -- the reason or 0
  forecasts : ℕ → Reply

abbrev pub reply_of : Answer → Reply
reply_of (formatted a) = formats a
reply_of (checked n) = checks n
reply_of (looked a) = looks a
reply_of (nexted a) = nexts a
reply_of (stretched o) = stretches o
reply_of (shown ws) = shows
reply_of (changed a) = changes a.reason a.live
reply_of (told a) = tells a.reason a.live a.limit
reply_of (forecast a) = forecasts a.reason

-- A finite map: its records in key order, and N, the keys that it takes at most. It stands in `size` words, which format asks for.
pub record Held : Type 0 where
  pub size : ℕ
  pub limit : ℕ
  pub records : List Rec

-- What each call answers on a map. Check finds nothing: a map has no form to breach.
abbrev pub map_reply : Held → Call → Reply
map_reply m (format_as g) =
    let r = size_reason m.size g in
    if eqb r 0 then formats (record { reason = 0; limit = key_limit_of g }) otherwise formats (record { reason = r; limit = 0 })
map_reply m check = checks 0
map_reply m (look_up_key k) = looks (look_answer (find k m.records))
map_reply m (next_key k) = nexts (next_answer (first_from k m.records))
map_reply m (stretch_keys first last keys pays) = stretches (filled (stretch first last m.records) keys pays)
map_reply m (show_key i k) = shows
map_reply m (put_key k v) = if is_full m.limit m.records k then changes 5 false otherwise changes 0 (is_some (find k m.records))
map_reply m (del_key k) = changes 0 (is_some (find k m.records))
map_reply m about = tells 0 (length m.records) m.limit
map_reply m (will_put k) = if is_full m.limit m.records k then forecasts 5 otherwise forecasts 0
map_reply m (will_delete k) = forecasts 0

-- The map afterwards: it is fed with the accepted puts and deletes, and an accepted format empties it.
abbrev pub map_after : Held → Call → Held
map_after m (format_as g) = if eqb (size_reason m.size g) 0 then record { size = m.size; limit = key_limit_of g; records = [] } otherwise m
map_after m check = m
map_after m (look_up_key k) = m
map_after m (next_key k) = m
map_after m (stretch_keys first last keys pays) = m
map_after m (show_key i k) = m
map_after m (put_key k v) = if is_full m.limit m.records k then m otherwise record { size = m.size; limit = m.limit; records = insert (put_rec k v) m.records }
map_after m (del_key k) = record { size = m.size; limit = m.limit; records = without k m.records }
map_after m about = m
map_after m (will_put k) = m
map_after m (will_delete k) = m

-- Something that takes calls: what it answers, and what it is afterwards.
pub record Machine (State Call Reply : Type 0) : Type 0 where
  pub reply : State → Call → Reply
  pub after : State → Call → State

-- the answers to a list of calls, performed one after the other, and the state that the last of them leaves
abbrev pub replies : {State Call Reply : Type 0} → Machine State Call Reply → State → List Call → List Reply
replies m s [] = []
replies m s (c ∷ cs) = m.reply s c ∷ replies m (m.after s c) cs

abbrev pub after_all : {State Call Reply : Type 0} → Machine State Call Reply → State → List Call → State
after_all m s cs = foldl m.after s cs

-- A form of the store: the reason that a state of it is turned down for, or 0; its calls; the map that a state holds; the same calls on maps.
pub record StoreForm (State Call Reply Map : Type 0) : Type 0 where
  pub reason : State → ℕ
  pub store : Machine State Call Reply
  pub held : State → Map
  pub map : Machine Map Call Reply

-- Demand 2 of any calls `cs`, performed one after the other from a state s on: it answers as the map m.
pub record AnswersAsMap {State Call Reply Map : Type 0} (f : StoreForm State Call Reply Map) (s : State) (m : Map) (cs : List Call) : Type 0 where
  -- every answer is that of the finite map that starts as m and is fed with the accepted calls, refusals with them
  pub answers : replies f.store s cs ≡ replies f.map m cs
  -- the store passes after every call, so refusal 4 never follows from our own calls
  pub passes : (n : ℕ) → f.reason (after_all f.store s (take n cs)) ≡ 0
  -- and after every call the map that it holds is the fed one
  pub fed : (n : ℕ) → f.held (after_all f.store s (take n cs)) ≡ after_all f.map m (take n cs)

-- The map that lent words hold.
abbrev pub held_in : List ℕ → Held
held_in ws = record { size = length ws; limit = key_limit_of (layout_at ws).geo; records = map_at ws }

-- Document 01's form: lent words.
abbrev pub words_form : StoreForm (List ℕ) Call Reply Held
words_form = record {
  reason = reason_of;
  store = record { reply = λ ws c. reply_of (perform ws c).answer; after = λ ws c. (perform ws c).words };
  held = held_in;
  map = record { reply = map_reply; after = map_after };
}

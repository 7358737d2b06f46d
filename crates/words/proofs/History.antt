-- Demand 2 over a list of calls: the induction, for every form of the store; and document 01's form, one call at a time.
use Prim.Native.Nat.{ℕ}
use mathlib.Core.Path.{◌≡◌, refl, ◌∙◌, ap}
use mathlib.Core.Bool.{Bool, true, false}
use mathlib.Core.List.{List, [], ◌∷◌}
use lib.Dec.{eqb}
use lib.ListN.{length, take}
use borrow.Author.Tests.{eqb-true, eqb-false}
use Rattle.geometry.specs.declared.Geometry.{Geometry}
use Rattle.geometry.specs.Geometry.{key_limit_of}
use Rattle.levels.specs.Basics.{if◌then◌otherwise◌, is_some}
use Rattle.levels.specs.Record.{Rec}
use Rattle.levels.specs.Map.{find}
use Rattle.levels.specs.Put.{insert, without, put_rec}
use Rattle.words.specs.Stores.{layout_at}
use Rattle.words.specs.Form.{reason_of}
use Rattle.words.specs.Calls.{Outcome, ChangeAnswer, FormatAnswer, AboutAnswer, map_at, format_of, check_of, put_of, delete_of, about_of, is_full, will_put_merge_of}
use Rattle.words.specs.History.{Call, format_as, check, look_up_key, next_key, stretch_keys, show_key, put_key, del_key, about, will_put, will_delete, perform, formats, checks, looks, nexts, stretches, changes, tells, forecasts, reply_of, map_reply, map_after, replies, after_all, StoreForm, AnswersAsMap, held_in, words_form}
use Rattle.words.proofs.Formatted.{format_sizes, format_turned_down, format_accepted, format_length, format_geometry, format_passes}
use Rattle.words.proofs.Steps.{put_passes, delete_passes}
use Rattle.words.proofs.About.{about_reason, about_live, about_words}
use Rattle.words.proofs.Stretch.{stretch_map}
use Rattle.words.proofs.Forecast.{full_is, full_not, put_reason_passed, will_put_reason, will_delete_reason}
use Rattle.words.proofs.MapAfter.{format_map, look_up_map, next_map, put_geometry, delete_geometry, put_enters, delete_takes_out, put_full_outcome, put_accepted, delete_accepted, put_length, delete_length}
use Rattle.layout.specs.Layouts.{size_reason}
use Rattle.layout.specs.declared.Layout.{Layout}
use Rattle.words.proofs.Reason.{layout_geometry, layout_same}

-- What a form of the store has to show of each call alone, from any state that passes.
pub record OneStep {State Call Reply Map : Type 0} (f : StoreForm State Call Reply Map) : Type 0 where
  pub answers : (s : State) (c : Call) → f.reason s ≡ 0 → f.store.reply s c ≡ f.map.reply (f.held s) c
  pub passes : (s : State) (c : Call) → f.reason s ≡ 0 → f.reason (f.store.after s c) ≡ 0
  pub feeds : (s : State) (c : Call) → f.reason s ≡ 0 → f.held (f.store.after s c) ≡ f.map.after (f.held s) c

-- Then it holds of all lists of calls.
module _ {State Call Reply Map : Type 0} (f : StoreForm State Call Reply Map) (o : OneStep f) where
  replies_as : (s : State) (m : Map) (cs : List Call) → f.reason s ≡ 0 → f.held s ≡ m → replies f.store s cs ≡ replies f.map m cs
  replies_as s m [] e h = refl
  replies_as s m (c ∷ cs) e h =
      ap (λ (r : Reply). r ∷ replies f.store (f.store.after s c) cs) (o.answers s c e ∙ ap (λ (n : Map). f.map.reply n c) h)
      ∙ ap (λ (rs : List Reply). f.map.reply m c ∷ rs)
      (replies_as (f.store.after s c) (f.map.after m c) cs (o.passes s c e) (o.feeds s c e ∙ ap (λ (n : Map). f.map.after n c) h))

  all_pass : (s : State) (cs : List Call) → f.reason s ≡ 0 → f.reason (after_all f.store s cs) ≡ 0
  all_pass s [] e = e
  all_pass s (c ∷ cs) e = all_pass (f.store.after s c) cs (o.passes s c e)

  all_fed : (s : State) (m : Map) (cs : List Call) → f.reason s ≡ 0 → f.held s ≡ m → f.held (after_all f.store s cs) ≡ after_all f.map m cs
  all_fed s m [] e h = h
  all_fed s m (c ∷ cs) e h = all_fed (f.store.after s c) (f.map.after m c) cs (o.passes s c e) (o.feeds s c e ∙ ap (λ (n : Map). f.map.after n c) h)

  pub calls_as_map : (s : State) (m : Map) → f.reason s ≡ 0 → f.held s ≡ m → (cs : List Call) → AnswersAsMap f s m cs
  calls_as_map s m e h cs = record {
    answers = replies_as s m cs e h;
    passes = λ n. all_pass s (take n cs) e;
    fed = λ n. all_fed s m (take n cs) e h;
  }

-- the map that words hold, part by part
held_is : (ws : List ℕ) (n : ℕ) (g : Geometry) (rs : List Rec) → length ws ≡ n → (layout_at ws).geo ≡ g → map_at ws ≡ rs → held_in ws ≡ record { size = n; limit = key_limit_of g; records = rs }
held_is ws n g rs a b c =
    ap (λ (x : ℕ). record { size = x; limit = key_limit_of (layout_at ws).geo; records = map_at ws }) a
    ∙ ap (λ (x : Geometry). record { size = n; limit = key_limit_of x; records = map_at ws }) b ∙ ap (λ (x : List Rec). record { size = n; limit = key_limit_of g; records = x }) c

-- Format, of any words: what it answers, and the empty map.
format_reply : (ws : List ℕ) (g : Geometry) → formats (format_of ws g).answer ≡ map_reply (held_in ws) (format_as g)
format_reply ws g = go (eqb (size_reason (length ws) g) 0) refl
  where
    go : (t : Bool) → eqb (size_reason (length ws) g) 0 ≡ t
        → formats (format_of ws g).answer ≡ (if t then formats (record { reason = 0; limit = key_limit_of g }) otherwise formats (record { reason = size_reason (length ws) g; limit = 0 }))
    go true q = ap (λ (o : Outcome FormatAnswer). formats o.answer) (format_accepted ws g (eqb-true (size_reason (length ws) g) 0 q))
    go false q = ap (λ (o : Outcome FormatAnswer). formats o.answer) (format_turned_down ws g (eqb-false (size_reason (length ws) g) 0 q))

pub format_held : (ws : List ℕ) (g : Geometry) → size_reason (length ws) g ≡ 0 → held_in (format_of ws g).words ≡ record { size = length ws; limit = key_limit_of g; records = [] }
format_held ws g e =
    held_is (format_of ws g).words (length ws) g [] (format_length ws g e) (layout_geometry (format_of ws g).words ∙ format_geometry ws g e) (format_map ws g (ap (λ (o : Outcome FormatAnswer). o.answer.reason) (format_accepted ws g e)))

-- Words that pass the form check: each call.
module _ (ws : List ℕ) (e : reason_of ws ≡ 0) where
  format_step : (g : Geometry) → (reason_of (format_of ws g).words ≡ 0) × (held_in (format_of ws g).words ≡ map_after (held_in ws) (format_as g))
  format_step g = go (eqb (size_reason (length ws) g) 0) refl
    where
      go : (t : Bool) → eqb (size_reason (length ws) g) 0 ≡ t
          → (reason_of (format_of ws g).words ≡ 0) × (held_in (format_of ws g).words ≡ (if t then record { size = length ws; limit = key_limit_of g; records = [] } otherwise held_in ws))
      go true q = let y = eqb-true (size_reason (length ws) g) 0 q in (format_passes ws g y, format_held ws g y)
      go false q =
          let w : (format_of ws g).words ≡ ws = ap (λ (o : Outcome FormatAnswer). o.words) (format_turned_down ws g (eqb-false (size_reason (length ws) g) 0 q)) in
          (ap reason_of w ∙ e, ap held_in w)

  -- a put that is refused as full, and every other
  put_reply : (k v : ℕ) → changes (put_of ws k v).answer.reason (put_of ws k v).answer.live ≡ map_reply (held_in ws) (put_key k v)
  put_reply k v = go (is_full (key_limit_of (layout_at ws).geo) (map_at ws) k) refl
    where
      go : (t : Bool) → is_full (key_limit_of (layout_at ws).geo) (map_at ws) k ≡ t → changes (put_of ws k v).answer.reason (put_of ws k v).answer.live ≡ (if t then changes 5 false otherwise changes 0 (is_some (find k (map_at ws))))
      go true q = let y = full_is (key_limit_of (layout_at ws).geo) (map_at ws) k q in ap (λ (o : Outcome ChangeAnswer). changes o.answer.reason o.answer.live) (put_full_outcome ws e k v y.0 y.1)
      go false q = let y = put_accepted ws e k v (full_not (key_limit_of (layout_at ws).geo) (map_at ws) k q) in ap (λ (n : ℕ). changes n (put_of ws k v).answer.live) y.0 ∙ ap (changes 0) y.1

  put_held : (k v : ℕ) → held_in (put_of ws k v).words ≡ map_after (held_in ws) (put_key k v)
  put_held k v = go (is_full (key_limit_of (layout_at ws).geo) (map_at ws) k) refl
    where
      go : (t : Bool) → is_full (key_limit_of (layout_at ws).geo) (map_at ws) k ≡ t → held_in (put_of ws k v).words ≡ (if t then held_in ws otherwise record { size = length ws; limit = key_limit_of (layout_at ws).geo; records = insert (put_rec k v) (map_at ws) })
      go true q = let y = full_is (key_limit_of (layout_at ws).geo) (map_at ws) k q in ap (λ (o : Outcome ChangeAnswer). held_in o.words) (put_full_outcome ws e k v y.0 y.1)
      go false q =
          held_is (put_of ws k v).words (length ws) (layout_at ws).geo (insert (put_rec k v) (map_at ws)) (put_length ws e k v) (ap (λ (y : Layout). y.geo) (layout_same (put_of ws k v).words ws (put_geometry ws e k v)))
          (put_enters ws e k v (put_accepted ws e k v (full_not (key_limit_of (layout_at ws).geo) (map_at ws) k q)).0)

  delete_reply : (k : ℕ) → changes (delete_of ws k).answer.reason (delete_of ws k).answer.live ≡ map_reply (held_in ws) (del_key k)
  delete_reply k = let y = delete_accepted ws e k in ap (λ (n : ℕ). changes n (delete_of ws k).answer.live) y.0 ∙ ap (changes 0) y.1

  delete_held : (k : ℕ) → held_in (delete_of ws k).words ≡ map_after (held_in ws) (del_key k)
  delete_held k =
      held_is (delete_of ws k).words (length ws) (layout_at ws).geo (without k (map_at ws)) (delete_length ws e k) (ap (λ (y : Layout). y.geo) (layout_same (delete_of ws k).words ws (delete_geometry ws e k))) (delete_takes_out ws e k (delete_accepted ws e k).0)

  about_reply : tells (about_of ws).reason (about_of ws).live (about_of ws).limit ≡ map_reply (held_in ws) about
  unfolding check_of
  about_reply =
      ap (λ (n : ℕ). tells n (about_of ws).live (about_of ws).limit) (about_reason ws ∙ e)
      ∙ ap (λ (n : ℕ). tells 0 n (about_of ws).limit) (about_live ws e) ∙ ap (tells 0 (length (map_at ws))) (ap (λ (a : AboutAnswer). a.limit) (about_words ws e))

  will_put_reply : (k : ℕ) → forecasts (will_put_merge_of ws k).reason ≡ map_reply (held_in ws) (will_put k)
  will_put_reply k = ap forecasts (will_put_reason ws k ∙ put_reason_passed ws k e) ∙ go (is_full (key_limit_of (layout_at ws).geo) (map_at ws) k)
    where
      go : (t : Bool) → forecasts (if t then 5 otherwise 0) ≡ (if t then forecasts 5 otherwise forecasts 0)
      go true = refl
      go false = refl

-- Document 01's form, call by call.
words_answers : (ws : List ℕ) (c : Call) → reason_of ws ≡ 0 → reply_of (perform ws c).answer ≡ map_reply (held_in ws) c
unfolding perform check_of
words_answers ws (format_as g) e = format_reply ws g
words_answers ws check e = ap checks e
words_answers ws (look_up_key k) e = ap looks (look_up_map ws k e)
words_answers ws (next_key k) e = ap nexts (next_map ws k e)
words_answers ws (stretch_keys first last keys pays) e = ap stretches (stretch_map ws first last keys pays e)
words_answers ws (show_key i k) e = refl
words_answers ws (put_key k v) e = put_reply ws e k v
words_answers ws (del_key k) e = delete_reply ws e k
words_answers ws about e = about_reply ws e
words_answers ws (will_put k) e = will_put_reply ws e k
words_answers ws (will_delete k) e = ap forecasts (will_delete_reason ws k ∙ e)

words_pass : (ws : List ℕ) (c : Call) → reason_of ws ≡ 0 → reason_of (perform ws c).words ≡ 0
unfolding perform
words_pass ws (format_as g) e = (format_step ws e g).0
words_pass ws check e = e
words_pass ws (look_up_key k) e = e
words_pass ws (next_key k) e = e
words_pass ws (stretch_keys first last keys pays) e = e
words_pass ws (show_key i k) e = e
words_pass ws (put_key k v) e = put_passes ws k v e
words_pass ws (del_key k) e = delete_passes ws k e
words_pass ws about e = e
words_pass ws (will_put k) e = e
words_pass ws (will_delete k) e = e

words_feed : (ws : List ℕ) (c : Call) → reason_of ws ≡ 0 → held_in (perform ws c).words ≡ map_after (held_in ws) c
unfolding perform
words_feed ws (format_as g) e = (format_step ws e g).1
words_feed ws check e = refl
words_feed ws (look_up_key k) e = refl
words_feed ws (next_key k) e = refl
words_feed ws (stretch_keys first last keys pays) e = refl
words_feed ws (show_key i k) e = refl
words_feed ws (put_key k v) e = put_held ws e k v
words_feed ws (del_key k) e = delete_held ws e k
words_feed ws about e = refl
words_feed ws (will_put k) e = refl
words_feed ws (will_delete k) e = refl

pub words_step : OneStep words_form
words_step = record { answers = words_answers; passes = words_pass; feeds = words_feed }

-- Demand 2, of any words that pass the form check and any list of calls: they answer as the map that the words hold.
pub history : (ws : List ℕ) → reason_of ws ≡ 0 → (cs : List Call) → AnswersAsMap words_form ws (held_in ws) cs
history ws e cs = calls_as_map words_form words_step ws (held_in ws) e refl cs

-- And of any words after a format that is not turned down: they answer as the empty map with N keys of room.
pub history_from_format : (ws : List ℕ) (g : Geometry) → (format_of ws g).answer.reason ≡ 0 → (cs : List Call)
    → AnswersAsMap words_form (format_of ws g).words (record { size = length ws; limit = key_limit_of g; records = [] }) cs
history_from_format ws g e cs =
    let y = format_sizes ws g e in
    calls_as_map words_form words_step (format_of ws g).words (record { size = length ws; limit = key_limit_of g; records = [] }) (format_passes ws g y) (format_held ws g y) cs

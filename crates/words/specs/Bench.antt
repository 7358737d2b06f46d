-- What a computed case of the calls on words can say, and the test of it.
use Rattle.std.specs.Prelude.{ℕ, suc, Bool, false, not, ◌&&◌, ◌||◌, eqb, replicate}
use Prim.Native.String.{String}
use mathlib.Core.List.{List, [], ◌∷◌, ◌++◌, foldl}
use Rattle.geometry.specs.declared.Geometry.{Geometry}
use Rattle.geometry.specs.Geometry.{
  capacity_of,
  window_of,
  capacity_sum,
  flash_capacity_of,
  key_limit_of,
  in_ranges,
  in_sizes,
  is_legal,
  top_capacity_of,
  block_width,
}
use Rattle.layout.specs.Layouts.{old, list_start, place_start, size_reason}
use Rattle.levels.specs.Basics.{if◌then◌otherwise◌}
use Rattle.levels.specs.Map.{find, into, overlay, view, unmarked, map_of, live_count, decides, look_up, is_live, first_from, next, stretch}
use Rattle.levels.specs.Choose.{cut_at}
use Rattle.levels.specs.Place.{free_after, first_free, settle, newly_used}
use Rattle.levels.specs.Call.{merge_cut, compact_level, compact_if_needed, step_five, merge_run, merge_level, deepest_over, merges_below, merges_from}
use Rattle.levels.specs.Put.{insert, merges_for, enter, put, delete}
use Rattle.levels.specs.Count.{Counts, blocks_merged, blocks_compacted, counts_of}
use Rattle.levels.specs.Bench.{same_numbers}
use Rattle.pieces.specs.Pieces.{lay, lay_all}
use Rattle.words.specs.Stores.{
  slots_at,
  page_slots,
  top_slots,
  top_recs,
  list_at,
  listed_at,
  block_slots,
  block_at,
  level_at,
  store_at,
  bit,
  mark_word,
  list_pieces,
  pieces,
  with_store,
  block_words,
  block_piece,
  with_blocks,
  part,
  layout_at,
}
use Rattle.words.specs.Form.{listed_places, live_exact, live_fits, cursor_inside, top_fits, room_of, counts_fit, places_inside, places_once, blocks_filled, keys_rise, bottom_unmarked, top_unused_zero, lists_unused_zero, blocks_unused_zero, tombstones_clean, pairs_kept, levels_kept, clauses, formed, reason_of}
use Rattle.words.specs.Calls.{
  Outcome,
  ChangeAnswer,
  format_words,
  format_of,
  check_of,
  look_up_of,
  next_of,
  filled,
  stretch_of,
  enclosing,
  show_in,
  show_of,
  left_words,
  change_outcome,
  put_of,
  delete_of,
  about_in,
  about_of,
  top_merges,
  put_reason,
  will_put_merge_of,
  will_delete_merge_of,
}
use Rattle.words.specs.History.{Answer, formatted, checked, looked, nexted, stretched, shown, changed, told, forecast}
pub use Rattle.words.specs.History.{Call, format_as, check, look_up_key, next_key, stretch_keys, show_key, put_key, del_key, about, will_put, will_delete}
unfoldable pub use Rattle.words.specs.History.{perform}

-- the numbers that document 01 gives each answer
abbrev pub count_numbers : Counts → List ℕ
count_numbers c = c.merges ∷ c.written ∷ c.compacted ∷ []

abbrev pub change_numbers : ChangeAnswer → List ℕ
change_numbers a = a.reason ∷ bit a.live ∷ (count_numbers a.level1 ++ (count_numbers a.level2 ++ count_numbers a.level3))

abbrev pub numbers_of : Answer → List ℕ
numbers_of (formatted a) = a.reason ∷ a.limit ∷ []
numbers_of (checked n) = n ∷ []
numbers_of (looked a) = a.reason ∷ bit a.found ∷ a.pay ∷ []
numbers_of (nexted a) = a.reason ∷ bit a.found ∷ a.key ∷ a.pay ∷ []
numbers_of (stretched o) = o.answer.reason ∷ o.answer.written ∷ bit o.answer.more ∷ (o.keys ++ o.pays)
numbers_of (shown ws) = ws
numbers_of (changed a) = change_numbers a
numbers_of (told a) =
    a.reason ∷ a.b ∷ a.w ∷ a.d ∷ a.g ∷ a.h ∷ a.p ∷ a.live ∷ a.limit ∷ a.top ∷ a.blocks1 ∷ a.blocks2 ∷ a.blocks3 ∷ []
numbers_of (forecast a) = a.reason ∷ a.merges ∷ []

-- one call, computed
unfoldable pub computed : List ℕ → Call → Outcome (List ℕ)
unfolding
    capacity_of window_of capacity_sum flash_capacity_of key_limit_of in_ranges in_sizes is_legal top_capacity_of block_width
    old list_start place_start size_reason part lay lay_all layout_at find into overlay view unmarked map_of live_count decides look_up is_live first_from next stretch cut_at free_after
    first_free settle newly_used merge_cut compact_level compact_if_needed step_five merge_run merge_level deepest_over merges_below merges_from insert merges_for enter
    put delete blocks_merged blocks_compacted counts_of slots_at page_slots top_slots top_recs list_at listed_at block_slots block_at level_at store_at mark_word
    list_pieces pieces with_store block_words block_piece with_blocks listed_places live_exact live_fits cursor_inside top_fits room_of counts_fit places_inside places_once
    blocks_filled keys_rise bottom_unmarked top_unused_zero lists_unused_zero blocks_unused_zero tombstones_clean pairs_kept levels_kept clauses formed reason_of format_words format_of
    check_of look_up_of next_of filled stretch_of enclosing show_in show_of left_words change_outcome put_of delete_of about_in about_of top_merges put_reason will_put_merge_of will_delete_merge_of perform
computed ws c = let o = perform ws c in record { answer = numbers_of o.answer; words = o.words }

-- the words after some calls
unfoldable pub words_after : List Call → List ℕ → List ℕ
unfolding computed
words_after cs ws = foldl (λ xs c. (computed xs c).words) ws cs

-- A case: the words, the calls made on them, one more call, and its answer's numbers.
pub record Case : Type 0 where
  pub text : String
  pub words : List ℕ
  pub calls : List Call
  pub last : Call
  pub answer : List ℕ

-- turned down with a number: the numbers begin with it
abbrev pub is_refusal : List ℕ → Bool
is_refusal [] = false
is_refusal (n ∷ ns) = not (eqb n 0)

-- the answer is as said, and after a refusal no word has changed
unfoldable pub holds : Case → Bool
unfolding words_after computed
holds c =
    let ws = words_after c.calls c.words in
    let o = computed ws c.last in
    same_numbers o.answer c.answer && (not (is_refusal c.answer) || same_numbers o.words ws)

-- The cases that do not hold: a refusal of the theorem prints them.
unfoldable pub failing : List Case → List String
failing [] = []
failing (c ∷ cs) = if holds c then failing cs otherwise (c.text ∷ failing cs)

-- Words of a store of this geometry, and the clauses of the form check that they break, by number from 1 on in the document's order.
pub record Breach : Type 0 where
  pub text : String
  pub geometry : Geometry
  pub words : List ℕ
  pub broken : List ℕ

-- the numbers, counted from n, of the tests that fail
abbrev pub untrue : ℕ → List Bool → List ℕ
untrue n [] = []
untrue n (t ∷ ts) = if t then untrue (suc n) ts otherwise (n ∷ untrue (suc n) ts)

unfoldable pub misjudged : List Breach → List String
unfolding computed
misjudged [] = []
misjudged (b ∷ bs) = if same_numbers (untrue 1 (clauses (old b.geometry) b.words)) b.broken then misjudged bs otherwise (b.text ∷ misjudged bs)

-- words written as counts and values
abbrev pub expand : List ℕ → List ℕ
expand [] = []
expand (n ∷ []) = []
expand (n ∷ v ∷ xs) = replicate n v ++ expand xs

-- these calls, one after the other on these words, give these answers and leave these words
unfoldable pub agrees : List ℕ → List Call → List (List ℕ) → List ℕ → Bool
unfolding computed
agrees ws [] ns end = same_numbers ws end
agrees ws (a ∷ as') [] end = false
agrees ws (a ∷ as') (n ∷ ns) end = let o = computed ws a in same_numbers o.answer n && agrees o.words as' ns end

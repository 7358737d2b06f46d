-- Computed cases of the calls on words: geometry A of document 01's "Bench figures", every refusal, and each clause of the form check broken.
-- A refusal of a theorem prints the cases that fail if that takes at most 200,000 steps: else look at a part of the list alone.
use Rattle.std.specs.Prelude.{ℕ, ◌+◌, ◌-◌, ◌≡◌, refl, true, List, [], ◌∷◌, ◌++◌, map, set, take, replicate}
use Prim.Native.String.{String}
use Rattle.geometry.specs.declared.Geometry.{Geometry}
use Rattle.geometry.specs.Geometry.{capacity_of, capacity_sum, flash_capacity_of, top_capacity_of, block_width}
use Rattle.layout.specs.Layouts.{old, list_start, place_start}
use Rattle.levels.specs.Record.{Rec, Level}
use Rattle.levels.specs.Every.{all_blocks}
use Rattle.levels.specs.Bench.{geo, puts, dels, at, same_numbers}
use Rattle.pieces.specs.Pieces.{lay, lay_all}
use Rattle.words.specs.Calls.{six_of}
use Rattle.words.specs.Stores.{mark_word, list_pieces, pieces, with_store, block_words, block_piece, with_blocks}
use Rattle.words.specs.Bench.{Call, format_as, check, look_up_key, next_key, show_key, put_key, del_key, about, will_put, will_delete, words_after, Case, holds, failing, Breach, misjudged}

abbrev pub A : Geometry
A = geo 4 1 2 4 1 40

-- a geometry of two levels
abbrev pub T : Geometry
T = geo 4 1 2 3 2 104

-- puts of these keys, each with the payload one above it
abbrev pub put_all : List ℕ → List Call
put_all ks = map (λ (k : ℕ). put_key k (k + 1)) ks

-- A after puts 10, 20 .. 90, as the layout has it: sizes; level 0's mark words, keys, payloads; the list of level 1; place 0; the other places
abbrev pub nine : List ℕ
nine =
    4 ∷ 1 ∷ 2 ∷ 4 ∷ 1 ∷ 40 ∷ 9 ∷ 0 ∷ 5 ∷ 1 ∷ 0 ∷ 0 ∷ 0 ∷ 0 ∷ 50 ∷ 60 ∷ 70 ∷ 80 ∷ 90 ∷ 0 ∷ 0 ∷ 0 ∷ 51 ∷ 61 ∷ 71 ∷ 81 ∷ 91 ∷ 0 ∷ 0 ∷ 0
    ∷ 0 ∷ 0 ∷ 0 ∷ 0 ∷ 0 ∷ 0 ∷ 0 ∷ 0 ∷ 4 ∷ 0 ∷ 10 ∷ 20 ∷ 30 ∷ 40 ∷ 11 ∷ 21 ∷ 31 ∷ 41 ∷ replicate 390 0

-- the nine puts leave exactly these words, whatever stood there before format
pub nine_words : same_numbers (words_after (format_as A ∷ put_all (10 ∷ 20 ∷ 30 ∷ 40 ∷ 50 ∷ 60 ∷ 70 ∷ 80 ∷ 90 ∷ [])) (replicate 438 7)) nine ≡ true
unfolding words_after
nine_words = refl

-- the words of a store over words that held 7 each, for stores that no call list reaches
abbrev pub laid : Geometry → ℕ → List Rec → List Level → List ℕ
laid g live top ls =
    let z = old g in
    with_store z (record { live = live; cursor = g.p - 1; top = top; levels = ls }) (with_blocks z (all_blocks ls) (six_of g ++ replicate (z.length - 6) 7))

-- a store of 17 keys, the N of A
abbrev pub full : List ℕ
full = laid A 17 (puts 1 (1 ∷ 2 ∷ 3 ∷ 4 ∷ 5 ∷ 6 ∷ 7 ∷ 8 ∷ [])) ((at 0 (puts 1 (11 ∷ 12 ∷ 13 ∷ 14 ∷ [])) ∷ at 1 (puts 1 (15 ∷ 16 ∷ 17 ∷ 18 ∷ [])) ∷ at 2 (puts 1 (19 ∷ [])) ∷ []) ∷ [])

-- a call on `nine`
abbrev pub asked : String → Call → List ℕ → Case
asked t a n = record { text = t; words = nine; calls = []; last = a; answer = n }

-- a check of these words
abbrev pub checked : String → List ℕ → ℕ → Case
checked t ws n = record { text = t; words = ws; calls = []; last = check; answer = n ∷ [] }

-- the clauses of the form check that these words break, by number
abbrev pub breaks : String → Geometry → List ℕ → List ℕ → Breach
breaks t g ws ns = record { text = t; geometry = g; words = ws; broken = ns }

-- "Format", and a first put that merges
unfoldable pub format_cases : List Case
format_cases =
    record { text = "format answers N"; words = replicate 438 7; calls = []; last = format_as A; answer = 0 ∷ 17 ∷ [] }
    ∷ record { text = "format of 11 words gets 1"; words = replicate 11 7; calls = []; last = format_as A; answer = 1 ∷ 0 ∷ [] }
    ∷ record { text = "format: 1 before 2"; words = []; calls = []; last = format_as (geo 4294967295 0 0 4294967295 4294967295 0); answer = 1 ∷ 0 ∷ [] }
    ∷ record { text = "format: 2 before 3"; words = replicate 12 7; calls = []; last = format_as (geo 4294967295 0 0 4294967295 4294967295 0); answer = 2 ∷ 0 ∷ [] }
    ∷ record { text = "format of 437 words gets 3"; words = replicate 437 7; calls = []; last = format_as A; answer = 3 ∷ 0 ∷ [] }
    ∷ record { text = "a formatted store passes"; words = replicate 438 7; calls = format_as A ∷ []; last = check; answer = 0 ∷ [] }
    ∷ record { text = "next on a formatted store"; words = replicate 438 7; calls = format_as A ∷ []; last = next_key 0; answer = 0 ∷ 0 ∷ 0 ∷ 0 ∷ [] }
    ∷ record {
      text = "put 90 merges into level 1 and writes one block";
      words = replicate 438 0;
      calls = format_as A ∷ put_all (10 ∷ 20 ∷ 30 ∷ 40 ∷ 50 ∷ 60 ∷ 70 ∷ 80 ∷ []);
      last = put_key 90 91;
      answer = 0 ∷ 0 ∷ 1 ∷ 1 ∷ 0 ∷ 0 ∷ 0 ∷ 0 ∷ 0 ∷ 0 ∷ 0 ∷ [];
    }
    ∷ []

pub format_cases_hold : failing format_cases ≡ []
unfolding failing holds format_cases
format_cases_hold = refl

-- the other calls
unfoldable pub call_cases : List Case
call_cases =
    asked "look up in level 0" (look_up_key 50) (0 ∷ 1 ∷ 51 ∷ [])
    ∷ asked "look up in level 1" (look_up_key 20) (0 ∷ 1 ∷ 21 ∷ [])
    ∷ asked "look up of no key" (look_up_key 25) (0 ∷ 0 ∷ 0 ∷ [])
    ∷ asked "next of a key" (next_key 20) (0 ∷ 1 ∷ 20 ∷ 21 ∷ [])
    ∷ asked "next of a gap" (next_key 41) (0 ∷ 1 ∷ 50 ∷ 51 ∷ [])
    ∷ asked "next above the last" (next_key 91) (0 ∷ 0 ∷ 0 ∷ 0 ∷ [])
    ∷ asked "show of a key" (show_key 1 40) (4 ∷ 0 ∷ 10 ∷ 20 ∷ 30 ∷ 40 ∷ 11 ∷ 21 ∷ 31 ∷ 41 ∷ [])
    ∷ asked "show of an enclosed key" (show_key 1 25) (4 ∷ 0 ∷ 10 ∷ 20 ∷ 30 ∷ 40 ∷ 11 ∷ 21 ∷ 31 ∷ 41 ∷ [])
    ∷ asked "show of a key outside" (show_key 1 41) []
    ∷ asked "show of level 0" (show_key 0 50) []
    ∷ asked "show of level 2" (show_key 2 50) []
    ∷ asked "a put on a live key" (put_key 20 1) (0 ∷ 1 ∷ 0 ∷ 0 ∷ 0 ∷ 0 ∷ 0 ∷ 0 ∷ 0 ∷ 0 ∷ 0 ∷ [])
    ∷ asked "a delete of an absent key" (del_key 25) (0 ∷ 0 ∷ 0 ∷ 0 ∷ 0 ∷ 0 ∷ 0 ∷ 0 ∷ 0 ∷ 0 ∷ 0 ∷ [])
    ∷ asked "about: nine keys of 17, five records in level 0, one block in level 1" about (0 ∷ 4 ∷ 1 ∷ 2 ∷ 4 ∷ 1 ∷ 40 ∷ 9 ∷ 17 ∷ 5 ∷ 1 ∷ 0 ∷ 0 ∷ [])
    ∷ record { text = "about counts no deleted key, but its mark"; words = nine; calls = del_key 20 ∷ []; last = about; answer = 0 ∷ 4 ∷ 1 ∷ 2 ∷ 4 ∷ 1 ∷ 40 ∷ 8 ∷ 17 ∷ 6 ∷ 1 ∷ 0 ∷ 0 ∷ [] }
    ∷ record { text = "look up of a deleted key"; words = nine; calls = del_key 20 ∷ []; last = look_up_key 20; answer = 0 ∷ 0 ∷ 0 ∷ [] }
    ∷ record { text = "next steps over a mark"; words = nine; calls = del_key 20 ∷ []; last = next_key 20; answer = 0 ∷ 1 ∷ 30 ∷ 31 ∷ [] }
    ∷ []

pub call_cases_hold : failing call_cases ≡ []
unfolding failing holds call_cases
call_cases_hold = refl

-- "Why a call is turned down", for each call
unfoldable pub reason_cases : List Case
unfolding old list_start place_start list_pieces pieces with_store lay lay_all block_words block_piece with_blocks mark_word capacity_of capacity_sum flash_capacity_of top_capacity_of block_width
reason_cases =
    checked "no words" [] 1
    ∷ checked "P = 39" (set nine 5 39) 2
    ∷ checked "a word too few" (take 437 nine) 3
    ∷ checked "a word too many" (nine ++ (0 ∷ [])) 3
    ∷ checked "a breach of form" (set nine 6 8) 4
    ∷ checked "none" nine 0
    ∷ record { text = "look up: 4"; words = set nine 6 8; calls = []; last = look_up_key 50; answer = 4 ∷ 0 ∷ 0 ∷ [] }
    ∷ record { text = "next: 3"; words = take 437 nine; calls = []; last = next_key 50; answer = 3 ∷ 0 ∷ 0 ∷ 0 ∷ [] }
    ∷ record { text = "show: an empty part"; words = set nine 6 8; calls = []; last = show_key 1 20; answer = [] }
    ∷ record { text = "put: 2"; words = set nine 0 1; calls = []; last = put_key 50 1; answer = 2 ∷ 0 ∷ 0 ∷ 0 ∷ 0 ∷ 0 ∷ 0 ∷ 0 ∷ 0 ∷ 0 ∷ 0 ∷ [] }
    ∷ record { text = "about: 1"; words = take 11 nine; calls = []; last = about; answer = 1 ∷ 0 ∷ 0 ∷ 0 ∷ 0 ∷ 0 ∷ 0 ∷ 0 ∷ 0 ∷ 0 ∷ 0 ∷ 0 ∷ 0 ∷ [] }
    ∷ record { text = "delete: 1"; words = take 11 nine; calls = []; last = del_key 50; answer = 1 ∷ 0 ∷ 0 ∷ 0 ∷ 0 ∷ 0 ∷ 0 ∷ 0 ∷ 0 ∷ 0 ∷ 0 ∷ [] }
    ∷ record { text = "put: 5"; words = full; calls = []; last = put_key 100 1; answer = 5 ∷ 0 ∷ 0 ∷ 0 ∷ 0 ∷ 0 ∷ 0 ∷ 0 ∷ 0 ∷ 0 ∷ 0 ∷ [] }
    ∷ []

pub reason_cases_hold : failing reason_cases ≡ []
unfolding failing holds reason_cases
reason_cases_hold = refl

-- eight records in level 0 of A, the most that it takes: a mark of key 1, which level 1 has, and seven puts
abbrev pub marked : List ℕ
marked = laid A 10 (dels (1 ∷ []) ++ puts 1 (2 ∷ 3 ∷ 4 ∷ 5 ∷ 6 ∷ 7 ∷ 8 ∷ [])) ((at 0 (puts 1 (1 ∷ 11 ∷ 12 ∷ 13 ∷ [])) ∷ []) ∷ [])

-- a forecast on these words, its reason and its merges
abbrev pub foreseen : String → List ℕ → Call → ℕ → ℕ → Case
foreseen t ws c reason merges = record { text = t; words = ws; calls = []; last = c; answer = reason ∷ merges ∷ [] }

-- Document 02, card 5: "One merge, or none."
unfoldable pub forecast_cases : List Case
unfolding old list_start place_start list_pieces pieces with_store lay lay_all block_words block_piece with_blocks mark_word capacity_of capacity_sum flash_capacity_of top_capacity_of block_width
forecast_cases =
    foreseen "level 0 has room: a put" nine (will_put 95) 0 0
    ∷ foreseen "level 0 has room: a delete" nine (will_delete 20) 0 0
    ∷ foreseen "level 0 is full: a put of a new key" marked (will_put 9) 0 1
    ∷ foreseen "a put of a live key that stands below" full (will_put 12) 0 1
    ∷ foreseen "a put of a key in level 0" full (will_put 3) 0 0
    ∷ foreseen "a put of a key that level 0 has as a mark" marked (will_put 1) 0 0
    ∷ foreseen "a put of a new key while live = N" full (will_put 100) 5 0
    ∷ foreseen "a delete of a live key that stands below" full (will_delete 12) 0 1
    ∷ foreseen "a delete of a live key in level 0" full (will_delete 3) 0 0
    ∷ foreseen "a delete of a key that level 0 has as a mark" marked (will_delete 1) 0 0
    ∷ foreseen "a delete of an absent key" full (will_delete 100) 0 0
    ∷ foreseen "a put on a damaged store" (set full 6 16) (will_put 12) 4 0
    ∷ foreseen "a delete on 11 words" (take 11 full) (will_delete 12) 1 0
    ∷ []

pub forecast_cases_hold : failing forecast_cases ≡ []
unfolding failing holds forecast_cases
forecast_cases_hold = refl

-- the clauses of the form check about the sizes
unfoldable pub size_cases : List Breach
unfolding old list_start place_start list_pieces pieces with_store lay lay_all block_words block_piece with_blocks mark_word capacity_of capacity_sum flash_capacity_of top_capacity_of block_width
size_cases =
    breaks "A after puts 10, 20 .. 90" A nine []
    ∷ breaks "1: live is not the number of keys" A (set nine 6 8) (1 ∷ [])
    ∷ breaks "2: live is above N" A (laid A 18 (puts 1 (1 ∷ 2 ∷ 3 ∷ 4 ∷ 5 ∷ 6 ∷ 7 ∷ 8 ∷ [])) ((at 0 (puts 1 (11 ∷ 12 ∷ 13 ∷ 14 ∷ [])) ∷ at 1 (puts 1 (15 ∷ 16 ∷ 17 ∷ 18 ∷ [])) ∷ at 2 (puts 1 (19 ∷ 20 ∷ [])) ∷ []) ∷ [])) (2 ∷ [])
    ∷ breaks "live is N" A (laid A 17 (puts 1 (1 ∷ 2 ∷ 3 ∷ 4 ∷ 5 ∷ 6 ∷ 7 ∷ 8 ∷ [])) ((at 0 (puts 1 (11 ∷ 12 ∷ 13 ∷ 14 ∷ [])) ∷ at 1 (puts 1 (15 ∷ 16 ∷ 17 ∷ 18 ∷ [])) ∷ at 2 (puts 1 (19 ∷ [])) ∷ []) ∷ [])) []
    ∷ breaks "3: hand is P" A (set nine 7 40) (3 ∷ [])
    ∷ breaks "4: c is above K(0)×B" A (set (laid A 8 (puts 1 (1 ∷ 2 ∷ 3 ∷ 4 ∷ 5 ∷ 6 ∷ 7 ∷ 8 ∷ [])) ([] ∷ [])) 8 9) (4 ∷ [])
    ∷ breaks "5: the count of level 1 is above K(1)" T (set (laid T 0 [] ((at 0 (dels (1 ∷ 2 ∷ 3 ∷ 4 ∷ [])) ∷ at 1 (dels (5 ∷ 6 ∷ 7 ∷ 8 ∷ [])) ∷ at 2 (dels (9 ∷ 10 ∷ 11 ∷ 12 ∷ [])) ∷ at 3 (dels (13 ∷ 14 ∷ 15 ∷ 16 ∷ [])) ∷ at 4 (dels (17 ∷ 18 ∷ 19 ∷ 20 ∷ [])) ∷ at 5 (dels (21 ∷ 22 ∷ 23 ∷ 24 ∷ [])) ∷ []) ∷ [] ∷ [])) 9 7) (5 ∷ [])
    ∷ breaks "5: a count above h" A (set nine 10 1) (5 ∷ [])
    ∷ []

pub size_cases_hold : misjudged size_cases ≡ []
unfolding misjudged size_cases
size_cases_hold = refl

-- about listed places, blocks and keys
unfoldable pub block_cases : List Breach
unfolding old list_start place_start list_pieces pieces with_store lay lay_all block_words block_piece with_blocks mark_word capacity_of capacity_sum flash_capacity_of top_capacity_of block_width
block_cases =
    breaks "6: a listed place is P" A (set nine 30 40) (1 ∷ 6 ∷ 8 ∷ 16 ∷ [])
    ∷ breaks "7: a place is listed twice" T (laid T 4 [] ((at 3 (puts 1 (1 ∷ 2 ∷ 3 ∷ 4 ∷ [])) ∷ []) ∷ (at 3 (puts 1 (1 ∷ 2 ∷ 3 ∷ 4 ∷ [])) ∷ []) ∷ [])) (7 ∷ [])
    ∷ breaks "8: a block has no record" A (laid A 0 [] ((at 0 [] ∷ []) ∷ [])) (8 ∷ 16 ∷ [])
    ∷ breaks "8: a block has more than B records" A (set nine 38 5) (8 ∷ [])
    ∷ breaks "9: keys of level 0 do not rise" A (set nine 15 50) (9 ∷ [])
    ∷ breaks "9: keys of a block do not rise" A (set nine 41 10) (9 ∷ [])
    ∷ breaks "9: keys of two blocks do not rise" A (laid A 8 [] ((at 0 (puts 1 (1 ∷ 2 ∷ 3 ∷ 4 ∷ [])) ∷ at 1 (puts 1 (4 ∷ 5 ∷ 6 ∷ 7 ∷ [])) ∷ []) ∷ [])) (9 ∷ [])
    ∷ breaks "10: a mark in level h" A (laid A 3 [] ((at 0 (puts 1 (1 ∷ 2 ∷ 3 ∷ []) ++ dels (4 ∷ [])) ∷ []) ∷ [])) (10 ∷ [])
    ∷ []

pub block_cases_hold : misjudged block_cases ≡ []
unfolding misjudged block_cases
block_cases_hold = refl

-- about unused parts, marks and waste
unfoldable pub unused_cases : List Breach
unfolding old list_start place_start list_pieces pieces with_store lay lay_all block_words block_piece with_blocks mark_word capacity_of capacity_sum flash_capacity_of top_capacity_of block_width
unused_cases =
    breaks "11: an unused key of level 0" A (set nine 19 95) (11 ∷ [])
    ∷ breaks "11: an unused payload of level 0" A (set nine 27 1) (11 ∷ [])
    ∷ breaks "11: an unused bit of level 0" A (set nine 13 2) (11 ∷ [])
    ∷ breaks "11: a bit of level 0 from B on" A (set nine 12 16) (11 ∷ [])
    ∷ breaks "12: an unused entry of a list" A (set nine 31 1) (12 ∷ [])
    ∷ breaks "13: an unused key of a block" A (set (laid A 3 [] ((at 0 (puts 1 (1 ∷ 2 ∷ 3 ∷ [])) ∷ []) ∷ [])) 43 9) (13 ∷ [])
    ∷ breaks "13: an unused payload of a block" A (set (laid A 3 [] ((at 0 (puts 1 (1 ∷ 2 ∷ 3 ∷ [])) ∷ []) ∷ [])) 47 9) (13 ∷ [])
    ∷ breaks "13: an unused bit of a block" A (set (laid A 3 [] ((at 0 (puts 1 (1 ∷ 2 ∷ 3 ∷ [])) ∷ []) ∷ [])) 39 8) (13 ∷ [])
    ∷ breaks "13: a bit of a block from B on" A (set nine 39 16) (13 ∷ [])
    ∷ breaks "14: a mark of level 0 with a payload" A (set (laid A 0 (dels (5 ∷ [])) ([] ∷ [])) 22 1) (14 ∷ [])
    ∷ breaks "14: a mark of a block with a payload" T (set (laid T 0 [] ((at 0 (dels (1 ∷ 2 ∷ 3 ∷ 4 ∷ [])) ∷ []) ∷ [] ∷ [])) 60 1) (14 ∷ [])
    ∷ breaks "15: two neighbours hold B records" A (laid A 16 [] ((at 0 (puts 1 (1 ∷ 2 ∷ 3 ∷ 4 ∷ [])) ∷ at 1 (puts 1 (5 ∷ 6 ∷ 7 ∷ 8 ∷ [])) ∷ at 2 (puts 1 (9 ∷ 10 ∷ 11 ∷ 12 ∷ [])) ∷ at 3 (puts 1 (13 ∷ 14 ∷ [])) ∷ at 4 (puts 1 (15 ∷ 16 ∷ [])) ∷ []) ∷ [])) (15 ∷ [])
    ∷ breaks "16: a level needs compacting" A (laid A 15 [] ((at 0 (puts 1 (1 ∷ 2 ∷ 3 ∷ [])) ∷ at 1 (puts 1 (4 ∷ 5 ∷ 6 ∷ [])) ∷ at 2 (puts 1 (7 ∷ 8 ∷ 9 ∷ [])) ∷ at 3 (puts 1 (10 ∷ 11 ∷ 12 ∷ [])) ∷ at 4 (puts 1 (13 ∷ 14 ∷ 15 ∷ [])) ∷ []) ∷ [])) (16 ∷ [])
    ∷ breaks "marks for keys that exist nowhere, old words in free places" A (laid A 3 (dels (5 ∷ 9 ∷ [])) ((at 7 (puts 1 (1 ∷ 2 ∷ 3 ∷ [])) ∷ []) ∷ [])) []
    ∷ []

pub unused_cases_hold : misjudged unused_cases ≡ []
unfolding misjudged unused_cases
unused_cases_hold = refl

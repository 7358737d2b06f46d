-- Computed cases of the dialogue: document 01's example, and what readings 22 and 23 say of a refused f and of the input's ends.
-- Several short lists, because a refusal prints the names of the cases that fail only if that takes at most 200,000 steps.
use Rattle.std.specs.Prelude.{ℕ, ◌≡◌, refl, Bool, List, [], ◌∷◌, ◌++◌}
use Prim.Native.String.{String}
use Rattle.levels.specs.Basics.{if◌then◌otherwise◌}
use Rattle.levels.specs.Bench.{same_numbers}
use Rattle.levels.specs.Count.{above_of, under_of, run_of, overlap_of}
use Rattle.levels.specs.Put.{merges_of}
use Rattle.levels.specs.Tickets.{ticket_of}
use Rattle.words.specs.Calls.{put_tickets, delete_tickets}
use Rattle.words.specs.Bench.{computed}
use Rattle.lines.specs.Bytes.{bytes}
use Rattle.lines.specs.Lines.{first_field, further_fields, value_from, spoken, named, line_of, decimal_within, decimal, field, format_line, get_line, change_line, unreadable_line}
use Rattle.dialogue.specs.Said.{Said, format_said}
use Rattle.dialogue.specs.Dialogue.{lines_of, answers_to, dialogue}

-- the dialogue, computed; `computed` opens the definitions of the calls with all that they name
unfoldable pub heard_whole : ℕ → List ℕ → Said
unfolding
    computed first_field further_fields value_from spoken named line_of decimal_within decimal field format_line get_line change_line unreadable_line format_said lines_of answers_to dialogue above_of under_of run_of overlap_of merges_of ticket_of put_tickets delete_tickets
heard_whole m input = dialogue m input

-- What is printed for an input, whole, without tickets or with at most 64 for a call; or lines that another line leaves the store of
-- as it was, its length too.
pub data Case : Type 0 where
  prints : String → String → String → Case
  traces : String → String → String → Case
  keeps : String → String → String → Case

unfoldable pub holds : Case → Bool
unfolding heard_whole bytes
holds (prints name input output) = same_numbers (heard_whole 0 (bytes input)).bytes (bytes output)
holds (traces name input output) = same_numbers (heard_whole 64 (bytes input)).bytes (bytes output)
holds (keeps name lines line) = same_numbers (heard_whole 0 (bytes lines ++ bytes line)).store (heard_whole 0 (bytes lines)).store

abbrev pub name_of : Case → String
name_of (prints name input output) = name
name_of (traces name input output) = name
name_of (keeps name lines line) = name

-- The names of the cases that do not hold: a refusal of the theorem prints them.
unfoldable pub failing : List Case → List String
failing [] = []
failing (c ∷ cs) = if holds c then failing cs otherwise (name_of c ∷ failing cs)

-- document 01's example
unfoldable pub example_cases : List Case
example_cases =
    prints "document 01's example" "f 4 1 2 4 1 40\np 10 1\ng 10\nd 20\nd 10\ng 10\n" "f 0 17\np 0 0 0 0\ng 0 1 1\nd 0 0 0 0\nd 0 1 0 0\ng 0 0 0\n"
    -- "the last line may lack its line end"
    ∷ prints "the last line without its end" "f 4 1 2 4 1 40\np 10 1\ng 10\nd 20\nd 10\ng 10" "f 0 17\np 0 0 0 0\ng 0 1 1\nd 0 0 0 0\nd 0 1 0 0\ng 0 0 0\n"
    ∷ []

pub example_cases_hold : failing example_cases ≡ []
unfolding failing holds example_cases
example_cases_hold = refl

-- "blocks written by merges": document 01's bench figure of A, "Put 90: keys 10 to 40 go to place 0, one write."
unfoldable pub merge_cases : List Case
merge_cases =
    prints "the ninth put merges" "f 4 1 2 4 1 40\np 10 1\np 20 1\np 30 1\np 40 1\np 50 1\np 60 1\np 70 1\np 80 1\np 90 1\n" "f 0 17\np 0 0 0 0\np 0 0 0 0\np 0 0 0 0\np 0 0 0 0\np 0 0 0 0\np 0 0 0 0\np 0 0 0 0\np 0 0 0 0\np 0 0 1 0\n"
    ∷ []

pub merge_cases_hold : failing merge_cases ≡ []
unfolding failing holds merge_cases
merge_cases_hold = refl

-- The same with its tickets, worked out by hand. Put 90: page 0, no block below, one written. Put 95: 15 to 50 overlaps 10 to 40, and the
-- other page, 60 to 90, nothing. Put 68: 15 to 50 and 65 to 95 each overlap one block, so the lower goes, and two blocks are written.
unfoldable pub trace_cases : List Case
trace_cases =
    traces "three merges and their tickets" "f 4 1 2 4 1 40\np 10 1\np 20 1\np 30 1\np 40 1\np 50 1\np 60 1\np 70 1\np 80 1\np 90 1\np 15 1\np 25 1\np 35 1\np 95 1\np 65 1\np 66 1\np 67 1\np 68 1\n" "f 0 17\np 0 0 0 0\np 0 0 0 0\np 0 0 0 0\np 0 0 0 0\np 0 0 0 0\np 0 0 0 0\np 0 0 0 0\np 0 0 0 0\np 0 0 1 0\nt 0 0 0 1\np 0 0 0 0\np 0 0 0 0\np 0 0 0 0\np 0 0 1 0\nt 0 1 0 1\np 0 0 0 0\np 0 0 0 0\np 0 0 0 0\np 0 0 2 0\nt 0 0 1 2\n"
    ∷ traces "calls without a merge have no ticket" "f 4 1 2 4 1 40\np 10 1\nd 20\nd 10\ng 10\n" "f 0 17\np 0 0 0 0\nd 0 0 0 0\nd 0 1 0 0\ng 0 0 0\n"
    ∷ []

pub trace_cases_hold : failing trace_cases ≡ []
unfolding failing holds trace_cases
trace_cases_hold = refl

-- reading 23; unreadable lines; lines before any f
unfoldable pub end_cases : List Case
end_cases =
    prints "empty input" "" ""
    ∷ prints "a lone line end" "\n" "?\n"
    ∷ prints "two line ends" "\n\n" "?\n?\n"
    ∷ prints "a line end, and a line without its end" "\ng 1" "?\ng 1 0 0\n"
    -- "An unreadable line, an empty one too, prints `?`"
    ∷ prints "an unreadable line in the middle" "f 4 1 2 4 1 40\np 10 1\np 10\ng 10\n" "f 0 17\np 0 0 0 0\n?\ng 0 1 1\n"
    ∷ keeps "an unreadable line leaves the store" "f 4 1 2 4 1 40\np 10 1\n" "p 10\n"
    -- "before any accepted f, the store has none": reason 1 for every call
    ∷ prints "calls before any f" "p 10 1\nd 10\ng 10\n" "p 1 0 0 0\nd 1 0 0 0\ng 1 0 0\n"
    ∷ keeps "a put before any f leaves no words" "" "p 10 1\n"
    ∷ []

pub end_cases_hold : failing end_cases ≡ []
unfolding failing holds end_cases
end_cases_hold = refl

-- "more needed: 3"; reading 22: 2 is looked at before 3, and "A refused f leaves the old store as it was, its length too."
unfoldable pub refused_cases : List Case
refused_cases =
    prints "an f of more than 16,384 words" "f 4 1 2 4 1 40\np 10 1\nf 16 16 16 2 2 8192\ng 10\n" "f 0 17\np 0 0 0 0\nf 3 0\ng 0 1 1\n"
    ∷ keeps "an f of more than 16,384 words leaves the store" "f 4 1 2 4 1 40\np 10 1\n" "f 16 16 16 2 2 8192\n"
    ∷ prints "an f of a broken geometry" "f 4 1 2 4 1 40\np 10 1\nf 4 1 2 4 1 39\ng 10\n" "f 0 17\np 0 0 0 0\nf 2 0\ng 0 1 1\n"
    ∷ keeps "an f of a broken geometry leaves the store" "f 4 1 2 4 1 40\np 10 1\n" "f 4 1 2 4 1 39\n"
    ∷ prints "2 before 3" "f 17 16 16 2 2 8192\n" "f 2 0\n"
    ∷ prints "a refused f before any other" "f 16 16 16 2 2 8192\ng 10\n" "f 3 0\ng 1 0 0\n"
    -- an accepted one starts anew
    ∷ prints "a second f starts anew" "f 4 1 2 4 1 40\np 10 1\nf 4 1 2 4 1 40\ng 10\n" "f 0 17\np 0 0 0 0\nf 0 17\ng 0 0 0\n"
    ∷ []

pub refused_cases_hold : failing refused_cases ≡ []
unfolding failing holds refused_cases
refused_cases_hold = refl

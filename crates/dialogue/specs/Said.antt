-- Document 01, "Call list program", and its trace: what a line does to the store and what is printed for it.
use Rattle.std.specs.Prelude.{ℕ, ◌+◌, ◌*◌, true, false, List, [], ◌∷◌, ◌++◌, leb, take}
use Rattle.geometry.specs.declared.Geometry.{Geometry}
use Rattle.geometry.specs.Geometry.{is_legal, key_limit_of}
use Rattle.layout.specs.Layouts.{old}
use Rattle.levels.specs.declared.Ticket.{Ticket}
use Rattle.words.specs.Stores.{bit}
use Rattle.words.specs.Calls.{Outcome, FormatAnswer, LookAnswer, ChangeAnswer, format_words, look_up_of, put_of, delete_of, put_tickets, delete_tickets}
use Rattle.lines.specs.declared.Line.{Line}
use Rattle.lines.specs.declared.Line.TheVariants.{Format, Put, Delete, Get, Unreadable}
use Rattle.lines.specs.Bytes.{letter_p, letter_d, letter_t}
use Rattle.lines.specs.Lines.{longest_line, format_line, get_line, change_line, unreadable_line}
use Rattle.dialogue.specs.Bench.{bench_words}

-- The words of the store after a line, and the bytes printed for it. "before any accepted f, the store has none"
pub record Said : Type 0 where
  pub store : List ℕ
  pub bytes : List ℕ

-- "for f N (0 if refused)"
abbrev pub formatted_line : FormatAnswer → List ℕ
formatted_line a = format_line a.reason a.limit

-- "for g found 1 or 0 and payload or 0"
abbrev pub looked_line : LookAnswer → List ℕ
looked_line a = get_line a.reason (bit a.found) a.pay

-- "for p and d live-before 1 or 0, blocks written by merges, blocks written by compacting, each over all levels"
abbrev pub merged_sum : ChangeAnswer → ℕ
merged_sum a = a.level1.written + a.level2.written + a.level3.written

abbrev pub compacted_sum : ChangeAnswer → ℕ
compacted_sum a = a.level1.compacted + a.level2.compacted + a.level3.compacted

abbrev pub changed_line : ℕ → ChangeAnswer → List ℕ
changed_line letter a = change_line letter a.reason (bit a.live) (merged_sum a) (compacted_sum a)

-- "over 16,384 words of which format takes what the layout needs (more needed: 3 ..)"; reading 22: never 1, 2 before 3, and "A refused f leaves the old store as it was, its length too."
unfoldable pub format_said : List ℕ → Geometry → Said
format_said ws g = elim (is_legal g) [
  | false ↦ record { store = ws; bytes = format_line 2 0 }
  | true ↦ elim (leb (old g).length bench_words) [
    | true ↦ record { store = format_words (old g); bytes = format_line 0 (key_limit_of g) }
    | false ↦ record { store = ws; bytes = format_line 3 0 }
  ]
]

-- Document 02, card 3, for the mechanic: `t LEVEL FIRST OVERLAP WRITTEN` for each merge, in the order of the merges
abbrev pub ticket_line : Ticket → List ℕ
ticket_line t = change_line letter_t t.level t.first t.overlap t.written

abbrev pub ticket_lines : List Ticket → List ℕ
ticket_lines [] = []
ticket_lines (t ∷ ts) = ticket_line t ++ ticket_lines ts

abbrev pub change_said : ℕ → Outcome ChangeAnswer → List Ticket → Said
change_said letter o ts = record { store = o.words; bytes = changed_line letter o.answer ++ ticket_lines ts }

-- What a line does and prints, with the tickets of at most m merges for a call: none in document 01's program, 64 in the trace.
abbrev pub said_of : ℕ → List ℕ → Line → Said
said_of m ws (Format b w d g h p) = format_said ws (record { b = b; w = w; d = d; g = g; h = h; p = p })
said_of m ws (Put k v) = change_said letter_p (put_of ws k v) (take m (put_tickets ws k v))
said_of m ws (Delete k) = change_said letter_d (delete_of ws k) (take m (delete_tickets ws k))
said_of m ws (Get k) = record { store = ws; bytes = looked_line (look_up_of ws k) }
said_of m ws Unreadable = record { store = ws; bytes = unreadable_line }

-- No program prints more tickets for a call.
abbrev pub tickets_most : ℕ
tickets_most = 64

-- No line has a longer answer: its own line, and the lines of m tickets.
unfoldable pub longest_answer : ℕ → ℕ
longest_answer m = longest_line * (m + 1)

-- Document 01, "Call list program", and its trace: what they print for any list of input bytes, line by line.
use Rattle.std.specs.Prelude.{ℕ, true, false, List, [], ◌∷◌, ◌++◌, eqb}
use Rattle.lines.specs.Bytes.{line_end}
use Rattle.lines.specs.Lines.{line_of}
use Rattle.dialogue.specs.Said.{Said, said_of}

-- a byte before the lines that follow it; where none follows, it is the last line, which lacks its line end
abbrev pub joined : ℕ → List (List ℕ) → List (List ℕ)
joined x [] = (x ∷ []) ∷ []
joined x (l ∷ ls) = (x ∷ l) ∷ ls

-- The lines of the input, each without its line end. "the last line may lack its line end"; reading 23: empty input has no
-- line, a lone line end is one, a final line end begins no further one.
unfoldable pub lines_of : List ℕ → List (List ℕ)
lines_of [] = []
lines_of (x ∷ xs) = elim (eqb x line_end) [ true ↦ [] ∷ lines_of xs | false ↦ joined x (lines_of xs) ]

-- Between two parts of the input: the store, and the bytes of the line that has begun and not ended.
pub record Session : Type 0 where
  pub store : List ℕ
  pub begun : List ℕ

-- What a part of the input leaves, and the bytes printed for the lines that end in it.
pub record Heard : Type 0 where
  pub session : Session
  pub bytes : List ℕ

-- before the first byte
abbrev pub opening : Session
opening = record { store = []; begun = [] }

-- bytes printed before
abbrev pub after : List ℕ → Heard → Heard
after bs h = record { session = h.session; bytes = bs ++ h.bytes }

-- With the lines of at most m tickets for a call (`Said.said_of`): document 01's program has none.
module _ (m : ℕ) where
  -- "Each line prints": the answers in the order of the lines, each line on the store that the line before it left
  unfoldable pub answers_to : List ℕ → List (List ℕ) → Said
  answers_to ws [] = record { store = ws; bytes = [] }
  answers_to ws (l ∷ ls) =
      let a = said_of m ws (line_of l) in
      let r = answers_to a.store ls in
      record { store = r.store; bytes = a.bytes ++ r.bytes }

  -- What the program prints for the whole of its input, and the store at its end. "before any accepted f, the store has none"
  unfoldable pub dialogue : List ℕ → Said
  dialogue input = answers_to [] (lines_of input)

  -- The bytes of a part, one after the other: a line end ends the line that has begun, which is answered; any other byte is one more of it.
  unfoldable pub heard : Session → List ℕ → Heard
  heard s [] = record { session = s; bytes = [] }
  heard s (x ∷ xs) = elim (eqb x line_end) [
    | true ↦ let a = said_of m s.store (line_of s.begun) in after a.bytes (heard (record { store = a.store; begun = [] }) xs)
    | false ↦ heard (record { store = s.store; begun = s.begun ++ (x ∷ []) }) xs
  ]

  -- The end of the input: "the last line may lack its line end". A line that has not begun is none.
  abbrev pub ended_on : List ℕ → List ℕ → Said
  ended_on ws [] = record { store = ws; bytes = [] }
  ended_on ws (x ∷ xs) = said_of m ws (line_of (x ∷ xs))

  abbrev pub ended : Session → Said
  ended s = ended_on s.store s.begun

  -- The parts of the input in the order in which they come, each from the session that the part before it left.
  unfoldable pub heard_parts : Session → List (List ℕ) → Heard
  heard_parts s [] = record { session = s; bytes = [] }
  heard_parts s (p ∷ ps) = let h = heard s p in after h.bytes (heard_parts h.session ps)

  -- What the program prints for the parts and then at the end of the input, and the store that it ends with.
  unfoldable pub in_parts : List (List ℕ) → Said
  in_parts ps =
      let h = heard_parts opening ps in
      let e = ended h.session in
      record { store = e.store; bytes = h.bytes ++ e.bytes }

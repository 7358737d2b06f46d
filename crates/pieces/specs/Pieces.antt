-- Words read by number and in parts, and words written over others as pieces: a piece is a word number and the words that stand from there on.
use Rattle.std.specs.Prelude.{ℕ, ◌+◌, ◌-◌, ◌≤◌, ◌≡◌, List, [], ◌∷◌, ◌++◌, ◌⊎◌, length, take, drop, get_or, replicate}
use Rattle.std.proofs.lemmas.List.Edits.{sets}
use Rattle.levels.specs.Every.{Every}

-- Reading.

abbrev pub word : List ℕ → ℕ → ℕ
word ws i = get_or ws i 0

-- the n words from word a on
unfoldable pub part : List ℕ → ℕ → ℕ → List ℕ
part ws a n = take n (drop a ws)

-- Writing.

-- n words, zeros behind those that are given
abbrev pub pad : ℕ → List ℕ → List ℕ
pad n xs = xs ++ replicate (n - length xs) 0

pub record Piece : Type 0 where
  pub at : ℕ
  pub words : List ℕ

abbrev pub piece : ℕ → List ℕ → Piece
piece a xs = record { at = a; words = xs }

-- the first word behind a piece
abbrev pub ending : Piece → ℕ
ending p = p.at + length p.words

-- the words with a piece in place of those that stood there; their number is kept whatever the piece is
unfoldable pub lay : Piece → List ℕ → List ℕ
lay p ws = sets ws p.at p.words

-- one piece after the other
unfoldable pub lay_all : List Piece → List ℕ → List ℕ
lay_all [] ws = ws
lay_all (p ∷ ps) ws = lay_all ps (lay p ws)

-- What laws say of pieces.

-- the piece stands in the words
abbrev pub Held : List ℕ → Piece → Type 0
Held ws p = part ws p.at (length p.words) ≡ p.words

-- n words from word a on that no word of the piece is among
abbrev pub Clear : ℕ → ℕ → Piece → Type 0
Clear a n p = (a + n ≤ p.at) ⊎ (ending p ≤ a)

-- no two of the pieces meet
abbrev pub Apart : List Piece → Type 0
Apart [] = Unit {0}
Apart (p ∷ ps) = Every (λ q. Clear p.at (length p.words) q) ps × Apart ps

-- pieces in rising order, the first at word `low` or behind it
abbrev pub Stacked : ℕ → List Piece → Type 0
Stacked low [] = Unit {0}
Stacked low (p ∷ ps) = (low ≤ p.at) × Stacked (ending p) ps

-- every piece lies in n words
abbrev pub Within : ℕ → List Piece → Type 0
Within n ps = Every (λ p. ending p ≤ n) ps

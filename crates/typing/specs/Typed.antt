-- Document 01, "Call list program", and its trace: "Reads standard input", "each line prints". What the programs write, where the bytes
-- that their reader gives and those that their writer holds are known.
use Rattle.std.specs.Prelude.{ℕ, ◌-◌, ◌^◌, ◌<◌, List, length, Option, IfSome}
use Rattle.std.specs.Io.{StartsWith}
use Rattle.std.specs.Io.KnownBytes.{Appends}
use Rattle.dialogue.specs.Dialogue.{dialogue}

-- The writer's bytes have grown by all that the dialogue prints for the reader's: those of any input that has fewer bytes than a
-- program makes reads.
abbrev pub Answers : ℕ → Option (List ℕ) → Option (List ℕ) → Option (List ℕ) → Type 0
Answers m input before after = IfSome input (λ xs. length xs < 2 ^ 64 - 1 → Appends before after (dialogue m xs).bytes)

-- They have grown by bytes of bs, from its first on.
abbrev pub Begins : List ℕ → Option (List ℕ) → Option (List ℕ) → Type 0
Begins bs before after = (cs : List ℕ) × Appends before after cs × StartsWith bs cs

-- They have grown by nothing but what the dialogue prints for the reader's bytes, from the first on.
abbrev pub AnswersBegin : ℕ → Option (List ℕ) → Option (List ℕ) → Option (List ℕ) → Type 0
AnswersBegin m input before after = IfSome input (λ xs. Begins (dialogue m xs).bytes before after)

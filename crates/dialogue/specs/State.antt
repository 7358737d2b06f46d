-- How the program holds a session (`Dialogue.Session`): the store is the first of the bench's words, and of the line that has begun
-- the reading of its bytes is kept and not the bytes.
use Rattle.std.specs.Prelude.{ℕ, ◌+◌, ◌≤◌, ◌≡◌, List, [], take}
use Rattle.lines.specs.declared.Reading.TheVariants.{Start}
use Rattle.lines.specs.Bytes.{Printed}
use Rattle.lines.specs.Machine.{run}
use Rattle.dialogue.specs.declared.State.{State}
use Rattle.dialogue.specs.declared.Fed.{Fed}
use Rattle.dialogue.specs.Bench.{bench_words}
use Rattle.dialogue.specs.Said.{Said, tickets_most, longest_answer}
use Rattle.dialogue.specs.Dialogue.{Session, Heard}

-- The state d stands, with these words of the bench, for the session s of a program that prints at most m tickets for a call. What
-- stands behind the store in the words is nobody's, and no answer depends on it.
pub record Holds (m : ℕ) (d : State) (words : List ℕ) (s : Session) : Type 0 where
  pub tickets : d.tickets ≡ m
  pub few : m ≤ tickets_most
  pub fits : d.words ≤ bench_words
  pub store : take d.words words ≡ s.store
  pub begun : d.reading ≡ run Start s.begun

-- What a part of the input has left and printed: its bytes stand in the buffer from place `at` on, and no other byte of the
-- buffer has changed.
pub record Feeds (m : ℕ) (h : Heard) (at : ℕ) (r : Fed) (words before after : List ℕ) : Type 0 where
  pub session : Holds m r.state words h.session
  pub output : Printed before after at r.bytes h.bytes

-- A line has been answered, and no other has begun.
abbrev pub closed : Said → Heard
closed a = record { session = record { store = a.store; begun = [] }; bytes = a.bytes }

-- The same as the code holds it: the store is n words, and the place behind the answer is `end`.
abbrev pub answered_as : ℕ → ℕ → ℕ → Fed
answered_as m n end = record { state = record { tickets = m; words = n; reading = Start }; bytes = end }

-- What is said of a call has been done and printed, by a program that prints at most m tickets for it.
pub record Says (m : ℕ) (a : Said) (at r : ℕ) (words before after : List ℕ) : Type 0 where
  pub ends : r ≤ at + longest_answer m
  pub store : words ≡ a.store
  pub output : Printed before after at r a.bytes

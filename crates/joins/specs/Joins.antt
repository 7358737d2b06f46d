-- Step 4 of a merge as a machine: leftovers join the block before them and the block after Y.
use Rattle.std.specs.Prelude.{ℕ, zero, suc, ◌+◌, ◌-◌, ◌/◌, ◌%◌, ◌^◌, ◌≤◌, ◌<◌, List, leb, eqb, get_or, set}
use Rattle.levels.specs.Basics.{if◌then◌otherwise◌}
use Rattle.blocks.specs.declared.Offsets.{Offsets}
use Rattle.blocks.specs.declared.Buffer.{Buffer}
use Rattle.blocks.specs.Blocks.{Sized, start_of, pushed, empty_buffer}
use Rattle.blocks.specs.Room.{list_room}
use Rattle.stream.specs.declared.Progress.{Progress}
use Rattle.sides.specs.Sides.{last_size}
use Rattle.stream.specs.Machine.{Memory, flushed, Flushable}

-- no bits but those of the records
pub record Clean (a : Buffer) : Type 0 where
  pub bits : a.marks < 2 ^ a.n

-- the block at place q fits into the buffer behind what it has
pub record Loadable (z : Offsets) (xs : List ℕ) (q : ℕ) (a : Buffer) : Type 0 where
  pub sized : Sized z xs
  pub place : q < z.p
  pub clean : Clean a
  pub few : a.n + get_or xs (start_of z q) 0 ≤ z.b

-- the first n records of the block whose words start at `at`, after those of a buffer
unfoldable pub appended : ℕ → List ℕ → ℕ → Buffer → ℕ → Buffer
appended b xs at a zero = a
appended b xs at a (suc j) = pushed (appended b xs at a j) (get_or xs (at + 2 + j) 0) (get_or xs (at + 1) 0 / 2 ^ j % 2) (get_or xs (at + 2 + b + j) 0)

-- n records of keys, payloads and a mark word, after those of a buffer
unfoldable pub joined : Buffer → List ℕ → List ℕ → ℕ → ℕ → Buffer
joined a keys pays marks zero = a
joined a keys pays marks (suc j) = pushed (joined a keys pays marks j) (get_or keys j 0) (marks / 2 ^ j % 2) (get_or pays j 0)

-- the last block listed can be taken back
pub record Pullable (z : Offsets) (xs out : List ℕ) (w : Progress) : Type 0 where
  pub sized : Sized z xs
  pub m_low : 1 ≤ w.m
  pub m_high : w.m ≤ list_room
  pub place : get_or out (w.m - 1) 0 < z.p
  pub few : w.buf.n + get_or xs (start_of z (get_or out (w.m - 1) 0)) 0 ≤ z.b

-- the last block listed, e, is taken back: its records stand before those of the buffer
unfoldable pub pulled : Offsets → List ℕ → List ℕ → Progress → Progress
pulled z xs out w =
    let at = start_of z (get_or out (w.m - 1) 0) in
    record {
      x = w.x;
      y = w.y;
      m = w.m - 1;
      writes = w.writes;
      cursor = w.cursor;
      buf = joined (appended z.b xs at empty_buffer (get_or xs at 0)) w.buf.keys w.buf.pays w.buf.marks w.buf.n;
    }

-- what the join of a leftover asks: a list of places, and a buffer of at most 16
pub record Lefts (z : Offsets) (xs out : List ℕ) (w : Progress) : Type 0 where
  pub sized : Sized z xs
  pub m_high : w.m ≤ list_room
  pub few : w.buf.n ≤ 16
  pub places : (i : ℕ) → i < w.m → get_or out i 0 < z.p

-- Step 4: "a leftover that with e holds B or fewer joins it"
unfoldable pub left_joined : Offsets → List ℕ → List ℕ → Progress → Progress
left_joined z xs out w =
    if eqb w.buf.n 0 then w
    otherwise if leb (last_size z xs out w.m + w.buf.n) z.b then pulled z xs out w
    otherwise w

-- the block after Y, at place q, goes into the buffer
unfoldable pub after_taken : Offsets → List ℕ → ℕ → Progress → Progress
after_taken z xs q w =
    record {
      x = w.x;
      y = record { i = w.y.i + 1; j = 0 };
      m = w.m;
      writes = w.writes;
      cursor = w.cursor;
      buf = appended z.b xs (start_of z q) w.buf (get_or xs (start_of z q) 0);
    }

-- what the join with the block after Y asks of that block, if there is one
pub record Afters (z : Offsets) (xs out ys : List ℕ) (w : Progress) (end : ℕ) : Type 0 where
  pub lefts : Lefts z xs out w
  pub end_high : end ≤ list_room
  pub clean : Clean w.buf
  pub place : w.y.i < end → get_or ys w.y.i 0 < z.p
  pub filled : w.y.i < end → 1 ≤ get_or xs (start_of z (get_or ys w.y.i 0)) 0

-- "The last block, or if nothing is left over e, joins the block after Y by the same rule."
unfoldable pub after_joined : Offsets → List ℕ → List ℕ → List ℕ → Progress → ℕ → Progress
after_joined z xs out ys w end =
    let q = get_or ys w.y.i 0 in
    let size = get_or xs (start_of z q) 0 in
    if leb end w.y.i then w
    otherwise if eqb w.buf.n 0 then (if leb (last_size z xs out w.m + size) z.b then after_taken z xs q (pulled z xs out w) otherwise w)
    otherwise if leb (w.buf.n + size) z.b then after_taken z xs q w
    otherwise w

-- n entries of a list from `from` on, at m on
unfoldable pub rested_out : List ℕ → ℕ → List ℕ → ℕ → ℕ → List ℕ
rested_out out m ys from zero = out
rested_out out m ys from (suc n) = set (rested_out out m ys from n) (m + n) (get_or ys (from + n) 0)

-- the rest of the lower list follows
abbrev pub rested : Memory → List ℕ → ℕ → Memory
rested a ys end =
    record {
      words = a.words;
      used = a.used;
      out = rested_out a.out a.st.m ys a.st.y.i (end - a.st.y.i);
      st = record { x = a.st.x; y = a.st.y; m = a.st.m + (end - a.st.y.i); writes = a.st.writes; cursor = a.st.cursor; buf = a.st.buf };
    }

-- the joins, before the last write
abbrev pub joined_up : Offsets → List ℕ → ℕ → Memory → Memory
joined_up z ys end a = record { words = a.words; used = a.used; out = a.out; st = after_joined z a.words a.out ys (left_joined z a.words a.out a.st) end }

-- Step 4, whole: the joins, "Joined blocks are written once", and the blocks after Y
unfoldable pub closed : Offsets → List ℕ → ℕ → Memory → Memory
closed z ys end a = rested (flushed z (joined_up z ys end a)) ys end

-- what step 4 asks
pub record Closable (z : Offsets) (ys : List ℕ) (end : ℕ) (a : Memory) : Type 0 where
  pub lefts : Lefts z a.words a.out a.st
  pub afters : Afters z a.words a.out ys (left_joined z a.words a.out a.st) end
  pub flushable : Flushable z a.words a.used (joined_up z ys end a).st
  pub y_high : (flushed z (joined_up z ys end a)).st.y.i ≤ end
  pub room : (flushed z (joined_up z ys end a)).st.m + (end - (flushed z (joined_up z ys end a)).st.y.i) ≤ list_room

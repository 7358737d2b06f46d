-- The merge as a machine over the words, the marks, the new list and a few numbers: what the code does, step by step.
use Rattle.std.specs.Prelude.{ℕ, zero, suc, ◌+◌, ◌/◌, ◌%◌, ◌^◌, ◌≤◌, ◌<◌, ◌≡◌, Bool, true, false, ◌&&◌, ◌||◌, List, leb, eqb, length, get_or, set, replicate, Option, None, Some, is_some}
use Rattle.std.specs.Option.{ForSome}
use Rattle.levels.specs.Basics.{if◌then◌otherwise◌}
use Rattle.blocks.specs.declared.Offsets.{Offsets}
use Rattle.blocks.specs.declared.Buffer.{Buffer}
use Rattle.blocks.specs.Blocks.{Sized, SomeFree, next_mark, pushed, empty_buffer, written}
use Rattle.blocks.specs.Room.{places_most, list_room}
use Rattle.sides.specs.declared.Head.{Head}
use Rattle.sides.specs.Sides.{Readable, Searchable, head_of, last_size, comes_before, first, follows_at}
use Rattle.stream.specs.declared.Point.{Point}
use Rattle.stream.specs.declared.Progress.{Progress}
use Rattle.stream.specs.declared.Desk.{Desk}
use Rattle.stream.specs.declared.Move.{Move}
use Rattle.stream.specs.declared.Run.{Run}
use Rattle.stream.specs.declared.Inputs.{Inputs}

-- the words, the marks of places in use, the new list, and where the merge stands
pub record Memory : Type 0 where
  pub words : List ℕ
  pub used : List Bool
  pub out : List ℕ
  pub st : Progress

-- the words, and the desk that a merge works at
abbrev pub memory : List ℕ → Desk → Memory
memory ws d = record { words = ws; used = d.used; out = d.out; st = d.st }

-- nothing is read, gathered, listed or written yet
abbrev pub begin_at : ℕ → Progress
begin_at cursor = record { x = record { i = 0; j = 0 }; y = record { i = 0; j = 0 }; m = 0; writes = 0; cursor = cursor; buf = empty_buffer }

-- no place is marked, and nothing is listed
abbrev pub fresh_desk : Desk
fresh_desk = record { used = replicate places_most false; out = replicate list_room 0; st = begin_at 0 }

-- a buffer can be written
pub record Flushable (z : Offsets) (xs : List ℕ) (used : List Bool) (w : Progress) : Type 0 where
  pub sized : Sized z xs
  pub cursor : w.cursor < z.p
  pub full : w.buf.n ≤ 16
  pub room : w.m < list_room
  pub count : w.writes ≤ places_most
  pub free : SomeFree used z.p

-- a record can be put into the buffer
pub record Gatherable (z : Offsets) (w : Progress) : Type 0 where
  pub few : w.buf.n < z.b
  pub bits : w.buf.marks < 2 ^ w.buf.n

-- another buffer, and another progress, all else as it was
abbrev pub with_buffer : Progress → Buffer → Progress
with_buffer w b = record { x = w.x; y = w.y; m = w.m; writes = w.writes; cursor = w.cursor; buf = b }

abbrev pub with_progress : Memory → Progress → Memory
with_progress a w = record { words = a.words; used = a.used; out = a.out; st = w }

-- the buffer is written at place q, which is listed
abbrev pub written_at : Offsets → Memory → ℕ → Memory
written_at z a q =
    record {
      words = written z a.words q a.st.buf;
      used = set a.used q true;
      out = set a.out a.st.m q;
      st = record { x = a.st.x; y = a.st.y; m = a.st.m + 1; writes = a.st.writes + 1; cursor = q; buf = empty_buffer };
    }

-- "A new block goes to the first free place after hand": a buffer that is not empty is written there
unfoldable pub flushed : Offsets → Memory → Memory
flushed z a = if eqb a.st.buf.n 0 then a otherwise written_at z a (next_mark z.p a.used a.st.cursor)

-- place q is listed
abbrev pub append : Memory → ℕ → Memory
append a q =
    record {
      words = a.words;
      used = a.used;
      out = set a.out a.st.m q;
      st = record { x = a.st.x; y = a.st.y; m = a.st.m + 1; writes = a.st.writes; cursor = a.st.cursor; buf = a.st.buf };
    }

-- "A buffer that is not empty is written before b", and b follows at its place q
unfoldable pub reused : Offsets → Memory → ℕ → Memory
reused z a q = append (flushed z a) q

-- "Records gather in a buffer, written when it has B." "Marks stay, except that level h drops them."
unfoldable pub gathered : Offsets → Bool → Memory → Head → Memory
gathered z bottom a h =
    if bottom && eqb h.tombstone 1 then a
    otherwise if leb z.b (a.st.buf.n + 1) then flushed z (with_progress a (with_buffer a.st (pushed a.st.buf h.key h.tombstone h.pay)))
    otherwise with_progress a (with_buffer a.st (pushed a.st.buf h.key h.tombstone h.pay))

-- past the whole block, or past one record of a block of n
unfoldable pub point_after : Point → ℕ → Bool → Point
point_after p n whole = if whole || leb n (p.j + 1) then record { i = p.i + 1; j = 0 } otherwise record { i = p.i; j = p.j + 1 }

-- X and Y further on
abbrev pub moved_to : Progress → Point → Point → Progress
moved_to w x y = record { x = x; y = y; m = w.m; writes = w.writes; cursor = w.cursor; buf = w.buf }

abbrev pub moved : Memory → Point → Point → Memory
moved a x y = with_progress a (moved_to a.st x y)

-- a record of X comes, which reads h, before the next one of Y, or a record of Y before that of X; the buffer has n records, the last
-- block e
abbrev pub upper_move : Offsets → Bool → List ℕ → Point → Point → Head → Option Head → ℕ → ℕ → Move
upper_move z bottom xs p q h y n e = let w = follows_at z bottom xs h y n e in record { x = point_after p h.n (is_some w); y = q; head = h; whole = w }

abbrev pub lower_move : Offsets → Bool → List ℕ → Point → Point → Head → Option Head → ℕ → ℕ → Move
lower_move z bottom xs p q h x n e = let w = follows_at z bottom xs h x n e in record { x = p; y = point_after q h.n (is_some w); head = h; whole = w }

abbrev pub both_move : Point → Point → Head → Head → Move
both_move p q h i = record { x = point_after p h.n false; y = point_after q i.n false; head = h; whole = None }

-- The side whose record comes first moves on; of equal keys the upper record comes, and the lower is passed over.
unfoldable pub chosen : Offsets → Bool → List ℕ → Point → Point → Option Head → Option Head → ℕ → ℕ → Option Move
chosen z bottom xs p q None None n e = None
chosen z bottom xs p q (Some h) None n e = Some (upper_move z bottom xs p q h None n e)
chosen z bottom xs p q None (Some i) n e = Some (lower_move z bottom xs p q i None n e)
chosen z bottom xs p q (Some h) (Some i) n e =
    Some (if first (Some i) (Some h) then lower_move z bottom xs p q i (Some h) n e
    otherwise if first (Some h) (Some i) then upper_move z bottom xs p q h (Some i) n e
    otherwise both_move p q h i)

-- a side that has a record stands at it
pub record Standing (xs : List ℕ) (p : Point) (a : Head) : Type 0 where
  pub low : p.i < list_room
  pub inside : p.j < a.n
  pub count : a.n ≤ 16
  pub row : Searchable xs a

-- each side that has a record stands at it
pub record Choosable (z : Offsets) (xs : List ℕ) (p q : Point) (x y : Option Head) (n e : ℕ) : Type 0 where
  pub cap : z.b ≤ 16
  pub few : n ≤ 16
  pub last : e < 2 ^ 32
  pub upper : ForSome x (Standing xs p)
  pub lower : ForSome y (Standing xs q)

-- the sides move on, and the block follows as it stands, or its next record is gathered
unfoldable pub emitted : Offsets → Bool → Memory → Move → Memory
emitted z bottom a c = let b = moved a c.x c.y in elim c.whole [ Some q ↦ reused z b q | None ↦ gathered z bottom b c.head ]

-- where both sides are used up nothing is left to do
abbrev pub moved_on : Offsets → Bool → Memory → Option Move → Memory
moved_on z bottom a None = a
moved_on z bottom a (Some c) = emitted z bottom a c

-- the merge can write and gather
pub record Movable (z : Offsets) (xs : List ℕ) (used : List Bool) (w : Progress) : Type 0 where
  pub flushable : Flushable z xs used w
  pub gatherable : Gatherable z w
  pub room : w.m + 2 ≤ list_room

-- a step can be made
pub record Ready (z : Offsets) (t : Inputs) (xs ys : List ℕ) (a : Memory) : Type 0 where
  pub upper : Readable z t.pages a.words xs a.st.x.i a.st.x.j t.x
  pub lower : Readable z false a.words ys a.st.y.i a.st.y.j t.y
  pub movable : Movable z a.words a.used a.st
  pub listed : (i : ℕ) → i < a.st.m → get_or a.out i 0 < z.p

module _ (z : Offsets) (t : Inputs) (xs ys : List ℕ) where
  abbrev pub step_with : Memory → Option Head → Option Head → ℕ → Memory
  step_with a x y e = moved_on z t.bottom a (chosen z t.bottom a.words a.st.x a.st.y x y a.st.buf.n e)

  -- one step: a block is reused or a record is gathered
  unfoldable pub turn : Memory → Memory
  turn a =
      step_with a
      (head_of z t.pages a.words xs a.st.x.i a.st.x.j t.x)
      (head_of z false a.words ys a.st.y.i a.st.y.j t.y)
      (last_size z a.words a.out a.st.m)

  -- both sides are used up
  abbrev pub idle : Memory → Bool
  idle a = leb t.x a.st.x.i && leb t.y a.st.y.i

  unfoldable pub turns : ℕ → Memory → Memory
  turns zero a = a
  turns (suc n) a = let b = turns n a in if idle b then b otherwise turn b

-- Several turns in one go: records of one block that come one after the other.

-- a record goes to the buffer; level h drops tombstones
unfoldable pub taken : Bool → Buffer → ℕ → ℕ → ℕ → Buffer
taken bottom b key tombstone pay = if bottom && eqb tombstone 1 then b otherwise pushed b key tombstone pay

-- n records of a's block, from record j on
unfoldable pub taken_run : List ℕ → Bool → Head → ℕ → Buffer → ℕ → Buffer
taken_run xs bottom a j b zero = b
taken_run xs bottom a j b (suc n) =
    taken bottom (taken_run xs bottom a j b n) (get_or xs (a.keys + (j + n)) 0) (a.marks / 2 ^ (j + n) % 2) (get_or xs (a.pays + (j + n)) 0)

-- a full buffer is written
unfoldable pub filled : Offsets → Memory → Memory
filled z a = if leb z.b a.st.buf.n then flushed z a otherwise a

-- the records of a run, and the writing of a buffer that they fill
abbrev pub gathered_run : Offsets → Bool → Memory → Run → Memory
gathered_run z bottom a r =
    filled z (with_progress a (with_buffer a.st (taken_run a.words bottom r.next.head r.from a.st.buf (suc r.more))))

-- `emitted`, with the records that go along
unfoldable pub emitted_run : Offsets → Bool → Memory → Run → Memory
emitted_run z bottom a r =
    let b = moved a r.next.x r.next.y in elim r.next.whole [ Some q ↦ reused z b q | None ↦ gathered_run z bottom b r ]

-- `more` records of a's block after record j come before the other's next one, and there is room for them
pub record Ahead (xs : List ℕ) (a : Head) (other : Option Head) (j room more : ℕ) : Type 0 where
  pub inside : j + more < a.n
  pub fits : more ≤ room
  pub below : (k : ℕ) → 1 ≤ k → k ≤ more → comes_before (get_or xs (a.keys + (j + k)) 0) other ≡ true

-- a side that goes on by so many records within its block
abbrev pub further : Point → ℕ → Point
further p more = record { i = p.i; j = p.j + more }

-- a move of one record of Y, or of X, with `more` records of the same block
abbrev pub along_y : Point → Move → ℕ → Run
along_y q c more = record { next = record { x = c.x; y = point_after (further q more) c.head.n false; head = c.head; whole = c.whole }; from = q.j; more = more }

abbrev pub along_x : Point → Move → ℕ → Run
along_x p c more = record { next = record { x = point_after (further p more) c.head.n false; y = c.y; head = c.head; whole = c.whole }; from = p.j; more = more }

-- the move of the side that comes first, with those records; a block that follows, and a record that both sides have, go alone
unfoldable pub grown : Point → Point → Option Head → Option Head → Move → ℕ → Run
grown p q x y c more =
    if is_some c.whole then record { next = c; from = 0; more = 0 }
    otherwise if first y x then along_y q c more
    otherwise if first x y then along_x p c more
    otherwise record { next = c; from = p.j; more = 0 }

-- the records that go with a move come next
pub record Grows (xs : List ℕ) (p q : Point) (x y : Option Head) (c : Move) (room : ℕ) (r : Run) : Type 0 where
  pub same : r ≡ grown p q x y c r.more
  pub lower : is_some c.whole ≡ false → first y x ≡ true → Ahead xs c.head x q.j room r.more
  pub upper : is_some c.whole ≡ false → first y x ≡ false → first x y ≡ true → Ahead xs c.head y p.j room r.more

-- the records of a run lie in the store, and the buffer has room for them
pub record Runnable (z : Offsets) (xs : List ℕ) (w : Progress) (r : Run) : Type 0 where
  pub room : w.buf.n + r.more < z.b
  pub bits : w.buf.marks < 2 ^ w.buf.n
  pub low : r.from + r.more < 16
  pub keys : r.next.head.keys + (r.from + r.more) < length xs
  pub pays : r.next.head.pays + (r.from + r.more) < length xs

-- turns lead from a to b, k of them at least
pub record Turned (z : Offsets) (t : Inputs) (xs ys : List ℕ) (k : ℕ) (a b : Memory) : Type 0 where
  pub count : ℕ
  pub enough : k ≤ count
  pub same : b ≡ turns z t xs ys count a

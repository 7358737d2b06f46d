-- How the machine's memory stands for a state of the merge on blocks.
use Prim.Native.Nat.{ℕ, ◌+◌, ◌-◌, ◌^◌, ◌≤◌, ◌<◌}
use mathlib.Core.Path.{◌≡◌}
use mathlib.Core.Bool.{Bool, true, false}
use mathlib.Core.List.{List, [], ◌∷◌, reverse}
use lib.ListN.{get_or, length, take}
use Rattle.levels.specs.Basics.{iterate}
use Rattle.levels.specs.Record.{Level, size}
use Rattle.levels.specs.Rising.{Rising}
use Rattle.levels.specs.Merge.{Out, State, step, join_left, join}
use Rattle.blocks.specs.declared.Offsets.{Offsets}
use Rattle.blocks.specs.Blocks.{Sized, SomeFree, next_mark, buffer_of}
use Rattle.sides.specs.declared.Chunk.{Chunk}
use Rattle.stream.specs.declared.Point.{Point}
use Rattle.stream.specs.declared.Inputs.{Inputs}
use Rattle.sides.specs.Sides.{chunk_of, last_size}
use Rattle.stream.specs.Machine.{Memory, turns}
use Rattle.merging.proofs.Blocks.{recs_from, stored_at, blocks, side, Flash, lay_done}

-- a chunk of 1 to B records whose keys rise, with no bits but theirs in its mark word
pub record Formed (z : Offsets) (ws : List ℕ) (c : Chunk) : Type 0 where
  pub low : 1 ≤ c.n
  pub high : c.n ≤ z.b
  pub bits : get_or ws c.marks 0 < 2 ^ c.n
  pub rises : Rising 0 (recs_from ws c 0 c.n)

-- the sizes that the pair rule speaks of
abbrev pub head_size : ℕ → Level → ℕ
head_size B [] = B
head_size B (e ∷ es) = size e

abbrev pub next_free : Offsets → Memory → ℕ
next_free z a = next_mark z.p a.used a.st.cursor

-- the flash that the machine's words, marks, cursor, count of writes and list are
abbrev pub flash_of : Memory → Flash
flash_of a = record { words = a.words; used = a.used; cursor = a.st.cursor; writes = a.st.writes; list = take a.st.m a.out }

-- what has been made, in blocks and in words
pub record Holds (z : Offsets) (d : Flash) (o : Out) (a : Memory) : Type 0 where
  pub buf : a.st.buf ≡ buffer_of o.buffer
  pub flash : lay_done z d o.done ≡ flash_of a
  pub last : last_size z a.words a.out a.st.m ≡ head_size z.b o.done

-- chunk k of a side stands: a page of level 0, or a block at a place in use
pub record Stands (z : Offsets) (pages : Bool) (ws : List ℕ) (used : List Bool) (list : List ℕ) (k : ℕ) : Type 0 where
  pub place : pages ≡ false → get_or list k 0 < z.p
  pub taken : pages ≡ false → get_or used (get_or list k 0) false ≡ true
  pub page : pages ≡ true → k < z.top
  pub formed : Formed z ws (chunk_of z pages ws list k)

abbrev pub Listed : Offsets → Bool → Memory → List ℕ → ℕ → ℕ → Type 0
Listed z pages a list low end = (k : ℕ) → low ≤ k → k < end → Stands z pages a.words a.used list k

-- a side stands at point p: its chunks from there on stand, and p is a record of one of them, or its end
pub record SideAt (z : Offsets) (pages : Bool) (ws : List ℕ) (used : List Bool) (list : List ℕ) (end : ℕ) (p : Point) : Type 0 where
  pub stands : (k : ℕ) → p.i ≤ k → k < end → Stands z pages ws used list k
  pub low : p.i ≤ end
  pub inside : p.i < end → p.j < (chunk_of z pages ws list p.i).n

-- a last block of fewer than B records is the one that the list's last place holds
abbrev pub LastIs : Offsets → List ℕ → List ℕ → ℕ → Level → Type 0
LastIs z ws out m [] = Unit {0}
LastIs z ws out m (e ∷ es) = size e < z.b → e ≡ stored_at z ws (get_or out (m - 1) 0)

-- what a machine's memory keeps to
pub record Core (z : Offsets) (t : Inputs) (xs ys : List ℕ) (o : Out) (a : Memory) : Type 0 where
  pub sized : Sized z a.words
  pub full : length a.out ≡ 4096
  pub cursor : a.st.cursor < z.p
  pub few : length o.buffer < z.b
  pub upper : SideAt z t.pages a.words a.used xs t.x a.st.x
  pub lower : SideAt z false a.words a.used ys t.y a.st.y
  pub listed : (i : ℕ) → i < a.st.m → get_or a.out i 0 < z.p
  pub tail : LastIs z a.words a.out a.st.m o.done

-- there is room for what a step may write
pub record Budget (z : Offsets) (a : Memory) : Type 0 where
  pub room : a.st.m + 2 ≤ length a.out
  pub count : a.st.writes ≤ 8192
  pub free : SomeFree a.used z.p

-- a machine's memory and a state of the merge on blocks
pub record Sim (z : Offsets) (t : Inputs) (xs ys : List ℕ) (d : Flash) (s : State) (a : Memory) : Type 0 where
  pub upper : s.upper ≡ side z t.pages a.words xs a.st.x.i a.st.x.j t.x
  pub lower : s.lower ≡ side z false a.words ys a.st.y.i a.st.y.j t.y
  pub out : Holds z d s.out a

-- the flash that a merge starts from: nothing is listed yet
abbrev pub start : Memory → Flash
start a = record { words = a.words; used = a.used; cursor = a.st.cursor; writes = a.st.writes; list = [] }

-- the state that a merge starts from: the blocks before Y are the m before it in the lower list
abbrev pub first : Offsets → Inputs → List ℕ → List ℕ → Memory → State
first z t xs ys a =
    record {
      upper = side z t.pages a.words xs a.st.x.i a.st.x.j t.x;
      lower = side z false a.words ys a.st.y.i a.st.y.j t.y;
      out = record { buffer = []; done = reverse (blocks z false a.words ys (a.st.y.i - a.st.m) a.st.m) };
    }

-- what a merge asks of the store
pub record Begun (z : Offsets) (t : Inputs) (xs ys : List ℕ) (n : ℕ) (a : Memory) : Type 0 where
  pub core : Core z t xs ys (first z t xs ys a).out a
  pub holds : Holds z (start a) (first z t xs ys a).out a
  pub x_high : t.x ≤ 4096
  pub y_high : t.y ≤ 4096
  pub budget : (i : ℕ) → i ≤ n → Budget z (turns z t xs ys i a)

-- the level that the merge on blocks makes of the store at its start: steps 3 and 4, n steps
abbrev pub merged : Offsets → Inputs → List ℕ → List ℕ → ℕ → ℕ → Memory → Level
merged z t xs ys n end a =
    let o = (iterate n (step z.b t.bottom) (first z t xs ys a)).out in
    join z.b (join_left z.b o.buffer o.done) (blocks z false a.words ys t.y (end - t.y))

-- What writing a block at a free place leaves as it was.
use Prim.Native.Nat.{ℕ, zero, suc, ◌+◌, ◌-◌, ◌*◌, ◌≤◌, ◌<◌}
use mathlib.Core.Path.{◌≡◌, sym, ap, ◌∙◌, refl}
use mathlib.Core.Bool.{Bool, true, false, ◌&&◌, true≢false}
use mathlib.Core.List.{List}
use mathlib.Core.Logic.{◌≢◌, dite}
use native.Mathlib.Decide.{dec_lt}
use native.Mathlib.Nat.{add-zero, le_refl}
use native.Mathlib.Omega.{arith}
use lib.Arith.{digits_lt}
use lib.Dec.{leb, eqb}
use lib.ListN.{length, get_or, set, length-set}
use lib.Seq.{get_or-set_same, get_or-set_other}
use Rattle.blocks.specs.declared.Offsets.{Offsets}
use Rattle.blocks.specs.declared.Buffer.{Buffer}
use Rattle.blocks.specs.Blocks.{Sized, start_of, pushed}
use Rattle.blocks.proofs.Laws.{free_low}
use Rattle.sides.specs.declared.Head.{Head}
use Rattle.sides.specs.Sides.{chunk_of, page_chunk, block_chunk}
use Rattle.stream.specs.declared.Point.{Point}
use Rattle.stream.specs.declared.Progress.{Progress}
use Rattle.stream.specs.Machine.{Memory, flushed, written_at, append, gathered, with_progress, with_buffer}
use Rattle.levels.proofs.Basics.{if_either}
use Rattle.merging.proofs.Relation.{next_free, Stands, Listed, SideAt}
use Rattle.sides.specs.declared.Chunk.{Chunk}
use Rattle.merging.proofs.Blocks.{recs_from, block_of, stored_at, count_at, blocks, begin_with, side}
use Rattle.merging.proofs.Words.{written_other, written_low, written_length, recs_agree}

-- the words of places in use and those before the places are as they were
pub record Same (z : Offsets) (a b : Memory) : Type 0 where
  pub words : (q : ℕ) → get_or a.used q false ≡ true → (j : ℕ) → j < 2 + 2 * z.b → get_or b.words (start_of z q + j) 0 ≡ get_or a.words (start_of z q + j) 0
  pub low : (k : ℕ) → k < z.base → get_or b.words k 0 ≡ get_or a.words k 0
  pub used : (q : ℕ) → get_or a.used q false ≡ true → get_or b.used q false ≡ true

-- where the merge stands has no part in this
pub same_from : (z : Offsets) (a b : Memory) (w : Progress) → Same z (with_progress a w) b → Same z a b
same_from z a b w k = record { words = k.words; low = k.low; used = k.used }

-- besides, the two sides stand where they stood, and the list grows by places
pub record Kept (z : Offsets) (a b : Memory) : Type 0 where
  pub same : Same z a b
  pub x : b.st.x ≡ a.st.x
  pub y : b.st.y ≡ a.st.y
  pub length_words : length b.words ≡ length a.words
  pub length_out : length b.out ≡ length a.out
  pub cursor : a.st.cursor < z.p → b.st.cursor < z.p
  pub places : a.st.m < length a.out → ((i : ℕ) → i < a.st.m → get_or a.out i 0 < z.p) → (a.st.cursor < z.p) → (i : ℕ) → i < b.st.m → get_or b.out i 0 < z.p

pub full_kept : (z : Offsets) (a : Memory) (b : Buffer) → Kept z a (with_progress a (with_buffer a.st b))
full_kept z a b =
    record {
      same = record { words = λ q u j l. refl; low = λ k l. refl; used = λ q u. u };
      x = refl;
      y = refl;
      length_words = refl;
      length_out = refl;
      cursor = λ h. h;
      places = λ l f h. f;
    }

-- a memory keeps itself
all_kept : (z : Offsets) (a : Memory) → Kept z a a
all_kept z a = full_kept z a a.st.buf

put_places : (out : List ℕ) (m q p : ℕ) → m < length out → ((i : ℕ) → i < m → get_or out i 0 < p) → q < p → (i : ℕ) → i < m + 1 → get_or (set out m q) i 0 < p
put_places out m q p l f h i k =
    dite (dec_lt i m) (λ y. rw (get_or-set_other out m i q 0 (λ e. omega arith)) (f i y)) (λ n. let e : i ≡ m = omega arith in rw (e, get_or-set_same out m q 0 l) h)

pub written_kept : (z : Offsets) (a : Memory) → get_or a.used (next_free z a) false ≡ false → Kept z a (written_at z a (next_free z a))
written_kept z a f =
    record {
      same = record {
        words = λ q u j l. written_other z a.words (next_free z a) a.st.buf q j (other q u) l;
        low = λ k l. written_low z a.words (next_free z a) a.st.buf k l;
        used = λ q u. get_or-set_other a.used (next_free z a) q true false (other q u) ∙ u;
      };
      x = refl;
      y = refl;
      length_words = written_length z a.words (next_free z a) a.st.buf;
      length_out = length-set a.out a.st.m (next_free z a);
      cursor = λ h. free_low z.p z.p a.used a.st.cursor h;
      places = λ l g h. put_places a.out a.st.m (next_free z a) z.p l g (free_low z.p z.p a.used a.st.cursor h);
    }
  where
    other : (q : ℕ) → get_or a.used q false ≡ true → q ≢ next_free z a
    other q u e = true≢false (sym u ∙ ap (λ (k : ℕ). get_or a.used k false) e ∙ f)

pub flush_kept : (z : Offsets) (a : Memory) → get_or a.used (next_free z a) false ≡ false → Kept z a (flushed z a)
unfolding flushed
flush_kept z a f = if_either (Kept z a) (eqb a.st.buf.n 0) a (written_at z a (next_free z a)) (all_kept z a) (written_kept z a f)

pub gather_kept : (z : Offsets) (bottom : Bool) (a : Memory) (h : Head) → get_or a.used (next_free z a) false ≡ false → Kept z a (gathered z bottom a h)
unfolding gathered flushed
gather_kept z bottom a h f =
    if_either (Kept z a) (bottom && eqb h.tombstone 1) a _ (all_kept z a)
    (if_either (Kept z a) (leb z.b (a.st.buf.n + 1)) (flushed z full) full (through (flush_kept z full f)) (full_kept z a more))
  where
    more : Buffer
    more = pushed a.st.buf h.key h.tombstone h.pay

    full : Memory
    full = with_progress a (with_buffer a.st more)

    through : Kept z full (flushed z full) → Kept z a (flushed z full)
    through k = record { same = same_from z a (flushed z full) (with_buffer a.st more) k.same; x = k.x; y = k.y; length_words = k.length_words; length_out = k.length_out; cursor = k.cursor; places = k.places }

pub append_kept : (z : Offsets) (a c : Memory) (q : ℕ) → c.st.m < length c.out → q < z.p → Kept z a c → Kept z a (append c q)
append_kept z a c q l h k =
    record {
      same = record { words = k.same.words; low = k.same.low; used = k.same.used };
      x = k.x;
      y = k.y;
      length_words = k.length_words;
      length_out = length-set c.out c.st.m q ∙ k.length_out;
      cursor = k.cursor;
      places = λ n f g. put_places c.out c.st.m q z.p l (k.places n f g) h;
    }

-- so the chunks that stand there hold the same records
module _ (z : Offsets) (a b : Memory) (sized : Sized z a.words) (k : Same z a b) where
  pub count_kept : (q : ℕ) → get_or a.used q false ≡ true → count_at z b.words q ≡ count_at z a.words q
  count_kept q u = rw add-zero at (k.words q u 0 (omega arith))

  -- the words of a chunk, under its name at either time
  pub record Agree (c e : Chunk) : Type 0 where
    pub is : e ≡ c
    pub marks : get_or b.words c.marks 0 ≡ get_or a.words c.marks 0
    pub recs : (i : ℕ) → i < z.b → (get_or b.words (c.keys + i) 0 ≡ get_or a.words (c.keys + i) 0) × (get_or b.words (c.pays + i) 0 ≡ get_or a.words (c.pays + i) 0)

  pub stored_agree : (q : ℕ) → get_or a.used q false ≡ true → Agree (block_chunk z a.words q) (block_chunk z b.words q)
  stored_agree q u =
      record {
        is = rw (count_kept q u);
        marks = k.words q u 1 (omega arith);
        recs = λ i h.
            let e : start_of z q + 2 + i ≡ start_of z q + (2 + i) = omega arith in
            let f : start_of z q + 2 + z.b + i ≡ start_of z q + (2 + z.b + i) = omega arith in
            (rw e (k.words q u (2 + i) (omega arith)), rw f (k.words q u (2 + z.b + i) (omega arith)));
      }

  page_agree : (i : ℕ) → i < z.top → Agree (page_chunk z i) (page_chunk z i)
  page_agree i l =
      let s = sized in
      record {
        is = refl;
        marks = k.low (z.marks + i) (omega arith);
        recs = λ j h. let d = digits_lt {q = i} {m = z.top} {r = j} {c = z.b} l h in (k.low (z.keys + i * z.b + j) (omega arith), k.low (z.pays + i * z.b + j) (omega arith));
      }

  chunk_agree : (pages : Bool) (list : List ℕ) (i : ℕ) → Stands z pages a.words a.used list i → Agree (chunk_of z pages a.words list i) (chunk_of z pages b.words list i)
  unfolding chunk_of
  chunk_agree true list i s = page_agree i (s.page refl)
  chunk_agree false list i s = stored_agree (get_or list i 0) (s.taken refl)

  agree_recs : (c e : Chunk) → c.n ≤ z.b → Agree c e → recs_from b.words c 0 c.n ≡ recs_from a.words c 0 c.n
  agree_recs c e h g = recs_agree b.words a.words c 0 c.n g.marks (λ i l. g.recs i (omega arith))

  agree_block : (c e : Chunk) → c.n ≤ z.b → Agree c e → block_of b.words e ≡ block_of a.words c
  agree_block c e h g = rw (g.is, agree_recs c e h g)

  pub block_same : (q : ℕ) → get_or a.used q false ≡ true → count_at z a.words q ≤ z.b → stored_at z b.words q ≡ stored_at z a.words q
  block_same q u h = agree_block (block_chunk z a.words q) (block_chunk z b.words q) h (stored_agree q u)

  pub chunk_kept : (pages : Bool) (list : List ℕ) (i : ℕ) → Stands z pages a.words a.used list i → chunk_of z pages b.words list i ≡ chunk_of z pages a.words list i
  chunk_kept pages list i s = (chunk_agree pages list i s).is

  pub stands_kept : (pages : Bool) (list : List ℕ) (i : ℕ) → Stands z pages a.words a.used list i → Stands z pages b.words b.used list i
  stands_kept pages list i s =
      let g = chunk_agree pages list i s in
      record {
        place = s.place;
        taken = λ e. k.used (get_or list i 0) (s.taken e);
        page = s.page;
        formed = rw g.is (record { low = s.formed.low; high = s.formed.high; bits = rw g.marks s.formed.bits; rises = rw (agree_recs _ _ s.formed.high g) s.formed.rises });
      }

  pub listed_kept : (pages : Bool) (list : List ℕ) (low end : ℕ) → Listed z pages a list low end → Listed z pages b list low end
  listed_kept pages list low end f i l h = stands_kept pages list i (f i l h)

  -- a side stands where it stood
  pub side_kept : (pages : Bool) (list : List ℕ) (end : ℕ) (p : Point) → SideAt z pages a.words a.used list end p → SideAt z pages b.words b.used list end p
  side_kept pages list end p s =
      record { stands = listed_kept pages list p.i end s.stands; low = s.low; inside = λ g. rw (chunk_kept pages list p.i (s.stands p.i (le_refl p.i) g)) (s.inside g) }

  pub blocks_same : (pages : Bool) (list : List ℕ) (i n end : ℕ) → Listed z pages a list i end → i + n ≤ end → blocks z pages b.words list i n ≡ blocks z pages a.words list i n
  unfolding blocks
  blocks_same pages list i zero end f h = refl
  blocks_same pages list i (suc n) end f h =
      let s = f i (omega arith) (omega arith) in
      rw (agree_block (chunk_of z pages a.words list i) (chunk_of z pages b.words list i) s.formed.high (chunk_agree pages list i s), blocks_same pages list (suc i) n end (λ k l. f k (omega arith)) (omega arith))

  pub side_same : (pages : Bool) (list : List ℕ) (i j end : ℕ) → Listed z pages a list i end → side z pages b.words list i j end ≡ side z pages a.words list i j end
  unfolding side blocks
  side_same pages list i j end f = dite (dec_lt i end)
      (λ y. ap (begin_with j) (blocks_same pages list i (end - i) end f (omega arith)))
      (λ n. let e : end - i ≡ 0 = omega arith in rw e)

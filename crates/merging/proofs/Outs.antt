-- What has been made: the buffer, the blocks laid, and the words that they come to.
use Prim.Native.Nat.{ℕ, suc, ◌+◌, ◌-◌, ◌*◌, ◌^◌, ◌<◌}
use mathlib.Core.Path.{◌≡◌, sym, ap, ◌∙◌, refl}
use mathlib.Core.Bool.{Bool, true, false, ◌&&◌}
use mathlib.Core.List.{List, [], ◌∷◌, ◌++◌, map, append_assoc}
use mathlib.Core.Option.{some}
use native.Mathlib.Numerals.{add-one}
use mathlib.Core.Logic.{dite}
use native.Mathlib.Decide.{dec_lt}
use native.Mathlib.Nat.{pow-suc, mul_assoc, pow-zero}
use native.Mathlib.Omega.{arith}
use lib.Dec.{leb, eqb}
use lib.ListN.{length, set, take, replicate, length-append, length-map}
use lib.Seq.{set-append_seam, take-suc-set, get_or-set_same}
use borrow.Author.Tests.{eq-eqb, ne_eqb}
use Rattle.levels.specs.Basics.{if◌then◌otherwise◌}
use Rattle.levels.specs.Record.{Rec, Block, Level, new, size}
use Rattle.levels.specs.Merge.{Out, flush, gather}
use Rattle.blocks.specs.declared.Offsets.{Offsets}
use Rattle.blocks.specs.declared.Buffer.{Buffer}
use Rattle.blocks.specs.Blocks.{Sized, pushed, buffer_of, written}
use Rattle.blocks.proofs.Laws.{free_low}
use Rattle.sides.specs.declared.Head.{Head}
use Rattle.sides.specs.Sides.{last_size}
use Rattle.stream.specs.Machine.{Memory, flushed, written_at, append, gathered, with_progress, with_buffer}
use Rattle.merging.proofs.Relation.{next_free, flash_of, Holds}
use Rattle.words.specs.Stores.{bit, mark_word, pad, keys_of, pays_of}
use Rattle.merging.proofs.Blocks.{Flash, lay, lay_done, count_at}
use Rattle.merging.proofs.Words.{written_count}

pad_push : (n : ℕ) (xs : List ℕ) (v : ℕ) → length xs < n → set (pad n xs) (length xs) v ≡ pad n (xs ++ (v ∷ []))
pad_push n xs v h =
    let e : n - length xs ≡ suc (n - (length xs + 1)) = omega arith in
    rw (e, length-append) (set-append_seam xs 0 (replicate (n - (length xs + 1)) 0) v ∙ sym (append_assoc xs (v ∷ []) (replicate (n - (length xs + 1)) 0)))

pub map_push : {A B : Type 0} (f : A → B) (xs : List A) (x : A) → map f (xs ++ (x ∷ [])) ≡ map f xs ++ (f x ∷ [])
map_push f [] x = refl
map_push f (y ∷ ys) x = rw (map_push f ys x)

marks_push : (rs : List Rec) (r : Rec) → mark_word (rs ++ (r ∷ [])) ≡ mark_word rs + bit r.tombstone * 2 ^ length rs
unfolding mark_word
marks_push [] r = rw (pow-zero 2) (omega arith)
marks_push (s ∷ rs) r = rw (marks_push rs r, pow-suc 2 (length rs)) (let e : bit r.tombstone * (2 ^ length rs * 2) ≡ bit r.tombstone * 2 ^ length rs * 2 = sym (mul_assoc _ _ _) in omega arith)

-- one record more
pub buffer_push : (rs : List Rec) (r : Rec) (m : ℕ) → length rs < 16 → bit r.tombstone ≡ m → pushed (buffer_of rs) r.key m r.pay ≡ buffer_of (rs ++ (r ∷ []))
unfolding buffer_of
buffer_push rs r m h e =
    let k = pad_push 16 (keys_of rs) r.key (rw length-map h) in
    let v = pad_push 16 (pays_of rs) r.pay (rw length-map h) in
    let a : length (keys_of rs) ≡ length rs = length-map rs _ in
    let b : length (pays_of rs) ≡ length rs = length-map rs _ in
    rw (map_push (λ (r : Rec). r.key) rs r, map_push (λ (r : Rec). r.pay) rs r, marks_push rs r, e, length-append rs (r ∷ []), ← k, ← v, a, b)

-- a block can be written and listed
pub record Fit (z : Offsets) (a : Memory) : Type 0 where
  pub sized : Sized z a.words
  pub cursor : a.st.cursor < z.p
  pub list : a.st.m < length a.out

last_is : (z : Offsets) (ws out : List ℕ) (m q : ℕ) → m < length out → last_size z ws (set out m q) (m + 1) ≡ count_at z ws q
unfolding last_size
last_is z ws out m q h =
    let e : m + 1 - 1 ≡ m = omega arith in
    rw (ne_eqb (m + 1) 0 (λ f. omega arith), e, get_or-set_same out m q 0 h)

list_is : (out : List ℕ) (m q : ℕ) → m < length out → take (m + 1) (set out m q) ≡ take m out ++ (q ∷ [])
list_is out m q h = rw (add-one m) (take-suc-set out m q h)

pub flush_none : (z : Offsets) (a : Memory) → a.st.buf ≡ buffer_of [] → flushed z a ≡ a
unfolding flushed buffer_of
flush_none z a e = rw e

pub flush_some : (z : Offsets) (a : Memory) (r : Rec) (rs : List Rec) → a.st.buf ≡ buffer_of (r ∷ rs) → flushed z a ≡ written_at z a (next_free z a)
unfolding flushed buffer_of
flush_some z a r rs e = rw (ne_eqb a.st.buf.n 0 (λ g. omega (arith, ap (λ (b : Buffer). b.n) e)))

pub written_holds : (z : Offsets) (d : Flash) (r : Rec) (rs : List Rec) (done : Level) (a : Memory) → Fit z a → a.st.buf ≡ buffer_of (r ∷ rs) → lay_done z d done ≡ flash_of a
    → Holds z d (record { buffer = []; done = new (r ∷ rs) ∷ done }) (written_at z a (next_free z a))
unfolding lay_done lay buffer_of mark_word
written_holds z d r rs done a f e h =
    record {
      buf = refl;
      flash = rw (h, ← e, list_is a.out a.st.m (next_free z a) f.list);
      last = last_is z (written z a.words (next_free z a) a.st.buf) a.out a.st.m (next_free z a) f.list
          ∙ written_count z a.words (next_free z a) a.st.buf f.sized (free_low z.p z.p a.used a.st.cursor f.cursor) ∙ ap (λ (b : Buffer). b.n) e;
    }

pub flush_holds : (z : Offsets) (d : Flash) (o : Out) (a : Memory) → Fit z a → Holds z d o a → Holds z d (record { buffer = []; done = flush o.buffer o.done }) (flushed z a)
flush_holds z d o a f h = go o.buffer h.buf
  where
    go : (buf : List Rec) → a.st.buf ≡ buffer_of buf → Holds z d (record { buffer = []; done = flush buf o.done }) (flushed z a)
    go [] e = rw (flush_none z a e) (record { buf = e; flash = h.flash; last = h.last })
    go (r ∷ rs) e = rw (flush_some z a r rs e) (written_holds z d r rs o.done a f e h.flash)

-- a block that has a place follows
pub append_holds : (z : Offsets) (d : Flash) (b : Block) (q : ℕ) (done : Level) (a : Memory) → a.st.m < length a.out → b.place ≡ some q → count_at z a.words q ≡ size b
    → Holds z d (record { buffer = []; done = done }) a → Holds z d (record { buffer = []; done = b ∷ done }) (append a q)
unfolding lay_done lay
append_holds z d b q done a l p n h =
    record {
      buf = h.buf;
      flash = rw (p, h.flash, list_is a.out a.st.m q l);
      last = last_is z a.words a.out a.st.m q l ∙ n;
    }

pub bit_eqb : (m : ℕ) → m < 2 → bit (eqb m 1) ≡ m
bit_eqb m h = dite (dec_lt m 1) (λ y. rw (ne_eqb m 1 (λ f. omega arith)) (omega arith)) (λ y. rw (eq-eqb m 1 (omega arith)) (omega arith))

flush_push : (rs : List Rec) (r : Rec) (done : Level) → flush (rs ++ (r ∷ [])) done ≡ new (rs ++ (r ∷ [])) ∷ done
flush_push [] r done = refl
flush_push (s ∷ rs) r done = refl

-- the buffer is full with one record more, in both readings
pub full_test : (B : ℕ) (buf : Buffer) (rs : List Rec) → buf ≡ buffer_of rs → leb B (buf.n + 1) ≡ leb B (suc (length rs))
unfolding buffer_of
full_test B buf rs e = rw (e, add-one (length rs))

pub gather_holds : (z : Offsets) (bottom : Bool) (d : Flash) (o : Out) (a : Memory) (h : Head) → Fit z a → length o.buffer < 16 → h.tombstone < 2 → Holds z d o a
    → Holds z d (gather z.b bottom (record { key = h.key; tombstone = eqb h.tombstone 1; pay = h.pay }) o) (gathered z bottom a h)
unfolding gathered buffer_of
gather_holds z bottom d o a h f l k s = go (bottom && eqb h.tombstone 1) (leb z.b (suc (length o.buffer))) refl
  where
    r : Rec
    r = record { key = h.key; tombstone = eqb h.tombstone 1; pay = h.pay }

    full : Memory
    full = with_progress a (with_buffer a.st (pushed a.st.buf h.key h.tombstone h.pay))

    pushes : pushed a.st.buf h.key h.tombstone h.pay ≡ buffer_of (o.buffer ++ (r ∷ []))
    pushes = rw s.buf (buffer_push o.buffer r h.tombstone l (bit_eqb h.tombstone k))

    held : Holds z d (record { buffer = o.buffer ++ (r ∷ []); done = o.done }) full
    held = record { buf = pushes; flash = s.flash; last = s.last }

    test : leb z.b (a.st.buf.n + 1) ≡ leb z.b (suc (length o.buffer))
    test = full_test z.b a.st.buf o.buffer s.buf

    go : (t u : Bool) → leb z.b (suc (length o.buffer)) ≡ u → Holds z d (if t then o otherwise if u then record { buffer = []; done = new (o.buffer ++ (r ∷ [])) ∷ o.done } otherwise record { buffer = o.buffer ++ (r ∷ []); done = o.done })
        (if t then a otherwise if leb z.b (a.st.buf.n + 1) then flushed z full otherwise full)
    go true u e = s
    go false true e = rw (test, e) (rw flush_push at (flush_holds z d (record { buffer = o.buffer ++ (r ∷ []); done = o.done }) full (record { sized = f.sized; cursor = f.cursor; list = f.list }) held))
    go false false e = rw (test, e) held

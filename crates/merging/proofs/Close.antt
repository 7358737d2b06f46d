-- Step 4 on words is step 4 on blocks.
use Prim.Native.Nat.{ℕ, zero, suc, ◌+◌, ◌-◌, ◌≤◌, ◌<◌}
use mathlib.Core.Path.{◌≡◌, sym, ap, ◌∙◌, refl}
use mathlib.Core.Bool.{Bool, true, false}
use mathlib.Core.List.{List, [], ◌∷◌, ◌++◌, append_assoc, append-nil, reverse_aux}
use mathlib.Core.Option.{Option, none, some}
use native.Mathlib.Numerals.{add-one}
use native.Mathlib.Nat.{le_refl}
use native.Mathlib.Decide.{dec_lt}
use native.Mathlib.Omega.{arith}
use lib.Dec.{leb, eqb}
use lib.ListN.{length, get_or, take, length-append, length-set, length-take}
use lib.Seq.{take-suc, take-length, take-suc-set}
use borrow.Author.Tests.{le-leb, lt-leb, leb-true, eq-eqb, ne_eqb}
use Rattle.levels.specs.Basics.{if◌then◌otherwise◌}
use Rattle.levels.specs.Record.{Rec, Block, Level, new, size}
use Rattle.levels.specs.Merge.{Out, flush, join_left, join}
use Rattle.blocks.specs.declared.Offsets.{Offsets}
use Rattle.blocks.specs.declared.Buffer.{Buffer}
use Rattle.blocks.specs.Blocks.{Sized, start_of, empty_buffer, buffer_of}
use Rattle.stream.specs.declared.Point.{Point}
use Rattle.stream.specs.declared.Progress.{Progress}
use Rattle.words.specs.Stores.{mark_word}
use Rattle.sides.specs.Sides.{block_chunk, chunk_of, last_size}
use Rattle.stream.specs.Machine.{Memory, flushed, written_at, with_progress}
use Rattle.levels.proofs.Basics.{if_either}
use Rattle.stream.proofs.Laws.{flushed_m, flushed_y}
use Rattle.joins.specs.Joins.{appended, pulled, left_joined, after_taken, after_joined, rested_out, rested, closed}
use Rattle.merging.proofs.Relation.{Formed, head_size, next_free, flash_of, Holds, LastIs}
use Rattle.merging.proofs.Blocks.{recs_from, stored_at, count_at, blocks, Flash, lay, lay_all, lay_done}
use Rattle.merging.proofs.Heads.{recs_length}
use Rattle.merging.proofs.Outs.{Fit, flush_none, flush_some, written_holds}
use Rattle.merging.proofs.Loads.{append_place, append_buffers}

-- blocks kept last first are laid as the level that they make
pub lay_reverse : (z : Offsets) (d : Flash) (done l : Level) → lay_all z d (reverse_aux done l) ≡ lay_all z (lay_done z d done) l
unfolding lay_all lay_done
lay_reverse z d [] l = refl
lay_reverse z d (b ∷ bs) l = lay_reverse z d bs (b ∷ l)

-- entries of a place list
abbrev pub entries : List ℕ → ℕ → ℕ → List ℕ
entries ys i zero = []
entries ys i (suc n) = get_or ys i 0 ∷ entries ys (suc i) n

-- blocks that have places are only listed
pub lay_blocks : (z : Offsets) (d : Flash) (ws ys : List ℕ) (i n : ℕ) → lay_all z d (blocks z false ws ys i n) ≡ record { words = d.words; used = d.used; cursor = d.cursor; writes = d.writes; list = d.list ++ entries ys i n }
unfolding lay_all lay blocks chunk_of
lay_blocks z d ws ys i zero = rw append-nil
lay_blocks z d ws ys i (suc n) = lay_blocks z (lay z d (stored_at z ws (get_or ys i 0))) ws ys (suc i) n ∙ rw (append_assoc d.list (get_or ys i 0 ∷ []) (entries ys (suc i) n))

pub entries_snoc : (ys : List ℕ) (i n : ℕ) → entries ys i (suc n) ≡ entries ys i n ++ (get_or ys (i + n) 0 ∷ [])
entries_snoc ys i zero = let e : i + zero ≡ i = omega arith in rw e
entries_snoc ys i (suc n) = let e : i + suc n ≡ suc i + n = omega arith in rw (e, ← entries_snoc ys (suc i) n)

pub rested_length : (out : List ℕ) (m : ℕ) (ys : List ℕ) (i n : ℕ) → length (rested_out out m ys i n) ≡ length out
unfolding rested_out
rested_length out m ys i zero = refl
rested_length out m ys i (suc n) = simp length-set (rested_length out m ys i n)

rested_list : (out : List ℕ) (m : ℕ) (ys : List ℕ) (i n : ℕ) → m + n ≤ length out → take (m + n) (rested_out out m ys i n) ≡ take m out ++ entries ys i n
unfolding rested_out
rested_list out m ys i zero h = let e : m + zero ≡ m = omega arith in rw (e, append-nil)
rested_list out m ys i (suc n) h =
    let e : m + suc n ≡ suc (m + n) = omega arith in
    rw (e, take-suc-set (rested_out out m ys i n) (m + n) (get_or ys (i + n) 0) (rw rested_length (omega arith)), rested_list out m ys i n (omega arith), entries_snoc ys i n)
    (append_assoc (take m out) (entries ys i n) (get_or ys (i + n) 0 ∷ []))

module _ (z : Offsets) (d : Flash) (a : Memory) where
  -- a buffer p, and blocks laid, at a work state w
  pub record Pend (p : List Rec) (done : Level) (w : Progress) : Type 0 where
    pub buf : w.buf ≡ buffer_of p
    pub flash : lay_done z d done ≡ flash_of (with_progress a w)

  flush_flash : (p : List Rec) (done : Level) (w : Progress) → Fit z (with_progress a w) → Pend p done w → lay_done z d (flush p done) ≡ flash_of (flushed z (with_progress a w))
  flush_flash [] done w f k = rw (flush_none z (with_progress a w) k.buf) k.flash
  flush_flash (r ∷ rs) done w f k = rw (flush_some z (with_progress a w) r rs k.buf) (written_holds z d r rs done (with_progress a w) f k.buf k.flash).flash

  finish : (p : List Rec) (done : Level) (w : Progress) (ys : List ℕ) (end : ℕ) (ws : List ℕ) → Fit z (with_progress a w) → Pend p done w
      → (flushed z (with_progress a w)).st.y.i ≡ w.y.i → (flushed z (with_progress a w)).st.m + (end - w.y.i) ≤ length (flushed z (with_progress a w)).out
      → flash_of (rested (flushed z (with_progress a w)) ys end) ≡ lay_all z (lay_done z d (flush p done)) (blocks z false ws ys w.y.i (end - w.y.i))
  finish p done w ys end ws f k ey r =
      rw (ey, flush_flash p done w f k, lay_blocks z (flash_of (flushed z (with_progress a w))) ws ys w.y.i (end - w.y.i), rested_list (flushed z (with_progress a w)).out (flushed z (with_progress a w)).st.m ys w.y.i (end - w.y.i) r)

abbrev init : List ℕ → List ℕ
init [] = []
init (x ∷ []) = []
init (x ∷ y ∷ l) = x ∷ init (y ∷ l)

init_snoc : (xs : List ℕ) (x : ℕ) → init (xs ++ (x ∷ [])) ≡ xs
init_snoc [] x = refl
init_snoc (y ∷ []) x = refl
init_snoc (y ∷ w ∷ ys) x = ap (λ (l : List ℕ). y ∷ l) (init_snoc (w ∷ ys) x)

flash_eq : (c d : Flash) → c.words ≡ d.words → c.used ≡ d.used → c.cursor ≡ d.cursor → c.writes ≡ d.writes → c.list ≡ d.list → c ≡ d
flash_eq c d e f g n h = rw (e, f, g, n, h)

lay_placed : (z : Offsets) (d : Flash) (e : Block) (q : ℕ) → e.place ≡ some q → lay z d e ≡ record { words = d.words; used = d.used; cursor = d.cursor; writes = d.writes; list = d.list ++ (q ∷ []) }
unfolding lay
lay_placed z d e q p = rw p

-- without its last block, a disk lists one place less
undo : (z : Offsets) (c d : Flash) (e : Block) (q m : ℕ) (out : List ℕ) → e.place ≡ some q → 1 ≤ m → m ≤ length out → lay z c e ≡ d → d.list ≡ take m out → c ≡ record { words = d.words; used = d.used; cursor = d.cursor; writes = d.writes; list = take (m - 1) out }
undo z c d e q m out p h l k f =
    let x = sym (lay_placed z c e q p) ∙ k in
    let s : take m out ≡ take (m - 1) out ++ (get_or out (m - 1) 0 ∷ []) = (let n : m ≡ suc (m - 1) = omega arith in rw n (take-suc out (m - 1) 0 (omega arith) ∙ (let o : suc (m - 1) - 1 ≡ m - 1 = omega arith in rw o))) in
    flash_eq c (record { words = d.words; used = d.used; cursor = d.cursor; writes = d.writes; list = take (m - 1) out }) (ap (λ (g : Flash). g.words) x) (ap (λ (g : Flash). g.used) x) (ap (λ (g : Flash). g.cursor) x) (ap (λ (g : Flash). g.writes) x)
    (sym (init_snoc c.list q) ∙ ap init (ap (λ (g : Flash). g.list) x ∙ f ∙ s) ∙ init_snoc (take (m - 1) out) (get_or out (m - 1) 0))

pub empty_is : empty_buffer ≡ buffer_of []
unfolding buffer_of mark_word
empty_is = refl

buffer_n : (p : List Rec) → (buffer_of p).n ≡ length p
unfolding buffer_of
buffer_n p = refl

module _ (z : Offsets) (d : Flash) (a : Memory) where
  -- the last block is taken back
  pull_pend : (p : List Rec) (e : Block) (es : Level) (w : Progress) → Pend z d a p (e ∷ es) w → e ≡ stored_at z a.words (get_or a.out (w.m - 1) 0) → size e + length p ≤ 16 → 1 ≤ w.m → w.m ≤ length a.out
      → Pend z d a (e.recs ++ p) es (pulled z a.words a.out w)
  unfolding pulled lay_done
  pull_pend p e es w k is n l h =
      let q = get_or a.out (w.m - 1) 0 in
      let c = count_at z a.words q in
      let rs = recs_from a.words (block_chunk z a.words q) 0 c in
      let er : e.recs ≡ rs = ap (λ (b : Block). b.recs) is in
      let ln : length rs + length p ≤ 16 = rw (← er) n in
      let lc : 0 + c ≤ 16 = omega (arith, recs_length a.words (block_chunk z a.words q) 0 c) in
      record {
        buf = rw (k.buf, ap (λ (b : Buffer). appended z.b a.words (start_of z q) b c) empty_is ∙ append_place z a.words q [] c lc, buffer_n p, append_buffers rs p (length p) (le_refl (length p)) ln, take-length p, er);
        flash = undo z (lay_done z d es) (flash_of (with_progress a w)) e q w.m a.out (ap (λ (b : Block). b.place) is) l h k.flash refl;
      }

  -- the block at place q joins
  after_pend : (p : List Rec) (done : Level) (w : Progress) (q : ℕ) → Pend z d a p done w → length p + count_at z a.words q ≤ 16 → Pend z d a (p ++ (stored_at z a.words q).recs) done (after_taken z a.words q w)
  unfolding after_taken
  after_pend p done w q k n = record { buf = rw k.buf (append_place z a.words q p (count_at z a.words q) n); flash = k.flash }

lay_listed : (z : Offsets) (d : Flash) (e : Block) → 1 ≤ length (lay z d e).list
unfolding lay
lay_listed z d e = go e.place refl
  where
    go : (o : Option ℕ) → e.place ≡ o → 1 ≤ length (lay z d e).list
    go none p = rw (p, lay) (rw length-append (omega arith))
    go (some q) p = rw (p, lay) (rw length-append (omega arith))

-- a block that is laid is listed
pend_listed : (z : Offsets) (d : Flash) (a : Memory) (p : List Rec) (e : Block) (es : Level) (w : Progress) → Pend z d a p (e ∷ es) w → 1 ≤ w.m
unfolding lay_done
pend_listed z d a p e es w k =
    let l = lay_listed z (lay_done z d es) e in
    let f = ap (λ (c : Flash). length c.list) k.flash in
    let g = length-take w.m a.out in
    omega arith

flush_filled : (p : List Rec) (done : Level) → 1 ≤ length p → flush p done ≡ new p ∷ done
flush_filled [] done h = absurd (omega arith)
flush_filled (r ∷ rs) done h = refl

pub flushed_out : (z : Offsets) (a : Memory) → length (flushed z a).out ≡ length a.out
unfolding flushed
flushed_out z a = if_either (λ (b : Memory). length b.out ≡ length a.out) (eqb a.st.buf.n 0) a (written_at z a (next_free z a)) refl (length-set a.out a.st.m (next_free z a))

blocks_cons : (z : Offsets) (ws ys : List ℕ) (i end : ℕ) → i < end → blocks z false ws ys i (end - i) ≡ stored_at z ws (get_or ys i 0) ∷ blocks z false ws ys (i + 1) (end - (i + 1))
unfolding blocks chunk_of
blocks_cons z ws ys i end h = let e : end - i ≡ suc (end - (i + 1)) = omega arith in rw (e, add-one i)

blocks_end : (z : Offsets) (ws ys : List ℕ) (i end : ℕ) → end ≤ i → blocks z false ws ys i (end - i) ≡ []
unfolding blocks chunk_of
blocks_end z ws ys i end h = let e : end - i ≡ 0 = omega arith in rw e

-- a new block, laid before the rest
lay_new : (z : Offsets) (d : Flash) (p : List Rec) (done rest : Level) → 1 ≤ length p → lay_all z d (reverse_aux done (new p ∷ rest)) ≡ lay_all z (lay_done z d (flush p done)) rest
unfolding lay_all lay_done
lay_new z d p done rest h = lay_reverse z d done (new p ∷ rest) ∙ rw (flush_filled p done h)

module _ (z : Offsets) (d : Flash) (a : Memory) (ys : List ℕ) (end : ℕ) (sized : Sized z a.words) where
  finish_at : (p : List Rec) (done : Level) (w : Progress) → w.cursor < z.p → w.m + 1 + (end - w.y.i) ≤ length a.out → Pend z d a p done w
      → flash_of (rested (flushed z (with_progress a w)) ys end) ≡ lay_all z (lay_done z d (flush p done)) (blocks z false a.words ys w.y.i (end - w.y.i))
  finish_at p done w h r k =
      let m = flushed_m z (with_progress a w) in
      let o = flushed_out z (with_progress a w) in
      finish z d a p done w ys end a.words (record { sized = sized; cursor = h; list = omega arith }) k (ap (λ (p : Point). p.i) (flushed_y z (with_progress a w))) (omega arith)

  abbrev Laid : List Rec → Level → Progress → Progress → Type 0
  Laid p done w v = flash_of (rested (flushed z (with_progress a v)) ys end) ≡ lay_all z d (join z.b (flush p done) (blocks z false a.words ys w.y.i (end - w.y.i)))

  -- nothing joins: what is pending is written, and the rest follows
  stays : (p : List Rec) (done : Level) (w : Progress) → w.cursor < z.p → w.m + 1 + (end - w.y.i) ≤ length a.out → Pend z d a p done w
      → lay_all z d (join z.b (flush p done) (blocks z false a.words ys w.y.i (end - w.y.i))) ≡ lay_all z d (reverse_aux (flush p done) (blocks z false a.words ys w.y.i (end - w.y.i))) → Laid p done w w
  stays p done w h r k e = finish_at p done w h r k ∙ sym (e ∙ lay_reverse z d (flush p done) (blocks z false a.words ys w.y.i (end - w.y.i)))

  module _ (w : Progress) (h : w.cursor < z.p) (r : w.m + 1 + (end - w.y.i) ≤ length a.out) (y : w.y.i < end) (f : Formed z a.words (block_chunk z a.words (get_or ys w.y.i 0))) where
    abbrev q : ℕ
    q = get_or ys w.y.i 0

    abbrev bs : Level
    bs = blocks z false a.words ys (w.y.i + 1) (end - (w.y.i + 1))

    -- its size
    test : size (stored_at z a.words q) ≡ count_at z a.words q
    test = recs_length a.words (block_chunk z a.words q) 0 (count_at z a.words q)

    filled : (rs : List Rec) → 1 ≤ length (rs ++ (stored_at z a.words q).recs)
    filled rs = simp (length-append, recs_length) (let l = f.low in omega arith)

    -- p takes in the block after
    takes : (p : List Rec) (done : Level) (v : Progress) → v.cursor ≡ w.cursor → v.m ≤ w.m → v.y.i ≡ w.y.i → Pend z d a p done v → length p + count_at z a.words q ≤ z.b
        → flash_of (rested (flushed z (with_progress a (after_taken z a.words q v))) ys end) ≡ lay_all z d (reverse_aux done (new (p ++ (stored_at z a.words q).recs) ∷ bs))
    unfolding after_taken
    takes p done v eh em ey k n =
        let b = sized.b_high in
        let g : end - (v.y.i + 1) ≤ end - w.y.i = omega arith in
        finish_at (p ++ (stored_at z a.words q).recs) done (after_taken z a.words q v) (rw eh h) (omega arith) (after_pend z d a p done v q k (omega arith))
        ∙ rw ey (sym (lay_new z d (p ++ (stored_at z a.words q).recs) done bs (filled p)))

    none_left : (done : Level) → Pend z d a [] done w → eqb w.buf.n 0 ≡ true
    unfolding buffer_of
    none_left done k = eq-eqb w.buf.n 0 (ap (λ (b : Buffer). b.n) k.buf)

    some_left : (r : Rec) (rs : List Rec) (done : Level) → Pend z d a (r ∷ rs) done w → (eqb w.buf.n 0 ≡ false) × (w.buf.n ≡ length (r ∷ rs))
    unfolding buffer_of
    some_left r rs done k = let e = ap (λ (b : Buffer). b.n) k.buf in (ne_eqb w.buf.n 0 (λ g. omega (arith, e)), e)

    after_none : Pend z d a [] [] w → last_size z a.words a.out w.m ≡ z.b → Laid [] [] w (after_joined z a.words a.out ys w end)
    unfolding after_joined
    after_none k e =
        let c = f.low in
        rw (lt-leb end w.y.i y, none_left [] k, e, lt-leb (z.b + count_at z a.words q) z.b (omega arith)) (stays [] [] w h r k refl)

    after_last : (e : Block) (es : Level) → Pend z d a [] (e ∷ es) w → last_size z a.words a.out w.m ≡ size e → (size e < z.b → e ≡ stored_at z a.words (get_or a.out (w.m - 1) 0)) → 1 ≤ w.m
        → Laid [] (e ∷ es) w (after_joined z a.words a.out ys w end)
    unfolding after_joined pulled
    after_last e es k n is m = rw (lt-leb end w.y.i y, none_left (e ∷ es) k, n) (go (leb (size e + count_at z a.words q) z.b) refl)
      where
        go : (t : Bool) → leb (size e + count_at z a.words q) z.b ≡ t → Laid [] (e ∷ es) w (if t then after_taken z a.words q (pulled z a.words a.out w) otherwise w)
        go true g =
            let l = leb-true (size e + count_at z a.words q) z.b g in
            let c = f.low in
            let b = sized.b_high in
            let o : size e + length (e.recs ++ []) ≤ size e + length (e.recs ++ []) = le_refl _ in
            let pp = pull_pend z d a [] e es w k (is (omega arith)) (omega arith) m (omega arith) in
            let t = takes (e.recs ++ []) es (pulled z a.words a.out w) refl (omega arith) refl pp (rw append-nil (omega arith)) in
            rw (blocks_cons z a.words ys w.y.i end y, test, g, ← append-nil e.recs) t
        go false g = stays [] (e ∷ es) w h r k (rw (blocks_cons z a.words ys w.y.i end y, test, g))

    after_new : (s : Rec) (rs : List Rec) (done : Level) → Pend z d a (s ∷ rs) done w → Laid (s ∷ rs) done w (after_joined z a.words a.out ys w end)
    unfolding after_joined
    after_new s rs done k = rw (lt-leb end w.y.i y, (some_left s rs done k).0) (go (leb (w.buf.n + count_at z a.words q) z.b) refl)
      where
        same : leb (w.buf.n + count_at z a.words q) z.b ≡ leb (length (s ∷ rs) + count_at z a.words q) z.b
        same = ap (λ (n : ℕ). leb (n + count_at z a.words q) z.b) (some_left s rs done k).1

        go : (t : Bool) → leb (w.buf.n + count_at z a.words q) z.b ≡ t → Laid (s ∷ rs) done w (if t then after_taken z a.words q w otherwise w)
        go true g =
            let h : leb (length (s ∷ rs) + count_at z a.words q) z.b ≡ true = sym same ∙ g in
            let l = leb-true (length (s ∷ rs) + count_at z a.words q) z.b h in
            rw (blocks_cons z a.words ys w.y.i end y, test, h) (takes (s ∷ rs) done w refl (le_refl w.m) refl k l)
        go false g =
            let h2 : leb (length (s ∷ rs) + count_at z a.words q) z.b ≡ false = sym same ∙ g in
            stays (s ∷ rs) done w h r k (rw (blocks_cons z a.words ys w.y.i end y, test, h2))

  -- the joins with the block after Y
  pub after_laid : (p : List Rec) (done : Level) (w : Progress) → w.cursor < z.p → w.m + 1 + (end - w.y.i) ≤ length a.out → (w.y.i < end → Formed z a.words (block_chunk z a.words (get_or ys w.y.i 0))) → Pend z d a p done w
      → (length p ≡ 0 → last_size z a.words a.out w.m ≡ head_size z.b done) → (length p ≡ 0 → LastIs z a.words a.out w.m done)
      → flash_of (rested (flushed z (with_progress a (after_joined z a.words a.out ys w end))) ys end) ≡ lay_all z d (join z.b (flush p done) (blocks z false a.words ys w.y.i (end - w.y.i)))
  unfolding after_joined
  after_laid p done w h r f k last tail = go (dec_lt w.y.i end)
    where
      ended : (l : Level) → lay_all z (lay_done z d l) [] ≡ lay_all z d (join z.b l [])
      ended [] = sym (lay_reverse z d [] [])
      ended (e ∷ es) = sym (lay_reverse z d (e ∷ es) [])

      cases : (p : List Rec) (done : Level) → Pend z d a p done w → (length p ≡ 0 → last_size z a.words a.out w.m ≡ head_size z.b done) → (length p ≡ 0 → LastIs z a.words a.out w.m done) → w.y.i < end
          → Laid p done w (after_joined z a.words a.out ys w end)
      cases [] [] k l t y = after_none w h r y (f y) k (l refl)
      cases [] (e ∷ es) k l t y = after_last w h r y (f y) e es k (l refl) (t refl) (pend_listed z d a [] e es w k)
      cases (s ∷ rs) done k l t y = after_new w h r y (f y) s rs done k

      go : Dec (w.y.i < end) → flash_of (rested (flushed z (with_progress a (after_joined z a.words a.out ys w end))) ys end) ≡ lay_all z d (join z.b (flush p done) (blocks z false a.words ys w.y.i (end - w.y.i)))
      go (no n) = rw (le-leb end w.y.i (omega arith)) (finish_at p done w h r k ∙ rw (blocks_end z a.words ys w.y.i end (omega arith)) (ended (flush p done)))
      go (yes y) = cases p done k last tail y

left_none : (z : Offsets) (xs out : List ℕ) (w : Progress) → eqb w.buf.n 0 ≡ true → left_joined z xs out w ≡ w
unfolding left_joined
left_none z xs out w e = rw e

left_some : (z : Offsets) (xs out : List ℕ) (w : Progress) (t : Bool) → eqb w.buf.n 0 ≡ false → leb (last_size z xs out w.m + w.buf.n) z.b ≡ t → left_joined z xs out w ≡ (if t then pulled z xs out w otherwise w)
unfolding left_joined
left_some z xs out w t e f = rw (e, f)

-- what is kept of a merge's end: a buffer of fewer than B records
module _ (z : Offsets) (d : Flash) (a : Memory) (ys : List ℕ) (end : ℕ) (o : Out) (h : Holds z d o a) (sized : Sized z a.words) (few : length o.buffer < z.b)
    (cursor : a.st.cursor < z.p) (room : a.st.m + 1 + (end - a.st.y.i) ≤ length a.out) (tail : LastIs z a.words a.out a.st.m o.done)
    (form : a.st.y.i < end → Formed z a.words (block_chunk z a.words (get_or ys a.st.y.i 0))) where
  -- step 4 on words, from any end of step 3
  pub close_laid : flash_of (closed z ys end a) ≡ lay_all z d (join z.b (join_left z.b o.buffer o.done) (blocks z false a.words ys a.st.y.i (end - a.st.y.i)))
  unfolding closed pulled
  close_laid = go o.buffer o.done (record { buf = h.buf; flash = h.flash }) h.last tail few
    where
      Closes : List Rec → Level → Type 0
      Closes p done = flash_of (closed z ys end a) ≡ lay_all z d (join z.b (join_left z.b p done) (blocks z false a.words ys a.st.y.i (end - a.st.y.i)))

      count_is : (p : List Rec) (done : Level) → Pend z d a p done a.st → a.st.buf.n ≡ length p
      count_is p done k = ap (λ (b : Buffer). b.n) k.buf ∙ buffer_n p

      stay : (s : Rec) (rs : List Rec) (done : Level) → Pend z d a (s ∷ rs) done a.st → leb (last_size z a.words a.out a.st.m + a.st.buf.n) z.b ≡ false
          → flash_of (closed z ys end a) ≡ lay_all z d (join z.b (flush (s ∷ rs) done) (blocks z false a.words ys a.st.y.i (end - a.st.y.i)))
      stay s rs done k e =
          rw (left_some z a.words a.out a.st false (ne_eqb a.st.buf.n 0 (λ g. omega (arith, count_is (s ∷ rs) done k))) e)
          (after_laid z d a ys end sized (s ∷ rs) done a.st cursor room form k (λ g. absurd (omega arith)) (λ g. absurd (omega arith)))

      two : (s : Rec) (rs : List Rec) (e : Block) (es : Level) (t : Bool) → leb (size e + length (s ∷ rs)) z.b ≡ t → Pend z d a (s ∷ rs) (e ∷ es) a.st → last_size z a.words a.out a.st.m ≡ size e
          → (size e < z.b → e ≡ stored_at z a.words (get_or a.out (a.st.m - 1) 0))
          → flash_of (closed z ys end a) ≡ lay_all z d (join z.b (if t then new (e.recs ++ (s ∷ rs)) ∷ es otherwise new (s ∷ rs) ∷ e ∷ es) (blocks z false a.words ys a.st.y.i (end - a.st.y.i)))
      two s rs e es false g k l t = stay s rs (e ∷ es) k (ap (λ (n : ℕ). leb (n + a.st.buf.n) z.b) l ∙ ap (λ (n : ℕ). leb (size e + n) z.b) (count_is (s ∷ rs) (e ∷ es) k) ∙ g)
      two s rs e es true g k l t =
          let q = leb-true (size e + length (s ∷ rs)) z.b g in
          let b = sized.b_high in
          let m = pend_listed z d a (s ∷ rs) e es a.st k in
          let f = after_laid z d a ys end sized (e.recs ++ (s ∷ rs)) es (pulled z a.words a.out a.st) cursor (omega arith) form (pull_pend z d a (s ∷ rs) e es a.st k (t (omega arith)) (omega arith) m (omega arith))
          (λ w. absurd (omega (arith, length-append e.recs (s ∷ rs)))) (λ w. absurd (omega (arith, length-append e.recs (s ∷ rs)))) in
          rw (
            left_some z a.words a.out a.st true (ne_eqb a.st.buf.n 0 (λ w. omega (arith, count_is (s ∷ rs) (e ∷ es) k)))
                (ap (λ (n : ℕ). leb (n + a.st.buf.n) z.b) l ∙ ap (λ (n : ℕ). leb (size e + n) z.b) (count_is (s ∷ rs) (e ∷ es) k) ∙ g),
            ← flush_filled (e.recs ++ (s ∷ rs)) es (rw length-append (omega arith)),
          ) f

      go : (p : List Rec) (done : Level) → Pend z d a p done a.st → last_size z a.words a.out a.st.m ≡ head_size z.b done → LastIs z a.words a.out a.st.m done → length p < z.b → Closes p done
      go [] done k l t n = rw (left_none z a.words a.out a.st (eq-eqb a.st.buf.n 0 (count_is [] done k))) (after_laid z d a ys end sized [] done a.st cursor room form k (λ _. l) (λ _. t))
      go (s ∷ rs) [] k l t n = stay s rs [] k (lt-leb (last_size z a.words a.out a.st.m + a.st.buf.n) z.b (omega (arith, count_is (s ∷ rs) [] k)))
      go (s ∷ rs) (e ∷ es) k l t n = two s rs e es (leb (size e + length (s ∷ rs)) z.b) refl k l t

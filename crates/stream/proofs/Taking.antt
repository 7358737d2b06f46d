-- Laws of what the code does in one go: how far a run reaches, and what it puts into the buffer.
use Prim.Native.Nat.{ℕ, zero, suc, ◌+◌, ◌-◌, ◌*◌, ◌/◌, ◌%◌, ◌^◌, ◌≤◌, ◌<◌}
use mathlib.Core.Path.{◌≡◌, sym, ap, ◌∙◌, refl, subst}
use mathlib.Core.Bool.{Bool, true, false, not, ◌&&◌, true≢false}
use mathlib.Core.List.{List}
use native.Mathlib.Nat.{pow-suc}
use native.Mathlib.Omega.{arith}
use lib.Dec.{leb, eqb}
use lib.ListN.{length, get_or, set, take, drop}
use lib.Seq.{get_or-take, get_or-drop}
use lib.Pow.{shl_exact, pow_mono}
use borrow.Author.Tests.{le-leb, lt-leb, lt-ltb, not-true, not-false}
use Rattle.levels.proofs.Basics.{if_either}
use Rattle.blocks.specs.declared.Offsets.{Offsets}
use Rattle.blocks.specs.declared.Buffer.{Buffer}
use Rattle.blocks.specs.Blocks.{pushed}
use Rattle.sides.specs.declared.Head.{Head}
use Rattle.std.specs.Prelude.{Option, Some, None, is_some}
use Rattle.slices.specs.Ranks.{Rising, count_below}
use Rattle.slices.proofs.Ranks.{rank_before, rising_part, search_room}
use Rattle.sides.specs.Sides.{first, Searchable}
use Rattle.stream.specs.declared.Point.{Point}
use Rattle.stream.specs.declared.Progress.{Progress}
use Rattle.stream.specs.declared.Move.{Move}
use Rattle.stream.specs.declared.Run.{Run}
use Rattle.stream.specs.Machine.{Memory, with_buffer, with_progress, flushed, moved_to, taken, taken_run, filled, Runnable, Ahead, Grows, grown, along_x, along_y}
use Rattle.stream.proofs.Laws.{if_true, if_false}

-- one record more in the buffer, at most
pub taken_few : (bottom : Bool) (b : Buffer) (key t pay : ℕ) → (taken bottom b key t pay).n ≤ b.n + 1
unfolding taken
taken_few bottom b key t pay = if_either (λ (w : Buffer). w.n ≤ b.n + 1) (bottom && eqb t 1) b (pushed b key t pay) (omega arith) (omega arith)

pushed_bits : (m n t : ℕ) → t < 2 → m < 2 ^ n → m + t * 2 ^ n < 2 ^ (n + 1)
pushed_bits m n zero l h = let w = pow-suc 2 n in let e : suc n ≡ n + 1 = omega arith in rw (← e) (omega arith)
pushed_bits m n (suc zero) l h = let w = pow-suc 2 n in let e : suc n ≡ n + 1 = omega arith in rw (← e) (omega arith)
pushed_bits m n (suc (suc t)) l h = absurd (omega arith)

taken_bits : (bottom : Bool) (b : Buffer) (key t pay : ℕ) → t < 2 → b.marks < 2 ^ b.n → (taken bottom b key t pay).marks < 2 ^ (taken bottom b key t pay).n
unfolding taken
taken_bits bottom b key t pay l h = if_either (λ (w : Buffer). w.marks < 2 ^ w.n) (bottom && eqb t 1) b (pushed b key t pay) h (pushed_bits b.marks b.n t l h)

-- what a buffer holds after k records of a's block from record j on
pub record Held (xs : List ℕ) (bottom : Bool) (a : Head) (j : ℕ) (b : Buffer) (k : ℕ) (u : Buffer) : Type 0 where
  pub same : u ≡ taken_run xs bottom a j b k
  pub few : u.n ≤ b.n + k
  pub bits : u.marks < 2 ^ u.n

pub held_none : (xs : List ℕ) (bottom : Bool) (a : Head) (j : ℕ) (b : Buffer) → b.marks < 2 ^ b.n → Held xs bottom a j b 0 b
unfolding taken_run
held_none xs bottom a j b h = record { same = refl; few = omega arith; bits = h }

pub held_next : (xs : List ℕ) (bottom : Bool) (a : Head) (j : ℕ) (b : Buffer) (k : ℕ) (u w : Buffer) → Held xs bottom a j b k u
    → w ≡ taken bottom u (get_or xs (a.keys + (j + k)) 0) (a.marks / 2 ^ (j + k) % 2) (get_or xs (a.pays + (j + k)) 0) → Held xs bottom a j b (k + 1) w
unfolding taken_run
held_next xs bottom a j b k u w h e =
    let key = get_or xs (a.keys + (j + k)) 0 in
    let t = a.marks / 2 ^ (j + k) % 2 in
    let pay = get_or xs (a.pays + (j + k)) 0 in
    let s : suc k ≡ k + 1 = omega arith in
    record {
      same = e ∙ (ap (λ (v : Buffer). taken bottom v key t pay) h.same ∙ ap (taken_run xs bottom a j b) s);
      few = subst (λ (v : Buffer). v.n ≤ b.n + (k + 1)) (sym e) (let f = taken_few bottom u key t pay in let g = h.few in omega arith);
      bits = subst (λ (v : Buffer). v.marks < 2 ^ v.n) (sym e) (taken_bits bottom u key t pay (omega arith) h.bits);
    }

pub filled_not : (z : Offsets) (a : Memory) → a.st.buf.n < z.b → filled z a ≡ a
unfolding filled
filled_not z a l = if_false (leb z.b a.st.buf.n) (flushed z a) a (lt-leb _ _ l)

-- the buffer is written at the end of a run, or not
pub fill_full : (z : Offsets) (a : Memory) (u v : Buffer) → u ≡ v → z.b ≤ u.n → flushed z (with_progress a (with_buffer a.st u)) ≡ filled z (with_progress a (with_buffer a.st v))
unfolding filled
fill_full z a u v e l = sym (if_true (leb z.b u.n) _ _ (le-leb _ _ l)) ∙ ap (λ (w : Buffer). filled z (with_progress a (with_buffer a.st w))) e

pub fill_more : (z : Offsets) (a : Memory) (u v : Buffer) → u ≡ v → u.n < z.b → with_progress a (with_buffer a.st u) ≡ filled z (with_progress a (with_buffer a.st v))
fill_more z a u v e l = sym (filled_not z (with_progress a (with_buffer a.st u)) l) ∙ ap (λ (w : Buffer). filled z (with_progress a (with_buffer a.st w))) e

-- the code's record is the pushed one: the mark bit's shift loses nothing
pub stored : (bottom : Bool) (b : Buffer) (key t pay : ℕ) → t < 2 → b.n < 16 → not (bottom && eqb t 1) ≡ true
    → record { keys = set b.keys b.n key; pays = set b.pays b.n pay; marks = b.marks + t * 2 ^ b.n % 2 ^ 32; n = b.n + 1 } ≡ taken bottom b key t pay
unfolding taken
stored bottom b key t pay l h e =
    let s : t * 2 ^ b.n % 2 ^ 32 ≡ t * 2 ^ b.n = shl_exact 1 b.n 32 (omega arith) (omega arith) in
    ap (λ (m : ℕ). record { keys = set b.keys b.n key; pays = set b.pays b.n pay; marks = b.marks + m; n = b.n + 1 }) s ∙ sym (if_false (bottom && eqb t 1) b (pushed b key t pay) (not-true (bottom && eqb t 1) e))

-- a tombstone is dropped in level h
pub dropped : (bottom : Bool) (b : Buffer) (key t pay : ℕ) → not (bottom && eqb t 1) ≡ false → b ≡ taken bottom b key t pay
unfolding taken
dropped bottom b key t pay e = sym (if_true (bottom && eqb t 1) b (pushed b key t pay) (not-false (bottom && eqb t 1) e))

-- the mark bit fits
pub marks_fit : (m n t : ℕ) → t < 2 → n < 16 → m < 2 ^ n → m + t * 2 ^ n % 2 ^ 32 < 2 ^ 32
marks_fit m n t l h b =
    let s : t * 2 ^ n % 2 ^ 32 ≡ t * 2 ^ n = shl_exact 1 n 32 (omega arith) (omega arith) in
    rw s (let w = pushed_bits m n t l b in let p = pow_mono {i = n + 1} {j = 16} (omega arith) in omega arith)

-- all records of a block that there is room for go along where the other side is used up
pub ahead_all : (xs : List ℕ) (a : Head) (other : Option Head) (j room left : ℕ) → j < a.n → left ≤ a.n - j - 1 → left ≤ room → other ≡ None → Ahead xs a other j room left
ahead_all xs a other j room left l h r e = record { inside = omega arith; fits = r; below = λ k f g. rw e }

-- and else those of them whose keys are below its next one
pub ahead_row : (xs : List ℕ) (a : Head) (j left : ℕ) → Searchable xs a → j < a.n → left ≤ a.n - j - 1 → (a.keys + (j + 1) + left ≤ length xs) × Rising 0 (take left (drop (a.keys + (j + 1)) xs))
ahead_row xs a j left s l h = (omega (arith, s.inside), rising_part 0 a.keys a.n (j + 1) left xs (omega arith) s.rises)

pub ahead_some : (xs : List ℕ) (a b : Head) (other : Option Head) (j room left t : ℕ) → Searchable xs a → j < a.n → left ≤ a.n - j - 1 → left ≤ room → other ≡ Some b → t ≡ count_below b.key (take left (drop (a.keys + (j + 1)) xs)) → Ahead xs a other j room t
ahead_some xs a b other j room left t s l h r o e =
    let row = take left (drop (a.keys + (j + 1)) xs) in
    let ready = ahead_row xs a j left s l h in
    let few : t ≤ left = rw e (search_room b.key (a.keys + (j + 1)) left xs ready.0 ready.1) in
    record {
      inside = omega (arith, few);
      fits = omega (arith, few);
      below = λ k f g.
          let i : a.keys + (j + 1) + (k - 1) ≡ a.keys + (j + k) = omega arith in
          let w : get_or row (k - 1) 0 ≡ get_or xs (a.keys + (j + k)) 0 = get_or-take left (drop (a.keys + (j + 1)) xs) (k - 1) 0 (omega (arith, few)) ∙ (get_or-drop (a.keys + (j + 1)) xs (k - 1) 0 ∙ ap (λ (m : ℕ). get_or xs m 0) i) in
          let p = rank_before b.key 0 row (k - 1) ready.1 (rw (← e) (omega arith)) in
          rw o (lt-ltb _ _ (rw w at p));
    }

-- the buffer is not touched by a move of the sides
pub moved_runnable : (z : Offsets) (xs : List ℕ) (w : Progress) (x y : Point) (r : Run) → Runnable z xs w r → Runnable z xs (moved_to w x y) r
moved_runnable z xs w x y r k = record { room = k.room; bits = k.bits; low = k.low; keys = k.keys; pays = k.pays }

-- The four ways out of `run_on`: the block follows as it stands, both sides have the key, or one side comes first.
module _ (xs : List ℕ) (p q : Point) (x y : Option Head) (c : Move) (room : ℕ) (r : Run) where
  pub grows_whole : is_some c.whole ≡ true → r ≡ record { next = c; from = 0; more = 0 } → Grows xs p q x y c room r
  unfolding grown
  grows_whole w e =
      subst (Grows xs p q x y c room) (sym e)
      (record {
        same = sym (if_true (is_some c.whole) _ _ w);
        lower = λ n f. absurd (true≢false (sym w ∙ n));
        upper = λ n f g. absurd (true≢false (sym w ∙ n));
      })

  pub grows_tie : is_some c.whole ≡ false → first y x ≡ false → first x y ≡ false → r ≡ record { next = c; from = p.j; more = 0 } → Grows xs p q x y c room r
  unfolding grown
  grows_tie w l u e =
      subst (Grows xs p q x y c room) (sym e)
      (record {
        same = sym (if_false (is_some c.whole) _ _ w ∙ (if_false (first y x) _ _ l ∙ if_false (first x y) _ _ u));
        lower = λ n f. absurd (true≢false (sym f ∙ l));
        upper = λ n f g. absurd (true≢false (sym g ∙ u));
      })

  pub grows_lower : (more : ℕ) → is_some c.whole ≡ false → first y x ≡ true → Ahead xs c.head x q.j room more
      → r ≡ along_y q c more → Grows xs p q x y c room r
  unfolding grown
  grows_lower more w l k e =
      subst (Grows xs p q x y c room) (sym e)
      (record {
        same = sym (if_false (is_some c.whole) _ _ w ∙ if_true (first y x) _ _ l);
        lower = λ n f. k;
        upper = λ n f g. absurd (true≢false (sym l ∙ f));
      })

  pub grows_upper : (more : ℕ) → is_some c.whole ≡ false → first y x ≡ false → first x y ≡ true → Ahead xs c.head y p.j room more
      → r ≡ along_x p c more → Grows xs p q x y c room r
  unfolding grown
  grows_upper more w l u k e =
      subst (Grows xs p q x y c room) (sym e)
      (record {
        same = sym (if_false (is_some c.whole) _ _ w ∙ (if_false (first y x) _ _ l ∙ if_true (first x y) _ _ u));
        lower = λ n f. absurd (true≢false (sym f ∙ l));
        upper = λ n f g. k;
      })

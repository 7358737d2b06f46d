-- Step 4 finds what it asks for at the end of step 3.
use Prim.Native.Nat.{ℕ, ◌+◌, ◌-◌, ◌≤◌}
use mathlib.Core.Path.{◌≡◌, ap, ◌∙◌, refl}
use mathlib.Core.Bool.{Bool, true, false}
use mathlib.Core.List.{List}
use native.Mathlib.Nat.{le_refl}
use native.Mathlib.Omega.{arith}
use lib.Dec.{leb, eqb}
use lib.ListN.{length, get_or}
use borrow.Author.Tests.{leb-true, leb-false, eqb-true, eqb-false}
use Rattle.levels.specs.Basics.{if◌then◌otherwise◌}
use Rattle.levels.specs.Merge.{Out}
use Rattle.blocks.specs.declared.Offsets.{Offsets}
use Rattle.blocks.specs.declared.Buffer.{Buffer}
use Rattle.blocks.specs.Blocks.{start_of, buffer_of}
use Rattle.stream.specs.declared.Point.{Point}
use Rattle.stream.specs.declared.Progress.{Progress}
use Rattle.stream.specs.declared.Inputs.{Inputs}
use Rattle.sides.specs.Sides.{chunk_of, last_size}
use Rattle.stream.specs.Machine.{Memory}
use Rattle.levels.proofs.Basics.{if_either}
use Rattle.stream.proofs.Laws.{flushed_m, flushed_y}
use Rattle.joins.specs.Joins.{Clean, pulled, Lefts, left_joined, after_taken, Afters, after_joined, joined_up, Closable}
use Rattle.joins.proofs.Laws.{last_pull, pulled_n, pulled_clean, pulled_y, appended_n}
use Rattle.merging.proofs.Relation.{Holds, Listed, Core, Budget}
use Rattle.merging.proofs.Blocks.{Flash}
use Rattle.words.proofs.Slots.{mark_small}

-- what the joins leave of where the merge stands
pub record Joined (w v : Progress) : Type 0 where
  pub m : v.m ≤ w.m
  pub cursor : v.cursor ≡ w.cursor
  pub writes : v.writes ≡ w.writes
  pub few : v.buf.n ≤ 16

module _ (z : Offsets) (xs out : List ℕ) (w : Progress) where
  pulled_m : (pulled z xs out w).m ≡ w.m - 1
  unfolding pulled
  pulled_m = refl

  pulled_cursor : (pulled z xs out w).cursor ≡ w.cursor
  unfolding pulled
  pulled_cursor = refl

  pulled_writes : (pulled z xs out w).writes ≡ w.writes
  unfolding pulled
  pulled_writes = refl

  -- the last block taken back, where with n records more it has B or fewer
  pulled_joined : Lefts z xs out w → (n : ℕ) → 1 ≤ n → w.buf.n ≤ n → last_size z xs out w.m + n ≤ z.b → Joined w (pulled z xs out w)
  pulled_joined k n l h e =
      let p = (last_pull z xs out w.m n l e).1 in
      let c = pulled_n z xs out w in
      let b = k.sized.b_high in
      let m = pulled_m in
      record { m = omega arith; cursor = pulled_cursor; writes = pulled_writes; few = omega arith }

  left_clean : Clean w.buf → Clean (left_joined z xs out w).buf
  unfolding left_joined
  left_clean c = if_either (λ (v : Progress). Clean v.buf) (eqb w.buf.n 0) w _ c (if_either (λ (v : Progress). Clean v.buf) (leb (last_size z xs out w.m + w.buf.n) z.b) (pulled z xs out w) w (pulled_clean z xs out w) c)

  left_y : (left_joined z xs out w).y ≡ w.y
  unfolding left_joined
  left_y = if_either (λ (v : Progress). v.y ≡ w.y) (eqb w.buf.n 0) w _ refl (if_either (λ (v : Progress). v.y ≡ w.y) (leb (last_size z xs out w.m + w.buf.n) z.b) (pulled z xs out w) w (pulled_y z xs out w) refl)

  left_joined_lem : Lefts z xs out w → Joined w (left_joined z xs out w)
  unfolding left_joined
  left_joined_lem k = go (eqb w.buf.n 0) (leb (last_size z xs out w.m + w.buf.n) z.b) refl refl
    where
      same : Joined w w
      same = record { m = le_refl w.m; cursor = refl; writes = refl; few = k.few }

      go : (t u : Bool) → eqb w.buf.n 0 ≡ t → leb (last_size z xs out w.m + w.buf.n) z.b ≡ u → Joined w (if t then w otherwise if u then pulled z xs out w otherwise w)
      go true u e f = same
      go false false e f = same
      go false true e f = pulled_joined k w.buf.n (let n = eqb-false w.buf.n 0 e in omega arith) (le_refl w.buf.n) (leb-true (last_size z xs out w.m + w.buf.n) z.b f)

  taken_n : (q : ℕ) → Clean w.buf → (after_taken z xs q w).buf.n ≡ w.buf.n + get_or xs (start_of z q) 0
  unfolding after_taken
  taken_n q c = appended_n z.b xs (start_of z q) w.buf c (get_or xs (start_of z q) 0)

  taken_same : (q : ℕ) → ((after_taken z xs q w).m ≡ w.m) × ((after_taken z xs q w).cursor ≡ w.cursor) × ((after_taken z xs q w).writes ≡ w.writes) × ((after_taken z xs q w).y.i ≡ w.y.i + 1)
  unfolding after_taken
  taken_same q = (refl, refl, refl, refl)

  taken_joined : (q : ℕ) → z.b ≤ 16 → Clean w.buf → w.buf.n + get_or xs (start_of z q) 0 ≤ z.b → Joined w (after_taken z xs q w)
  taken_joined q h c f = let n = taken_n q c in let s = taken_same q in record { m = (let e = s.0 in omega arith); cursor = s.1; writes = s.2; few = omega arith }

joined_next : (u v w : Progress) → Joined u v → Joined v w → Joined u w
joined_next u v w j k = record { m = (let a = j.m in let b = k.m in omega arith); cursor = k.cursor ∙ j.cursor; writes = k.writes ∙ j.writes; few = k.few }

module _ (z : Offsets) (xs out ys : List ℕ) (w : Progress) (end : ℕ) (k : Afters z xs out ys w end) where
  after_joined_lem : Joined w (after_joined z xs out ys w end)
  unfolding after_joined
  after_joined_lem = go (leb end w.y.i) (eqb w.buf.n 0) (leb (last_size z xs out w.m + size) z.b) (leb (w.buf.n + size) z.b) refl refl refl refl
    where
      q : ℕ
      q = get_or ys w.y.i 0

      size : ℕ
      size = get_or xs (start_of z q) 0

      same : Joined w w
      same = record { m = le_refl w.m; cursor = refl; writes = refl; few = k.lefts.few }

      go : (t u v x : Bool) → leb end w.y.i ≡ t → eqb w.buf.n 0 ≡ u → leb (last_size z xs out w.m + size) z.b ≡ v → leb (w.buf.n + size) z.b ≡ x
          → Joined w (if t then w otherwise if u then (if v then after_taken z xs q (pulled z xs out w) otherwise w) otherwise if x then after_taken z xs q w otherwise w)
      go true u v x e f g h = same
      go false true false x e f g h = same
      go false true true x e f g h =
          let l = leb-true (last_size z xs out w.m + size) z.b g in
          let n = eqb-true w.buf.n 0 f in
          let i = k.filled (leb-false end w.y.i e) in
          let p = pulled_joined z xs out w k.lefts size i (omega arith) l in
          let c = pulled_n z xs out w in
          let d = (last_pull z xs out w.m size i l).1 in
          joined_next w (pulled z xs out w) (after_taken z xs q (pulled z xs out w)) p (taken_joined z xs out (pulled z xs out w) q k.lefts.sized.b_high (pulled_clean z xs out w) (omega arith))
      go false false v true e f g h = taken_joined z xs out w q k.lefts.sized.b_high k.clean (leb-true (w.buf.n + size) z.b h)
      go false false v false e f g h = same

  -- Y's side goes at most one block on
  after_y : w.y.i ≤ end → (w.y.i ≤ (after_joined z xs out ys w end).y.i) × ((after_joined z xs out ys w end).y.i ≤ end)
  unfolding after_joined
  after_y l = go (leb end w.y.i) refl
    where
      q : ℕ
      q = get_or ys w.y.i 0

      size : ℕ
      size = get_or xs (start_of z q) 0

      Ends : Progress → Type 0
      Ends v = (w.y.i ≤ v.y.i) × (v.y.i ≤ end)

      go : (t : Bool) → leb end w.y.i ≡ t → Ends (if t then w otherwise if eqb w.buf.n 0 then (if leb (last_size z xs out w.m + size) z.b then after_taken z xs q (pulled z xs out w) otherwise w) otherwise if leb (w.buf.n + size) z.b then after_taken z xs q w otherwise w)
      go true e = (le_refl w.y.i, l)
      go false e =
          let h = leb-false end w.y.i e in
          let a = (taken_same z xs out (pulled z xs out w) q).3 in
          let b = (taken_same z xs out w q).3 in
          let c = ap (λ (p : Point). p.i) (pulled_y z xs out w) in
          if_either Ends (eqb w.buf.n 0) _ _
          (if_either Ends (leb (last_size z xs out w.m + size) z.b) (after_taken z xs q (pulled z xs out w)) w (omega arith, omega arith) (omega arith, omega arith))
          (if_either Ends (leb (w.buf.n + size) z.b) (after_taken z xs q w) w (omega arith, omega arith) (omega arith, omega arith))

-- at the end of step 3, with all of the lower list standing
pub closable : (z : Offsets) (t : Inputs) (xs ys : List ℕ) (end : ℕ) (d : Flash) (o : Out) (a : Memory) → Core z t xs ys o a → Holds z d o a → Budget z a → Listed z false a ys a.st.y.i end → end ≤ 4096 → a.st.y.i ≤ end
    → a.st.m + 1 + (end - a.st.y.i) ≤ 4096 → Closable z ys end a
unfolding buffer_of chunk_of
closable z t xs ys end d o a c h g all he hy r =
    record {
      lefts = lf;
      afters = af;
      flushable = record { sized = c.sized; cursor = rw (ja.cursor, jl.cursor) c.cursor; full = ja.few; room = omega (arith, ja.m, jl.m); count = rw (ja.writes, jl.writes) g.count; free = g.free };
      y_high = rw (flushed_y z (joined_up z ys end a)) yi.1;
      room = rw (flushed_y z (joined_up z ys end a)) (omega (arith, flushed_m z (joined_up z ys end a), ja.m, jl.m, yi.0, vy));
    }
  where
    n : a.st.buf.n ≡ length o.buffer
    n = ap (λ (b : Buffer). b.n) h.buf

    clean : Clean a.st.buf
    clean = record { bits = rw h.buf (mark_small o.buffer) }

    lf : Lefts z a.words a.out a.st
    lf = record { sized = c.sized; m_high = omega arith; few = omega (arith, n, c.few, c.sized.b_high); places = c.listed }

    v : Progress
    v = left_joined z a.words a.out a.st

    jl : Joined a.st v
    jl = left_joined_lem z a.words a.out a.st lf

    vy : v.y.i ≡ a.st.y.i
    vy = ap (λ (p : Point). p.i) (left_y z a.words a.out a.st)

    af : Afters z a.words a.out ys v end
    af =
        record {
          lefts = record { sized = c.sized; m_high = omega (arith, jl.m); few = jl.few; places = λ i l. c.listed i (omega (arith, jl.m)) };
          end_high = he;
          clean = left_clean z a.words a.out a.st clean;
          place = λ l. (all v.y.i (omega (arith, vy)) l).place refl;
          filled = λ l. (all v.y.i (omega (arith, vy)) l).formed.low;
        }

    ja : Joined v (after_joined z a.words a.out ys v end)
    ja = after_joined_lem z a.words a.out ys v end af

    yi : (v.y.i ≤ (after_joined z a.words a.out ys v end).y.i) × ((after_joined z a.words a.out ys v end).y.i ≤ end)
    yi = after_y z a.words a.out ys v end af (omega (arith, vy))

-- A merge lists and writes no more than its inputs pay for: a potential on numbers, kept by every step.
use Prim.Native.Nat.{ℕ, zero, suc, ◌+◌, ◌*◌, ◌≤◌, ◌<◌}
use mathlib.Core.Path.{◌≡◌, sym, ap, ◌∙◌, refl}
use mathlib.Core.Bool.{Bool, true, false, ◌&&◌, true≢false}
use Rattle.std.specs.Prelude.{Option, None, Some, is_some}
use mathlib.Core.List.{List}
use mathlib.Core.Logic.{dite}
use native.Mathlib.Decide.{ℕ_discrete, dec_lt}
use native.Mathlib.Nat.{mul-le-mul_left}
use native.Mathlib.Omega.{arith}
use lib.Dec.{leb, eqb}
use lib.ListN.{get_or, set}
use lib.Seq.{get_or-set_other}
use borrow.Author.Tests.{leb-true}
use Rattle.levels.specs.Basics.{if◌then◌otherwise◌}
use Rattle.words.specs.Stores.{bit}
use Rattle.blocks.specs.declared.Offsets.{Offsets}
use Rattle.blocks.specs.Blocks.{SomeFree, pushed}
use Rattle.sides.specs.declared.Chunk.{Chunk}
use Rattle.sides.specs.declared.Head.{Head}
use Rattle.stream.specs.declared.Point.{Point}
use Rattle.stream.specs.declared.Inputs.{Inputs}
use Rattle.sides.specs.Sides.{head_at, follows_at}
use Rattle.sides.proofs.Laws.{follows_late, follows_some}
use Rattle.stream.specs.Machine.{Memory, flushed, written_at, gathered, reused, emitted, with_progress, with_buffer, point_after, moved}
use Rattle.levels.proofs.Basics.{if_either}
use Rattle.stream.proofs.Laws.{after_one}
use Rattle.merging.specs.Contract.{count_marks}
use Rattle.merging.proofs.Relation.{next_free}
use Rattle.words.proofs.Slots.{bit_small}

count_out : (n : ℕ) (used : List Bool) (q : ℕ) → n ≤ q → count_marks n (set used q true) ≡ count_marks n used
unfolding count_marks
count_out zero used q h = refl
count_out (suc n) used q h = rw (count_out n used q (omega arith), get_or-set_other used q n true false (λ e. omega arith))

-- one mark more
pub count_set : (n : ℕ) (used : List Bool) (q : ℕ) → count_marks n (set used q true) ≤ count_marks n used + 1
unfolding count_marks
count_set zero used q = omega arith
count_set (suc n) used q = go (ℕ_discrete n q) (count_set n used q)
  where
    go : Dec (n ≡ q) → count_marks n (set used q true) ≤ count_marks n used + 1 → count_marks n (set used q true) + bit (get_or (set used q true) n false) ≤ (count_marks n used + bit (get_or used n false)) + 1
    go (yes e) ih = let c = count_out n used q (omega arith) in let b = bit_small (get_or (set used q true) n false) in omega arith
    go (no e) ih = rw (get_or-set_other used q n true false e) (omega arith)

-- fewer marks than places leave a place free
pub count_free : (n : ℕ) (used : List Bool) → count_marks n used < n → SomeFree used n
unfolding count_marks
count_free zero used h = absurd (omega arith)
count_free (suc n) used h = go (get_or used n false) refl (λ l. count_free n used l)
  where
    go : (t : Bool) → get_or used n false ≡ t → (count_marks n used < n → SomeFree used n) → SomeFree used (suc n)
    go false e ih = record { at = n; low = omega arith; free = e }
    go true e ih =
        let b : bit (get_or used n false) ≡ 1 = ap bit e in
        let s = ih (omega arith) in
        record { at = s.at; low = (let l = s.low in omega arith); free = s.free }

-- what is listed and what is written from a to b, with the buffer; the two sides stand still
pub record Spent (z : Offsets) (a b : Memory) (k l : ℕ) : Type 0 where
  pub list : z.b * b.st.m + b.st.buf.n ≤ z.b * a.st.m + a.st.buf.n + k
  pub places : z.b * b.st.writes + b.st.buf.n ≤ z.b * a.st.writes + a.st.buf.n + l
  pub marks : count_marks z.p b.used + a.st.writes ≤ count_marks z.p a.used + b.st.writes
  pub x : b.st.x ≡ a.st.x
  pub y : b.st.y ≡ a.st.y

module _ (z : Offsets) (a : Memory) where
  flush_spent : Spent z a (flushed z a) z.b z.b
  unfolding flushed
  flush_spent =
      let c = count_set z.p a.used (next_free z a) in
      if_either (λ (b : Memory). Spent z a b z.b z.b) (eqb a.st.buf.n 0) a (written_at z a (next_free z a))
      (record { list = omega arith; places = omega arith; marks = omega arith; x = refl; y = refl })
      (record { list = omega arith; places = omega arith; marks = omega arith; x = refl; y = refl })

  -- a block reused pays for itself and for a short block before it
  reuse_spent : (q : ℕ) → Spent z a (reused z a q) (2 * z.b) z.b
  unfolding reused
  reuse_spent q =
      let f = flush_spent in
      let l = f.list in
      record { list = omega arith; places = f.places; marks = f.marks; x = f.x; y = f.y }

  -- a record gathered pays for its share of a full block
  pub gather_spent : (bottom : Bool) (h : Head) → Spent z a (gathered z bottom a h) 1 1
  unfolding gathered flushed
  gather_spent bottom h = go (bottom && eqb h.tombstone 1) (leb z.b (a.st.buf.n + 1)) refl
    where
      full : Memory
      full = with_progress a (with_buffer a.st (pushed a.st.buf h.key h.tombstone h.pay))

      more : Spent z a full 1 1
      more = record { list = omega arith; places = omega arith; marks = omega arith; x = refl; y = refl }

      go : (t u : Bool) → leb z.b (a.st.buf.n + 1) ≡ u → Spent z a (if t then a otherwise if u then flushed z full otherwise full) 1 1
      go true u e = record { list = omega arith; places = omega arith; marks = omega arith; x = refl; y = refl }
      go false false e = more
      go false true e =
          let c = count_set z.p a.used (next_free z full) in
          let l = leb-true z.b (a.st.buf.n + 1) e in
          if_either (λ (b : Memory). Spent z a b 1 1) (eqb (a.st.buf.n + 1) 0) full (written_at z full (next_free z full)) more
          (record { list = omega arith; places = omega arith; marks = omega arith; x = refl; y = refl })

-- what is spent on the list and on places: a block reused, if r, or one record
abbrev on_list : ℕ → Bool → ℕ
on_list b r = if r then 2 * b otherwise 1

abbrev on_places : ℕ → Bool → ℕ
on_places b r = if r then b otherwise 1

emit_spent : (z : Offsets) (a : Memory) (bottom : Bool) (x y : Point) (h : Head) (w : Option ℕ) → Spent z (moved a x y) (emitted z bottom a (record { x = x; y = y; head = h; whole = w })) (on_list z.b (is_some w)) (on_places z.b (is_some w))
unfolding emitted
emit_spent z a bottom x y h (Some q) = reuse_spent z (moved a x y) q
emit_spent z a bottom x y h None = gather_spent z (moved a x y) bottom h

-- what has been paid for since memory s
pub record Paid (z : Offsets) (t : Inputs) (s a : Memory) : Type 0 where
  pub x_end : z.b * a.st.x.i + a.st.x.j ≤ z.b * t.x
  pub y_end : z.b * a.st.y.i + a.st.y.j ≤ z.b * t.y
  pub list : z.b * a.st.m + a.st.buf.n + 2 * (z.b * s.st.x.i + z.b * s.st.y.i) ≤ z.b * s.st.m + 2 * (z.b * a.st.x.i + z.b * a.st.y.i) + (a.st.x.j + a.st.y.j)
  pub places : z.b * a.st.writes + a.st.buf.n + (z.b * s.st.x.i + z.b * s.st.y.i) ≤ z.b * s.st.writes + (z.b * a.st.x.i + z.b * a.st.y.i) + (a.st.x.j + a.st.y.j)
  pub marks : count_marks z.p a.used + s.st.writes ≤ count_marks z.p s.used + a.st.writes

-- how far one side has gone from p to q: it pays k on the list, and l on places
pub record Far (b end : ℕ) (p q : Point) (k l : ℕ) : Type 0 where
  pub list : 2 * (b * p.i) + p.j + k ≤ 2 * (b * q.i) + q.j
  pub places : b * p.i + p.j + l ≤ b * q.i + q.j
  pub end_high : b * q.i + q.j ≤ b * end

module _ (b end : ℕ) (p : Point) where
  -- it stands still
  stay_far : b * p.i + p.j ≤ b * end → Far b end p p 0 0
  stay_far h = record { list = omega arith; places = omega arith; end_high = h }

  -- past a whole block, or past one record
  after_far : (n : ℕ) (r : Bool) → p.i < end → p.j < n → n ≤ b → (r ≡ true → p.j ≡ 0) → Far b end p (point_after p n r) (on_list b r) (on_places b r)
  unfolding point_after
  after_far n true h j l w = let m = mul-le-mul_left {m = p.i + 1} {n = end} b (omega arith) in let e = w refl in record { list = omega arith; places = omega arith; end_high = omega arith }
  after_far n false h j l w =
      let m = mul-le-mul_left {m = p.i + 1} {n = end} b (omega arith) in
      after_one (λ (q : Point). Far b end p q 1 1) p n (λ g. record { list = omega arith; places = omega arith; end_high = omega arith }) (λ g. record { list = omega arith; places = omega arith; end_high = omega arith })

-- a block that is reused has not been begun
follows_start : (z : Offsets) (bottom : Bool) (ws : List ℕ) (c : Chunk) (j : ℕ) (o : Option Head) (n e : ℕ) → is_some (follows_at z bottom ws (head_at ws c j) o n e) ≡ true → j ≡ 0
follows_start z bottom ws c j o n e f =
    dite (dec_lt 0 j) (λ y. absurd (true≢false (sym f ∙ (follows_some z bottom ws (head_at ws c j) o n e ∙ follows_late z bottom ws c j o n e y)))) (λ n. omega arith)

module _ (z : Offsets) (t : Inputs) (s a : Memory) (p : Paid z t s a) where
  -- a move of the sides to x and y pays for what is spent then
  paid_by : (x y : Point) (b : Memory) (k l kx lx ky ly : ℕ) → Far z.b t.x a.st.x x kx lx → Far z.b t.y a.st.y y ky ly → k ≤ kx + ky → l ≤ lx + ly → Spent z (moved a x y) b k l → Paid z t s b
  paid_by x y b k l kx lx ky ly fx fy hk hl q =
      let xi : z.b * b.st.x.i ≡ z.b * x.i = ap (λ (v : Point). z.b * v.i) q.x in
      let yi : z.b * b.st.y.i ≡ z.b * y.i = ap (λ (v : Point). z.b * v.i) q.y in
      let xj : b.st.x.j ≡ x.j = ap (λ (v : Point). v.j) q.x in
      let yj : b.st.y.j ≡ y.j = ap (λ (v : Point). v.j) q.y in
      record {
        x_end = omega (arith, fx.end_high);
        y_end = omega (arith, fy.end_high);
        list = omega (arith, p.list, q.list, fx.list, fy.list);
        places = omega (arith, p.places, q.places, fx.places, fy.places);
        marks = (let u = p.marks in let v = q.marks in omega arith);
      }

  module _ (bottom : Bool) where
    pub upper_paid : (c : Chunk) (o : Option Head) (e : ℕ) → c.n ≤ z.b → a.st.x.i < t.x → a.st.x.j < c.n → let h = head_at a.words c a.st.x.j in let w = follows_at z bottom a.words h o a.st.buf.n e in
        Paid z t s (emitted z bottom a (record { x = point_after a.st.x c.n (is_some w); y = a.st.y; head = h; whole = w }))
    upper_paid c o e hi g j =
        let h = head_at a.words c a.st.x.j in
        let w = follows_at z bottom a.words h o a.st.buf.n e in
        let r = is_some w in
        let v = point_after a.st.x c.n r in
        paid_by v a.st.y _ (on_list z.b r) (on_places z.b r) (on_list z.b r) (on_places z.b r) 0 0
        (after_far z.b t.x a.st.x c.n r g j hi (follows_start z bottom a.words c a.st.x.j o a.st.buf.n e)) (stay_far z.b t.y a.st.y p.y_end) (omega arith) (omega arith) (emit_spent z a bottom v a.st.y h w)

    pub lower_paid : (c : Chunk) (o : Option Head) (e : ℕ) → c.n ≤ z.b → a.st.y.i < t.y → a.st.y.j < c.n → let h = head_at a.words c a.st.y.j in let w = follows_at z bottom a.words h o a.st.buf.n e in
        Paid z t s (emitted z bottom a (record { x = a.st.x; y = point_after a.st.y c.n (is_some w); head = h; whole = w }))
    lower_paid c o e hi g j =
        let h = head_at a.words c a.st.y.j in
        let w = follows_at z bottom a.words h o a.st.buf.n e in
        let r = is_some w in
        let v = point_after a.st.y c.n r in
        paid_by a.st.x v _ (on_list z.b r) (on_places z.b r) 0 0 (on_list z.b r) (on_places z.b r)
        (stay_far z.b t.x a.st.x p.x_end) (after_far z.b t.y a.st.y c.n r g j hi (follows_start z bottom a.words c a.st.y.j o a.st.buf.n e)) (omega arith) (omega arith) (emit_spent z a bottom a.st.x v h w)

    pub both_paid : (c d : Chunk) (h : Head) → c.n ≤ z.b → d.n ≤ z.b → a.st.x.i < t.x → a.st.x.j < c.n → a.st.y.i < t.y → a.st.y.j < d.n → Paid z t s (emitted z bottom a (record { x = point_after a.st.x c.n false; y = point_after a.st.y d.n false; head = h; whole = None }))
    both_paid c d h hc hd gx jx gy jy =
        let v = point_after a.st.x c.n false in
        let w = point_after a.st.y d.n false in
        paid_by v w _ 1 1 1 1 1 1
        (after_far z.b t.x a.st.x c.n false gx jx hc (λ e. absurd (true≢false (sym e)))) (after_far z.b t.y a.st.y d.n false gy jy hd (λ e. absurd (true≢false (sym e)))) (omega arith) (omega arith) (emit_spent z a bottom v w h None)

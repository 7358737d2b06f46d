-- Laws of the machine's steps.
use Prim.Native.Nat.{ℕ, zero, suc, ◌+◌, ◌-◌, ◌≤◌, ◌<◌}
use mathlib.Core.Path.{◌≡◌, sym, ap, ◌∙◌, refl, subst}
use mathlib.Core.Bool.{Bool, true, false, true≢false}
use Rattle.std.specs.Prelude.{Option, Some, None}
use mathlib.Core.List.{List}
use mathlib.Core.Logic.{dite}
use native.Mathlib.Decide.{dec_lt}
use native.Mathlib.Omega.{arith}
use lib.Dec.{leb, ltb, eqb}
use borrow.Author.Tests.{le-leb, leb-true, leb-false}
use Rattle.levels.specs.Basics.{if◌then◌otherwise◌}
use Rattle.levels.proofs.Basics.{and_left, and_right, if_either}
use Rattle.blocks.specs.declared.Offsets.{Offsets}
use Rattle.blocks.specs.Blocks.{next_mark}
use Rattle.sides.specs.declared.Head.{Head}
use Rattle.sides.specs.Sides.{first}
use Rattle.stream.specs.declared.Point.{Point}
use Rattle.stream.specs.declared.Progress.{Progress}
use Rattle.stream.specs.declared.Move.{Move}
use Rattle.stream.specs.declared.Inputs.{Inputs}
use Rattle.stream.specs.Machine.{Memory, Movable, Ready, Turned, point_after, moved_to, lower_move, upper_move, both_move, chosen, flushed, written_at, turn, turns, idle}

pub flushed_m : (z : Offsets) (a : Memory) → (flushed z a).st.m ≤ a.st.m + 1
unfolding flushed
flushed_m z a = if_either (λ (b : Memory). b.st.m ≤ a.st.m + 1) (eqb a.st.buf.n 0) a (written_at z a (next_mark z.p a.used a.st.cursor)) (omega arith) (omega arith)

pub flushed_y : (z : Offsets) (a : Memory) → (flushed z a).st.y ≡ a.st.y
unfolding flushed
flushed_y z a = if_either (λ (b : Memory). b.st.y ≡ a.st.y) (eqb a.st.buf.n 0) a (written_at z a (next_mark z.p a.used a.st.cursor)) refl refl

-- past one record: it was the last of its block, or there are more
pub after_one : (P : Point → Type 0) (p : Point) (n : ℕ) → (n ≤ p.j + 1 → P (record { i = p.i + 1; j = 0 })) → (p.j + 1 < n → P (record { i = p.i; j = p.j + 1 })) → P (point_after p n false)
unfolding point_after
after_one P p n f g = go (leb n (p.j + 1)) refl
  where
    go : (t : Bool) → leb n (p.j + 1) ≡ t → P (if t then record { i = p.i + 1; j = 0 } otherwise record { i = p.i; j = p.j + 1 })
    go true e = f (leb-true n (p.j + 1) e)
    go false e = g (leb-false n (p.j + 1) e)

-- one branch, where the test is known
pub if_true : {A : Type 0} (t : Bool) (a b : A) → t ≡ true → (if t then a otherwise b) ≡ a
if_true true a b e = refl
if_true false a b e = absurd (true≢false (sym e))

pub if_false : {A : Type 0} (t : Bool) (a b : A) → t ≡ false → (if t then a otherwise b) ≡ b
if_false true a b e = absurd (true≢false e)
if_false false a b e = refl

module _ (z : Offsets) (t : Inputs) (xs ys : List ℕ) where
  -- idle is what stands at both ends
  pub idle_of : (a : Memory) → t.x ≤ a.st.x.i → t.y ≤ a.st.y.i → idle z t xs ys a ≡ true
  idle_of a h l = rw (le-leb t.x a.st.x.i h, le-leb t.y a.st.y.i l)

  pub idle_ends : (a : Memory) → idle z t xs ys a ≡ true → (t.x ≤ a.st.x.i) × (t.y ≤ a.st.y.i)
  idle_ends a e =
      let p = leb t.x a.st.x.i in
      let q = leb t.y a.st.y.i in
      (leb-true t.x a.st.x.i (and_left p q e), leb-true t.y a.st.y.i (and_right p q e))

  -- The turns are counted outside the machine's text: `rw` in a goal that holds an open turn took 2.3 GB.
  pub turns_idle : (d i : ℕ) (a : Memory) → idle z t xs ys (turns z t xs ys i a) ≡ true → turns z t xs ys (i + d) a ≡ turns z t xs ys i a
  unfolding turns
  turns_idle zero i a e = let h : i + zero ≡ i = omega arith in ap (λ (n : ℕ). turns z t xs ys n a) h
  turns_idle (suc d) i a e =
      let h : i + suc d ≡ suc (i + d) = omega arith in
      let b : Memory = turns z t xs ys (i + d) a in
      let s : b ≡ turns z t xs ys i a = turns_idle d i a e in
      ap (λ (n : ℕ). turns z t xs ys n a) h ∙ (if_true (idle z t xs ys b) b (turn z t xs ys b) (ap (idle z t xs ys) s ∙ e) ∙ s)

  -- turns after turns
  pub turns_add : (m i : ℕ) (a : Memory) → turns z t xs ys m (turns z t xs ys i a) ≡ turns z t xs ys (i + m) a
  unfolding turns
  turns_add zero i a = let h : i ≡ i + zero = omega arith in ap (λ (n : ℕ). turns z t xs ys n a) h
  turns_add (suc m) i a =
      let h : suc (i + m) ≡ i + suc m = omega arith in
      ap (λ (b : Memory). if idle z t xs ys b then b otherwise turn z t xs ys b) (turns_add m i a) ∙ ap (λ (n : ℕ). turns z t xs ys n a) h

  -- once both sides are used up after so many turns, more turns change nothing
  turns_past : (limit i : ℕ) (a : Memory) → idle z t xs ys (turns z t xs ys limit a) ≡ true → limit ≤ i → turns z t xs ys i a ≡ turns z t xs ys limit a
  turns_past limit i a e l =
      let h : i ≡ limit + (i - limit) = omega arith in
      ap (λ (n : ℕ). turns z t xs ys n a) h ∙ turns_idle (i - limit) limit a e

  pub turned_none : (a : Memory) → Turned z t xs ys 0 a a
  unfolding turns
  turned_none a = record { count = 0; enough = omega arith; same = refl }

  -- where both sides are used up a turn changes nothing
  pub turned_idle : (a : Memory) → idle z t xs ys a ≡ true → Turned z t xs ys 1 a a
  unfolding turns
  turned_idle a e = record { count = 1; enough = omega arith; same = sym (if_true (idle z t xs ys a) a (turn z t xs ys a) e) }

  pub turned_more : (k : ℕ) (a b c : Memory) → Turned z t xs ys k a b → Turned z t xs ys 1 b c → Turned z t xs ys (k + 1) a c
  turned_more k a b c f g =
      record { count = f.count + g.count; enough = (let h = f.enough in let l = g.enough in omega arith); same = g.same ∙ (ap (turns z t xs ys g.count) f.same ∙ turns_add g.count f.count a) }

  -- a limit after which both sides are used up
  module _ (limit : ℕ) (a : Memory) (over : idle z t xs ys (turns z t xs ys limit a) ≡ true) where
    pub turned_all : (b : Memory) → Turned z t xs ys limit a b → b ≡ turns z t xs ys limit a
    turned_all b f = f.same ∙ turns_past limit f.count a over f.enough

    pub turned_over : (k : ℕ) (b : Memory) → Turned z t xs ys k a b → idle z t xs ys b ≡ true → b ≡ turns z t xs ys limit a
    turned_over k b f e =
        f.same ∙ dite (dec_lt limit f.count) (λ l. turns_past limit f.count a over (omega arith)) (λ l. sym (turns_past f.count limit a (ap (idle z t xs ys) (sym f.same) ∙ e) (omega arith)))

    -- until then each turn can be made
    pub turned_ready : (k : ℕ) (b : Memory) → ((i : ℕ) → i ≤ limit → Ready z t xs ys (turns z t xs ys i a)) → Turned z t xs ys k a b → idle z t xs ys b ≡ false → Ready z t xs ys b
    turned_ready k b r f e =
        subst (Ready z t xs ys) (sym f.same)
        (dite (dec_lt limit f.count) (λ l. absurd (true≢false (sym over ∙ (ap (idle z t xs ys) (sym (f.same ∙ turns_past limit f.count a over (omega arith))) ∙ e)))) (λ l. r f.count (omega arith)))

-- the places, the buffer and the list are not touched by a move of the sides
pub moved_movable : (z : Offsets) (xs : List ℕ) (used : List Bool) (w : Progress) (x y : Point) → Movable z xs used w → Movable z xs used (moved_to w x y)
moved_movable z xs used w x y k =
    let f = k.flushable in
    record {
      flushable = record { sized = f.sized; cursor = f.cursor; full = f.full; room = f.room; count = f.count; free = f.free };
      gatherable = record { few = k.gatherable.few; bits = k.gatherable.bits };
      room = k.room;
    }

-- What comes next, by the side that comes first.
module _ (z : Offsets) (bottom : Bool) (xs : List ℕ) (p q : Point) where
  pub chosen_lower : (x y : Option Head) (i : Head) (n e : ℕ) → y ≡ Some i → first y x ≡ true → chosen z bottom xs p q x y n e ≡ Some (lower_move z bottom xs p q i x n e)
  unfolding chosen
  chosen_lower None None i n e s f = absurd (true≢false (sym f))
  chosen_lower (Some h) None i n e s f = absurd (true≢false (sym f))
  chosen_lower None (Some j) i n e s f = let w : j ≡ i = cc in ap (λ (k : Head). Some (lower_move z bottom xs p q k None n e)) w
  chosen_lower (Some h) (Some j) i n e s f = let w : j ≡ i = cc in ap Some (if_true (ltb j.key h.key) _ _ f) ∙ ap (λ (k : Head). Some (lower_move z bottom xs p q k (Some h) n e)) w

  pub chosen_upper : (x y : Option Head) (h : Head) (n e : ℕ) → x ≡ Some h → first y x ≡ false → first x y ≡ true → chosen z bottom xs p q x y n e ≡ Some (upper_move z bottom xs p q h y n e)
  unfolding chosen
  chosen_upper None None h n e s f g = absurd (true≢false (sym g))
  chosen_upper None (Some j) h n e s f g = absurd (true≢false (sym g))
  chosen_upper (Some i) None h n e s f g = let w : i ≡ h = cc in ap (λ (k : Head). Some (upper_move z bottom xs p q k None n e)) w
  chosen_upper (Some i) (Some j) h n e s f g =
      let w : i ≡ h = cc in
      ap Some (if_false (ltb j.key i.key) _ _ f ∙ if_true (ltb i.key j.key) _ _ g) ∙ ap (λ (k : Head). Some (upper_move z bottom xs p q k (Some j) n e)) w

  pub chosen_both : (x y : Option Head) (h i : Head) (n e : ℕ) → x ≡ Some h → y ≡ Some i → first y x ≡ false → first x y ≡ false → chosen z bottom xs p q x y n e ≡ Some (both_move p q h i)
  unfolding chosen
  chosen_both None y h i n e r s f g = absurd (cc)
  chosen_both (Some j) None h i n e r s f g = absurd (cc)
  chosen_both (Some j) (Some k) h i n e r s f g =
      let v : j ≡ h = cc in
      let w : k ≡ i = cc in
      ap Some (if_false (ltb k.key j.key) _ _ f ∙ if_false (ltb j.key k.key) _ _ g) ∙ (ap (λ (a : Head). Some (both_move p q a k)) v ∙ ap (λ (a : Head). Some (both_move p q h a)) w)

  -- where neither comes first and one is used up, both are
  pub chosen_not : (x y : Option Head) (n e : ℕ) → first y x ≡ false → first x y ≡ false → x ≡ None → chosen z bottom xs p q x y n e ≡ None
  unfolding chosen
  chosen_not None None n e f g r = refl
  chosen_not None (Some i) n e f g r = absurd (true≢false f)
  chosen_not (Some h) y n e f g r = absurd (cc)

  -- every move is one of these three
  pub chosen_by : (P : Move → Type 0) (x y : Option Head) (n e : ℕ) (c : Move) → chosen z bottom xs p q x y n e ≡ Some c
      → ((i : Head) → y ≡ Some i → first y x ≡ true → P (lower_move z bottom xs p q i x n e))
      → ((h : Head) → x ≡ Some h → first y x ≡ false → first x y ≡ true → P (upper_move z bottom xs p q h y n e))
      → ((h i : Head) → x ≡ Some h → y ≡ Some i → first y x ≡ false → first x y ≡ false → P (both_move p q h i)) → P c
  unfolding chosen
  chosen_by P None None n e c s l u b = absurd (cc)
  chosen_by P (Some h) None n e c s l u b = let w : upper_move z bottom xs p q h None n e ≡ c = cc in subst P w (u h refl refl refl)
  chosen_by P None (Some i) n e c s l u b = let w : lower_move z bottom xs p q i None n e ≡ c = cc in subst P w (l i refl refl)
  chosen_by P (Some h) (Some i) n e c s l u b =
      let w : (if ltb i.key h.key then lower_move z bottom xs p q i (Some h) n e
      otherwise if ltb h.key i.key then upper_move z bottom xs p q h (Some i) n e
      otherwise both_move p q h i) ≡ c = cc in
      subst P w (go (ltb i.key h.key) (ltb h.key i.key) refl refl)
    where
      go : (f g : Bool) → ltb i.key h.key ≡ f → ltb h.key i.key ≡ g
          → P (if f then lower_move z bottom xs p q i (Some h) n e otherwise if g then upper_move z bottom xs p q h (Some i) n e otherwise both_move p q h i)
      go true g ef eg = l i refl ef
      go false true ef eg = u h refl ef eg
      go false false ef eg = b h i refl refl ef eg

  pub chosen_none : (x y : Option Head) (n e : ℕ) → chosen z bottom xs p q x y n e ≡ None → (x ≡ None) × (y ≡ None)
  unfolding chosen
  chosen_none None None n e s = (refl, refl)
  chosen_none (Some h) None n e s = absurd (cc)
  chosen_none None (Some i) n e s = absurd (cc)
  chosen_none (Some h) (Some i) n e s = absurd (cc)

  module _ (x y : Option Head) (n e : ℕ) (c : Move) (s : chosen z bottom xs p q x y n e ≡ Some c) where
    pub lower_first : first y x ≡ true → (y ≡ Some c.head) × (c ≡ lower_move z bottom xs p q c.head x n e)
    lower_first =
        chosen_by (λ (m : Move). first y x ≡ true → (y ≡ Some m.head) × (m ≡ lower_move z bottom xs p q m.head x n e)) x y n e c s (λ i r f g. (r, refl))
        (λ h r f g k. absurd (true≢false (sym k ∙ f))) (λ h i r t f g k. absurd (true≢false (sym k ∙ f)))

    pub upper_first : first y x ≡ false → first x y ≡ true → (x ≡ Some c.head) × (c ≡ upper_move z bottom xs p q c.head y n e)
    upper_first =
        chosen_by (λ (m : Move). first y x ≡ false → first x y ≡ true → (x ≡ Some m.head) × (m ≡ upper_move z bottom xs p q m.head y n e)) x y n e c s (λ i r f k g. absurd (true≢false (sym f ∙ k)))
        (λ h r f g k m. (r, refl)) (λ h i r t f g k m. absurd (true≢false (sym m ∙ g)))

    pub both_first : first y x ≡ false → first x y ≡ false → x ≡ Some c.head
    both_first =
        chosen_by (λ (m : Move). first y x ≡ false → first x y ≡ false → x ≡ Some m.head) x y n e c s (λ i r f k g. absurd (true≢false (sym f ∙ k))) (λ h r f g k m. absurd (true≢false (sym g ∙ m)))
        (λ h i r t f g k m. r)

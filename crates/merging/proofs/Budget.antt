-- Every step of a merge finds room in the list and a free place, since its inputs pay for them.
use Prim.Native.Nat.{ℕ, zero, suc, ◌+◌, ◌-◌, ◌*◌, ◌≤◌, ◌<◌}
use mathlib.Core.Path.{◌≡◌, sym, ap, ◌∙◌, refl}
use mathlib.Core.Bool.{Bool, true, false, true≢false}
use mathlib.Core.List.{List}
use Rattle.std.specs.Prelude.{Some}
use native.Mathlib.Decide.{dec_lt}
use native.Mathlib.Nat.{le_refl, mul-le-mul_left, le_of_mul-le-mul_right}
use native.Mathlib.Omega.{arith}
use Rattle.levels.specs.Basics.{if◌then◌otherwise◌, iterate}
use Rattle.levels.specs.Merge.{Out, step}
use Rattle.blocks.specs.declared.Offsets.{Offsets}
use Rattle.blocks.specs.declared.Buffer.{Buffer}
use Rattle.blocks.specs.Blocks.{buffer_of}
use Rattle.sides.specs.declared.Chunk.{Chunk}
use Rattle.stream.specs.declared.Move.{Move}
use Rattle.stream.specs.declared.Inputs.{Inputs}
use Rattle.sides.specs.Sides.{chunk_of, head_at, no_head, last_size, first}
use Rattle.stream.specs.Machine.{Memory, chosen, emitted, turn, idle, turns}
use Rattle.levels.proofs.Basics.{if_either}
use Rattle.stream.proofs.Laws.{idle_of}
use Rattle.merging.specs.Contract.{count_marks}
use Rattle.merging.proofs.Relation.{Holds, Core, Budget, start}
use Rattle.merging.proofs.Relation as relation
use Rattle.merging.proofs.Sim.{head_at_lem, head_no}
use Rattle.merging.proofs.Run.{sim_turns}
use Rattle.merging.proofs.Paid.{Paid, upper_paid, lower_paid, both_paid, count_free}

-- a step keeps the potential
pub turn_paid : (z : Offsets) (t : Inputs) (xs ys : List ℕ) (s : Memory) (o : Out) (a : Memory) → Core z t xs ys o a → Paid z t s a → idle z t xs ys a ≡ false → Paid z t s (turn z t xs ys a)
unfolding turn chosen
turn_paid z t xs ys s o a c p idles = go (dec_lt a.st.x.i t.x) (dec_lt a.st.y.i t.y)
  where
    x : Chunk
    x = chunk_of z t.pages a.words xs a.st.x.i

    y : Chunk
    y = chunk_of z false a.words ys a.st.y.i

    e : ℕ
    e = last_size z a.words a.out a.st.m

    Pays : Move → Type 0
    Pays m = Paid z t s (emitted z t.bottom a m)

    go : Dec (a.st.x.i < t.x) → Dec (a.st.y.i < t.y) → Paid z t s (turn z t xs ys a)
    go (no nx) (no ny) = absurd (true≢false (sym (idle_of z t xs ys a (omega arith) (omega arith)) ∙ idles))
    go (yes gx) (no ny) =
        rw (head_at_lem z t.pages a.words xs a.st.x.i a.st.x.j t.x gx, head_no z false a.words ys a.st.y.i a.st.y.j t.y (omega arith))
        (upper_paid z t s a p t.bottom x no_head e (c.upper.stands a.st.x.i (le_refl a.st.x.i) gx).formed.high gx (c.upper.inside gx))
    go (no nx) (yes gy) =
        rw (head_no z t.pages a.words xs a.st.x.i a.st.x.j t.x (omega arith), head_at_lem z false a.words ys a.st.y.i a.st.y.j t.y gy)
        (lower_paid z t s a p t.bottom y no_head e (c.lower.stands a.st.y.i (le_refl a.st.y.i) gy).formed.high gy (c.lower.inside gy))
    go (yes gx) (yes gy) =
        let hx = (c.upper.stands a.st.x.i (le_refl a.st.x.i) gx).formed.high in
        let hy = (c.lower.stands a.st.y.i (le_refl a.st.y.i) gy).formed.high in
        let kx = head_at a.words x a.st.x.j in
        let ky = head_at a.words y a.st.y.j in
        rw (head_at_lem z t.pages a.words xs a.st.x.i a.st.x.j t.x gx, head_at_lem z false a.words ys a.st.y.i a.st.y.j t.y gy)
        (if_either Pays (first (Some ky) (Some kx)) _ _ (lower_paid z t s a p t.bottom y (Some kx) e hy gy (c.lower.inside gy))
        (if_either Pays (first (Some kx) (Some ky)) _ _ (upper_paid z t s a p t.bottom x (Some ky) e hx gx (c.upper.inside gx))
        (both_paid z t s a p t.bottom x y kx hx hy gx (c.upper.inside gx) gy (c.lower.inside gy))))

-- what a merge starts with: nothing written, nothing begun, room and free places for its inputs
pub record Supplied (z : Offsets) (t : Inputs) (xs ys : List ℕ) (a : Memory) : Type 0 where
  pub core : Core z t xs ys (relation.first z t xs ys a).out a
  pub holds : Holds z (start a) (relation.first z t xs ys a).out a
  pub x_start : a.st.x.j ≡ 0
  pub y_start : a.st.y.j ≡ 0
  pub writes : a.st.writes ≡ 0
  pub x_high : t.x ≤ 4096
  pub y_high : t.y ≤ 4096
  pub room : a.st.m + 2 * ((t.x - a.st.x.i) + (t.y - a.st.y.i)) + 2 ≤ 4096
  pub free : count_marks z.p a.used + ((t.x - a.st.x.i) + (t.y - a.st.y.i)) + 1 ≤ z.p

-- the potential bounds what is listed, written and marked
pub record Bounded (z : Offsets) (t : Inputs) (s a : Memory) : Type 0 where
  pub m : a.st.m ≤ s.st.m + 2 * ((t.x - s.st.x.i) + (t.y - s.st.y.i))
  pub writes : a.st.writes ≤ s.st.writes + ((t.x - s.st.x.i) + (t.y - s.st.y.i))
  pub marks : count_marks z.p a.used ≤ count_marks z.p s.used + ((t.x - s.st.x.i) + (t.y - s.st.y.i))

pub paid_bounded : (z : Offsets) (t : Inputs) (s a : Memory) → 1 ≤ z.b → s.st.x.i ≤ t.x → s.st.y.i ≤ t.y → Paid z t s a → Bounded z t s a
paid_bounded z t s a b hx hy p =
    let nx = t.x - s.st.x.i in
    let ny = t.y - s.st.y.i in
    let ex : z.b * t.x ≡ z.b * (s.st.x.i + nx) = ap (λ (i : ℕ). z.b * i) (omega arith) in
    let ey : z.b * t.y ≡ z.b * (s.st.y.i + ny) = ap (λ (i : ℕ). z.b * i) (omega arith) in
    let px = p.x_end in
    let py = p.y_end in
    let l : a.st.m * z.b ≤ (s.st.m + 2 * (nx + ny)) * z.b = (let u = p.list in omega arith) in
    let w : a.st.writes * z.b ≤ (s.st.writes + (nx + ny)) * z.b = (let u = p.places in omega arith) in
    let ml = le_of_mul-le-mul_right l b in
    let wl = le_of_mul-le-mul_right w b in
    record { m = ml; writes = wl; marks = (let u = p.marks in omega arith) }

module _ (z : Offsets) (t : Inputs) (xs ys : List ℕ) (a : Memory) (k : Supplied z t xs ys a) where
  buffer_empty : a.st.buf.n ≡ 0
  unfolding buffer_of
  buffer_empty = ap (λ (b : Buffer). b.n) k.holds.buf

  first_paid : Paid z t a a
  first_paid =
      let n = buffer_empty in
      let x = mul-le-mul_left {m = a.st.x.i} {n = t.x} z.b k.core.upper.low in
      let y = mul-le-mul_left {m = a.st.y.i} {n = t.y} z.b k.core.lower.low in
      let xj = k.x_start in
      let yj = k.y_start in
      record { x_end = omega arith; y_end = omega arith; list = omega arith; places = omega arith; marks = omega arith }

  cores : (n : ℕ) → ((i : ℕ) → i < n → Budget z (turns z t xs ys i a)) → Core z t xs ys (iterate n (step z.b t.bottom) (relation.first z t xs ys a)).out (turns z t xs ys n a)
  cores n g = (sim_turns z t xs ys (start a) n (relation.first z t xs ys a) a k.core (record { upper = refl; lower = refl; out = k.holds }) g).0

  turns_paid : (n : ℕ) → ((i : ℕ) → i < n → Budget z (turns z t xs ys i a)) → Paid z t a (turns z t xs ys n a)
  unfolding turns
  turns_paid zero g = first_paid
  turns_paid (suc n) g = go (idle z t xs ys (turns z t xs ys n a)) refl (turns_paid n (λ i h. g i (omega arith))) (cores n (λ i h. g i (omega arith)))
    where
      go : (b : Bool) → idle z t xs ys (turns z t xs ys n a) ≡ b → Paid z t a (turns z t xs ys n a) → Core z t xs ys (iterate n (step z.b t.bottom) (relation.first z t xs ys a)).out (turns z t xs ys n a)
          → Paid z t a (if b then turns z t xs ys n a otherwise turn z t xs ys (turns z t xs ys n a))
      go true e p c = p
      go false e p c = turn_paid z t xs ys a (iterate n (step z.b t.bottom) (relation.first z t xs ys a)).out (turns z t xs ys n a) c p e

  bounded : (n : ℕ) → ((i : ℕ) → i < n → Budget z (turns z t xs ys i a)) → Bounded z t a (turns z t xs ys n a)
  bounded n g = paid_bounded z t a (turns z t xs ys n a) (let l = k.core.sized.b_low in omega arith) k.core.upper.low k.core.lower.low (turns_paid n g)

  budget_here : (n : ℕ) → ((i : ℕ) → i < n → Budget z (turns z t xs ys i a)) → Budget z (turns z t xs ys n a)
  budget_here n g =
      let b = bounded n g in
      let c = (cores n g).full in
      let w = b.writes in
      let m = b.m in
      let r = k.room in
      let z0 = k.writes in
      record { room = omega arith; count = omega arith; free = count_free z.p (turns z t xs ys n a).used (let u = b.marks in let f = k.free in omega arith) }

  budgets_below : (n i : ℕ) → i < n → Budget z (turns z t xs ys i a)
  budgets_below zero i h = absurd (omega arith)
  budgets_below (suc n) i h = go (dec_lt i n) (budgets_below n)
    where
      go : Dec (i < n) → ((j : ℕ) → j < n → Budget z (turns z t xs ys j a)) → Budget z (turns z t xs ys i a)
      go (yes l) f = f i l
      go (no l) f = let e : i ≡ n = omega arith in rw e (budget_here n f)

  -- there is room at every step
  pub budgets : (i : ℕ) → Budget z (turns z t xs ys i a)
  budgets i = budgets_below (suc i) i (omega arith)

  pub turns_bounded : (n : ℕ) → Bounded z t a (turns z t xs ys n a)
  turns_bounded n = bounded n (λ i h. budgets i)

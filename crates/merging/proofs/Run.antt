-- The machine's turns is the stream of the merge on blocks.
use Prim.Native.Nat.{ℕ, zero, suc, ◌≤◌, ◌<◌}
use mathlib.Core.Path.{◌≡◌, ◌∙◌, refl}
use mathlib.Core.Bool.{Bool, true, false}
use mathlib.Core.List.{List}
use native.Mathlib.Nat.{le_refl}
use native.Mathlib.Omega.{arith}
use lib.ListN.{get_or}
use Rattle.levels.specs.Basics.{if◌then◌otherwise◌, iterate}
use Rattle.levels.specs.Merge.{Out, State, step}
use Rattle.blocks.specs.declared.Offsets.{Offsets}
use Rattle.blocks.specs.Blocks.{Sized, buffer_of}
use Rattle.sides.specs.Sides.{keys_in, chunk_of, Readable}
use Rattle.sides.proofs.Laws.{chunk_inside}
use Rattle.stream.specs.declared.Point.{Point}
use Rattle.stream.specs.declared.Inputs.{Inputs}
use Rattle.stream.specs.Machine.{Memory, Ready, turn, idle, turns}
use Rattle.stream.proofs.Laws.{idle_ends}
use Rattle.merging.proofs.Relation.{Holds, Stands, SideAt, Core, Budget, Sim, Begun, start, first}
use Rattle.merging.proofs.Blocks.{recs_from, Flash}
use Rattle.merging.proofs.Decode.{chunk_slots}
use Rattle.merging.proofs.Moves.{side_none}
use Rattle.merging.proofs.Sim.{Both, sim_step}
use Rattle.merging.proofs.Steps.{step_idle}
use Rattle.words.proofs.Slots.{mark_small}
use Rattle.words.proofs.Ranks.{keys_rise_lem, keys_slots}
use Rattle.slices.specs.Ranks as numbers

iterate_end : {A : Type 0} (n : ℕ) (f : A → A) (a : A) → iterate (suc n) f a ≡ f (iterate n f a)
iterate_end zero f a = refl
iterate_end (suc n) f a = iterate_end n f (f a)

-- the keys of a chunk that stands rise, as a search reads them
chunk_rises : (z : Offsets) (pages : Bool) (ws : List ℕ) (used : List Bool) (list : List ℕ) (i : ℕ) → Sized z ws → i < 4096 → Stands z pages ws used list i → numbers.Rising 0 (keys_in ws (chunk_of z pages ws list i))
chunk_rises z pages ws used list i s h k =
    let c = chunk_of z pages ws list i in
    let n = chunk_inside z pages ws list i (record { sized = s; low = h; place = k.place; page = k.page }) k.formed.high in
    rw (← keys_slots ws (get_or ws c.marks 0) c.keys c.pays c.n n.1, chunk_slots ws c c.n) (keys_rise_lem 0 (recs_from ws c 0 c.n) k.formed.rises)

side_readable : {z : Offsets} {pages : Bool} {ws : List ℕ} {used : List Bool} {list : List ℕ} {end : ℕ} {p : Point} → Sized z ws → end ≤ 4096 → SideAt z pages ws used list end p → Readable z pages ws list p.i p.j end
side_readable {z = z} {pages = pages} {ws = ws} {used = used} {list = list} {p = p} s h k =
    record { sized = s; end_high = h; place = λ g. (k.stands p.i (le_refl p.i) g).place; page = λ g. (k.stands p.i (le_refl p.i) g).page; inside = k.inside; count = λ g. (k.stands p.i (le_refl p.i) g).formed.high; rises = λ g. chunk_rises z pages ws used list p.i s (omega arith) (k.stands p.i (le_refl p.i) g) }

module _ (z : Offsets) (t : Inputs) (xs ys : List ℕ) (d : Flash) where
  -- the code's `requires` follow
  pub ready_of : (o : Out) (a : Memory) → t.x ≤ 4096 → t.y ≤ 4096 → Core z t xs ys o a → Budget z a → Holds z d o a → Ready z t xs ys a
  unfolding buffer_of
  ready_of o a hx hy c g h =
      let hl = c.full in
      let r = g.room in
      let b = c.sized.b_high in
      let f = c.few in
      record {
        upper = side_readable c.sized hx c.upper;
        lower = side_readable c.sized hy c.lower;
        movable = record {
          flushable = record { sized = c.sized; cursor = c.cursor; full = rw h.buf (omega arith); room = omega arith; count = g.count; free = g.free };
          gatherable = record { few = rw h.buf f; bits = rw h.buf (mark_small o.buffer) };
          room = omega arith;
        };
        listed = c.listed;
      }

  pub sim_turns : (n : ℕ) (s : State) (a : Memory) → Core z t xs ys s.out a → Sim z t xs ys d s a → ((i : ℕ) → i < n → Budget z (turns z t xs ys i a))
      → Both z t xs ys d (iterate n (step z.b t.bottom) s) (turns z t xs ys n a)
  unfolding turns
  sim_turns zero s a c m g = (c, m)
  sim_turns (suc n) s a c m g = rw iterate_end (go (idle z t xs ys r) refl (sim_turns n s a c m (λ i h. g i (omega arith))) (g n (omega arith)))
    where
      r : Memory
      r = turns z t xs ys n a

      made : State
      made = iterate n (step z.b t.bottom) s

      go : (b : Bool) → idle z t xs ys r ≡ b → Both z t xs ys d made r → Budget z r → Both z t xs ys d (step z.b t.bottom made) (if b then r otherwise turn z t xs ys r)
      go false e ih bu = sim_step z t xs ys d made r ih.0 bu ih.1 e
      go true e ih bu =
          let h = idle_ends z t xs ys r e in
          rw (step_idle z.b t.bottom made
          (ih.1.upper ∙ side_none z t.pages r.words xs r.st.x.i r.st.x.j t.x h.0)
          (ih.1.lower ∙ side_none z false r.words ys r.st.y.i r.st.y.j t.y h.1)) ih

module _ (z : Offsets) (t : Inputs) (xs ys : List ℕ) (n : ℕ) (a : Memory) (b : Begun z t xs ys n a) where
  -- a merge that has begun goes on as the stream on blocks
  pub begun_turns : (i : ℕ) → i ≤ n
      → Both z t xs ys (start a) (iterate i (step z.b t.bottom) (first z t xs ys a)) (turns z t xs ys i a)
  begun_turns i h = sim_turns z t xs ys (start a) i (first z t xs ys a) a b.core (record { upper = refl; lower = refl; out = b.holds }) (λ k l. b.budget k (omega arith))

  pub begun_ready : (i : ℕ) → i ≤ n → Ready z t xs ys (turns z t xs ys i a)
  begun_ready i h = let r = begun_turns i h in ready_of z t xs ys (start a) (iterate i (step z.b t.bottom) (first z t xs ys a)).out (turns z t xs ys i a) b.x_high b.y_high r.0 (b.budget i h) r.1.out

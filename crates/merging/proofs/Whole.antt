-- Steps 3 and 4 together: what the words hold afterwards is the merged level, laid in key order.
use Prim.Native.Nat.{ℕ, zero, suc, ◌+◌, ◌-◌, ◌≤◌, ◌<◌}
use mathlib.Core.Path.{◌≡◌, ◌∙◌, refl}
use mathlib.Core.Bool.{Bool, true, false}
use mathlib.Core.List.{List}
use Rattle.std.specs.Prelude.{Option, None, Some}
use native.Mathlib.Nat.{le_refl}
use native.Mathlib.Omega.{arith}
use lib.ListN.{get_or}
use Rattle.levels.specs.Basics.{iterate}
use Rattle.levels.specs.Merge.{Out, step, join_left, join}
use Rattle.blocks.specs.declared.Offsets.{Offsets}
use Rattle.blocks.specs.Blocks.{Free}
use Rattle.blocks.proofs.Laws.{free_found}
use Rattle.stream.specs.declared.Move.{Move}
use Rattle.stream.specs.declared.Inputs.{Inputs}
use Rattle.sides.specs.Sides.{block_chunk, chunk_of}
use Rattle.stream.specs.Machine.{Memory, gathered, reused, emitted, moved_on, moved_to, moved, turn, idle, turns}
use Rattle.levels.proofs.Basics.{if_either}
use Rattle.stream.proofs.Laws.{idle_ends}
use Rattle.joins.specs.Joins.{closed}
use Rattle.merging.proofs.Relation.{Formed, next_free, flash_of, Stands, Listed, Begun, start}
use Rattle.merging.proofs.Relation as relation
use Rattle.merging.proofs.Blocks.{blocks, lay_all}
use Rattle.merging.proofs.Frame.{Same, same_from, flush_kept, gather_kept, stands_kept, blocks_same}
use Rattle.merging.proofs.Run.{begun_turns}
use Rattle.merging.proofs.Close.{close_laid}

pub same_next : (z : Offsets) (a b c : Memory) → Same z a b → Same z b c → Same z a c
same_next z a b c k l =
    record { words = λ q u j h. l.words q (k.used q u) j h ∙ k.words q u j h; low = λ i h. l.low i h ∙ k.low i h; used = λ q u. l.used q (k.used q u) }

emit_same : (z : Offsets) (bottom : Bool) (a : Memory) (c : Move) → Free a.used (next_free z a) → Same z a (emitted z bottom a c)
unfolding emitted reused
emit_same z bottom a c f = go c.whole
  where
    b : Memory
    b = moved a c.x c.y

    go : (w : Option ℕ) → Same z a (elim w [ Some q ↦ reused z b q | None ↦ gathered z bottom b c.head ])
    go (Some q) = let k = (flush_kept z b f).same in record { words = k.words; low = k.low; used = k.used }
    go None = same_from z a (gathered z bottom b c.head) (moved_to a.st c.x c.y) (gather_kept z bottom b c.head f).same

module _ (z : Offsets) (t : Inputs) (xs ys : List ℕ) where
  turn_same : (a : Memory) → Free a.used (next_free z a) → Same z a (turn z t xs ys a)
  unfolding turn
  turn_same a f = go _
    where
      go : (m : Option Move) → Same z a (moved_on z t.bottom a m)
      go (Some c) = emit_same z t.bottom a c f
      go None = record { words = λ q u j h. refl; low = λ i h. refl; used = λ q u. u }

  pub turns_same : (n : ℕ) (a : Memory) → ((i : ℕ) → i < n → Free (turns z t xs ys i a).used (next_free z (turns z t xs ys i a))) → Same z a (turns z t xs ys n a)
  unfolding turns
  turns_same zero a g = record { words = λ q u j h. refl; low = λ i h. refl; used = λ q u. u }
  turns_same (suc n) a g =
      let r = turns z t xs ys n a in
      let k = turns_same n a (λ i h. g i (omega arith)) in
      if_either (Same z a) (idle z t xs ys r) r (turn z t xs ys r) k (same_next z a r (turn z t xs ys r) k (turn_same r (g n (omega arith))))

formed_at : (z : Offsets) (a : Memory) (ys : List ℕ) {k : ℕ} → Stands z false a.words a.used ys k → Formed z a.words (block_chunk z a.words (get_or ys k 0))
unfolding chunk_of
formed_at z a ys s = s.formed

-- the whole merge, from the store at its start
module _ (z : Offsets) (t : Inputs) (xs ys : List ℕ) (n end : ℕ) (a : Memory) (b : Begun z t xs ys n a) (all : Listed z false a ys t.y end) (le : t.y ≤ end)
    (ended : idle z t xs ys (turns z t xs ys n a) ≡ true) (room : (turns z t xs ys n a).st.m + 1 + (end - t.y) ≤ 4096) where
  abbrev made : Out
  made = (iterate n (step z.b t.bottom) (relation.first z t xs ys a)).out

  pub merge_laid : flash_of (closed z ys end (turns z t xs ys n a)) ≡ lay_all z (start a) (join z.b (join_left z.b made.buffer made.done) (blocks z false a.words ys t.y (end - t.y)))
  merge_laid =
      let r = turns z t xs ys n a in
      let s = begun_turns z t xs ys n a b n (le_refl n) in
      let g = turns_same z t xs ys n a (λ i h. let c = (begun_turns z t xs ys n a b i (omega arith)).0 in free_found (turns z t xs ys i a).used z.p (turns z t xs ys i a).st.cursor c.cursor (b.budget i (omega arith)).free) in
      let sz = b.core.sized in
      let hy = (idle_ends z t xs ys r ended).1 in
      let iy = s.0.lower.low in
      let e : r.st.y.i ≡ t.y = omega arith in
      let fl = s.0.full in
      let c = close_laid z (start a) r ys end made s.1.out s.0.sized s.0.few s.0.cursor (rw (e, fl) room) s.0.tail (λ h. formed_at z r ys (stands_kept z a r sz g false ys r.st.y.i (all r.st.y.i (omega arith) h))) in
      c ∙ rw (e, blocks_same z a r sz g false ys t.y (end - t.y) end all (omega arith))

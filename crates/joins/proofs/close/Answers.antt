use borrow.Author.Rules.{rules}
use native.Mathlib.Omega.{arith}
use Prim.Native.Nat.{◌≤◌, ◌+◌, ◌-◌}
use mathlib.Core.Path.{◌≡◌, ◌∙◌, ap}
use lib.ListN.{length}
use Rattle.stream.specs.Machine.{Memory, memory, flushed}
use Rattle.joins.specs.Joins.{closed, rested, joined_up}
use Rattle.joins.proofs.Laws.{rested_put}
use Rattle.joins.proofs.close.Goals as goal
use Rattle.joins.proofs.close.Goals.{After-flush}

-- where the merge stands before the rest of the list is copied
ends : (c : After-flush) → memory c.flush.new.s c.flush.new.self ≡ flushed c.args.z (joined_up c.args.z c.args.ys.now c.args.end (memory c.args.s.now c.args.desk.now))
ends c = c.flush.ensures ∙ rw (c.join_after.ensures, c.join_left.ensures)

-- the list has room for it
room : (c : After-flush) → (c.flush.new.self.st.y.i ≤ c.args.end) × (c.flush.new.self.st.m + (c.args.end - c.flush.new.self.st.y.i) ≤ 4096)
room c = let e = ap (λ (a : Memory). a.st) (ends c) in rw e (c.requires.y_high, c.requires.room)

pub join_after-requires : goal.join_after-requires
join_after-requires c = rw c.join_left.ensures c.requires.afters

pub flush-requires : goal.flush-requires
flush-requires c = rw (c.join_after.ensures, c.join_left.ensures) c.requires.flushable

pub overflow_sub-rest : goal.overflow_sub-rest
overflow_sub-rest c = (room (goal.at.overflow_sub-rest c).After-flush).0

pub overflow_add-desk : goal.overflow_add-desk
overflow_add-desk c = let h = (room (goal.at.overflow_add-desk c).After-flush).1 in omega arith

pub copy_list-requires : goal.copy_list-requires
copy_list-requires c = let r = room (goal.at.copy_list-requires c).After-flush in let h = c.requires.afters.end_high in (omega arith, omega arith)

pub returns : goal.returns
unfolding closed
returns c =
    let r = room (goal.at.returns c).After-flush in
    let h = c.requires.afters.end_high in
    let l : length c.flush.new.self.out ≡ 4096 = search rules in
    rw (c.copy_list.ensures, rested_put c.flush.new.self.out c.flush.new.self.st.m c.args.ys.now c.flush.new.self.st.y.i (c.args.end - c.flush.new.self.st.y.i) (omega arith) (omega arith)) (ap (λ (a : Memory). rested a c.args.ys.now c.args.end) (ends (goal.at.returns c).After-flush))

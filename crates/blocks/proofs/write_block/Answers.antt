use native.Mathlib.Omega.{arith}
use Prim.Native.Nat.{◌+◌, ◌*◌, ◌≤◌}
use mathlib.Core.Path.{◌≡◌, ◌∙◌}
use lib.ListN.{length, length-set}
use Rattle.blocks.specs.Blocks.{written}
use Rattle.blocks.proofs.Laws.{ends}
use Rattle.blocks.proofs.Written.{written_is, written_records}
use borrow.Author.Rules.{rules}
use Rattle.blocks.proofs.write_block.Goals as goal
use Rattle.blocks.proofs.write_block.Goals.{After-place_start-at}

-- the place lies within the store
within : (c : After-place_start-at) → c.place_start-at.result + (2 + 2 * c.args.z.b) ≤ length c.args.s.now
within c =
    rw c.place_start-at.ensures (ends c.args.z c.args.s.now c.requires.0 c.args.place c.requires.1)

pub offset_bounds-s-at : goal.offset_bounds-s-at
offset_bounds-s-at c = let h = within (goal.at.offset_bounds-s-at c).After-place_start-at in omega arith

pub bounds-s-at : goal.bounds-s-at
bounds-s-at c = let h = within (goal.at.bounds-s-at c).After-place_start-at in omega arith

pub overflow_add-s : goal.overflow_add-s
overflow_add-s c = let h = within (goal.at.overflow_add-s c).After-place_start-at in omega arith

pub offset_bounds-s-at-2 : goal.offset_bounds-s-at-2
offset_bounds-s-at-2 c = let h = within (goal.at.offset_bounds-s-at-2 c).After-place_start-at in omega arith

pub bounds-s-at-2 : goal.bounds-s-at-2
bounds-s-at-2 c = let h = within (goal.at.bounds-s-at-2 c).After-place_start-at in simp length-set (omega arith)

pub overflow_add-at : goal.overflow_add-at
overflow_add-at c = let h = within (goal.at.overflow_add-at c).After-place_start-at in omega arith

pub copy-requires : goal.copy-requires
copy-requires c =
    let h = within (goal.at.copy-requires c).After-place_start-at in
    let b = c.requires.0.b_high in
    (search rules, simp length-set (omega arith))

pub overflow_add-at-2 : goal.overflow_add-at-2
overflow_add-at-2 c = let h = within (goal.at.overflow_add-at-2 c).After-place_start-at in omega arith

pub overflow_add-at-3 : goal.overflow_add-at-3
overflow_add-at-3 c = let h = within (goal.at.overflow_add-at-3 c).After-place_start-at in omega arith

pub copy-requires-2 : goal.copy-requires-2
copy-requires-2 c =
    let h = within (goal.at.copy-requires-2 c).After-place_start-at in
    let b = c.requires.0.b_high in
    let k = simp length-set at c.copy.auto.out in
    (search rules, omega arith)

pub returns : goal.returns
returns c =
    let z = c.args.z in
    let xs = c.args.s.now in
    let b = c.requires.0.b_high in
    let e = written_is z xs c.args.place c.args.buf (search rules) (search rules) (ends z xs c.requires.0 c.args.place c.requires.1) in
    let w : c.copy-2.new.out ≡ written z xs c.args.place c.args.buf = c.copy-2.ensures ∙ rw (c.copy.ensures, c.place_start-at.ensures) e in
    (w, λ g l rs f h. w ∙ written_records z xs c.args.place c.args.buf c.requires.0 g l rs f h)

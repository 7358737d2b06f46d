use Rattle.blocks.specs.Blocks.{start_of, empty_buffer}
use lib.ListN.{get_or, length, take}
use lib.Seq.{length-take-le}
use native.Mathlib.Omega.{arith}
use borrow.Author.Rules.{rules}
use Prim.Native.Nat.{◌-◌}
use mathlib.Core.Path.{◌≡◌, ◌∙◌, sym}
use Rattle.joins.specs.Joins.{pulled}
use Rattle.joins.proofs.Laws.{empty_clean, appended_n, appended_clean, joined_firsts}
use Rattle.joins.proofs.pull_last.Goals as goal

pub append_block-last-requires : goal.append_block-last-requires
append_block-last-requires c =
    let f = c.requires.few in
    rw c.default.ensures (record { sized = c.requires.sized; place = c.requires.place; clean = empty_clean; few = omega arith })

pub append-desk-requires : goal.append-desk-requires
append-desk-requires c =
    let f = c.requires.few in
    let b = c.requires.sized.b_high in
    let at = start_of c.args.z (get_or c.args.desk.now.out (c.args.desk.now.st.m - 1) 0) in
    let e = appended_n c.args.z.b c.args.s.now at empty_buffer empty_clean (get_or c.args.s.now at 0) in
    let w = c.args.desk.now.st.buf in
    let keys : length w.keys ≡ 16 = search rules in
    let pays : length w.pays ≡ 16 = search rules in
    let lk : length (take w.n w.keys) ≡ w.n = length-take-le w.n w.keys (omega arith) in
    let lp : length (take w.n w.pays) ≡ w.n = length-take-le w.n w.pays (omega arith) in
    rw (c.append_block-last.ensures, c.default.ensures) (appended_clean c.args.z.b c.args.s.now at empty_buffer empty_clean (get_or c.args.s.now at 0), lp ∙ sym lk, rw lk (omega arith))

pub returns : goal.returns
unfolding pulled
returns c =
    let f = c.requires.few in
    let b = c.requires.sized.b_high in
    let w = c.args.desk.now.st.buf in
    let keys : length w.keys ≡ 16 = search rules in
    let lk : length (take w.n w.keys) ≡ w.n = length-take-le w.n w.keys (omega arith) in
    let e = rw lk at c.append-desk.ensures in
    rw (e, joined_firsts c.append_block-last.result w.keys w.pays w.marks w.n, c.append_block-last.ensures, c.default.ensures)

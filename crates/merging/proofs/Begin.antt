-- A merge can begin: the blocks before Y are listed, nothing is in the buffer.
use Prim.Native.Nat.{ℕ, zero, suc, ◌+◌, ◌-◌, ◌≤◌, ◌<◌}
use mathlib.Core.Path.{◌≡◌, sym, ◌∙◌, refl}
use mathlib.Core.Bool.{false}
use mathlib.Core.List.{List, [], ◌∷◌, ◌++◌, reverse_aux}
use native.Mathlib.Omega.{arith}
use lib.ListN.{length, get_or, take}
use lib.Seq.{take-suc}
use borrow.Author.Tests.{ne_eqb}
use Rattle.levels.specs.Record.{Block, Level}
use Rattle.blocks.specs.declared.Offsets.{Offsets}
use Rattle.blocks.specs.Blocks.{empty_buffer}
use Rattle.sides.specs.Sides.{block_chunk, chunk_of, last_size}
use Rattle.stream.specs.Machine.{Memory}
use Rattle.merging.proofs.Relation.{head_size, Holds, LastIs, start}
use Rattle.merging.proofs.Blocks.{count_at, stored_at, blocks, Flash, lay_all, lay_done}
use Rattle.merging.proofs.Heads.{recs_length}
use Rattle.merging.proofs.Close.{lay_blocks, entries, entries_snoc, empty_is}

pub lay_done_lem : (z : Offsets) (d : Flash) (l acc : Level) → lay_done z d (reverse_aux l acc) ≡ lay_all z (lay_done z d acc) l
unfolding lay_all lay_done
lay_done_lem z d [] acc = refl
lay_done_lem z d (b ∷ l) acc = lay_done_lem z d l (b ∷ acc)

pub blocks_snoc : (z : Offsets) (ws ys : List ℕ) (i n : ℕ) → blocks z false ws ys i (suc n) ≡ blocks z false ws ys i n ++ (stored_at z ws (get_or ys (i + n) 0) ∷ [])
unfolding blocks chunk_of
blocks_snoc z ws ys i zero = let e : i + zero ≡ i = omega arith in rw e
blocks_snoc z ws ys i (suc n) = let e : i + suc n ≡ suc i + n = omega arith in rw (e, ← blocks_snoc z ws ys (suc i) n)

pub no_blocks : (z : Offsets) (ws ys : List ℕ) → blocks z false ws ys 0 0 ≡ []
unfolding blocks chunk_of
no_blocks z ws ys = refl

reverse_snoc : (l : Level) (b : Block) (acc : Level) → reverse_aux (l ++ (b ∷ [])) acc ≡ b ∷ reverse_aux l acc
reverse_snoc [] b acc = refl
reverse_snoc (c ∷ l) b acc = reverse_snoc l b (c ∷ acc)

take_entries : (out ys : List ℕ) (from m : ℕ) → m ≤ length out → ((i : ℕ) → i < m → get_or out i 0 ≡ get_or ys (from + i) 0) → take m out ≡ entries ys from m
take_entries out ys from zero h f = refl
take_entries out ys from (suc m) h f = rw (take-suc out m 0 (omega arith), entries_snoc ys from m, take_entries out ys from m (omega arith) (λ i l. f i (omega arith)), f m (omega arith))

module _ (z : Offsets) (a : Memory) (ys : List ℕ) (from : ℕ) (empty : a.st.buf ≡ empty_buffer) (le : a.st.m ≤ length a.out) (same : (i : ℕ) → i < a.st.m → get_or a.out i 0 ≡ get_or ys (from + i) 0) where
  ends_with : (m : ℕ) → ((i : ℕ) → i < m → get_or a.out i 0 ≡ get_or ys (from + i) 0)
      → (last_size z a.words a.out m ≡ head_size z.b (reverse_aux (blocks z false a.words ys from m) [])) × LastIs z a.words a.out m (reverse_aux (blocks z false a.words ys from m) [])
  unfolding last_size blocks
  ends_with zero f = (refl, tt)
  ends_with (suc m) f =
      let e : suc m - 1 ≡ m = omega arith in
      rw (blocks_snoc z a.words ys from m, reverse_snoc (blocks z false a.words ys from m) (stored_at z a.words (get_or ys (from + m) 0)) [], ne_eqb (suc m) 0 (λ h. omega arith), e, f m (omega arith))
      (sym (recs_length a.words (block_chunk z a.words (get_or ys (from + m) 0)) 0 (count_at z a.words (get_or ys (from + m) 0))), λ h. refl)

  pub begin_holds : Holds z (start a) (record { buffer = []; done = reverse_aux (blocks z false a.words ys from a.st.m) [] }) a
  unfolding lay_done
  begin_holds =
      record {
        buf = empty ∙ empty_is;
        flash = lay_done_lem z (start a) (blocks z false a.words ys from a.st.m) [] ∙ lay_blocks z (start a) a.words ys from a.st.m ∙ rw (take_entries a.out ys from a.st.m le same);
        last = (ends_with a.st.m same).0;
      }

  pub begin_tail : LastIs z a.words a.out a.st.m (reverse_aux (blocks z false a.words ys from a.st.m) [])
  begin_tail = (ends_with a.st.m same).1

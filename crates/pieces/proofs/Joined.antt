-- Pieces that lie one behind the other without a gap: laid over words, they are one row between the words before and behind them.
use Prim.Native.Nat.{ℕ, ◌+◌, ◌≤◌}
use mathlib.Core.Path.{◌≡◌, refl, sym, ap, ◌∙◌}
use mathlib.Core.List.{List, [], ◌∷◌, ◌++◌, append_assoc}
use native.Mathlib.Omega.{arith}
use lib.ListN.{length, take, drop, length-append}
use Rattle.slices.specs.Slices.{put_at}
use Rattle.slices.proofs.Put.{put_none, put_join}
use Rattle.pieces.specs.Pieces.{Piece, ending, lay, lay_all}
use Rattle.pieces.proofs.Pieces.{lay_length, put_lay}

-- the first piece begins at word a, each other where the one before it ends, and the last ends at word e
abbrev pub Joined : ℕ → List Piece → ℕ → Type 0
Joined a [] e = a ≡ e
Joined a (p ∷ ps) e = (p.at ≡ a) × Joined (ending p) ps e

-- the words of pieces in a row
abbrev pub row_of : List Piece → List ℕ
row_of [] = []
row_of (p ∷ ps) = p.words ++ row_of ps

pub row_append : (ps qs : List Piece) → row_of (ps ++ qs) ≡ row_of ps ++ row_of qs
row_append [] qs = refl
row_append (p ∷ ps) qs = ap (λ (xs : List ℕ). p.words ++ xs) (row_append ps qs) ∙ sym (append_assoc p.words (row_of ps) (row_of qs))

row_length : (ps : List Piece) (a e : ℕ) → Joined a ps e → a + length (row_of ps) ≡ e
row_length [] a e j = omega arith
row_length (p ∷ ps) a e j = rw length-append (omega (arith, j.0, row_length ps (ending p) e j.1))

row_put : (ps : List Piece) (a e : ℕ) (ws : List ℕ) → Joined a ps e → e ≤ length ws → lay_all ps ws ≡ put_at a (row_of ps) ws
unfolding lay_all
row_put [] a e ws j h = sym (put_none a ws)
row_put (p ∷ ps) a e ws j h =
    let i : ending p ≤ length ws = omega (arith, row_length ps (ending p) e j.1) in
    row_put ps (ending p) e (lay p ws) j.1 (rw lay_length h) ∙ ap (put_at (ending p) (row_of ps)) (sym (put_lay p.at p.words ws i))
    ∙ put_join p.at p.words (row_of ps) ws i ∙ ap (λ (n : ℕ). put_at n (p.words ++ row_of ps) ws) j.0

pub lay_joined : (ps : List Piece) (a e : ℕ) (ws : List ℕ) → Joined a ps e → e ≤ length ws → lay_all ps ws ≡ take a ws ++ (row_of ps ++ drop e ws)
unfolding put_at
lay_joined ps a e ws j h = row_put ps a e ws j h ∙ ap (λ (n : ℕ). take a ws ++ (row_of ps ++ drop n ws)) (row_length ps a e j)

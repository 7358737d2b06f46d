-- Edits of words as edits of pieces: a word set, and a part without some words in its middle.
use Prim.Native.Nat.{ℕ, zero, suc, ◌+◌, ◌-◌, ◌≤◌, ◌<◌}
use mathlib.Core.Path.{◌≡◌, refl, sym, ap, ◌∙◌}
use mathlib.Core.List.{List, [], ◌∷◌, ◌++◌}
use mathlib.Core.Logic.{inl, inr}
use native.Mathlib.Nat.{add-zero}
use native.Mathlib.Omega.{arith}
use lib.ListN.{length, take, drop, set, replicate, length-append, length-drop, length-replicate}
use lib.Seq.{sets, set_comm, set-set, set-get_or, length-take-le, take-take, drop_at}
use Rattle.slices.specs.Slices.{put_at}
use Rattle.slices.proofs.Put.{put_join}
use Rattle.levels.specs.Every.{Every}
use Rattle.pieces.specs.Pieces.{part, Piece, piece, lay, lay_all, Clear}
use Rattle.pieces.proofs.Pieces.{put_lay}
use Rattle.pieces.proofs.Parts.{part_length, part_split, part_cons}
use Rattle.top.specs.Top.{without, closed}

-- a word set beside a piece
sets_beside : (vs ws : List ℕ) (a i x : ℕ) → Clear i 1 (piece a vs) → set (sets ws a vs) i x ≡ sets (set ws i x) a vs
sets_beside [] ws a i x o = refl
sets_beside (v ∷ vs) ws a i x (inl h) = sets_beside vs (set ws a v) (suc a) i x (inl (omega arith)) ∙ ap (λ (us : List ℕ). sets us (suc a) vs) (set_comm ws a i v x (λ e. omega arith))
sets_beside (v ∷ vs) ws a i x (inr h) = sets_beside vs (set ws a v) (suc a) i x (inr (omega arith)) ∙ ap (λ (us : List ℕ). sets us (suc a) vs) (set_comm ws a i v x (λ e. omega arith))

pub set_beside : (ps : List Piece) (ws : List ℕ) (i x : ℕ) → Every (Clear i 1) ps → set (lay_all ps ws) i x ≡ lay_all ps (set ws i x)
unfolding lay_all lay
set_beside [] ws i x o = refl
set_beside (p ∷ ps) ws i x o = set_beside ps (lay p ws) i x o.1 ∙ ap (lay_all ps) (sets_beside p.words ws p.at i x o.0)

-- a word set in a piece
sets_set : (vs ws : List ℕ) (a j x : ℕ) → j < length vs → set (sets ws a vs) (a + j) x ≡ sets ws a (set vs j x)
sets_set [] ws a j x h = absurd (omega arith)
sets_set (v ∷ vs) ws a zero x h = rw add-zero (sets_beside vs (set ws a v) (suc a) a x (inl (omega arith)) ∙ rw set-set)
sets_set (v ∷ vs) ws a (suc j) x h = let e : a + suc j ≡ suc a + j = omega arith in rw e (sets_set vs (set ws a v) (suc a) j x (omega arith))

pub set_piece : (ps : List Piece) (p : Piece) (qs : List Piece) (ws : List ℕ) (j x : ℕ) → j < length p.words → Every (Clear (p.at + j) 1) qs
    → set (lay_all (ps ++ (p ∷ qs)) ws) (p.at + j) x ≡ lay_all (ps ++ (piece p.at (set p.words j x) ∷ qs)) ws
unfolding lay_all lay
set_piece [] p qs ws j x h o = set_beside qs (lay p ws) (p.at + j) x o ∙ ap (lay_all qs) (sets_set p.words ws p.at j x h)
set_piece (q ∷ ps) p qs ws j x h o = set_piece ps p qs (lay q ws) j x h o

-- a piece that begins with the words that stand there
lay_front : (ws ys : List ℕ) (n a : ℕ) → a + n ≤ length ws → lay (piece a (part ws a n ++ ys)) ws ≡ lay (piece (a + n) ys) ws
unfolding lay part
lay_front ws ys zero a h = rw add-zero
lay_front ws ys (suc n) a h =
    let e : a + suc n ≡ suc a + n = omega arith in
    ap (λ (xs : List ℕ). lay (piece a (xs ++ ys)) ws) (part_cons ws a n (omega arith))
    ∙ ap (λ (us : List ℕ). sets us (suc a) (part ws (suc a) n ++ ys)) (set-get_or ws a 0) ∙ rw e (lay_front ws ys n (suc a) (omega arith))

-- words copied down and zeros put behind them: the later words move up and zeros come last
pub closed_is : (ws : List ℕ) (start n at gap : ℕ) → at + gap ≤ n → start + n ≤ length ws
    → put_at (start + at + (n - (at + gap))) (replicate gap 0) (put_at (start + at) (take (n - (at + gap)) (drop (start + at + gap) ws)) ws) ≡ closed ws start n at gap
unfolding closed part
closed_is ws start n at gap h l =
    let left = n - (at + gap) in
    let s = part ws (start + at + gap) left in
    let m : length s ≡ left = part_length ws (start + at + gap) left (omega arith) in
    let p : n ≡ at + gap + left = omega arith in
    let q : start + (at + gap) ≡ start + at + gap = omega arith in
    let d : drop (at + gap) (part ws start n) ≡ s = ap (λ (x : ℕ). drop (at + gap) (part ws start x)) p ∙ rw (part_split ws start (at + gap) left, q) (drop_at (part ws start (at + gap)) s (at + gap) (part_length ws start (at + gap) (omega arith))) in
    let f : take at (part ws start n) ≡ part ws start at = take-take at n (drop start ws) (omega arith) in
    rw m at (put_join (start + at) s (replicate gap 0) ws (omega arith))
    ∙ put_lay (start + at) (s ++ replicate gap 0) ws (rw (length-append, length-replicate, m) (omega arith))
    ∙ sym (rw (f, d) (lay_front ws (s ++ replicate gap 0) at start (omega arith)))

pub closed_part : (ws xs : List ℕ) (start n at gap : ℕ) → part ws start n ≡ xs → closed ws start n at gap ≡ lay (piece start (without at gap 0 xs)) ws
unfolding closed
closed_part ws xs start n at gap e = ap (λ (ys : List ℕ). lay (piece start (without at gap 0 ys)) ws) e

pub without_length : {A : Type 0} (at gap : ℕ) (d : A) (xs : List A) → at + gap ≤ length xs → length (without at gap d xs) ≡ length xs
without_length at gap d xs h = rw (length-append, length-append, length-drop, length-replicate, length-take-le at xs (omega arith)) (omega arith)

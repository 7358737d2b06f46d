-- Laws of laying pieces over words: the length, what is read at a piece and beside the pieces, and that order does not matter.
use Prim.Native.Nat.{ℕ, zero, suc, ◌+◌, ◌-◌, ◌≤◌, ◌<◌}
use mathlib.Core.Path.{◌≡◌, refl, sym, ap, ◌∙◌}
use mathlib.Core.List.Memᴰ
use mathlib.Core.List.{List, [], ◌∷◌, ◌++◌, Memᴰ}
use mathlib.Core.Logic.{◌⊎◌, inl, inr, dite}
use native.Mathlib.Decide.{dec_lt}
use native.Mathlib.Nat.{add-zero}
use native.Mathlib.Omega.{arith}
use lib.ListN.{length, get_or, set, length-set, get_or-eq_default}
use lib.Seq.{sets, length-sets, get_or-set_same, get_or-set_other, set-get_or, ext_get_or}
use Rattle.levels.specs.Every.{Every}
use Rattle.slices.specs.Slices.{put_at}
use Rattle.slices.proofs.Put.{put_sets}
use Rattle.pieces.specs.Pieces.{word, part, Piece, piece, ending, lay, lay_all, Held, Clear, Apart, Stacked, Within}
use Rattle.pieces.proofs.Parts.{part_word, part_length}

-- One piece.

sets_out : (vs ws : List ℕ) (a i : ℕ) → (i < a) ⊎ (a + length vs ≤ i) → get_or (sets ws a vs) i 0 ≡ get_or ws i 0
sets_out [] ws a i o = refl
sets_out (v ∷ vs) ws a i (inl h) = sets_out vs (set ws a v) (suc a) i (inl (omega arith)) ∙ get_or-set_other ws a i v 0 (λ e. omega arith)
sets_out (v ∷ vs) ws a i (inr h) = sets_out vs (set ws a v) (suc a) i (inr (omega arith)) ∙ get_or-set_other ws a i v 0 (λ e. omega arith)

sets_in : (vs ws : List ℕ) (a j : ℕ) → j < length vs → a + j < length ws → get_or (sets ws a vs) (a + j) 0 ≡ get_or vs j 0
sets_in [] ws a j h l = absurd (omega arith)
sets_in (v ∷ vs) ws a zero h l = rw add-zero (sets_out vs (set ws a v) (suc a) a (inl (omega arith)) ∙ get_or-set_same ws a v 0 (omega arith))
sets_in (v ∷ vs) ws a (suc j) h l = let e : a + suc j ≡ suc a + j = omega arith in rw e (sets_in vs (set ws a v) (suc a) j (omega arith) (rw length-set (omega arith)))

sets_same : (vs ws : List ℕ) (a : ℕ) → ((j : ℕ) → j < length vs → get_or ws (a + j) 0 ≡ get_or vs j 0) → sets ws a vs ≡ ws
sets_same [] ws a f = refl
sets_same (v ∷ vs) ws a f =
    let e : get_or ws a 0 ≡ v = rw add-zero at (f 0 (omega arith)) in
    let s : set ws a v ≡ ws = rw (← e) (set-get_or ws a 0) in
    rw s (sets_same vs ws (suc a) (λ j h. let k : suc a + j ≡ a + suc j = omega arith in rw k (f (suc j) (omega arith))))

pub lay_length : (p : Piece) (ws : List ℕ) → length (lay p ws) ≡ length ws
unfolding lay
lay_length p ws = length-sets ws p.at p.words

pub lay_beside : (p : Piece) (ws : List ℕ) (i : ℕ) → Clear i 1 p → word (lay p ws) i ≡ word ws i
unfolding lay
lay_beside p ws i (inl h) = sets_out p.words ws p.at i (inl (omega arith))
lay_beside p ws i (inr h) = sets_out p.words ws p.at i (inr h)

pub lay_word : (p : Piece) (ws : List ℕ) (j : ℕ) → j < length p.words → p.at + j < length ws → word (lay p ws) (p.at + j) ≡ get_or p.words j 0
unfolding lay
lay_word p ws j h l = sets_in p.words ws p.at j h l

-- a piece that stands already
pub held_word : (ws : List ℕ) (p : Piece) → Held ws p → (j : ℕ) → j < length p.words → word ws (p.at + j) ≡ get_or p.words j 0
held_word ws p e j h = sym (part_word ws p.at (length p.words) j h) ∙ ap (λ (x : List ℕ). get_or x j 0) e

pub lay_held : (p : Piece) (ws : List ℕ) → Held ws p → lay p ws ≡ ws
unfolding lay
lay_held p ws e = sets_same p.words ws p.at (held_word ws p e)

-- a part from its words
pub part_is : (ws xs : List ℕ) (a : ℕ) → a + length xs ≤ length ws → ((j : ℕ) → j < length xs → word ws (a + j) ≡ get_or xs j 0) → part ws a (length xs) ≡ xs
part_is ws xs a h f =
    ext_get_or 0 (part ws a (length xs)) xs (part_length ws a (length xs) h)
    (λ i l. let k : i < length xs = rw (part_length ws a (length xs) h) at l in part_word ws a (length xs) i k ∙ f i k)

pub part_same : (us ws : List ℕ) (a n : ℕ) → length us ≡ length ws → a + n ≤ length ws → ((j : ℕ) → j < n → word us (a + j) ≡ word ws (a + j)) → part us a n ≡ part ws a n
part_same us ws a n e h f =
    let l : length (part ws a n) ≡ n = part_length ws a n h in
    rw l at (part_is us (part ws a n) a (rw l (omega arith)) (λ j k. let m : j < n = rw l at k in f j m ∙ sym (part_word ws a n j m)))

pub lay_here : (p : Piece) (ws : List ℕ) → ending p ≤ length ws → Held (lay p ws) p
lay_here p ws h = part_is (lay p ws) p.words p.at (rw lay_length h) (λ j l. lay_word p ws j l (omega arith))

-- Many pieces.

pub lay_all_length : (ps : List Piece) (ws : List ℕ) → length (lay_all ps ws) ≡ length ws
unfolding lay_all
lay_all_length [] ws = refl
lay_all_length (p ∷ ps) ws = lay_all_length ps (lay p ws) ∙ lay_length p ws

pub lay_all_beside : (ps : List Piece) (ws : List ℕ) (i : ℕ) → Every (Clear i 1) ps → word (lay_all ps ws) i ≡ word ws i
unfolding lay_all
lay_all_beside [] ws i o = refl
lay_all_beside (p ∷ ps) ws i o = lay_all_beside ps (lay p ws) i o.1 ∙ lay_beside p ws i o.0

clear_word : (a n j : ℕ) (p : Piece) → j < n → Clear a n p → Clear (a + j) 1 p
clear_word a n j p h (inl l) = inl (omega arith)
clear_word a n j p h (inr l) = inr (omega arith)

clear_words : (a n j : ℕ) (ps : List Piece) → j < n → Every (Clear a n) ps → Every (Clear (a + j) 1) ps
clear_words a n j [] h o = tt
clear_words a n j (p ∷ ps) h o = (clear_word a n j p h o.0, clear_words a n j ps h o.1)

-- "every other word is kept": n words that no piece meets
pub lay_all_kept : (ps : List Piece) (ws : List ℕ) (a n : ℕ) → a + n ≤ length ws → Every (Clear a n) ps → part (lay_all ps ws) a n ≡ part ws a n
lay_all_kept ps ws a n h o = part_same (lay_all ps ws) ws a n (lay_all_length ps ws) h (λ j l. lay_all_beside ps ws (a + j) (clear_words a n j ps l o))

-- a piece that the others do not meet stands there afterwards
pub lay_all_stays : (ps : List Piece) (ws : List ℕ) (p : Piece) → ending p ≤ length ws → Every (Clear p.at (length p.words)) ps → Held ws p → Held (lay_all ps ws) p
lay_all_stays ps ws p h o e = lay_all_kept ps ws p.at (length p.words) h o ∙ e

-- all pieces stand, if they do not meet
pub lay_all_here : (ps : List Piece) (ws : List ℕ) → Within (length ws) ps → Apart ps → Every (Held (lay_all ps ws)) ps
unfolding lay_all
lay_all_here [] ws i a = tt
lay_all_here (p ∷ ps) ws i a = (
  lay_all_stays ps (lay p ws) p (rw lay_length i.0) a.0 (lay_here p ws i.0),
  lay_all_here ps (lay p ws) (rw lay_length i.1) a.1,
)

-- pieces that all stand already
pub lay_all_held : (ps : List Piece) (ws : List ℕ) → Every (Held ws) ps → lay_all ps ws ≡ ws
unfolding lay_all
lay_all_held [] ws e = refl
lay_all_held (p ∷ ps) ws e = rw (lay_held p ws e.0) (lay_all_held ps ws e.1)

pub lay_all_append : (ps qs : List Piece) (ws : List ℕ) → lay_all (ps ++ qs) ws ≡ lay_all qs (lay_all ps ws)
unfolding lay_all
lay_all_append [] qs ws = refl
lay_all_append (p ∷ ps) qs ws = lay_all_append ps qs (lay p ws)

-- The law of whoever writes: words of the same length in which every piece stands, and which are the old words beside the pieces,
-- are the pieces laid over the old words.
pub laid_is : (ps : List Piece) (us ws : List ℕ) → length us ≡ length ws → Within (length ws) ps → Every (Held us) ps → ((i : ℕ) → i < length ws → Every (Clear i 1) ps → word us i ≡ word ws i) → lay_all ps ws ≡ us
unfolding lay_all
laid_is [] us ws l n e f = sym (ext_get_or 0 us ws l (λ i h. f i (omega arith) tt))
laid_is (p ∷ ps) us ws l n e f = laid_is ps us (lay p ws) (rw lay_length l) (rw lay_length n.1) e.1 (λ i h o. go i (rw lay_length at h) o)
  where
    among : (i : ℕ) → p.at ≤ i → i < ending p → word us i ≡ word (lay p ws) i
    among i a b =
        let k : p.at + (i - p.at) ≡ i = omega arith in
        rw k at (held_word us p e.0 (i - p.at) (omega arith) ∙ sym (lay_word p ws (i - p.at) (omega arith) (omega (arith, n.0))))

    go : (i : ℕ) → i < length ws → Every (Clear i 1) ps → word us i ≡ word (lay p ws) i
    go i h o =
        dite (dec_lt i p.at) (λ y. f i h (inl (omega arith), o) ∙ sym (lay_beside p ws i (inl (omega arith))))
        (λ y. dite (dec_lt i (ending p)) (λ z. among i (omega arith) z) (λ z. f i h (inr (omega arith), o) ∙ sym (lay_beside p ws i (inr (omega arith)))))

-- Laying goes word by word: what a word is afterwards hangs on no other word.
sets_point : (vs xs ys : List ℕ) (a i : ℕ) → length xs ≡ length ys → get_or xs i 0 ≡ get_or ys i 0 → get_or (sets xs a vs) i 0 ≡ get_or (sets ys a vs) i 0
sets_point [] xs ys a i l e = e
sets_point (v ∷ vs) xs ys a i l e = sets_point vs (set xs a v) (set ys a v) (suc a) i (length-set xs a v ∙ l ∙ sym (length-set ys a v)) here
  where
    at : i ≡ a → get_or (set xs a v) i 0 ≡ get_or (set ys a v) i 0
    at q =
        dite (dec_lt i (length xs))
        (λ y. rw q (get_or-set_same xs a v 0 (omega arith) ∙ sym (get_or-set_same ys a v 0 (omega arith))))
        (λ y. get_or-eq_default (set xs a v) 0 (rw length-set (omega arith)) ∙ sym (get_or-eq_default (set ys a v) 0 (rw length-set (omega arith))))

    here : get_or (set xs a v) i 0 ≡ get_or (set ys a v) i 0
    here =
        dite (dec_lt i a)
        (λ y. get_or-set_other xs a i v 0 (λ q. omega arith) ∙ e ∙ sym (get_or-set_other ys a i v 0 (λ q. omega arith)))
        (λ y. dite (dec_lt a i) (λ m. get_or-set_other xs a i v 0 (λ q. omega arith) ∙ e ∙ sym (get_or-set_other ys a i v 0 (λ q. omega arith))) (λ m. at (omega arith)))

lay_point : (ps : List Piece) (xs ys : List ℕ) (i : ℕ) → length xs ≡ length ys → word xs i ≡ word ys i → word (lay_all ps xs) i ≡ word (lay_all ps ys) i
unfolding lay_all lay
lay_point [] xs ys i l e = e
lay_point (p ∷ ps) xs ys i l e = lay_point ps (lay p xs) (lay p ys) i (lay_length p xs ∙ l ∙ sym (lay_length p ys)) (sets_point p.words xs ys p.at i l e)

-- pieces qs that lie beneath ps are gone, whatever was laid between
pub lay_over : (ps rs qs : List Piece) (ws : List ℕ) → Within (length ws) ps → Apart ps → ((i : ℕ) → Every (Clear i 1) ps → Every (Clear i 1) qs) → lay_all ps (lay_all rs (lay_all qs ws)) ≡ lay_all ps (lay_all rs ws)
lay_over ps rs qs ws w a f =
    let xs : List ℕ = lay_all rs (lay_all qs ws) in
    let ys : List ℕ = lay_all rs ws in
    let lx : length xs ≡ length ws = lay_all_length rs (lay_all qs ws) ∙ lay_all_length qs ws in
    let ly : length ys ≡ length ws = lay_all_length rs ws in
    sym
    (laid_is ps (lay_all ps xs) ys (lay_all_length ps xs ∙ lx ∙ sym ly) (rw ly w) (lay_all_here ps xs (rw lx w) a)
    (λ i h o. lay_all_beside ps xs i o ∙ lay_point rs (lay_all qs ws) ws i (lay_all_length qs ws) (lay_all_beside qs ws i (f i o))))

-- A piece that stands already need not be laid, if the pieces laid before it do not meet it.
pub lay_all_skip : (ps qs rs : List Piece) (ws : List ℕ) → Within (length ws) qs → Every (λ q. Every (Clear q.at (length q.words)) ps) qs → Every (Held ws) qs → lay_all (ps ++ (qs ++ rs)) ws ≡ lay_all (ps ++ rs) ws
lay_all_skip ps qs rs ws i o e =
    lay_all_append ps (qs ++ rs) ws ∙ lay_all_append qs rs (lay_all ps ws) ∙ ap (lay_all rs) (lay_all_held qs (lay_all ps ws) (stand qs i o e)) ∙ sym (lay_all_append ps rs ws)
  where
    stand : (qs : List Piece) → Within (length ws) qs → Every (λ q. Every (Clear q.at (length q.words)) ps) qs → Every (Held ws) qs → Every (Held (lay_all ps ws)) qs
    stand [] i o e = tt
    stand (q ∷ qs) i o e = (lay_all_stays ps ws q i.0 o.0 e.0, stand qs i.1 o.1 e.1)

-- Order does not matter: pieces that do not meet, and the same pieces in another order.
every_mem : {A : Type 0} (P : A → Type 0) (xs : List A) → Every P xs → (x : A) → Memᴰ x xs → P x
every_mem P [] h x m = absurd (Memᴰ.not-nil m)
every_mem P (y ∷ ys) h x (Memᴰ.head e) = rw e h.0
every_mem P (y ∷ ys) h x (Memᴰ.tail m) = every_mem P ys h.1 x m

every_of : {A : Type 0} (P : A → Type 0) (xs ys : List A) → Every P ys → Every (λ x. Memᴰ x ys) xs → Every P xs
every_of P [] ys h m = tt
every_of P (x ∷ xs) ys h m = (every_mem P ys h x m.0, every_of P xs ys h m.1)

pub lay_all_order : (ps qs : List Piece) (ws : List ℕ) → Within (length ws) ps → Apart ps → Every (λ p. Memᴰ p qs) ps → Every (λ q. Memᴰ q ps) qs → lay_all qs ws ≡ lay_all ps ws
lay_all_order ps qs ws n a m k =
    laid_is qs (lay_all ps ws) ws (lay_all_length ps ws) (every_of (λ p. ending p ≤ length ws) qs ps n k) (every_of (Held (lay_all ps ws)) qs ps (lay_all_here ps ws n a) k)
    (λ i h o. lay_all_beside ps ws i (every_of (Clear i 1) ps qs o m))

-- Two pieces that do not meet, and two lists of them, may be laid in either order.
pub lay_swap : (p q : Piece) (ws : List ℕ) → ending p ≤ length ws → ending q ≤ length ws → Clear p.at (length p.words) q → lay q (lay p ws) ≡ lay p (lay q ws)
unfolding lay_all
lay_swap p q ws h l o =
    lay_all_order (q ∷ p ∷ []) (p ∷ q ∷ []) ws (l, (h, tt)) ((turn o, tt), (tt, tt)) (Memᴰ.tail (Memᴰ.head refl), (Memᴰ.head refl, tt)) (Memᴰ.tail (Memᴰ.head refl), (Memᴰ.head refl, tt))
  where
    turn : Clear p.at (length p.words) q → Clear q.at (length q.words) p
    turn (inl x) = inr x
    turn (inr x) = inl x

pub lay_across : (ps : List Piece) (q : Piece) (ws : List ℕ) → Within (length ws) ps → ending q ≤ length ws → Every (λ p. Clear p.at (length p.words) q) ps → lay q (lay_all ps ws) ≡ lay_all ps (lay q ws)
unfolding lay_all
lay_across [] q ws i h o = refl
lay_across (p ∷ ps) q ws i h o = lay_across ps q (lay p ws) (rw lay_length i.1) (rw lay_length h) o.1 ∙ ap (lay_all ps) (lay_swap p q ws i.0 h o.0)

pub lay_all_across : (ps qs : List Piece) (ws : List ℕ) → Within (length ws) ps → Within (length ws) qs → Every (λ q. Every (λ p. Clear p.at (length p.words) q) ps) qs → lay_all qs (lay_all ps ws) ≡ lay_all ps (lay_all qs ws)
unfolding lay_all
lay_all_across ps [] ws i j o = refl
lay_all_across ps (q ∷ qs) ws i j o = ap (lay_all qs) (lay_across ps q ws i j.0 o.0) ∙ lay_all_across ps qs (lay q ws) (rw lay_length i) (rw lay_length j.1) o.1

-- Pieces in rising order do not meet.

pub stacked_clear : (ps : List Piece) (low a n : ℕ) → a + n ≤ low → Stacked low ps → Every (Clear a n) ps
stacked_clear [] low a n h s = tt
stacked_clear (p ∷ ps) low a n h s = (inl (omega (arith, s.0)), stacked_clear ps (ending p) a n (omega (arith, s.0)) s.1)

pub stacked_apart : (ps : List Piece) (low : ℕ) → Stacked low ps → Apart ps
stacked_apart [] low s = tt
stacked_apart (p ∷ ps) low s = (stacked_clear ps (ending p) p.at (length p.words) (omega arith) s.1, stacked_apart ps (ending p) s.1)

pub stacked_lower : (ps : List Piece) (low high : ℕ) → low ≤ high → Stacked high ps → Stacked low ps
stacked_lower [] low high h s = tt
stacked_lower (p ∷ ps) low high h s = (omega (arith, s.0), s.1)

pub within_most : (ps : List Piece) (n m : ℕ) → n ≤ m → Within n ps → Within m ps
within_most [] n m h i = tt
within_most (p ∷ ps) n m h i = (omega (arith, i.0), within_most ps n m h i.1)

pub within_append : (ps qs : List Piece) (n : ℕ) → Within n ps → Within n qs → Within n (ps ++ qs)
within_append [] qs n i j = j
within_append (p ∷ ps) qs n i j = (i.0, within_append ps qs n i.1 j)

pub stacked_append : (ps qs : List Piece) (low high : ℕ) → low ≤ high → Stacked low ps → Within high ps → Stacked high qs → Stacked low (ps ++ qs)
stacked_append [] qs low high h s i t = stacked_lower qs low high h t
stacked_append (p ∷ ps) qs low high h s i t = (s.0, stacked_append ps qs (ending p) high i.0 s.1 i.1 t)

-- what lies before word a does not meet the words from a on, nor a piece there
pub within_clear : (ps : List Piece) (a n : ℕ) → Within a ps → Every (Clear a n) ps
within_clear [] a n i = tt
within_clear (p ∷ ps) a n i = (inr i.0, within_clear ps a n i.1)

-- pieces from word `low` on do not meet what ends before it
pub stacked_behind : (ps qs : List Piece) (low : ℕ) → Within low ps → Stacked low qs → Every (λ q. Every (Clear q.at (length q.words)) ps) qs
stacked_behind ps [] low w s = tt
stacked_behind ps (q ∷ qs) low w s =
    (within_clear ps q.at (length q.words) (within_most ps low q.at s.0 w), stacked_behind ps qs (ending q) (within_most ps low (ending q) (omega (arith, s.0)) w) s.1)

pub stacked_over : (ps : List Piece) (low : ℕ) (q : Piece) → ending q ≤ low → Stacked low ps → Every (λ p. Clear p.at (length p.words) q) ps
stacked_over [] low q h s = tt
stacked_over (p ∷ ps) low q h s = (inr (omega (arith, s.0)), stacked_over ps (ending p) q (omega (arith, s.0)) s.1)

-- What `slices` writes, as a piece.
pub put_lay : (a : ℕ) (ys xs : List ℕ) → a + length ys ≤ length xs → put_at a ys xs ≡ lay (piece a ys) xs
unfolding lay
put_lay a ys xs h = put_sets a ys xs h

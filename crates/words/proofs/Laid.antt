-- A store whose blocks stand in their places, and how writing new blocks keeps that so.
use Prim.Native.Nat.{ℕ}
use mathlib.Core.Path.{◌≡◌, refl, sym, ap, ◌∙◌}
use mathlib.Core.Bool.{true, false, not, or-true, true≢false, and-eq-true_iff}
use mathlib.Core.List.Memᴰ
use mathlib.Core.List.{List, [], ◌∷◌, ◌++◌, map, Memᴰ}
use mathlib.Core.Logic.{◌≢◌, ◌⊎◌, inl, inr}
use lib.Dec.{eqb}
use lib.ListN.{length}
use borrow.Author.Tests.{eq-eqb, eqb-false, not-true}
use Rattle.geometry.specs.declared.Geometry.{Geometry}
use Rattle.geometry.specs.Geometry.{block_width}
use Rattle.layout.specs.declared.Layout.{Layout}
use Rattle.layout.specs.Layouts.{place_start, Proper}
use Rattle.levels.specs.Basics.{member}
use Rattle.levels.specs.Record.{Block, Level}
use Rattle.levels.specs.Place.{places_of, in_use, distinct}
use Rattle.levels.specs.Every.{Every, all_blocks}
use Rattle.levels.specs.Sound.{BlockFits}
use Rattle.levels.proofs.Basics.{or_false}
use Rattle.levels.proofs.Every.{every_at, every_turn}
use Rattle.levels.proofs.Places.{places_append}
use Rattle.words.specs.Stores.{part, place_of, block_words, with_blocks}
use Rattle.words.specs.Passed.{Standing}
use Rattle.words.proofs.Blocks.{PlacesApart, place_below, blocks_other, blocks_here}

-- the places of blocks that fit, one for each block
pub places_are : (g : Geometry) (bs : Level) → Every (BlockFits g) bs → places_of bs ≡ map place_of bs
places_are g [] f = refl
places_are g (b ∷ bs) f = rw (f.0.placed_at, places_are g bs f.1)

-- the places in use are those of the blocks of all levels
pub in_use_are : (ls : List Level) → in_use ls ≡ places_of (all_blocks ls)
in_use_are [] = refl
in_use_are (l ∷ ls) = ap (λ (ps : List ℕ). places_of l ++ ps) (in_use_are ls) ∙ sym (places_append l (all_blocks ls))

pub member_not : (q : ℕ) (ps : List ℕ) → member q ps ≡ false → Every (λ p. q ≢ p) ps
member_not q [] e = tt
member_not q (p ∷ ps) e = let k = or_false (eqb q p) (member q ps) e in (eqb-false q p k.0, member_not q ps k.1)

pub member_map : {A : Type 0} (f : A → ℕ) (xs : List A) (x : A) → Memᴰ x xs → member (f x) (map f xs) ≡ true
member_map f [] x m = absurd (Memᴰ.not-nil m)
member_map f (y ∷ ys) x (Memᴰ.head e) = rw (e, eq-eqb (f y) (f y) refl)
member_map f (y ∷ ys) x (Memᴰ.tail m) = rw (member_map f ys x m) (or-true (eqb (f x) (f y)))

every_unmap : {A : Type 0} (f : A → ℕ) (P : ℕ → Type 0) (xs : List A) → Every P (map f xs) → Every (λ x. P (f x)) xs
every_unmap f P [] h = tt
every_unmap f P (x ∷ xs) h = (h.0, every_unmap f P xs h.1)

-- places that are all different keep their blocks apart
pub distinct_apart : (bs : Level) → distinct (map place_of bs) ≡ true → PlacesApart bs
distinct_apart [] e = tt
distinct_apart (b ∷ bs) e =
    let k = (and-eq-true_iff (not (member (place_of b) (map place_of bs))) (distinct (map place_of bs))).0 e in
    (every_unmap place_of (λ p. place_of b ≢ p) bs (member_not (place_of b) (map place_of bs) (not-true _ k.0)), distinct_apart bs k.1)

-- the places of new blocks and those of blocks that a store has are different if none of the new ones is in use
fresh_apart : (g : Geometry) (ls : List Level) (written : Level) → Every (BlockFits g) (all_blocks ls) → Every (BlockFits g) written → Every (λ p. member p (in_use ls) ≡ false) (places_of written)
    → (b : Block) → Memᴰ b (all_blocks ls) → Every (λ c. place_of b ≢ place_of c) written
fresh_apart g ls written f w n b m =
    let u : in_use ls ≡ map place_of (all_blocks ls) = in_use_are ls ∙ places_are g (all_blocks ls) f in
    let n2 : Every (λ p. member p (in_use ls) ≡ false) (map place_of written) = rw (places_are g written w) at n in
    every_turn (λ c. member (place_of c) (in_use ls) ≡ false) (λ c. place_of b ≢ place_of c) written
    (λ c e d. true≢false (sym (member_map place_of (all_blocks ls) b m) ∙ rw (← u, d) e))
    (every_unmap place_of (λ p. member p (in_use ls) ≡ false) written n2)

-- After blocks have been written at places that are free, every block of the old store and every new one stands in its place.
pub standing_step : (z : Layout) (ws : List ℕ) (ls ms : List Level) (written : Level) → Proper z → length ws ≡ z.length → Every (BlockFits z.geo) (all_blocks ls) → Standing z ws ls → Every (BlockFits z.geo) written
    → distinct (places_of written) ≡ true → Every (λ p. member p (in_use ls) ≡ false) (places_of written)
    → Every (λ b. Memᴰ b (all_blocks ls) ⊎ Memᴰ b written) (all_blocks ms)
    → Standing z (with_blocks z written ws) ms
standing_step z ws ls ms written k long f l w d n o = every_turn (λ b. Memᴰ b (all_blocks ls) ⊎ Memᴰ b written) (λ b. part (with_blocks z written ws) (place_start z (place_of b)) (block_width z.geo) ≡ block_words z.geo b.recs) (all_blocks ms) (λ b m. go b m) o
  where
    go : (b : Block) → Memᴰ b (all_blocks ls) ⊎ Memᴰ b written → part (with_blocks z written ws) (place_start z (place_of b)) (block_width z.geo) ≡ block_words z.geo b.recs
    go b (inl m) =
        blocks_other z k (place_of b) written ws long (place_below b (every_at (BlockFits z.geo) (all_blocks ls) f b m)) w (fresh_apart z.geo ls written f w n b m)
        ∙ every_at (λ c. part ws (place_start z (place_of c)) (block_width z.geo) ≡ block_words z.geo c.recs) (all_blocks ls) l b m
    go b (inr m) =
        every_at (λ c. part (with_blocks z written ws) (place_start z (place_of c)) (block_width z.geo) ≡ block_words z.geo c.recs) written
        (blocks_here z k written ws long w (distinct_apart written (rw (places_are z.geo written w) at d))) b m

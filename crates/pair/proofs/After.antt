-- What stands after blocks have been written at free places: every block that was listed.
use Prim.Native.Nat.{ℕ, zero, suc, ◌+◌, ◌≤◌, ◌<◌}
use mathlib.Core.Path.{◌≡◌, refl, sym, ap, ◌∙◌}
use mathlib.Core.Bool.{Bool, true≢false}
use mathlib.Core.List.{List, [], ◌∷◌, map, reverse}
use mathlib.Core.Option.{Option, none, some}
use native.Mathlib.Omega.{arith}
use lib.ListN.{length, get_or}
use Rattle.geometry.specs.Geometry.{block_width}
use Rattle.levels.specs.Record.{Rec, Level}
use Rattle.levels.specs.Merge.{close}
use Rattle.levels.specs.Place.{Allocation, settle}
use Rattle.levels.specs.Taking.{fresh}
use Rattle.levels.proofs.Fresh.{reverse_fresh}
use Rattle.levels.proofs.MergeWrites.{close_writes}
use Rattle.levels.proofs.Settling.{settle_used}
use Rattle.pieces.specs.Pieces.{part}
use Rattle.words.specs.Stores.{block_at}
use Rattle.blocks.specs.Blocks.{Marks}
use Rattle.merging.specs.declared.Merged.{Merged}
use Rattle.merging.specs.Contract.{ListedBlock, Leaves}
use Rattle.merging.proofs.Settle.{NewFit}
use Rattle.merging.proofs.Steps.{join_fit}
use Rattle.pair.specs.Contract.{level_of, InUse, Stored}
use Rattle.pair.proofs.Kept.{Grown, settle_grows, count_same, mark_same, block_same}
use Rattle.layout.specs.declared.Layout.{Layout}
use Rattle.layout.specs.Layouts.{Proper, place_start}
use Rattle.words.proofs.Blocks.{blocks_length}

-- the blocks of a list have places, so none of them is new
pub listed_fresh : (z : Layout) (ws list : List ℕ) → fresh (map (block_at z ws) list) ≡ 0
unfolding block_at
listed_fresh z ws [] = refl
listed_fresh z ws (p ∷ ps) = omega (arith, listed_fresh z ws ps)

-- a level without new blocks has none that is too long
fresh_fit : (B : ℕ) (l : Level) → fresh l ≡ 0 → NewFit B l
fresh_fit B [] e = tt
fresh_fit B (b ∷ bs) e = go b.place b.recs e (λ d. fresh_fit B bs d)
  where
    go : (o : Option ℕ) (rs : List Rec) → fresh (record { place = o; recs = rs } ∷ bs) ≡ 0 → (fresh bs ≡ 0 → NewFit B bs) → NewFit B (record { place = o; recs = rs } ∷ bs)
    go none rs e ih = absurd (omega arith)
    go (some p) rs e ih = (λ d. absurd (true≢false d), ih (omega arith))

-- step 2 between blocks that have places: its block has at most B records, and it is one at most
pub close_fit : (B i : ℕ) (left right : Level) → fresh left ≡ 0 → fresh right ≡ 0 → NewFit B (close B (suc i) left right)
close_fit B i left right l r = join_fit B (reverse left) right (fresh_fit B (reverse left) (omega (arith, reverse_fresh left []))) (fresh_fit B right r)

pub close_one : (B i : ℕ) (left right : Level) → fresh left ≡ 0 → fresh right ≡ 0 → fresh (close B (suc i) left right) ≤ 1
close_one B i left right l r = omega (arith, close_writes B i left right)

-- what stands after a merge of which m places are in use
pub record Later (z : Layout) (ws ws' : List ℕ) (used used' : List Bool) (r : Merged) (m : ℕ) : Type 0 where
  pub long : length ws' ≡ z.length
  pub cursor : r.cursor < z.geo.p
  pub in_use : InUse used'
  pub count : length in_use.places ≡ m
  pub block : (q : ℕ) → ListedBlock z ws used q → ListedBlock z ws' used' q
  pub stored : (ps : List ℕ) (n : ℕ) → Stored z ws used ps n → Stored z ws' used' ps n × (level_of z ws' ps n ≡ level_of z ws ps n)

module _ (z : Layout) (ws ws' : List ℕ) (used used' : List Bool) (list : List ℕ) (r : Merged) (a : Allocation) (l : Level)
    (proper : Proper z) (long : length ws ≡ z.length) (low : a.cursor < z.geo.p) (free : length a.used + fresh l ≤ z.geo.p) (fit : NewFit z.geo.b l)
    (marks : Marks used a.used) (k : Leaves z (settle z.geo.p a l) ws ws' used' list r) where
  grown : Grown z a ws (settle z.geo.p a l)
  grown = settle_grows z a ws l proper long low free fit

  words_same : (q : ℕ) → ListedBlock z ws used q → part ws' (place_start z q) (block_width z.geo) ≡ part ws (place_start z q) (block_width z.geo)
  words_same q b = ap (λ (xs : List ℕ). part xs (place_start z q) (block_width z.geo)) k.words ∙ grown.words q b.place (sym (marks q) ∙ b.taken)

  block_after : (q : ℕ) → ListedBlock z ws used q → ListedBlock z ws' used' q
  block_after q b =
      let e = words_same q b in
      let c = count_same z ws ws' q e in
      record {
        place = b.place;
        taken = k.marks q ∙ grown.used q (sym (marks q) ∙ b.taken);
        low = rw c b.low;
        high = rw c b.high;
        bits = rw (c, mark_same z ws ws' q e) b.bits;
      }

  level_after_lem : (ps : List ℕ) (n : ℕ) → ((i : ℕ) → i < n → ListedBlock z ws used (get_or ps i 0)) → level_of z ws' ps n ≡ level_of z ws ps n
  level_after_lem ps zero f = refl
  level_after_lem [] (suc n) f = refl
  level_after_lem (p ∷ ps) (suc n) f =
      rw (block_same z ws ws' p (words_same p (f 0 (omega arith))), level_after_lem ps n (λ i h. f (suc i) (omega arith)))

  pub later : Later z ws ws' used used' r (length a.used + fresh l)
  later =
      record {
        long = rw k.words (blocks_length z (settle z.geo.p a l).written ws ∙ long);
        cursor = rw k.cursor grown.cursor;
        in_use = record { places = (settle z.geo.p a l).allocation.used; marks = k.marks };
        count = settle_used z.geo.p a l;
        block = block_after;
        stored = λ ps n s.
            let e = level_after_lem ps n s.blocks in
            (record { long = s.long; high = s.high; blocks = λ i h. block_after (get_or ps i 0) (s.blocks i h); rises = rw e s.rises }, e);
      }

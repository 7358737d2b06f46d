-- The records between two cursors of a level, and what becomes of four levels without them.
use Prim.Native.Nat.{ℕ, ◌+◌, ◌%◌, ◌≤◌, ◌<◌, min}
use mathlib.Core.Path.{◌≡◌, refl, sym, ap, ◌∙◌}
use mathlib.Core.Bool.{Bool, true, false}
use mathlib.Core.List.{List, [], ◌∷◌, ◌++◌, append-nil, append_assoc}
use native.Mathlib.Omega.{arith}
use lib.Dec.{eqb}
use lib.ListN.{length, length-append}
use Rattle.levels.specs.Record.{Rec}
use Rattle.levels.specs.Map.{overlay, unmarked}
use Rattle.levels.proofs.Rising.{below_append}
use Rattle.levels.specs.Rising.{Below}
use Rattle.levels.proofs.Overlay.{into_below}
use Rattle.levels.proofs.View.{unmarked_drop, unmarked_keep}
use Rattle.words.specs.Stores.{word}
use Rattle.chunks.specs.Peel.{live_bit}
use Rattle.chunks.proofs.Overlay.{Least, live_cons}
use Rattle.walk.specs.declared.Cursor.{Cursor}
use Rattle.walk.specs.Walk.{head_of, rest, Good, Skims, entered, Written, Copies}
use Rattle.walk.proofs.Listing.{written_one, entered_length}
use Rattle.walk.proofs.Rest.{alive_of}

-- records below the first key of the upper list stand before the overlay
pub overlay_before : (b : ℕ) (us xs ys : List Rec) → Least b us → Below b xs → overlay us (xs ++ ys) ≡ xs ++ overlay us ys
unfolding overlay
overlay_before b [] xs ys l h = refl
overlay_before b (u ∷ us) [] ys l h = refl
overlay_before b (u ∷ us) (x ∷ xs) ys l h = into_below u (λ zs. overlay us zs) x (xs ++ ys) (omega (arith, h.0)) ∙ ap (λ (zs : List Rec). x ∷ zs) (overlay_before b (u ∷ us) xs ys l h.1)

-- two lists end to end
pub unmarked_append : (xs ys : List Rec) → unmarked (xs ++ ys) ≡ unmarked xs ++ unmarked ys
unfolding unmarked
unmarked_append [] ys = refl
unmarked_append (x ∷ xs) ys = go x.tombstone refl (unmarked_append xs ys)
  where
    go : (t : Bool) → x.tombstone ≡ t → unmarked (xs ++ ys) ≡ unmarked xs ++ unmarked ys → unmarked (x ∷ (xs ++ ys)) ≡ unmarked (x ∷ xs) ++ unmarked ys
    go true e i = rw (unmarked_drop x (xs ++ ys) e, unmarked_drop x xs e) i
    go false e i = rw (unmarked_keep x (xs ++ ys) e, unmarked_keep x xs e) (ap (λ (zs : List Rec). x ∷ zs) i)

pub live_append : (xs ys : List Rec) → length (unmarked (xs ++ ys)) ≡ length (unmarked xs) + length (unmarked ys)
live_append xs ys = ap (λ (zs : List Rec). length zs) (unmarked_append xs ys) ∙ length-append (unmarked xs) (unmarked ys)

pub live_one : (r : Rec) → length (unmarked (r ∷ [])) ≡ live_bit r.tombstone
unfolding unmarked
live_one r = live_cons r [] ∙ omega arith

-- a record counts at most once
pub bit_high : (m r : ℕ) → r ≡ live_bit (eqb (m % 2) 1) → r ≤ 1
bit_high m r e = rw e (go (eqb (m % 2) 1))
  where
    go : (t : Bool) → live_bit t ≤ 1
    go true = omega arith
    go false = omega arith

-- no record between a cursor and itself
pub skims_start : (ws : List ℕ) (c : Cursor) (bound : ℕ) → Good ws c → Skims ws c bound c 0
unfolding unmarked
skims_start ws c bound g = record { good = g; between = []; joined = refl; below = tt; counted = refl }

module _ (ws : List ℕ) (c : Cursor) (bound : ℕ) (after : Cursor) (live : ℕ) (k : Skims ws c bound after live) where
  -- the next record is one more between the two
  module _ (h : after.key < bound) (b : bound ≤ 4294967296) where
    skims_alive : 1 ≤ after.chunk.count
    skims_alive = alive_of ws after k.good {k = after.key} refl (omega arith)

    skims_on : (e : Cursor) → Good ws e → rest ws after ≡ head_of ws after.chunk ∷ rest ws e → Skims ws c bound e (live + live_bit (eqb (after.chunk.marks % 2) 1))
    skims_on e g q =
        let r = head_of ws after.chunk in
        let a = skims_alive in
        let z = live_append k.between (r ∷ []) in
        let y = live_one r in
        record {
          good = g;
          between = k.between ++ (r ∷ []);
          joined = k.joined ∙ rw q (sym (append_assoc k.between (r ∷ []) (rest ws e)));
          below = below_append bound k.between (r ∷ []) k.below (let p = (k.good.alive a).0 in omega arith, tt);
          counted = let w = k.counted in omega arith;
        }

  -- no more records are left than before
  pub skims_length : length (rest ws after) ≤ length (rest ws c)
  skims_length = rw k.joined (let e = length-append k.between (rest ws after) in omega arith)

-- the same with the live records between the two listed
pub copies_start : (ws : List ℕ) (c : Cursor) (bound n : ℕ) (keys pays : List ℕ) → Good ws c → Copies ws c bound n keys pays c n keys pays
unfolding skims_start
copies_start ws c bound n keys pays g =
    record { live = 0; skims = skims_start ws c bound g; counted = omega arith; long = (refl, refl); listed = λ ks vs rs e w. rw (append-nil rs) w }

module _ (ws : List ℕ) (c : Cursor) (bound n : ℕ) (keys pays : List ℕ) (after : Cursor) (total : ℕ) (keys' pays' : List ℕ) (k : Copies ws c bound n keys pays after total keys' pays')
    (h : after.key < bound) (b : bound ≤ 4294967296) (total' : ℕ) (keys'' pays'' : List ℕ) (t : total' ≡ total + live_bit (eqb (after.chunk.marks % 2) 1))
    (ek : keys'' ≡ entered (eqb (after.chunk.marks % 2) 1) (min (length keys') (length pays')) total after.key keys')
    (ep : pays'' ≡ entered (eqb (after.chunk.marks % 2) 1) (min (length keys') (length pays')) total (word ws after.chunk.pays) pays') where
  pub copies_on : (e : Cursor) → Good ws e → rest ws after ≡ head_of ws after.chunk ∷ rest ws e → Copies ws c bound n keys pays e total' keys'' pays''
  unfolding skims_on
  copies_on e g q =
      record {
        live = k.live + live_bit (eqb (after.chunk.marks % 2) 1);
        skims = skims_on ws c bound after k.live k.skims h b e g q;
        counted = omega (arith, k.counted);
        long = (ap (λ (xs : List ℕ). length xs) ek ∙ entered_length (eqb (after.chunk.marks % 2) 1) (min (length keys') (length pays')) total after.key keys' ∙ k.long.0, ap (λ (xs : List ℕ). length xs) ep ∙ entered_length (eqb (after.chunk.marks % 2) 1) (min (length keys') (length pays')) total (word ws after.chunk.pays) pays' ∙ k.long.1);
        listed = λ ks vs rs z w. listed_on ks vs rs z (k.listed ks vs rs z w);
      }
    where
      listed_on : (ks vs : List ℕ) (rs : List Rec) → length rs ≡ n → Written ks vs (rs ++ unmarked k.skims.between) keys' pays' → Written ks vs (rs ++ unmarked (k.skims.between ++ (head_of ws after.chunk ∷ []))) keys'' pays''
      listed_on ks vs rs z w =
          let y = (k.skims.good.alive (alive_of ws after k.skims.good {k = after.key} refl (omega arith))).0 in
          let l : length (rs ++ unmarked k.skims.between) ≡ total = length-append rs (unmarked k.skims.between) ∙ omega (arith, k.counted, k.skims.counted) in
          rw (ek ∙ ap (λ (x : ℕ). entered (eqb (after.chunk.marks % 2) 1) (min (length keys') (length pays')) total x keys') y, ep, unmarked_append k.skims.between (head_of ws after.chunk ∷ []), ← append_assoc rs (unmarked k.skims.between) (unmarked (head_of ws after.chunk ∷ [])))
          (written_one ks vs (rs ++ unmarked k.skims.between) keys' pays' w total (head_of ws after.chunk) l)

-- each time one record less is left
pub shorter : (r : Rec) (xs ys : List Rec) → xs ≡ r ∷ ys → length ys < length xs
shorter r xs ys q = rw q (omega arith)

-- while a key is below the bound, its record can be read
pub copies_in : (ws : List ℕ) (c : Cursor) (bound n : ℕ) (keys pays : List ℕ) (after : Cursor) (total : ℕ) (keys' pays' : List ℕ) → Copies ws c bound n keys pays after total keys' pays' → after.key < bound → bound ≤ 4294967296
    → (after.key < 4294967296) × ((after.chunk.pays < length ws) × (length ws ≤ 400000))
copies_in ws c bound n keys pays after total keys' pays' k h b =
    let g = k.skims.good in
    let a = alive_of ws after g {k = after.key} refl (omega arith) in
    (omega arith, (omega (arith, g.pays_in), g.formed.within.short))

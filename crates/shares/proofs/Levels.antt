-- Levels of no chunks: they have no record and hide none. And four levels: their live keys are what each of them shows.
use Prim.Native.Nat.{ℕ, ◌+◌, ◌*◌, ◌≤◌, ◌<◌}
use mathlib.Core.Path.{◌≡◌, refl, sym, ap, subst, ◌∙◌}
use mathlib.Core.List.{List, [], ◌∷◌, ◌++◌, map}
use native.Mathlib.Omega.{arith}
use native.Mathlib.Numerals.{add-one}
use lib.ListN.{length, take, drop, get_or}
use lib.Seq.{drop-cons, take-suc}
use Rattle.std.proofs.lemmas.List.{drop_all}
use Rattle.levels.specs.Record.{Rec}
use Rattle.levels.specs.Map.{unmarked, live_count, map_of}
use Rattle.levels.specs.Rising.{Risings}
use Rattle.words.specs.Stores.{keys_of}
use Rattle.directory.specs.declared.Directory.{Directory}
use Rattle.directory.specs.Directory.{Formed, records_from, records_of}
use Rattle.walk.specs.Walk.{AllFormed, layered}
use Rattle.walk.proofs.Four.{all_head, all_tail}
use Rattle.shares.specs.Shares.{hide, shares_under}
use Rattle.shares.specs.Shadow.{shadow_from, shadow, keys_in, hide_all}
use Rattle.shares.proofs.Shares.{hide_nil, hide_append, live_shares}

-- a level of no chunks has no record
pub no_chunks_records : (ws : List ℕ) (d : Directory) → d.chunks < 1 → records_of ws d ≡ []
unfolding records_from
no_chunks_records ws d h =
    let e : d.chunks ≡ 0 = omega arith in
    ap (λ (n : ℕ). records_from ws d 0 n) e

-- and hides none
pub no_chunks_hide : (ws : List ℕ) (d : Directory) (rs : List Rec) → d.chunks < 1 → hide (keys_of (records_of ws d)) rs ≡ rs
no_chunks_hide ws d rs h = ap (λ (xs : List Rec). hide (keys_of xs) rs) (no_chunks_records ws d h) ∙ hide_nil rs

-- nor has it one that could be hidden
pub no_chunks_shadow : (ws : List ℕ) (d : Directory) (ks gone : List ℕ) → d.chunks < 1 → shadow ws d gone ≡ hide ks (shadow ws d gone)
unfolding shadow_from hide
no_chunks_shadow ws d ks gone h = let e : d.chunks ≡ 0 = omega arith in rw e

-- these keys, and behind them those of some levels
abbrev pub keys_under : List ℕ → List ℕ → List Directory → List ℕ
keys_under ws ks [] = ks
keys_under ws ks (d ∷ ds) = keys_under ws (ks ++ keys_in ws d) ds

keys_under_push : (ws ks : List ℕ) (ds : List Directory) (d : Directory) → keys_under ws ks (ds ++ (d ∷ [])) ≡ keys_under ws ks ds ++ keys_in ws d
keys_under_push ws ks [] d = refl
keys_under_push ws ks (e ∷ ds) d = keys_under_push ws (ks ++ keys_in ws e) ds d

-- level by level or all at once
hide_all_is : (ws ks : List ℕ) (ds : List Directory) (rs : List Rec) → hide_all ws ds (hide ks rs) ≡ hide (keys_under ws ks ds) rs
hide_all_is ws ks [] rs = refl
hide_all_is ws ks (d ∷ ds) rs = ap (hide_all ws ds) (sym (hide_append ks (keys_in ws d) rs)) ∙ hide_all_is ws (ks ++ keys_in ws d) ds rs

-- one more level above
pub hide_all_push : (ws : List ℕ) (ds : List Directory) (d : Directory) (rs : List Rec) → hide_all ws (ds ++ (d ∷ [])) rs ≡ hide (keys_in ws d) (hide_all ws ds rs)
hide_all_push ws [] d rs = refl
hide_all_push ws (e ∷ ds) d rs = hide_all_push ws ds d (hide (keys_in ws e) rs)

-- The first n of some levels are counted: with the shares of the others under the keys of these it is the number of live keys.
pub record Counted (ws : List ℕ) (l : List Directory) (n total : ℕ) : Type 0 where
  pub few : total ≤ 16384 * n
  pub adds : total + shares_under (keys_under ws [] (take n l)) (map (records_of ws) (drop n l)) ≡ shares_under [] (map (records_of ws) l)

pub counted_none : (ws : List ℕ) (l : List Directory) → Counted ws l 0 0
counted_none ws l = record { few = omega arith; adds = omega arith }

-- the next one
module _ (ws : List ℕ) (l : List Directory) (n total : ℕ) (c : Counted ws l n total) (h : n < length l) (d : Directory) where
  counted_on : (share : ℕ) → share ≤ 16384 → share ≡ length (unmarked (hide_all ws (take n l) (records_of ws (get_or l n d)))) → Counted ws l (n + 1) (total + share)
  unfolding shares_under
  counted_on share f e =
      let low = get_or l n d in
      let ks = keys_under ws [] (take n l) in
      let a : drop n l ≡ low ∷ drop (n + 1) l = rw (add-one n) (drop-cons l n d h) in
      let b : take (n + 1) l ≡ take n l ++ (low ∷ []) = rw (add-one n) (take-suc l n d h) in
      let k : keys_under ws [] (take (n + 1) l) ≡ ks ++ keys_in ws low = ap (keys_under ws []) b ∙ keys_under_push ws [] (take n l) low in
      let s : share ≡ length (unmarked (hide ks (records_of ws low))) = e ∙ ap (λ (rs : List Rec). length (unmarked rs)) (ap (hide_all ws (take n l)) (sym (hide_nil (records_of ws low))) ∙ hide_all_is ws [] (take n l) (records_of ws low)) in
      let q : total + (length (unmarked (hide ks (records_of ws low))) + shares_under (ks ++ keys_in ws low) (map (records_of ws) (drop (n + 1) l))) ≡ shares_under [] (map (records_of ws) l) = rw a at c.adds in
      record { few = omega (arith, c.few); adds = rw k (omega (arith, q, s)) }

  pub counted_level : (share : ℕ) → share ≤ 16384 → (gone : List ℕ) → share ≡ length (unmarked (shadow ws (get_or l n d) gone)) → shadow ws (get_or l n d) gone ≡ hide_all ws (take n l) (records_of ws (get_or l n d)) → Counted ws l (n + 1) (total + share)
  counted_level share f gone e q = counted_on share f (e ∙ ap (λ (rs : List Rec). length (unmarked rs)) q)

  -- which shows nothing if it has no chunk
  pub counted_empty : (get_or l n d).chunks ≤ 0 → Counted ws l (n + 1) total
  unfolding hide unmarked
  counted_empty z =
      let r = no_chunks_records ws (get_or l n d) (omega (arith, z)) in
      let o : hide_all ws (take n l) (records_of ws (get_or l n d)) ≡ [] = ap (hide_all ws (take n l)) r ∙ nothing (take n l) in
      subst (λ (k : ℕ). Counted ws l (n + 1) k) (omega arith) (counted_on 0 (omega arith) (sym (ap (λ (rs : List Rec). length (unmarked rs)) o)))
    where
      nothing : (ds : List Directory) → hide_all ws ds [] ≡ []
      nothing [] = refl
      nothing (e ∷ ds) = nothing ds

-- all of them
pub counted_all : (ws : List ℕ) (l : List Directory) (n total : ℕ) → Counted ws l n total → length l ≤ n → AllFormed ws l → total ≡ length (unmarked (layered ws l))
unfolding shares_under live_count map_of
counted_all ws l n total c h a =
    let z : drop n l ≡ [] = drop_all n l h in
    let e : total + 0 ≡ shares_under [] (map (records_of ws) l) = rw z at c.adds in
    omega (arith, e, live_shares (map (records_of ws) l) (each_rises l a))
  where
    each_rises : (ds : List Directory) → AllFormed ws ds → Risings (map (records_of ws) ds)
    each_rises [] b = tt
    each_rises (d ∷ ds) b = ((all_head (λ (d : Directory). Formed d ws) d ds b).rises, each_rises ds (all_tail (λ (d : Directory). Formed d ws) d ds b))

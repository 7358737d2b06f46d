-- What the proofs of the forecasts need: of a store that passes, each answer of the code is the definition's.
use Prim.Native.Nat.{ℕ}
use mathlib.Core.Path.{◌≡◌, sym, ap, ◌∙◌}
use mathlib.Core.Bool.{Bool, false, not, ◌&&◌, and-false, and-true}
use mathlib.Core.List.{List}
use mathlib.Core.Logic.{◌≢◌}
use lib.Dec.{eqb}
use lib.ListN.{length}
use borrow.Author.Tests.{eq-eqb, ne_eqb}
use Rattle.geometry.specs.Geometry.{key_limit_of, top_capacity_of}
use Rattle.levels.specs.Basics.{if◌then◌otherwise◌, is_some}
use Rattle.levels.specs.Record.{Rec}
use Rattle.levels.specs.Map.{find, is_live, map_of, live_count}
use Rattle.levels.specs.Store.{rows}
use Rattle.levels.proofs.View.{test_risings, is_live_find}
use Rattle.levels.proofs.OneMerge.{full_without}
use Rattle.layout.specs.declared.Layout.{Layout}
use Rattle.words.specs.Stores.{live_at, top_count_at, top_recs, store_at}
use Rattle.words.specs.Calls.{is_full, top_merges, foretold}
use Rattle.words.specs.Passed.{Passed}
use Rattle.writer.proofs.Entering.{has_room, holds_ready}

-- a put, turned down as full or not
pub put_by : (m : ℕ) (t u : Bool) → t ≡ u → foretold (if t then 5 otherwise 0) m ≡ foretold (if u then 5 otherwise 0) m
put_by m t u e = ap (λ (b : Bool). foretold (if b then 5 otherwise 0) m) e

module _ (z : Layout) (ws : List ℕ) (p : Passed z ws) (k : ℕ) where
  abbrev records : List Rec
  records = map_of (rows (store_at z ws))

  -- a key is live if the map has it
  map_has : (t : Bool) → is_live k (rows (store_at z ws)) ≡ t → is_some (find k records) ≡ t
  map_has t h = sym (is_live_find k (rows (store_at z ws)) (test_risings (rows (store_at z ws)) p.sound.keys_rise)) ∙ h

  live_is_map : live_at z ws ≡ length records
  unfolding store_at live_count
  live_is_map = sym p.sound.live_exact

  -- refusal 5: not while live is below N, and at N of a key that is not live
  pub full_below : live_at z ws ≢ key_limit_of z.geo → false ≡ is_full (key_limit_of z.geo) records k
  full_below d = sym (ap (λ (b : Bool). not (is_some (find k records)) && b) (ne_eqb (length records) (key_limit_of z.geo) (λ l. d (live_is_map ∙ l))) ∙ and-false (not (is_some (find k records))))

  pub full_at : (t : Bool) → live_at z ws ≡ key_limit_of z.geo → is_live k (rows (store_at z ws)) ≡ t → not t ≡ is_full (key_limit_of z.geo) records k
  full_at t l h =
      sym (ap (λ (b : Bool). not b && eqb (length records) (key_limit_of z.geo)) (map_has t h)
      ∙ ap (λ (b : Bool). not t && b) (eq-eqb (length records) (key_limit_of z.geo) (sym live_is_map ∙ l)) ∙ and-true (not t))

  -- a delete, of a live key or not
  pub delete_by : (t : Bool) → is_live k (rows (store_at z ws)) ≡ t
      → record { reason = 0; merges = if t then top_merges z ws k otherwise 0 } ≡ foretold 0 (if is_some (find k records) then top_merges z ws k otherwise 0)
  delete_by t h = ap (λ (b : Bool). foretold 0 (if b then top_merges z ws k otherwise 0)) (sym (map_has t h))

  -- one merge makes room in level 0 where there is none
  pub merges_by : (t : Bool) → has_room z ws k ≡ t → ◌≡◌ {A = ℕ} (if t then 0 otherwise 1) (top_merges z ws k)
  unfolding has_room top_merges store_at
  merges_by t h =
      ap (λ (b : Bool). if b then 0 otherwise 1) (sym h) ∙ sym (full_without (is_some (find k (top_recs z ws))) (top_count_at z ws) (top_capacity_of z.geo) (holds_ready z ws p).fits)

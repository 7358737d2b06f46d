-- Words in a row as a list, and the place lists of the levels as such.
use Prim.Native.Nat.{ℕ, zero, suc, ◌+◌, ◌-◌, ◌≤◌}
use mathlib.Core.Path.{◌≡◌, sym, ap, ◌∙◌, refl}
use mathlib.Core.Bool.{Bool, ◌&&◌}
use mathlib.Core.List.{List, ◌++◌}
use native.Mathlib.Omega.{arith}
use lib.ListN.{length, drop}
use lib.Seq.{take_at, drop_at}
use Rattle.geometry.specs.Geometry.{capacity_of}
use Rattle.levels.specs.Basics.{all, each}
use Rattle.levels.proofs.Every.{all_joined}
use Rattle.words.specs.Stores.{word, count_at, list_at, listed_at, part}
use Rattle.words.specs.Form.{is_zero, listed_places}
use Rattle.levels.proofs.Each.{length_each, each_add, each_part}
use Rattle.chunks.specs.Chunks.{zeros_at}
use Rattle.form.proofs.Tests.{range}
use Rattle.layout.specs.Layouts.{list_start}
use Rattle.layout.specs.declared.Layout.{Layout}

-- n words from word i on
abbrev pub words_from : List ℕ → ℕ → ℕ → List ℕ
words_from ws i n = each (word ws) i n

-- words that are all 0
pub words_zero : (ws : List ℕ) (i n : ℕ) → all is_zero (words_from ws i n) ≡ zeros_at ws i n
unfolding zeros_at
words_zero ws i zero = refl
words_zero ws i (suc n) = rw (words_zero ws (suc i) n)

pub zeros_split : (ws : List ℕ) (i m n : ℕ) → zeros_at ws i (m + n) ≡ (zeros_at ws i m && zeros_at ws (i + m) n)
zeros_split ws i m n = sym (words_zero ws i (m + n)) ∙ rw (each_add (word ws) i m n, all_joined is_zero (words_from ws i m) (words_from ws (i + m) n), words_zero ws i m, words_zero ws (i + m) n)

-- the list of level i lies within the words, and the level lists no more places than it may
pub record Listed (z : Layout) (ws : List ℕ) (i : ℕ) : Type 0 where
  pub inside : list_start z i + capacity_of z.geo i ≤ length ws
  pub fits : count_at z ws i ≤ capacity_of z.geo i

module _ (z : Layout) (ws : List ℕ) (i : ℕ) (l : Listed z ws i) where
  list_parts : list_at z ws i ≡ words_from ws (list_start z i) (count_at z ws i) ++ words_from ws (list_start z i + count_at z ws i) (capacity_of z.geo i - count_at z ws i)
  unfolding list_at part
  list_parts =
      let e : capacity_of z.geo i ≡ count_at z ws i + (capacity_of z.geo i - count_at z ws i) = omega arith in
      sym (each_part 0 ws (list_start z i) (capacity_of z.geo i) l.inside) ∙ ap (words_from ws (list_start z i)) e ∙ each_add (word ws) (list_start z i) (count_at z ws i) (capacity_of z.geo i - count_at z ws i)

  -- the places that level i lists
  pub listed_words : listed_at z ws i ≡ words_from ws (list_start z i) (count_at z ws i)
  unfolding listed_at
  listed_words = rw list_parts (take_at (words_from ws (list_start z i) (count_at z ws i)) _ (count_at z ws i) (length_each (word ws) (list_start z i) (count_at z ws i)))

  -- the unused entries of its list
  pub unlisted_words : drop (count_at z ws i) (list_at z ws i) ≡ words_from ws (list_start z i + count_at z ws i) (capacity_of z.geo i - count_at z ws i)
  unlisted_words = rw list_parts (drop_at (words_from ws (list_start z i) (count_at z ws i)) _ (count_at z ws i) (length_each (word ws) (list_start z i) (count_at z ws i)))

-- a test of every listed place, level by level
pub listed_each : (t : ℕ → Bool) (z : Layout) (ws : List ℕ) (i n : ℕ) → all t (listed_places z ws i n) ≡ all (λ (j : ℕ). all t (listed_at z ws j)) (range i n)
unfolding listed_places
listed_each t z ws i zero = refl
listed_each t z ws i (suc n) = rw (all_joined t (listed_at z ws i) (listed_places z ws (suc i) n), listed_each t z ws (suc i) n)

-- Lists that a loop fills from their start on.
use Prim.Native.Nat.{ℕ, suc, ◌+◌, ◌<◌}
use mathlib.Core.Path.{◌≡◌, refl, sym, ap, ◌∙◌}
use mathlib.Core.List.{List, ◌++◌, append-nil}
use native.Mathlib.Numerals.{add-one}
use native.Mathlib.Omega.{arith}
use lib.ListN.{length, get_or, take, drop, set}
use Rattle.std.proofs.lemmas.List.{drop_all}
use lib.Seq.{set_at, drop-cons, append_snoc, take-append_seam}
use Rattle.levels.specs.Basics.{each}
use Rattle.levels.proofs.Each.{length_each, each_more}
use Rattle.fences.specs.Reading.{fill}

-- one more entry filled in
pub fill_more : {A : Type 0} (f : ℕ → A) (i : ℕ) (xs : List A) → i < length xs → set (fill f i xs) i (f i) ≡ fill f (suc i) xs
unfolding fill
fill_more f i xs h =
    rw (drop-cons xs i (f i) h, set_at (each f 0 i) (get_or xs i (f i)) (drop (suc i) xs) (f i) i (length_each f 0 i))
    (sym (ap (λ r. r ++ drop (suc i) xs) (each_more f i) ∙ append_snoc (each f 0 i) (f i) (drop (suc i) xs)))

-- a step of a loop that fills a list
pub fill_step : {A : Type 0} (f : ℕ → A) (i : ℕ) (xs ys : List A) (v : A) → i < length xs → ys ≡ fill f i xs → v ≡ f i → set ys i v ≡ fill f (i + 1) xs
fill_step f i xs ys v h e d = rw (e, d, add-one i) (fill_more f i xs h)

pub fill_none : {A : Type 0} (f : ℕ → A) (xs : List A) → fill f 0 xs ≡ xs
unfolding fill
fill_none f xs = refl

-- what was filled in
pub take_fill : {A : Type 0} (f : ℕ → A) (n : ℕ) (xs : List A) → take n (fill f n xs) ≡ each f 0 n
unfolding fill
take_fill f n xs = rw length_each at (take-append_seam (each f 0 n) (drop n xs))

pub fill_all : {A : Type 0} (f : ℕ → A) (n : ℕ) (xs : List A) → length xs ≡ n → fill f (length xs) xs ≡ each f 0 n
unfolding fill
fill_all f n xs e = rw (drop_all (length xs) xs (omega arith), append-nil, e)

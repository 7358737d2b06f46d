-- Within a turn of a walk: the last level has gone past the records below the others' next keys, and the least key is known.
use Prim.Native.Nat.{ℕ, ◌≤◌, ◌<◌, min}
use mathlib.Core.Path.{◌≡◌, refl, sym, ◌∙◌}
use mathlib.Core.List.{List, [], ◌∷◌}
use mathlib.Core.Logic.{dite}
use native.Mathlib.Decide.{dec_lt}
use native.Mathlib.Nat.{min-le_left, min-le_right, min-eq_left, min-eq_right}
use native.Mathlib.Omega.{arith}
use Rattle.walk.specs.declared.Cursor.{Cursor}
use Rattle.walk.specs.Walk.{least_of}
use Rattle.walk.proofs.Four.{Low, Misses, low_under, LeastOf}

-- the least of `stop` and some next keys is above none of them, and is one of them or `stop`
pub least_low : (stop : ℕ) (us : List Cursor) → Low (least_of stop us) us × (least_of stop us ≤ stop)
least_low stop [] = (tt, omega arith)
least_low stop (u ∷ us) =
    let i = least_low (min stop u.key) us in
    ((omega (arith, i.1, min-le_right stop u.key), i.0), omega (arith, i.1, min-le_left stop u.key))

pub least_hit : (stop : ℕ) (us : List Cursor) → Misses (least_of stop us) us → least_of stop us ≡ stop
least_hit stop [] m = refl
least_hit stop (u ∷ us) m =
    let i = least_hit (min stop u.key) us m.1 in
    dite (dec_lt u.key stop)
    (λ h. absurd (m.0 (sym (i ∙ min-eq_right (omega arith)))))
    (λ h. i ∙ min-eq_left (omega arith))

-- k is the least of the next keys, or no next key is below `stop`
pub record Nearest (us : List Cursor) (c : Cursor) (stop k : ℕ) : Type 0 where
  pub least : k < stop → LeastOf us c k
  pub done : stop ≤ k → Low stop us × (stop ≤ c.key)

-- by the numbers that the code compares
pub nearest_of : (us : List Cursor) (c : Cursor) (stop k : ℕ) → k ≡ min (least_of stop us) c.key → Nearest us c stop k
nearest_of us c stop k e =
    let b = least_low stop us in
    let l : k ≤ least_of stop us = omega (arith, min-le_left (least_of stop us) c.key) in
    let r : k ≤ c.key = omega (arith, min-le_right (least_of stop us) c.key) in
    record {
      least = λ h. record { low = low_under k (least_of stop us) us l b.0; low_last = r; hit = λ m. hit_last h m };
      done = λ h. (low_under stop (least_of stop us) us (omega arith) b.0, omega arith);
    }
  where
    hit_last : k < stop → Misses k us → c.key ≡ k
    hit_last h m =
        dite (dec_lt (least_of stop us) c.key)
        (λ y. let z = e ∙ min-eq_left (omega arith) in let q = least_hit stop us (rw (← z) m) in absurd (omega arith))
        (λ n. sym (e ∙ min-eq_right (omega arith)))

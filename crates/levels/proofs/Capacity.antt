-- More of windows and capacities than the geometry's own laws say.
use Prim.Native.Nat.{ℕ, zero, suc, ◌+◌, ◌*◌, ◌<◌, ◌≤◌}
use mathlib.Core.Path.{◌≡◌, ap}
use native.Mathlib.Omega.{arith}
use native.Mathlib.Decide.{ℕ_discrete}
use native.Mathlib.Nat.{mul-le-mul_left, mul-le-mul_right, pow-le-pow_right}
use Rattle.geometry.specs.declared.Geometry.{Geometry}
use Rattle.geometry.specs.Geometry.{Ranged, capacity_of, window_of, capacity_sum, flash_capacity_of}
use Rattle.geometry.proofs.Laws.{capacity_windows, window_grows}

-- "G growth" is 2 or more: a window is at most half the window below it
pub window_half : (g : Geometry) → Ranged g → (i : ℕ) → 2 * window_of g i ≤ window_of g (suc i)
window_half g k i = rw window_grows (mul-le-mul_right (window_of g i) k.g_low)

-- a deeper level has no smaller a window
pub window_mono : (g : Geometry) → Ranged g → {i j : ℕ} → i ≤ j → window_of g i ≤ window_of g j
unfolding window_of
window_mono g k h = mul-le-mul_left g.w (pow-le-pow_right (let r = k.g_low in omega arith) h)

-- "d windows a level" is 2 or more: a window is at most half its level
pub window_capacity_half : (g : Geometry) → Ranged g → (i : ℕ) → 2 * window_of g i ≤ capacity_of g i
window_capacity_half g k i = rw capacity_windows (mul-le-mul_right (window_of g i) k.d_low)

-- a sum of capacities is no less than each of them
pub capacity_sum_at : (g : Geometry) (i n j : ℕ) → j < n → capacity_of g (i + j) ≤ capacity_sum g i n
unfolding capacity_sum
capacity_sum_at g i zero j h = absurd (omega arith)
capacity_sum_at g i (suc n) j h = go (ℕ_discrete j n) (λ k. capacity_sum_at g i n j k)
  where
    go : Dec (j ≡ n) → (j < n → capacity_of g (i + j) ≤ capacity_sum g i n) → capacity_of g (i + j) ≤ capacity_sum g i n + capacity_of g (i + n)
    go (yes e) ih = rw e (omega arith)
    go (no e) ih = omega (arith, ih (omega arith))

-- "S = K(1) + .. + K(h)": no level's capacity is above it
pub level_in_flash : (g : Geometry) (j : ℕ) → j < g.h → capacity_of g (suc j) ≤ flash_capacity_of g
unfolding flash_capacity_of
level_in_flash g j h = let e : 1 + j ≡ suc j = omega arith in omega (arith, capacity_sum_at g 1 g.h j h, ap (capacity_of g) e)

-- A map over a map.
use mathlib.Core.Path.{◌≡◌, refl}
use mathlib.Core.List.{List, [], ◌∷◌, map}

pub map_of_map : {A B C : Type 0} (f : B → C) (h : A → B) (k : A → C) → ((x : A) → f (h x) ≡ k x) → (xs : List A) → map f (map h xs) ≡ map k xs
map_of_map f h k e [] = refl
map_of_map f h k e (x ∷ xs) = rw (e x, map_of_map f h k e xs)

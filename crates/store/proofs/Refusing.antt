-- "Why a call is turned down. In this order", of the calls that change the store; for those that read it see Reading.
use Prim.Native.Nat.{ℕ, ◌≤◌, ◌<◌}
use mathlib.Core.Path.{◌≡◌, sym, ap, ◌∙◌}
use mathlib.Core.Bool.{true, false}
use mathlib.Core.List.{List}
use mathlib.Core.Option.{none}
use mathlib.Core.Logic.{◌≢◌}
use native.Mathlib.Omega.{arith}
use lib.ListN.{length}
use borrow.Author.Tests.{ne_eqb}
use Rattle.geometry.specs.declared.Geometry.{Geometry}
use Rattle.geometry.specs.Geometry.{key_limit_of, is_legal}
use Rattle.layout.specs.Layouts.{old, size_reason}
use Rattle.geometry.proofs.Laws.{legal_valid}
use Rattle.levels.specs.Map.{find}
use Rattle.levels.specs.Count.{Counts, counts_of}
use Rattle.words.specs.Stores.{geometry_at}
use Rattle.words.specs.Form.{reason_of}
use Rattle.words.specs.Calls.{ChangeAnswer, map_at, format_words, format_of, check_of, change_outcome, put_of, delete_of}
use Rattle.words.proofs.Reason.{size_none, layout_geometry}
use Rattle.words.proofs.Formatted.{format_turned_down, format_accepted}
use Rattle.words.proofs.MapAfter.{put_full_outcome}
use Rattle.layout.proofs.Opening.{size_short, size_broken, size_other}
-- Of a store that passes, every delete is accepted, and every put but that of a new key while the map holds N; of all words, 5 is answered there alone.
pub use Rattle.words.proofs.MapAfter.{put_accepted, delete_accepted, put_full_only}

-- Format, by the number of words and the geometry that it is given alone, whatever the words are.
module _ (ws : List ℕ) (g : Geometry) where
  format_refused : (n : ℕ) → 1 ≤ n → size_reason (length ws) g ≡ n → format_of ws g ≡ record { answer = record { reason = n; limit = 0 }; words = ws }
  format_refused n h e = format_turned_down ws g (λ z. omega arith) ∙ ap (λ (r : ℕ). record { answer = record { reason = r; limit = 0 }; words = ws }) e

  -- "1. The store has fewer than 12 words."
  pub format_short : length ws < 12 → format_of ws g ≡ record { answer = record { reason = 1; limit = 0 }; words = ws }
  format_short h = format_refused 1 (omega arith) (size_short (length ws) g (omega arith))

  -- "2. The geometry, given to format .., breaks a limit above."
  pub format_broken : 12 ≤ length ws → is_legal g ≡ false → format_of ws g ≡ record { answer = record { reason = 2; limit = 0 }; words = ws }
  format_broken h l = format_refused 2 (omega arith) (size_broken (length ws) g h l)

  -- "3. The length differs from the layout's."
  pub format_other : 12 ≤ length ws → is_legal g ≡ true → length ws ≢ (old g).length → format_of ws g ≡ record { answer = record { reason = 3; limit = 0 }; words = ws }
  format_other h l k = format_refused 3 (omega arith) (size_other (length ws) g h l k)

  -- and no other reason
  pub format_fits : is_legal g ≡ true → length ws ≡ (old g).length → format_of ws g ≡ record { answer = record { reason = 0; limit = key_limit_of g }; words = format_words (old g) }
  format_fits l k = format_accepted ws g (size_none (length ws) g (legal_valid g l) k)

-- "the answer has only the number and zeros"
abbrev pub no_counts : Counts
no_counts = record { merges = 0; written = 0; compacted = 0 }

abbrev pub only_number : ℕ → ChangeAnswer
only_number n = record { reason = n; live = false; level1 = no_counts; level2 = no_counts; level3 = no_counts }

-- Put and delete of a store that the check turns down: the check's number, before anything else is looked at, "and no lent word changes".
module _ (ws : List ℕ) (h : reason_of ws ≢ 0) where
  pub put_turned_down : (k v : ℕ) → put_of ws k v ≡ record { answer = only_number (check_of ws); words = ws }
  unfolding put_of change_outcome counts_of check_of
  put_turned_down k v = rw (ne_eqb (reason_of ws) 0 h, put_of)

  pub delete_turned_down : (k : ℕ) → delete_of ws k ≡ record { answer = only_number (check_of ws); words = ws }
  unfolding delete_of change_outcome counts_of check_of
  delete_turned_down k = rw (ne_eqb (reason_of ws) 0 h, delete_of)

-- "5. A put has a key not in the map while live = N.", of a store that passes
pub put_turned_down_full : (ws : List ℕ) → reason_of ws ≡ 0 → (k v : ℕ) → find k (map_at ws) ≡ none → length (map_at ws) ≡ key_limit_of (geometry_at ws) → put_of ws k v ≡ record { answer = only_number 5; words = ws }
unfolding counts_of
put_turned_down_full ws e k v h l = put_full_outcome ws e k v h (l ∙ ap key_limit_of (sym (layout_geometry ws)))

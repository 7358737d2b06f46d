-- What the proof of format needs: its words are the definition's, and the two cases of its outcome.
use Prim.Native.Nat.{ℕ, ◌-◌, ◌≤◌}
use mathlib.Core.Path.{◌≡◌, sym, ap, ◌∙◌, subst}
use mathlib.Core.List.{List}
use native.Mathlib.Omega.{arith}
use lib.ListN.{length, take, drop, get_or, set, replicate}
use lib.Seq.{take_all}
use borrow.Author.Tests.{eq-eqb, ne_eqb}
use Rattle.slices.specs.Slices.{put_at}
use Rattle.geometry.specs.declared.Geometry.{Geometry}
use Rattle.geometry.specs.Geometry.{Valid, key_limit_of}
use Rattle.layout.specs.declared.Layout.{Layout}
use Rattle.layout.specs.Layouts.{old, size_reason, Proper, Fitted}
use Rattle.layout.proofs.Old.{old_proper}
use Rattle.layout.proofs.Laws.{fitted_spots}
use Rattle.pieces.specs.Pieces.{lay, lay_all}
use Rattle.pieces.proofs.Pieces.{put_lay}
use Rattle.words.specs.Calls.{Outcome, FormatAnswer, six_of, format_words, format_of}
use Rattle.std.specs.Prelude.{Ok, Err}
use Rattle.geometry.specs.declared.Refusal.{Refusal}
use Rattle.geometry.specs.Refusals.{number_of}
use Rattle.layout.specs.Opening.{fit_of}
use Rattle.layout.proofs.Opening.{fitted_ready, fitted_refused}
use Rattle.store.specs.Answers.{format_answer}
use Rattle.store.specs.Format.{headed}

-- the six words and hand are laid as they are written
pub header_laid : (z : Layout) (six ws : List ℕ) → Fitted z ws → length six ≡ 6 → set (put_at z.six (take 6 (drop 0 six)) ws) z.hand (get_or six 5 0 - 1) ≡ headed z six ws
unfolding headed lay_all lay
header_laid z six ws f l =
    ap (λ (xs : List ℕ). set (put_at z.six xs ws) z.hand (get_or six 5 0 - 1)) (take_all 6 six (omega arith))
    ∙ ap (λ (xs : List ℕ). set xs z.hand (get_or six 5 0 - 1)) (put_lay z.six six ws (omega (arith, fitted_spots z ws f)))

-- "every word 0 but the six of the geometry and hand = P − 1"
cleared_headed : (s : Geometry) (n : ℕ) → n ≡ (old s).length → headed (old s) (six_of s) (replicate n 0) ≡ format_words (old s)
unfolding headed format_words old
cleared_headed s n h = rw h

-- format of words and a geometry that do not fit: "no lent word changes"
pub format_refused : (ws : List ℕ) (s : Geometry) (r : Refusal) → Err r ≡ fit_of (length ws) s → ◌≡◌ {A = Outcome FormatAnswer} (record { answer = format_answer (Err r); words = ws }) (format_of ws s)
unfolding format_of
format_refused ws s r e =
    let k = fitted_refused (length ws) s r (sym e) in
    rw (ne_eqb (size_reason (length ws) s) 0 (λ z. omega arith), format_of, k.0)

-- words that fit have room for what format writes, and a place for hand to stand at
module _ (n : ℕ) (s : Geometry) (z : Layout) (e : Ok z ≡ fit_of n s) where
  layout_is : z ≡ old s
  layout_is = (fitted_ready n s z (sym e)).0

  pub header_asks : (us : List ℕ) → length us ≡ n → Fitted z us × (1 ≤ s.p)
  header_asks us l =
      let k = fitted_ready n s z (sym e) in
      (record { proper = subst Proper (sym layout_is) (old_proper s k.1.0); words = l ∙ k.1.1.0 }, omega (arith, k.1.0.places_low))

  pub limit_asks : Valid z.geo
  unfolding old
  limit_asks = subst (λ (y : Layout). Valid y.geo) (sym layout_is) (fitted_ready n s z (sym e)).1.0

  -- "answers N"
  pub format_done : (ws : List ℕ) (l : ℕ) → length ws ≡ n → l ≡ key_limit_of z.geo → ◌≡◌ {A = Outcome FormatAnswer} (record { answer = format_answer (Ok l); words = headed z (six_of s) (replicate (length ws) 0) }) (format_of ws s)
  unfolding format_of old
  format_done ws l m q =
      let k = fitted_ready n s z (sym e) in
      rw (m, eq-eqb (size_reason n s) 0 k.1.1.1, format_of, q, layout_is) (ap (λ (us : List ℕ). record { answer = record { reason = 0; limit = key_limit_of s }; words = us }) (cleared_headed s n (k.1.1.0 ∙ ap (λ (y : Layout). y.length) layout_is)))

-- What the proofs of the exported calls need.
use Prim.Native.Nat.{ℕ}
use mathlib.Core.Path.{◌≡◌, sym, ap, ◌∙◌, subst}
use mathlib.Core.Bool.{true}
use mathlib.Core.List.{List}
use native.Mathlib.Omega.{arith}
use Rattle.geometry.specs.declared.Geometry.{Geometry}
use Rattle.std.specs.Prelude.{Option, Result, Ok, Err}
use Rattle.geometry.specs.declared.Refusal.{Refusal}
use Rattle.geometry.specs.Geometry.{is_legal, built_of}
use Rattle.layout.specs.Layouts.{old}
use Rattle.geometry.proofs.Laws.{built_valid, built_broken, valid_legal}
use Rattle.words.specs.Calls.{Outcome, FormatAnswer, StretchAnswer, StretchOutcome, ChangeAnswer}
use Rattle.steps.specs.Running.{numbers_of, counts_in}
use Rattle.writer.specs.declared.Change.{Change}
use Rattle.walk.specs.declared.Listed.{Listed}
use Rattle.reader.specs.Answers.{stretch_answer}
use Rattle.writer.specs.Answers.{changed_answer}
use Rattle.store.specs.Answers.{format_answer}
use Rattle.store.specs.Change.{SumsFit, PutDone, DeleteDone}
use Rattle.mewilovang.specs.declared.Formatted.{Formatted}
use Rattle.mewilovang.specs.declared.Stretched.{Stretched}
use Rattle.mewilovang.specs.declared.Changed.{Changed}
use Rattle.mewilovang.specs.Answers.{words_of, formatted_reply, formatted_outcome, stretched_reply, stretched_outcome, CountsFit, forecast_reply, changed_reply, PutReplied, DeleteReplied}

-- the words of a layout
pub words_broken : (g : Geometry) (r : Refusal) → Err r ≡ built_of g → 0 ≡ words_of g
unfolding words_of
words_broken g r e = rw ((built_broken g r (sym e)).1, words_of)

pub words_legal : (g t : Geometry) → Ok t ≡ built_of g → (old t).length ≡ words_of g
unfolding words_of
words_legal g t e =
    let k = built_valid g t (sym e) in
    let u : is_legal g ≡ true = ap is_legal k.0 ∙ valid_legal t k.1 in
    rw (u, words_of) (ap (λ (x : Geometry). (old x).length) (sym k.0))

-- each count is no more than the sum over the levels
module _ (r : Result Change Refusal) (d : Change) (e : r ≡ Ok d) (h : SumsFit (changed_answer r)) where
  sums : SumsFit (changed_answer (Ok d))
  sums = subst (λ (x : Result Change Refusal). SumsFit (changed_answer x)) e h

  pub one_fit : CountsFit (numbers_of (counts_in d.tally 0))
  one_fit = record { merges = omega (arith, sums.merges); written = omega (arith, sums.merged); compacted = omega (arith, sums.compacted) }

  pub two_fit : CountsFit (numbers_of (counts_in d.tally 1))
  two_fit = record { merges = omega (arith, sums.merges); written = omega (arith, sums.merged); compacted = omega (arith, sums.compacted) }

  pub three_fit : CountsFit (numbers_of (counts_in d.tally 2))
  three_fit = record { merges = omega (arith, sums.merges); written = omega (arith, sums.merged); compacted = omega (arith, sums.compacted) }

pub format_replied : (f : Result ℕ Refusal) (r : Formatted) (out : List ℕ) (o : Outcome FormatAnswer) → ◌≡◌ {A = Outcome FormatAnswer} (record { answer = format_answer f; words = out }) o → r ≡ formatted_reply (format_answer f)
    → ◌≡◌ {A = Outcome Formatted} (record { answer = r; words = out }) (formatted_outcome o)
format_replied f r out o e q = ap (λ (x : Formatted). record { answer = x; words = out }) q ∙ ap formatted_outcome e

-- stretch's answer and arrays
pub stretch_replied : (s : Result Listed Refusal) (r : Stretched) (keys pays : List ℕ) (o : StretchOutcome StretchAnswer) → ◌≡◌ {A = StretchOutcome StretchAnswer} (record { answer = stretch_answer s; keys = keys; pays = pays }) o → r ≡ stretched_reply (stretch_answer s)
    → ◌≡◌ {A = StretchOutcome Stretched} (record { answer = r; keys = keys; pays = pays }) (stretched_outcome o)
stretch_replied s r keys pays o e q = ap (λ (x : Stretched). record { answer = x; keys = keys; pays = pays }) q ∙ ap stretched_outcome e

module _ (ws : List ℕ) (k : ℕ) (c : Result Change Refusal) (r : Changed) (out : List ℕ) (q : r ≡ changed_reply (changed_answer c)) where
  pub put_replied : (v : ℕ) → PutDone ws k v c out → PutReplied ws k v r out
  put_replied v d = record {
    reply = q ∙ ap (λ (o : Outcome ChangeAnswer). changed_reply o.answer) d.outcome;
    words = ap (λ (o : Outcome ChangeAnswer). o.words) d.outcome;
    foretold = ap (λ (x : Changed). record { reason = x.reason; merges = x.level1.merges }) q ∙ ap forecast_reply d.foretold;
    change = c;
    answer = q;
    done = d;
  }

  pub delete_replied : DeleteDone ws k c out → DeleteReplied ws k r out
  delete_replied d = record {
    reply = q ∙ ap (λ (o : Outcome ChangeAnswer). changed_reply o.answer) d.outcome;
    words = ap (λ (o : Outcome ChangeAnswer). o.words) d.outcome;
    foretold = ap (λ (x : Changed). record { reason = x.reason; merges = x.level1.merges }) q ∙ ap forecast_reply d.foretold;
    change = c;
    answer = q;
    done = d;
  }

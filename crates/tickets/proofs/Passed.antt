-- What a call gives back that one `&mut [T]` was passed to: its token, and the last list under its ghost name. What the contract says comes as facts, and so does the result's machine value: what the result owns is let go, so the result is plain data.
--     Post, Back       what the callee's triple says, and the same with its facts in front
--     back             from one to the other. rest is said of the other parameters, which own no borrow
-- Assumes `Logic`.
use mathlib.Core.Path.{◌≡◌}
use Prim.Native.Nat.{ℕ}
use mathlib.Core.List.{List, [], ◌∷◌}
use lib.ListN.{length}
use seplogic.Ra.Ura.{Ura}
use mir.Val.{Val}
use base.Logic.{ent}
use base.Fml.{Lft, Share, GName, Fml, ftrue, feq, fsep, flft}
use types.Logic.{Logic}
use contract.Monad.{fact}
use types.Kit.{Item, ‵, raw, ◌⊛◌, some, given, later, mean, ◌$◌, ◌∵◌, !, qed, move, keep, split, pick, fsplit, feq_l, show, check, await, updating, now as at_once, done}
use denote.RattleType.{RattleType}
use denote.Laws.{Is, shows}
use denote.Slice.{finally}
use denote.Steps.{facts, heard}

module _ (R T : RattleType) (κ : Lft) (q : Share) (γ : GName) (n : ℕ) (φ : R.Denot → List T.Denot → Type 0) where
  -- what is learned, of the result r, its machine value v and the last list
  abbrev pub Facts : Val → R.Denot → List T.Denot → Type 0
  Facts v r l = Is R r (v ∷ []) × ((length l ≡ n) × φ r l)

  module _ {M : Type 1} (𝓤 : Ura M) where
    abbrev Post : Fml → Type 0 → Val → Item 𝓤
    Post rest U v = later (some (λ (r : R.Denot). ((‵ (flft κ q) ⊛ ‵ ftrue) ⊛ ‵ (R.own_val r (v ∷ []))) ⊛ some (λ (ls : List T.Denot × U). ‵ (fsep (fsep (finally T γ ls.0) (feq ℕ (length ls.0) n)) rest) ⊛ raw (fact 𝓤 (φ r ls.0)))))

    abbrev pub Back : Val → Item 𝓤
    Back v = later (some (λ (r : R.Denot). some (λ (l : List T.Denot). given (Facts v r l) (‵ (flft κ q) ⊛ ‵ (finally T γ l)))))

    pub back : (𝓛 : Logic 𝓤) → (rest : Fml) (U : Type 0) (v : Val) → ent 𝓤 (mean 𝓛 (Post rest U v)) (mean 𝓛 (Back v))
    back 𝓛 rest U v =
        qed 𝓛 (Post rest U v ∷ []) ∵ updating ! $ await ! tt $ pick ! (λ r. split ! $ move ! (1 ∷ []) $ pick ! (λ ls. split ! $ move ! (1 ∷ []) $ heard ! (φ r ls.0) (λ e. fsplit ! $ fsplit ! $ move ! (1 ∷ []) $ feq_l ! (λ len.
        -- [the last list; rest; the token and the result]
        move ! (2 ∷ []) $ split ! $ move ! (1 ∷ []) $ facts ! R (Is R) (shows 𝓛 R) r (v ∷ []) (λ is. split ! $ keep ! (0 ∷ 2 ∷ []) $
        at_once ! $ show ! (λ r'. mean 𝓛 (some (λ (l : List T.Denot). given (Facts v r' l) (‵ (flft κ q) ⊛ ‵ (finally T γ l))))) r $ show ! (λ l. mean 𝓛 (given (Facts v r l) (‵ (flft κ q) ⊛ ‵ (finally T γ l)))) ls.0 $
        check ! (is, (len, e)) $ done !)))))

-- What `mewilovang_put_tickets` and `mewilovang_delete_tickets` share: a call that the words and the tickets are passed to for good, and then one of `change_reply`. What a contract says comes as facts, and so does a result's machine value: what the result owns is let go, for it is plain data.
--     Post, Back           what the first call's triple says, and the same with its facts in front: the tokens, the last list, and what is said of the other parameters, the tickets among them. Of any result's type R and any element's type T; of the two calls they are `Answer` and `u32`
--     back                 from one to the other
--     Answer               the type of what is answered, `Result<Change, Refusal>`
--     ChangeReply          the contract of the second.        to_change_reply      what its triple binds outside
--     goes_change_reply    it asks nothing but that the sums are words
--     Replied, replied     what it says, with the facts in front
-- Assumes `Logic`.
use mathlib.Core.Path.{◌≡◌}
use Prim.Native.Nat.{ℕ}
use mathlib.Core.List.{List, [], ◌∷◌}
use lib.ListN.{length}
use seplogic.Ra.Ura.{Ura}
use mir.Val.{Val}
use base.Logic.{SProp, ent, emp}
use base.Fml.{Lft, Share, GName, Fml, ftrue, feq, fsep, flft}
use prog.Memory.{Memory}
use prog.Routine.{Routine}
use types.Logic.{Logic}
use contract.Monad.{Fun, fact}
use types.Kit.{Item, ‵, raw, ◌⊛◌, some, given, later, mean, ◌$◌, ◌∵◌, !, qed, move, drop, split, join, pick, fsplit, fjoin, feq_l, show, check, await, updating, now as at_once, done}
use denote.RattleType.{RattleType}
use denote.Laws.{Is, shows}
use denote.Slice.{finally}
use denote.Steps.{owned, facts, heard, nothing}
use denote.Shadow.{makes_shadow}
use denote.Triple.Spec.{triple_of}
use denote.Triple.Statement.{Contract}
use denote.Triple.Walked.{says}
use Rattle.std.specs.Prelude.{Result}
use Rattle.geometry.specs.declared.Refusal.{Refusal}
use Rattle.writer.specs.declared.Change.{Change}
use Rattle.writer.specs.Answers.{changed_answer}
use Rattle.store.specs.Change.{SumsFit}
use Rattle.mewilovang.specs.declared.Changed.{Changed}
use Rattle.mewilovang.specs.Answers.{changed_reply}
use Rattle.geometry.specs.contracts.Refusal as F
use Rattle.geometry.proofs.Refusal.TheLaws as F'
use Rattle.writer.specs.contracts.Change as C
use Rattle.writer.proofs.Change.TheLaws as C'
use Rattle.std.specs.contracts.result.Result as An
use Rattle.std.proofs.result.Result.TheLaws as An'
use Rattle.mewilovang.specs.contracts.Changed as Re
use Rattle.mewilovang.specs.contracts.change_reply as change-reply

-- the first slice's borrow is κ, q, γ, the tickets' has κ', q'; U and rest are of the parameters behind the first
module _ (R T : RattleType) (κ κ' : Lft) (q q' : Share) (γ : GName) (n : ℕ) (U : Type 0) (rest : U → Fml) (φ : R.Denot → List T.Denot → U → Type 0) where
  -- what is learned, of the answer c, its machine value w and the last lists
  abbrev pub Facts : Val → R.Denot → List T.Denot → U → Type 0
  Facts w c ws u = Is R c (w ∷ []) × ((length ws ≡ n) × φ c ws u)

  module _ {M : Type 1} (𝓤 : Ura M) where
    abbrev Tokens : Item 𝓤
    Tokens = ‵ (flft κ q) ⊛ ‵ (flft κ' q') ⊛ ‵ ftrue

    abbrev Kept : List T.Denot → U → Item 𝓤
    Kept ws u = Tokens ⊛ ‵ (finally T γ ws) ⊛ ‵ (rest u)

    abbrev Post : Val → Item 𝓤
    Post w = later (some (λ (c : R.Denot). (Tokens ⊛ ‵ (R.own_val c (w ∷ []))) ⊛ some (λ (ls : List T.Denot × U). ‵ (fsep (fsep (finally T γ ls.0) (feq ℕ (length ls.0) n)) (rest ls.1)) ⊛ raw (fact 𝓤 (φ c ls.0 ls.1)))))

    abbrev pub Back : Val → Item 𝓤
    Back w = later (some (λ (c : R.Denot). some (λ (ls : List T.Denot × U). given (Facts w c ls.0 ls.1) (Kept ls.0 ls.1))))

    pub back : (𝓛 : Logic 𝓤) → (w : Val) → ent 𝓤 (mean 𝓛 (Post w)) (mean 𝓛 (Back w))
    back 𝓛 w =
        qed 𝓛 (Post w ∷ []) ∵ updating ! $ await ! tt $ pick ! (λ c. split ! $ move ! (1 ∷ []) $ pick ! (λ ls. split ! $ move ! (1 ∷ []) $ heard ! (φ c ls.0 ls.1) (λ e. fsplit ! $ fsplit ! $ move ! (1 ∷ []) $ feq_l ! (λ len.
        -- [the last list; rest; the tokens and the answer]
        move ! (2 ∷ []) $ split ! $ move ! (1 ∷ []) $ facts ! R (Is R) (shows 𝓛 R) c (w ∷ []) (λ is.
        -- [the tokens; the last list; rest]
        move ! (1 ∷ 2 ∷ []) $ join ! $ move ! (1 ∷ 0 ∷ []) $ join ! $
        at_once ! $ show ! (λ c'. mean 𝓛 (some (λ (l : List T.Denot × U). given (Facts w c' l.0 l.1) (Kept l.0 l.1)))) c $ show ! (λ l. mean 𝓛 (given (Facts w c l.0 l.1) (Kept l.0 l.1))) ls $
        check ! (is, (len, e)) $ done !)))))

abbrev pub Answer : RattleType
Answer = An.the_row C.the_row F.the_row

module _ {M : Type 1} {𝓤 : Ura M} (𝓛 : Logic 𝓤) (mem : Memory → SProp 𝓤) (run : Routine → Fun 𝓤) where
  abbrev pub ChangeReply : Contract 𝓤
  ChangeReply = triple_of 𝓛 change-reply.signature (change-reply.spec 𝓛 mem run)

  module _ (c : Result Change Refusal) where
    abbrev pub to_change_reply : Val → ChangeReply.Ghost
    to_change_reply w = ((tt, tt, tt, (c, tt), (w ∷ [], tt)), tt)

    pub goes_change_reply : (w : Val) → Is Answer c (w ∷ []) → SumsFit (changed_answer c) → ent 𝓤 (emp 𝓤) (ChangeReply.pre (to_change_reply w))
    goes_change_reply w is fit = qed 𝓛 [] ∵ says ! fit $ nothing ! $ owned ! Answer (Is Answer) (λ x vs p. makes_shadow 𝓛 (Answer.own_val x vs) (An'.the_row_plain C.the_row F.the_row C'.the_row_plain F'.the_row_plain x vs) p) c _ is $ fjoin ! $ nothing ! $ done !

    -- what is learned, of the reply r and its machine value x
    abbrev Reply : Val → Changed → Type 0
    Reply x r = Is Re.the_row r (x ∷ []) × (r ≡ changed_reply (changed_answer c))

    abbrev Says : Val → Item 𝓤
    Says x = later (some (λ (r : Changed). (‵ ftrue ⊛ ‵ ((Re.the_row).own_val r (x ∷ []))) ⊛ some (λ (no : Unit {0} × Unit {0}). ‵ (fsep ftrue ftrue) ⊛ raw (fact 𝓤 (r ≡ changed_reply (changed_answer c))))))

    abbrev pub Replied : Val → Item 𝓤
    Replied x = later (some (λ (r : Changed). given (Reply x r) (‵ ftrue)))

    pub replied : (x : Val) → ent 𝓤 (mean 𝓛 (Says x)) (mean 𝓛 (Replied x))
    replied x =
        qed 𝓛 (Says x ∷ []) ∵ updating ! $ await ! tt $ pick ! (λ r. split ! $ move ! (1 ∷ []) $ pick ! (λ no. split ! $ move ! (1 ∷ []) $ heard ! (r ≡ changed_reply (changed_answer c)) (λ e. drop ! $
        split ! $ move ! (1 ∷ []) $ facts ! Re.the_row (Is Re.the_row) (shows 𝓛 Re.the_row) r (x ∷ []) (λ is.
        at_once ! $ show ! (λ r'. mean 𝓛 (given (Reply x r') (‵ ftrue))) r $ check ! (is, e) $ done !))))

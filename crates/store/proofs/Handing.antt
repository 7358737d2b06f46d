-- The call of `tickets::hand_out` in which `put_tickets` and `delete_tickets` end: the caller's list ts is passed on for good, and the rows rs that were gathered are lent to it; the answer r is the caller's own, which it hands back.
--     HandOut          its contract.        to_hand_out      what its triple binds outside
--     goes_hand_out    the list, the rows and their tokens are all that it asks
--     Handed           what the caller answers, and what hand_out says of the last list.        says_done        what the caller's contract says, from that and from what gathering said
-- Assumes `Logic`.
use mathlib.Core.Path.{◌≡◌, sym, ap, ◌∙◌, subst}
use Prim.Native.Nat.{ℕ}
use mathlib.Core.List.{List, [], ◌∷◌, map}
use lib.ListN.{length}
use seplogic.Ra.Ura.{Ura}
use mir.Syntax.{named}
use mir.Val.{Val}
use base.Logic.{SProp, ent, sep}
use base.Fml.{Lft, Share, GName, flft}
use prog.Memory.{Memory}
use prog.Routine.{Routine}
use types.Logic.{Logic, sem}
use contract.Monad.{Fun}
use types.Kit.{‵, ◌$◌, ◌∵◌, !, qed, move, join, fjoin, suffices, frame, done}
use sound.Laws.{∗emp}
use denote.RattleType.{RattleType}
use denote.Array.{Array}
use denote.Builtin.{u32}
use denote.Ref.{Bor, MutBor}
use denote.Slice.{slice_val, MutSlice, ShrSlice}
use denote.Steps.{nothing}
use denote.Triple.Entry.{on_entry}
use denote.Triple.Spec.{triple_of}
use denote.Triple.Statement.{Contract}
use Rattle.std.specs.Prelude.{Result}
use Rattle.geometry.specs.declared.Refusal.{Refusal}
use Rattle.levels.specs.declared.Ticket.{Ticket}
use Rattle.levels.specs.Tickets.{ticket_from, laid}
use Rattle.writer.specs.declared.Change.{Change}
use Rattle.levels.specs.contracts.Ticket as T
use Rattle.tickets.specs.contracts.hand_out as hand-out

abbrev pub Handed : Result Change Refusal → List (List ℕ) → List Ticket → Result Change Refusal → List Ticket → Type 0
Handed r rs ts c ts' = (c ≡ r) × (ts' ≡ laid (map ticket_from rs) ts)

pub says_done : (P : Result Change Refusal → Type 0) (r : Result Change Refusal) (rs : List (List ℕ)) (xs ts : List Ticket) (c : Result Change Refusal) (ts' : List Ticket) → P r × (map ticket_from rs ≡ xs) → Handed r rs ts c ts' → P c × (ts' ≡ laid xs ts)
says_done P r rs xs ts c ts' g h = (subst P (sym h.0) g.0, h.1 ∙ ap (λ l. laid l ts) g.1)

-- a row: four words
abbrev Row : RattleType
Row = Array u32 4

module _ {M : Type 1} {𝓤 : Ura M} (𝓛 : Logic 𝓤) (mem : Memory → SProp 𝓤) (run : Routine → Fun 𝓤) where
  open 𝓛 use {A}

  abbrev pub HandOut : Contract 𝓤
  HandOut = triple_of 𝓛 hand-out.signature (hand-out.spec 𝓛 mem run)

  module _ (κ κ' : Lft) (q q' : Share) (b o b' o' : ℕ) (γ : GName) (ts : List Ticket) (rs : List (List ℕ)) where
    abbrev t : MutBor (List Ticket)
    t = record { ref_ptr = (b, o); ghost_name = γ; now = ts }

    abbrev v : Val
    v = slice_val (b, o) (length ts)

    abbrev r : Bor (List (List ℕ))
    r = record { ref_ptr = (b', o'); now = rs }

    abbrev w : Val
    w = slice_val (b', o') (length rs)

    abbrev pub to_hand_out : HandOut.Ghost
    to_hand_out = (((κ, (κ', tt)), (q, (q', tt)), tt, (t, (r, tt)), (v ∷ [], (w ∷ [], tt))), tt)

    pub goes_hand_out : ent 𝓤 (sep 𝓤 (A.lft κ q) (sep 𝓤 (A.lft κ' q') (sep 𝓤 (sem 𝓛 ((MutSlice (named 0) κ T.the_row).own_val t (v ∷ []))) (sem 𝓛 ((ShrSlice (named 1) κ' Row).own_val r (w ∷ [])))))) (HandOut.pre to_hand_out)
    goes_hand_out =
        qed 𝓛 (‵ (flft κ q) ∷ ‵ (flft κ' q') ∷ ‵ ((MutSlice (named 0) κ T.the_row).own_val t (v ∷ [])) ∷ ‵ ((ShrSlice (named 1) κ' Row).own_val r (w ∷ [])) ∷ []) ∵ suffices ! (on_entry 𝓛 hand-out.signature (κ, (κ', tt)) (q, (q', tt)) (t, (r, tt)) (v ∷ [], (w ∷ [], tt))) (∗emp 𝓤 _) $
        nothing ! $ move ! (2 ∷ 0 ∷ []) $ join ! $ move ! (1 ∷ 0 ∷ []) $ join ! $ frame ! $
        nothing ! $ move ! (2 ∷ 0 ∷ []) $ fjoin ! $ move ! (1 ∷ 0 ∷ []) $ fjoin ! $ done !

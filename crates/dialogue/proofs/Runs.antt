-- The calls of a whole run: whoever begins with `State::start(m)`, hands state and words on from one `feed` to the next and ends with
-- `finish` prints what `dialogue` says of the parts joined.
use Prim.Native.Nat.{ℕ, ◌+◌}
use mathlib.Core.Path.{◌≡◌, sym, ◌∙◌, ap, subst}
use mathlib.Core.List.{List, [], ◌∷◌, ◌++◌, append_assoc, map, flatten}
use native.Mathlib.Nat.{zero-add}
use lib.ListN.{length, take, drop}
use lib.Seq.{take_at}
use Rattle.slices.specs.Slices.{put_at}
use Rattle.lines.specs.Bytes.{Printed}
use Rattle.dialogue.specs.declared.State.{State}
use Rattle.dialogue.specs.declared.Fed.{Fed}
use Rattle.dialogue.specs.Said.{Said}
use Rattle.dialogue.specs.Dialogue.{dialogue, Session, opening, heard, ended, heard_parts, in_parts}
use Rattle.dialogue.specs.State.{Holds, Feeds, closed}
use Rattle.dialogue.proofs.Laws.{parts_whole}

-- One call of `feed`: the state and the words of the bench that it is handed, the part, the buffer, what it gives, words and buffer
-- afterwards, and what its contract says of them.
pub record FeedCall : Type 0 where
  pub state : State
  pub words : List ℕ
  pub part : List ℕ
  pub buffer : List ℕ
  pub gave : Fed
  pub left : List ℕ
  pub filled : List ℕ
  pub contract : (m : ℕ) (s : Session) → Holds m state words s → Feeds m (heard m s part) 0 gave left buffer filled

-- the call of `finish`, likewise
pub record FinishCall : Type 0 where
  pub state : State
  pub words : List ℕ
  pub buffer : List ℕ
  pub gave : Fed
  pub left : List ℕ
  pub filled : List ℕ
  pub contract : (m : ℕ) (s : Session) → Holds m state words s → Feeds m (closed (ended m s)) 0 gave left buffer filled

-- The first call begins with state d and words ws, each later one, `finish` the last, with those that the call before it left.
-- Buffers are the caller's: fresh ones or the same again.
abbrev pub InTurn : State → List ℕ → List FeedCall → FinishCall → Type 0
InTurn d ws [] f = (d ≡ f.state) × (ws ≡ f.words)
InTurn d ws (c ∷ cs) f = (d ≡ c.state) × (ws ≡ c.words) × InTurn c.gave.state c.left cs f

-- what the caller prints: after each call, as many bytes of the buffer as the call says
abbrev pub printed_by : List FeedCall → FinishCall → List ℕ
printed_by [] f = take f.gave.bytes f.filled
printed_by (c ∷ cs) f = take c.gave.bytes c.filled ++ printed_by cs f

abbrev pub parts_of : List FeedCall → List (List ℕ)
parts_of cs = map (λ (c : FeedCall). c.part) cs

-- the bytes that stand at the front of a buffer are those printed from place 0 on
pub printed_front : (before after bs : List ℕ) (r : ℕ) → Printed before after 0 r bs → take r after ≡ bs
unfolding put_at
printed_front before after bs r p = ap (take r) p.words ∙ take_at bs (drop (0 + length bs) before) r (sym (p.ends ∙ zero-add (length bs)))

-- from any session that the first state stands for
run_from : (m : ℕ) (d : State) (ws : List ℕ) (cs : List FeedCall) (f : FinishCall) (s : Session) → Holds m d ws s → InTurn d ws cs f
    → printed_by cs f ≡ (heard_parts m s (parts_of cs)).bytes ++ (ended m (heard_parts m s (parts_of cs)).session).bytes
unfolding heard_parts
run_from m d ws [] f s h t =
    let k : Holds m f.state f.words s = subst (λ (x : State). Holds m x f.words s) t.0 (subst (λ (y : List ℕ). Holds m d y s) t.1 h) in
    printed_front f.buffer f.filled (ended m s).bytes f.gave.bytes (f.contract m s k).output
run_from m d ws (c ∷ cs) f s h t =
    let k : Holds m c.state c.words s = subst (λ (x : State). Holds m x c.words s) t.0 (subst (λ (y : List ℕ). Holds m d y s) t.1 h) in
    let a = c.contract m s k in
    let b = printed_front c.buffer c.filled (heard m s c.part).bytes c.gave.bytes a.output in
    let r = run_from m c.gave.state c.left cs f (heard m s c.part).session a.session t.2 in
    (λ i. b i ++ r i) ∙ sym (append_assoc (heard m s c.part).bytes _ _)

-- A run from a state of which the contract of `State::start` holds, on whatever words: the bytes printed for the parts and at the
-- end are those of `dialogue` for the parts joined, with at most m tickets for a call.
pub run_prints : (m : ℕ) (d : State) (ws : List ℕ) (cs : List FeedCall) (f : FinishCall) → ((words : List ℕ) → Holds m d words opening) → InTurn d ws cs f
    → printed_by cs f ≡ (dialogue m (flatten (parts_of cs))).bytes
unfolding in_parts
run_prints m d ws cs f h t = run_from m d ws cs f opening (h ws) t ∙ ap (λ (a : Said). a.bytes) (parts_whole m (parts_of cs))

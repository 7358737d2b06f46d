-- What the proofs of `hear`, `feed` and `finish` need: the state that the program keeps stands for the session of the definition.
use Prim.Native.Nat.{ℕ, ◌+◌, ◌*◌, ◌≤◌, ◌<◌}
use mathlib.Core.Path.{◌≡◌, sym, ap, ◌∙◌, subst}
use mathlib.Core.Bool.{true, false, true≢false}
use mathlib.Core.List.{List, [], ◌∷◌, ◌++◌, append-nil}
use native.Mathlib.Nat.{mul-le-mul_left}
use native.Mathlib.Numerals.{add-one}
use native.Mathlib.Omega.{arith}
use lib.ListN.{length, take, get_or}
use lib.Seq.{take-suc, take_all}
use borrow.Author.Tests.{eq-eqb, ne_eqb}
use Rattle.slices.proofs.Put.{put_none}
use Rattle.lines.specs.declared.Reading.TheVariants.{Start}
use Rattle.lines.specs.Bytes.{Printed, line_end}
use Rattle.lines.specs.Machine.{step, run, line_after, is_start}
use Rattle.lines.proofs.Laws.{line_is, run_then, run_begun}
use Rattle.lines.proofs.Print.{printed_then}
use Rattle.dialogue.specs.declared.State.{State}
use Rattle.dialogue.specs.declared.Fed.{Fed}
use Rattle.dialogue.specs.Said.{Said, said_of, longest_answer}
use Rattle.dialogue.specs.Dialogue.{Session, Heard, heard, ended_on, ended}
use Rattle.dialogue.specs.State.{Holds, Feeds, closed}
use Rattle.dialogue.proofs.Laws.{answer_at, anew, heard_end, heard_byte, heard_append}

-- nothing is printed
pub printed_none : (xs : List ℕ) (i : ℕ) → i ≤ length xs → Printed xs xs i i []
printed_none xs i h = record { ends = omega arith; inside = h; words = sym (put_none i xs) }

-- what the code makes of the line that has begun is what the line says
said_line : (m : ℕ) (d : State) (ws : List ℕ) (s : Session) → Holds m d ws s → said_of m (take d.words ws) (line_after d.reading) ≡ answer_at m s
said_line m d ws s h =
    ap (λ (w : List ℕ). said_of m w (line_after d.reading)) h.store ∙ ap (said_of m s.store) (ap line_after h.begun ∙ line_is s.begun)

-- a line end
heard_line : (m : ℕ) (s : Session) (x : ℕ) → x ≡ line_end → heard m s (x ∷ []) ≡ closed (answer_at m s)
unfolding heard
heard_line m s x e =
    heard_end m s x [] (eq-eqb x line_end e) ∙ ap (λ (bs : List ℕ). record { session = anew (answer_at m s); bytes = bs }) (append-nil (answer_at m s).bytes)

pub end_feeds : (d : State) (ws : List ℕ) (x at : ℕ) (r : Fed) (us before after : List ℕ) → x ≡ line_end
    → Feeds d.tickets (closed (said_of d.tickets (take d.words ws) (line_after d.reading))) at r us before after → (m : ℕ) (s : Session) → Holds m d ws s → Feeds m (heard m s (x ∷ [])) at r us before after
end_feeds d ws x at r us before after e f m s h =
    let g : Feeds m (closed (said_of m (take d.words ws) (line_after d.reading))) at r us before after =
    subst (λ (t : ℕ). Feeds t (closed (said_of t (take d.words ws) (line_after d.reading))) at r us before after) h.tickets f in
    subst (λ (k : Heard). Feeds m k at r us before after) (sym (heard_line m s x e)) (subst (λ (a : Said). Feeds m (closed a) at r us before after) (said_line m d ws s h) g)

-- any other byte
pub byte_feeds : (d : State) (ws : List ℕ) (x at : ℕ) (out : List ℕ) → (x ≡ line_end → ⊥) → at ≤ length out
    → (m : ℕ) (s : Session) → Holds m d ws s → Feeds m (heard m s (x ∷ [])) at (record { state = record { tickets = d.tickets; words = d.words; reading = step d.reading x }; bytes = at }) ws out out
unfolding heard
byte_feeds d ws x at out n l m s h =
    subst (λ (k : Heard). Feeds m k at (record { state = record { tickets = d.tickets; words = d.words; reading = step d.reading x }; bytes = at }) ws out out) (sym (heard_byte m s x [] (ne_eqb x line_end n)))
    (record {
      session = record { tickets = h.tickets; few = h.few; fits = h.fits; store = h.store; begun = ap (λ r. step r x) h.begun ∙ sym (run_then Start s.begun x) };
      output = printed_none out at l;
    })

-- A part, and what follows it: the bytes of the second stand behind those of the first.
feeds_then : (m : ℕ) (s : Session) (xs ys : List ℕ) (f g : Fed) (ws us before mid after : List ℕ) → Feeds m (heard m s xs) 0 f ws before mid → Feeds m (heard m (heard m s xs).session ys) f.bytes g us mid after
    → Feeds m (heard m s (xs ++ ys)) 0 g us before after
feeds_then m s xs ys f g ws us before mid after p q =
    subst (λ (k : Heard). Feeds m k 0 g us before after) (sym (heard_append m s xs ys))
    (record { session = q.session; output = printed_then before mid after 0 f.bytes g.bytes (heard m s xs).bytes (heard m (heard m s xs).session ys).bytes p.output q.output })

-- The buffer of `feed`, with room for an answer of at most l bytes to each of n bytes: room for the next one, and no more is printed.
pub room_on : (l b i n o : ℕ) → b ≤ l * i → i < n → l * n ≤ o → b + l ≤ o
room_on l b i n o p h q = omega (arith, p, q, mul-le-mul_left l h)

pub more_bytes : (t u i b r : ℕ) → t ≡ u → b ≤ longest_answer u * i → r ≤ b + longest_answer t → r ≤ longest_answer u * (i + 1)
more_bytes t u i b r e p q = let k : r ≤ b + longest_answer u = subst (λ (x : ℕ). r ≤ b + longest_answer x) e q in omega (arith, p, k)

pub all_bytes : (l b i n o : ℕ) → b ≤ l * i → i ≤ n → l * n ≤ o → b ≤ o
all_bytes l b i n o p h q = omega (arith, p, q, mul-le-mul_left l h)

-- What `feed` knows after i bytes.
pub FedSo : State → List ℕ → List ℕ → List ℕ → ℕ → Fed → List ℕ → List ℕ → Type 0
FedSo d ws input before i f us after = (m : ℕ) (s : Session) → Holds m d ws s → Feeds m (heard m s (take i input)) 0 f us before after

pub fed_none : (d : State) (ws input out : List ℕ) → FedSo d ws input out 0 (record { state = d; bytes = 0 }) ws out
unfolding FedSo heard
fed_none d ws input out m s h = record { session = h; output = printed_none out 0 (omega arith) }

pub fed_more : (d : State) (ws input before : List ℕ) (i : ℕ) (f : Fed) (us mid : List ℕ) (g : Fed) (vs after : List ℕ) → i < length input → FedSo d ws input before i f us mid
    → ((m : ℕ) (s : Session) → Holds m f.state us s → Feeds m (heard m s (get_or input i 0 ∷ [])) f.bytes g vs mid after) → FedSo d ws input before (i + 1) g vs after
unfolding FedSo
fed_more d ws input before i f us mid g vs after l p q m s h =
    let e : take i input ++ (get_or input i 0 ∷ []) ≡ take (i + 1) input = sym (take-suc input i 0 l) ∙ ap (λ (k : ℕ). take k input) (sym (add-one i)) in
    subst (λ (xs : List ℕ). Feeds m (heard m s xs) 0 g vs before after) e
    (feeds_then m s (take i input) (get_or input i 0 ∷ []) f g us vs before mid after (p m s h) (q m (heard m s (take i input)).session (p m s h).session))

pub fed_all : (d : State) (ws input before : List ℕ) (i : ℕ) (f : Fed) (us after : List ℕ) → length input ≤ i → FedSo d ws input before i f us after
    → (m : ℕ) (s : Session) → Holds m d ws s → Feeds m (heard m s input) 0 f us before after
unfolding FedSo
fed_all d ws input before i f us after l p m s h = subst (λ (xs : List ℕ). Feeds m (heard m s xs) 0 f us before after) (take_all i input l) (p m s h)

-- The end of the input.
pub start_ends : (d : State) (ws out : List ℕ) → is_start d.reading ≡ true → (m : ℕ) (s : Session) → Holds m d ws s → Feeds m (closed (ended m s)) 0 (record { state = d; bytes = 0 }) ws out out
start_ends d ws out e m s h = go s.begun s.store h
  where
    go : (bs st : List ℕ) → Holds m d ws (record { store = st; begun = bs }) → Feeds m (closed (ended_on m st bs)) 0 (record { state = d; bytes = 0 }) ws out out
    go [] st k = record { session = k; output = printed_none out 0 (omega arith) }
    go (x ∷ xs) st k = absurd (true≢false (sym e ∙ ap is_start k.begun ∙ run_begun Start x xs))

pub line_ends : (d : State) (ws : List ℕ) (x : ℕ) (r : Fed) (us before after : List ℕ) → is_start d.reading ≡ false
    → ((m : ℕ) (s : Session) → Holds m d ws s → Feeds m (heard m s (x ∷ [])) 0 r us before after) → x ≡ line_end → (m : ℕ) (s : Session) → Holds m d ws s → Feeds m (closed (ended m s)) 0 r us before after
unfolding run
line_ends d ws x r us before after e f q m s h = go s.begun s.store h
  where
    go : (bs st : List ℕ) → Holds m d ws (record { store = st; begun = bs }) → Feeds m (closed (ended_on m st bs)) 0 r us before after
    go [] st k = absurd (true≢false (sym (ap is_start k.begun) ∙ e))
    go (b ∷ bs) st k =
        let t : Session = record { store = st; begun = b ∷ bs } in
        subst (λ (j : Heard). Feeds m j 0 r us before after) (heard_line m t x q) (f m t k)

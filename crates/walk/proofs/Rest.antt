-- What a cursor's next record is, and what is left without it.
use Prim.Native.Nat.{ℕ, suc, ◌+◌, ◌-◌, ◌/◌, ◌≤◌, ◌<◌}
use mathlib.Core.Path.{◌≡◌, sym, ap, ◌∙◌, refl}
use mathlib.Core.Logic.{dite}
use mathlib.Core.List.{List, [], ◌∷◌, ◌++◌}
use native.Mathlib.Decide.{ℕ_discrete, dec_lt}
use native.Mathlib.Omega.{arith}
use native.Mathlib.Numerals.{add-one}
use lib.ListN.{length}
use Rattle.levels.specs.Record.{Rec}
use Rattle.words.specs.Stores.{word, slots_at}
use Rattle.chunks.specs.declared.Chunk.{Chunk}
use Rattle.chunks.specs.Peel.{past}
use Rattle.chunks.proofs.Slots.{slots_first}
use Rattle.chunks.proofs.Overlay.{taken, Least, taken_nil, past_nil, taken_here, taken_not, past_here, past_not}
use Rattle.directory.specs.declared.Directory.{Directory}
use Rattle.directory.specs.Directory.{Formed, records_from, chunk_at}
use Rattle.directory.proofs.Laws.{chunk_room}
use Rattle.walk.specs.declared.Cursor.{Cursor}
use Rattle.walk.specs.Walk.{head_of, rest, Good}

-- the records after a cursor's next one
abbrev pub more : List ℕ → Cursor → List Rec
more ws c = slots_at ws (c.chunk.marks / 2) (c.chunk.keys + 1) (c.chunk.pays + 1) (c.chunk.count - 1) ++ records_from ws c.dir c.next (c.dir.chunks - c.next)

module _ (ws : List ℕ) (c : Cursor) (g : Good ws c) where
  pub rest_alive : 1 ≤ c.chunk.count → rest ws c ≡ head_of ws c.chunk ∷ more ws c
  unfolding rest
  rest_alive h = rw (slots_first ws c.chunk.marks c.chunk.keys c.chunk.pays c.chunk.count h)

  pub rest_ended : c.chunk.count ≡ 0 → rest ws c ≡ []
  unfolding rest slots_at records_from
  rest_ended e = let p : c.dir.chunks - c.next ≡ 0 = let q = g.ended e in omega arith in rw (e, p)

  -- a cursor whose key is a key has a record
  pub alive_of : {k : ℕ} → c.key ≡ k → k < 4294967296 → 1 ≤ c.chunk.count
  alive_of e h = dite (dec_lt 0 c.chunk.count) (λ y. y) (λ n. let q = g.ended (omega arith) in absurd (omega arith))

  pub rest_end : 4294967296 ≤ c.key → rest ws c ≡ []
  rest_end h = dite (dec_lt 0 c.chunk.count) (λ y. let q = g.alive y in absurd (omega arith)) (λ n. rest_ended (omega arith))

  module _ (k : ℕ) where
    pub past_hit : c.key ≡ k → k < 4294967296 → past k (rest ws c) ≡ more ws c
    past_hit e h =
        let a = alive_of e h in
        rw (rest_alive a) (past_here k (head_of ws c.chunk) (more ws c) (sym (g.alive a).0 ∙ e))

    pub past_other : (c.key ≡ k → ⊥) → past k (rest ws c) ≡ rest ws c
    past_other n =
        dite (dec_lt 0 c.chunk.count)
        (λ y. rw (rest_alive y) (past_not k (head_of ws c.chunk) (more ws c) (λ e. n ((g.alive y).0 ∙ e))))
        (λ z. rw (rest_ended (omega arith)) (past_nil k))

    pub taken_hit : c.key ≡ k → k < 4294967296 → taken k (rest ws c) ≡ head_of ws c.chunk ∷ []
    taken_hit e h =
        let a = alive_of e h in
        rw (rest_alive a) (taken_here k (head_of ws c.chunk) (more ws c) (sym (g.alive a).0 ∙ e))

    pub taken_other : (c.key ≡ k → ⊥) → taken k (rest ws c) ≡ []
    taken_other n =
        dite (dec_lt 0 c.chunk.count)
        (λ y. rw (rest_alive y) (taken_not k (head_of ws c.chunk) (more ws c) (λ e. n ((g.alive y).0 ∙ e))))
        (λ z. rw (rest_ended (omega arith)) (taken_nil k))

    pub least_of_lem : k ≤ c.key → Least k (rest ws c)
    least_of_lem h =
        dite (dec_lt 0 c.chunk.count)
        (λ y. rw (rest_alive y) (let q = (g.alive y).0 in omega arith))
        (λ z. rw (rest_ended (omega arith)) tt)

    pub shrinks : length (past k (rest ws c)) ≤ length (rest ws c)
    shrinks = go (ℕ_discrete c.key k) (dec_lt 0 c.chunk.count)
      where
        go : Dec (c.key ≡ k) → Dec (0 < c.chunk.count) → length (past k (rest ws c)) ≤ length (rest ws c)
        go (no n) d = rw (past_other n) (omega arith)
        go (yes e) (yes y) = rw (rest_alive y, past_here k (head_of ws c.chunk) (more ws c) (sym (g.alive y).0 ∙ e)) (omega arith)
        go (yes e) (no z) = rw (rest_ended (omega arith), past_nil k) (omega arith)

    pub shrinks_hit : c.key ≡ k → k < 4294967296 → length (past k (rest ws c)) < length (rest ws c)
    shrinks_hit e h = rw (past_hit e h, rest_alive (alive_of e h)) (omega arith)

-- a cursor at the start of a chunk
module _ (ws : List ℕ) (d : Directory) (f : Formed d ws) (next : ℕ) where
  pub chunk_alive : next < d.chunks → (r : Chunk) → r ≡ chunk_at ws d next → (1 ≤ r.count) × ((r.keys + r.count ≤ length ws) × (r.pays + r.count ≤ length ws))
  chunk_alive h r e =
      let k = rw (← e) at (f.counts next h) in
      let p = rw (← e) at (chunk_room d ws f.within next h) in
      (k.0, (omega arith, omega arith))

  pub refill_chunk : next < d.chunks → (r : Chunk) (key : ℕ) → r ≡ chunk_at ws d next → key ≡ word ws r.keys → key < 4294967296
      → Good ws (record { dir = d; next = next + 1; chunk = r; key = key }) × (rest ws (record { dir = d; next = next + 1; chunk = r; key = key }) ≡ records_from ws d next (d.chunks - next))
  unfolding rest records_from
  refill_chunk h r key e q b =
      let k = chunk_alive h r e in
      let p : d.chunks - next ≡ suc (d.chunks - (next + 1)) = omega arith in
      (record { formed = f; low = omega arith; keys_in = k.1.0; pays_in = k.1.1; alive = λ y. (q, b); ended = λ z. absurd (omega arith) }, rw (p, ← e, add-one next))

  pub refill_none : d.chunks ≤ next → next ≤ d.chunks
      → Good ws (record { dir = d; next = next; chunk = record { marks = 0; keys = 0; pays = 0; count = 0 }; key = 4294967296 }) × (rest ws (record { dir = d; next = next; chunk = record { marks = 0; keys = 0; pays = 0; count = 0 }; key = 4294967296 }) ≡ records_from ws d next (d.chunks - next))
  unfolding rest records_from slots_at
  refill_none h h2 =
      let p : d.chunks - next ≡ 0 = omega arith in
      (record { formed = f; low = h2; keys_in = omega arith; pays_in = omega arith; alive = λ y. absurd (omega arith); ended = λ z. (refl, omega arith) }, rw p)

-- a cursor one record further in its chunk
pub step_chunk : (ws : List ℕ) (c : Cursor) (key : ℕ) → Good ws c → 1 < c.chunk.count → key ≡ word ws (c.chunk.keys + 1) → key < 4294967296
    → Good ws (record { dir = c.dir; next = c.next; chunk = record { marks = c.chunk.marks / 2; keys = c.chunk.keys + 1; pays = c.chunk.pays + 1; count = c.chunk.count - 1 }; key = key })
step_chunk ws c key g h e b =
    record { formed = g.formed; low = g.low; keys_in = let p = g.keys_in in omega arith; pays_in = let p = g.pays_in in omega arith; alive = λ y. (e, b); ended = λ z. absurd (omega arith) }

pub more_chunk : (ws : List ℕ) (c : Cursor) (key : ℕ) → rest ws (record { dir = c.dir; next = c.next; chunk = record { marks = c.chunk.marks / 2; keys = c.chunk.keys + 1; pays = c.chunk.pays + 1; count = c.chunk.count - 1 }; key = key }) ≡ more ws c
unfolding rest
more_chunk ws c key = refl

-- the last record of a chunk leaves the chunks after it
pub more_last : (ws : List ℕ) (c : Cursor) → c.chunk.count ≤ 1 → more ws c ≡ records_from ws c.dir c.next (c.dir.chunks - c.next)
unfolding slots_at
more_last ws c h = let p : c.chunk.count - 1 ≡ 0 = omega arith in rw p

-- a cursor one record further in its chunk, or at the chunk after it
module _ (ws : List ℕ) (c : Cursor) (g : Good ws c) (h : c.key < 4294967296) where
  -- its next record can be read
  pub next_in : 1 ≤ c.chunk.count
  next_in = alive_of ws c g {k = c.key} refl h

  pub advance_in : (key : ℕ) → 1 < c.chunk.count → key ≡ word ws (c.chunk.keys + 1) → key < 4294967296
      → Good ws (record { dir = c.dir; next = c.next; chunk = record { marks = c.chunk.marks / 2; keys = c.chunk.keys + 1; pays = c.chunk.pays + 1; count = c.chunk.count - 1 }; key = key })
      × (rest ws c ≡ head_of ws c.chunk ∷ rest ws (record { dir = c.dir; next = c.next; chunk = record { marks = c.chunk.marks / 2; keys = c.chunk.keys + 1; pays = c.chunk.pays + 1; count = c.chunk.count - 1 }; key = key }))
  advance_in key m e b = (step_chunk ws c key g m e b, rest_alive ws c g next_in ∙ ap (λ rs. head_of ws c.chunk ∷ rs) (sym (more_chunk ws c key)))

  pub advance_last : (e : Cursor) → c.chunk.count ≤ 1 → Good ws e → rest ws e ≡ records_from ws c.dir c.next (c.dir.chunks - c.next) → Good ws e × (rest ws c ≡ head_of ws c.chunk ∷ rest ws e)
  advance_last e m i q = (i, rest_alive ws c g next_in ∙ ap (λ rs. head_of ws c.chunk ∷ rs) (more_last ws c m ∙ sym q))

-- a record before a list, where its key is k
pub past_head : (ws : List ℕ) (c e : Cursor) (k : ℕ) → Good ws c → k < 4294967296 → c.key ≡ k → rest ws c ≡ head_of ws c.chunk ∷ rest ws e → rest ws e ≡ past k (rest ws c)
past_head ws c e k g h y q = rw q (sym (past_here k (head_of ws c.chunk) (rest ws e) (sym (g.alive (alive_of ws c g y h)).0 ∙ y)))

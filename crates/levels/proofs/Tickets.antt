-- Document 02, card 3: what is read from the ticket of each merge of a call, and how tickets and the three counts of an answer agree.
use Prim.Native.Nat.{ℕ, zero, suc, ◌+◌, ◌*◌, ◌≤◌, ◌<◌}
use mathlib.Core.Path.{◌≡◌, refl, ap}
use mathlib.Core.List.{List, [], ◌∷◌}
use native.Mathlib.Omega.{arith}
use lib.Dec.{eqb}
use lib.ListN.{length}
use Rattle.geometry.specs.declared.Geometry.{Geometry}
use Rattle.geometry.specs.Geometry.{Valid, window_of}
use Rattle.geometry.proofs.Laws.{window_grows}
use Rattle.levels.specs.Basics.{if◌then◌otherwise◌}
use Rattle.levels.specs.Store.{Store}
use Rattle.levels.specs.Call.{Merge}
use Rattle.levels.specs.Put.{merges_for}
use Rattle.levels.specs.Count.{overlap_of, blocks_merged, counts_of}
use Rattle.levels.specs.Every.{Every}
use Rattle.levels.specs.Sound.{Fits, Sound}
use Rattle.levels.specs.InCall.{MergeFacts}
use Rattle.levels.specs.Tickets.{ticket_of, tickets_of, written_column, TicketKeeps}
use Rattle.levels.proofs.Every.{every_turn, every_map}
use Rattle.levels.proofs.CallMerges.{call_merges}
use Rattle.levels.proofs.MergeBounds.{overlap_growth, merge_writes_most, top_writes_most}

-- "each with upper level, number of the run's first block in that level from 0, overlap, and blocks written"
pub ticket_says : (g : Geometry) (m : Merge) → let t = ticket_of g m in (t.level ≡ m.level) × (t.first ≡ m.first) × (t.overlap ≡ overlap_of g m) × (t.written ≡ blocks_merged m)
unfolding ticket_of
ticket_says g m = (refl, refl, refl, refl)

-- "The overlap and the write bound of each merge are then read from its ticket"
ticket_keeps : (g : Geometry) (e : Store) (m : Merge) → Valid g → MergeFacts g e m → TicketKeeps g (ticket_of g m)
unfolding ticket_of
ticket_keeps g e m v f = record {
  level_high = f.level_high;
  overlap_high = omega (arith, overlap_growth g e m v f, window_grows g m.level, ap (λ (w : ℕ). g.g * w) f.window_is);
  written_high = omega (arith, merge_writes_most g e m v f, f.window_is);
  written_top = λ z. omega (arith, top_writes_most g e m v f z, f.window_is, ap (window_of g) z);
}

-- of every ticket of a call
pub tickets_keep : (g : Geometry) (s : Store) → Valid g → Fits g s → Sound g s → (k : ℕ) → Every (TicketKeeps g) (tickets_of g (merges_for g s k))
tickets_keep g s v f o k =
    let ms : List Merge = merges_for g s k in
    every_map (ticket_of g) (TicketKeeps g) ms (every_turn (MergeFacts g s) (λ m. TicketKeeps g (ticket_of g m)) ms (λ m d. ticket_keeps g s m v d) (call_merges g s v f o k))

-- "the written column, summed for an upper level", is the count of blocks written by merges out of it
pub tickets_column : (g : Geometry) (j : ℕ) (ms : List Merge) → written_column j (tickets_of g ms) ≡ (counts_of j ms).written
unfolding counts_of ticket_of
tickets_column g j [] = refl
tickets_column g j (m ∷ ms) = rw (tickets_column g j ms)

-- a merge is counted for one of the levels 1 to 3,
counted_once : (i : ℕ) → i < 3 → (if eqb (suc i) 1 then 1 otherwise 0) + (if eqb (suc i) 2 then 1 otherwise 0) + (if eqb (suc i) 3 then 1 otherwise 0) ≡ 1
counted_once zero h = refl
counted_once (suc zero) h = refl
counted_once (suc (suc zero)) h = refl
counted_once (suc (suc (suc i))) h = absurd (omega arith)

-- so the merges counted are all of them
pub tickets_counted : (g : Geometry) (ms : List Merge) → g.h ≤ 3 → Every (λ m. m.level < g.h) ms → (counts_of 1 ms).merges + (counts_of 2 ms).merges + (counts_of 3 ms).merges ≡ length ms
unfolding counts_of
tickets_counted g [] h l = refl
tickets_counted g (m ∷ ms) h l = omega (arith, counted_once m.level (omega (arith, l.0)), tickets_counted g ms h l.1)

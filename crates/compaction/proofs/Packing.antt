-- Records gathered one by one, and the rest written, are the blocks that levels' `pack` cuts, last block first.
use Prim.Native.Nat.{ℕ, suc}
use mathlib.Core.Path.{◌≡◌, refl}
use mathlib.Core.Bool.{Bool, true, false}
use mathlib.Core.List.{List, [], ◌∷◌, ◌++◌, reverse_aux}
use lib.Dec.{leb}
use lib.ListN.{length}
use Rattle.levels.specs.Basics.{if◌then◌otherwise◌}
use Rattle.levels.specs.Record.{Rec, Level, new, pack}
use Rattle.levels.specs.Merge.{Out, flush, gather}
use Rattle.levels.specs.Well.{Sized}
use Rattle.merging.proofs.Settle.{NewFit}

-- nothing is gathered
abbrev pub nothing : Out
nothing = record { buffer = []; done = [] }

-- records gathered in order, tombstones with the rest
unfoldable pub kept : ℕ → List Rec → Out → Out
kept B [] o = o
kept B (r ∷ rs) o = kept B rs (gather B false r o)

pub kept_snoc : (B : ℕ) (rs : List Rec) (r : Rec) (o : Out) → kept B (rs ++ (r ∷ [])) o ≡ gather B false r (kept B rs o)
unfolding kept
kept_snoc B [] r o = refl
kept_snoc B (s ∷ rs) r o = kept_snoc B rs r (gather B false s o)

-- gathering rs onto an outcome and writing what is left makes these blocks
abbrev Makes : ℕ → List Rec → Out → Level → Type 0
Makes B rs o l = flush (kept B rs o).buffer (kept B rs o).done ≡ l

pub kept_packed : (B : ℕ) (rs buffer : List Rec) (done : Level) → Makes B rs (record { buffer = buffer; done = done }) (reverse_aux (pack B buffer rs) done)
unfolding kept
kept_packed B [] [] done = refl
kept_packed B [] (c ∷ buffer) done = refl
kept_packed B (r ∷ rs) buffer done = go (leb B (suc (length buffer))) refl (kept_packed B rs [] (new (buffer ++ (r ∷ [])) ∷ done)) (kept_packed B rs (buffer ++ (r ∷ [])) done)
  where
    go : (t : Bool) → leb B (suc (length buffer)) ≡ t → Makes B rs (record { buffer = []; done = new (buffer ++ (r ∷ [])) ∷ done }) (reverse_aux (pack B [] rs) (new (buffer ++ (r ∷ [])) ∷ done))
        → Makes B rs (record { buffer = buffer ++ (r ∷ []); done = done }) (reverse_aux (pack B (buffer ++ (r ∷ [])) rs) done)
        → Makes B rs (if t then record { buffer = []; done = new (buffer ++ (r ∷ [])) ∷ done } otherwise record { buffer = buffer ++ (r ∷ []); done = done }) (reverse_aux (pack B buffer (r ∷ rs)) done)
    go true e full more = rw (e, pack) full
    go false e full more = rw (e, pack) more

-- the new blocks of a level whose blocks have 1 to B records have at most B
pub sized_fit : (B : ℕ) (l : Level) → Sized B l → NewFit B l
sized_fit B [] s = tt
sized_fit B (b ∷ bs) s = (λ _. s.1, sized_fit B bs s.2)

-- What a memory leaves that holds a level's blocks, laid in key order.
use Prim.Native.Nat.{ℕ, ◌≤◌, ◌<◌}
use mathlib.Core.Path.{◌≡◌, sym, ap, ◌∙◌}
use mathlib.Core.List.{List}
use native.Mathlib.Omega.{arith}
use lib.ListN.{length, take}
use lib.Seq.{length-take-le}
use Rattle.levels.specs.Record.{Level}
use Rattle.levels.specs.Place.{Allocation, settle, places_of}
use Rattle.blocks.specs.Blocks.{Sized, offsets_of, Marks}
use Rattle.stream.specs.Machine.{Memory}
use Rattle.merging.proofs.Blocks.{Flash, lay_all}
use Rattle.merging.proofs.Relation.{flash_of, start}
use Rattle.merging.specs.Contract.{Leaves}
use Rattle.merging.proofs.Settle.{NewFit, settle_laid, settle_placed}
use Rattle.layout.specs.declared.Layout.{Layout}

-- a memory that nothing has been written from yet
pub record Unwritten (z : Layout) (s : Memory) : Type 0 where
  pub sized : Sized (offsets_of z) s.words
  pub marks_long : length s.used ≡ 8192
  pub cursor_low : s.st.cursor < z.geo.p
  pub writes : s.st.writes ≡ 0

-- from such a memory s, a memory b that holds a level's blocks laid on s has what the level leaves once it is given places, for every list of places in use that the marks stand for
pub leaves_of : (z : Layout) (s b : Memory) (l : Level) → Unwritten z s → NewFit z.geo.b l → flash_of b ≡ lay_all (offsets_of z) (start s) l → length b.out ≡ 4096 → b.st.m ≤ 4096
    → (a : Allocation) → a.cursor ≡ s.st.cursor → Marks s.used a.used
    → Leaves z (settle z.geo.p a l) s.words b.words b.used b.out (record { count = b.st.m; cursor = b.st.cursor; writes = b.st.writes })
leaves_of z s b l k fit laid long low a e m =
    let t = settle_laid z a (start s) l (record { sized = k.sized; long = k.marks_long; low = k.cursor_low; cursor = sym e; marks = m }) fit in
    let places : take b.st.m b.out ≡ places_of (settle z.geo.p a l).level = ap (λ (d : Flash). d.list) laid ∙ t.list in
    record {
      words = ap (λ (d : Flash). d.words) laid ∙ t.words;
      list = places;
      list_long = long;
      count = sym (length-take-le b.st.m b.out (omega arith)) ∙ ap (λ (q : List ℕ). length q) places ∙ settle_placed z.geo.p a l;
      count_high = low;
      cursor = ap (λ (d : Flash). d.cursor) laid ∙ t.cursor;
      marks = rw (ap (λ (d : Flash). d.used) laid) t.marks;
      marks_long = ap (λ (d : Flash). length d.used) laid ∙ t.marks_length ∙ k.marks_long;
      writes = ap (λ (d : Flash). d.writes) laid ∙ t.writes ∙ (let n = k.writes in omega arith);
    }

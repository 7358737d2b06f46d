-- A cursor into a level, what is left of the level there, and four of them side by side.
use Rattle.std.specs.Prelude.{ℕ, ◌+◌, ◌-◌, ◌%◌, ◌≤◌, ◌<◌, min, ◌≡◌, Bool, true, false, List, [], ◌∷◌, ◌++◌, eqb, ltb, length, take, set, map, fold, All, find, unwrap_or, option_map, Option, Some, None}
use Rattle.std.proofs.Math.Option.{Option as Maybe, none, some}
use Rattle.levels.specs.Basics.{if◌then◌otherwise◌}
use Rattle.levels.specs.Record.{Rec}
use Rattle.levels.specs.Map.{view, unmarked}
use Rattle.levels.specs.Rising.{Rising, Below}
use Rattle.words.specs.Stores.{word, keys_of, pays_of}
use Rattle.words.specs.Calls.{over}
use Rattle.chunks.specs.declared.Chunk.{Chunk}
use Rattle.chunks.specs.Chunks.{chunk_recs}
use Rattle.directory.specs.declared.Directory.{Directory}
use Rattle.directory.specs.Directory.{Formed, records_from, records_of}
use Rattle.walk.specs.declared.Cursor.{Cursor}
use Rattle.walk.specs.declared.Front.{Front}

-- the first record of a chunk
abbrev pub head_of : List ℕ → Chunk → Rec
head_of ws c = record { key = word ws c.keys; tombstone = eqb (c.marks % 2) 1; pay = word ws c.pays }

-- the records that are left of a level
unfoldable pub rest : List ℕ → Cursor → List Rec
rest ws c = chunk_recs ws c.chunk ++ records_from ws c.dir c.next (c.dir.chunks - c.next)

-- A cursor into a formed level. No block is empty, so a chunk with nothing left means that the level is used up.
pub record Good (ws : List ℕ) (c : Cursor) : Type 0 where
  pub formed : Formed c.dir ws
  pub low : c.next ≤ c.dir.chunks
  pub keys_in : c.chunk.keys + c.chunk.count ≤ length ws
  pub pays_in : c.chunk.pays + c.chunk.count ≤ length ws
  pub alive : 1 ≤ c.chunk.count → (c.key ≡ word ws c.chunk.keys) × (c.key < 4294967296)
  pub ended : c.chunk.count ≡ 0 → (c.key ≡ 4294967296) × (c.next ≡ c.dir.chunks)

-- A cursor into a level for the walk from key q on: the records that it passes over are below q, those that are left are not.
pub record FromKey (ws : List ℕ) (d : Directory) (q : ℕ) (c : Cursor) : Type 0 where
  pub good : Good ws c
  pub passed : List Rec
  pub cut : records_of ws d ≡ passed ++ rest ws c
  pub below : Below q passed
  pub ahead : q ≤ c.key

-- From one cursor to another of the same level: the records between them have keys below the bound, and `live` of them are no tombstones.
pub record Skims (ws : List ℕ) (c : Cursor) (bound : ℕ) (after : Cursor) (live : ℕ) : Type 0 where
  pub good : Good ws after
  pub between : List Rec
  pub joined : rest ws c ≡ between ++ rest ws after
  pub below : Below bound between
  pub counted : live ≡ length (unmarked between)

-- levels laid over each other, the upper ones first
abbrev pub layered : List ℕ → List Directory → List Rec
layered ws ds = view (map (records_of ws) ds)

-- levels that keep their rules
abbrev pub AllFormed : List ℕ → List Directory → Type 0
AllFormed ws ds = All (λ (d : Directory). Formed d ws) ds

-- the same levels in another order that shows the same
pub record SameLevels (l r : List Directory) : Type 0 where
  pub formed : (ws : List ℕ) → AllFormed ws l → AllFormed ws r
  pub shows : (ws : List ℕ) → layered ws r ≡ layered ws l

-- cursors into formed levels
pub record Abreast (ws : List ℕ) (f : Front) : Type 0 where
  pub upper : All (Good ws) f.upper
  pub last : Good ws f.last

-- what is left of each level, the last one last
abbrev pub rests_of : List ℕ → Front → List (List Rec)
rests_of ws f = map (rest ws) f.upper ++ (rest ws f.last ∷ [])

-- what is left of the levels, laid over each other
abbrev pub rests : List ℕ → Front → List Rec
rests ws f = view (rests_of ws f)

-- what a walk begins with: what is left is sorted, and few enough to be counted
pub record Ahead (ws : List ℕ) (f : Front) : Type 0 where
  pub abreast : Abreast ws f
  pub rises : Rising 0 (rests ws f)
  pub few : length (rests ws f) ≤ 65536

-- four cursors from key q on: what they pass over is below q, what is left is not
pub record Entered (ws : List ℕ) (l : List Directory) (q : ℕ) (f : Front) : Type 0 where
  pub ahead : Ahead ws f
  pub passed : List Rec
  pub cut : layered ws l ≡ passed ++ rests ws f
  pub below : Below q passed
  pub from : Rising q (rests ws f)

-- the old value for a tombstone, else the new one
abbrev pub kept_of : Bool → ℕ → ℕ → ℕ
kept_of true old new = old
kept_of false old new = new

-- a list with entry n written, where a record is no tombstone and there is room for it
unfoldable pub entered : Bool → ℕ → ℕ → ℕ → List ℕ → List ℕ
entered true room n x xs = xs
entered false room n x xs = if ltb n room then set xs n x otherwise xs

-- Two arrays that were `keys` and `pays`, with these records written to them, as many as both have room for.
pub record Written (keys pays : List ℕ) (rs : List Rec) (keys' pays' : List ℕ) : Type 0 where
  pub keys_are : keys' ≡ over (keys_of (take (min (length keys) (length pays)) rs)) keys
  pub pays_are : pays' ≡ over (pays_of (take (min (length keys) (length pays)) rs)) pays

-- From one cursor to another of the same level, as `Skims`: the live records between them are listed behind any n that are.
pub record Copies (ws : List ℕ) (c : Cursor) (bound n : ℕ) (keys pays : List ℕ) (after : Cursor) (total : ℕ) (keys' pays' : List ℕ) : Type 0 where
  pub live : ℕ
  pub skims : Skims ws c bound after live
  pub counted : total ≡ n + live
  pub long : (length keys' ≡ length keys) × (length pays' ≡ length pays)
  pub listed : (ks vs : List ℕ) (rs : List Rec) → length rs ≡ n → Written ks vs rs keys pays → Written ks vs (rs ++ unmarked skims.between) keys' pays'

-- What a walk has done: n live records passed, all below `stop`, and written. If they are no more than `most`, none below `stop` is left.
pub record Walked (ws : List ℕ) (f : Front) (stop most : ℕ) (keys pays : List ℕ) (n : ℕ) (keys' pays' : List ℕ) : Type 0 where
  pub passed : List Rec
  pub left : List Rec
  pub cut : unmarked (rests ws f) ≡ passed ++ left
  pub below : Below stop passed
  pub counted : n ≡ length passed
  pub written : Written keys pays passed keys' pays'
  pub ended : n ≤ most → Rising stop left
  pub all : n ≤ most → 4294967296 ≤ stop → left ≡ []

-- the least of a number and some next keys
abbrev pub least_of : ℕ → List Cursor → ℕ
least_of stop cs = fold (λ (b : ℕ) (c : Cursor). min b c.key) stop cs

-- the chunk of the uppermost cursor with key k, or of the last
abbrev pub upper_of : ℕ → List Cursor → Cursor → Chunk
upper_of k cs last = unwrap_or (option_map (λ (c : Cursor). c.chunk) (find (λ (c : Cursor). eqb c.key k) cs)) last.chunk

-- the answer for the first live record from a key on
abbrev pub following_of : Maybe Rec → Option (ℕ × ℕ)
following_of none = None
following_of (some r) = Some (r.key, r.pay)

-- a key that is answered is a word
abbrev pub KeyFits : Option (ℕ × ℕ) → Type 0
KeyFits None = Unit {0}
KeyFits (Some r) = r.0 < 4294967296

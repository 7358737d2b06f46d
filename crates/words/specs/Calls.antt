-- Document 01, "Calls": each call as a function from the lent words and its arguments to its answer and the lent words afterwards.
use Rattle.std.specs.Prelude.{ℕ, zero, suc, ◌+◌, ◌-◌, min, Bool, true, false, not, ◌&&◌, List, [], ◌∷◌, ◌++◌, ltb, eqb, length, take, drop, replicate}
use Rattle.std.proofs.Math.Option.{Option, none, some}
use Rattle.geometry.specs.declared.Geometry.{Geometry}
use Rattle.geometry.specs.Geometry.{key_limit_of, top_capacity_of, block_width, within}
use Rattle.layout.specs.declared.Layout.{Layout}
use Rattle.layout.specs.Layouts.{old, place_start, size_reason}
use Rattle.levels.specs.Basics.{if◌then◌otherwise◌, is_some}
use Rattle.levels.specs.Record.{Rec, Block, Level, first_key, last_key}
use Rattle.levels.specs.Map.{find, map_of, live_count, look_up, next, stretch}
use Rattle.levels.specs.Store.{Store, rows, blocks_of}
use Rattle.levels.specs.Call.{Compaction, Merge}
use Rattle.levels.specs.Put.{Change, refused, absent, entered, put, delete, merges_of}
use Rattle.levels.specs.Count.{Counts, counts_of}
use Rattle.levels.specs.declared.Ticket.{Ticket}
use Rattle.levels.specs.Tickets.{tickets_of}
use Rattle.pieces.specs.Pieces.{piece, lay_all}
use Rattle.words.specs.Stores.{layout_at, top_count_at, top_recs, store_at, with_store, with_blocks, level_at, place_of, keys_of, pays_of, part}
use Rattle.words.specs.Form.{reason_of}

-- What a call gives: its answer and the words afterwards.
pub record Outcome (A : Type 0) : Type 0 where
  pub answer : A
  pub words : List ℕ

-- The answers, as numbers: "the answer has only the number and zeros" where a call is turned down.
pub record FormatAnswer : Type 0 where
  pub reason : ℕ
  pub limit : ℕ

pub record LookAnswer : Type 0 where
  pub reason : ℕ
  pub found : Bool
  pub pay : ℕ

pub record NextAnswer : Type 0 where
  pub reason : ℕ
  pub found : Bool
  pub key : ℕ
  pub pay : ℕ

-- how many records were written, and if more follow
pub record StretchAnswer : Type 0 where
  pub reason : ℕ
  pub written : ℕ
  pub more : Bool

-- the six numbers of the geometry, live, N, the records in level 0 and the blocks of levels 1 to 3
pub record AboutAnswer : Type 0 where
  pub reason : ℕ
  pub b : ℕ
  pub w : ℕ
  pub d : ℕ
  pub g : ℕ
  pub h : ℕ
  pub p : ℕ
  pub live : ℕ
  pub limit : ℕ
  pub top : ℕ
  pub blocks1 : ℕ
  pub blocks2 : ℕ
  pub blocks3 : ℕ

pub record ChangeAnswer : Type 0 where
  pub reason : ℕ
  pub live : Bool
  pub level1 : Counts
  pub level2 : Counts
  pub level3 : Counts

-- the six numbers of a geometry, in the order of their words
abbrev pub six_of : Geometry → List ℕ
six_of g = g.b ∷ g.w ∷ g.d ∷ g.g ∷ g.h ∷ g.p ∷ []

-- "Format: every word 0 but the six of the geometry and hand = P − 1; answers N."
unfoldable pub format_words : Layout → List ℕ
format_words z = lay_all (piece z.six (six_of z.geo) ∷ piece z.hand ((z.geo.p - 1) ∷ []) ∷ []) (replicate z.length 0)

unfoldable pub format_of : List ℕ → Geometry → Outcome FormatAnswer
format_of ws g =
    let r = size_reason (length ws) g in
    elim (eqb r 0) [
      | true ↦ record { answer = record { reason = 0; limit = key_limit_of g }; words = format_words (old g) }
      | false ↦ record { answer = record { reason = r; limit = 0 }; words = ws }
    ]

-- The finite map of a lent store (demand 2): "Every lookup and every next-key reading answers as a finite map fed with the same accepted puts and deletes."
-- Its records, in key order.
abbrev pub map_at : List ℕ → List Rec
map_at ws = map_of (rows (store_at (layout_at ws) ws))

-- "Check: the reason 1 to 4 that a store is turned down for, or 0."
unfoldable pub check_of : List ℕ → ℕ
check_of ws = reason_of ws

-- "Look up k"
abbrev pub look_answer : Option Rec → LookAnswer
look_answer none = record { reason = 0; found = false; pay = 0 }
look_answer (some r) = record { reason = 0; found = true; pay = r.pay }

unfoldable pub look_up_of : List ℕ → ℕ → LookAnswer
look_up_of ws k = elim (eqb (reason_of ws) 0) [
  | true ↦ look_answer (look_up k (rows (store_at (layout_at ws) ws)))
  | false ↦ record { reason = reason_of ws; found = false; pay = 0 }
]

-- "Next k"
abbrev pub next_answer : Option Rec → NextAnswer
next_answer none = record { reason = 0; found = false; key = 0; pay = 0 }
next_answer (some r) = record { reason = 0; found = true; key = r.key; pay = r.pay }

unfoldable pub next_of : List ℕ → ℕ → NextAnswer
next_of ws k = elim (eqb (reason_of ws) 0) [
  | true ↦ next_answer (next k (rows (store_at (layout_at ws) ws)))
  | false ↦ record { reason = reason_of ws; found = false; key = 0; pay = 0 }
]

-- Document 02, card 1: "Given a first and a last key and two lent arrays, one for keys and one for payloads, the store fills them with the live
-- records of that stretch in rising order and says how many it wrote and if more follow." The answer and both arrays afterwards.
pub record StretchOutcome (A : Type 0) : Type 0 where
  pub answer : A
  pub keys : List ℕ
  pub pays : List ℕ

-- "Entries behind the last written one keep their content."
abbrev pub over : List ℕ → List ℕ → List ℕ
over written old = written ++ drop (length written) old

-- Records written to both arrays, "cut at that length"; "If the arrays differ in length, the shorter counts".
unfoldable pub filled : List Rec → List ℕ → List ℕ → StretchOutcome StretchAnswer
filled rs keys pays =
    let cut = take (min (length keys) (length pays)) rs in
    record {
      answer = record { reason = 0; written = length cut; more = ltb (length cut) (length rs) };
      keys = over (keys_of cut) keys;
      pays = over (pays_of cut) pays;
    }

-- "The list is the map's stretch cut at that length"
unfoldable pub stretch_of : List ℕ → ℕ → ℕ → List ℕ → List ℕ → StretchOutcome StretchAnswer
stretch_of ws first last keys pays = elim (eqb (reason_of ws) 0) [
  | true ↦ filled (stretch first last (map_at ws)) keys pays
  | false ↦ record { answer = record { reason = reason_of ws; written = 0; more = false }; keys = keys; pays = pays }
]

-- "Show i, k: of level i, 1 to h, the words of the block whose first to last key encloses k, given back as that part of the lent store;
-- an empty part if there is none, i is another number or the store is turned down."
unfoldable pub enclosing : ℕ → Level → Option Block
enclosing k [] = none
enclosing k (b ∷ bs) = elim (within (first_key b.recs) (last_key b.recs) k) [ true ↦ some b | false ↦ enclosing k bs ]

abbrev pub part_of : Layout → List ℕ → Option Block → List ℕ
part_of z ws none = []
part_of z ws (some b) = part ws (place_start z (place_of b)) (block_width z.geo)

unfoldable pub show_in : Layout → List ℕ → ℕ → ℕ → List ℕ
show_in z ws i k = elim (within 1 z.geo.h i) [ true ↦ part_of z ws (enclosing k (level_at z ws i)) | false ↦ [] ]

unfoldable pub show_of : List ℕ → ℕ → ℕ → List ℕ
show_of ws i k = elim (eqb (reason_of ws) 0) [ true ↦ show_in (layout_at ws) ws i k | false ↦ [] ]

-- About, which document 01 has not ("ask the store", issue 11): "the reason, or the six numbers, live, N, the records in level 0 and the
-- blocks of each level". Each is said by what it counts, and not by its size word: live the keys of the map; there is no block above level h.
unfoldable pub about_in : Geometry → Store → AboutAnswer
about_in g s = record {
  reason = 0;
  b = g.b;
  w = g.w;
  d = g.d;
  g = g.g;
  h = g.h;
  p = g.p;
  live = live_count (rows s);
  limit = key_limit_of g;
  top = length s.top;
  blocks1 = length (blocks_of g 1 s);
  blocks2 = length (blocks_of g 2 s);
  blocks3 = length (blocks_of g 3 s);
}

-- "all 0 but the reason where it is turned down"
abbrev pub about_refused : ℕ → AboutAnswer
about_refused n = record { reason = n; b = 0; w = 0; d = 0; g = 0; h = 0; p = 0; live = 0; limit = 0; top = 0; blocks1 = 0; blocks2 = 0; blocks3 = 0 }

unfoldable pub about_of : List ℕ → AboutAnswer
about_of ws = elim (eqb (reason_of ws) 0) [
  | true ↦ about_in (layout_at ws).geo (store_at (layout_at ws) ws)
  | false ↦ about_refused (reason_of ws)
]

-- The blocks that compactions write, and that a list of merges with its compactings writes, in order.
abbrev pub compacted_blocks : List Compaction → List Block
compacted_blocks [] = []
compacted_blocks (c ∷ cs) = c.written ++ compacted_blocks cs

abbrev pub written_blocks : List Merge → List Block
written_blocks [] = []
written_blocks (m ∷ ms) = m.written ++ (compacted_blocks m.compactions ++ written_blocks ms)

-- "the lent store is, word for word, what this list with its compactings leaves": the blocks written in their places, and the store over them
unfoldable pub left_words : Layout → List ℕ → List Merge → Store → List ℕ
left_words z ws ms s = with_store z s (with_blocks z (written_blocks ms) ws)

-- "for each level 1 to 3: merges into it, blocks written by them, blocks written compacting it"
abbrev pub change_answer : ℕ → Bool → List Merge → ChangeAnswer
change_answer reason was ms = record { reason = reason; live = was; level1 = counts_of 1 ms; level2 = counts_of 2 ms; level3 = counts_of 3 ms }

-- the answer and the words of a change; "no lent word changes" where there is none
unfoldable pub change_outcome : Layout → List ℕ → Change → Outcome ChangeAnswer
change_outcome z ws (refused n) = record { answer = change_answer n false []; words = ws }
change_outcome z ws absent = record { answer = change_answer 0 false []; words = ws }
change_outcome z ws (entered was ms s) = record { answer = change_answer 0 was ms; words = left_words z ws ms s }

-- "Put k, v" and "Delete k", with all refusals in their order
unfoldable pub put_of : List ℕ → ℕ → ℕ → Outcome ChangeAnswer
put_of ws k v =
    let z = layout_at ws in
    change_outcome z ws (elim (eqb (reason_of ws) 0) [ true ↦ put z.geo (store_at z ws) k v | false ↦ refused (reason_of ws) ])

unfoldable pub delete_of : List ℕ → ℕ → Outcome ChangeAnswer
delete_of ws k =
    let z = layout_at ws in
    change_outcome z ws (elim (eqb (reason_of ws) 0) [ true ↦ delete z.geo (store_at z ws) k | false ↦ refused (reason_of ws) ])

-- Document 02, card 3: the tickets of the merges that a put and a delete make; there are none where the store is turned down
unfoldable pub put_tickets : List ℕ → ℕ → ℕ → List Ticket
put_tickets ws k v = let z = layout_at ws in elim (eqb (reason_of ws) 0) [ true ↦ tickets_of z.geo (merges_of (put z.geo (store_at z ws) k v)) | false ↦ [] ]

unfoldable pub delete_tickets : List ℕ → ℕ → List Ticket
delete_tickets ws k = let z = layout_at ws in elim (eqb (reason_of ws) 0) [ true ↦ tickets_of z.geo (merges_of (delete z.geo (store_at z ws) k)) | false ↦ [] ]

-- the merges into levels 1 to 3 that an answer counts
abbrev pub merges_counted : ChangeAnswer → ℕ
merges_counted a = a.level1.merges + a.level2.merges + a.level3.merges

-- Document 02, card 5, "One merge, or none": what a put or delete is going to answer, the reason or 0 and its merges into level 1
pub record ForecastAnswer : Type 0 where
  pub reason : ℕ
  pub merges : ℕ

-- the same two numbers of an answer
abbrev pub forecast_in : ChangeAnswer → ForecastAnswer
forecast_in a = record { reason = a.reason; merges = a.level1.merges }

-- Card 5: "exactly one if level 0 holds K(0) × B records and the key isn't among them, and none otherwise": by c and level 0's records, marks with them
unfoldable pub top_merges : Layout → List ℕ → ℕ → ℕ
top_merges z ws k = if eqb (top_count_at z ws) (top_capacity_of z.geo) && not (is_some (find k (top_recs z ws))) then 1 otherwise 0

-- "5. A put has a key not in the map while live = N.", of a map's limit and records
abbrev pub is_full : ℕ → List Rec → ℕ → Bool
is_full limit rs k = not (is_some (find k rs)) && eqb (length rs) limit

-- the reason that a put of k is turned down for, or 0
unfoldable pub put_reason : List ℕ → ℕ → ℕ
put_reason ws k = elim (eqb (reason_of ws) 0) [ true ↦ if is_full (key_limit_of (layout_at ws).geo) (map_at ws) k then 5 otherwise 0 | false ↦ reason_of ws ]

-- Card 5: "A refused call makes none."
abbrev pub foretold : ℕ → ℕ → ForecastAnswer
foretold zero merges = record { reason = 0; merges = merges }
foretold (suc n) merges = record { reason = suc n; merges = 0 }

-- Card 5, of a put, and of a delete: "For a delete the same holds if the key is live, and none if it is absent."
unfoldable pub will_put_merge_of : List ℕ → ℕ → ForecastAnswer
will_put_merge_of ws k = foretold (put_reason ws k) (top_merges (layout_at ws) ws k)

unfoldable pub will_delete_merge_of : List ℕ → ℕ → ForecastAnswer
will_delete_merge_of ws k = foretold (reason_of ws) (if is_some (find k (map_at ws)) then top_merges (layout_at ws) ws k otherwise 0)

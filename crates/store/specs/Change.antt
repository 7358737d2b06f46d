-- Put and delete: what their contracts say.
use Rattle.std.specs.Prelude.{ℕ, ◌+◌, ◌<◌, ◌≡◌, List, ◌≢◌, length, Result}
use Rattle.std.proofs.Math.Option.{none}
use Rattle.geometry.specs.Geometry.{key_limit_of}
use Rattle.levels.specs.Map.{find}
use Rattle.levels.specs.Put.{insert, put, delete, merges_of, without, put_rec}
use Rattle.words.specs.Stores.{geometry_at, store_at, layout_at}
use Rattle.words.specs.Form.{reason_of}
use Rattle.words.specs.Calls.{Outcome, ChangeAnswer, map_at, put_of, delete_of, forecast_in, will_put_merge_of, will_delete_merge_of}
use Rattle.words.specs.Demand.{Demand, own_put, own_delete}
use Rattle.geometry.specs.declared.Refusal.{Refusal}
use Rattle.writer.specs.declared.Change.{Change}
use Rattle.writer.specs.Answers.{changed_answer}

-- What a put of k, v on the words ws, all words and all arguments, has answered and left.
pub record PutDone (ws : List ℕ) (k v : ℕ) (r : Result Change Refusal) (out : List ℕ) : Type 0 where
  -- the answer and, word for word, the lent store of document 01's put, refusals with them
  pub outcome : ◌≡◌ {A = Outcome ChangeAnswer} (record { answer = changed_answer r; words = out }) (put_of ws k v)
  -- demand 2, "a finite map fed with the same accepted puts and deletes": an accepted put enters its record
  pub map : reason_of ws ≡ 0 → (changed_answer r).reason ≡ 0 → map_at out ≡ insert (put_rec k v) (map_at ws)
  -- demand 2, "A put is turned down as full only for a new key when the map holds its stated limit."
  pub full : reason_of ws ≡ 0 → (changed_answer r).reason ≡ 5 → (find k (map_at ws) ≡ none) × (length (map_at ws) ≡ key_limit_of (geometry_at ws))
  -- demand 1, "with every lent word unchanged after a refusal"
  pub kept : (changed_answer r).reason ≢ 0 → out ≡ ws
  -- demand 1, a store that passes the form check passes it again: refusal 4 never follows from our own calls
  pub passes : reason_of ws ≡ 0 → reason_of out ≡ 0
  -- document 02, card 5: merges into level 1 are exactly one or none, as the words at entry foretell; so is the reason, and "A refused call makes none."
  pub foretold : forecast_in (changed_answer r) ≡ will_put_merge_of ws k
  -- demand 3 of the merges that it has made, where the store is not turned down
  pub demand : reason_of ws ≡ 0
      → let z = layout_at ws in let s = store_at z ws in Demand z ws (own_put z.geo s k v) (merges_of (put z.geo s k v)) (changed_answer r) out

-- and a delete of k
pub record DeleteDone (ws : List ℕ) (k : ℕ) (r : Result Change Refusal) (out : List ℕ) : Type 0 where
  pub outcome : ◌≡◌ {A = Outcome ChangeAnswer} (record { answer = changed_answer r; words = out }) (delete_of ws k)
  -- demand 2: an accepted delete takes its key out of the map
  pub map : reason_of ws ≡ 0 → (changed_answer r).reason ≡ 0 → map_at out ≡ without k (map_at ws)
  -- demand 1, "with every lent word unchanged after a refusal"
  pub kept : (changed_answer r).reason ≢ 0 → out ≡ ws
  -- demand 1, a store that passes the form check passes it again
  pub passes : reason_of ws ≡ 0 → reason_of out ≡ 0
  -- document 02, card 5: "For a delete the same holds if the key is live, and none if it is absent."
  pub foretold : forecast_in (changed_answer r) ≡ will_delete_merge_of ws k
  pub demand : reason_of ws ≡ 0
      → let z = layout_at ws in let s = store_at z ws in Demand z ws (own_delete z.geo s k) (merges_of (delete z.geo s k)) (changed_answer r) out

-- merges, blocks written by them and blocks written by compacting, each over all levels, are words
pub record SumsFit (a : ChangeAnswer) : Type 0 where
  pub merges : a.level1.merges + a.level2.merges + a.level3.merges < 4294967296
  pub merged : a.level1.written + a.level2.written + a.level3.written < 4294967296
  pub compacted : a.level1.compacted + a.level2.compacted + a.level3.compacted < 4294967296

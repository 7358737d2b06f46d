-- Document 01, "Bench figures": every starred line, computed from the definitions, as one list checked by one theorem,
-- and further computed cases beside it.
use Rattle.std.specs.Prelude.{ℕ, ◌≡◌, refl, true, false, List, [], ◌∷◌, ◌++◌, map}
use Rattle.geometry.specs.declared.Geometry.{Geometry}
use Rattle.levels.specs.Record.{Rec}
use Rattle.levels.specs.Bench.{
  geo,
  puts,
  dels,
  at,
  Act,
  put_key,
  del_key,
  sizes,
  turned_down,
  no_limit,
  merges,
  overlaps,
  keeps,
  compacts,
  compacts_after,
  quiet,
  leads,
  holds,
  Line,
  line,
  failing,
}

abbrev pub A : Geometry
A = geo 4 1 2 4 1 40

-- puts of these keys
abbrev pub acts : List ℕ → List Act
acts = map put_key

-- a put of key k has payload k in a history
abbrev pub self_puts : List ℕ → List Rec
self_puts ks = map (λ (k : ℕ). record { key = k; tombstone = false; pay = k }) ks

-- the puts of the bench figures up to 48
abbrev pub up_to48 : List ℕ
up_to48 = 10 ∷ 20 ∷ 30 ∷ 40 ∷ 50 ∷ 60 ∷ 70 ∷ 80 ∷ 90 ∷ 15 ∷ 25 ∷ 35 ∷ 45 ∷ 46 ∷ 47 ∷ 48 ∷ []

unfoldable pub figures : List Line
figures =
    line "A: N = 17; length 438" (sizes A 8 17 438)
    ∷ line "A: 437 gets 3" (turned_down 437 A 3)
    ∷ line "A: 439 gets 3" (turned_down 439 A 3)
    ∷ line "A with P = 39 gets 2" (turned_down 428 (geo 4 1 2 4 1 39) 2)
    ∷ line "4 1 2 3 2 with S = 24: N = 25" (sizes (geo 4 1 2 3 2 104) 24 25 1094)
    ∷ line "4 1 2 3 2: P at least 104" (turned_down 1084 (geo 4 1 2 3 2 103) 2)
    ∷ line "4 1 2 2 3: N below 1" (no_limit (geo 4 1 2 2 3 8192))
    ∷ line "4 1 2 2 3 gets 2" (turned_down 82000 (geo 4 1 2 2 3 8192) 2)
    ∷ line "A, puts 10, 20 .. 80: no merge" (quiet A (acts (10 ∷ 20 ∷ 30 ∷ 40 ∷ 50 ∷ 60 ∷ 70 ∷ 80 ∷ [])) 0)
    ∷ line "Put 90: keys 10 to 40 go to place 0, one write"
    (leads A (acts (10 ∷ 20 ∷ 30 ∷ 40 ∷ 50 ∷ 60 ∷ 70 ∷ 80 ∷ [])) (put_key 90) 0 ((0 ∷ 0 ∷ 1 ∷ 0 ∷ 2 ∷ 0 ∷ 1 ∷ []) ∷ [])
    (self_puts (50 ∷ 60 ∷ 70 ∷ 80 ∷ 90 ∷ [])) (at 0 (self_puts (10 ∷ 20 ∷ 30 ∷ 40 ∷ [])) ∷ []) 9)
    ∷ line "below 10 20 30 40 and 60 70 80 90, above a block 50 51 52 53: reused, no write"
    (merges true 1 (at 7 (puts 1 (50 ∷ 51 ∷ 52 ∷ 53 ∷ [])) ∷ []) (at 1 (puts 2 (10 ∷ 20 ∷ 30 ∷ 40 ∷ [])) ∷ at 2 (puts 2 (60 ∷ 70 ∷ 80 ∷ 90 ∷ [])) ∷ [])
    [] (at 1 (puts 2 (10 ∷ 20 ∷ 30 ∷ 40 ∷ [])) ∷ at 7 (puts 1 (50 ∷ 51 ∷ 52 ∷ 53 ∷ [])) ∷ at 2 (puts 2 (60 ∷ 70 ∷ 80 ∷ 90 ∷ [])) ∷ []) 0)
    ∷ line "Above 40 50, below 10 20 30 40: two blocks written, key 40 with the upper payload"
    (merges true 1 (at 7 (puts 1 (40 ∷ 50 ∷ [])) ∷ []) (at 1 (puts 2 (10 ∷ 20 ∷ 30 ∷ 40 ∷ [])) ∷ [])
    [] (at 0 (puts 2 (10 ∷ 20 ∷ 30 ∷ []) ++ puts 1 (40 ∷ [])) ∷ at 2 (puts 1 (50 ∷ [])) ∷ []) 2)
    ∷ line "Marks 40 and 50 onto a lone block 40: in level h nothing remains"
    (merges true 1 (at 7 (dels (40 ∷ 50 ∷ [])) ∷ []) (at 1 (puts 2 (40 ∷ [])) ∷ []) [] [] 0)
    ∷ line "Marks 40 and 50 onto a lone block 40: above h one block of two marks"
    (merges false 1 (at 7 (dels (40 ∷ 50 ∷ [])) ∷ []) (at 1 (puts 2 (40 ∷ [])) ∷ []) [] (at 0 (dels (40 ∷ 50 ∷ [])) ∷ []) 1)
    ∷ line "Above 7, below a lone block 5: one block 5 7, one write"
    (merges true 1 (at 7 (puts 1 (7 ∷ [])) ∷ []) (at 1 (puts 2 (5 ∷ [])) ∷ []) [] (at 0 (puts 2 (5 ∷ []) ++ puts 1 (7 ∷ [])) ∷ []) 1)
    ∷ line "5 records in 2 blocks, not compacted" (keeps (at 1 (puts 2 (1 ∷ 2 ∷ 3 ∷ 4 ∷ [])) ∷ at 2 (puts 2 (5 ∷ [])) ∷ []))
    ∷ line "16 in 5, not"
    (keeps (at 1 (puts 2 (1 ∷ 2 ∷ 3 ∷ [])) ∷ at 2 (puts 2 (4 ∷ 5 ∷ 6 ∷ [])) ∷ at 3 (puts 2 (7 ∷ 8 ∷ 9 ∷ [])) ∷ at 4 (puts 2 (10 ∷ 11 ∷ 12 ∷ []))
    ∷ at 5 (puts 2 (13 ∷ 14 ∷ 15 ∷ 16 ∷ [])) ∷ []))
    ∷ line "15 in 5, compacted to 4"
    (compacts
    (at 1 (puts 2 (1 ∷ 2 ∷ 3 ∷ [])) ∷ at 2 (puts 2 (4 ∷ 5 ∷ 6 ∷ [])) ∷ at 3 (puts 2 (7 ∷ 8 ∷ 9 ∷ [])) ∷ at 4 (puts 2 (10 ∷ 11 ∷ 12 ∷ []))
    ∷ at 5 (puts 2 (13 ∷ 14 ∷ 15 ∷ [])) ∷ []) 4)
    ∷ line "Above 1 2 and 9 10, window 1, below one block 2 9: each overlap 1; 1/2 rounded up is 1"
    (overlaps 1 (at 7 (puts 1 (1 ∷ 2 ∷ [])) ∷ at 8 (puts 1 (9 ∷ 10 ∷ [])) ∷ []) (at 1 (puts 2 (2 ∷ 9 ∷ [])) ∷ []) (1 ∷ 1 ∷ []) 0 1)
    ∷ []

pub figures_hold : failing figures ≡ []
unfolding failing holds figures
figures_hold = refl

-- Further cases: what no starred line would notice. The places are those that "the first free place after hand" gives, hand being 39 of 40.
unfoldable pub cases : List Line
cases =
    line "in level h a block of marks is not reused"
    (merges true 1 (at 7 (dels (50 ∷ 60 ∷ [])) ∷ []) (at 1 (puts 2 (10 ∷ 20 ∷ 30 ∷ 40 ∷ [])) ∷ []) [] (at 1 (puts 2 (10 ∷ 20 ∷ 30 ∷ 40 ∷ [])) ∷ []) 0)
    ∷ line "above level h a block of marks is reused"
    (merges false 1 (at 7 (dels (50 ∷ 60 ∷ [])) ∷ []) (at 1 (puts 2 (10 ∷ 20 ∷ 30 ∷ 40 ∷ [])) ∷ []) []
    (at 1 (puts 2 (10 ∷ 20 ∷ 30 ∷ 40 ∷ [])) ∷ at 7 (dels (50 ∷ 60 ∷ [])) ∷ []) 0)
    ∷ line "X's two neighbours hold B together: one new block, placed before those below"
    (merges true 1 (at 5 (puts 1 (10 ∷ 11 ∷ [])) ∷ at 6 (puts 1 (20 ∷ 21 ∷ [])) ∷ at 7 (puts 1 (30 ∷ 31 ∷ [])) ∷ [])
    (at 1 (puts 2 (9 ∷ 12 ∷ 13 ∷ [])) ∷ at 2 (puts 2 (29 ∷ 31 ∷ 33 ∷ 34 ∷ [])) ∷ []) (at 0 (puts 1 (10 ∷ 11 ∷ 30 ∷ 31 ∷ [])) ∷ [])
    (at 1 (puts 2 (9 ∷ 12 ∷ 13 ∷ [])) ∷ at 6 (puts 1 (20 ∷ 21 ∷ [])) ∷ at 2 (puts 2 (29 ∷ 31 ∷ 33 ∷ 34 ∷ [])) ∷ []) 1)
    ∷ line "step 2's block takes its place first; e and b that hold B together are not left apart"
    (merges true 1 (at 5 (puts 1 (10 ∷ 11 ∷ [])) ∷ at 6 (puts 1 (20 ∷ 21 ∷ [])) ∷ at 7 (puts 1 (30 ∷ 31 ∷ [])) ∷ [])
    (at 1 (puts 2 (9 ∷ 12 ∷ [])) ∷ at 2 (puts 2 (29 ∷ 31 ∷ 33 ∷ 34 ∷ [])) ∷ []) (at 0 (puts 1 (10 ∷ 11 ∷ 30 ∷ 31 ∷ [])) ∷ [])
    (at 3 (puts 2 (9 ∷ 12 ∷ []) ++ puts 1 (20 ∷ 21 ∷ [])) ∷ at 2 (puts 2 (29 ∷ 31 ∷ 33 ∷ 34 ∷ [])) ∷ []) 2)
    ∷ line "a buffer and b that hold B together: b is not reused"
    (merges true 1 (at 7 (puts 1 (5 ∷ 6 ∷ 20 ∷ [])) ∷ []) (at 1 (puts 2 (10 ∷ 11 ∷ [])) ∷ []) []
    (at 0 (puts 1 (5 ∷ 6 ∷ []) ++ puts 2 (10 ∷ 11 ∷ [])) ∷ at 2 (puts 1 (20 ∷ [])) ∷ []) 2)
    ∷ line "e and a buffer that hold B together: b is not reused"
    (merges true 1 (at 7 (puts 1 (11 ∷ 12 ∷ 20 ∷ [])) ∷ []) (at 1 (puts 2 (5 ∷ 6 ∷ [])) ∷ at 3 (puts 2 (17 ∷ 18 ∷ 19 ∷ [])) ∷ []) []
    (at 1 (puts 2 (5 ∷ 6 ∷ [])) ∷ at 0 (puts 1 (11 ∷ 12 ∷ []) ++ puts 2 (17 ∷ 18 ∷ [])) ∷ at 2 (puts 2 (19 ∷ []) ++ puts 1 (20 ∷ [])) ∷ []) 2)
    ∷ line "X ends where a block below begins: the block is in Y"
    (merges true 1 (at 7 (puts 1 (5 ∷ 10 ∷ [])) ∷ []) (at 1 (puts 2 (10 ∷ 20 ∷ 30 ∷ 40 ∷ [])) ∷ []) []
    (at 0 (puts 1 (5 ∷ 10 ∷ []) ++ puts 2 (20 ∷ 30 ∷ [])) ∷ at 2 (puts 2 (40 ∷ [])) ∷ []) 2)
    ∷ line "two blocks leave; the blocks on both sides stay"
    (merges true 2 (at 4 (puts 1 (1 ∷ 2 ∷ 3 ∷ [])) ∷ at 5 (puts 1 (11 ∷ 12 ∷ 13 ∷ [])) ∷ at 6 (puts 1 (21 ∷ 22 ∷ 23 ∷ [])) ∷ at 7 (puts 1 (31 ∷ 32 ∷ 33 ∷ [])) ∷ [])
    (at 1 (puts 2 (2 ∷ 4 ∷ 5 ∷ [])) ∷ at 2 (puts 2 (30 ∷ 34 ∷ 35 ∷ [])) ∷ []) (at 4 (puts 1 (1 ∷ 2 ∷ 3 ∷ [])) ∷ at 7 (puts 1 (31 ∷ 32 ∷ 33 ∷ [])) ∷ [])
    (at 1 (puts 2 (2 ∷ 4 ∷ 5 ∷ [])) ∷ at 5 (puts 1 (11 ∷ 12 ∷ 13 ∷ [])) ∷ at 6 (puts 1 (21 ∷ 22 ∷ 23 ∷ [])) ∷ at 2 (puts 2 (30 ∷ 34 ∷ 35 ∷ [])) ∷ []) 0)
    ∷ line "level i needs compacting once X has left: 12 records in 4 blocks, to 3"
    (compacts_after true 1
    (at 11 (puts 1 (1 ∷ 2 ∷ 3 ∷ 4 ∷ [])) ∷ at 12 (puts 1 (11 ∷ 12 ∷ 13 ∷ [])) ∷ at 13 (puts 1 (21 ∷ 22 ∷ 23 ∷ [])) ∷ at 14 (puts 1 (31 ∷ 32 ∷ 33 ∷ []))
    ∷ at 15 (puts 1 (41 ∷ 42 ∷ 43 ∷ [])) ∷ []) []
    (at 0 (puts 1 (11 ∷ 12 ∷ 13 ∷ 21 ∷ [])) ∷ at 1 (puts 1 (22 ∷ 23 ∷ 31 ∷ 32 ∷ [])) ∷ at 2 (puts 1 (33 ∷ 41 ∷ 42 ∷ 43 ∷ [])) ∷ [])
    (at 11 (puts 1 (1 ∷ 2 ∷ 3 ∷ 4 ∷ [])) ∷ []) ((1 ∷ 3 ∷ []) ∷ []))
    ∷ line "a leftover, e and the block after Y become one new block"
    (merges true 1 (at 7 (dels (20 ∷ 21 ∷ 22 ∷ []) ++ puts 1 (23 ∷ [])) ∷ [])
    (at 1 (puts 2 (10 ∷ [])) ∷ at 2 (puts 2 (20 ∷ 21 ∷ 22 ∷ 23 ∷ [])) ∷ at 3 (puts 2 (30 ∷ 31 ∷ [])) ∷ []) []
    (at 0 (puts 2 (10 ∷ []) ++ puts 1 (23 ∷ []) ++ puts 2 (30 ∷ 31 ∷ [])) ∷ []) 1)
    ∷ line "nothing placed, nothing left over: the block before Y joins the block after Y"
    (merges true 1 (at 7 (dels (20 ∷ 21 ∷ 22 ∷ [])) ∷ [])
    (at 1 (puts 2 (10 ∷ 11 ∷ [])) ∷ at 2 (puts 2 (20 ∷ 21 ∷ 22 ∷ [])) ∷ at 3 (puts 2 (30 ∷ 31 ∷ [])) ∷ []) []
    (at 0 (puts 2 (10 ∷ 11 ∷ 30 ∷ 31 ∷ [])) ∷ []) 1)
    ∷ line "a buffer is written before a reused block; the reused block is joined away, its place not free before the end"
    (merges true 1 (at 7 (puts 1 (5 ∷ 6 ∷ 20 ∷ [])) ∷ []) (at 1 (puts 2 (10 ∷ 11 ∷ 12 ∷ [])) ∷ []) []
    (at 0 (puts 1 (5 ∷ 6 ∷ [])) ∷ at 2 (puts 2 (10 ∷ 11 ∷ 12 ∷ []) ++ puts 1 (20 ∷ [])) ∷ []) 2)
    ∷ line "Then 15, 25, 35, 45: the fourth merges 60 to 90 (overlap 0, the other page 1), one write"
    (leads A (acts (10 ∷ 20 ∷ 30 ∷ 40 ∷ 50 ∷ 60 ∷ 70 ∷ 80 ∷ 90 ∷ 15 ∷ 25 ∷ 35 ∷ [])) (put_key 45) 0 ((0 ∷ 1 ∷ 1 ∷ 0 ∷ 2 ∷ 1 ∷ 1 ∷ []) ∷ [])
    (self_puts (15 ∷ 25 ∷ 35 ∷ 45 ∷ 50 ∷ [])) (at 0 (self_puts (10 ∷ 20 ∷ 30 ∷ 40 ∷ [])) ∷ at 1 (self_puts (60 ∷ 70 ∷ 80 ∷ 90 ∷ [])) ∷ []) 13)
    ∷ line "Then 46, 47, 48, 49: 49 merges 46, 47, 48, 50; live 17"
    (leads A (acts up_to48) (put_key 49) 0 ((0 ∷ 1 ∷ 1 ∷ 0 ∷ 2 ∷ 2 ∷ 1 ∷ []) ∷ []) (self_puts (15 ∷ 25 ∷ 35 ∷ 45 ∷ 49 ∷ []))
    (at 0 (self_puts (10 ∷ 20 ∷ 30 ∷ 40 ∷ [])) ∷ at 2 (self_puts (46 ∷ 47 ∷ 48 ∷ 50 ∷ [])) ∷ at 1 (self_puts (60 ∷ 70 ∷ 80 ∷ 90 ∷ [])) ∷ []) 17)
    ∷ line "Put 100 gets 5"
    (leads A (acts (up_to48 ++ (49 ∷ []))) (put_key 100) 5 [] (self_puts (15 ∷ 25 ∷ 35 ∷ 45 ∷ 49 ∷ []))
    (at 0 (self_puts (10 ∷ 20 ∷ 30 ∷ 40 ∷ [])) ∷ at 2 (self_puts (46 ∷ 47 ∷ 48 ∷ 50 ∷ [])) ∷ at 1 (self_puts (60 ∷ 70 ∷ 80 ∷ 90 ∷ [])) ∷ []) 17)
    ∷ line "put 49 doesn't"
    (leads A (acts (up_to48 ++ (49 ∷ []))) (put_key 49) 0 [] (self_puts (15 ∷ 25 ∷ 35 ∷ 45 ∷ 49 ∷ []))
    (at 0 (self_puts (10 ∷ 20 ∷ 30 ∷ 40 ∷ [])) ∷ at 2 (self_puts (46 ∷ 47 ∷ 48 ∷ 50 ∷ [])) ∷ at 1 (self_puts (60 ∷ 70 ∷ 80 ∷ 90 ∷ [])) ∷ []) 17)
    ∷ line "a delete of a live key in level 1 leaves a mark in level 0"
    (leads A (acts (10 ∷ 20 ∷ 30 ∷ 40 ∷ 50 ∷ 60 ∷ 70 ∷ 80 ∷ 90 ∷ [])) (del_key 20) 0 [] (dels (20 ∷ []) ++ self_puts (50 ∷ 60 ∷ 70 ∷ 80 ∷ 90 ∷ []))
    (at 0 (self_puts (10 ∷ 20 ∷ 30 ∷ 40 ∷ [])) ∷ []) 8)
    ∷ line "a delete of an absent key changes nothing"
    (leads A (acts (10 ∷ 20 ∷ [])) (del_key 15) 0 [] (self_puts (10 ∷ 20 ∷ [])) [] 2)
    ∷ line "a put over a mark in level 0 brings the key back"
    (leads A (acts (10 ∷ 20 ∷ []) ++ (del_key 10 ∷ [])) (put_key 10) 0 [] (self_puts (10 ∷ 20 ∷ [])) [] 2)
    ∷ []

pub cases_hold : failing cases ≡ []
unfolding failing holds cases
cases_hold = refl

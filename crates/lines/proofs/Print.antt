-- Laws of printing: bytes put one after the other are the whole line.
use Prim.Native.Nat.{ℕ, ◌+◌, ◌-◌, ◌%◌, ◌^◌, ◌≤◌, ◌<◌}
use mathlib.Core.Path.{◌≡◌, refl, sym, ap, ◌∙◌, subst}
use mathlib.Core.List.{List, [], ◌∷◌, ◌++◌, append_assoc}
use native.Mathlib.Omega.{arith}
use lib.ListN.{length, set, take, drop, length-append}
use borrow.Rule.Slice.PartMut.{put_mid, post_of, Post-is}
use Rattle.std.specs.Fmt.{decimal as std_decimal}
use Rattle.std.specs.List.{flat_map}
use Rattle.std.proofs.lemmas.List.{flat_map_more}
use Rattle.std.proofs.lemmas.Fmt.{decimal_by_steps}
use Rattle.slices.specs.Slices.{put_at}
use Rattle.slices.proofs.Put.{put_length, put_join, set_put}
use Rattle.lines.specs.Bytes.{space, line_end, letter_f, letter_g, question, Printed}
use Rattle.lines.specs.Lines.{decimal, field, longest_line, spaced, printed_line, room, format_line, get_line, change_line, unreadable_line}
use Rattle.lines.proofs.Digits.{decimal_small, decimal_more}

-- std's digits of a number are those of the definition
pub std_digits : (n : ℕ) → n < 2 ^ 64 → std_decimal n ≡ decimal n
std_digits n h = sym (decimal_by_steps (λ (k : ℕ) (ds : List ℕ). decimal k ≡ ds) decimal_small (λ k ds l e. decimal_more k l ∙ ap (λ (bs : List ℕ). bs ++ ((48 + k % 10) ∷ [])) e) n h)

-- one byte is printed by setting it
pub printed_one : (xs : List ℕ) (i b : ℕ) → i < length xs → Printed xs (set xs i b) i (i + 1) (b ∷ [])
printed_one xs i b h = record { ends = refl; inside = omega arith; words = set_put i b xs h }

-- bytes are printed by copying them over a part
pub printed_part : (xs ys bs : List ℕ) (i e : ℕ) → ys ≡ bs → e ≡ i + length bs → e ≤ length xs → Printed xs (put_mid i (e - i) xs ys) i e bs
unfolding put_at
printed_part xs ys bs i e p q h =
    let f : post_of i (e - i) xs ≡ drop (i + length bs) xs = Post-is i e xs (omega arith) ∙ ap (λ (n : ℕ). drop n xs) q in
    record { ends = q; inside = h; words = ap (λ (zs : List ℕ). take i xs ++ zs) (λ j. p j ++ f j) }

-- what is printed where the first ended follows it
pub printed_then : (xs ys zs : List ℕ) (i j k : ℕ) (bs cs : List ℕ) → Printed xs ys i j bs → Printed ys zs j k cs → Printed xs zs i k (bs ++ cs)
printed_then xs ys zs i j k bs cs p q =
    let l : length ys ≡ length xs = rw p.words (put_length i bs xs (omega arith)) in
    record {
      ends = simp length-append (omega arith);
      inside = omega arith;
      words = q.words ∙ rw (p.words, p.ends) (put_join i bs cs xs (omega arith));
    }

-- A line before its end.
abbrev pub begun : ℕ → List ℕ → List ℕ
begun letter ns = (letter ∷ []) ++ flat_map spaced ns

-- no number
pub none_begun : (xs : List ℕ) (i letter : ℕ) → i < length xs → Printed xs (set xs i letter) i (i + 1) (begun letter [])
none_begun xs i letter h = printed_one xs i letter h

-- one number more
pub more_begun : (xs ys zs : List ℕ) (i j r letter n : ℕ) (ns : List ℕ) → j < length ys → Printed xs ys i j (begun letter ns) → Printed (set ys j space) zs (j + 1) r (decimal n) → Printed xs zs i r (begun letter (ns ++ (n ∷ [])))
more_begun xs ys zs i j r letter n ns h p q =
    subst (Printed xs zs i r) (flat_map_more spaced (letter ∷ []) ns n) (printed_then _ _ _ _ _ _ _ _ p (printed_then _ _ _ _ _ _ _ _ (printed_one ys j space h) q))

-- and its end
pub all_begun : (xs ys : List ℕ) (i j letter : ℕ) (ns : List ℕ) → j < length ys → Printed xs ys i j (begun letter ns) → Printed xs (set ys j line_end) i (j + 1) (printed_line letter ns)
unfolding printed_line
all_begun xs ys i j letter ns h p = printed_then _ _ _ _ _ _ _ _ p (printed_one ys j line_end h)

-- The lines of the definitions are lines with a letter and numbers.
pub format_is : (reason limit : ℕ) → printed_line letter_f (reason ∷ limit ∷ []) ≡ format_line reason limit
unfolding printed_line format_line field
format_is reason limit = simp append_assoc

pub get_is : (reason found payload : ℕ) → printed_line letter_g (reason ∷ found ∷ payload ∷ []) ≡ get_line reason found payload
unfolding printed_line get_line field
get_is reason found payload = simp append_assoc

pub change_is : (letter reason live merged compacted : ℕ) → printed_line letter (reason ∷ live ∷ merged ∷ compacted ∷ []) ≡ change_line letter reason live merged compacted
unfolding printed_line change_line field
change_is letter reason live merged compacted = simp append_assoc

pub unreadable_is : printed_line question [] ≡ unreadable_line
unfolding printed_line unreadable_line
unreadable_is = refl

-- A line with at most four numbers has the room of the longest line there is, and is what one of these laws says it is.
pub printed_as : (xs ys bs : List ℕ) (i r letter : ℕ) (ns : List ℕ) → printed_line letter ns ≡ bs → length ns ≤ 4 → (r ≤ i + room (length ns)) × Printed xs ys i r (printed_line letter ns) → (r ≤ i + longest_line) × Printed xs ys i r bs
printed_as xs ys bs i r letter ns e h p = (omega (arith, h, p.0), subst (Printed xs ys i r) e p.1)

-- Document 01, "Why a call is turned down": the number of each reason.
use Rattle.std.specs.Prelude.{ℕ, List, codes}
use Rattle.geometry.specs.declared.Refusal.{Refusal}
use Rattle.geometry.specs.declared.Refusal.TheVariants.{TooShort, BrokenLimit, WrongLength, Damaged, Full}

-- "1. The store has fewer than 12 words. 2. The geometry .. breaks a limit above. 3. The length differs from the layout's."
-- "4. The form check finds a breach (all calls but format). 5. A put has a key not in the map while live = N."
abbrev pub number_of : Refusal → ℕ
number_of TooShort = 1
number_of BrokenLimit = 2
number_of WrongLength = 3
number_of Damaged = 4
number_of Full = 5

-- a reason in words, for a caller that prints it
abbrev pub text_of : Refusal → List ℕ
text_of TooShort = codes "the store has fewer than 12 words"
text_of BrokenLimit = codes "the geometry breaks a limit"
text_of WrongLength = codes "the length is not the one that the geometry needs"
text_of Damaged = codes "the store is damaged"
text_of Full = codes "the store is full"

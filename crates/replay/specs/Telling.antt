-- What a call told, as it is handed to its line: a number of 01, values, and the offsets of refusals. Assumes nothing.
use Rattle.std.specs.Prelude.{ℕ, ◌+◌, ◌*◌, ◌%◌, ◌≡◌, Bool, true, false, cond, List, [], ◌∷◌, ltb, get_or, set, fold, Option, None, Some, Result, Ok, Err}
use Rattle.wire.specs.Refusals.{number_of}
use Rattle.wire.specs.Told.{nowhere}
use Rattle.wire.specs.declared.refusals.Fault.{Fault}
use Rattle.replay.specs.declared.telling.Told.{Told}
use Rattle.wire.specs.declared.refusals.Refusal.{Refusal}

-- four values, and zeros up to sixteen
abbrev pub padded : ℕ → ℕ → ℕ → ℕ → List ℕ
padded a b c d = a ∷ b ∷ c ∷ d ∷ 0 ∷ 0 ∷ 0 ∷ 0 ∷ 0 ∷ 0 ∷ 0 ∷ 0 ∷ 0 ∷ 0 ∷ 0 ∷ 0 ∷ []

-- a refusal: its number, zeros, and the offset of the field that decided it
abbrev pub refusal : Fault → ℕ → Told
refusal fault count = record { number = number_of fault.why; count = count; values = padded 0 0 0 0; lends = false; refusals = 1; offsets = fault.at ∷ 0 ∷ 0 ∷ 0 ∷ [] }

abbrev pub RefusedPromise : Fault → ℕ → Told → Type 0
RefusedPromise fault count r = r ≡ refusal fault count

abbrev pub few_of : ℕ → List ℕ → Told
few_of count four = record { number = 0; count = count; values = padded (get_or four 0 0) (get_or four 1 0) (get_or four 2 0) (get_or four 3 0); lends = false; refusals = 0; offsets = 0 ∷ 0 ∷ 0 ∷ 0 ∷ [] }

abbrev pub FewPromise : ℕ → List ℕ → Told → Type 0
FewPromise count four r = r ≡ few_of count four

-- one refusal more: behind one at 5, one at 9 makes two, at 5 and 9; a fifth is not told
abbrev pub fallen : Told → ℕ → Told
fallen t at = cond (ltb t.refusals 4)
    (record { number = t.number; count = t.count; values = t.values; lends = t.lends; refusals = t.refusals + 1; offsets = set t.offsets t.refusals at })
    t

-- the offset of a refusal brings one more
abbrev pub located_at : Told → Option ℕ → Told
located_at t None = t
located_at t (Some at) = fallen t at

abbrev pub LocatedPromise : Told → Option ℕ → Told → Type 0
LocatedPromise t at r = r ≡ located_at t at

abbrev pub FlagPromise : Bool → ℕ → Type 0
FlagPromise b r = r ≡ cond b 1 0

-- a place in a part that starts at a place in the whole
abbrev pub moved_by : ℕ → ℕ → ℕ
moved_by start at = cond (ltb at 1000000) (cond (ltb start 1000000) (start + at) 0) 0

abbrev pub MovedPromise : ℕ → ℕ → ℕ → Type 0
MovedPromise start at r = r ≡ moved_by start at

-- the buffer is shown too
abbrev pub lent : Told → Told
lent t = record { number = t.number; count = t.count; values = t.values; lends = true; refusals = t.refusals; offsets = t.offsets }

-- the count of an encoder or a builder, or its refusal, which no field decided
abbrev pub writing : Result ℕ Refusal → Told
writing (Ok n) = lent (few_of 1 (n ∷ 0 ∷ 0 ∷ 0 ∷ []))
writing (Err why) = lent (refusal (nowhere why) 1)

abbrev pub WrittenPromise : Result ℕ Refusal → Told → Type 0
WrittenPromise w r = r ≡ writing w

-- the bytes of a part as one number, behind what was read of it, by 65,521
abbrev pub remainder_from : ℕ → List ℕ → ℕ
remainder_from = fold (λ (rest x : ℕ). (rest * 256 + x) % 65521)

abbrev pub RemainderPromise : List ℕ → ℕ → Type 0
RemainderPromise s r = r ≡ remainder_from 0 s

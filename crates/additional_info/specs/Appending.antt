-- 02, 1/13: "The writer copies an area and appends a record." Assumes nothing.
use Rattle.std.specs.Prelude.{ℕ, ◌+◌, ◌≡◌, List, [], ◌∷◌, ◌++◌, length, ltb, Result}
use Rattle.wire.specs.Told.{Check, ◌⇒◌, verdict}
use Rattle.wire.specs.Writing.{Writes, room}
use Rattle.wire.specs.declared.refusals.Refusal.TheVariants.{PayloadTooLarge}
use Rattle.wire.specs.Told.{Verdict}
use Rattle.additional_info.specs.InfoType.{code_of}
use Rattle.additional_info.specs.Area.{Info, layout, area_check}
use Rattle.additional_info.specs.declared.info_type.AdditionalInfoType.{AdditionalInfoType}
use Rattle.wire.specs.declared.refusals.Refusal.{Refusal}

-- of an area with n bytes more behind it: "the same for the old area" (14), "then 5 (new area above 255)"
abbrev pub area_checks : List ℕ → ℕ → List Check
area_checks s n = area_check s ∷ ltb 255 (length s + n) ⇒ PayloadTooLarge ∷ []

abbrev pub JudgePromise : List ℕ → ℕ → Verdict → Type 0
JudgePromise s n r = r ≡ verdict (area_checks s n)

abbrev pub appended : List ℕ → Info → List ℕ
appended s i = s ++ layout i

-- "then 1": of n bytes of data and a buffer of m
abbrev pub checks : List ℕ → ℕ → ℕ → List Check
checks s n m = area_checks s (2 + n) ++ room (length s + (2 + n)) m ∷ []

abbrev pub AppendPromise : List ℕ → AdditionalInfoType → List ℕ → List ℕ → Result ℕ Refusal → List ℕ → Type 0
AppendPromise s t «data» b r after =
    Writes (checks s (length «data») (length b)) (appended s (record { code = code_of t; «data» = «data» })) b r after

-- 02, 1/13: "a row of records, each a type byte, a length byte and that many data bytes, filling the area exactly". Assumes nothing.
use Rattle.std.specs.Prelude.{ℕ, zero, suc, ◌+◌, ◌-◌, ◌*◌, ◌≡◌, Bool, true, false, cond, List, [], ◌∷◌, ◌++◌, length, take, drop, get_or, eqb, ltb, Result, Ok, Err, Option, Some, None}
use Rattle.wire.specs.Told.{Told, done, refused, Check, ◌⇒◌, verdict, judged}
use Rattle.wire.specs.Places.{located}
use Rattle.wire.specs.Layout.{Field, byte, size, put, get, word_at}
use Rattle.wire.specs.declared.refusals.Refusal.TheVariants.{InvalidAdditionalInfo}
use Rattle.wire.specs.Told.{Verdict}
use Rattle.additional_info.specs.InfoType.{type_of}
use Rattle.additional_info.specs.InfoType as InfoType
use Rattle.additional_info.specs.declared.info_type.AdditionalInfoType.{AdditionalInfoType}
use Rattle.additional_info.specs.declared.area.AdditionalInfo.{AdditionalInfo}
use Rattle.additional_info.specs.declared.area.Walked.{Walked}
use Rattle.wire.specs.declared.refusals.Fault.{Fault}

-- ---- the layout

-- type and length; that many data bytes follow
abbrev pub fields : List Field
fields = byte ∷ byte ∷ []

-- a record: its type's code, and its data
pub record Info : Type 0 where
  pub code : ℕ
  pub «data» : List ℕ

abbrev pub layout : Info → List ℕ
layout i = put fields (i.code ∷ length i.«data» ∷ []) ++ i.«data»

-- the bytes of records, one after the other
abbrev pub row : List Info → List ℕ
row [] = []
row (i ∷ is) = layout i ++ row is

-- an area is readable where a row of records fills it exactly: `04 02 12 34 99 00` is a timestamp and a record without data
pub record Readable (s : List ℕ) : Type 0 where
  pub records : List Info
  pub fills : s ≡ row records

-- ---- the record at the front of an area

abbrev pub code_in : List ℕ → ℕ
code_in s = get_or (get fields 0 s) 0 0

abbrev pub length_in : List ℕ → ℕ
length_in s = get_or (get fields 0 s) 1 0

-- its data starts at 2 and ends here
abbrev pub end_of : List ℕ → ℕ
end_of s = size fields + length_in s

abbrev pub data_in : List ℕ → List ℕ
data_in s = take (length_in s) (drop (size fields) s)

abbrev pub info_in : List ℕ → Info
info_in s = record { code = code_in s; «data» = data_in s }

-- what remains behind it
abbrev pub rest_of : List ℕ → List ℕ
rest_of s = drop (end_of s) s

-- a lone type byte, `04`, or a record past the area's end, `04 03 00 00` (14)
abbrev pub checks : List ℕ → List Check
checks s = ltb (length s) (size fields) ⇒ InvalidAdditionalInfo ∷ ltb (length s) (end_of s) ⇒ InvalidAdditionalInfo ∷ []

-- beside them, the type byte's offset for both
abbrev pub offsets : List ℕ
offsets = 0 ∷ 0 ∷ []

abbrev pub accepts : Verdict → Bool
accepts (Ok _) = true
accepts (Err e) = false

-- a record stands at the front; of an empty area none does
abbrev pub stands : List ℕ → Bool
stands s = accepts (verdict (checks s))

-- ---- the walk: "After one record, what remains is an area read by the same rule."

-- the records of an area, n of them at most, and what remains behind those
unfoldable pub records_in : ℕ → List ℕ → List Info
records_in zero s = []
records_in (suc n) s = cond (stands s) (info_in s ∷ records_in n (rest_of s)) []

unfoldable pub behind : ℕ → List ℕ → List ℕ
behind zero s = s
behind (suc n) s = cond (stands s) (behind n (rest_of s)) s

-- all of them: an area has no more records than bytes
abbrev pub all_in : List ℕ → List Info
all_in s = records_in (length s) s

-- where what remains behind n records starts
abbrev pub place_of : ℕ → List ℕ → ℕ
place_of n s = length s - length (behind n s)

-- the records do not fill the area: something remains where no record stands
abbrev pub unfilled : List ℕ → Bool
unfilled s = ltb 0 (length (behind (length s) s))

-- such an area is not readable (14)
abbrev pub area_check : List ℕ → Check
area_check s = unfilled s ⇒ InvalidAdditionalInfo

-- beside it, the type byte of the record that does not stand: of `04 00 99` it is at 2
abbrev pub area_offsets : List ℕ → List ℕ
area_offsets s = place_of (length s) s ∷ []

-- ---- what is told

-- a relative timestamp has two bytes, an extended one four; any other record has no value. `04 02 12 34` is 0x1234, `04 01 12` has none
abbrev pub timestamp_of : Info → Option ℕ
timestamp_of i =
    cond (eqb i.code 0x04) (cond (eqb (length i.«data») 2) (Some (word_at i.«data» 0)) None)
    (cond (eqb i.code 0x06) (cond (eqb (length i.«data») 4) (Some (word_at i.«data» 0 * 65536 + word_at i.«data» 2)) None) None)

-- 1 and the value, or 0 and 0
abbrev pub valued_of : Option ℕ → ℕ
valued_of (Some n) = 1
valued_of None = 0

abbrev pub value_of : Option ℕ → ℕ
value_of (Some n) = n
value_of None = 0

-- a record: that there is one, its type, its timestamp
abbrev pub values_of : AdditionalInfoType → Option ℕ → List ℕ
values_of t x = 1 ∷ InfoType.values t ++ valued_of x ∷ value_of x ∷ []

-- its data as a view
abbrev pub told_record : AdditionalInfo → Told
told_record r = record {
  number = 0;
  values = values_of r.info_type r.timestamp;
  start = r.start;
  end = r.end;
  offset = 0;
}

-- no record
abbrev pub nothing : Told
nothing = done (0 ∷ 0 ∷ 0 ∷ 0 ∷ 0 ∷ [])

abbrev pub told : Result (Option AdditionalInfo) Fault → Told
told (Ok (Some r)) = told_record r
told (Ok None) = nothing
told (Err e) = refused 5 e

-- the record at the front of s, which starts at a place of the area
abbrev pub record_by02 : ℕ → List ℕ → Told
record_by02 at s = record {
  number = 0;
  values = values_of (type_of (code_in s)) (timestamp_of (info_in s));
  start = at + size fields;
  end = at + end_of s;
  offset = 0;
}

-- the record at the front of the area; an empty area has none
abbrev pub parse_by02 : List ℕ → Told
parse_by02 s = cond (eqb (length s) 0) nothing (judged (checks s) (record_by02 0 s))

-- and where
abbrev pub parse_where : List ℕ → Told
parse_where s = located (checks s) offsets (parse_by02 s)

abbrev pub ParsePromise : List ℕ → Result (Option AdditionalInfo) Fault → Type 0
ParsePromise s r = told r ≡ parse_where s

abbrev pub told_count : Result ℕ Fault → Told
told_count (Ok n) = done (n ∷ [])
told_count (Err e) = refused 1 e

abbrev pub count_by02 : List ℕ → Told
count_by02 s = judged (area_check s ∷ []) (done (length (all_in s) ∷ []))

abbrev pub count_where : List ℕ → Told
count_where s = located (area_check s ∷ []) (area_offsets s) (count_by02 s)

abbrev pub CountPromise : List ℕ → Result ℕ Fault → Type 0
CountPromise s r = told_count r ≡ count_where s

-- the record behind n others, or none
abbrev pub nth_in : List ℕ → ℕ → Told
nth_in s n = cond (ltb n (length (all_in s))) (record_by02 (place_of n s) (behind n s)) nothing

abbrev pub nth_by02 : List ℕ → ℕ → Told
nth_by02 s n = judged (area_check s ∷ []) (nth_in s n)

abbrev pub nth_where : List ℕ → ℕ → Told
nth_where s n = located (area_check s ∷ []) (area_offsets s) (nth_by02 s n)

abbrev pub NthPromise : List ℕ → ℕ → Result (Option AdditionalInfo) Fault → Type 0
NthPromise s n r = told r ≡ nth_where s n

-- ---- the code's parts

-- how many bytes the record at the front takes, where one stands
abbrev pub taken : List ℕ → Option ℕ
taken s = cond (stands s) (Some (end_of s)) None

abbrev pub TimestampPromise : ℕ → List ℕ → Option ℕ → Type 0
TimestampPromise code «data» r = r ≡ timestamp_of (record { code = code; «data» = «data» })

abbrev pub RecordPromise : List ℕ → ℕ → AdditionalInfo → Type 0
RecordPromise s at r = told_record r ≡ record_by02 at (drop at s)

abbrev pub WalkPromise : ℕ → List ℕ → Walked → Type 0
WalkPromise n s r = (r.records ≡ length (records_in n s)) × (r.at ≡ place_of n s)

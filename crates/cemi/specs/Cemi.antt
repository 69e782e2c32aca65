-- 01, "cEMI": message code, additional length, the additional information, and what the code says the rest is; 02, 1/13: the area, and a whole frame; 2/13: L_Data in the standard count. Assumes nothing.
use Rattle.std.specs.Prelude.{ℕ, ◌+◌, ◌≡◌, refl, Bool, true, false, cond, not, List, [], ◌∷◌, ◌++◌, length, get_or, ltb, Result, Ok, Err}
use Rattle.wire.specs.Told.{Told, done, viewed, refused, Check, ◌⇒◌, judged}
use Rattle.wire.specs.Places.{located, standing, moved}
use Rattle.wire.specs.Coding.{check}
use Rattle.wire.specs.Layout.{Field, byte, put, get}
use Rattle.wire.specs.Writing.{Writes, room}
use Rattle.wire.specs.Format.{Format, checks_of, offsets_of, found_in, read_by01}
use Rattle.wire.specs.Parts.{part_of, shown}
use Rattle.wire.specs.Parts as Parts
use Rattle.wire.specs.declared.refusals.Refusal.TheVariants.{InvalidFrame, InvalidMessageCode}
use Rattle.wire.specs.Places.{Standing}
use Rattle.wire.specs.declared.parts.View.{View}
use Rattle.constants.specs.MessageCodes.{message_codes, code_of}
use Rattle.constants.specs.declared.message_codes.CEMIMessageCode.{CEMIMessageCode}
use Rattle.constants.specs.declared.message_codes.CEMIMessageCode.TheVariants.{LDataReq, LDataInd, LDataCon, LRawReq, LRawInd, LRawCon, LBusmonInd}
use Rattle.ldata.specs.Count.{Count, crate_count, count_by}
use Rattle.ldata.specs.LData.{values_in, byte_checks}
use Rattle.ldata.specs.LData as LData
use Rattle.ldata.specs.declared.count.Counting.{Counting}
use Rattle.additional_info.specs.Appending.{area_checks}
use Rattle.cemi.specs.declared.CEMIFrame.{CEMIFrame}
use Rattle.ldata.specs.declared.ldata.LDataFields.{LDataFields}
use Rattle.wire.specs.declared.refusals.Fault.{Fault}
use Rattle.wire.specs.declared.refusals.Refusal.{Refusal}

-- message code, and the length of the additional information
abbrev pub fields : List Field
fields = byte ∷ byte ∷ []

abbrev message_in : List ℕ → ℕ
message_in vs = get_or vs 0 0

abbrev info_in : List ℕ → ℕ
info_in vs = get_or vs 1 0

-- unknown message code (6); a record holds the code alone
abbrev pub format : Format
format = record {
  fields = fields;
  asks = λ vs. check message_codes (message_in vs) ∷ [];
  asked_at = 0 ∷ [];
  each = λ vs. refl;
  values_in = λ vs. message_in vs ∷ [];
}

abbrev pub code_in : List ℕ → ℕ
code_in s = message_in (get fields 0 s)

abbrev pub info_length : List ℕ → ℕ
info_length s = info_in (get fields 0 s)

-- fewer than 2 bytes (1), then that
abbrev pub checks : List ℕ → List Check
checks s = checks_of format (length s) (get fields 0 s)

-- beside them, the input's end, then the code's offset
abbrev pub offsets : List ℕ → List ℕ
offsets s = offsets_of format (length s)

abbrev pub StandsPromise : List ℕ → Standing → Type 0
StandsPromise s r = r ≡ standing (checks s) (offsets s)

abbrev pub told : Result CEMIFrame Fault → Told
told (Ok f) = done (code_of f.message_code ∷ [])
told (Err e) = refused 1 e

abbrev pub parse_by01 : List ℕ → Told
parse_by01 s = read_by01 format s

-- and where
abbrev pub parse_where : List ℕ → Told
parse_where s = found_in format s (parse_by01 s)

abbrev pub ParsePromise : List ℕ → Result CEMIFrame Fault → Type 0
ParsePromise s r = told r ≡ parse_where s

abbrev pub MessageCodePromise : CEMIFrame → CEMIMessageCode → Type 0
MessageCodePromise f r = r ≡ f.message_code

-- ---- accessors that read through the slice repeat those checks, on the slice's own bytes

abbrev pub told_length : Result ℕ Fault → Told
told_length (Ok n) = done (n ∷ [])
told_length (Err e) = refused 1 e

abbrev pub InfoLengthPromise : List ℕ → Result ℕ Fault → Type 0
InfoLengthPromise s r = told_length r ≡ found_in format s (judged (checks s) (done (info_length s ∷ [])))

-- input shorter than 2 + additional length (2)
abbrev pub info_check : List ℕ → Check
info_check s = ltb (length s) (2 + info_length s) ⇒ InvalidFrame

-- beside it, the offset of the additional length
abbrev pub info_offset : ℕ
info_offset = 1

-- where the service information starts, in a frame that is long enough: `29 04 ..` is 6
abbrev pub ServiceStartPromise : List ℕ → Result ℕ Fault → Type 0
ServiceStartPromise s r = r ≡ cond (ltb (length s) (2 + info_length s)) (Err (record { why = InvalidFrame; at = info_offset })) (Ok (2 + info_length s))

abbrev pub service_info_by01 : List ℕ → Told
service_info_by01 s = judged (checks s ++ info_check s ∷ []) (viewed (2 + info_length s) (length s))

abbrev pub service_info_where : List ℕ → Told
service_info_where s = located (checks s ++ info_check s ∷ []) (offsets s ++ info_offset ∷ []) (service_info_by01 s)

abbrev pub ServiceInfoPromise : List ℕ → Result View Fault → Type 0
ServiceInfoPromise s r = Parts.told r ≡ service_info_where s

abbrev pub ServiceInfoPartPromise : List ℕ → List ℕ → Type 0
ServiceInfoPartPromise s r = r ≡ shown s (service_info_by01 s)

-- ---- L_Data

abbrev pub is_ldata : CEMIMessageCode → Bool
is_ldata LDataReq = true
is_ldata LDataInd = true
is_ldata LDataCon = true
is_ldata LRawReq = false
is_ldata LRawInd = false
is_ldata LRawCon = false
is_ldata LBusmonInd = false

abbrev pub IsLDataPromise : CEMIFrame → Bool → Type 0
IsLDataPromise f r = r ≡ is_ldata f.message_code

-- what follows the additional information
abbrev pub service_info : List ℕ → List ℕ
service_info s = part_of s (2 + info_length s) (length s)

-- the record's code is not L_Data (6), the same 2
abbrev pub ldata_checks : CEMIFrame → List ℕ → List Check
ldata_checks f s = not (is_ldata f.message_code) ⇒ InvalidMessageCode ∷ info_check s ∷ []

-- then L_Data on the rest, over how L counts
abbrev pub as_ldata_in : Count → CEMIFrame → List ℕ → Told
as_ldata_in C f s = judged (checks s ++ ldata_checks f s ++ byte_checks C (service_info s)) (done (values_in C (service_info s)))

abbrev pub as_ldata_by01 : CEMIFrame → List ℕ → Told
as_ldata_by01 f s = as_ldata_in crate_count f s

-- beside its checks, the code's offset and the additional length's; L_Data starts behind the additional information
abbrev pub ldata_offsets : List ℕ
ldata_offsets = 0 ∷ info_offset ∷ []

abbrev pub rest_offsets : List ℕ → List ℕ
rest_offsets s = moved (2 + info_length s) (LData.offsets (length (service_info s)))

-- an answer with the offset of the check that decided
abbrev pub ldata_found_in : Count → CEMIFrame → List ℕ → Told → Told
ldata_found_in C f s t = located (checks s ++ ldata_checks f s ++ byte_checks C (service_info s)) (offsets s ++ ldata_offsets ++ rest_offsets s) t

-- and where: behind four bytes of additional information, an L that is wrong is 2 at 2 + 4 + 6
abbrev pub as_ldata_where : Count → CEMIFrame → List ℕ → Told
as_ldata_where C f s = ldata_found_in C f s (as_ldata_in C f s)

abbrev pub AsLDataPromise : CEMIFrame → List ℕ → Result LDataFields Fault → Type 0
AsLDataPromise f s r = LData.told r ≡ ldata_found_in crate_count f s (as_ldata_by01 f s)

-- in the count that it is given
abbrev pub AsLDataInPromise : Counting → CEMIFrame → List ℕ → Result LDataFields Fault → Type 0
AsLDataInPromise c f s r = LData.told r ≡ as_ldata_where (count_by c) f s

-- ---- 02, 1/13: the additional information

-- it stands from 2 to 2 + additional length; it is asked for as what follows it is, and not judged
abbrev pub info_by02 : List ℕ → Told
info_by02 s = judged (checks s ++ info_check s ∷ []) (viewed 2 (2 + info_length s))

abbrev pub info_where : List ℕ → Told
info_where s = located (checks s ++ info_check s ∷ []) (offsets s ++ info_offset ∷ []) (info_by02 s)

abbrev pub InfoPromise : List ℕ → Result View Fault → Type 0
InfoPromise s r = Parts.told r ≡ info_where s

abbrev pub InfoPartPromise : List ℕ → List ℕ → Type 0
InfoPartPromise s r = r ≡ shown s (info_by02 s)

-- a whole frame: message code, area, and the rest as bytes that are not looked at
abbrev pub layout : ℕ → List ℕ → List ℕ → List ℕ
layout code area rest = put fields (code ∷ length area ∷ []) ++ area ++ rest

-- the area's own, 14 and above 255 (5), then a buffer below 2 + area + rest (1)
abbrev pub build_checks : List ℕ → ℕ → ℕ → List Check
build_checks area n m = area_checks area 0 ++ room (2 + length area + n) m ∷ []

abbrev pub BuildPromise : CEMIFrame → List ℕ → List ℕ → List ℕ → Result ℕ Refusal → List ℕ → Type 0
BuildPromise f area rest b r after = Writes (build_checks area (length rest) (length b)) (layout (code_of f.message_code) area rest) b r after

-- 02, 1/13, "Read the gateway's timestamps": the reader decides what is readable, records come back through reader and writer, the old calls stay; then rows typed from 02. Over the promises that the contracts cite.
use Rattle.std.specs.Prelude.{ℕ, ◌+◌, ◌≤◌, ◌≡◌, refl, List, [], ◌∷◌, ◌++◌, length, take, drop, replicate, Result, Ok, Err, Some, None, Option}
use Rattle.std.proofs.Common.{arith, sym, ap, ◌∙◌}
use Rattle.wire.specs.Told.{Told, done, viewed, verdict}
use Rattle.wire.specs.ToldLaws.{never_brought}
use Rattle.wire.specs.Writing.{tells}
use Rattle.wire.specs.Writing as Writing
use Rattle.wire.specs.Parts as Parts
use Rattle.wire.specs.declared.parts.View.{View}
use Rattle.wire.specs.declared.refusals.Fault.{Fault}
use Rattle.wire.specs.declared.refusals.Refusal.TheVariants.{InvalidAdditionalInfo}
use Rattle.constants.specs.declared.message_codes.CEMIMessageCode.TheVariants.{LDataReq, LDataInd}
use Rattle.ldata.specs.Count.{crate_count}
use Rattle.ldata.specs.LData as LData
use Rattle.additional_info.specs.InfoType.{code_of}
use Rattle.additional_info.specs.InfoTypeLaws as InfoTypeLaws
use Rattle.additional_info.specs.InfoType as InfoType
use Rattle.additional_info.specs.Area.{Info, Readable, records_in, behind}
use Rattle.additional_info.specs.Area as Area
use Rattle.additional_info.specs.WalkLaws as WalkLaws
use Rattle.additional_info.specs.AreaLaws as AreaLaws
use Rattle.additional_info.specs.Appending as Appending
use Rattle.additional_info.specs.AppendingLaws as AppendingLaws
use Rattle.additional_info.specs.declared.info_type.AdditionalInfoType.{AdditionalInfoType}
use Rattle.additional_info.specs.declared.area.AdditionalInfo.{AdditionalInfo}
use Rattle.cemi.specs.Cemi as Cemi
use Rattle.cemi.specs.InfoLaws as CemiInfoLaws
use Rattle.cemi.specs.declared.CEMIFrame.{CEMIFrame}
use Rattle.claims.specs.Demand2.{ReadsBack}
use Rattle.claims.specs.Layouts.{nines}
use Rattle.claims.specs.Rows.{ldata}
use Rattle.ldata.specs.declared.ldata.LDataFields.{LDataFields}

-- ---- the reader decides what is readable, in both directions

-- what is counted is filled exactly by that many records
pub counted_is_readable : (s : List ℕ) (n : ℕ) → Area.CountPromise s (Ok n) → (x : Readable s) × (n ≡ length x.records)
counted_is_readable = AreaLaws.count_readable

-- what records fill exactly is counted, and is these records
pub readable_is_counted : (s : List ℕ) (x : Readable s) (r : Result ℕ Fault) → Area.CountPromise s r → r ≡ Ok (length x.records)
readable_is_counted = AreaLaws.readable_count

-- two rows of records that fill the same area are one
pub one_row : (s : List ℕ) (x y : Readable s) → x.records ≡ y.records
one_row s x y = sym (WalkLaws.fills_one s x) ∙ WalkLaws.fills_one s y

-- ---- the reader and the writer as predicates over any, so that an empty version fails them

-- a record at the front of any bytes: that there is one, its type, its timestamp, where its data stands
abbrev pub info_told : Info → Told
info_told i = record {
  number = 0;
  values = Area.values_of (InfoType.type_of i.code) (Area.timestamp_of i);
  start = 2;
  end = 2 + length i.«data»;
  offset = 0;
}

pub info_reads_back : ReadsBack (λ (i : Info). Unit {0}) Area.layout info_told Area.parse_where
info_reads_back i rest p = AreaLaws.reads_back i rest

-- wherever 02 lets it, a writer counts what it wrote, and the old records and the new one are read from it
abbrev pub Appends : (List ℕ → AdditionalInfoType → List ℕ → List ℕ → Told) → (List ℕ → AdditionalInfoType → List ℕ → List ℕ → List ℕ) → Type 0
Appends tells after =
    (s : List ℕ) (t : AdditionalInfoType) (d b : List ℕ) → Readable s → length s + (2 + length d) ≤ 255 → length s + (2 + length d) ≤ length b
    → (tells s t d b ≡ done ((length s + (2 + length d)) ∷ [])) × AppendingLaws.Wrote s (record { code = code_of t; «data» = d }) (take (length s + (2 + length d)) (after s t d b))

-- what `append` promises to tell and to leave in its buffer
abbrev pub append_tells : List ℕ → AdditionalInfoType → List ℕ → List ℕ → Told
append_tells s t d b = tells (Appending.checks s (length d) (length b)) (Appending.appended s (record { code = code_of t; «data» = d }))

abbrev pub append_leaves : List ℕ → AdditionalInfoType → List ℕ → List ℕ → List ℕ
append_leaves s t d b = Writing.leaves (Appending.checks s (length d) (length b)) (Appending.appended s (record { code = code_of t; «data» = d })) b

pub info-appends : Appends append_tells append_leaves
info-appends = AppendingLaws.appends

-- ---- a record that is handed out

-- at the front: its bytes and what remains are the area
pub first_shows : (s : List ℕ) (r : AdditionalInfo) → Area.ParsePromise s (Ok (Some r)) → Area.layout (AreaLaws.shown_in s r) ++ drop r.end s ≡ s
first_shows = AreaLaws.parse_shows

-- and for n: it stands behind n others
pub nth_shows : (s : List ℕ) (n : ℕ) (r : AdditionalInfo) → Area.NthPromise s n (Ok (Some r)) → drop n (Area.all_in s) ≡ AreaLaws.shown_in s r ∷ drop (n + 1) (Area.all_in s)
nth_shows = AreaLaws.nth_shows

-- "an empty one has no record"
pub empty_has_none : (r : Result (Option AdditionalInfo) Fault) (k : Result ℕ Fault) → Area.ParsePromise [] r → Area.CountPromise [] k → (r ≡ Ok None) × (k ≡ Ok 0)
empty_has_none r k p q = (AreaLaws.parse_one [] r (Ok None) p refl, readable_is_counted [] (record { records = []; fills = refl }) k q)

-- "types outside `AdditionalInfoType` are kept as numbers"
pub type_kept : (n : ℕ) (t : AdditionalInfoType) (m : ℕ) → InfoType.FromPromise n t → InfoType.ToPromise t m → m ≡ n
type_kept n t m p q = q ∙ ap code_of p ∙ InfoTypeLaws.code_back n

-- ---- reader and writer

-- reading what the writer wrote gives the old records and the new one
pub append_reads_back : (s : List ℕ) (t : AdditionalInfoType) (d b : List ℕ) (n : ℕ) (after : List ℕ)
    → Appending.AppendPromise s t d b (Ok n) after → AppendingLaws.Wrote s (record { code = code_of t; «data» = d }) (take n after)
append_reads_back = AppendingLaws.wrote

-- "Every readable area up to 255 bytes, read and written again, is the same bytes": its records, appended one after another from the empty area
pub read_write : (s : List ℕ) → Readable s → length s ≤ 255 → AppendingLaws.Rebuilt (length s) [] (Area.all_in s) s
read_write = AppendingLaws.rebuilds

-- ---- a whole cEMI frame

-- built, then parsed: code, area and rest come back
pub cemi_build_back : (f : CEMIFrame) (area rest b : List ℕ) (n : ℕ) (after : List ℕ) → Cemi.BuildPromise f area rest b (Ok n) after → CemiInfoLaws.Built f area rest (take n after)
cemi_build_back = CemiInfoLaws.built

-- accepted, it has the layout of its parts
pub cemi_apart : (s : List ℕ) → verdict (Cemi.checks s ++ Cemi.info_check s ∷ []) ≡ Ok tt → Cemi.layout (Cemi.code_in s) (Parts.shown s (Cemi.info_by02 s)) (Parts.shown s (Cemi.service_info_by01 s)) ≡ s
cemi_apart = CemiInfoLaws.taken_apart

-- ---- "Old calls stay": none of them gives 14, and the area's bounds are handed out without it

pub parse_never_14 : (s : List ℕ) (r : Result CEMIFrame Fault) → Cemi.ParsePromise s r → (Cemi.told r).number ≡ 14 → ⊥
parse_never_14 s r p q = never_brought (Cemi.checks s) (done (Cemi.code_in s ∷ [])) 14 refl (omega arith) refl (sym (ap (λ (t : Told). t.number) p) ∙ q)

pub length_never_14 : (s : List ℕ) (r : Result ℕ Fault) → Cemi.InfoLengthPromise s r → (Cemi.told_length r).number ≡ 14 → ⊥
length_never_14 s r p q = never_brought (Cemi.checks s) (done (Cemi.info_length s ∷ [])) 14 refl (omega arith) refl (sym (ap (λ (t : Told). t.number) p) ∙ q)

pub service_info_never_14 : (s : List ℕ) (r : Result View Fault) → Cemi.ServiceInfoPromise s r → (Parts.told r).number ≡ 14 → ⊥
service_info_never_14 s r p q =
    never_brought (Cemi.checks s ++ Cemi.info_check s ∷ []) (viewed (2 + Cemi.info_length s) (length s)) 14 refl (omega arith) refl (sym (ap (λ (t : Told). t.number) p) ∙ q)

pub as_ldata_never_14 : (f : CEMIFrame) (s : List ℕ) (r : Result LDataFields Fault) → Cemi.AsLDataPromise f s r → (LData.told r).number ≡ 14 → ⊥
as_ldata_never_14 f s r p q =
    never_brought (Cemi.checks s ++ Cemi.ldata_checks f s ++ LData.byte_checks crate_count (Cemi.service_info s)) (done (LData.values_in crate_count (Cemi.service_info s))) 14 refl (omega arith) refl
    (sym (ap (λ (t : Told). t.number) p) ∙ q)

pub info_never_14 : (s : List ℕ) (r : Result View Fault) → Cemi.InfoPromise s r → (Parts.told r).number ≡ 14 → ⊥
info_never_14 s r p q =
    never_brought (Cemi.checks s ++ Cemi.info_check s ∷ []) (viewed 2 (2 + Cemi.info_length s)) 14 refl (omega arith) refl (sym (ap (λ (t : Told). t.number) p) ∙ q)

-- ---- rows, typed from 02's rule

-- a record with a timestamp, or with none
abbrev stamped_info : AdditionalInfoType → ℕ → ℕ → ℕ → Result (Option AdditionalInfo) Fault
stamped_info t value start end = Ok (Some (record { info_type = t; timestamp = Some value; start = start; end = end }))

abbrev plain_info : AdditionalInfoType → ℕ → ℕ → Result (Option AdditionalInfo) Fault
plain_info t start end = Ok (Some (record { info_type = t; timestamp = None; start = start; end = end }))

-- 14, at the type byte of the record that does not stand
abbrev broken : ℕ → Fault
broken at = record { why = InvalidAdditionalInfo; at = at }

abbrev refused14 : ℕ → Result (Option AdditionalInfo) Fault
refused14 at = Err (broken at)

-- a relative timestamp, a type without a name, an extended timestamp: records of 2, 1 and 4 bytes
abbrev three_records : List ℕ
three_records = 0x04 ∷ 0x02 ∷ 0x12 ∷ 0x34 ∷ 0x99 ∷ 0x01 ∷ 0xAA ∷ 0x06 ∷ 0x04 ∷ 0x80 ∷ 0x01 ∷ 0x02 ∷ 0x03 ∷ []

pub record Reading : Type 0 where
  -- nothing; a lone type byte; a record past the end; a record without data
  pub empty : Area.ParsePromise [] (Ok None)
  pub lone_type_lem : Area.ParsePromise (0x04 ∷ []) (refused14 0)
  pub past_the_end : Area.ParsePromise (0x04 ∷ 0x03 ∷ 0x00 ∷ 0x00 ∷ []) (refused14 0)
  pub no_data : Area.ParsePromise (0x04 ∷ 0x00 ∷ []) (plain_info AdditionalInfoType.RelativeTimestamp 2 2)
  -- the first of three, and the others by their places; behind the last there is none
  pub first : Area.ParsePromise three_records (stamped_info AdditionalInfoType.RelativeTimestamp 0x1234 2 4)
  pub first_of_all : Area.NthPromise three_records 0 (stamped_info AdditionalInfoType.RelativeTimestamp 0x1234 2 4)
  pub second : Area.NthPromise three_records 1 (plain_info (AdditionalInfoType.Unknown 0x99) 6 7)
  pub third : Area.NthPromise three_records 2 (stamped_info AdditionalInfoType.ExtendedRelativeTimestamp 0x80010203 9 13)
  pub fourth : Area.NthPromise three_records 3 (Ok None)
  pub three : Area.CountPromise three_records (Ok 3)
  -- a timestamp of another length is a record without a value
  pub long_relative : Area.ParsePromise (0x04 ∷ 0x04 ∷ 1 ∷ 2 ∷ 3 ∷ 4 ∷ []) (plain_info AdditionalInfoType.RelativeTimestamp 2 6)
  pub short_extended : Area.ParsePromise (0x06 ∷ 0x02 ∷ 1 ∷ 2 ∷ []) (plain_info AdditionalInfoType.ExtendedRelativeTimestamp 2 4)
  pub delay : Area.ParsePromise (0x05 ∷ 0x02 ∷ 1 ∷ 2 ∷ []) (plain_info AdditionalInfoType.TimeDelay 2 4)
  -- one record is read from the front alone; the whole area is judged for a count and for the n-th
  pub front_alone : Area.ParsePromise (0x04 ∷ 0x00 ∷ 0x99 ∷ []) (plain_info AdditionalInfoType.RelativeTimestamp 2 2)
  pub whole_counted : Area.CountPromise (0x04 ∷ 0x00 ∷ 0x99 ∷ []) (Err (broken 2))
  pub whole_nth : Area.NthPromise (0x04 ∷ 0x00 ∷ 0x99 ∷ []) 0 (refused14 2)
  pub none_counted : Area.CountPromise [] (Ok 0)
  -- more records than one walk takes, and a lone type byte behind them
  pub zeros_counted : Area.CountPromise (replicate 260 0) (Ok 130)
  pub zeros_and_one : Area.CountPromise (replicate 261 0) (Err (broken 260))

pub reading : Reading
unfolding records_in behind
reading = record {
  empty = refl;
  lone_type_lem = refl;
  past_the_end = refl;
  no_data = refl;
  first = refl;
  first_of_all = refl;
  second = refl;
  third = refl;
  fourth = refl;
  three = refl;
  long_relative = refl;
  short_extended = refl;
  delay = refl;
  front_alone = refl;
  whole_counted = refl;
  whole_nth = refl;
  none_counted = refl;
  zeros_counted = refl;
  zeros_and_one = refl;
}

-- the number that the writer tells for an area, n bytes of data and a buffer of m
abbrev appends : List ℕ → ℕ → ℕ → ℕ
appends s n m = (tells (Appending.checks s n m) []).number

-- and the builder of a frame, for an area and a rest of n bytes
abbrev builds : List ℕ → ℕ → ℕ → ℕ
builds s n m = (tells (Cemi.build_checks s n m) []).number

abbrev indication : CEMIFrame
indication = record { message_code = LDataInd }

-- `29 01 04` and a good L_Data frame: a lone type byte as additional information
abbrev lone_type : List ℕ
lone_type = 0x29 ∷ 0x01 ∷ 0x04 ∷ ldata 3 (0x00 ∷ 0x80 ∷ 0x2A ∷ [])

pub record Writing02 : Type 0 where
  -- 14 for the old area, then 5, then 1
  pub unreadable_first : appends (0x04 ∷ []) 253 0 ≡ 14
  pub large_before_room : appends [] 254 0 ≡ 5
  pub room-alone : appends [] 253 254 ≡ 1
  pub largest : appends [] 253 255 ≡ 0
  pub one_too_many : appends (0x04 ∷ 0x02 ∷ 1 ∷ 2 ∷ []) 250 300 ≡ 5
  pub just_fits : appends (0x04 ∷ 0x02 ∷ 1 ∷ 2 ∷ []) 249 255 ≡ 0
  pub long_area : appends (replicate 256 0) 0 300 ≡ 5
  pub long_unreadable : appends (replicate 257 0) 0 0 ≡ 14
  -- the old area, then type, length and data
  pub appended : Appending.AppendPromise (0x99 ∷ 0x01 ∷ 0xAA ∷ []) AdditionalInfoType.RelativeTimestamp (0x12 ∷ 0x34 ∷ []) nines (Ok 7)
      (0x99 ∷ 0x01 ∷ 0xAA ∷ 0x04 ∷ 0x02 ∷ 0x12 ∷ 0x34 ∷ 9 ∷ 9 ∷ [])
  -- a whole frame: 14, then 5, then 1; code, length, area and rest
  pub frame_unreadable : builds (0x04 ∷ []) 0 0 ≡ 14
  pub frame_long : builds (replicate 256 0) 0 0 ≡ 5
  pub frame_no_room : builds (replicate 254 0) 9 264 ≡ 1
  pub frame-room : builds (replicate 254 0) 9 265 ≡ 0
  pub frame : Cemi.BuildPromise (record { message_code = LDataReq }) (0x04 ∷ 0x02 ∷ 0x12 ∷ 0x34 ∷ []) (0xBC ∷ 0xE0 ∷ []) nines (Ok 8)
      (0x11 ∷ 0x04 ∷ 0x04 ∷ 0x02 ∷ 0x12 ∷ 0x34 ∷ 0xBC ∷ 0xE0 ∷ 9 ∷ [])
  -- the old calls step over an area that is not readable; the area itself is 14
  pub old_parse : (Cemi.parse_by01 lone_type).number ≡ 0
  pub old_service_info : Cemi.service_info_by01 lone_type ≡ viewed 3 13
  pub old_as_ldata : (Cemi.as_ldata_by01 indication lone_type).number ≡ 0
  pub area_of_it : Cemi.info_by02 lone_type ≡ viewed 2 3
  pub area-judged : Area.CountPromise (Parts.shown lone_type (Cemi.info_by02 lone_type)) (Err (broken 0))
  -- the area is asked for as the rest is: 1, 6, 2
  pub area-short : (Cemi.info_by02 (0x29 ∷ [])).number ≡ 1
  pub area_code : (Cemi.info_by02 (0x13 ∷ 0x05 ∷ [])).number ≡ 6
  pub area_past : (Cemi.info_by02 (0x29 ∷ 0x02 ∷ 0x04 ∷ [])).number ≡ 2

pub writing : Writing02
unfolding records_in behind
writing = record {
  unreadable_first = refl;
  large_before_room = refl;
  room-alone = refl;
  largest = refl;
  one_too_many = refl;
  just_fits = refl;
  long_area = refl;
  long_unreadable = refl;
  appended = (refl, refl);
  frame_unreadable = refl;
  frame_long = refl;
  frame_no_room = refl;
  frame-room = refl;
  frame = (refl, refl);
  old_parse = refl;
  old_service_info = refl;
  old_as_ldata = refl;
  area_of_it = refl;
  area-judged = refl;
  area-short = refl;
  area_code = refl;
  area_past = refl;
}

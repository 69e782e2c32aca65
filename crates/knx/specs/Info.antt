-- What the border promises of additional information: the rules of the crates below, told in numbers. Assumes nothing.
use Rattle.std.specs.Prelude.{ℕ, ◌≡◌, List, [], ◌∷◌, length, Result, Option}
use Rattle.wire.specs.Told.{Told, Check}
use Rattle.wire.specs.Coding.{check}
use Rattle.wire.specs.Writing.{Writes}
use Rattle.wire.specs.Parts as Parts
use Rattle.wire.specs.declared.parts.View.{View}
use Rattle.constants.specs.MessageCodes.{message_codes}
use Rattle.additional_info.specs.InfoType.{type_of}
use Rattle.additional_info.specs.Area as Area
use Rattle.additional_info.specs.Appending as Appending
use Rattle.cemi.specs.Cemi as Cemi
use Rattle.knx.specs.Building.{Tells}
use Rattle.knx.specs.declared.building.KnxWritten.{KnxWritten}
use Rattle.knx.specs.declared.info.KnxPart.{KnxPart}
use Rattle.knx.specs.declared.info.KnxAdditionalInfo.{KnxAdditionalInfo}
use Rattle.knx.specs.declared.info.KnxCount.{KnxCount}
use Rattle.wire.specs.declared.refusals.Fault.{Fault}
use Rattle.additional_info.specs.declared.area.AdditionalInfo.{AdditionalInfo}

-- where the area stands in a cEMI frame
abbrev pub told_part : KnxPart → Told
told_part r = record { number = r.number; values = []; start = r.start; end = r.end; offset = r.offset }

abbrev pub AreaPromise : List ℕ → KnxPart → Type 0
AreaPromise s r = told_part r ≡ Cemi.info_where s

-- a record of an area, or none
abbrev pub told : KnxAdditionalInfo → Told
told r = record { number = r.number; values = r.found ∷ r.named ∷ r.info_type ∷ r.timestamped ∷ r.timestamp ∷ []; start = r.start; end = r.end; offset = r.offset }

abbrev pub FirstPromise : List ℕ → KnxAdditionalInfo → Type 0
FirstPromise s r = told r ≡ Area.parse_where s

abbrev pub NthPromise : List ℕ → ℕ → KnxAdditionalInfo → Type 0
NthPromise s n r = told r ≡ Area.nth_where s n

abbrev pub told_count : KnxCount → Told
told_count r = record { number = r.number; values = r.count ∷ []; start = 0; end = 0; offset = r.offset }

abbrev pub CountPromise : List ℕ → KnxCount → Type 0
CountPromise s r = told_count r ≡ Area.count_where s

-- the record's type is the one of its number
abbrev pub AppendPromise : List ℕ → ℕ → List ℕ → List ℕ → KnxWritten → List ℕ → Type 0
AppendPromise s code «data» b r after = Tells (Appending.AppendPromise s (type_of code) «data» b) r after

-- a message code that is a number: none of the seven (6), then the builder's
abbrev pub build_checks : ℕ → List ℕ → ℕ → ℕ → List Check
build_checks code area n m = check message_codes code ∷ Cemi.build_checks area n m

abbrev pub BuildPromise : ℕ → List ℕ → List ℕ → List ℕ → KnxWritten → List ℕ → Type 0
BuildPromise code area rest b r after = Tells (Writes (build_checks code area (length rest) (length b)) (Cemi.layout code area rest) b) r after

-- ---- the code's parts

abbrev pub PartPromise : Result View Fault → KnxPart → Type 0
PartPromise v r = told_part r ≡ Parts.told v

abbrev pub RecordPromise : Result (Option AdditionalInfo) Fault → KnxAdditionalInfo → Type 0
RecordPromise a r = told r ≡ Area.told a

abbrev pub NonePromise : ℕ → ℕ → KnxAdditionalInfo → Type 0
NonePromise n o r = told r ≡ record { number = n; values = 0 ∷ 0 ∷ 0 ∷ 0 ∷ 0 ∷ []; start = 0; end = 0; offset = o }

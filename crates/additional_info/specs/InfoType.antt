-- cemi.rs, `AdditionalInfoType`; 02, 1/13: "types outside `AdditionalInfoType` are kept as numbers". Assumes nothing.
use Rattle.std.specs.Prelude.{ℕ, ◌≡◌, List, [], ◌∷◌}
use Rattle.wire.specs.Coding.{Keeping, keeping}
use Rattle.additional_info.specs.declared.info_type.AdditionalInfoType.{AdditionalInfoType}
use Rattle.additional_info.specs.declared.info_type.AdditionalInfoType.TheVariants.{PlMediumInfo, RfMediumInfo, BusmonitorErrorFlags, RelativeTimestamp, TimeDelay, ExtendedRelativeTimestamp, BiBatInfo, Unknown}

abbrev pub code_of : AdditionalInfoType → ℕ
code_of PlMediumInfo = 0x01
code_of RfMediumInfo = 0x02
code_of BusmonitorErrorFlags = 0x03
code_of RelativeTimestamp = 0x04
code_of TimeDelay = 0x05
code_of ExtendedRelativeTimestamp = 0x06
code_of BiBatInfo = 0x07
code_of (Unknown n) = n

-- 1 for a name, 0 for a code that is kept
abbrev pub named_of : AdditionalInfoType → ℕ
named_of PlMediumInfo = 1
named_of RfMediumInfo = 1
named_of BusmonitorErrorFlags = 1
named_of RelativeTimestamp = 1
named_of TimeDelay = 1
named_of ExtendedRelativeTimestamp = 1
named_of BiBatInfo = 1
named_of (Unknown n) = 0

-- whether it is named, and its code: `Unknown` of a named code is told apart from the name
abbrev pub values : AdditionalInfoType → List ℕ
values t = named_of t ∷ code_of t ∷ []

-- the seven names; any other code stays itself
abbrev pub info_types : Keeping AdditionalInfoType
info_types = record {
  rows =
      (0x01, PlMediumInfo)
      ∷ (0x02, RfMediumInfo)
      ∷ (0x03, BusmonitorErrorFlags)
      ∷ (0x04, RelativeTimestamp)
      ∷ (0x05, TimeDelay)
      ∷ (0x06, ExtendedRelativeTimestamp)
      ∷ (0x07, BiBatInfo)
      ∷ [];
  code = code_of;
  kept = Unknown;
}

abbrev pub type_of : ℕ → AdditionalInfoType
type_of n = keeping info_types n

-- by its variant, so that a named code is never `Unknown`
abbrev pub FromPromise : ℕ → AdditionalInfoType → Type 0
FromPromise n r = r ≡ type_of n

abbrev pub ToPromise : AdditionalInfoType → ℕ → Type 0
ToPromise t r = r ≡ code_of t

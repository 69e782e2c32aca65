-- A type's name and code say which it is, and a type has the code that it was read from. Assumes nothing.
use Rattle.std.specs.Prelude.{ℕ, ◌≡◌, refl, cond, eqb}
use Rattle.wire.specs.Coding.{keeping_code}
use Rattle.additional_info.specs.InfoType.{code_of, named_of, info_types, type_of}
use Rattle.additional_info.specs.declared.info_type.AdditionalInfoType.{AdditionalInfoType}
use Rattle.additional_info.specs.declared.info_type.AdditionalInfoType.TheVariants.{PlMediumInfo, RfMediumInfo, BusmonitorErrorFlags, RelativeTimestamp, TimeDelay, ExtendedRelativeTimestamp, BiBatInfo, Unknown}

-- what is read from a code has that code
pub code_back : (n : ℕ) → code_of (type_of n) ≡ n
code_back n = keeping_code info_types n refl (refl, (refl, (refl, (refl, (refl, (refl, (refl, tt)))))))

-- the type with these two values
unfoldable pub type_from : ℕ → ℕ → AdditionalInfoType
type_from named code = cond (eqb named 1) (type_of code) (Unknown code)

pub type_back : (t : AdditionalInfoType) → type_from (named_of t) (code_of t) ≡ t
unfolding type_from
type_back PlMediumInfo = refl
type_back RfMediumInfo = refl
type_back BusmonitorErrorFlags = refl
type_back RelativeTimestamp = refl
type_back TimeDelay = refl
type_back ExtendedRelativeTimestamp = refl
type_back BiBatInfo = refl
type_back (Unknown n) = refl

-- The border's additional information: how its numbers follow from the answers below, and no second answer. Assumes nothing.
use Rattle.std.specs.Prelude.{ℕ, ◌+◌, ◌≡◌, refl, List, [], ◌∷◌, ◌++◌, length, get_or, Err}
use Rattle.std.proofs.Common.{sym, ◌∙◌}
use Rattle.wire.specs.Told.{Told, done, viewed, refused, Check}
use Rattle.wire.specs.ToldLaws.{was_refused, same, one_to_one}
use Rattle.wire.specs.PlaceLaws.{falls_still, located_fall}
use Rattle.wire.specs.Coding.{check}
use Rattle.wire.specs.Writing.{Writes}
use Rattle.wire.specs.WritingLaws as WritingLaws
use Rattle.wire.specs.declared.refusals.Fault.{Fault}
use Rattle.constants.specs.MessageCodes.{message_codes, code_of}
use Rattle.constants.specs.MessageCodes as MessageCodes
use Rattle.additional_info.specs.InfoType.{type_of}
use Rattle.additional_info.specs.AppendingLaws as AppendingLaws
use Rattle.additional_info.specs.Appending as Appending
use Rattle.cemi.specs.Cemi as Cemi
use Rattle.cemi.specs.CemiLaws as CemiLaws
use Rattle.knx.specs.BuildingLaws.{tells_one}
use Rattle.knx.specs.Info.{told_part, AreaPromise, told, FirstPromise, NthPromise, told_count, CountPromise, AppendPromise, build_checks, BuildPromise}
use Rattle.knx.specs.declared.building.KnxWritten.{KnxWritten}
use Rattle.knx.specs.declared.info.KnxPart.{KnxPart}
use Rattle.knx.specs.declared.info.KnxAdditionalInfo.{KnxAdditionalInfo}
use Rattle.knx.specs.declared.info.KnxCount.{KnxCount}

-- a frame that does not parse has no area
pub no_area : (s : List ℕ) (e : Fault) (t : Told) → Cemi.ParsePromise s (Err e) → t ≡ refused 0 e → t ≡ Cemi.info_where s
no_area s e t p q =
    q
    ∙ sym (located_fall (Cemi.checks s ++ Cemi.info_check s ∷ []) (Cemi.offsets s ++ Cemi.info_offset ∷ []) (viewed 2 (2 + Cemi.info_length s)) e
    (falls_still (Cemi.checks s) (Cemi.info_check s ∷ []) (Cemi.offsets s) (Cemi.info_offset ∷ []) e refl (CemiLaws.fell s e p)))

-- a message code of a number: the frame is built, or refused before it is looked at
module _ (code : ℕ) (area rest b : List ℕ) where
  pub code_unknown : (e : Fault) → MessageCodes.FromPromise code (Err e) → Writes (build_checks code area (length rest) (length b)) (Cemi.layout code area rest) b (Err e.why) b
  code_unknown e p =
      WritingLaws.refuses-before (check message_codes code ∷ []) (Cemi.build_checks area (length rest) (length b)) (Cemi.layout code area rest) b e.why
      (was_refused (check message_codes code ∷ []) (done (code ∷ [])) 1 e refl p)

-- ---- no second answer

pub area_one : (s : List ℕ) (r q : KnxPart) → AreaPromise s r → AreaPromise s q → r ≡ q
area_one s r q a b = one_to_one told_part (λ t. record { start = t.start; end = t.end; offset = t.offset; number = t.number }) (λ x. refl) r q (same a b)

record_from : Told → KnxAdditionalInfo
record_from t = record {
  start = t.start;
  end = t.end;
  offset = t.offset;
  timestamp = get_or t.values 4 0;
  found = get_or t.values 0 0;
  named = get_or t.values 1 0;
  info_type = get_or t.values 2 0;
  timestamped = get_or t.values 3 0;
  number = t.number;
}

told_one : (r q : KnxAdditionalInfo) → told r ≡ told q → r ≡ q
unfolding record_from
told_one = one_to_one told record_from (λ x. refl)

pub first_one : (s : List ℕ) (r q : KnxAdditionalInfo) → FirstPromise s r → FirstPromise s q → r ≡ q
first_one s r q a b = told_one r q (same a b)

pub nth_one : (s : List ℕ) (n : ℕ) (r q : KnxAdditionalInfo) → NthPromise s n r → NthPromise s n q → r ≡ q
nth_one s n r q a b = told_one r q (same a b)

pub count_one : (s : List ℕ) (r q : KnxCount) → CountPromise s r → CountPromise s q → r ≡ q
count_one s r q a b = one_to_one told_count (λ t. record { count = get_or t.values 0 0; offset = t.offset; number = t.number }) (λ x. refl) r q (same a b)

pub append_one : (s : List ℕ) (code : ℕ) (d b : List ℕ) (r q : KnxWritten) (after later : List ℕ)
    → AppendPromise s code d b r after → AppendPromise s code d b q later → (r ≡ q) × (after ≡ later)
append_one s code d b = tells_one (Appending.AppendPromise s (type_of code) d b) (AppendingLaws.append_one s (type_of code) d b)

pub build_one : (code : ℕ) (area rest b : List ℕ) (r q : KnxWritten) (after later : List ℕ)
    → BuildPromise code area rest b r after → BuildPromise code area rest b q later → (r ≡ q) × (after ≡ later)
build_one code area rest b =
    let cs : List Check = build_checks code area (length rest) (length b) in
    tells_one (Writes cs (Cemi.layout code area rest) b) (WritingLaws.writes_one cs (Cemi.layout code area rest) b)

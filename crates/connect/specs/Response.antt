-- "A connect response body needs 14 bytes (1) whatever its status, then the `Hpai` checks." Assumes nothing.
use Rattle.std.specs.Prelude.{ℕ, ◌≡◌, refl, Bool, cond, List, [], ◌∷◌, ◌++◌, length, get_or, drop, replicate, eqb, ltb, Result, Ok, Err, IfOk}
use Rattle.wire.specs.Told.{Told, done, refused, Check, ◌⇒◌, judged}
use Rattle.wire.specs.Places.{Standing, located, standing, moved}
use Rattle.wire.specs.Layout.{Field, byte, run, word_at, size, put, get}
use Rattle.wire.specs.Format.{Format, checks_of, offsets_of, found_in, read_by01}
use Rattle.wire.specs.declared.refusals.Refusal.TheVariants.{BufferTooSmall}
use Rattle.address.specs.declared.IndividualAddress.{IndividualAddress}
use Rattle.hpai.specs.Hpai as Hpai
use Rattle.connect.specs.declared.response.ConnectResponse.{ConnectResponse}
use Rattle.wire.specs.declared.refusals.Fault.{Fault}

-- channel, status, data endpoint, connection response data (4)
abbrev pub fields : List Field
fields = byte ∷ byte ∷ (Hpai.fields ++ run 4 ∷ [])

abbrev pub values : ConnectResponse → List ℕ
values c = c.channel_id ∷ c.status ∷ (Hpai.values c.data_endpoint ++ c.crd)

abbrev pub layout : ConnectResponse → List ℕ
layout c = put fields (values c)

-- the checks of the Hpai, whose values stand behind the first two, and which starts at 2
abbrev pub format : Format
format = record {
  fields = fields;
  asks = λ vs. Hpai.checks (size Hpai.fields) (drop 2 vs);
  asked_at = moved 2 (Hpai.offsets (size Hpai.fields));
  each = λ vs. refl;
  values_in = λ vs. vs;
}

-- of a body of n bytes with these values: fewer than 14 (1), then those
abbrev pub checks : ℕ → List ℕ → List Check
checks n vs = checks_of format n vs

-- beside them, the body's end, then the Hpai's offsets
abbrev pub offsets : ℕ → List ℕ
offsets n = offsets_of format n

abbrev pub told : Result ConnectResponse Fault → Told
told (Ok c) = done (values c)
told (Err e) = refused 13 e

abbrev pub parse_by01 : List ℕ → Told
parse_by01 s = read_by01 format s

-- and where: an Hpai whose length byte is not 8 is 2 at 2
abbrev pub parse_where : List ℕ → Told
parse_where s = found_in format s (parse_by01 s)

-- the two arrays have four bytes each, as the types say
pub record Arrays (c : ConnectResponse) : Type 0 where
  pub address_4 : length c.data_endpoint.ip_address ≡ 4
  pub crd_4 : length c.crd ≡ 4

-- what the checks say, at their offsets
abbrev pub StandsPromise : List ℕ → Standing → Type 0
StandsPromise s r = r ≡ standing (checks (length s) (get fields 0 s)) (offsets (length s))

-- the fields are the body's values
abbrev pub ReadPromise : List ℕ → ConnectResponse → Type 0
ReadPromise s c = (values c ≡ get fields 0 s) × Arrays c

abbrev pub ParsePromise : List ℕ → Result ConnectResponse Fault → Type 0
ParsePromise s r = (told r ≡ parse_where s) × IfOk r Arrays

abbrev pub IsOkPromise : ConnectResponse → Bool → Type 0
IsOkPromise c r = r ≡ eqb c.status 0

-- ---- KNX's own form, 03_08_02: a response that refuses has no endpoint and no data, and ends behind its status. `00 24` is "no more connections"

abbrev pub status_in : List ℕ → ℕ
status_in vs = get_or vs 1 0

-- of a body of n bytes with these values: fewer than 2 (1); with status 0 then 01's, with another nothing more
abbrev pub knx_checks : ℕ → List ℕ → List Check
knx_checks n vs = ltb n 2 ⇒ BufferTooSmall ∷ cond (eqb (status_in vs) 0) (checks n vs) []

abbrev pub knx_offsets : ℕ → List ℕ → List ℕ
knx_offsets n vs = n ∷ cond (eqb (status_in vs) 0) (offsets n) []

-- channel and status alone, and zeros
abbrev pub bare : ℕ → ℕ → List ℕ
bare channel status = channel ∷ status ∷ replicate 11 0

abbrev pub knx_values : List ℕ → List ℕ
knx_values vs = cond (eqb (status_in vs) 0) vs (bare (get_or vs 0 0) (status_in vs))

abbrev pub parse_by_knx : List ℕ → Told
parse_by_knx s = judged (knx_checks (length s) (get fields 0 s)) (done (knx_values (get fields 0 s)))

abbrev pub parse_standard_where : List ℕ → Told
parse_standard_where s = located (knx_checks (length s) (get fields 0 s)) (knx_offsets (length s) (get fields 0 s)) (parse_by_knx s)

abbrev pub ParseStandardPromise : List ℕ → Result ConnectResponse Fault → Type 0
ParseStandardPromise s r = (told r ≡ parse_standard_where s) × IfOk r Arrays

abbrev pub BarePromise : ℕ → ℕ → ConnectResponse → Type 0
BarePromise channel status r = (values r ≡ bare channel status) × Arrays r

-- ---- our own individual address: the last two bytes of the connection response data. `04 04 11 05` is 1.1.5

abbrev pub IndividualAddressPromise : ConnectResponse → IndividualAddress → Type 0
IndividualAddressPromise c r = r ≡ record { 0 = word_at c.crd 2 }

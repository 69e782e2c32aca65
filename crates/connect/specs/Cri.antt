-- 01, "`ConnectionRequestInfo`": 4, type, layer, 0; fewer than 4 (1), length byte not 4 (2). Assumes nothing.
use Rattle.std.specs.Prelude.{ℕ, ◌≡◌, refl, List, [], ◌∷◌, length, get_or, Result, Ok, Err}
use Rattle.wire.specs.Told.{Told, done, refused, Check, ◌⇒◌, differs}
use Rattle.wire.specs.Writing.{Writes, room}
use Rattle.wire.specs.Layout.{Field, byte, size, put}
use Rattle.wire.specs.Format.{Format, checks_of, found_in, read_by01}
use Rattle.wire.specs.declared.refusals.Refusal.TheVariants.{InvalidFrame}
use Rattle.connect.specs.declared.cri.ConnectionRequestInfo.{ConnectionRequestInfo}
use Rattle.wire.specs.declared.refusals.Fault.{Fault}
use Rattle.wire.specs.declared.refusals.Refusal.{Refusal}

-- length, type, layer, reserved
abbrev pub fields : List Field
fields = byte ∷ byte ∷ byte ∷ byte ∷ []

abbrev pub values : ConnectionRequestInfo → List ℕ
values c = 4 ∷ c.connection_type ∷ c.knx_layer ∷ 0 ∷ []

abbrev pub layout : ConnectionRequestInfo → List ℕ
layout c = put fields (values c)

abbrev pub length_in : List ℕ → ℕ
length_in vs = get_or vs 0 0

abbrev pub type_in : List ℕ → ℕ
type_in vs = get_or vs 1 0

abbrev pub layer_in : List ℕ → ℕ
layer_in vs = get_or vs 2 0

-- what a record holds of the four values: the last is not looked at
abbrev pub values_in : List ℕ → List ℕ
values_in vs = type_in vs ∷ layer_in vs ∷ []

-- length byte not 4 (2)
abbrev pub format : Format
format = record {
  fields = fields;
  asks = λ vs. differs (length_in vs) (size fields) ⇒ InvalidFrame ∷ [];
  asked_at = 0 ∷ [];
  each = λ vs. refl;
  values_in = values_in;
}

-- of an input of n bytes with these values: fewer than 4 (1), then that
abbrev pub checks : ℕ → List ℕ → List Check
checks n vs = checks_of format n vs

abbrev pub told : Result ConnectionRequestInfo Fault → Told
told (Ok c) = done (c.connection_type ∷ c.knx_layer ∷ [])
told (Err e) = refused 2 e

abbrev pub decode_by01 : List ℕ → Told
decode_by01 s = read_by01 format s

-- and where: at the input's end, or at the length byte
abbrev pub decode_where : List ℕ → Told
decode_where s = found_in format s (decode_by01 s)

abbrev pub DecodePromise : List ℕ → Result ConnectionRequestInfo Fault → Type 0
DecodePromise s r = told r ≡ decode_where s

-- a tunnel (4) on the link layer (2)
abbrev pub tunnel : ConnectionRequestInfo
tunnel = record { connection_type = 4; knx_layer = 2 }

abbrev pub TunnelLinkLayerPromise : ConnectionRequestInfo → Type 0
TunnelLinkLayerPromise r = r ≡ tunnel

abbrev pub encode_checks : ℕ → List Check
encode_checks m = room (size fields) m ∷ []

abbrev pub EncodePromise : ConnectionRequestInfo → List ℕ → Result ℕ Refusal → List ℕ → Type 0
EncodePromise c b r after = Writes (encode_checks (length b)) (layout c) b r after

abbrev pub ToBytesPromise : ConnectionRequestInfo → List ℕ → Type 0
ToBytesPromise c r = r ≡ layout c

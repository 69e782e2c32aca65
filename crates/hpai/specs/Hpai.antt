-- 01, "`Hpai`": 8 bytes: length, protocol, address (4), port. Assumes nothing.
use Rattle.std.specs.Prelude.{ℕ, ◌≡◌, refl, List, [], ◌∷◌, ◌++◌, length, get_or, Result, Ok, Err}
use Rattle.wire.specs.Told.{Told, done, refused, Check, ◌⇒◌, differs}
use Rattle.wire.specs.Writing.{Writes, room}
use Rattle.wire.specs.Layout.{Field, byte, word, run, size, put}
use Rattle.wire.specs.Format.{Format, checks_of, offsets_of, found_in, read_by01}
use Rattle.wire.specs.declared.refusals.Fault.{Fault}
use Rattle.wire.specs.declared.refusals.Refusal.TheVariants.{InvalidFrame}
use Rattle.constants.specs.Constants.{ipv4_udp}
use Rattle.hpai.specs.declared.Hpai.{Hpai}
use Rattle.wire.specs.declared.refusals.Refusal.{Refusal}

-- length, protocol, address (4), port
abbrev pub fields : List Field
fields = byte ∷ byte ∷ run 4 ∷ word ∷ []

abbrev pub values : Hpai → List ℕ
values h = h.structure_length ∷ h.host_protocol ∷ (h.ip_address ++ h.port ∷ [])

abbrev pub layout : Hpai → List ℕ
layout h = put fields (values h)

-- the layout, which has eight bytes since an address has four
abbrev pub ToBytesPromise : Hpai → List ℕ → Type 0
ToBytesPromise h r = (r ≡ layout h) × (length r ≡ size fields)

abbrev pub length_in : List ℕ → ℕ
length_in vs = get_or vs 0 0

-- length byte not 8 (2); the protocol byte is not checked
abbrev pub format : Format
format = record {
  fields = fields;
  asks = λ vs. differs (length_in vs) (size fields) ⇒ InvalidFrame ∷ [];
  asked_at = 0 ∷ [];
  each = λ vs. refl;
  values_in = λ vs. vs;
}

-- of an input of n bytes with these values: fewer than 8 (1), then that
abbrev pub checks : ℕ → List ℕ → List Check
checks n vs = checks_of format n vs

-- beside them, the input's end, then the length byte's offset
abbrev pub offsets : ℕ → List ℕ
offsets n = offsets_of format n

abbrev pub told : Result Hpai Fault → Told
told (Ok h) = done (values h)
told (Err e) = refused 7 e

abbrev pub parse_by01 : List ℕ → Told
parse_by01 s = read_by01 format s

-- and where
abbrev pub parse_where : List ℕ → Told
parse_where s = found_in format s (parse_by01 s)

abbrev pub ParsePromise : List ℕ → Result Hpai Fault → Type 0
ParsePromise s r = told r ≡ parse_where s

-- for IPv4 over UDP
abbrev pub NewPromise : List ℕ → ℕ → Hpai → Type 0
NewPromise ip port r = r ≡ record { structure_length = size fields; host_protocol = ipv4_udp; ip_address = ip; port = port }

-- a buffer below 8 (1); the fields are written as they are
abbrev pub encode_checks : ℕ → List Check
encode_checks m = room (size fields) m ∷ []

abbrev pub EncodePromise : Hpai → List ℕ → Result ℕ Refusal → List ℕ → Type 0
EncodePromise h b r after = Writes (encode_checks (length b)) (layout h) b r after

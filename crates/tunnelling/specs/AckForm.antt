-- What an acknowledgement is on the wire, as one record of definitions, with its two instances: 01's, which is the crate's, and KNX's own (03_08_04). What does not depend on them is proved over any such record. Assumes nothing.
use Rattle.std.specs.Prelude.{ℕ, ◌+◌, ◌≡◌, refl, List, [], ◌∷◌, ◌++◌, length, get_or, Result}
use Rattle.wire.specs.Told.{Told, Check}
use Rattle.wire.specs.Writing.{Writes, room}
use Rattle.wire.specs.Layout.{Field, size, put}
use Rattle.wire.specs.Format.{Format, checks_of, offsets_of, read_where}
use Rattle.constants.specs.Constants.{header_size}
use Rattle.constants.specs.declared.services.ServiceType.TheVariants.{TunnellingAck}
use Rattle.frame.specs.Write.{frame}
use Rattle.tunnelling.specs.Connection as Connection
use Rattle.tunnelling.specs.Ack as TunnelingAck
use Rattle.tunnelling.specs.declared.form.Form.{Form}
use Rattle.tunnelling.specs.declared.form.Form.TheVariants.{Crate, Standard}
use Rattle.tunnelling.specs.declared.ack.TunnelingAck.{TunnelingAck}
use Rattle.wire.specs.declared.refusals.Fault.{Fault}
use Rattle.wire.specs.declared.refusals.Refusal.{Refusal}

pub record AckForm : Type 0 where
  -- the fields of its body
  pub fields : List Field
  -- their values, by the length byte and the byte behind the number, which has no say where it is the status
  pub values_with : ℕ → ℕ → TunnelingAck → List ℕ
  -- where the status stands
  pub status_at : ℕ

-- the status behind the connection header: `04 15 07 00 2A` is channel 0x15, number 7, status 0x2A
abbrev pub crate_form : AckForm
crate_form = record {
  fields = TunnelingAck.fields;
  values_with = λ long reserved a. long ∷ a.connection_header.channel_id ∷ a.connection_header.sequence_counter ∷ reserved ∷ a.status ∷ [];
  status_at = 4;
}

-- the status is the connection header's fourth byte: the same is `04 15 07 2A`
abbrev pub standard_form : AckForm
standard_form = record {
  fields = Connection.fields;
  values_with = λ long reserved a. long ∷ a.connection_header.channel_id ∷ a.connection_header.sequence_counter ∷ a.status ∷ [];
  status_at = 3;
}

-- the form that a call is given
abbrev pub form_by : Form → AckForm
form_by Crate = crate_form
form_by Standard = standard_form

module _ (F : AckForm) where
  -- as it is written: the length byte is 4, a reserved byte 0
  abbrev pub values : TunnelingAck → List ℕ
  values a = F.values_with 4 0 a

  abbrev pub layout : TunnelingAck → List ℕ
  layout a = put F.fields (values a)

  abbrev pub body_size : ℕ
  body_size = size F.fields

  -- a buffer shorter than header and body (1): 11 bytes in the crate's form, 10 in KNX's
  abbrev pub build_checks : ℕ → List Check
  build_checks m = room (header_size + body_size) m ∷ []

  -- channel, sequence and status
  abbrev pub values_in : List ℕ → List ℕ
  values_in vs = Connection.values_in vs ++ get_or vs F.status_at 0 ∷ []

  -- nothing is asked of the values
  abbrev pub format : Format
  format = record { fields = F.fields; asks = λ vs. []; asked_at = []; each = λ vs. refl; values_in = values_in }

  -- a body of fewer bytes than the form has (1), 5 in the crate's, 4 in KNX's; a longer one is accepted
  abbrev pub checks : ℕ → List Check
  checks n = checks_of format n []

  -- beside it, the body's end
  abbrev pub offsets : ℕ → List ℕ
  offsets n = offsets_of format n

  abbrev pub parsed : List ℕ → Told
  parsed s = read_where format s

abbrev pub BuildInPromise : Form → TunnelingAck → List ℕ → Result ℕ Refusal → List ℕ → Type 0
BuildInPromise f a b r after = Writes (build_checks (form_by f) (length b)) (frame TunnellingAck (layout (form_by f) a)) b r after

abbrev pub ParseInPromise : Form → List ℕ → Result TunnelingAck Fault → Type 0
ParseInPromise f s r = TunnelingAck.told r ≡ parsed (form_by f) s

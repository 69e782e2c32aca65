-- 01, "Datagram": frame refusals, then 12 unless the service is 0x0420 or 0x0421, then body refusals. Reserved bytes and the connection header's length byte are not looked at. An acknowledgement is read in the form that is given; 01's is the crate's. Assumes nothing.
use Rattle.std.specs.Prelude.{ℕ, ◌+◌, ◌≡◌, cond, List, [], ◌∷◌, length, get_or, eqb, Ok, Err, Result}
use Rattle.wire.specs.Told.{Told, done, refused, Check}
use Rattle.wire.specs.Places.{standing, later}
use Rattle.wire.specs.Layout.{get}
use Rattle.wire.specs.Parts.{part_of}
use Rattle.wire.specs.declared.refusals.Fault.{Fault}
use Rattle.wire.specs.declared.refusals.Refusal.TheVariants.{NotForTunnels}
use Rattle.wire.specs.Places.{Standing}
use Rattle.constants.specs.Constants.{header_size}
use Rattle.constants.specs.Services.{code_of}
use Rattle.constants.specs.declared.services.ServiceType.TheVariants.{TunnellingRequest, TunnellingAck}
use Rattle.header.specs.Header.{fields, service_in, total_in}
use Rattle.frame.specs.Frame as Frame
use Rattle.tunnelling.specs.Connection as Connection
use Rattle.tunnelling.specs.Request as TunnelingRequest
use Rattle.tunnelling.specs.AckForm.{form_by}
use Rattle.tunnelling.specs.AckForm as AckForm
use Rattle.tunnelling.specs.declared.form.Form.{Form}
use Rattle.tunnelling.specs.declared.form.Form.TheVariants.{Crate}
use Rattle.tunnel_datagram.specs.declared.hearing.Heard.{Heard}
use Rattle.tunnel_datagram.specs.declared.hearing.Heard.TheVariants.{Request, Ack}

-- the cEMI frame of a request stands behind the header and what its body has before it: at 10 of the datagram
abbrev pub cemi_start : ℕ
cemi_start = header_size + TunnelingRequest.cemi_at

-- the channel stands behind the header and the length byte: at 7
abbrev pub channel_offset : ℕ
channel_offset = header_size + 1

-- what is heard: 1 for a request, with the view of its cEMI, 2 for an acknowledgement; channel, number, status
abbrev pub told : Result Heard Fault → Told
told (Ok (Request channel n end)) = record { number = 0; values = 1 ∷ channel ∷ n ∷ 0 ∷ []; start = cemi_start; end = end; offset = 0 }
told (Ok (Ack channel n status)) = done (2 ∷ channel ∷ n ∷ status ∷ [])
told (Err e) = refused 4 e

abbrev pub heard_or : Standing → Result Heard Fault → Result Heard Fault
heard_or (Ok _) h = h
heard_or (Err f) h = Err f

-- of what a connection header holds: channel, then number
abbrev pub channel_in : List ℕ → ℕ
channel_in values_in = get_or values_in 0 0

abbrev pub number_in : List ℕ → ℕ
number_in values_in = get_or values_in 1 0

abbrev pub request_of : List ℕ → ℕ → Result Heard Fault
request_of values_in end = Ok (Request (channel_in values_in) (number_in values_in) end)

abbrev pub ack_of : List ℕ → Result Heard Fault
ack_of values_in = Ok (Ack (channel_in values_in) (number_in values_in) (get_or values_in 2 0))

-- what the checks of a body say, which stands behind the header: one that is too short is told at the total length, `06 10 04 20 00 06 FF` at 6
abbrev pub in_body : List Check → List ℕ → Standing
in_body cs os = later header_size (standing cs os)

-- a request's body needs 4 bytes, an acknowledgement's 5 in the crate's form and 4 in KNX's
abbrev pub request_in : List ℕ → ℕ → Result Heard Fault
request_in body end = heard_or (in_body (Connection.checks (length body)) (Connection.offsets (length body))) (request_of (Connection.values_in (get Connection.fields 0 body)) end)

abbrev pub ack_in : Form → List ℕ → Result Heard Fault
ack_in f body =
    heard_or (in_body (AckForm.checks (form_by f) (length body)) (AckForm.offsets (form_by f) (length body))) (ack_of (AckForm.values_in (form_by f) (get (form_by f).fields 0 body)))

-- another service (12), told at its offset
abbrev pub not_for_tunnels : Fault
not_for_tunnels = record { why = NotForTunnels; at = 2 }

-- in an accepted frame of this service, total length and body
abbrev pub in_frame : Form → ℕ → ℕ → List ℕ → Result Heard Fault
in_frame f service total body =
    cond (eqb service (code_of TunnellingRequest)) (request_in body total)
    (cond (eqb service (code_of TunnellingAck)) (ack_in f body) (Err not_for_tunnels))

abbrev pub heard_in : Form → List ℕ → Result Heard Fault
heard_in f s =
    heard_or (standing (Frame.checks (length s) (get fields 0 s)) (Frame.offsets (length s)))
    (in_frame f (service_in (get fields 0 s)) (total_in (get fields 0 s)) (part_of s 6 (total_in (get fields 0 s))))

abbrev pub HearInPromise : Form → List ℕ → Result Heard Fault → Type 0
HearInPromise f s r = told r ≡ told (heard_in f s)

abbrev pub heard_by01 : List ℕ → Result Heard Fault
heard_by01 s = heard_in Crate s

abbrev pub HearPromise : List ℕ → Result Heard Fault → Type 0
HearPromise s r = told r ≡ told (heard_by01 s)

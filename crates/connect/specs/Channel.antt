-- Connection state and disconnect: requests of 16 bytes, a shorter buffer is 1; responses need 2 bytes. Each shape is said once. Behind 01's, what a host needs where the gateway is the one to disconnect. Assumes nothing.
use Rattle.std.specs.Prelude.{ℕ, ◌≡◌, refl, Bool, List, [], ◌∷◌, ◌++◌, length, get_or, drop, eqb, Result, Ok, Err}
use Rattle.wire.specs.Told.{Told, done, refused, Check}
use Rattle.wire.specs.Places.{moved}
use Rattle.wire.specs.Writing.{Writes, room}
use Rattle.wire.specs.Layout.{Field, byte, size, put}
use Rattle.wire.specs.Format.{Format, found_in, read_by01, read_where}
use Rattle.constants.specs.declared.services.ServiceType.{ServiceType}
use Rattle.frame.specs.Write.{frame}
use Rattle.hpai.specs.Hpai as Hpai
use Rattle.hpai.specs.declared.Hpai.{Hpai}
use Rattle.connect.specs.declared.channel.ConnectionStateRequest.{ConnectionStateRequest}
use Rattle.connect.specs.declared.channel.ConnectionStateResponse.{ConnectionStateResponse}
use Rattle.connect.specs.declared.channel.DisconnectRequest.{DisconnectRequest}
use Rattle.connect.specs.declared.channel.DisconnectResponse.{DisconnectResponse}
use Rattle.connect.specs.declared.channel.Status.{Status}
use Rattle.wire.specs.declared.refusals.Fault.{Fault}
use Rattle.wire.specs.declared.refusals.Refusal.{Refusal}

-- ---- requests: channel, a zero, the control endpoint

abbrev pub request_layout : ℕ → Hpai → List ℕ
request_layout channel h = put (byte ∷ byte ∷ []) (channel ∷ 0 ∷ []) ++ Hpai.layout h

-- a buffer shorter than 16 (1)
abbrev pub request_checks : ℕ → List Check
request_checks m = room 16 m ∷ []

abbrev pub RequestPromise : ServiceType → ℕ → Hpai → List ℕ → Result ℕ Refusal → List ℕ → Type 0
RequestPromise s channel h b r after = Writes (request_checks (length b)) (frame s (request_layout channel h)) b r after

abbrev pub StateNewPromise : ℕ → Hpai → ConnectionStateRequest → Type 0
StateNewPromise channel h r = r ≡ record { channel_id = channel; control_endpoint = h }

abbrev pub DisconnectNewPromise : ℕ → Hpai → DisconnectRequest → Type 0
DisconnectNewPromise channel h r = r ≡ record { channel_id = channel; control_endpoint = h }

abbrev pub StateBuildPromise : ConnectionStateRequest → List ℕ → Result ℕ Refusal → List ℕ → Type 0
StateBuildPromise q b r after = RequestPromise ServiceType.ConnectionstateRequest q.channel_id q.control_endpoint b r after

abbrev pub DisconnectBuildPromise : DisconnectRequest → List ℕ → Result ℕ Refusal → List ℕ → Type 0
DisconnectBuildPromise q b r after = RequestPromise ServiceType.DisconnectRequest q.channel_id q.control_endpoint b r after

-- ---- responses: channel, status

abbrev pub status_fields : List Field
status_fields = byte ∷ byte ∷ []

-- fewer than 2 (1); nothing is asked of the values
abbrev pub status_format : Format
status_format = record { fields = status_fields; asks = λ vs. []; asked_at = []; each = λ vs. refl; values_in = λ vs. vs }

abbrev pub status_by01 : List ℕ → Told
status_by01 s = read_by01 status_format s

-- and where: at the body's end
abbrev pub status_where : List ℕ → Told
status_where s = found_in status_format s (status_by01 s)

-- the two values
abbrev pub status : ℕ → ℕ → Told
status channel code = done (channel ∷ code ∷ [])

abbrev pub told_status : Result Status Fault → Told
told_status (Ok s) = status s.channel_id s.status
told_status (Err e) = refused 2 e

abbrev pub told_state : Result ConnectionStateResponse Fault → Told
told_state (Ok s) = status s.channel_id s.status
told_state (Err e) = refused 2 e

abbrev pub told_disconnect : Result DisconnectResponse Fault → Told
told_disconnect (Ok s) = status s.channel_id s.status
told_disconnect (Err e) = refused 2 e

abbrev pub StatusPromise : List ℕ → Result Status Fault → Type 0
StatusPromise s r = told_status r ≡ status_where s

abbrev pub StateParsePromise : List ℕ → Result ConnectionStateResponse Fault → Type 0
StateParsePromise s r = told_state r ≡ status_where s

abbrev pub DisconnectParsePromise : List ℕ → Result DisconnectResponse Fault → Type 0
DisconnectParsePromise s r = told_disconnect r ≡ status_where s

-- status 0
abbrev pub StateIsOkPromise : ConnectionStateResponse → Bool → Type 0
StateIsOkPromise c r = r ≡ eqb c.status 0

abbrev pub DisconnectIsOkPromise : DisconnectResponse → Bool → Type 0
DisconnectIsOkPromise c r = r ≡ eqb c.status 0

-- ---- a disconnect request that came in, 03_08_02: channel, a reserved byte, the gateway's control endpoint

abbrev pub request_fields : List Field
request_fields = byte ∷ byte ∷ Hpai.fields

-- fewer than 10 (1), then the checks of the Hpai, which starts at 2; the reserved byte is not looked at
abbrev pub request_format : Format
request_format = record {
  fields = request_fields;
  asks = λ vs. Hpai.checks (size Hpai.fields) (drop 2 vs);
  asked_at = moved 2 (Hpai.offsets (size Hpai.fields));
  each = λ vs. refl;
  values_in = λ vs. get_or vs 0 0 ∷ drop 2 vs;
}

abbrev pub told_request : Result DisconnectRequest Fault → Told
told_request (Ok q) = done (q.channel_id ∷ Hpai.values q.control_endpoint)
told_request (Err e) = refused 8 e

abbrev pub DisconnectRequestParsePromise : List ℕ → Result DisconnectRequest Fault → Type 0
DisconnectRequestParsePromise s r = told_request r ≡ read_where request_format s

-- ---- the response that it is owed: 8 bytes, a shorter buffer is 1. `06 10 02 0A 00 08 15 00` is channel 0x15, status 0

abbrev pub DisconnectResponseNewPromise : ℕ → ℕ → DisconnectResponse → Type 0
DisconnectResponseNewPromise channel code r = r ≡ record { channel_id = channel; status = code }

abbrev pub status_layout : ℕ → ℕ → List ℕ
status_layout channel code = put status_fields (channel ∷ code ∷ [])

abbrev pub response_checks : ℕ → List Check
response_checks m = room 8 m ∷ []

abbrev pub DisconnectResponseBuildPromise : DisconnectResponse → List ℕ → Result ℕ Refusal → List ℕ → Type 0
DisconnectResponseBuildPromise q b r after = Writes (response_checks (length b)) (frame ServiceType.DisconnectResponse (status_layout q.channel_id q.status)) b r after

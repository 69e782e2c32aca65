-- What the border's readers promise, over the rules of the crates below: a frame, an Hpai, a connect response. Assumes nothing.
use Rattle.std.specs.Prelude.{ℕ, ◌≡◌, List, [], ◌∷◌, length, Result}
use Rattle.wire.specs.Told.{Told, judged}
use Rattle.wire.specs.Places.{located}
use Rattle.wire.specs.Layout.{get}
use Rattle.header.specs.Header.{fields, service_in, total_in}
use Rattle.frame.specs.Frame as Frame
use Rattle.hpai.specs.Hpai as Hpai
use Rattle.hpai.specs.declared.Hpai.{Hpai}
use Rattle.connect.specs.Response as ConnectResponse
use Rattle.connect.specs.declared.response.ConnectResponse.{ConnectResponse}
use Rattle.knx.specs.declared.reading.KnxFrame.{KnxFrame}
use Rattle.knx.specs.declared.reading.KnxHpai.{KnxHpai}
use Rattle.knx.specs.declared.reading.KnxConnectResponse.{KnxConnectResponse}
use Rattle.wire.specs.declared.refusals.Fault.{Fault}

abbrev pub told_frame : KnxFrame → Told
told_frame r = record { number = r.number; values = r.service ∷ r.total ∷ []; start = r.start; end = r.end; offset = r.offset }

-- service and total length, and the body, which runs from offset 6 to the total length
abbrev pub frame_in : List ℕ → Told
frame_in vs = record { number = 0; values = service_in vs ∷ total_in vs ∷ []; start = 6; end = total_in vs; offset = 0 }

-- once the frame's checks hold
abbrev pub frame_by01 : List ℕ → Told
frame_by01 s = judged (Frame.checks (length s) (get fields 0 s)) (frame_in (get fields 0 s))

abbrev pub frame_where : List ℕ → Told
frame_where s = located (Frame.checks (length s) (get fields 0 s)) (Frame.offsets (length s)) (frame_by01 s)

abbrev pub FramePromise : List ℕ → KnxFrame → Type 0
FramePromise s r = told_frame r ≡ frame_where s

-- the Hpai that has these numbers
abbrev pub hpai_in : KnxHpai → Hpai
hpai_in r = record { structure_length = r.structure_length; host_protocol = r.host_protocol; ip_address = r.address; port = r.port }

abbrev pub told_hpai : KnxHpai → Told
told_hpai r = record { number = r.number; values = Hpai.values (hpai_in r); start = 0; end = 0; offset = r.offset }

-- what `Hpai::parse` tells
abbrev pub HpaiPromise : List ℕ → KnxHpai → Type 0
HpaiPromise s r = told_hpai r ≡ Hpai.parse_where s

-- the connect response that has these numbers
abbrev pub response_in : KnxConnectResponse → ConnectResponse
response_in r = record {
  channel_id = r.channel;
  status = r.status;
  data_endpoint = record { structure_length = r.structure_length; host_protocol = r.host_protocol; ip_address = r.address; port = r.port };
  crd = r.crd;
}

abbrev pub told_response : KnxConnectResponse → Told
told_response r = record { number = r.number; values = ConnectResponse.values (response_in r); start = 0; end = 0; offset = r.offset }

-- what `ConnectResponse::parse` tells, and both arrays have four bytes
abbrev pub ConnectResponsePromise : List ℕ → KnxConnectResponse → Type 0
ConnectResponsePromise s r = (told_response r ≡ ConnectResponse.parse_where s) × ConnectResponse.Arrays (response_in r)

-- in KNX's own form
abbrev pub ConnectResponseStandardPromise : List ℕ → KnxConnectResponse → Type 0
ConnectResponseStandardPromise s r = (told_response r ≡ ConnectResponse.parse_standard_where s) × ConnectResponse.Arrays (response_in r)

-- our own individual address, in the connection response data
abbrev pub OwnAddressPromise : KnxConnectResponse → ℕ → Type 0
OwnAddressPromise c r = ConnectResponse.IndividualAddressPromise (response_in c) (record { 0 = r })

-- ---- the code's part

abbrev pub ResponsePromise : Result ConnectResponse Fault → KnxConnectResponse → Type 0
ResponsePromise a r = (told_response r ≡ ConnectResponse.told a) × ConnectResponse.Arrays (response_in r)

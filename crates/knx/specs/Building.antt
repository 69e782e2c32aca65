-- What the border's builders promise: the promise of the builder below, whose answer is told in numbers. Assumes nothing.
use Rattle.std.specs.Prelude.{ℕ, ◌≡◌, List, [], ◌∷◌, Result}
use Rattle.wire.specs.Told.{Told}
use Rattle.wire.specs.Layout.{size}
use Rattle.wire.specs.Writing as Writing
use Rattle.constants.specs.Constants.{ipv4_udp}
use Rattle.pci.specs.Transport.{kind_of, sequence_of}
use Rattle.pci.specs.PciLaws.{tpci_of}
use Rattle.ldata.specs.Builder as LDataBuilder
use Rattle.ldata.specs.declared.count.Counting.{Counting}
use Rattle.ldata.specs.declared.count.Counting.TheVariants.{Standard}
use Rattle.ldata.specs.declared.builder.LDataBuilder.{LDataBuilder}
use Rattle.hpai.specs.Hpai as Hpai
use Rattle.hpai.specs.declared.Hpai.{Hpai}
use Rattle.connect.specs.Cri as Cri
use Rattle.connect.specs.Request as ConnectRequest
use Rattle.connect.specs.Channel as Channel
use Rattle.connect.specs.declared.request.ConnectRequest.{ConnectRequest}
use Rattle.connect.specs.declared.channel.ConnectionStateRequest.{ConnectionStateRequest}
use Rattle.connect.specs.declared.channel.DisconnectRequest.{DisconnectRequest}
use Rattle.connect.specs.declared.channel.DisconnectResponse.{DisconnectResponse}
use Rattle.tunnelling.specs.Request as TunnelingRequest
use Rattle.tunnelling.specs.Ack as TunnelingAck
use Rattle.tunnelling.specs.AckForm as AckForm
use Rattle.tunnelling.specs.declared.form.Form.{Form}
use Rattle.tunnelling.specs.declared.request.TunnelingRequest.{TunnelingRequest}
use Rattle.tunnelling.specs.declared.ack.TunnelingAck.{TunnelingAck}
use Rattle.knx.specs.declared.building.KnxWritten.{KnxWritten}
use Rattle.knx.specs.declared.building.KnxEndpoint.{KnxEndpoint}
use Rattle.wire.specs.declared.refusals.Refusal.{Refusal}

abbrev pub told : KnxWritten → Told
told r = record { number = r.number; values = r.count ∷ []; start = 0; end = 0; offset = r.offset }

abbrev pub WrittenPromise : Result ℕ Refusal → KnxWritten → Type 0
WrittenPromise w r = told r ≡ Writing.told w

-- r tells what an answer tells that, with the buffer afterwards, keeps the builder's promise P
pub record Tells (P : Result ℕ Refusal → List ℕ → Type 0) (r : KnxWritten) (after : List ℕ) : Type 0 where
  pub answer : Result ℕ Refusal
  pub keeps : P answer after
  pub tells : WrittenPromise answer r

-- the builder of these numbers: the TPCI is the packet of its byte
abbrev pub builder_of : ℕ → ℕ → ℕ → ℕ → ℕ → ℕ → ℕ → LDataBuilder
builder_of control_1 control-2 source destination tpci code six = record {
  ctrl1 = record { raw = control_1 };
  ctrl2 = record { raw = control-2 };
  source = record { 0 = source };
  destination_raw = destination;
  tpci = tpci_of (kind_of tpci ∷ sequence_of tpci ∷ []);
  apci_code = code;
  six_bit = six;
}

abbrev pub LDataBuildPromise : ℕ → ℕ → ℕ → ℕ → ℕ → ℕ → ℕ → List ℕ → List ℕ → KnxWritten → List ℕ → Type 0
LDataBuildPromise control_1 control-2 source destination tpci code six «data» b r after =
    Tells (LDataBuilder.BuildPromise (builder_of control_1 control-2 source destination tpci code six) «data» b) r after

-- the same in the count that is given
abbrev pub LDataBuildInPromise : Counting → ℕ → ℕ → ℕ → ℕ → ℕ → ℕ → ℕ → List ℕ → List ℕ → KnxWritten → List ℕ → Type 0
LDataBuildInPromise c control_1 control-2 source destination tpci code six «data» b r after =
    Tells (LDataBuilder.BuildInPromise c (builder_of control_1 control-2 source destination tpci code six) «data» b) r after

abbrev pub LDataBuildStandardPromise : ℕ → ℕ → ℕ → ℕ → ℕ → ℕ → ℕ → List ℕ → List ℕ → KnxWritten → List ℕ → Type 0
LDataBuildStandardPromise control_1 control-2 source destination tpci code six «data» b r after =
    LDataBuildInPromise Standard control_1 control-2 source destination tpci code six «data» b r after

-- an endpoint for IPv4 over UDP
abbrev pub endpoint_of : KnxEndpoint → Hpai
endpoint_of e = record {
  structure_length = size Hpai.fields;
  host_protocol = ipv4_udp;
  ip_address = e.address;
  port = e.port;
}

-- the records of these numbers: a connect request asks for a tunnel on the link layer
abbrev pub connect_of : KnxEndpoint → KnxEndpoint → ConnectRequest
connect_of control other = record { control_endpoint = endpoint_of control; data_endpoint = endpoint_of other; cri = Cri.tunnel }

abbrev pub state_of : ℕ → KnxEndpoint → ConnectionStateRequest
state_of channel control = record { channel_id = channel; control_endpoint = endpoint_of control }

abbrev pub disconnect_of : ℕ → KnxEndpoint → DisconnectRequest
disconnect_of channel control = record { channel_id = channel; control_endpoint = endpoint_of control }

abbrev pub request_of : ℕ → ℕ → TunnelingRequest
request_of channel sequence = record { connection_header = record { channel_id = channel; sequence_counter = sequence } }

abbrev pub ack_of : ℕ → ℕ → ℕ → TunnelingAck
ack_of channel sequence status = record { connection_header = record { channel_id = channel; sequence_counter = sequence }; status = status }

abbrev pub ConnectRequestPromise : KnxEndpoint → KnxEndpoint → List ℕ → KnxWritten → List ℕ → Type 0
ConnectRequestPromise control other b r after = Tells (ConnectRequest.BuildPromise (connect_of control other) b) r after

abbrev pub ConnectionStateRequestPromise : ℕ → KnxEndpoint → List ℕ → KnxWritten → List ℕ → Type 0
ConnectionStateRequestPromise channel control b r after = Tells (Channel.StateBuildPromise (state_of channel control) b) r after

abbrev pub DisconnectRequestPromise : ℕ → KnxEndpoint → List ℕ → KnxWritten → List ℕ → Type 0
DisconnectRequestPromise channel control b r after = Tells (Channel.DisconnectBuildPromise (disconnect_of channel control) b) r after

abbrev pub TunnelingRequestPromise : ℕ → ℕ → List ℕ → List ℕ → KnxWritten → List ℕ → Type 0
TunnelingRequestPromise channel sequence cemi b r after = Tells (TunnelingRequest.BuildPromise (request_of channel sequence) cemi b) r after

abbrev pub TunnelingAckPromise : ℕ → ℕ → ℕ → List ℕ → KnxWritten → List ℕ → Type 0
TunnelingAckPromise channel sequence status b r after = Tells (TunnelingAck.BuildPromise (ack_of channel sequence status) b) r after

-- the same in the form that is given
abbrev pub TunnelingAckInPromise : Form → ℕ → ℕ → ℕ → List ℕ → KnxWritten → List ℕ → Type 0
TunnelingAckInPromise f channel sequence status b r after = Tells (AckForm.BuildInPromise f (ack_of channel sequence status) b) r after

abbrev pub TunnelingAckStandardPromise : ℕ → ℕ → ℕ → List ℕ → KnxWritten → List ℕ → Type 0
TunnelingAckStandardPromise channel sequence status b r after = TunnelingAckInPromise Form.Standard channel sequence status b r after

abbrev pub response_of : ℕ → ℕ → DisconnectResponse
response_of channel status = record { channel_id = channel; status = status }

abbrev pub DisconnectResponseBuildPromise : ℕ → ℕ → List ℕ → KnxWritten → List ℕ → Type 0
DisconnectResponseBuildPromise channel status b r after = Tells (Channel.DisconnectResponseBuildPromise (response_of channel status) b) r after

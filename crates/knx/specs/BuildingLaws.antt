-- The border's builders: how a builder's answer is told, no second answer, and a refusal leaves the buffer. Assumes nothing.
use Rattle.std.specs.Prelude.{◌≡◌, refl, List, [], ◌∷◌, ◌++◌, ℕ, get_or, Result}
use Rattle.std.proofs.Common.{sym, ap, subst, ◌∙◌}
use Rattle.wire.specs.Told.{Told}
use Rattle.wire.specs.ToldLaws.{one_to_one}
use Rattle.wire.specs.Refusing.{Refusing, Leaves}
use Rattle.wire.specs.Writing as Writing
use Rattle.pci.specs.Transport as Transport
use Rattle.pci.specs.PciLaws.{tpci_of, tpci_back}
use Rattle.pci.specs.declared.transport.Tpci.{Tpci}
use Rattle.ldata.specs.Builder as LDataBuilder
use Rattle.ldata.specs.BuilderLaws as LDataBuilderLaws
use Rattle.ldata.specs.declared.count.Counting.{Counting}
use Rattle.ldata.specs.declared.builder.LDataBuilder.{LDataBuilder}
use Rattle.constants.specs.declared.services.ServiceType.TheVariants as ServiceType
use Rattle.connect.specs.Request as ConnectRequest
use Rattle.connect.specs.RequestLaws as ConnectRequestLaws
use Rattle.connect.specs.Channel as Channel
use Rattle.connect.specs.ChannelLaws as ChannelLaws
use Rattle.tunnelling.specs.Request as TunnelingRequest
use Rattle.tunnelling.specs.RequestLaws as TunnelingRequestLaws
use Rattle.tunnelling.specs.AckForm as AckForm
use Rattle.tunnelling.specs.declared.form.Form.{Form}
use Rattle.tunnelling.specs.AckLaws as TunnelingAckLaws
use Rattle.knx.specs.Building.{told, WrittenPromise, Tells, builder_of, endpoint_of, connect_of, state_of, disconnect_of, request_of, ack_of, LDataBuildInPromise, ConnectRequestPromise, ConnectionStateRequestPromise, DisconnectRequestPromise, TunnelingRequestPromise, TunnelingAckInPromise, response_of, DisconnectResponseBuildPromise}
use Rattle.knx.specs.declared.building.KnxEndpoint.{KnxEndpoint}
use Rattle.knx.specs.declared.building.KnxWritten.{KnxWritten}
use Rattle.wire.specs.declared.refusals.Refusal.{Refusal}

-- a builder's answer, told: the builder q was made as told
pub as_told : {Q : Type 0} (P : Q → Result ℕ Refusal → List ℕ → Type 0) (made q : Q) (w : Result ℕ Refusal) (after : List ℕ) (r : KnxWritten)
    → made ≡ q → P made w after → WrittenPromise w r → Tells (P q) r after
as_told P made q w after r e k t = record { answer = w; keeps = subst (λ x. P x w after) e k; tells = t }

-- the packet that is read from a byte is the one with its kind and sequence
pub tpci_is : (byte : ℕ) (t : Tpci) → Transport.FromPromise byte t → t ≡ tpci_of (Transport.kind_of byte ∷ Transport.sequence_of byte ∷ [])
tpci_is byte t p = sym (tpci_back t []) ∙ ap (λ (vs : List ℕ). tpci_of (vs ++ [])) p

told_one : (r q : KnxWritten) → told r ≡ told q → r ≡ q
told_one = one_to_one told (λ t. record { count = get_or t.values 0 0; offset = t.offset; number = t.number }) (λ r. refl)

-- one answer, and one buffer afterwards
abbrev OneWritten : (KnxWritten → List ℕ → Type 0) → Type 0
OneWritten P = (r q : KnxWritten) (after later : List ℕ) → P r after → P q later → (r ≡ q) × (after ≡ later)

-- a builder's promise that has no second answer has none when it is told
pub tells_one : (P : Result ℕ Refusal → List ℕ → Type 0) → ((w v : Result ℕ Refusal) (after later : List ℕ) → P w after → P v later → (w ≡ v) × (after ≡ later)) → OneWritten (Tells P)
tells_one P one r q after later x y =
    let both = one x.answer y.answer after later x.keeps y.keeps in
    (told_one r q (x.tells ∙ ap Writing.told both.0 ∙ sym y.tells), both.1)

pub ldata_build_one : (c : Counting) (control_1 control-2 source destination tpci code six : ℕ) (d b : List ℕ)
    → OneWritten (LDataBuildInPromise c control_1 control-2 source destination tpci code six d b)
ldata_build_one c control_1 control-2 source destination tpci code six d b =
    let x : LDataBuilder = builder_of control_1 control-2 source destination tpci code six in
    tells_one (LDataBuilder.BuildInPromise c x d b) (LDataBuilderLaws.build_one c x d b)

pub connect_request_one : (control other : KnxEndpoint) (b : List ℕ) (r q : KnxWritten) (after later : List ℕ)
    → ConnectRequestPromise control other b r after → ConnectRequestPromise control other b q later → (r ≡ q) × (after ≡ later)
connect_request_one control other b = tells_one (ConnectRequest.BuildPromise (connect_of control other) b) (ConnectRequestLaws.build_one (connect_of control other) b)

pub connectionstate_request_one : (channel : ℕ) (control : KnxEndpoint) (b : List ℕ) (r q : KnxWritten) (after later : List ℕ)
    → ConnectionStateRequestPromise channel control b r after → ConnectionStateRequestPromise channel control b q later → (r ≡ q) × (after ≡ later)
connectionstate_request_one channel control b = tells_one (Channel.StateBuildPromise (state_of channel control) b) (ChannelLaws.request_one ServiceType.ConnectionstateRequest channel (endpoint_of control) b)

pub disconnect_request_one : (channel : ℕ) (control : KnxEndpoint) (b : List ℕ) (r q : KnxWritten) (after later : List ℕ)
    → DisconnectRequestPromise channel control b r after → DisconnectRequestPromise channel control b q later → (r ≡ q) × (after ≡ later)
disconnect_request_one channel control b = tells_one (Channel.DisconnectBuildPromise (disconnect_of channel control) b) (ChannelLaws.request_one ServiceType.DisconnectRequest channel (endpoint_of control) b)

pub tunneling_request_one : (channel sequence : ℕ) (cemi b : List ℕ) (r q : KnxWritten) (after later : List ℕ)
    → TunnelingRequestPromise channel sequence cemi b r after → TunnelingRequestPromise channel sequence cemi b q later → (r ≡ q) × (after ≡ later)
tunneling_request_one channel sequence cemi b = tells_one (TunnelingRequest.BuildPromise (request_of channel sequence) cemi b) (TunnelingRequestLaws.build_one (request_of channel sequence) cemi b)

pub tunneling_ack_one : (f : Form) (channel sequence status : ℕ) (b : List ℕ) → OneWritten (TunnelingAckInPromise f channel sequence status b)
tunneling_ack_one f channel sequence status b = tells_one (AckForm.BuildInPromise f (ack_of channel sequence status) b) (TunnelingAckLaws.build_in_one f (ack_of channel sequence status) b)

pub disconnect_response_one : (channel status : ℕ) (b : List ℕ) → OneWritten (DisconnectResponseBuildPromise channel status b)
disconnect_response_one channel status b = tells_one (Channel.DisconnectResponseBuildPromise (response_of channel status) b) (ChannelLaws.response_one (response_of channel status) b)

-- demand 1 of a builder is demand 1 of what is told
pub tells-refusing : (P : Result ℕ Refusal → List ℕ → Type 0) (b : List ℕ)
    → ((w : Result ℕ Refusal) (after : List ℕ) → P w after → Refusing (Writing.told w) × Leaves (Writing.told w) b after)
    → (r : KnxWritten) (after : List ℕ) → Tells P r after → Refusing (told r) × Leaves (told r) b after
tells-refusing P b law r after x = subst (λ (t : Told). Refusing t × Leaves t b after) (sym x.tells) (law x.answer after x.keeps)

-- "What a contract has to settle": no second answer. One theorem for each public function, under its name, over the promise that its `ensures` cites: two answers, or two answers with their lent slices, that meet the promise on the same inputs are equal. A part that is handed out is settled by its bytes.
use Rattle.std.specs.Prelude.{ℕ, ◌≡◌, List, ◌++◌, [], Bool, Option, None, Some, Result, Ok, Err}
use Rattle.wire.specs.Refusals.{NumberPromise}
use Rattle.wire.specs.Layout.{WordPromise, HighPromise, LowPromise, ByteAtPromise, WordAtPromise, CopyPromise}
use Rattle.wire.specs.Writing.{WritePromise, Write3Promise}
use Rattle.wire.specs.Parts.{PartPromise, ShownPromise}
use Rattle.wire.specs.ToldLaws.{same}
use Rattle.wire.specs.WritingLaws.{write_one}
use Rattle.wire.specs.PartLaws as PartLaws
use Rattle.constants.specs.Services as Services
use Rattle.constants.specs.ServiceLaws as ServiceLaws
use Rattle.constants.specs.MessageCodes as MessageCodes
use Rattle.constants.specs.MessageCodeLaws as MessageCodeLaws
use Rattle.constants.specs.Priorities as Priorities
use Rattle.constants.specs.PriorityLaws as PriorityLaws
use Rattle.address.specs.Address.{GroupFromPromise, GroupToPromise, IndividualFromPromise, IndividualToPromise}
use Rattle.constants.specs.declared.priorities.Priority.{Priority}
use Rattle.control.specs.First as First
use Rattle.control.specs.Second as Second
use Rattle.control.specs.FieldLaws as FieldLaws
use Rattle.control.specs.declared.first.ControlField1.{ControlField1}
use Rattle.control.specs.declared.second.ControlField2.{ControlField2}
use Rattle.pci.specs.Transport as Transport
use Rattle.pci.specs.Application as Application
use Rattle.pci.specs.PciLaws as PciLaws
use Rattle.ldata.specs.Count as Count
use Rattle.ldata.specs.LData as LData
use Rattle.ldata.specs.LDataLaws as LDataLaws
use Rattle.ldata.specs.Builder as LDataBuilder
use Rattle.ldata.specs.BuilderLaws as LDataBuilderLaws
use Rattle.ldata.specs.declared.count.Counting.{Counting}
use Rattle.ldata.specs.declared.count.Counting.TheVariants.{Crate, Standard}
use Rattle.additional_info.specs.InfoType as InfoType
use Rattle.additional_info.specs.Area as Area
use Rattle.additional_info.specs.AreaLaws as AreaLaws
use Rattle.additional_info.specs.Appending as Appending
use Rattle.additional_info.specs.AppendingLaws as AppendingLaws
use Rattle.cemi.specs.Cemi as Cemi
use Rattle.cemi.specs.CemiLaws as CemiLaws
use Rattle.cemi.specs.InfoLaws as CemiInfoLaws
use Rattle.header.specs.Header as Header
use Rattle.header.specs.HeaderLaws as HeaderLaws
use Rattle.frame.specs.Frame as Frame
use Rattle.frame.specs.FrameLaws as FrameLaws
use Rattle.frame.specs.Builder as FrameBuilder
use Rattle.frame.specs.Write as Write
use Rattle.hpai.specs.Hpai as Hpai
use Rattle.hpai.specs.HpaiLaws as HpaiLaws
use Rattle.frame.specs.WriteLaws as WriteLaws
use Rattle.constants.specs.declared.services.ServiceType.TheVariants as ServiceType
use Rattle.connect.specs.Cri as Cri
use Rattle.connect.specs.CriLaws as CriLaws
use Rattle.connect.specs.Request as ConnectRequest
use Rattle.connect.specs.RequestLaws as ConnectRequestLaws
use Rattle.connect.specs.Response as ConnectResponse
use Rattle.connect.specs.ResponseLaws as ConnectResponseLaws
use Rattle.connect.specs.Channel as Channel
use Rattle.connect.specs.ChannelLaws as ChannelLaws
use Rattle.connect.specs.declared.cri.ConnectionRequestInfo.{ConnectionRequestInfo}
use Rattle.tunnelling.specs.Connection as Connection
use Rattle.tunnelling.specs.ConnectionLaws as ConnectionLaws
use Rattle.tunnelling.specs.Request as TunnelingRequest
use Rattle.tunnelling.specs.RequestLaws as TunnelingRequestLaws
use Rattle.tunnelling.specs.Ack as TunnelingAck
use Rattle.tunnelling.specs.AckForm as AckForm
use Rattle.tunnelling.specs.declared.form.Form.{Form}
use Rattle.tunnelling.specs.AckLaws as TunnelingAckLaws
use Rattle.inspection.specs.Scanning as Scanning
use Rattle.inspection.specs.ScanningLaws as ScanningLaws
use Rattle.inspection.specs.declared.scanning.Spot.{Spot}
use Rattle.inspection.specs.declared.scanning.Scanned.{Scanned}
use Rattle.inspection.specs.Turns as Turns
use Rattle.inspection.specs.declared.turns.Progress.{Progress}
use Rattle.inspect_io.specs.Running as Running
use Rattle.borrowed.specs.KnxnetIpFrame as KnxnetIpFrame
use Rattle.borrowed.specs.KnxnetIpFrameLaws as KnxnetIpFrameLaws
use Rattle.borrowed.specs.LDataFrame as LDataFrame
use Rattle.borrowed.specs.LDataFrameLaws as LDataFrameLaws
use Rattle.borrowed.specs.declared.knxnet_ip_frame.KnxnetIpFrame.{KnxnetIpFrame}
use Rattle.borrowed.specs.declared.ldata_frame.LDataFrame.{LDataFrame}
use Rattle.tunnel_datagram.specs.Hearing as Hearing
use Rattle.tunnel_datagram.specs.HearingLaws as HearingLaws
use Rattle.tunnel.specs.Numbers as Numbers
use Rattle.tunnel.specs.Rules as Rules
use Rattle.tunnel.specs.declared.rules.Tunnel.{Tunnel}
use Rattle.tunnel_model.specs.Calls.{Call, Open, Close, Timeout, Send, Datagram, DatagramIn}
use Rattle.digits.specs.Digits as Digits
use Rattle.kip.specs.Capture as Capture
use Rattle.frame.specs.Judging as Judging
use Rattle.frame.specs.JudgingLaws as JudgingLaws
use Rattle.inspection.specs.Lines as InspectionLines
use Rattle.inspection.specs.LinesLaws as InspectionLinesLaws
use Rattle.variants.specs.Variants as Variants
use Rattle.replay.specs.Telling as Telling
use Rattle.replay.specs.Lines as ReplayLines
use Rattle.replay.specs.Laws as ReplayLaws
use Rattle.replay.specs.Records as Records
use Rattle.replay.specs.Telegrams as Telegrams
use Rattle.replay.specs.Running as Replaying
use Rattle.replay.specs.RunningLaws as ReplayingLaws
use Rattle.replay.specs.declared.records.Record.{Record}
use Rattle.replay.specs.declared.telling.Told.{Told}
use Rattle.replay.specs.declared.running.Stopped.{Stopped}
use Rattle.tunnel_datagram.specs.declared.hearing.Heard.{Heard}
use Rattle.tunnel_table.specs.Table.{EmptyPromise, CallPromise, heard_on, HeardPromise, heard_in_on, HeardInPromise}
use Rattle.tunnel_table.specs.Compiled as Compiled
use Rattle.tunnel_table.specs.declared.table.Table.{Table}
use Rattle.tunnel_table.specs.declared.table.Called.{Called}
use Rattle.tunnel_image.specs.Image as Image
use Rattle.tunnel_image.specs.ImageLaws as ImageLaws
use Rattle.knx.specs.Reading as KnxReading
use Rattle.knx.specs.ReadingLaws as KnxReadingLaws
use Rattle.knx.specs.Channel as KnxChannel
use Rattle.knx.specs.ChannelLaws as KnxChannelLaws
use Rattle.knx.specs.CemiLData as CemiLData
use Rattle.knx.specs.CemiLDataLaws as CemiLDataLaws
use Rattle.knx.specs.Building as Building
use Rattle.knx.specs.BuildingLaws as BuildingLaws
use Rattle.knx.specs.Info as KnxInfo
use Rattle.knx.specs.InfoLaws as KnxInfoLaws
use Rattle.knx.specs.Called as Called
use Rattle.knx.specs.CalledLaws as CalledLaws
use Rattle.knx.specs.declared.building.KnxWritten.{KnxWritten}
use Rattle.knx.specs.declared.called.KnxCalled.{KnxCalled}
use Rattle.wire.specs.declared.refusals.Fault.{Fault}

-- a promise over one, two or three inputs
abbrev pub One : {A R : Type 0} → (A → R → Type 0) → Type 0
One {A} {R} P = (a : A) (r q : R) → P a r → P a q → r ≡ q

abbrev pub One₂ : {A B R : Type 0} → (A → B → R → Type 0) → Type 0
One₂ {A} {B} {R} P = (a : A) → One (P a)

abbrev pub One₃ : {A B C R : Type 0} → (A → B → C → R → Type 0) → Type 0
One₃ {A} {B} {C} {R} P = (a : A) → One₂ (P a)

-- a promise over inputs and a lent slice, of the answer and the slice afterwards
abbrev pub Lent : {A R : Type 0} → (A → List ℕ → R → List ℕ → Type 0) → Type 0
Lent {A} {R} P = (a : A) (b : List ℕ) (r q : R) (after later : List ℕ) → P a b r after → P a b q later → (r ≡ q) × (after ≡ later)

abbrev pub Lent₂ : {A B R : Type 0} → (A → B → List ℕ → R → List ℕ → Type 0) → Type 0
Lent₂ {A} {B} {R} P = (a : A) → Lent (P a)

abbrev pub Lent₃ : {A B C R : Type 0} → (A → B → C → List ℕ → R → List ℕ → Type 0) → Type 0
Lent₃ {A} {B} {C} {R} P = (a : A) → Lent₂ (P a)

abbrev pub Lent₄ : {A B C D R : Type 0} → (A → B → C → D → List ℕ → R → List ℕ → Type 0) → Type 0
Lent₄ {A} {B} {C} {D} {R} P = (a : A) → Lent₃ (P a)

-- ---- wire

-- wire::Refusal::number
pub refusal-number : One NumberPromise
refusal-number e r q = same

-- wire::part
pub part : One₃ PartPromise
part s a e r q = same

-- wire::shown
pub shown_part : One₂ ShownPromise
shown_part s v r q = same

-- wire::word
pub word : One₂ WordPromise
word high low r q = same

-- wire::high
pub high : One HighPromise
high n r q = same

-- wire::low
pub low : One LowPromise
low n r q = same

-- wire::byte_at
pub byte_at : One₂ ByteAtPromise
byte_at s at r q = same

-- wire::word_at
pub word_at : One₂ WordAtPromise
word_at s at r q = same

-- wire::copy_at
pub copy_at : One₃ CopyPromise
copy_at src dst at after later = same

-- wire::write
pub write : Lent WritePromise
write = write_one

-- wire::write3
pub write3 : Lent₃ Write3Promise
write3 u v w = write_one (u ++ v ++ w)

-- ---- address

-- address::GroupAddress::from_u16
pub group_from : One GroupFromPromise
group_from raw r q = same

-- address::GroupAddress::to_u16
pub group_to : One GroupToPromise
group_to a r q = same

-- address::IndividualAddress::from_u16
pub individual_from : One IndividualFromPromise
individual_from raw r q = same

-- address::IndividualAddress::to_u16
pub individual_to : One IndividualToPromise
individual_to a r q = same

-- ---- constants

-- constants::ServiceType::from_u16
pub service_from : One Services.FromPromise
service_from = ServiceLaws.from_one

-- constants::ServiceType::to_u16
pub service_to : One Services.ToPromise
service_to s r q = same

-- constants::CEMIMessageCode::from_u8
pub message_code_from : One MessageCodes.FromPromise
message_code_from = MessageCodeLaws.from_one

-- constants::CEMIMessageCode::to_u8
pub message_code_to : One MessageCodes.ToPromise
message_code_to m r q = same

-- constants::Priority::from_u8
pub priority_from : One Priorities.FromPromise
priority_from = PriorityLaws.from_one

-- constants::Priority::to_u8
pub priority_to : One Priorities.ToPromise
priority_to p r q = same

-- ---- control

-- control::ControlField1::from_u8
pub control1_from : One First.FromPromise
control1_from raw r q = same

-- control::ControlField1::to_u8
pub control1-to : One First.ToPromise
control1-to c r q = same

-- control::ControlField1::raw
pub control1_raw : One First.ToPromise
control1_raw c r q = same

-- control::ControlField1::is_standard_frame
pub control1_standard_frame : One First.StandardFramePromise
control1_standard_frame c r q = same

-- control::ControlField1::do_not_repeat
pub control1_do_not_repeat : One First.DoNotRepeatPromise
control1_do_not_repeat c r q = same

-- control::ControlField1::is_broadcast
pub control1_broadcast : One First.BroadcastPromise
control1_broadcast c r q = same

-- control::ControlField1::priority
pub control1_priority : One First.PriorityPromise
control1_priority = FieldLaws.priority_one

-- control::ControlField1::ack_requested
pub control1_ack_requested : One First.AckRequestedPromise
control1_ack_requested c r q = same

-- control::ControlField1::has_error
pub control1_has_error : One First.HasErrorPromise
control1_has_error c r q = same

-- control::ControlField1::new
pub control1_new : (standard single broadcast : Bool) (priority : Priority) → One₂ (First.NewPromise standard single broadcast priority)
control1_new standard single broadcast priority ack error r q = same

-- control::ControlField1::default
pub control1_default : (r q : ControlField1) → First.DefaultPromise r → First.DefaultPromise q → r ≡ q
control1_default r q = same

-- control::ControlField2::from_u8
pub control2_from : One Second.FromPromise
control2_from raw r q = same

-- control::ControlField2::to_u8
pub control2-to : One Second.ToPromise
control2-to c r q = same

-- control::ControlField2::raw
pub control2_raw : One Second.ToPromise
control2_raw c r q = same

-- control::ControlField2::is_group_address
pub control2_group_address : One Second.GroupAddressPromise
control2_group_address c r q = same

-- control::ControlField2::hop_count
pub control2_hop_count : One Second.HopCountPromise
control2_hop_count c r q = same

-- control::ControlField2::extended_format
pub control2_extended_format : One Second.ExtendedFormatPromise
control2_extended_format c r q = same

-- control::ControlField2::new
pub control2_new : One₃ Second.NewPromise
control2_new group hops format r q = same

-- control::ControlField2::default
pub control2_default : (r q : ControlField2) → Second.DefaultPromise r → Second.DefaultPromise q → r ≡ q
control2_default r q = same

-- ---- pci

-- pci::Tpci::from_byte
pub tpci_from_byte : One Transport.FromPromise
tpci_from_byte = PciLaws.from_byte_one

-- pci::Tpci::is_data
pub tpci_is_data : One Transport.IsDataPromise
tpci_is_data t r q = same

-- pci::Tpci::sequence
pub tpci_sequence : One Transport.SequencePromise
tpci_sequence t r q = same

-- pci::control_code_in
pub control_code_in : One Transport.ControlCodeInPromise
control_code_in byte r q = same

-- pci::kind_in
pub kind_in : One Transport.KindInPromise
kind_in byte r q = same

-- pci::sequence_in
pub sequence_in : One Transport.SequenceInPromise
sequence_in byte r q = same

-- pci::Apci::from_bytes
pub apci_from_bytes : One₂ Application.FromPromise
apci_from_bytes first second r q = same

-- pci::Apci::to_u16
pub apci_to : One Application.ToPromise
apci_to a r q = same

-- pci::Apci::is_named
pub apci_is_named : One₂ Application.IsNamedPromise
apci_is_named a code r q = same

-- pci::code_in
pub code_in_lem : One₂ Application.CodeInPromise
code_in_lem first second r q = same

-- pci::is_named_in
pub is_named_in : One₂ Application.IsNamedInPromise
is_named_in first second r q = same

-- pci::extract_6bit_value
pub six_bit_value : One Application.SixBitPromise
six_bit_value byte r q = same

-- ---- ldata

-- ldata::LDataFields::parse_in
pub ldata_parse_in : One₂ LData.ParseInPromise
ldata_parse_in = LDataLaws.parse_one

-- ldata::LDataFields::parse
pub ldata_parse : One LData.ParsePromise
ldata_parse = LDataLaws.parse_one Crate

-- ldata::LDataFields::data_in
pub ldata_data_in : One₃ LData.DataInPromise
ldata_data_in = LDataLaws.data_one

-- ldata::LDataFields::data
pub ldata_data : One₂ LData.DataPromise
ldata_data = LDataLaws.data_one Crate

-- ldata::LDataFields::data_part_in
pub ldata_data_part_in : One₃ LData.DataPartInPromise
ldata_data_part_in c f s r q = same

-- ldata::LDataFields::data_part
pub ldata_data_part : One₂ LData.DataPartPromise
ldata_data_part f s r q = same

-- ldata::data_start
pub data_start : One Count.DataStartPromise
data_start d r q = same

-- ldata::Counting::data_end
pub data_end : One₂ Count.DataEndPromise
data_end c l r q = same

-- ldata::Counting::allows
pub allows : One₃ Count.AllowsPromise
allows c d l r q = same

-- ldata::LDataFields::destination_group
pub ldata_destination_group : One LData.DestinationGroupPromise
ldata_destination_group = LDataLaws.destination_group_one

-- ldata::LDataFields::destination_individual
pub ldata_destination_individual : One LData.DestinationIndividualPromise
ldata_destination_individual = LDataLaws.destination_individual_one

-- ldata::LDataFields::is_group_write
pub ldata_is_group_write : One (LData.IsServicePromise 0x080)
ldata_is_group_write f r q = same

-- ldata::LDataFields::is_group_read
pub ldata_is_group_read : One (LData.IsServicePromise 0x000)
ldata_is_group_read f r q = same

-- ldata::LDataFields::is_group_response
pub ldata_is_group_response : One (LData.IsServicePromise 0x040)
ldata_is_group_response f r q = same

-- ldata::LDataBuilder::build_in
pub ldata_build_in : Lent₃ LDataBuilder.BuildInPromise
ldata_build_in = LDataBuilderLaws.build_one

-- ldata::LDataBuilder::build
pub ldata_build : Lent₂ LDataBuilder.BuildPromise
ldata_build = LDataBuilderLaws.build_one Crate

-- ---- additional_info

-- additional_info::AdditionalInfoType::from_u8
pub info_type_from : One InfoType.FromPromise
info_type_from n r q = same

-- additional_info::AdditionalInfoType::to_u8
pub info_type_to : One InfoType.ToPromise
info_type_to t r q = same

-- additional_info::AdditionalInfo::parse
pub info_parse : One Area.ParsePromise
info_parse = AreaLaws.parse_one

-- additional_info::count
pub info-count : One Area.CountPromise
info-count = AreaLaws.count_one

-- additional_info::nth
pub info_nth : One₂ Area.NthPromise
info_nth = AreaLaws.nth_one

-- additional_info::judge
pub info_judge : One₂ Appending.JudgePromise
info_judge s n r q = same

-- additional_info::append
pub info-append : Lent₃ Appending.AppendPromise
info-append = AppendingLaws.append_one

-- ---- cemi

-- cemi::CEMIFrame::additional_info
pub cemi-info : One Cemi.InfoPromise
cemi-info = CemiInfoLaws.info_one

-- cemi::CEMIFrame::additional_info_part
pub cemi_info_part : One Cemi.InfoPartPromise
cemi_info_part s r q = same

-- cemi::CEMIFrame::build
pub cemi_build : Lent₃ Cemi.BuildPromise
cemi_build = CemiInfoLaws.build_one

-- cemi::CEMIFrame::parse
pub cemi_parse : One Cemi.ParsePromise
cemi_parse = CemiLaws.parse_one

-- cemi::CEMIFrame::message_code
pub cemi_message_code : One Cemi.MessageCodePromise
cemi_message_code f r q = same

-- cemi::CEMIFrame::additional_info_length
pub cemi_info_length : One Cemi.InfoLengthPromise
cemi_info_length = CemiLaws.info_length_one

-- cemi::CEMIFrame::service_info
pub cemi_service_info : One Cemi.ServiceInfoPromise
cemi_service_info = CemiLaws.service_info_one

-- cemi::CEMIFrame::service_info_part
pub cemi_service_info_part : One Cemi.ServiceInfoPartPromise
cemi_service_info_part s r q = same

-- cemi::CEMIFrame::as_ldata_in
pub cemi_as_ldata_in : One₃ Cemi.AsLDataInPromise
cemi_as_ldata_in = CemiLaws.as_ldata_one

-- cemi::CEMIFrame::as_ldata
pub cemi_as_ldata : One₂ Cemi.AsLDataPromise
cemi_as_ldata = CemiLaws.as_ldata_one Crate

-- cemi::CEMIFrame::is_ldata
pub cemi_is_ldata : One Cemi.IsLDataPromise
cemi_is_ldata f r q = same

-- ---- header

-- header::KnxnetIpHeader::new
pub header_new : One₂ Header.NewPromise
header_new = HeaderLaws.new_one

-- header::KnxnetIpHeader::parse
pub header_parse : One Header.ParsePromise
header_parse = HeaderLaws.parse_one

-- header::KnxnetIpHeader::encode
pub header_encode : Lent Header.EncodePromise
header_encode = HeaderLaws.encode_one

-- header::KnxnetIpHeader::body_length
pub header_body_length : One Header.BodyLengthPromise
header_body_length h r q = same

-- ---- frame

-- frame::FrameFields::parse
pub frame_parse : One Frame.ParsePromise
frame_parse = FrameLaws.parse_one

-- frame::FrameFields::header
pub frame-header : One₂ Frame.HeaderPromise
frame-header = FrameLaws.header_one

-- frame::FrameFields::service_type
pub frame_service_type : One₂ Frame.ServiceTypePromise
frame_service_type = FrameLaws.service_type_one

-- frame::FrameFields::body
pub frame-body : One₂ Frame.BodyPromise
frame-body = FrameLaws.body_one

-- frame::FrameFields::data
pub frame_data : One₂ Frame.DataPromise
frame_data = FrameLaws.data_one

-- frame::FrameFields::body_part
pub frame_body_part : One₂ Frame.BodyPartPromise
frame_body_part f s r q = same

-- frame::FrameFields::data_part
pub frame_data_part : One₂ Frame.DataPartPromise
frame_data_part f s r q = same

-- frame::FrameBuilder::new
pub builder_new : One FrameBuilder.NewPromise
builder_new s r q = same

-- frame::judge
pub frame_judge : One Judging.JudgePromise
frame_judge = JudgingLaws.judge_one

-- frame::FrameBuilder::build
pub builder_build : Lent₂ FrameBuilder.BuildPromise
builder_build = FrameLaws.build_one

-- frame::FrameBuilder::size
pub builder-size : One FrameBuilder.SizePromise
builder-size body r q = same

-- frame::write_frame
pub frame_write : Lent₂ Write.WriteFramePromise
frame_write = WriteLaws.write_one

-- frame::write_frame2
pub frame_write2 : Lent₃ Write.WriteFrame2Promise
frame_write2 s a b = WriteLaws.write_one s (a ++ b)

-- frame::write_frame3
pub frame_write3 : Lent₄ Write.WriteFrame3Promise
frame_write3 s a b c = WriteLaws.write_one s (a ++ b ++ c)

-- ---- hpai

-- hpai::Hpai::new
pub hpai_new : One₂ Hpai.NewPromise
hpai_new ip port r q = same

-- hpai::Hpai::parse
pub hpai_parse : One Hpai.ParsePromise
hpai_parse = HpaiLaws.parse_one

-- hpai::Hpai::encode
pub hpai_encode : Lent Hpai.EncodePromise
hpai_encode = HpaiLaws.encode_one

-- hpai::Hpai::to_bytes
pub hpai_to_bytes : One Hpai.ToBytesPromise
hpai_to_bytes h r q a b = same a.0 b.0

-- ---- connect

-- connect::ConnectionRequestInfo::tunnel_link_layer
pub cri_tunnel : (r q : ConnectionRequestInfo) → Cri.TunnelLinkLayerPromise r → Cri.TunnelLinkLayerPromise q → r ≡ q
cri_tunnel r q = same

-- connect::ConnectionRequestInfo::encode
pub cri_encode : Lent Cri.EncodePromise
cri_encode = CriLaws.encode_one

-- connect::ConnectionRequestInfo::decode
pub cri_decode : One Cri.DecodePromise
cri_decode = CriLaws.decode_one

-- connect::ConnectRequest::new
pub connect_request_new : One₂ ConnectRequest.NewPromise
connect_request_new control other r q = same

-- connect::ConnectRequest::build
pub connect_request_build : Lent ConnectRequest.BuildPromise
connect_request_build = ConnectRequestLaws.build_one

-- connect::ConnectResponse::parse
pub connect_response_parse : One ConnectResponse.ParsePromise
connect_response_parse = ConnectResponseLaws.parse_one

-- connect::ConnectResponse::parse_standard
pub connect_response_parse_standard : One ConnectResponse.ParseStandardPromise
connect_response_parse_standard = ConnectResponseLaws.parse_standard_one

-- connect::ConnectResponse::individual_address
pub connect_response_individual_address : One ConnectResponse.IndividualAddressPromise
connect_response_individual_address c r q = same

-- connect::ConnectResponse::is_ok
pub connect_response_is_ok : One ConnectResponse.IsOkPromise
connect_response_is_ok c r q = same

-- connect::ConnectionStateRequest::new
pub state_request_new : One₂ Channel.StateNewPromise
state_request_new channel h r q = same

-- connect::ConnectionStateRequest::build
pub state_request_build : Lent Channel.StateBuildPromise
state_request_build q = ChannelLaws.request_one ServiceType.ConnectionstateRequest q.channel_id q.control_endpoint

-- connect::ConnectionStateResponse::parse
pub state_response_parse : One Channel.StateParsePromise
state_response_parse = ChannelLaws.state_parse_one

-- connect::ConnectionStateResponse::is_ok
pub state_response_is_ok : One Channel.StateIsOkPromise
state_response_is_ok c r q = same

-- connect::DisconnectRequest::new
pub disconnect_request_new : One₂ Channel.DisconnectNewPromise
disconnect_request_new channel h r q = same

-- connect::DisconnectRequest::build
pub disconnect_request_build : Lent Channel.DisconnectBuildPromise
disconnect_request_build q = ChannelLaws.request_one ServiceType.DisconnectRequest q.channel_id q.control_endpoint

-- connect::DisconnectRequest::parse
pub disconnect_request_parse : One Channel.DisconnectRequestParsePromise
disconnect_request_parse = ChannelLaws.request_parse_one

-- connect::DisconnectResponse::new
pub disconnect_response_new : One₂ Channel.DisconnectResponseNewPromise
disconnect_response_new channel code r q = same

-- connect::DisconnectResponse::build
pub disconnect_response_build : Lent Channel.DisconnectResponseBuildPromise
disconnect_response_build = ChannelLaws.response_one

-- connect::DisconnectResponse::parse
pub disconnect_response_parse : One Channel.DisconnectParsePromise
disconnect_response_parse = ChannelLaws.disconnect_parse_one

-- connect::DisconnectResponse::is_ok
pub disconnect_response_is_ok : One Channel.DisconnectIsOkPromise
disconnect_response_is_ok c r q = same

-- ---- tunnelling

-- tunnelling::ConnectionHeader::new
pub connection_header_new : One₂ Connection.NewPromise
connection_header_new channel sequence r q = same

-- tunnelling::ConnectionHeader::encode
pub connection_header_encode : Lent Connection.EncodePromise
connection_header_encode = ConnectionLaws.encode_one

-- tunnelling::ConnectionHeader::decode
pub connection_header_decode : One Connection.DecodePromise
connection_header_decode = ConnectionLaws.decode_one

-- tunnelling::TunnelingRequest::new
pub tunnel_request_new : One TunnelingRequest.NewPromise
tunnel_request_new h r q = same

-- tunnelling::TunnelingRequest::build
pub tunnel_request_build : Lent₂ TunnelingRequest.BuildPromise
tunnel_request_build = TunnelingRequestLaws.build_one

-- tunnelling::TunnelingRequest::parse
pub tunnel_request_parse : One TunnelingRequest.ParsePromise
tunnel_request_parse = TunnelingRequestLaws.parse_one

-- tunnelling::TunnelingRequest::cemi_data
pub tunnel_request_cemi_data : One TunnelingRequest.CemiDataPromise
tunnel_request_cemi_data = TunnelingRequestLaws.cemi_data_one

-- tunnelling::TunnelingRequest::cemi_part
pub tunnel_request_cemi_part : One TunnelingRequest.CemiPartPromise
tunnel_request_cemi_part s r q = same

-- tunnelling::TunnelingAck::new
pub ack_new : One₂ TunnelingAck.NewPromise
ack_new h status r q = same

-- tunnelling::TunnelingAck::build
pub ack_build : Lent TunnelingAck.BuildPromise
ack_build = TunnelingAckLaws.build_one

-- tunnelling::TunnelingAck::build_in
pub ack_build_in : Lent₂ AckForm.BuildInPromise
ack_build_in = TunnelingAckLaws.build_in_one

-- tunnelling::TunnelingAck::parse_in
pub ack_parse_in : One₂ AckForm.ParseInPromise
ack_parse_in = TunnelingAckLaws.parse_in_one

-- tunnelling::TunnelingAck::parse
pub ack_parse : One TunnelingAck.ParsePromise
ack_parse = TunnelingAckLaws.parse_one

-- tunnelling::TunnelingAck::is_ok
pub ack_is_ok : One TunnelingAck.IsOkPromise
ack_is_ok a r q = same

-- ---- datagram

-- tunnel_datagram::hear
pub datagram_hear : One Hearing.HearPromise
datagram_hear = HearingLaws.hear_one

-- tunnel_datagram::hear_in
pub datagram_hear_in : One₂ Hearing.HearInPromise
datagram_hear_in = HearingLaws.hear_in_one

-- ---- tunnel

-- tunnel::Said::number
pub said-number : One Numbers.SaidNumberPromise
said-number a r q = same

-- tunnel::Wait::number
pub wait_number : One Numbers.WaitNumberPromise
wait_number w r q = same

-- tunnel::Wait::from_u8
pub wait_from_u8 : One Numbers.WaitFromPromise
wait_from_u8 n r q = same

-- tunnel::Tunnel::fresh
pub tunnel_fresh : (r q : Tunnel) → Rules.FreshPromise r → Rules.FreshPromise q → r ≡ q
tunnel_fresh r q = same

-- tunnel::Tunnel::waits
pub tunnel_waits : One Rules.WaitsPromise
tunnel_waits t r q = same

-- tunnel::Tunnel::sending
pub tunnel_sending : One Rules.SendingPromise
tunnel_sending t r q = same

-- tunnel::Tunnel::timeout
pub tunnel_timeout : One Rules.TimeoutPromise
tunnel_timeout t r q = same

-- tunnel::Tunnel::arrival
pub tunnel_arrival : One₂ Rules.ArrivalPromise
tunnel_arrival t n r q = same

-- tunnel::Tunnel::delivered
pub tunnel_delivered : One Rules.DeliveredPromise
tunnel_delivered t r q = same

-- tunnel::Tunnel::acknowledged
pub tunnel_acknowledged : One₃ Rules.AcknowledgedPromise
tunnel_acknowledged t n status r q = same

-- ---- table: the output afterwards is settled with the answer, and the table afterwards is part of it

-- tunnel_table::Table::empty
pub table_empty : (r q : Table) → EmptyPromise r → EmptyPromise q → r ≡ q
table_empty = Compiled.empty_one

abbrev pub OneCall : (Table → Result Called Fault → List ℕ → Type 0) → Type 0
OneCall P = (t : Table) (r q : Result Called Fault) (after later : List ℕ) → P t r after → P t q later → (r ≡ q) × (after ≡ later)

-- tunnel_table::Table::open
pub table_open : (id : ℕ) → OneCall (λ t. CallPromise t (Open id))
table_open id t = Compiled.call_one t (Open id)

-- tunnel_table::Table::close
pub table_close : (id : ℕ) → OneCall (λ t. CallPromise t (Close id))
table_close id t = Compiled.call_one t (Close id)

-- tunnel_table::Table::timeout
pub table_timeout : (id : ℕ) → OneCall (λ t. CallPromise t (Timeout id))
table_timeout id t = Compiled.call_one t (Timeout id)

-- tunnel_table::Table::send
pub table_send : (id : ℕ) (cemi out : List ℕ) → OneCall (λ t. CallPromise t (Send id cemi out))
table_send id cemi out t = Compiled.call_one t (Send id cemi out)

-- tunnel_table::Table::heard
pub table_heard : (t : Table) (h : Result Heard Fault) (out : List ℕ) (r q : Result Called Fault) (after later : List ℕ) → HeardPromise t h out r after → HeardPromise t h out q later → (r ≡ q) × (after ≡ later)
table_heard t h out = Compiled.called_one (heard_on h out t.places) t

-- tunnel_table::Table::heard_in
pub table_heard_in : (f : Form) (t : Table) (h : Result Heard Fault) (out : List ℕ) (r q : Result Called Fault) (after later : List ℕ) → HeardInPromise f t h out r after → HeardInPromise f t h out q later → (r ≡ q) × (after ≡ later)
table_heard_in f t h out = Compiled.called_one (heard_in_on f h out t.places) t

-- tunnel_table::Table::datagram_in
pub table_datagram_in : (f : Form) (bytes out : List ℕ) → OneCall (λ t. CallPromise t (DatagramIn f bytes out))
table_datagram_in f bytes out t = Compiled.call_one t (DatagramIn f bytes out)

-- tunnel_table::Table::datagram
pub table_datagram : (bytes out : List ℕ) → OneCall (λ t. CallPromise t (Datagram bytes out))
table_datagram bytes out t = Compiled.call_one t (Datagram bytes out)

-- ---- kip

-- digits::places
pub digits_places : One Digits.PlacesPromise
digits_places n r q = same

-- digits::put_digits
pub digits_put_digits : (n : ℕ) (out : List ℕ) (at end : ℕ) (after later : List ℕ) → Digits.DigitsPromise n out at end after → Digits.DigitsPromise n out at end later → after ≡ later
digits_put_digits n out at end after later = same

-- digits::hex_digit
pub digits_hex_digit : One Digits.HexDigitPromise
digits_hex_digit d r q = same

-- digits::hex4
pub digits_hex4 : One Digits.HexPromise
digits_hex4 n r q = same

-- kip::starts
pub kip_starts : One Capture.StartsPromise
kip_starts s r q = same

-- kip::next_record
pub kip_next_record : One₂ Capture.NextPromise
kip_next_record s at r q = same

-- inspection::line
pub inspection_line : Lent₂ InspectionLines.LinePromise
inspection_line = InspectionLinesLaws.line_one

-- inspection::scan
pub inspection_scan : (s out : List ℕ) (spot : Spot) (r q : Scanned) (after later : List ℕ) → Scanning.ScanPromise s out spot r after → Scanning.ScanPromise s out spot q later → (r ≡ q) × (after ≡ later)
inspection_scan = ScanningLaws.scan_one

-- inspection::heading
pub inspection_heading : Lent InspectionLines.HeadingPromise
inspection_heading = InspectionLinesLaws.heading_one

-- inspection::begin
pub inspection_begin : (r q : Progress) → Turns.BeginPromise r → Turns.BeginPromise q → r ≡ q
inspection_begin r q = same

-- inspection::written_out
pub inspection_written_out : One Turns.WrittenOutPromise
inspection_written_out p r q = same

-- inspection::read_on
pub inspection_read_on : One₃ Turns.ReadOnPromise
inspection_read_on s p k r q = same

-- inspection::to_front
pub inspection_to_front : (s : List ℕ) (p r q : Progress) (after later : List ℕ) → Turns.ToFrontPromise s p r after → Turns.ToFrontPromise s p q later → (r ≡ q) × (after ≡ later)
inspection_to_front s p r q after later a b = (same a.0 b.0, same a.1 b.1)

-- inspect_io::run
pub inspect_run : (r q : Unit {0}) → Running.RunPromise r → Running.RunPromise q → r ≡ q
inspect_run r q = same

-- inspection::ending
pub inspection_ending : Lent₂ InspectionLines.EndingPromise
inspection_ending = InspectionLinesLaws.ending_one

-- ---- borrowed: the bytes that a record borrows, and those that it hands out, are settled by its bytes

-- borrowed::KnxnetIpFrame::parse
pub knxnet_ip_parse : (s : List ℕ) (r q : KnxnetIpFrame) → KnxnetIpFrame.ParsePromise s r → KnxnetIpFrame.ParsePromise s q → (r.«data».now ≡ q.«data».now) × (r.answer ≡ q.answer)
knxnet_ip_parse = KnxnetIpFrameLaws.parse_one

-- borrowed::KnxnetIpFrame::body
pub knxnet_ip_body : One KnxnetIpFrame.BodyPromise
knxnet_ip_body f r q = same

-- borrowed::body_view
pub knxnet_ip_body_view : One₂ KnxnetIpFrame.BodyViewPromise
knxnet_ip_body_view s a r q x y = PartLaws.told_one r q (same x y)

-- borrowed::body_in
pub knxnet_ip_body_in : One KnxnetIpFrame.BodyInPromise
knxnet_ip_body_in s r q = same

-- borrowed::LDataFrame::parse_in
pub ldata_frame_parse_in : (c : Counting) (s : List ℕ) (r q : LDataFrame) → LDataFrame.ParseInPromise c s r → LDataFrame.ParseInPromise c s q → (r.«data».now ≡ q.«data».now) × (r.answer ≡ q.answer)
ldata_frame_parse_in = LDataFrameLaws.parse_one

-- borrowed::LDataFrame::parse
pub ldata_frame_parse : (s : List ℕ) (r q : LDataFrame) → LDataFrame.ParsePromise s r → LDataFrame.ParsePromise s q → (r.«data».now ≡ q.«data».now) × (r.answer ≡ q.answer)
ldata_frame_parse = LDataFrameLaws.parse_one Crate

-- borrowed::LDataFrame::data_in
pub ldata_frame_data_of : One₂ LDataFrame.FrameDataInPromise
ldata_frame_data_of c f r q = same

-- borrowed::LDataFrame::data
pub ldata_frame_data : One LDataFrame.DataPromise
ldata_frame_data f r q = same

-- borrowed::data_view_in
pub ldata_frame_data_view_in : One₃ LDataFrame.DataViewInPromise
ldata_frame_data_view_in c s a r q x y = PartLaws.told_one r q (same x y)

-- borrowed::data_view
pub ldata_frame_data_view : One₂ LDataFrame.DataViewPromise
ldata_frame_data_view = ldata_frame_data_view_in Crate

-- borrowed::data_in_count
pub ldata_frame_data_in_count : One₂ LDataFrame.DataInCountPromise
ldata_frame_data_in_count c s r q = same

-- borrowed::data_in
pub ldata_frame_data_in : One LDataFrame.DataInPromise
ldata_frame_data_in s r q = same

-- ---- image

-- tunnel_image::unpack
pub image_unpack : One Image.UnpackPromise
image_unpack = ImageLaws.unpack_one

-- tunnel_image::pack
pub image_pack : Lent Image.PackPromise
image_pack = ImageLaws.pack_one

-- ---- host

-- knx::knx_frame_parse
pub knx_frame_parse : One KnxReading.FramePromise
knx_frame_parse = KnxReadingLaws.frame_one

-- knx::knx_hpai_parse
pub knx_hpai_parse : One KnxReading.HpaiPromise
knx_hpai_parse = KnxReadingLaws.hpai_one

-- knx::knx_connect_response
pub knx_connect_response : One KnxReading.ConnectResponsePromise
knx_connect_response = KnxReadingLaws.connect_response_one

-- knx::knx_connect_response_standard
pub knx_connect_response_standard : One KnxReading.ConnectResponseStandardPromise
knx_connect_response_standard = KnxReadingLaws.connect_response_standard_one

-- knx::knx_own_address
pub knx_own_address : One KnxReading.OwnAddressPromise
knx_own_address = KnxReadingLaws.own_address_one

-- knx::knx_connectionstate_response
-- knx::knx_disconnect_response
pub knx_status : One KnxChannel.StatusPromise
knx_status = KnxChannelLaws.status_one

-- knx::knx_disconnect_request_parse
pub knx_disconnect_request_parse : One KnxChannel.DisconnectRequestPromise
knx_disconnect_request_parse = KnxChannelLaws.disconnect_request_one

-- knx::knx_cemi_ldata
pub knx_cemi_ldata : One CemiLData.CemiLDataPromise
knx_cemi_ldata = CemiLDataLaws.cemi_ldata_one Crate

-- knx::knx_cemi_ldata_standard
pub knx_cemi_ldata_standard : One CemiLData.CemiLDataStandardPromise
knx_cemi_ldata_standard = CemiLDataLaws.cemi_ldata_one Standard

-- knx::knx_cemi_additional_info
pub knx_cemi_info : One KnxInfo.AreaPromise
knx_cemi_info = KnxInfoLaws.area_one

-- knx::knx_additional_info
pub knx_info : One KnxInfo.FirstPromise
knx_info = KnxInfoLaws.first_one

-- knx::knx_additional_info_nth
pub knx_info_nth : One₂ KnxInfo.NthPromise
knx_info_nth = KnxInfoLaws.nth_one

-- knx::knx_additional_info_count
pub knx_info_count : One KnxInfo.CountPromise
knx_info_count = KnxInfoLaws.count_one

-- knx::knx_additional_info_append
pub knx_info_append : Lent₃ KnxInfo.AppendPromise
knx_info_append = KnxInfoLaws.append_one

-- knx::knx_cemi_build
pub knx_cemi_build : Lent₃ KnxInfo.BuildPromise
knx_cemi_build = KnxInfoLaws.build_one

-- knx::knx_ldata_build
pub knx_ldata_build : (control_1 control-2 source destination tpci code six : ℕ) → Lent (Building.LDataBuildPromise control_1 control-2 source destination tpci code six)
knx_ldata_build = BuildingLaws.ldata_build_one Crate

-- knx::knx_ldata_build_standard
pub knx_ldata_build_standard : (control_1 control-2 source destination tpci code six : ℕ) → Lent (Building.LDataBuildStandardPromise control_1 control-2 source destination tpci code six)
knx_ldata_build_standard = BuildingLaws.ldata_build_one Standard

-- knx::knx_connect_request
pub knx_connect_request : Lent₂ Building.ConnectRequestPromise
knx_connect_request = BuildingLaws.connect_request_one

-- knx::knx_connectionstate_request
pub knx_connectionstate_request : Lent₂ Building.ConnectionStateRequestPromise
knx_connectionstate_request = BuildingLaws.connectionstate_request_one

-- knx::knx_disconnect_request
pub knx_disconnect_request : Lent₂ Building.DisconnectRequestPromise
knx_disconnect_request = BuildingLaws.disconnect_request_one

-- knx::knx_tunneling_request
pub knx_tunneling_request : Lent₃ Building.TunnelingRequestPromise
knx_tunneling_request = BuildingLaws.tunneling_request_one

-- knx::knx_tunneling_ack
pub knx_tunneling_ack : Lent₃ Building.TunnelingAckPromise
knx_tunneling_ack = BuildingLaws.tunneling_ack_one Form.Crate

-- knx::knx_tunneling_ack_standard
pub knx_tunneling_ack_standard : Lent₃ Building.TunnelingAckStandardPromise
knx_tunneling_ack_standard = BuildingLaws.tunneling_ack_one Form.Standard

-- knx::knx_disconnect_response_build
pub knx_disconnect_response_build : Lent₂ Building.DisconnectResponseBuildPromise
knx_disconnect_response_build = BuildingLaws.disconnect_response_one

-- knx::knx_table_empty
pub knx_table_empty : (image : List ℕ) (r q : KnxWritten) (after later : List ℕ) → Called.EmptyPromise image r after → Called.EmptyPromise image q later → (r ≡ q) × (after ≡ later)
knx_table_empty = CalledLaws.empty_one

-- of the answer and the image afterwards, where nothing is written
one_image : (c : Call) (image : List ℕ) (r q : KnxCalled) (after later : List ℕ) → Called.CallPromise image c r after [] → Called.CallPromise image c q later [] → (r ≡ q) × (after ≡ later)
one_image c image r q after later a b = let x = CalledLaws.call_one image c r q after later [] [] a b in (x.0, x.1)

-- knx::knx_table_open
pub knx_table_open : Lent (λ (id : ℕ) (image : List ℕ). Called.OpenPromise image id)
knx_table_open id = one_image (Open id)

-- knx::knx_table_close
pub knx_table_close : Lent (λ (id : ℕ) (image : List ℕ). Called.ClosePromise image id)
knx_table_close id = one_image (Close id)

-- knx::knx_table_timeout
pub knx_table_timeout : Lent (λ (id : ℕ) (image : List ℕ). Called.TimeoutPromise image id)
knx_table_timeout id = one_image (Timeout id)

-- of the answer, the image and the output afterwards
abbrev pub OneImage : (List ℕ → KnxCalled → List ℕ → List ℕ → Type 0) → Type 0
OneImage P = (image : List ℕ) (r q : KnxCalled) (after later out last : List ℕ) → P image r after out → P image q later last → (r ≡ q) × (after ≡ later) × (out ≡ last)

-- knx::knx_table_send
pub knx_table_send : (id : ℕ) (cemi out : List ℕ) → OneImage (λ image. Called.SendPromise image id cemi out)
knx_table_send id cemi out image = CalledLaws.call_one image (Send id cemi out)

-- knx::knx_table_datagram
pub knx_table_datagram : (bytes out : List ℕ) → OneImage (λ image. Called.DatagramPromise image bytes out)
knx_table_datagram bytes out image = CalledLaws.call_one image (Datagram bytes out)

-- knx::knx_table_datagram_standard
pub knx_table_datagram_standard : (bytes out : List ℕ) → OneImage (λ image. Called.DatagramStandardPromise image bytes out)
knx_table_datagram_standard bytes out image = CalledLaws.call_one image (DatagramIn Form.Standard bytes out)

-- ---- replay: what the programs that replay recorded calls share; of a record that was read the buffer that is lent to its call and, where the reader's bytes are known, which it was; of a run over known bytes, to where no record is left, what is written and carried; of one that tells nobody why it ended, over an input of no record, all

-- replay::refused
pub replay_refused : One₂ Telling.RefusedPromise
replay_refused why count r q = same

-- replay::located
pub replay_located : One₂ Telling.LocatedPromise
replay_located t at r q = same

-- replay::few
pub replay_few : One₂ Telling.FewPromise
replay_few count four r q = same

-- replay::flag
pub replay_flag : One Telling.FlagPromise
replay_flag b r q = same

-- replay::moved
pub replay_moved : One₂ Telling.MovedPromise
replay_moved start at r q = same

-- replay::written
pub replay_written : One Telling.WrittenPromise
replay_written w r q = same

-- replay::remainder
pub replay_remainder : One Telling.RemainderPromise
replay_remainder s r q = same

-- replay::line
pub replay_line : (t : Told) (s out : List ℕ) (r q : ℕ) (after later : List ℕ) → ReplayLines.LinePromise t s out r after → ReplayLines.LinePromise t s out q later → (r ≡ q) × (after ≡ later)
replay_line = ReplayLaws.line_one

-- replay::number24
pub replay_number24 : One Records.Number24Promise
replay_number24 s r q = same

-- replay::next
pub replay_next : (before left : Option (List ℕ)) (r : Option Record) (args buf after later : List ℕ) → Records.NextPromise before left r args buf after → Records.NextPromise before left r args buf later → after ≡ later
replay_next before left None args buf after later p q = same p q
replay_next before left (Some r) args buf after later p q = same p.filled q.filled

-- replay::try_next
pub replay_try_next : {E : Type 0} (before left : Option (List ℕ)) (r : Result (Option Record) E) (args buf after later : List ℕ) → Records.TryNextPromise before left r args buf after → Records.TryNextPromise before left r args buf later → after ≡ later
replay_try_next before left (Ok None) args buf after later p q = same p.1 q.1
replay_try_next before left (Ok (Some r)) args buf after later p q = same p.filled q.filled
replay_try_next before left (Err e) args buf after later p q = same p q

-- which record, and what is left behind it
pub replay_next_record : (s : List ℕ) (left rest : Option (List ℕ)) (r q : Record) (args buf after more later : List ℕ) → Records.RecordPromise (Some s) left r args buf after → Records.RecordPromise (Some s) rest q more buf later → r ≡ q
replay_next_record s left rest r q args buf after more later a b = same a.read.0 b.read.0

-- replay::replay
pub replay_replay : {W C : Type 0} (input : Option (List ℕ)) (out after later : W) (calls left last : C) → Replaying.NoRecord input
    → Replaying.ReplayPromise input out after calls left → Replaying.ReplayPromise input out later calls last → (after ≡ later) × (left ≡ last)
replay_replay input out after later calls left last none p q = (same (p none).0 (q none).0, same (p none).1 (q none).1)

-- replay::try_replay
pub replay_try_replay : {W C : Type 0} (answers : Replaying.Answering C) → ReplayingLaws.OneWay answers → (s h : List ℕ) (holds holding : Option (List ℕ)) (output written later : W) (calls next last : C)
    → Replaying.TryReplayPromise answers (Some s) (Some h) holds output written calls next (Ok tt) → Replaying.TryReplayPromise answers (Some s) (Some h) holding output later calls last (Ok tt) → (holds ≡ holding) × (next ≡ last)
replay_try_replay answers one s h holds holding output written later calls next last = ReplayingLaws.replay_one answers one s h holds holding output written later calls next last

-- of an input that holds no record, however it ends, the writer and what is carried stay
pub replay_nothing : {W C : Type 0} (answers : Replaying.Answering C) (input held holds holding : Option (List ℕ)) (out after later : W) (calls left last : C) (r q : Result (Unit {0}) Stopped) → Replaying.NoRecord input
    → Replaying.TryReplayPromise answers input held holds out after calls left r → Replaying.TryReplayPromise answers input held holding out later calls last q → (after ≡ later) × (left ≡ last)
replay_nothing answers input held holds holding out after later calls left last r q none a b =
    let x = ReplayingLaws.no_turn none a.turns in
    let y = ReplayingLaws.no_turn none b.turns in
    (same (a.untouched x.0) (b.untouched y.0), same x.1 y.1)

-- so it is with the turns that `replay::replay` promises beside
pub replay_runs : {W C : Type 0} (answers : Replaying.Answering C) (input held holds holding : Option (List ℕ)) (out after later : W) (calls left last : C) → Replaying.NoRecord input
    → Replaying.RunsPromise answers input held holds out after calls left → Replaying.RunsPromise answers input held holding out later calls last → (after ≡ later) × (left ≡ last)
replay_runs answers input held holds holding out after later calls left last none a b = replay_nothing answers input held holds holding out after later calls left last a.why b.why none a.run b.run

-- replay::Calls::run
pub replay_run : {C : Type 0} (answers : Replaying.Answering C) (calls next last : C) (r q : Unit {0}) → Replaying.RunPromise answers calls next r → Replaying.RunPromise answers calls last q → r ≡ q
replay_run answers calls next last r q a b = same a.nothing b.nothing

-- replay::telegram
pub replay_telegram : One₃ Telegrams.TelegramPromise
replay_telegram f view bytes r q = same

-- replay::asks
pub replay_asks : One Telegrams.AsksPromise
replay_asks f r q = same

-- ---- variants: the numbers that recorded calls have for them

-- variants::service
pub variants_service : One Variants.ServicePromise
variants_service a r q = same

-- variants::service_of
pub variants_service_of : One Variants.ServiceOfPromise
variants_service_of a r q = same

-- variants::message_code
pub variants_message_code : One Variants.MessageCodePromise
variants_message_code a r q = same

-- variants::message_code_of
pub variants_message_code_of : One Variants.MessageCodeOfPromise
variants_message_code_of a r q = same

-- variants::priority
pub variants_priority : One Variants.PriorityPromise
variants_priority a r q = same

-- variants::priority_of
pub variants_priority_of : One Variants.PriorityOfPromise
variants_priority_of a r q = same

-- variants::apci
pub variants_apci : One Variants.ApciPromise
variants_apci a r q = same

-- variants::apci_of
pub variants_apci_of : One₂ Variants.ApciOfPromise
variants_apci_of a b r q = same

-- variants::info_type
pub variants_info_type : One Variants.InfoTypePromise
variants_info_type t r q = same

-- variants::kind
pub variants_kind : One Variants.KindPromise
variants_kind a r q = same

-- variants::sequence
pub variants_sequence : One Variants.SequencePromise
variants_sequence a r q = same

-- variants::tpci_of
pub variants_tpci_of : One₂ Variants.TpciOfPromise
variants_tpci_of a b r q = same

-- variants::refusal_of
pub variants_refusal_of : One Variants.RefusalOfPromise
variants_refusal_of a r q = same

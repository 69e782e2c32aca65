-- Demand 2 as predicates over any parser and any builder, and that ours have them. A parser is what it tells of each byte string; a builder is what it tells and what its buffer holds afterwards.
use Rattle.std.specs.Prelude.{ℕ, ◌+◌, ◌≤◌, ◌≡◌, List, [], ◌∷◌, ◌++◌, length, take, drop, get_or, Bool, true, false, Result, Ok}
use Rattle.std.proofs.Common.{sym, ap, ◌∙◌, subst}
use Rattle.std.proofs.Math.Seq.{drop-append_seam}
use Rattle.wire.specs.Told.{Told, done, Check, verdict, lent, none_of}
use Rattle.wire.specs.ToldLaws.{let_pass}
use Rattle.wire.specs.LayoutLaws.{Bytes}
use Rattle.wire.specs.Writing.{onto, tells, leaves}
use Rattle.wire.specs.Told.{Verdict}
use Rattle.constants.specs.Services as Services
use Rattle.constants.specs.ServiceLaws as ServiceLaws
use Rattle.constants.specs.MessageCodes as MessageCodes
use Rattle.constants.specs.MessageCodeLaws as MessageCodeLaws
use Rattle.constants.specs.declared.message_codes.CEMIMessageCode.{CEMIMessageCode}
use Rattle.constants.specs.declared.services.ServiceType.{ServiceType}
use Rattle.constants.specs.declared.priorities.Priority.{Priority}
use Rattle.control.specs.First as First
use Rattle.control.specs.Second as Second
use Rattle.control.specs.FieldLaws as FieldLaws
use Rattle.control.specs.declared.first.ControlField1.{ControlField1}
use Rattle.control.specs.declared.second.ControlField2.{ControlField2}
use Rattle.pci.specs.Application as Application
use Rattle.pci.specs.PciLaws as PciLaws
use Rattle.pci.specs.declared.application.Apci.TheVariants as Apci
use Rattle.ldata.specs.Count.{crate_count, count_by}
use Rattle.ldata.specs.CountLaws.{lawful}
use Rattle.ldata.specs.LData as LData
use Rattle.ldata.specs.LDataLaws as LDataLaws
use Rattle.ldata.specs.Builder as LDataBuilder
use Rattle.ldata.specs.RoundTrip as LDataRoundTrip
use Rattle.ldata.specs.declared.count.Counting.{Counting}
use Rattle.ldata.specs.declared.count.Counting.TheVariants.{Crate}
use Rattle.ldata.specs.declared.ldata.LDataFields.{LDataFields}
use Rattle.ldata.specs.declared.builder.LDataBuilder.{LDataBuilder}
use Rattle.wire.specs.Parts.{shown}
use Rattle.wire.specs.Parts as Parts
use Rattle.wire.specs.declared.parts.View.{View}
use Rattle.pci.specs.Transport.{is_data}
use Rattle.borrowed.specs.KnxnetIpFrame as KnxnetIpFrame
use Rattle.borrowed.specs.KnxnetIpFrameLaws as KnxnetIpFrameLaws
use Rattle.borrowed.specs.LDataFrame as LDataFrame
use Rattle.borrowed.specs.LDataFrameLaws as LDataFrameLaws
use Rattle.borrowed.specs.declared.knxnet_ip_frame.KnxnetIpFrame.{KnxnetIpFrame}
use Rattle.borrowed.specs.declared.ldata_frame.LDataFrame.{LDataFrame}
use Rattle.knx.specs.Reading as KnxReading
use Rattle.knx.specs.ReadingLaws as KnxReadingLaws
use Rattle.knx.specs.CemiLData as CemiLData
use Rattle.knx.specs.CemiLDataLaws as CemiLDataLaws
use Rattle.knx.specs.declared.reading.KnxFrame.{KnxFrame}
use Rattle.knx.specs.declared.cemi_ldata.KnxLData.{KnxLData}
use Rattle.cemi.specs.Cemi as Cemi
use Rattle.cemi.specs.CemiLaws as CemiLaws
use Rattle.cemi.specs.declared.CEMIFrame.{CEMIFrame}
use Rattle.header.specs.Header as Header
use Rattle.header.specs.HeaderLaws as HeaderLaws
use Rattle.header.specs.declared.KnxnetIpHeader.{KnxnetIpHeader}
use Rattle.frame.specs.Frame as Frame
use Rattle.frame.specs.Builder as FrameBuilder
use Rattle.frame.specs.Write as Write
use Rattle.frame.specs.RoundTrip.{Back, Carries}
use Rattle.frame.specs.RoundTrip as FrameRoundTrip
use Rattle.frame.specs.declared.frame.FrameFields.{FrameFields}
use Rattle.frame.specs.declared.builder.FrameBuilder.{FrameBuilder}
use Rattle.hpai.specs.Hpai as Hpai
use Rattle.hpai.specs.HpaiLaws as HpaiLaws
use Rattle.hpai.specs.declared.Hpai.{Hpai}
use Rattle.wire.specs.Layout.{put}
use Rattle.connect.specs.Cri as Cri
use Rattle.connect.specs.CriLaws as CriLaws
use Rattle.connect.specs.Request as ConnectRequest
use Rattle.connect.specs.RequestLaws as ConnectRequestLaws
use Rattle.connect.specs.Response as ConnectResponse
use Rattle.connect.specs.ResponseLaws as ConnectResponseLaws
use Rattle.connect.specs.Channel as Channel
use Rattle.connect.specs.ChannelLaws as ChannelLaws
use Rattle.connect.specs.declared.cri.ConnectionRequestInfo.{ConnectionRequestInfo}
use Rattle.connect.specs.declared.request.ConnectRequest.{ConnectRequest}
use Rattle.connect.specs.declared.response.ConnectResponse.{ConnectResponse}
use Rattle.connect.specs.declared.channel.ConnectionStateRequest.{ConnectionStateRequest}
use Rattle.connect.specs.declared.channel.DisconnectRequest.{DisconnectRequest}
use Rattle.tunnelling.specs.Connection as Connection
use Rattle.tunnelling.specs.ConnectionLaws as ConnectionLaws
use Rattle.tunnelling.specs.Request as TunnelingRequest
use Rattle.tunnelling.specs.RequestLaws as TunnelingRequestLaws
use Rattle.tunnelling.specs.Ack as TunnelingAck
use Rattle.tunnelling.specs.AckLaws as TunnelingAckLaws
use Rattle.tunnelling.specs.declared.connection.ConnectionHeader.{ConnectionHeader}
use Rattle.tunnelling.specs.declared.request.TunnelingRequest.{TunnelingRequest}
use Rattle.tunnelling.specs.declared.ack.TunnelingAck.{TunnelingAck}
use Rattle.wire.specs.declared.refusals.Fault.{Fault}

-- ---- parsers

-- a record's bytes, whatever follows them, are read as that record
abbrev pub ReadsBack : {A : Type 0} → (A → Type 0) → (A → List ℕ) → (A → Told) → (List ℕ → Told) → Type 0
ReadsBack {A} proper layout tells parse = (a : A) (rest : List ℕ) → proper a → parse (layout a ++ rest) ≡ tells a

-- what is accepted starts with the bytes of the record that is told
abbrev pub HasLayout : {A : Type 0} → (A → List ℕ) → (A → Told) → ℕ → (List ℕ → Told) → Type 0
HasLayout {A} layout tells size parse = (s : List ℕ) (a : A) → Bytes s → tells a ≡ parse s → take size s ≡ layout a

abbrev pub header : KnxnetIpHeader → Told
header h = Header.told (Ok h)

pub header_reads_back : ReadsBack HeaderLaws.Proper Header.layout header Header.parse_where
header_reads_back = HeaderLaws.reads_back

pub header_has_layout : HasLayout Header.layout header 6 Header.parse_where
header_has_layout = HeaderLaws.has_layout

abbrev pub hpai : Hpai → Told
hpai h = Hpai.told (Ok h)

pub hpai_reads_back : ReadsBack HpaiLaws.Proper Hpai.layout hpai Hpai.parse_where
hpai_reads_back = HpaiLaws.reads_back

pub hpai_has_layout : HasLayout Hpai.layout hpai 8 Hpai.parse_where
hpai_has_layout = HpaiLaws.has_layout

-- ---- builders

-- wherever 01 lets it (6 + body at most 512, and a buffer that holds it), a builder counts what it wrote, and it comes back
abbrev pub Builds : (ServiceType → List ℕ → List ℕ → Told) → (ServiceType → List ℕ → List ℕ → List ℕ) → Type 0
Builds tells after =
    (s : ServiceType) (body b : List ℕ) → 6 + length body ≤ 512 → 6 + length body ≤ length b
    → (tells s body b ≡ done ((6 + length body) ∷ [])) × Back s body b (after s body b)

-- what `FrameBuilder::build` promises to tell and to leave in its buffer
abbrev pub build_tells : ServiceType → List ℕ → List ℕ → Told
build_tells s body b = tells (FrameBuilder.checks (length body) (length b)) (Write.frame s body)

abbrev pub build_leaves : ServiceType → List ℕ → List ℕ → List ℕ
build_leaves s body b = leaves (FrameBuilder.checks (length body) (length b)) (Write.frame s body) b

pub frame-builds : Builds build_tells build_leaves
frame-builds = FrameRoundTrip.builds

-- ---- L_Data: what is built of a builder's fields and data is read back, and so is what a builder wrote

-- fields and data that the builder takes, with room for the frame
abbrev pub ldata_proper : Counting → LDataBuilder × List ℕ → Type 0
ldata_proper c x = verdict (LDataBuilder.checks_in (count_by c) x.0 (length x.1) (LDataRoundTrip.size_in (count_by c) x.0 (length x.1))) ≡ Ok tt

abbrev pub ldata_bytes : Counting → LDataBuilder × List ℕ → List ℕ
ldata_bytes c x = LDataBuilder.frame_in (count_by c) x.0 x.1

abbrev pub ldata : Counting → LDataBuilder × List ℕ → Told
ldata c x = LData.told (Ok (LDataRoundTrip.built_in (count_by c) x.0 (length x.1)))

pub ldata_reads_back : (c : Counting) → ReadsBack (ldata_proper c) (ldata_bytes c) (ldata c) (LData.parse_where (count_by c))
ldata_reads_back c x rest p =
    (LDataRoundTrip.comes_back (count_by c) (lawful c) x.0 x.1 rest (LDataRoundTrip.size_in (count_by c) x.0 (length x.1)) p).fields_back

-- wherever the document lets it, an L_Data builder counts what it wrote, and fields, data and later bytes come back
pub record LDataBack (c : Counting) (b : LDataBuilder) (d buf after : List ℕ) : Type 0 where
  pub fields_back : LData.parse_where (count_by c) after ≡ ldata c (b, d)
  pub data_back : shown after (LData.data_by01 (count_by c) (LDataRoundTrip.built_in (count_by c) b (length d)) after) ≡ d
  pub rest_back : drop (LDataRoundTrip.size_in (count_by c) b (length d)) after ≡ drop (LDataRoundTrip.size_in (count_by c) b (length d)) buf

abbrev pub LDataBuilds : Counting → (LDataBuilder → List ℕ → List ℕ → Told) → (LDataBuilder → List ℕ → List ℕ → List ℕ) → Type 0
LDataBuilds c tells after =
    (b : LDataBuilder) (d buf : List ℕ) → verdict (LDataBuilder.checks_in (count_by c) b (length d) (length buf)) ≡ Ok tt
    → (tells b d buf ≡ done (LDataRoundTrip.size_in (count_by c) b (length d) ∷ [])) × LDataBack c b d buf (after b d buf)

-- what `LDataBuilder::build_in` promises to tell and to leave in its buffer
abbrev pub ldata_tells : Counting → LDataBuilder → List ℕ → List ℕ → Told
ldata_tells c b d buf = tells (LDataBuilder.checks_in (count_by c) b (length d) (length buf)) (ldata_bytes c (b, d))

abbrev pub ldata_leaves : Counting → LDataBuilder → List ℕ → List ℕ → List ℕ
ldata_leaves c b d buf = leaves (LDataBuilder.checks_in (count_by c) b (length d) (length buf)) (ldata_bytes c (b, d)) buf

pub ldata-builds : (c : Counting) → LDataBuilds c (ldata_tells c) (ldata_leaves c)
ldata-builds c b d buf all =
    let w : List ℕ = ldata_bytes c (b, d) in
    let rest : List ℕ = drop (length w) buf in
    let cs : List Check = LDataBuilder.checks_in (count_by c) b (length d) (length buf) in
    let back = LDataRoundTrip.comes_back (count_by c) (lawful c) b d rest (length buf) all in
    let long : length w ≡ LDataRoundTrip.size_in (count_by c) b (length d) = back.size in
    let into : onto buf w ≡ leaves cs w buf = sym (ap (λ (v : Verdict). lent v buf (onto buf w)) all) in
    let stood : LDataBack c b d buf (onto buf w) = record {
      fields_back = back.fields_back;
      data_back = back.data_back;
      rest_back = ap (λ (k : ℕ). drop k (w ++ rest)) (sym long) ∙ drop-append_seam w rest ∙ ap (λ (k : ℕ). drop k buf) long;
    } in
    (let_pass cs (done (length w ∷ [])) all ∙ ap (λ (k : ℕ). done (k ∷ [])) long, subst (LDataBack c b d buf) into stood)

-- ---- round trips, from what one call promises to what the next one promises

pub service_to_from : (s : ServiceType) (code : ℕ) (r : Result ServiceType Fault) → Services.ToPromise s code → Services.FromPromise code r → r ≡ Ok s
service_to_from = ServiceLaws.from_to

pub service_from_to : (code : ℕ) (s : ServiceType) → Services.FromPromise code (Ok s) → Services.ToPromise s code
service_from_to = ServiceLaws.to_from

pub message_code_to_from : (m : CEMIMessageCode) (n : ℕ) (r : Result CEMIMessageCode Fault) → MessageCodes.ToPromise m n → MessageCodes.FromPromise n r → r ≡ Ok m
message_code_to_from = MessageCodeLaws.from_to

pub message_code_from_to : (n : ℕ) (m : CEMIMessageCode) → MessageCodes.FromPromise n (Ok m) → MessageCodes.ToPromise m n
message_code_from_to = MessageCodeLaws.to_from

pub header_encode_parse : (h : KnxnetIpHeader) (b : List ℕ) (n : ℕ) (after : List ℕ) (r : Result KnxnetIpHeader Fault)
    → HeaderLaws.Proper h → Header.EncodePromise h b (Ok n) after → Header.ParsePromise after r → r ≡ Ok h
header_encode_parse = HeaderLaws.encode_parse

pub hpai_encode_parse : (h : Hpai) (b : List ℕ) (n : ℕ) (after : List ℕ) (r : Result Hpai Fault)
    → HpaiLaws.Proper h → Hpai.EncodePromise h b (Ok n) after → Hpai.ParsePromise after r → r ≡ Ok h
hpai_encode_parse = HpaiLaws.encode_parse

pub frame_build_parse : (f : FrameBuilder) (body b : List ℕ) (n : ℕ) (after : List ℕ) (r : Result FrameFields Fault)
    → FrameBuilder.BuildPromise f body b (Ok n) after → Frame.ParsePromise after r → r ≡ Ok (FrameRoundTrip.built f.service_type body)
frame_build_parse = FrameRoundTrip.build_parse

pub frame_build_back : (f : FrameBuilder) (body b : List ℕ) (n : ℕ) (after : List ℕ)
    → FrameBuilder.BuildPromise f body b (Ok n) after → (n ≡ 6 + length body) × Back f.service_type body b after
frame_build_back = FrameRoundTrip.build_back

-- what a frame parse accepts is the header's layout and the body
pub frame_has_layout : (s : List ℕ) (f : FrameFields) (body all : List ℕ) → Bytes s → Frame.ParsePromise s (Ok f)
    → Frame.BodyPartPromise f s body → Frame.DataPartPromise f s all → all ≡ Header.layout f.header ++ body
frame_has_layout = FrameRoundTrip.has_layout

-- ---- services.rs: parsers

pub cri_encode_decode : (c : ConnectionRequestInfo) (b : List ℕ) (n : ℕ) (after : List ℕ) (r : Result ConnectionRequestInfo Fault)
    → Cri.EncodePromise c b (Ok n) after → Cri.DecodePromise after r → r ≡ Ok c
cri_encode_decode = CriLaws.encode_decode

-- but for the reserved byte, which is not looked at
pub cri_has_layout : (s : List ℕ) (c : ConnectionRequestInfo) → Bytes s → Cri.DecodePromise s (Ok c)
    → take 4 s ≡ put Cri.fields (4 ∷ c.connection_type ∷ c.knx_layer ∷ get_or s 3 0 ∷ [])
cri_has_layout = CriLaws.has_layout

pub connection_header_encode_decode : (h : ConnectionHeader) (b : List ℕ) (n : ℕ) (after : List ℕ) (r : Result ConnectionHeader Fault)
    → Connection.EncodePromise h b (Ok n) after → Connection.DecodePromise after r → r ≡ Ok h
connection_header_encode_decode = ConnectionLaws.encode_decode

-- but for the length byte and the reserved byte, which are not looked at
pub connection_header_has_layout : (s : List ℕ) (h : ConnectionHeader) → Bytes s → Connection.DecodePromise s (Ok h)
    → take 4 s ≡ put Connection.fields (get_or s 0 0 ∷ h.channel_id ∷ h.sequence_counter ∷ get_or s 3 0 ∷ [])
connection_header_has_layout = ConnectionLaws.has_layout

pub connect_response_reads_back : (c : ConnectResponse) (rest : List ℕ) → ConnectResponse.Arrays c → c.data_endpoint.structure_length ≡ 8
    → ConnectResponse.parse_where (ConnectResponse.layout c ++ rest) ≡ ConnectResponse.told (Ok c)
connect_response_reads_back = ConnectResponseLaws.reads_back

pub connect_response_has_layout : (s : List ℕ) (c : ConnectResponse) → Bytes s → ConnectResponse.ParsePromise s (Ok c) → take 14 s ≡ ConnectResponse.layout c
connect_response_has_layout = ConnectResponseLaws.has_layout

-- connection state and disconnect responses
pub status_has_layout : (s : List ℕ) (channel code : ℕ) → Bytes s → Channel.status channel code ≡ Channel.status_where s → take 2 s ≡ put Channel.status_fields (channel ∷ code ∷ [])
status_has_layout = ChannelLaws.has_layout

-- but for the two bytes of the connection header that are not looked at
pub ack_has_layout : (s : List ℕ) (a : TunnelingAck) → Bytes s → TunnelingAck.ParsePromise s (Ok a)
    → take 5 s ≡ put TunnelingAck.fields (get_or s 0 0 ∷ a.connection_header.channel_id ∷ a.connection_header.sequence_counter ∷ get_or s 3 0 ∷ a.status ∷ [])
ack_has_layout = TunnelingAckLaws.has_layout

-- ---- services.rs: builders, through the frame's parse and the body's

-- n bytes were counted and p is what parsing the buffer answered: the count is right, p is the frame, and of its body the record is read back (`Reads`, beside each record)

pub ack_round_trip : (a : TunnelingAck) (b : List ℕ) (n : ℕ) (after : List ℕ) (p : Result FrameFields Fault)
    → TunnelingAck.BuildPromise a b (Ok n) after → Frame.ParsePromise after p → Carries ServiceType.TunnellingAck 11 n after p (TunnelingAckLaws.Reads a)
ack_round_trip = TunnelingAckLaws.round_trip

pub tunnel_request_round_trip : (t : TunnelingRequest) (cemi b : List ℕ) (n : ℕ) (after : List ℕ) (p : Result FrameFields Fault)
    → TunnelingRequest.BuildPromise t cemi b (Ok n) after → Frame.ParsePromise after p → Carries ServiceType.TunnellingRequest (10 + length cemi) n after p (TunnelingRequestLaws.Reads t cemi)
tunnel_request_round_trip = TunnelingRequestLaws.round_trip

-- both endpoints and the request information
pub connect_request_round_trip : (q : ConnectRequest) (b : List ℕ) (n : ℕ) (after : List ℕ) (p : Result FrameFields Fault) → ConnectRequestLaws.Proper q
    → ConnectRequest.BuildPromise q b (Ok n) after → Frame.ParsePromise after p → Carries ServiceType.ConnectRequest 26 n after p (ConnectRequestLaws.Reads q)
connect_request_round_trip = ConnectRequestLaws.round_trip

-- channel and endpoint
pub state_request_round_trip : (q : ConnectionStateRequest) (b : List ℕ) (n : ℕ) (after : List ℕ) (p : Result FrameFields Fault) → HpaiLaws.Proper q.control_endpoint
    → Channel.StateBuildPromise q b (Ok n) after → Frame.ParsePromise after p → Carries ServiceType.ConnectionstateRequest 16 n after p (ChannelLaws.Reads q.channel_id q.control_endpoint)
state_request_round_trip q = ChannelLaws.round_trip ServiceType.ConnectionstateRequest q.channel_id q.control_endpoint

pub disconnect_request_round_trip : (q : DisconnectRequest) (b : List ℕ) (n : ℕ) (after : List ℕ) (p : Result FrameFields Fault) → HpaiLaws.Proper q.control_endpoint
    → Channel.DisconnectBuildPromise q b (Ok n) after → Frame.ParsePromise after p → Carries ServiceType.DisconnectRequest 16 n after p (ChannelLaws.Reads q.channel_id q.control_endpoint)
disconnect_request_round_trip q = ChannelLaws.round_trip ServiceType.DisconnectRequest q.channel_id q.control_endpoint

-- ---- cemi.rs: control fields

-- what each accessor promises of a field that `new` made is `new`'s argument; bit 6 of the first is 0, and the second keeps low bits
pub control1-reads : (standard single broadcast : Bool) (priority : Priority) (ack error : Bool) (c : ControlField1)
    → First.NewPromise standard single broadcast priority ack error c → FieldLaws.FirstReads c standard single broadcast priority ack error
control1-reads = FieldLaws.first_reads

pub control2-reads : (group : Bool) (hops format : ℕ) (c : ControlField2) → Second.NewPromise group hops format c → FieldLaws.SecondReads c group hops format
control2-reads = FieldLaws.second_reads

-- ---- cemi.rs: APCI

-- what is read from a code has that code, and a named code is never `Unknown`
pub apci_code_back : (n : ℕ) → Application.code_of (Application.apci_of n) ≡ n
apci_code_back = PciLaws.code_back

pub apci_never_unknown : (n m : ℕ) → Application.apci_of n ≡ Apci.Unknown m → none_of n PciLaws.named ≡ true
apci_never_unknown = PciLaws.never_unknown

-- ---- cemi.rs: cEMI and L_Data

-- what is accepted starts with the layout of the record, and its values are those that stand in the bytes
pub cemi_has_layout : (s : List ℕ) (f : CEMIFrame) → Bytes s → Cemi.ParsePromise s (Ok f)
    → take 2 s ≡ put Cemi.fields (MessageCodes.code_of f.message_code ∷ Cemi.info_length s ∷ [])
cemi_has_layout = CemiLaws.has_layout

pub ldata_has_layout : (s : List ℕ) (f : LDataFields) → Bytes s → LData.ParsePromise s (Ok f)
    → take 8 s ≡ put LData.fields (f.ctrl1.raw ∷ f.ctrl2.raw ∷ f.source.0 ∷ f.destination_raw ∷ f.npdu_length ∷ get_or s 7 0 ∷ [])
ldata_has_layout s f b p = LDataLaws.has_layout crate_count s f p (lawful Crate) b

pub ldata-reads : (s : List ℕ) (f : LDataFields) → LData.ParsePromise s (Ok f) → LData.values f ≡ LData.values_in crate_count s
ldata-reads = LDataLaws.read crate_count

-- a control packet is never a group read, although its code is a group read's
pub control_never_reads : (s : List ℕ) (f : LDataFields) (r : Bool) → LData.ParsePromise s (Ok f) → LData.data_byte (get_or s 7 0) ≡ false → LData.IsServicePromise 0x000 f r → r ≡ false
control_never_reads s f = LDataLaws.control_never crate_count (lawful Crate) s f 0x000

-- the three questions of a service are by its name: a yes says which variant it is
pub is_group_write : (f : LDataFields) → LData.IsServicePromise 0x080 f true → f.apci ≡ Apci.GroupValueWrite
is_group_write f p = PciLaws.named_is f.apci 0x080 (sym p)

pub is_group_read : (f : LDataFields) → LData.IsServicePromise 0x000 f true → f.apci ≡ Apci.GroupValueRead
is_group_read f p = PciLaws.named_is f.apci 0x000 (sym p)

pub is_group_response : (f : LDataFields) → LData.IsServicePromise 0x040 f true → f.apci ≡ Apci.GroupValueResponse
is_group_response f p = PciLaws.named_is f.apci 0x040 (sym p)

-- ---- the L_Data builder, with no premise but that it answered

pub ldata_build_parse : (b : LDataBuilder) (d buf : List ℕ) (n : ℕ) (after : List ℕ) (r : Result LDataFields Fault)
    → LDataBuilder.BuildPromise b d buf (Ok n) after → LData.ParsePromise after r → r ≡ Ok (LDataRoundTrip.built b (length d + 2))
ldata_build_parse b d buf n after r q p = LDataRoundTrip.parsed Crate b d buf n after q r p

pub ldata_round_trip : (b : LDataBuilder) (d buf : List ℕ) (n : ℕ) (after : List ℕ) (f : LDataFields) (part : List ℕ) (six : ℕ)
    → LDataBuilder.BuildPromise b d buf (Ok n) after → LData.ParsePromise after (Ok f) → LData.DataPartPromise f after part
    → Application.SixBitPromise (get_or after 8 0) six → LDataRoundTrip.Back crate_count b d n f part six
ldata_round_trip b d buf n after f part six q p taken sixth = LDataRoundTrip.round_trip Crate b d buf n after q f part six p taken sixth

-- ---- the records that hold their slice, and the C border, agree with the records below them

pub borrowed_body : (s : List ℕ) (f : KnxnetIpFrame) (r : List ℕ) → KnxnetIpFrame.ParsePromise s f → KnxnetIpFrame.BodyPromise f r → KnxnetIpFrame.BodyInPromise s r
borrowed_body = KnxnetIpFrameLaws.body_in

pub borrowed_data : (s : List ℕ) (f : LDataFields) → LData.ParsePromise s (Ok f) → shown s (LData.data_by01 crate_count f s) ≡ LDataFrame.data_in s
borrowed_data = LDataFrameLaws.fields_data Crate

pub borrowed_record_data : (s : List ℕ) (f : LDataFrame) (r : List ℕ) → LDataFrame.ParsePromise s f → LDataFrame.DataPromise f r → LDataFrame.DataInPromise s r
borrowed_record_data = LDataFrameLaws.data_in_lem Crate

-- the view of a frame is the one that `FrameFields::body` answers
pub border_body : (s : List ℕ) (r : KnxFrame) (f : FrameFields) (v : Result View Fault) → KnxReading.FramePromise s r → Frame.ParsePromise s (Ok f) → Frame.BodyPromise f s v
    → v ≡ Ok (record { start = r.start; end = r.end })
border_body = KnxReadingLaws.body_as

-- the numbers of `knx_cemi_ldata` are those of the records that `parse`, `as_ldata` and `data` answer
pub border_ldata : (s : List ℕ) (r : KnxLData) (f : CEMIFrame) (g : LDataFields) (v : Result View Fault)
    → CemiLData.CemiLDataPromise s r → Cemi.ParsePromise s (Ok f) → Cemi.AsLDataPromise f s (Ok g) → LData.DataPromise g (Cemi.service_info s) v
    → CemiLData.told r ≡ record {
      number = 0;
      values =
          MessageCodes.code_of f.message_code ∷ take 7 (LData.values g) ++ CemiLData.apci_numbers (is_data g.tpci) g.apci
          ++ CemiLData.six_bit_in (is_data g.tpci) (get_or (Cemi.service_info s) 8 0) ∷ [];
      start = 2 + Cemi.info_length s + (Parts.told v).start;
      end = 2 + Cemi.info_length s + (Parts.told v).end;
      offset = 0;
    }
border_ldata = CemiLDataLaws.ldata_as Crate

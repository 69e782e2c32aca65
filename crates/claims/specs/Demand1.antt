-- Demand 1: a number other than 0 is one of 1 to 14, comes with zeros and an empty view, and changes no lent byte. One theorem for each public function that can refuse, under its name, over the promise that its contract names; at the end the functions that refuse nothing. That nothing faults, wraps or hangs is the gate's verdict on functions without a `requires`.
use Rattle.std.specs.Prelude.{ℕ, ◌+◌, ◌≡◌, refl, List, [], ◌∷◌, ◌++◌, length, Bool, Result, Err, Option, Ok, IsOk}
use Rattle.std.proofs.Common.{ap, sym, subst, ◌∙◌, arith}
use Rattle.wire.specs.Told.{done, refused, viewed, verdict, answer}
use Rattle.wire.specs.Layout.{get}
use Rattle.wire.specs.Writing.{WritePromise, Write3Promise, room}
use Rattle.wire.specs.Writing as Writing
use Rattle.wire.specs.Parts as Parts
use Rattle.wire.specs.PartLaws.{shown-refused}
use Rattle.wire.specs.PartLaws as PartLaws
use Rattle.wire.specs.declared.refusals.Fault.{Fault}
use Rattle.wire.specs.declared.refusals.Refusal.{Refusal}
use Rattle.wire.specs.declared.refusals.Refusal.TheVariants.{AwaitsNothing}
use Rattle.wire.specs.Told.{Verdict}
use Rattle.wire.specs.Format.{checks_of}
use Rattle.wire.specs.Refusing.{Zeros, Refusing, Leaves, refused-zeros, judged-refusing, writes_refusing}
use Rattle.wire.specs.declared.parts.View.{View}
use Rattle.constants.specs.Services.{service_check, code_of}
use Rattle.constants.specs.Services as Services
use Rattle.wire.specs.Coding.{check}
use Rattle.constants.specs.MessageCodes as MessageCodes
use Rattle.constants.specs.declared.services.ServiceType.{ServiceType}
use Rattle.pci.specs.Transport.{is_data}
use Rattle.ldata.specs.Count.{start_of, crate_count, standard_count, count_by}
use Rattle.ldata.specs.LData as LData
use Rattle.ldata.specs.Builder as LDataBuilder
use Rattle.ldata.specs.declared.count.Counting.{Counting}
use Rattle.ldata.specs.declared.count.Counting.TheVariants.{Crate, Standard}
use Rattle.ldata.specs.declared.ldata.LDataFields.{LDataFields}
use Rattle.ldata.specs.declared.builder.LDataBuilder.{LDataBuilder}
use Rattle.additional_info.specs.InfoType as InfoType
use Rattle.additional_info.specs.Area as Area
use Rattle.additional_info.specs.AreaLaws.{first-refusing, nth_refusing}
use Rattle.additional_info.specs.Appending as Appending
use Rattle.additional_info.specs.declared.info_type.AdditionalInfoType.{AdditionalInfoType}
use Rattle.cemi.specs.Cemi as Cemi
use Rattle.cemi.specs.declared.CEMIFrame.{CEMIFrame}
use Rattle.header.specs.Header as Header
use Rattle.header.specs.declared.KnxnetIpHeader.{KnxnetIpHeader}
use Rattle.frame.specs.Frame as Frame
use Rattle.frame.specs.Builder as FrameBuilder
use Rattle.frame.specs.Write as Write
use Rattle.frame.specs.declared.frame.FrameFields.{FrameFields}
use Rattle.frame.specs.declared.builder.FrameBuilder.{FrameBuilder}
use Rattle.hpai.specs.Hpai as Hpai
use Rattle.hpai.specs.declared.Hpai.{Hpai}
use Rattle.connect.specs.Cri as Cri
use Rattle.connect.specs.Request as ConnectRequest
use Rattle.connect.specs.Response as ConnectResponse
use Rattle.connect.specs.Channel as Channel
use Rattle.connect.specs.declared.cri.ConnectionRequestInfo.{ConnectionRequestInfo}
use Rattle.connect.specs.declared.request.ConnectRequest.{ConnectRequest}
use Rattle.connect.specs.declared.response.ConnectResponse.{ConnectResponse}
use Rattle.connect.specs.declared.channel.ConnectionStateRequest.{ConnectionStateRequest}
use Rattle.connect.specs.declared.channel.DisconnectRequest.{DisconnectRequest}
use Rattle.connect.specs.declared.channel.DisconnectResponse.{DisconnectResponse}
use Rattle.tunnelling.specs.Connection as Connection
use Rattle.tunnelling.specs.Request as TunnelingRequest
use Rattle.tunnelling.specs.Ack as TunnelingAck
use Rattle.tunnelling.specs.AckForm as AckForm
use Rattle.tunnelling.specs.declared.form.Form.{Form}
use Rattle.tunnelling.specs.declared.connection.ConnectionHeader.{ConnectionHeader}
use Rattle.tunnelling.specs.declared.request.TunnelingRequest.{TunnelingRequest}
use Rattle.tunnelling.specs.declared.ack.TunnelingAck.{TunnelingAck}
use Rattle.tunnel_model.specs.Calls.{Call, Open, Close, Timeout, Send, Datagram, DatagramIn, out_of}
use Rattle.frame.specs.Judging as Judging
use Rattle.inspection.specs.Lines as InspectionLines
use Rattle.frame.specs.declared.judging.Judged.{Judged}
use Rattle.tunnel_datagram.specs.Hearing as Hearing
use Rattle.tunnel_datagram.specs.HearingLaws as HearingLaws
use Rattle.tunnel_datagram.specs.declared.hearing.Heard.{Heard}
use Rattle.tunnel.specs.Rules as Rules
use Rattle.tunnel.specs.RuleLaws as RuleLaws
use Rattle.tunnel.specs.declared.rules.Tunnel.{Tunnel}
use Rattle.tunnel.specs.declared.rules.Stepped.{Stepped}
use Rattle.borrowed.specs.KnxnetIpFrame as KnxnetIpFrame
use Rattle.borrowed.specs.KnxnetIpFrameLaws as KnxnetIpFrameLaws
use Rattle.borrowed.specs.LDataFrame as LDataFrame
use Rattle.borrowed.specs.LDataFrameLaws as LDataFrameLaws
use Rattle.borrowed.specs.declared.knxnet_ip_frame.KnxnetIpFrame.{KnxnetIpFrame}
use Rattle.borrowed.specs.declared.ldata_frame.LDataFrame.{LDataFrame}
use Rattle.tunnel_table.specs.Table.{CallPromise}
use Rattle.tunnel_table.specs.Table as Table
use Rattle.tunnel_table.specs.Compiled as Compiled
use Rattle.tunnel_table.specs.declared.table.Table.{Table}
use Rattle.tunnel_model.specs.Store.{step}
use Rattle.tunnel_model.specs.Table.{chan, store_of, empty_of}
use Rattle.tunnel_table.specs.Places.{Place, kind}
use Rattle.tunnel_image.specs.Image as Image
use Rattle.knx.specs.Reading as KnxReading
use Rattle.knx.specs.Channel as KnxChannel
use Rattle.knx.specs.CemiLData as CemiLData
use Rattle.knx.specs.Building as Building
use Rattle.knx.specs.BuildingLaws.{tells-refusing}
use Rattle.knx.specs.Info as KnxInfo
use Rattle.knx.specs.Called as Called
use Rattle.knx.specs.CalledLaws as CalledLaws
use Rattle.knx.specs.declared.reading.KnxFrame.{KnxFrame}
use Rattle.knx.specs.declared.reading.KnxHpai.{KnxHpai}
use Rattle.knx.specs.declared.reading.KnxConnectResponse.{KnxConnectResponse}
use Rattle.knx.specs.declared.channel.KnxStatus.{KnxStatus}
use Rattle.knx.specs.declared.channel.KnxDisconnectRequest.{KnxDisconnectRequest}
use Rattle.knx.specs.declared.cemi_ldata.KnxLData.{KnxLData}
use Rattle.knx.specs.declared.info.KnxPart.{KnxPart}
use Rattle.knx.specs.declared.info.KnxAdditionalInfo.{KnxAdditionalInfo}
use Rattle.knx.specs.declared.info.KnxCount.{KnxCount}
use Rattle.knx.specs.declared.building.KnxWritten.{KnxWritten}
use Rattle.knx.specs.declared.building.KnxEndpoint.{KnxEndpoint}
use Rattle.knx.specs.declared.called.KnxCalled.{KnxCalled}
use Rattle.connect.specs.declared.channel.ConnectionStateResponse.{ConnectionStateResponse}
use Rattle.constants.specs.declared.message_codes.CEMIMessageCode.{CEMIMessageCode}
use Rattle.additional_info.specs.declared.area.AdditionalInfo.{AdditionalInfo}

-- ---- wire

-- a view that is refused tells its number and zeros
pub view_refused : (e : Fault) → Zeros (Parts.told (Err e))
view_refused e = refused-zeros 0 e

-- wire::shown
pub shown_refused : (s : List ℕ) (e : Fault) (r : List ℕ) → Parts.ShownPromise s (Err e) r → r ≡ []
shown_refused s e r p = p ∙ PartLaws.part_is s 0 0 (omega arith) (omega arith)

-- wire::write
pub write : (w b : List ℕ) (r : Result ℕ Refusal) (after : List ℕ) → WritePromise w b r after → Refusing (Writing.told r) × Leaves (Writing.told r) b after
write w b = writes_refusing (room (length w) (length b) ∷ []) w b

-- wire::write3
pub write3 : (u v w b : List ℕ) (r : Result ℕ Refusal) (after : List ℕ) → Write3Promise u v w b r after → Refusing (Writing.told r) × Leaves (Writing.told r) b after
write3 u v w = write (u ++ v ++ w)

-- ---- constants

-- constants::ServiceType::from_u16
pub service_from : (code : ℕ) (r : Result ServiceType Fault) → Services.FromPromise code r → Refusing (Services.told r)
service_from code r = judged-refusing (service_check code ∷ []) (done (code ∷ [])) (Services.told r) refl

-- constants::CEMIMessageCode::from_u8
pub message_code_from : (n : ℕ) (r : Result CEMIMessageCode Fault) → MessageCodes.FromPromise n r → Refusing (MessageCodes.told r)
message_code_from n r = judged-refusing (check MessageCodes.message_codes n ∷ []) (done (n ∷ [])) (MessageCodes.told r) refl

-- ---- ldata

-- ldata::LDataFields::parse_in
pub ldata_parse_in : (c : Counting) (s : List ℕ) (r : Result LDataFields Fault) → LData.ParseInPromise c s r → Refusing (LData.told r)
ldata_parse_in c s r = judged-refusing (LData.byte_checks (count_by c) s) (done (LData.values_in (count_by c) s)) (LData.told r) refl

-- ldata::LDataFields::parse
pub ldata_parse : (s : List ℕ) (r : Result LDataFields Fault) → LData.ParsePromise s r → Refusing (LData.told r)
ldata_parse = ldata_parse_in Crate

-- ldata::LDataFields::data_in
pub ldata_data_in : (c : Counting) (f : LDataFields) (s : List ℕ) (r : Result View Fault) → LData.DataInPromise c f s r → Refusing (Parts.told r)
ldata_data_in c f s r =
    judged-refusing (LData.record_checks (count_by c) f (length s)) (viewed (start_of (is_data f.tpci)) ((count_by c).end_of f.npdu_length)) (Parts.told r) refl

-- ldata::LDataFields::data
pub ldata_data : (f : LDataFields) (s : List ℕ) (r : Result View Fault) → LData.DataPromise f s r → Refusing (Parts.told r)
ldata_data = ldata_data_in Crate

-- ldata::LDataFields::data_part_in
pub ldata_data_part_in : (c : Counting) (f : LDataFields) (s r : List ℕ) (e : Refusal) → LData.DataPartInPromise c f s r → verdict (LData.record_checks (count_by c) f (length s)) ≡ Err e → r ≡ []
ldata_data_part_in c f s r e p q =
    p ∙ shown-refused (LData.record_checks (count_by c) f (length s)) (viewed (start_of (is_data f.tpci)) ((count_by c).end_of f.npdu_length)) e s q

-- ldata::LDataFields::data_part
pub ldata_data_part : (f : LDataFields) (s r : List ℕ) (e : Refusal) → LData.DataPartPromise f s r → verdict (LData.record_checks crate_count f (length s)) ≡ Err e → r ≡ []
ldata_data_part = ldata_data_part_in Crate

-- ldata::LDataBuilder::build_in
pub ldata_build_in : (c : Counting) (b : LDataBuilder) (d buf : List ℕ) (r : Result ℕ Refusal) (after : List ℕ)
    → LDataBuilder.BuildInPromise c b d buf r after → Refusing (Writing.told r) × Leaves (Writing.told r) buf after
ldata_build_in c b d buf = writes_refusing (LDataBuilder.checks_in (count_by c) b (length d) (length buf)) (LDataBuilder.frame_in (count_by c) b d) buf

-- ldata::LDataBuilder::build
pub ldata_build : (b : LDataBuilder) (d buf : List ℕ) (r : Result ℕ Refusal) (after : List ℕ)
    → LDataBuilder.BuildPromise b d buf r after → Refusing (Writing.told r) × Leaves (Writing.told r) buf after
ldata_build = ldata_build_in Crate

-- ---- additional_info

-- additional_info::AdditionalInfo::parse
pub info_parse : (s : List ℕ) (r : Result (Option AdditionalInfo) Fault) → Area.ParsePromise s r → Refusing (Area.told r)
info_parse s r p = rw p (first-refusing s)

-- additional_info::count
pub info-count : (s : List ℕ) (r : Result ℕ Fault) → Area.CountPromise s r → Refusing (Area.told_count r)
info-count s r = judged-refusing (Area.area_check s ∷ []) (done (length (Area.all_in s) ∷ [])) (Area.told_count r) refl

-- additional_info::nth
pub info_nth : (s : List ℕ) (n : ℕ) (r : Result (Option AdditionalInfo) Fault) → Area.NthPromise s n r → Refusing (Area.told r)
info_nth s n r p = rw p (nth_refusing s n)

-- additional_info::judge
pub info_judge : (s : List ℕ) (n : ℕ) (r : Verdict) → Appending.JudgePromise s n r → Refusing (answer r (done []))
info_judge s n r p = judged-refusing (Appending.area_checks s n) (done []) (answer r (done [])) refl (ap (λ (v : Verdict). answer v (done [])) p)

-- additional_info::append
pub info-append : (s : List ℕ) (t : AdditionalInfoType) (d b : List ℕ) (r : Result ℕ Refusal) (after : List ℕ)
    → Appending.AppendPromise s t d b r after → Refusing (Writing.told r) × Leaves (Writing.told r) b after
info-append s t d b = writes_refusing (Appending.checks s (length d) (length b)) (Appending.appended s (record { code = InfoType.code_of t; «data» = d })) b

-- ---- cemi

-- cemi::CEMIFrame::additional_info
pub cemi-info : (s : List ℕ) (r : Result View Fault) → Cemi.InfoPromise s r → Refusing (Parts.told r)
cemi-info s r = judged-refusing (Cemi.checks s ++ Cemi.info_check s ∷ []) (viewed 2 (2 + Cemi.info_length s)) (Parts.told r) refl

-- cemi::CEMIFrame::additional_info_part
pub cemi_info_part : (s r : List ℕ) (e : Refusal) → Cemi.InfoPartPromise s r → verdict (Cemi.checks s ++ Cemi.info_check s ∷ []) ≡ Err e → r ≡ []
cemi_info_part s r e p q = p ∙ shown-refused (Cemi.checks s ++ Cemi.info_check s ∷ []) (viewed 2 (2 + Cemi.info_length s)) e s q

-- cemi::CEMIFrame::build
pub cemi_build : (f : CEMIFrame) (area rest b : List ℕ) (r : Result ℕ Refusal) (after : List ℕ)
    → Cemi.BuildPromise f area rest b r after → Refusing (Writing.told r) × Leaves (Writing.told r) b after
cemi_build f area rest b = writes_refusing (Cemi.build_checks area (length rest) (length b)) (Cemi.layout (MessageCodes.code_of f.message_code) area rest) b

-- cemi::CEMIFrame::parse
pub cemi_parse : (s : List ℕ) (r : Result CEMIFrame Fault) → Cemi.ParsePromise s r → Refusing (Cemi.told r)
cemi_parse s r = judged-refusing (Cemi.checks s) (done (Cemi.code_in s ∷ [])) (Cemi.told r) refl

-- cemi::CEMIFrame::additional_info_length
pub cemi_info_length : (s : List ℕ) (r : Result ℕ Fault) → Cemi.InfoLengthPromise s r → Refusing (Cemi.told_length r)
cemi_info_length s r = judged-refusing (Cemi.checks s) (done (Cemi.info_length s ∷ [])) (Cemi.told_length r) refl

-- cemi::CEMIFrame::service_info
pub cemi_service_info : (s : List ℕ) (r : Result View Fault) → Cemi.ServiceInfoPromise s r → Refusing (Parts.told r)
cemi_service_info s r = judged-refusing (Cemi.checks s ++ Cemi.info_check s ∷ []) (viewed (2 + Cemi.info_length s) (length s)) (Parts.told r) refl

-- cemi::CEMIFrame::service_info_part
pub cemi_service_info_part : (s r : List ℕ) (e : Refusal) → Cemi.ServiceInfoPartPromise s r → verdict (Cemi.checks s ++ Cemi.info_check s ∷ []) ≡ Err e → r ≡ []
cemi_service_info_part s r e p q = p ∙ shown-refused (Cemi.checks s ++ Cemi.info_check s ∷ []) (viewed (2 + Cemi.info_length s) (length s)) e s q

-- cemi::CEMIFrame::as_ldata_in
pub cemi_as_ldata_in : (c : Counting) (f : CEMIFrame) (s : List ℕ) (r : Result LDataFields Fault) → Cemi.AsLDataInPromise c f s r → Refusing (LData.told r)
cemi_as_ldata_in c f s r =
    judged-refusing (Cemi.checks s ++ Cemi.ldata_checks f s ++ LData.byte_checks (count_by c) (Cemi.service_info s)) (done (LData.values_in (count_by c) (Cemi.service_info s))) (LData.told r) refl

-- cemi::CEMIFrame::as_ldata
pub cemi_as_ldata : (f : CEMIFrame) (s : List ℕ) (r : Result LDataFields Fault) → Cemi.AsLDataPromise f s r → Refusing (LData.told r)
cemi_as_ldata = cemi_as_ldata_in Crate

-- ---- header

-- header::KnxnetIpHeader::new
pub header_new : (s : ServiceType) (n : ℕ) (r : Result KnxnetIpHeader Fault) → Header.NewPromise s n r → Refusing (Header.told r)
header_new s n r = judged-refusing (Header.new_checks n) (done (Header.made s n)) (Header.told r) refl

-- header::KnxnetIpHeader::parse
pub header_parse : (s : List ℕ) (r : Result KnxnetIpHeader Fault) → Header.ParsePromise s r → Refusing (Header.told r)
header_parse s r = judged-refusing (Header.checks (length s) (get Header.fields 0 s)) (done (get Header.fields 0 s)) (Header.told r) refl

-- header::KnxnetIpHeader::encode
pub header_encode : (h : KnxnetIpHeader) (b : List ℕ) (r : Result ℕ Refusal) (after : List ℕ) → Header.EncodePromise h b r after → Refusing (Writing.told r) × Leaves (Writing.told r) b after
header_encode h b = writes_refusing (Header.encode_checks (length b)) (Header.layout h) b

-- ---- frame

-- frame::FrameFields::parse
pub frame_parse : (s : List ℕ) (r : Result FrameFields Fault) → Frame.ParsePromise s r → Refusing (Frame.told r)
frame_parse s r = judged-refusing (Frame.checks (length s) (get Header.fields 0 s)) (done (get Header.fields 0 s)) (Frame.told r) refl

-- frame::FrameFields::header
pub frame-header : (f : FrameFields) (s : List ℕ) (r : Result KnxnetIpHeader Fault) → Frame.HeaderPromise f s r → Refusing (Header.told r)
frame-header f s r = judged-refusing (Frame.record_checks f (length s)) (done (Header.values f.header)) (Header.told r) refl

-- frame::FrameFields::service_type
pub frame_service_type : (f : FrameFields) (s : List ℕ) (r : Result ServiceType Fault) → Frame.ServiceTypePromise f s r → Refusing (Services.told r)
frame_service_type f s r = judged-refusing (Frame.record_checks f (length s)) (done (code_of f.header.service_type ∷ [])) (Services.told r) refl

-- frame::FrameFields::body
pub frame-body : (f : FrameFields) (s : List ℕ) (r : Result View Fault) → Frame.BodyPromise f s r → Refusing (Parts.told r)
frame-body f s r = judged-refusing (Frame.record_checks f (length s)) (viewed 6 f.header.total_length) (Parts.told r) refl

-- frame::FrameFields::data
pub frame_data : (f : FrameFields) (s : List ℕ) (r : Result View Fault) → Frame.DataPromise f s r → Refusing (Parts.told r)
frame_data f s r = judged-refusing (Frame.record_checks f (length s)) (viewed 0 f.header.total_length) (Parts.told r) refl

-- frame::FrameFields::body_part
pub frame_body_part : (f : FrameFields) (s r : List ℕ) (e : Refusal) → verdict (Frame.record_checks f (length s)) ≡ Err e → Frame.BodyPartPromise f s r → r ≡ []
frame_body_part f s r e v q = q ∙ shown-refused (Frame.record_checks f (length s)) (viewed 6 f.header.total_length) e s v

-- frame::FrameFields::data_part
pub frame_data_part : (f : FrameFields) (s r : List ℕ) (e : Refusal) → verdict (Frame.record_checks f (length s)) ≡ Err e → Frame.DataPartPromise f s r → r ≡ []
frame_data_part f s r e v q = q ∙ shown-refused (Frame.record_checks f (length s)) (viewed 0 f.header.total_length) e s v

-- frame::judge
pub frame_judge : (s : List ℕ) (r : Result Judged Fault) → Judging.JudgePromise s r → Refusing (Judging.told r)
frame_judge s r = judged-refusing (Frame.checks (length s) (get Header.fields 0 s)) (done (Header.service_in (get Header.fields 0 s) ∷ Header.total_in (get Header.fields 0 s) ∷ [])) (Judging.told r) refl

-- frame::FrameBuilder::build
pub frame_build : (f : FrameBuilder) (body b : List ℕ) (r : Result ℕ Refusal) (after : List ℕ) → FrameBuilder.BuildPromise f body b r after → Refusing (Writing.told r) × Leaves (Writing.told r) b after
frame_build f body b = writes_refusing (FrameBuilder.checks (length body) (length b)) (Write.frame f.service_type body) b

-- frame::write_frame
pub frame_write : (s : ServiceType) (body b : List ℕ) (r : Result ℕ Refusal) (after : List ℕ) → Write.WriteFramePromise s body b r after → Refusing (Writing.told r) × Leaves (Writing.told r) b after
frame_write s body b = writes_refusing (Write.frame_checks (length body) (length b)) (Write.frame s body) b

-- frame::write_frame2
pub frame_write2 : (s : ServiceType) (a c b : List ℕ) (r : Result ℕ Refusal) (after : List ℕ) → Write.WriteFrame2Promise s a c b r after → Refusing (Writing.told r) × Leaves (Writing.told r) b after
frame_write2 s a c = frame_write s (a ++ c)

-- frame::write_frame3
pub frame_write3 : (s : ServiceType) (a c d b : List ℕ) (r : Result ℕ Refusal) (after : List ℕ) → Write.WriteFrame3Promise s a c d b r after → Refusing (Writing.told r) × Leaves (Writing.told r) b after
frame_write3 s a c d = frame_write s (a ++ c ++ d)

-- ---- hpai

-- hpai::Hpai::parse
pub hpai_parse : (s : List ℕ) (r : Result Hpai Fault) → Hpai.ParsePromise s r → Refusing (Hpai.told r)
hpai_parse s r = judged-refusing (Hpai.checks (length s) (get Hpai.fields 0 s)) (done (get Hpai.fields 0 s)) (Hpai.told r) refl

-- hpai::Hpai::encode
pub hpai_encode : (h : Hpai) (b : List ℕ) (r : Result ℕ Refusal) (after : List ℕ) → Hpai.EncodePromise h b r after → Refusing (Writing.told r) × Leaves (Writing.told r) b after
hpai_encode h b = writes_refusing (Hpai.encode_checks (length b)) (Hpai.layout h) b

-- ---- connect

-- connect::ConnectionRequestInfo::encode
pub cri_encode : (c : ConnectionRequestInfo) (b : List ℕ) (r : Result ℕ Refusal) (after : List ℕ) → Cri.EncodePromise c b r after → Refusing (Writing.told r) × Leaves (Writing.told r) b after
cri_encode c b = writes_refusing (Cri.encode_checks (length b)) (Cri.layout c) b

-- connect::ConnectionRequestInfo::decode
pub cri_decode : (s : List ℕ) (r : Result ConnectionRequestInfo Fault) → Cri.DecodePromise s r → Refusing (Cri.told r)
cri_decode s r = judged-refusing (Cri.checks (length s) (get Cri.fields 0 s)) (done (Cri.values_in (get Cri.fields 0 s))) (Cri.told r) refl

-- connect::ConnectRequest::build
pub connect_request_build : (q : ConnectRequest) (b : List ℕ) (r : Result ℕ Refusal) (after : List ℕ) → ConnectRequest.BuildPromise q b r after → Refusing (Writing.told r) × Leaves (Writing.told r) b after
connect_request_build q b = writes_refusing (ConnectRequest.build_checks (length b)) (Write.frame ServiceType.ConnectRequest (ConnectRequest.layout q)) b

-- connect::ConnectResponse::parse
pub connect_response_parse : (s : List ℕ) (r : Result ConnectResponse Fault) → ConnectResponse.ParsePromise s r → Refusing (ConnectResponse.told r)
connect_response_parse s r p = judged-refusing (ConnectResponse.checks (length s) (get ConnectResponse.fields 0 s)) (done (get ConnectResponse.fields 0 s)) (ConnectResponse.told r) refl p.0

-- connect::ConnectResponse::parse_standard
pub connect_response_parse_standard : (s : List ℕ) (r : Result ConnectResponse Fault) → ConnectResponse.ParseStandardPromise s r → Refusing (ConnectResponse.told r)
connect_response_parse_standard s r p =
    judged-refusing (ConnectResponse.knx_checks (length s) (get ConnectResponse.fields 0 s)) (done (ConnectResponse.knx_values (get ConnectResponse.fields 0 s))) (ConnectResponse.told r) refl p.0

-- both requests of 16 bytes
channel_request : (s : ServiceType) (channel : ℕ) (h : Hpai) (b : List ℕ) (r : Result ℕ Refusal) (after : List ℕ)
    → Channel.RequestPromise s channel h b r after → Refusing (Writing.told r) × Leaves (Writing.told r) b after
channel_request s channel h b = writes_refusing (Channel.request_checks (length b)) (Write.frame s (Channel.request_layout channel h)) b

-- connect::ConnectionStateRequest::build
pub state_request_build : (q : ConnectionStateRequest) (b : List ℕ) (r : Result ℕ Refusal) (after : List ℕ) → Channel.StateBuildPromise q b r after → Refusing (Writing.told r) × Leaves (Writing.told r) b after
state_request_build q = channel_request ServiceType.ConnectionstateRequest q.channel_id q.control_endpoint

-- connect::DisconnectRequest::build
pub disconnect_request_build : (q : DisconnectRequest) (b : List ℕ) (r : Result ℕ Refusal) (after : List ℕ) → Channel.DisconnectBuildPromise q b r after → Refusing (Writing.told r) × Leaves (Writing.told r) b after
disconnect_request_build q = channel_request ServiceType.DisconnectRequest q.channel_id q.control_endpoint

-- connect::DisconnectRequest::parse
pub disconnect_request_parse : (s : List ℕ) (r : Result DisconnectRequest Fault) → Channel.DisconnectRequestParsePromise s r → Refusing (Channel.told_request r)
disconnect_request_parse s r =
    let vs = get Channel.request_fields 0 s in
    judged-refusing (checks_of Channel.request_format (length s) vs) (done ((Channel.request_format).values_in vs)) (Channel.told_request r) refl

-- connect::DisconnectResponse::build
pub disconnect_response_build : (q : DisconnectResponse) (b : List ℕ) (r : Result ℕ Refusal) (after : List ℕ) → Channel.DisconnectResponseBuildPromise q b r after → Refusing (Writing.told r) × Leaves (Writing.told r) b after
disconnect_response_build q b = writes_refusing (Channel.response_checks (length b)) (Write.frame ServiceType.DisconnectResponse (Channel.status_layout q.channel_id q.status)) b

-- connect::ConnectionStateResponse::parse
pub state_response_parse : (s : List ℕ) (r : Result ConnectionStateResponse Fault) → Channel.StateParsePromise s r → Refusing (Channel.told_state r)
state_response_parse s r = judged-refusing (checks_of Channel.status_format (length s) (get Channel.status_fields 0 s)) (done (get Channel.status_fields 0 s)) (Channel.told_state r) refl

-- connect::DisconnectResponse::parse
pub disconnect_response_parse : (s : List ℕ) (r : Result DisconnectResponse Fault) → Channel.DisconnectParsePromise s r → Refusing (Channel.told_disconnect r)
disconnect_response_parse s r = judged-refusing (checks_of Channel.status_format (length s) (get Channel.status_fields 0 s)) (done (get Channel.status_fields 0 s)) (Channel.told_disconnect r) refl

-- ---- tunnelling

-- tunnelling::ConnectionHeader::encode
pub connection_header_encode : (h : ConnectionHeader) (b : List ℕ) (r : Result ℕ Refusal) (after : List ℕ) → Connection.EncodePromise h b r after → Refusing (Writing.told r) × Leaves (Writing.told r) b after
connection_header_encode h b = writes_refusing (Connection.encode_checks (length b)) (Connection.layout h) b

-- tunnelling::ConnectionHeader::decode
pub connection_header_decode : (s : List ℕ) (r : Result ConnectionHeader Fault) → Connection.DecodePromise s r → Refusing (Connection.told r)
connection_header_decode s r = judged-refusing (Connection.checks (length s)) (done (Connection.values_in (get Connection.fields 0 s))) (Connection.told r) refl

-- tunnelling::TunnelingRequest::build
pub tunnel_request_build : (t : TunnelingRequest) (cemi b : List ℕ) (r : Result ℕ Refusal) (after : List ℕ) → TunnelingRequest.BuildPromise t cemi b r after → Refusing (Writing.told r) × Leaves (Writing.told r) b after
tunnel_request_build t cemi b = writes_refusing (TunnelingRequest.build_checks (length cemi) (length b)) (Write.frame ServiceType.TunnellingRequest (TunnelingRequest.body t.connection_header cemi)) b

-- tunnelling::TunnelingRequest::parse
pub tunnel_request_parse : (s : List ℕ) (r : Result TunnelingRequest Fault) → TunnelingRequest.ParsePromise s r → Refusing (TunnelingRequest.told r)
tunnel_request_parse s r = judged-refusing (Connection.checks (length s)) (done (Connection.values_in (get Connection.fields 0 s))) (TunnelingRequest.told r) refl

-- tunnelling::TunnelingRequest::cemi_data
pub tunnel_request_cemi : (s : List ℕ) (r : Result View Fault) → TunnelingRequest.CemiDataPromise s r → Refusing (Parts.told r)
tunnel_request_cemi s r = judged-refusing (Connection.checks (length s)) (viewed 4 (length s)) (Parts.told r) refl

-- tunnelling::TunnelingRequest::cemi_part
pub tunnel_request_cemi_part : (s r : List ℕ) (e : Refusal) → verdict (Connection.checks (length s)) ≡ Err e → TunnelingRequest.CemiPartPromise s r → r ≡ []
tunnel_request_cemi_part s r e v q = q ∙ shown-refused (Connection.checks (length s)) (viewed 4 (length s)) e s v

-- tunnelling::TunnelingAck::build_in
pub ack_build_in : (f : Form) (a : TunnelingAck) (b : List ℕ) (r : Result ℕ Refusal) (after : List ℕ) → AckForm.BuildInPromise f a b r after → Refusing (Writing.told r) × Leaves (Writing.told r) b after
ack_build_in f a b = writes_refusing (AckForm.build_checks (AckForm.form_by f) (length b)) (Write.frame ServiceType.TunnellingAck (AckForm.layout (AckForm.form_by f) a)) b

-- tunnelling::TunnelingAck::build
pub ack_build : (a : TunnelingAck) (b : List ℕ) (r : Result ℕ Refusal) (after : List ℕ) → TunnelingAck.BuildPromise a b r after → Refusing (Writing.told r) × Leaves (Writing.told r) b after
ack_build = ack_build_in Form.Crate

-- tunnelling::TunnelingAck::parse_in
pub ack_parse_in : (f : Form) (s : List ℕ) (r : Result TunnelingAck Fault) → AckForm.ParseInPromise f s r → Refusing (TunnelingAck.told r)
ack_parse_in f s r =
    let F = AckForm.form_by f in
    judged-refusing (AckForm.checks F (length s)) (done (AckForm.values_in F (get F.fields 0 s))) (TunnelingAck.told r) refl

-- tunnelling::TunnelingAck::parse
pub ack_parse : (s : List ℕ) (r : Result TunnelingAck Fault) → TunnelingAck.ParsePromise s r → Refusing (TunnelingAck.told r)
ack_parse = ack_parse_in Form.Crate

-- ---- datagram

-- tunnel_datagram::hear
pub datagram_hear : (s : List ℕ) (r : Result Heard Fault) → Hearing.HearPromise s r → Refusing (Hearing.told r)
datagram_hear s r p = HearingLaws.heard-refusing r

-- tunnel_datagram::hear_in
pub datagram_hear_in : (f : Form) (s : List ℕ) (r : Result Heard Fault) → Hearing.HearInPromise f s r → Refusing (Hearing.told r)
datagram_hear_in f s r p = HearingLaws.heard-refusing r

-- ---- tunnel: a refusal is 11, and has nothing beside it: the caller's tunnel, which came by value, is as it was

-- tunnel::Tunnel::timeout
pub tunnel_timeout : (t : Tunnel) (e : Refusal) → Rules.TimeoutPromise t (Err e) → e ≡ AwaitsNothing
tunnel_timeout = RuleLaws.timeout_refusing

-- tunnel::Tunnel::acknowledged
pub tunnel_acknowledged : (t : Tunnel) (n status : ℕ) (r : Result Stepped Refusal) → Rules.AcknowledgedPromise t n status r → IsOk r
tunnel_acknowledged = RuleLaws.acknowledged_done

-- ---- kip

-- inspection::line
pub inspection_line : (n : ℕ) (j : Result Judged ℕ) (out : List ℕ) (r : Result ℕ Refusal) (after : List ℕ) → InspectionLines.LinePromise n j out r after → Refusing (Writing.told r) × Leaves (Writing.told r) out after
inspection_line n j out = writes_refusing (room (length (InspectionLines.line_of n j)) (length out) ∷ []) (InspectionLines.line_of n j) out

-- inspection::heading
pub inspection_heading : (kip : Bool) (out : List ℕ) (r : Result ℕ Refusal) (after : List ℕ) → InspectionLines.HeadingPromise kip out r after → Refusing (Writing.told r) × Leaves (Writing.told r) out after
inspection_heading kip out = writes_refusing (room (length (InspectionLines.heading_of kip)) (length out) ∷ []) (InspectionLines.heading_of kip) out

-- inspection::ending
pub inspection_ending : (n : ℕ) (cut : Bool) (out : List ℕ) (r : Result ℕ Refusal) (after : List ℕ) → InspectionLines.EndingPromise n cut out r after → Refusing (Writing.told r) × Leaves (Writing.told r) out after
inspection_ending n cut out = writes_refusing (room (length (InspectionLines.ending_of n cut)) (length out) ∷ []) (InspectionLines.ending_of n cut) out

-- ---- tunnel_table: the five calls alike; a refusal leaves the output, and 01's table stays at the places of the one that was called, which came by value

-- tunnel_table::Table::open
-- tunnel_table::Table::close
-- tunnel_table::Table::timeout
-- tunnel_table::Table::send
-- tunnel_table::Table::datagram
-- tunnel_table::Table::datagram_in
pub table_calls : (t : Table) (c : Call) (e : Fault) (after : List ℕ) → CallPromise t c (Err e) after
    → Zeros (refused 2 e) × (after ≡ out_of c) × ((step chan (store_of kind) t.places c).1 ≡ t.places)
table_calls = Compiled.call_refusing

-- tunnel_table::Table::heard
pub table_heard : (t : Table) (h : Result Heard Fault) (out : List ℕ) (e : Fault) (after : List ℕ) → Table.HeardPromise t h out (Err e) after
    → Zeros (refused 2 e) × (after ≡ out) × ((Table.heard_on h out t.places).1 ≡ t.places)
table_heard = Compiled.heard-refusing

-- tunnel_table::Table::heard_in
pub table_heard_in : (f : Form) (t : Table) (h : Result Heard Fault) (out : List ℕ) (e : Fault) (after : List ℕ) → Table.HeardInPromise f t h out (Err e) after
    → Zeros (refused 2 e) × (after ≡ out) × ((Table.heard_in_on f h out t.places).1 ≡ t.places)
table_heard_in = Compiled.heard_in_refusing

-- ---- borrowed: what is refused by its parse borrows nothing; a record that is refused, by its answer or by the checks that are repeated, hands out nothing, and its view has the number

-- borrowed::KnxnetIpFrame::parse
pub knxnet_ip_parse : (s : List ℕ) (r : KnxnetIpFrame) → KnxnetIpFrame.ParsePromise s r → Refusing (Frame.told r.answer)
knxnet_ip_parse s r p = frame_parse s r.answer p.1

pub knxnet_ip_borrows : (s : List ℕ) (r : KnxnetIpFrame) (e : Fault) → KnxnetIpFrame.ParsePromise s r → r.answer ≡ Err e → r.«data».now ≡ []
knxnet_ip_borrows = KnxnetIpFrameLaws.borrows_none

-- borrowed::KnxnetIpFrame::body
pub knxnet_ip_body : (f : KnxnetIpFrame) (e : Fault) (r : List ℕ) → f.answer ≡ Err e → KnxnetIpFrame.BodyPromise f r → r ≡ []
knxnet_ip_body = KnxnetIpFrameLaws.body-none

pub knxnet_ip_body_part : (f : KnxnetIpFrame) (v : Result View Fault) (e : Fault) (r : List ℕ) → KnxnetIpFrame.BodyViewPromise f.«data».now f.answer v → KnxnetIpFrame.BodyPromise f r → v ≡ Err e → r ≡ []
knxnet_ip_body_part = KnxnetIpFrameLaws.body_refused

-- borrowed::body_view
pub knxnet_ip_body_view : (s : List ℕ) (a : Result FrameFields Fault) (r : Result View Fault) → KnxnetIpFrame.BodyViewPromise s a r → Refusing (Parts.told r)
knxnet_ip_body_view = KnxnetIpFrameLaws.view_refusing

pub knxnet_ip_body_number : (s : List ℕ) (a : Result FrameFields Fault) (e : Fault) (r : Result View Fault) → a ≡ Err e → KnxnetIpFrame.BodyViewPromise s a r → Parts.told r ≡ refused 0 e
knxnet_ip_body_number = KnxnetIpFrameLaws.view_none

-- borrowed::body_in
pub knxnet_ip_body_in : (s r : List ℕ) (e : Refusal) → verdict (Frame.checks (length s) (get Header.fields 0 s)) ≡ Err e → KnxnetIpFrame.BodyInPromise s r → r ≡ []
knxnet_ip_body_in s r e v q = q ∙ shown-refused (Frame.checks (length s) (get Header.fields 0 s)) (viewed 6 (Header.total_in (get Header.fields 0 s))) e s v

-- borrowed::LDataFrame::parse_in
pub ldata_frame_parse_in : (c : Counting) (s : List ℕ) (r : LDataFrame) → LDataFrame.ParseInPromise c s r → Refusing (LData.told r.answer)
ldata_frame_parse_in c s r p = ldata_parse_in c s r.answer p.1

pub ldata_frame_borrows : (c : Counting) (s : List ℕ) (r : LDataFrame) (e : Fault) → LDataFrame.ParseInPromise c s r → r.answer ≡ Err e → r.«data».now ≡ []
ldata_frame_borrows = LDataFrameLaws.borrows_none

-- borrowed::LDataFrame::parse
pub ldata_frame_parse : (s : List ℕ) (r : LDataFrame) → LDataFrame.ParsePromise s r → Refusing (LData.told r.answer)
ldata_frame_parse = ldata_frame_parse_in Crate

-- borrowed::LDataFrame::data_in
pub ldata_frame_data_of : (c : Counting) (f : LDataFrame) (e : Fault) (r : List ℕ) → f.answer ≡ Err e → LDataFrame.FrameDataInPromise c f r → r ≡ []
ldata_frame_data_of = LDataFrameLaws.data_none

pub ldata_frame_data_part : (c : Counting) (f : LDataFrame) (v : Result View Fault) (e : Fault) (r : List ℕ) → LDataFrame.DataViewInPromise c f.«data».now f.answer v → LDataFrame.FrameDataInPromise c f r → v ≡ Err e → r ≡ []
ldata_frame_data_part = LDataFrameLaws.data_refused

-- borrowed::LDataFrame::data
pub ldata_frame_data : (f : LDataFrame) (e : Fault) (r : List ℕ) → f.answer ≡ Err e → LDataFrame.DataPromise f r → r ≡ []
ldata_frame_data = ldata_frame_data_of Crate

-- borrowed::data_view_in
pub ldata_frame_data_view_in : (c : Counting) (s : List ℕ) (a : Result LDataFields Fault) (r : Result View Fault) → LDataFrame.DataViewInPromise c s a r → Refusing (Parts.told r)
ldata_frame_data_view_in = LDataFrameLaws.view_refusing

pub ldata_frame_data_number : (c : Counting) (s : List ℕ) (a : Result LDataFields Fault) (e : Fault) (r : Result View Fault) → a ≡ Err e → LDataFrame.DataViewInPromise c s a r → Parts.told r ≡ refused 0 e
ldata_frame_data_number = LDataFrameLaws.view_none

-- borrowed::data_view
pub ldata_frame_data_view : (s : List ℕ) (a : Result LDataFields Fault) (r : Result View Fault) → LDataFrame.DataViewPromise s a r → Refusing (Parts.told r)
ldata_frame_data_view = ldata_frame_data_view_in Crate

-- borrowed::data_in_count
pub ldata_frame_data_in_count : (c : Counting) (s r : List ℕ) (e : Fault) → LData.ParseInPromise c s (Err e) → LDataFrame.DataInCountPromise c s r → r ≡ []
ldata_frame_data_in_count c s r e p q = q ∙ LDataFrameLaws.refused_data c s e p

-- borrowed::data_in
pub ldata_frame_data_in : (s r : List ℕ) (e : Fault) → LData.ParsePromise s (Err e) → LDataFrame.DataInPromise s r → r ≡ []
ldata_frame_data_in = ldata_frame_data_in_count Crate

-- ---- tunnel_image

-- tunnel_image::pack
pub image_pack : (l : List Place) (image : List ℕ) (r : Result ℕ Refusal) (after : List ℕ) → Image.PackPromise l image r after → Refusing (Writing.told r) × Leaves (Writing.told r) image after
image_pack l = write (Image.packed l)

-- ---- knx: the readers, then the builders, whose refusals are those of the builders below

-- knx::knx_frame_parse
pub knx_frame_parse : (s : List ℕ) (r : KnxFrame) → KnxReading.FramePromise s r → Refusing (KnxReading.told_frame r)
knx_frame_parse s r = judged-refusing (Frame.checks (length s) (get Header.fields 0 s)) (KnxReading.frame_in (get Header.fields 0 s)) (KnxReading.told_frame r) refl

-- knx::knx_hpai_parse
pub knx_hpai_parse : (s : List ℕ) (r : KnxHpai) → KnxReading.HpaiPromise s r → Refusing (KnxReading.told_hpai r)
knx_hpai_parse s r = judged-refusing (Hpai.checks (length s) (get Hpai.fields 0 s)) (done (get Hpai.fields 0 s)) (KnxReading.told_hpai r) refl

-- knx::knx_connect_response
pub knx_connect_response : (s : List ℕ) (r : KnxConnectResponse) → KnxReading.ConnectResponsePromise s r → Refusing (KnxReading.told_response r)
knx_connect_response s r p = judged-refusing (ConnectResponse.checks (length s) (get ConnectResponse.fields 0 s)) (done (get ConnectResponse.fields 0 s)) (KnxReading.told_response r) refl p.0

-- knx::knx_connect_response_standard
pub knx_connect_response_standard : (s : List ℕ) (r : KnxConnectResponse) → KnxReading.ConnectResponseStandardPromise s r → Refusing (KnxReading.told_response r)
knx_connect_response_standard s r p =
    judged-refusing (ConnectResponse.knx_checks (length s) (get ConnectResponse.fields 0 s)) (done (ConnectResponse.knx_values (get ConnectResponse.fields 0 s))) (KnxReading.told_response r) refl p.0

-- knx::knx_connectionstate_response
-- knx::knx_disconnect_response
pub knx_status : (s : List ℕ) (r : KnxStatus) → KnxChannel.StatusPromise s r → Refusing (KnxChannel.told r)
knx_status s r = judged-refusing (checks_of Channel.status_format (length s) (get Channel.status_fields 0 s)) (done (get Channel.status_fields 0 s)) (KnxChannel.told r) refl

-- knx::knx_disconnect_request_parse
pub knx_disconnect_request_parse : (s : List ℕ) (r : KnxDisconnectRequest) → KnxChannel.DisconnectRequestPromise s r → Refusing (KnxChannel.told_request r)
knx_disconnect_request_parse s r =
    let vs = get Channel.request_fields 0 s in
    judged-refusing (checks_of Channel.request_format (length s) vs) (done ((Channel.request_format).values_in vs)) (KnxChannel.told_request r) refl

-- knx::knx_cemi_ldata
pub knx_cemi_ldata : (s : List ℕ) (r : KnxLData) → CemiLData.CemiLDataPromise s r → Refusing (CemiLData.told r)
knx_cemi_ldata s r = judged-refusing (CemiLData.checks s) (CemiLData.ldata_in s) (CemiLData.told r) refl

-- knx::knx_cemi_ldata_standard
pub knx_cemi_ldata_standard : (s : List ℕ) (r : KnxLData) → CemiLData.CemiLDataStandardPromise s r → Refusing (CemiLData.told r)
knx_cemi_ldata_standard s r = judged-refusing (CemiLData.checks_in standard_count s) (CemiLData.numbers_in standard_count s) (CemiLData.told r) refl

-- knx::knx_cemi_additional_info
pub knx_cemi_info : (s : List ℕ) (r : KnxPart) → KnxInfo.AreaPromise s r → Refusing (KnxInfo.told_part r)
knx_cemi_info s r = judged-refusing (Cemi.checks s ++ Cemi.info_check s ∷ []) (viewed 2 (2 + Cemi.info_length s)) (KnxInfo.told_part r) refl

-- knx::knx_additional_info
pub knx_info : (s : List ℕ) (r : KnxAdditionalInfo) → KnxInfo.FirstPromise s r → Refusing (KnxInfo.told r)
knx_info s r p = subst Refusing (sym p) (first-refusing s)

-- knx::knx_additional_info_nth
pub knx_info_nth : (s : List ℕ) (n : ℕ) (r : KnxAdditionalInfo) → KnxInfo.NthPromise s n r → Refusing (KnxInfo.told r)
knx_info_nth s n r p = subst Refusing (sym p) (nth_refusing s n)

-- knx::knx_additional_info_count
pub knx_info_count : (s : List ℕ) (r : KnxCount) → KnxInfo.CountPromise s r → Refusing (KnxInfo.told_count r)
knx_info_count s r = judged-refusing (Area.area_check s ∷ []) (done (length (Area.all_in s) ∷ [])) (KnxInfo.told_count r) refl

abbrev pub ToldRefuses : List ℕ → KnxWritten → List ℕ → Type 0
ToldRefuses b r after = Refusing (Building.told r) × Leaves (Building.told r) b after

-- in either count
knx_ldata_build_in : (c : Counting) (control_1 control-2 source destination tpci code six : ℕ) (d b : List ℕ) (r : KnxWritten) (after : List ℕ)
    → Building.LDataBuildInPromise c control_1 control-2 source destination tpci code six d b r after → ToldRefuses b r after
knx_ldata_build_in c control_1 control-2 source destination tpci code six d b =
    let q = Building.builder_of control_1 control-2 source destination tpci code six in
    tells-refusing (LDataBuilder.BuildInPromise c q d b) b (ldata_build_in c q d b)

-- knx::knx_ldata_build
pub knx_ldata_build : (control_1 control-2 source destination tpci code six : ℕ) (d b : List ℕ) (r : KnxWritten) (after : List ℕ)
    → Building.LDataBuildPromise control_1 control-2 source destination tpci code six d b r after → ToldRefuses b r after
knx_ldata_build = knx_ldata_build_in Crate

-- knx::knx_ldata_build_standard
pub knx_ldata_build_standard : (control_1 control-2 source destination tpci code six : ℕ) (d b : List ℕ) (r : KnxWritten) (after : List ℕ)
    → Building.LDataBuildStandardPromise control_1 control-2 source destination tpci code six d b r after → ToldRefuses b r after
knx_ldata_build_standard = knx_ldata_build_in Standard

-- knx::knx_connect_request
pub knx_connect_request : (control other : KnxEndpoint) (b : List ℕ) (r : KnxWritten) (after : List ℕ) → Building.ConnectRequestPromise control other b r after → ToldRefuses b r after
knx_connect_request control other b =
    let q = Building.connect_of control other in
    tells-refusing (ConnectRequest.BuildPromise q b) b (connect_request_build q b)

-- knx::knx_connectionstate_request
pub knx_connectionstate_request : (channel : ℕ) (control : KnxEndpoint) (b : List ℕ) (r : KnxWritten) (after : List ℕ)
    → Building.ConnectionStateRequestPromise channel control b r after → ToldRefuses b r after
knx_connectionstate_request channel control b =
    tells-refusing (Channel.StateBuildPromise (Building.state_of channel control) b) b (channel_request ServiceType.ConnectionstateRequest channel (Building.endpoint_of control) b)

-- knx::knx_disconnect_request
pub knx_disconnect_request : (channel : ℕ) (control : KnxEndpoint) (b : List ℕ) (r : KnxWritten) (after : List ℕ)
    → Building.DisconnectRequestPromise channel control b r after → ToldRefuses b r after
knx_disconnect_request channel control b =
    tells-refusing (Channel.DisconnectBuildPromise (Building.disconnect_of channel control) b) b (channel_request ServiceType.DisconnectRequest channel (Building.endpoint_of control) b)

-- knx::knx_tunneling_request
pub knx_tunneling_request : (channel sequence : ℕ) (cemi b : List ℕ) (r : KnxWritten) (after : List ℕ)
    → Building.TunnelingRequestPromise channel sequence cemi b r after → ToldRefuses b r after
knx_tunneling_request channel sequence cemi b =
    let q = Building.request_of channel sequence in
    tells-refusing (TunnelingRequest.BuildPromise q cemi b) b (tunnel_request_build q cemi b)

-- in either form
knx_tunneling_ack_in : (f : Form) (channel sequence status : ℕ) (b : List ℕ) (r : KnxWritten) (after : List ℕ) → Building.TunnelingAckInPromise f channel sequence status b r after → ToldRefuses b r after
knx_tunneling_ack_in f channel sequence status b =
    let q = Building.ack_of channel sequence status in
    tells-refusing (AckForm.BuildInPromise f q b) b (ack_build_in f q b)

-- knx::knx_tunneling_ack
pub knx_tunneling_ack : (channel sequence status : ℕ) (b : List ℕ) (r : KnxWritten) (after : List ℕ) → Building.TunnelingAckPromise channel sequence status b r after → ToldRefuses b r after
knx_tunneling_ack = knx_tunneling_ack_in Form.Crate

-- knx::knx_tunneling_ack_standard
pub knx_tunneling_ack_standard : (channel sequence status : ℕ) (b : List ℕ) (r : KnxWritten) (after : List ℕ) → Building.TunnelingAckStandardPromise channel sequence status b r after → ToldRefuses b r after
knx_tunneling_ack_standard = knx_tunneling_ack_in Form.Standard

-- knx::knx_disconnect_response_build
pub knx_disconnect_response_build : (channel status : ℕ) (b : List ℕ) (r : KnxWritten) (after : List ℕ) → Building.DisconnectResponseBuildPromise channel status b r after → ToldRefuses b r after
knx_disconnect_response_build channel status b =
    let q = Building.response_of channel status in
    tells-refusing (Channel.DisconnectResponseBuildPromise q b) b (disconnect_response_build q b)

-- knx::knx_additional_info_append
pub knx_info_append : (s : List ℕ) (code : ℕ) (d b : List ℕ) (r : KnxWritten) (after : List ℕ) → KnxInfo.AppendPromise s code d b r after → ToldRefuses b r after
knx_info_append s code d b = tells-refusing (Appending.AppendPromise s (InfoType.type_of code) d b) b (info-append s (InfoType.type_of code) d b)

-- knx::knx_cemi_build
pub knx_cemi_build : (code : ℕ) (area rest b : List ℕ) (r : KnxWritten) (after : List ℕ) → KnxInfo.BuildPromise code area rest b r after → ToldRefuses b r after
knx_cemi_build code area rest b =
    let cs = KnxInfo.build_checks code area (length rest) (length b) in
    tells-refusing (Writing.Writes cs (Cemi.layout code area rest) b) b (writes_refusing cs (Cemi.layout code area rest) b)

-- knx::knx_table_empty
pub knx_table_empty : (image : List ℕ) (r : KnxWritten) (after : List ℕ) → Called.EmptyPromise image r after → ToldRefuses image r after
knx_table_empty image = tells-refusing (Image.PackPromise (empty_of kind 8) image) image (image_pack (empty_of kind 8) image)

-- ---- the five calls alike; what a refusal leaves is the output and the image

pub knx_table_calls : (image : List ℕ) (c : Call) (r : KnxCalled) (after out : List ℕ) → Called.CallPromise image c r after out → (r.number ≡ 0 → ⊥)
    → Zeros (Called.told r) × (out ≡ out_of c) × (after ≡ image)
knx_table_calls = CalledLaws.call_refusing

abbrev pub LeavesImage : (List ℕ → KnxCalled → List ℕ → Type 0) → Type 0
LeavesImage P = (image : List ℕ) (r : KnxCalled) (after : List ℕ) → P image r after → (r.number ≡ 0 → ⊥) → Zeros (Called.told r) × (after ≡ image)

leaves_image : (c : Call) → LeavesImage (λ image r after. Called.CallPromise image c r after [])
leaves_image c image r after p n = let x = knx_table_calls image c r after [] p n in (x.0, x.2)

-- knx::knx_table_open
pub knx_table_open : (id : ℕ) → LeavesImage (λ image. Called.OpenPromise image id)
knx_table_open id = leaves_image (Open id)

-- knx::knx_table_close
pub knx_table_close : (id : ℕ) → LeavesImage (λ image. Called.ClosePromise image id)
knx_table_close id = leaves_image (Close id)

-- knx::knx_table_timeout
pub knx_table_timeout : (id : ℕ) → LeavesImage (λ image. Called.TimeoutPromise image id)
knx_table_timeout id = leaves_image (Timeout id)

abbrev pub LeavesBoth : List ℕ → (List ℕ → KnxCalled → List ℕ → List ℕ → Type 0) → Type 0
LeavesBoth before P = (image : List ℕ) (r : KnxCalled) (after out : List ℕ) → P image r after out → (r.number ≡ 0 → ⊥) → Zeros (Called.told r) × (out ≡ before) × (after ≡ image)

-- knx::knx_table_send
pub knx_table_send : (id : ℕ) (cemi before : List ℕ) → LeavesBoth before (λ image. Called.SendPromise image id cemi before)
knx_table_send id cemi before image = knx_table_calls image (Send id cemi before)

-- knx::knx_table_datagram
pub knx_table_datagram : (bytes before : List ℕ) → LeavesBoth before (λ image. Called.DatagramPromise image bytes before)
knx_table_datagram bytes before image = knx_table_calls image (Datagram bytes before)

-- knx::knx_table_datagram_standard
pub knx_table_datagram_standard : (bytes before : List ℕ) → LeavesBoth before (λ image. Called.DatagramStandardPromise image bytes before)
knx_table_datagram_standard bytes before image = knx_table_calls image (DatagramIn Form.Standard bytes before)

-- ---- the other public functions have no refusal: each answers on every input

-- wire::word
-- wire::high
-- wire::low
-- wire::byte_at
-- wire::word_at
-- wire::copy_at
-- wire::part
-- wire::Refusal::number
-- constants::ServiceType::to_u16
-- constants::CEMIMessageCode::to_u8
-- constants::Priority::from_u8
-- constants::Priority::to_u8
-- address::GroupAddress::from_u16
-- address::GroupAddress::to_u16
-- address::IndividualAddress::from_u16
-- address::IndividualAddress::to_u16
-- control::ControlField1::from_u8
-- control::ControlField1::to_u8
-- control::ControlField1::raw
-- control::ControlField1::is_standard_frame
-- control::ControlField1::do_not_repeat
-- control::ControlField1::is_broadcast
-- control::ControlField1::priority
-- control::ControlField1::ack_requested
-- control::ControlField1::has_error
-- control::ControlField1::new
-- control::ControlField1::default
-- control::ControlField2::from_u8
-- control::ControlField2::to_u8
-- control::ControlField2::raw
-- control::ControlField2::is_group_address
-- control::ControlField2::hop_count
-- control::ControlField2::extended_format
-- control::ControlField2::new
-- control::ControlField2::default
-- pci::Apci::from_bytes
-- pci::Apci::to_u16
-- pci::Apci::is_named
-- pci::extract_6bit_value
-- pci::Tpci::from_byte
-- pci::Tpci::is_data
-- pci::Tpci::sequence
-- pci::control_code_in
-- pci::kind_in
-- pci::sequence_in
-- pci::code_in
-- pci::is_named_in
-- ldata::data_start
-- ldata::Counting::data_end
-- ldata::Counting::allows
-- ldata::LDataFields::destination_group
-- ldata::LDataFields::destination_individual
-- ldata::LDataFields::is_group_write
-- ldata::LDataFields::is_group_read
-- ldata::LDataFields::is_group_response
-- additional_info::AdditionalInfoType::from_u8
-- additional_info::AdditionalInfoType::to_u8
-- cemi::CEMIFrame::message_code
-- cemi::CEMIFrame::is_ldata
-- header::KnxnetIpHeader::body_length
-- frame::FrameBuilder::new
-- frame::FrameBuilder::size
-- hpai::Hpai::new
-- hpai::Hpai::to_bytes
-- connect::ConnectionRequestInfo::tunnel_link_layer
-- connect::ConnectRequest::new
-- connect::ConnectResponse::is_ok
-- connect::ConnectResponse::individual_address
-- connect::ConnectionStateRequest::new
-- connect::ConnectionStateResponse::is_ok
-- connect::DisconnectRequest::new
-- connect::DisconnectResponse::new
-- connect::DisconnectResponse::is_ok
-- tunnelling::ConnectionHeader::new
-- tunnelling::TunnelingRequest::new
-- tunnelling::TunnelingAck::new
-- tunnelling::TunnelingAck::is_ok
-- tunnel::Said::number
-- tunnel::Wait::number
-- tunnel::Wait::from_u8
-- tunnel::Tunnel::fresh
-- tunnel::Tunnel::waits
-- tunnel::Tunnel::sending
-- tunnel::Tunnel::arrival
-- tunnel::Tunnel::delivered
-- tunnel_table::Table::empty
-- kip::starts
-- kip::next_record
-- inspection::scan
-- inspection::begin
-- inspection::written_out
-- inspection::read_on
-- inspection::to_front
-- inspect_io::run
-- tunnel_image::unpack
-- knx::knx_own_address
-- digits::places
-- digits::put_digits
-- digits::hex_digit
-- digits::hex4
-- replay::refused
-- replay::located
-- replay::few
-- replay::flag
-- replay::moved
-- replay::written
-- replay::remainder
-- replay::line
-- replay::number24
-- replay::next
-- replay::try_next
-- replay::telegram
-- replay::asks
-- replay::replay
-- replay::try_replay
-- replay::Calls::run
-- variants::service
-- variants::service_of
-- variants::message_code
-- variants::message_code_of
-- variants::priority
-- variants::priority_of
-- variants::apci
-- variants::apci_of
-- variants::info_type
-- variants::kind
-- variants::sequence
-- variants::tpci_of
-- variants::refusal_of

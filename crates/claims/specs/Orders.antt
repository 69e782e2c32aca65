-- 01's orders of checks and its "errors to expect", as rows: where two checks are broken, the earlier one decides.
use Rattle.std.specs.Prelude.{ℕ, ◌≡◌, refl, List, [], ◌∷◌, ◌++◌, replicate, Ok, Err}
use Rattle.wire.specs.Told.{Told, done, viewed}
use Rattle.wire.specs.Writing.{tells}
use Rattle.wire.specs.declared.refusals.Refusal.TheVariants.{InvalidMessageCode}
use Rattle.constants.specs.declared.services.ServiceType.TheVariants.{TunnellingAck}
use Rattle.constants.specs.declared.message_codes.CEMIMessageCode.{CEMIMessageCode}
use Rattle.constants.specs.declared.message_codes.CEMIMessageCode.TheVariants.{LDataInd, LRawInd}
use Rattle.pci.specs.declared.transport.Tpci.{Tpci}
use Rattle.pci.specs.declared.transport.Tpci.TheVariants.{UnnumberedData, NumberedData, UnnumberedControl}
use Rattle.ldata.specs.Count.{crate_count}
use Rattle.ldata.specs.LData as LData
use Rattle.ldata.specs.Builder as LDataBuilder
use Rattle.pci.specs.declared.application.Apci.TheVariants.{GroupValueWrite}
use Rattle.borrowed.specs.LDataFrame as LDataFrame
use Rattle.cemi.specs.Cemi as Cemi
use Rattle.header.specs.Header as Header
use Rattle.hpai.specs.Hpai as Hpai
use Rattle.connect.specs.Cri as Cri
use Rattle.connect.specs.Request as ConnectRequest
use Rattle.connect.specs.Response as ConnectResponse
use Rattle.connect.specs.Channel as Channel
use Rattle.tunnelling.specs.Connection as Connection
use Rattle.tunnelling.specs.Request as TunnelingRequest
use Rattle.tunnelling.specs.Ack as TunnelingAck
use Rattle.frame.specs.Frame as Frame
use Rattle.frame.specs.Builder as FrameBuilder
use Rattle.frame.specs.RoundTrip.{built}

abbrev built01 : ℕ → ℕ → ℕ
built01 n m = (tells (FrameBuilder.checks n m) (replicate n 0)).number

-- an acknowledgement's eleven bytes with three more behind them
abbrev trailed : List ℕ
trailed = 0x06 ∷ 0x10 ∷ 0x04 ∷ 0x21 ∷ 0x00 ∷ 0x0B ∷ 0x04 ∷ 0x15 ∷ 0x07 ∷ 0x00 ∷ 0x00 ∷ 0xAA ∷ 0xBB ∷ 0xCC ∷ []

-- where the data stands in what a record that no parse made borrows
abbrev borrowed_as : Tpci → ℕ → List ℕ → Told
borrowed_as t l s =
    LDataFrame.borrowed_by01 crate_count (record {
      ctrl1 = record { raw = 0x94 };
      ctrl2 = record { raw = 0xE0 };
      source = record { 0 = 0x1105 };
      destination_raw = 0x0803;
      npdu_length = l;
      tpci = t;
      apci = GroupValueWrite;
    }) s

-- what the L_Data builder answers for a packet, a six-bit number, n bytes of data and a buffer of m
abbrev built_ldata : Tpci → ℕ → ℕ → ℕ → ℕ → ℕ
built_ldata t code six n m =
    (tells (LDataBuilder.checks (record {
      ctrl1 = record { raw = 0x94 };
      ctrl2 = record { raw = 0xE0 };
      source = record { 0 = 0x1105 };
      destination_raw = 0x0803;
      tpci = t;
      apci_code = code;
      six_bit = six;
    }) n m) []).number

-- an L_Data frame of nine bytes with this L and TPCI
abbrev nine_bytes : ℕ → ℕ → List ℕ
nine_bytes l tpci = 0x94 ∷ 0xE0 ∷ 0x11 ∷ 0x05 ∷ 0x08 ∷ 0x03 ∷ l ∷ tpci ∷ 0x00 ∷ []

abbrev as_ldata : List ℕ → ℕ
as_ldata s = (LData.parse_by01 crate_count s).number

-- `as_ldata` of a record with this code
abbrev in_cemi : CEMIMessageCode → List ℕ → ℕ
in_cemi m s = (Cemi.as_ldata_by01 (record { message_code = m }) s).number

pub record Order : Type 0 where
  -- the header: 1 before 2, 2 before 3, 3 before 4
  pub short_before_length : (Header.parse_by01 (0x05 ∷ 0x20 ∷ [])).number ≡ 1
  pub length_before_version : (Header.parse_by01 (0x05 ∷ 0x20 ∷ 0xFF ∷ 0xFF ∷ 0x00 ∷ 0x06 ∷ [])).number ≡ 2
  pub version_before_service : (Header.parse_by01 (0x06 ∷ 0x20 ∷ 0xFF ∷ 0xFF ∷ 0x00 ∷ 0x06 ∷ [])).number ≡ 3
  -- the frame: the header's 4 before the total length's 2
  pub service_before_total : (Frame.parse_by01 (0x06 ∷ 0x10 ∷ 0xFF ∷ 0xFF ∷ 0x00 ∷ 0x05 ∷ [])).number ≡ 4
  pub input_below_total : (Frame.parse_by01 (0x06 ∷ 0x10 ∷ 0x04 ∷ 0x20 ∷ 0x00 ∷ 0x07 ∷ [])).number ≡ 2
  -- the largest body of a header, and one byte more
  pub new_65529 : Header.new_by01 TunnellingAck 65529 ≡ done (6 ∷ 0x10 ∷ 0x0421 ∷ 65535 ∷ [])
  pub new_65530 : (Header.new_by01 TunnellingAck 65530).number ≡ 5
  -- the builder: a body of 507 is 5 before its buffer of 0 is 1
  pub large_before_room : built01 507 0 ≡ 5
  pub room-alone : built01 506 511 ≡ 1
  pub both_fit : built01 506 512 ≡ 0
  pub size_507 : FrameBuilder.SizePromise (replicate 507 0) 513
  -- the body ends at the total length, not at the datagram's end
  pub body_to_total : Frame.body_by01 (built TunnellingAck (replicate 5 0)) trailed ≡ viewed 6 11
  -- an Hpai: 1 before 2
  pub hpai_short_before_length : (Hpai.parse_by01 (0x09 ∷ 0x01 ∷ [])).number ≡ 1
  -- request information: 1 before 2; a connection header has no 2
  pub cri_short_before_length : (Cri.decode_by01 (0x05 ∷ 0x04 ∷ 0x02 ∷ [])).number ≡ 1
  pub cri_length : (Cri.decode_by01 (0x05 ∷ 0x04 ∷ 0x02 ∷ 0x00 ∷ [])).number ≡ 2
  pub connection-length : Connection.decode_by01 (0x05 ∷ 0x15 ∷ 0x07 ∷ 0x00 ∷ []) ≡ done (0x15 ∷ 0x07 ∷ [])
  -- a connect response needs 14 bytes whatever its status, and then its endpoint's length byte
  pub refused-connection : (ConnectResponse.parse_by01 (0x00 ∷ 0x24 ∷ [])).number ≡ 1
  pub short_before_endpoint : (ConnectResponse.parse_by01 (replicate 13 0)).number ≡ 1
  pub endpoint-length : (ConnectResponse.parse_by01 (replicate 14 0)).number ≡ 2
  -- the sizes: 26, 16, 16, 11 bytes, and one less is 1
  pub connect_25 : (tells (ConnectRequest.build_checks 25) []).number ≡ 1
  pub connect_26 : (tells (ConnectRequest.build_checks 26) []).number ≡ 0
  pub request_15 : (tells (Channel.request_checks 15) []).number ≡ 1
  pub request_16 : (tells (Channel.request_checks 16) []).number ≡ 0
  pub ack_10 : (tells (TunnelingAck.build_checks 10) []).number ≡ 1
  pub ack_11 : (tells (TunnelingAck.build_checks 11) []).number ≡ 0
  -- a tunnelling request: the buffer's 1 before the cEMI's 5
  pub room_before_large : (tells (TunnelingRequest.build_checks 65526 65535) []).number ≡ 1
  pub large_alone : (tells (TunnelingRequest.build_checks 65526 65536) []).number ≡ 5
  pub largest : (tells (TunnelingRequest.build_checks 65525 65535) []).number ≡ 0
  -- responses of 2, 4 and 5 bytes, and one less is 1
  pub status_1 : (Channel.status_by01 (0x15 ∷ [])).number ≡ 1
  pub request_body_3 : (Connection.decode_by01 (0x04 ∷ 0x15 ∷ 0x07 ∷ [])).number ≡ 1
  pub ack_body_4 : (TunnelingAck.parse_by01 (0x04 ∷ 0x15 ∷ 0x07 ∷ 0x00 ∷ [])).number ≡ 1
  pub ack_body_5 : TunnelingAck.parse_by01 (0x04 ∷ 0x15 ∷ 0x07 ∷ 0x00 ∷ 0x2A ∷ []) ≡ done (0x15 ∷ 0x07 ∷ 0x2A ∷ [])
  -- cEMI: 1 before 6; `as_ldata`: 6 before 2, then L_Data's 1; the record's code decides, the slice's must be known
  pub cemi_short_before_code : (Cemi.parse_by01 (0xFF ∷ [])).number ≡ 1
  pub cemi_code : (Cemi.parse_by01 (0x13 ∷ 0x00 ∷ [])).number ≡ 6
  pub code_before_info : in_cemi LRawInd (0x2D ∷ 0xFF ∷ []) ≡ 6
  pub info-alone : in_cemi LDataInd (0x29 ∷ 0xFF ∷ []) ≡ 2
  pub info_before_ldata : in_cemi LDataInd (0x29 ∷ 0x00 ∷ replicate 8 0) ≡ 1
  pub record_decides : in_cemi LRawInd (0x29 ∷ 0x00 ∷ nine_bytes 2 0x00) ≡ 6
  pub slice_first : in_cemi LRawInd (0x13 ∷ []) ≡ 1
  pub info_length_code : Cemi.InfoLengthPromise (0x13 ∷ 0x05 ∷ []) (Err (record { why = InvalidMessageCode; at = 0 }))
  pub info_length_known : Cemi.InfoLengthPromise (0x2D ∷ 0x05 ∷ []) (Ok 5)
  -- L_Data: nine bytes for control packets too; data needs L of 2, control packets of 1
  pub control_of_8 : as_ldata (0x94 ∷ 0xE0 ∷ 0x11 ∷ 0x05 ∷ 0x08 ∷ 0x03 ∷ 0x00 ∷ 0x80 ∷ []) ≡ 1
  pub data_L0 : as_ldata (nine_bytes 0 0x00) ≡ 2
  pub data_L1 : as_ldata (nine_bytes 1 0x00) ≡ 2
  pub data_L2 : as_ldata (nine_bytes 2 0x00) ≡ 0
  pub control_L0 : as_ldata (nine_bytes 0 0x80) ≡ 2
  pub control_L1 : as_ldata (nine_bytes 1 0x80) ≡ 0
  pub control-values : LData.parse_by01 crate_count (0x94 ∷ 0xE0 ∷ 0x11 ∷ 0x05 ∷ 0x08 ∷ 0x03 ∷ 0x01 ∷ 0xD6 ∷ 0xBF ∷ []) ≡ done (0x94 ∷ 0xE0 ∷ 0x1105 ∷ 0x0803 ∷ 1 ∷ 3 ∷ 5 ∷ 0 ∷ 0 ∷ [])
  pub L255_262 : as_ldata (nine_bytes 255 0x00 ++ replicate 253 0) ≡ 0
  pub L255_261 : as_ldata (nine_bytes 255 0x00 ++ replicate 252 0) ≡ 2
  -- a record that borrows its data: up to the end that L says, and 2 where that is past what it borrows, or lies before the start
  pub borrowed_all : borrowed_as UnnumberedData 3 (0x2A ∷ []) ≡ viewed 0 1
  pub borrowed_more : borrowed_as UnnumberedData 3 (0x2A ∷ 0x2B ∷ []) ≡ viewed 0 1
  pub borrowed_less : (borrowed_as UnnumberedData 4 (0x2A ∷ [])).number ≡ 2
  pub borrowed_L1 : (borrowed_as UnnumberedData 1 (0x2A ∷ [])).number ≡ 2
  pub borrowed_control_L1 : borrowed_as UnnumberedControl 1 [] ≡ viewed 0 0
  -- the L_Data builder: 13 four times, then 5, then 1
  pub control_13 : built_ldata UnnumberedControl 0x080 0 254 0 ≡ 13
  pub sequence_16 : built_ldata (NumberedData 16) 0x080 0 254 0 ≡ 13
  pub code_above : built_ldata UnnumberedData 0x400 0 254 0 ≡ 13
  pub code_between : built_ldata UnnumberedData 0x081 0 254 0 ≡ 13
  pub six_64 : built_ldata UnnumberedData 0x080 64 254 0 ≡ 13
  pub data_254 : built_ldata UnnumberedData 0x080 63 254 0 ≡ 5
  pub room_261 : built_ldata UnnumberedData 0x080 63 253 261 ≡ 1
  pub room_262 : built_ldata (NumberedData 15) 0x3C0 63 253 262 ≡ 0

pub orders : Order
orders = record {
  short_before_length = refl;
  length_before_version = refl;
  version_before_service = refl;
  service_before_total = refl;
  input_below_total = refl;
  new_65529 = refl;
  new_65530 = refl;
  large_before_room = refl;
  room-alone = refl;
  both_fit = refl;
  size_507 = refl;
  body_to_total = refl;
  hpai_short_before_length = refl;
  cri_short_before_length = refl;
  cri_length = refl;
  connection-length = refl;
  refused-connection = refl;
  short_before_endpoint = refl;
  endpoint-length = refl;
  connect_25 = refl;
  connect_26 = refl;
  request_15 = refl;
  request_16 = refl;
  ack_10 = refl;
  ack_11 = refl;
  room_before_large = refl;
  large_alone = refl;
  largest = refl;
  status_1 = refl;
  request_body_3 = refl;
  ack_body_4 = refl;
  ack_body_5 = refl;
  cemi_short_before_code = refl;
  cemi_code = refl;
  code_before_info = refl;
  info-alone = refl;
  info_before_ldata = refl;
  record_decides = refl;
  slice_first = refl;
  info_length_code = refl;
  info_length_known = refl;
  control_of_8 = refl;
  data_L0 = refl;
  data_L1 = refl;
  data_L2 = refl;
  control_L0 = refl;
  control_L1 = refl;
  control-values = refl;
  L255_262 = refl;
  L255_261 = refl;
  borrowed_all = refl;
  borrowed_more = refl;
  borrowed_less = refl;
  borrowed_L1 = refl;
  borrowed_control_L1 = refl;
  control_13 = refl;
  sequence_16 = refl;
  code_above = refl;
  code_between = refl;
  six_64 = refl;
  data_254 = refl;
  room_261 = refl;
  room_262 = refl;
}

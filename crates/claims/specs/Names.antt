-- Names and numbers, typed once more from 01 and the KNX documents: each variant of each enum with its number, and each bit of the control fields. Two names exchanged in definition, code and law alike are found here.
use Rattle.std.specs.Prelude.{ℕ, ◌≡◌, refl, true, false, Ok, Err, Some, None}
use Rattle.wire.specs.Told.{nowhere}
use Rattle.wire.specs.Refusals.{NumberPromise}
use Rattle.wire.specs.declared.refusals.Refusal.TheVariants.{BufferTooSmall, InvalidFrame, UnsupportedVersion, UnsupportedServiceType, PayloadTooLarge, InvalidMessageCode, AlreadyOpen, TableFull, NotOpen, AwaitsAck, AwaitsNothing, NotForTunnels, FieldOutOfRange, InvalidAdditionalInfo}
use Rattle.constants.specs.Services as Services
use Rattle.constants.specs.declared.services.ServiceType.TheVariants as ServiceType
use Rattle.constants.specs.MessageCodes as MessageCodes
use Rattle.constants.specs.declared.message_codes.CEMIMessageCode.TheVariants as CEMIMessageCode
use Rattle.constants.specs.Priorities as Priorities
use Rattle.constants.specs.declared.priorities.Priority.TheVariants as Priority
use Rattle.control.specs.First as First
use Rattle.control.specs.Second as Second
use Rattle.control.specs.declared.first.ControlField1.{ControlField1}
use Rattle.control.specs.declared.second.ControlField2.{ControlField2}
use Rattle.pci.specs.Transport as Transport
use Rattle.pci.specs.declared.transport.Tpci.TheVariants as Tpci
use Rattle.pci.specs.Application as Application
use Rattle.pci.specs.declared.application.Apci.{Apci}
use Rattle.ldata.specs.LData as LData
use Rattle.ldata.specs.declared.ldata.LDataFields.{LDataFields}
use Rattle.cemi.specs.Cemi as Cemi
use Rattle.additional_info.specs.InfoType as InfoType
use Rattle.additional_info.specs.declared.info_type.AdditionalInfoType.TheVariants as AdditionalInfoType
use Rattle.tunnel.specs.declared.rules.Said.TheVariants as Said
use Rattle.tunnel.specs.declared.rules.Wait.TheVariants as Wait
use Rattle.tunnel.specs.Numbers.{said_of, wait_number}

-- the numbers of 01's table, and those that 02 adds
pub record RefusalNumbers : Type 0 where
  pub too_small : NumberPromise BufferTooSmall 1
  pub invalid_frame : NumberPromise InvalidFrame 2
  pub version : NumberPromise UnsupportedVersion 3
  pub unknown_service : NumberPromise UnsupportedServiceType 4
  pub too_large : NumberPromise PayloadTooLarge 5
  pub message_code : NumberPromise InvalidMessageCode 6
  pub already_open : NumberPromise AlreadyOpen 7
  pub table_full : NumberPromise TableFull 8
  pub not_open : NumberPromise NotOpen 9
  pub waits_for_ack : NumberPromise AwaitsAck 10
  pub waits_for_nothing : NumberPromise AwaitsNothing 11
  pub not_for_tunnels : NumberPromise NotForTunnels 12
  pub out_of_range : NumberPromise FieldOutOfRange 13
  pub additional_info : NumberPromise InvalidAdditionalInfo 14

pub refusal-numbers : RefusalNumbers
refusal-numbers = record {
  too_small = refl;
  invalid_frame = refl;
  version = refl;
  unknown_service = refl;
  too_large = refl;
  message_code = refl;
  already_open = refl;
  table_full = refl;
  not_open = refl;
  waits_for_ack = refl;
  waits_for_nothing = refl;
  not_for_tunnels = refl;
  out_of_range = refl;
  additional_info = refl;
}

-- what `from_u16` answers to each code of 01, and to two that the published crate knows
pub record ServiceNames : Type 0 where
  pub connect_request : Services.FromPromise 0x0205 (Ok ServiceType.ConnectRequest)
  pub connect_response : Services.FromPromise 0x0206 (Ok ServiceType.ConnectResponse)
  pub state_request : Services.FromPromise 0x0207 (Ok ServiceType.ConnectionstateRequest)
  pub state_response : Services.FromPromise 0x0208 (Ok ServiceType.ConnectionstateResponse)
  pub disconnect_request : Services.FromPromise 0x0209 (Ok ServiceType.DisconnectRequest)
  pub disconnect_response : Services.FromPromise 0x020A (Ok ServiceType.DisconnectResponse)
  pub tunnelling_request : Services.FromPromise 0x0420 (Ok ServiceType.TunnellingRequest)
  pub tunnelling_ack : Services.FromPromise 0x0421 (Ok ServiceType.TunnellingAck)
  pub search_request : Services.FromPromise 0x0201 (Err (nowhere UnsupportedServiceType))
  pub routing_indication : Services.FromPromise 0x0530 (Err (nowhere UnsupportedServiceType))

pub services : ServiceNames
services = record {
  connect_request = refl;
  connect_response = refl;
  state_request = refl;
  state_response = refl;
  disconnect_request = refl;
  disconnect_response = refl;
  tunnelling_request = refl;
  tunnelling_ack = refl;
  search_request = refl;
  routing_indication = refl;
}

pub record MessageCodeNames : Type 0 where
  pub ldata_req : MessageCodes.FromPromise 0x11 (Ok CEMIMessageCode.LDataReq)
  pub ldata_ind : MessageCodes.FromPromise 0x29 (Ok CEMIMessageCode.LDataInd)
  pub ldata_con : MessageCodes.FromPromise 0x2E (Ok CEMIMessageCode.LDataCon)
  pub lraw_req : MessageCodes.FromPromise 0x10 (Ok CEMIMessageCode.LRawReq)
  pub lraw_ind : MessageCodes.FromPromise 0x2D (Ok CEMIMessageCode.LRawInd)
  pub lraw_con : MessageCodes.FromPromise 0x2F (Ok CEMIMessageCode.LRawCon)
  pub lbusmon_ind : MessageCodes.FromPromise 0x2B (Ok CEMIMessageCode.LBusmonInd)
  pub poll_data_req : MessageCodes.FromPromise 0x13 (Err (nowhere InvalidMessageCode))
  -- L_Data is asked of the name
  pub is_req : Cemi.IsLDataPromise (record { message_code = CEMIMessageCode.LDataReq }) true
  pub is_ind : Cemi.IsLDataPromise (record { message_code = CEMIMessageCode.LDataInd }) true
  pub is_con : Cemi.IsLDataPromise (record { message_code = CEMIMessageCode.LDataCon }) true
  pub is_no_raw : Cemi.IsLDataPromise (record { message_code = CEMIMessageCode.LRawInd }) false
  pub is_no_busmon : Cemi.IsLDataPromise (record { message_code = CEMIMessageCode.LBusmonInd }) false

pub message_codes : MessageCodeNames
message_codes = record {
  ldata_req = refl;
  ldata_ind = refl;
  ldata_con = refl;
  lraw_req = refl;
  lraw_ind = refl;
  lraw_con = refl;
  lbusmon_ind = refl;
  poll_data_req = refl;
  is_req = refl;
  is_ind = refl;
  is_con = refl;
  is_no_raw = refl;
  is_no_busmon = refl;
}

pub record PriorityNames : Type 0 where
  pub system : Priorities.FromPromise 0 Priority.System
  pub normal : Priorities.FromPromise 1 Priority.Normal
  pub urgent : Priorities.FromPromise 2 Priority.Urgent
  pub low : Priorities.FromPromise 3 Priority.Low
  pub four : Priorities.FromPromise 4 Priority.System

pub priorities : PriorityNames
priorities = record { system = refl; normal = refl; urgent = refl; low = refl; four = refl }

-- the types of additional information, as cemi.rs and 03_06_03 number them; any other is kept
pub record InfoTypeNames : Type 0 where
  pub pl_medium : InfoType.FromPromise 0x01 AdditionalInfoType.PlMediumInfo
  pub rf_medium : InfoType.FromPromise 0x02 AdditionalInfoType.RfMediumInfo
  pub busmonitor : InfoType.FromPromise 0x03 AdditionalInfoType.BusmonitorErrorFlags
  pub relative_timestamp : InfoType.FromPromise 0x04 AdditionalInfoType.RelativeTimestamp
  pub time_delay : InfoType.FromPromise 0x05 AdditionalInfoType.TimeDelay
  pub extended_timestamp : InfoType.FromPromise 0x06 AdditionalInfoType.ExtendedRelativeTimestamp
  pub bibat : InfoType.FromPromise 0x07 AdditionalInfoType.BiBatInfo
  pub zero : InfoType.FromPromise 0x00 (AdditionalInfoType.Unknown 0x00)
  pub eight : InfoType.FromPromise 0x08 (AdditionalInfoType.Unknown 0x08)
  pub other : InfoType.FromPromise 0x99 (AdditionalInfoType.Unknown 0x99)
  pub back_relative : InfoType.ToPromise AdditionalInfoType.RelativeTimestamp 0x04
  pub back_extended : InfoType.ToPromise AdditionalInfoType.ExtendedRelativeTimestamp 0x06
  pub back_other : InfoType.ToPromise (AdditionalInfoType.Unknown 0x99) 0x99

pub info_types : InfoTypeNames
info_types = record {
  pl_medium = refl;
  rf_medium = refl;
  busmonitor = refl;
  relative_timestamp = refl;
  time_delay = refl;
  extended_timestamp = refl;
  bibat = refl;
  zero = refl;
  eight = refl;
  other = refl;
  back_relative = refl;
  back_extended = refl;
  back_other = refl;
}

-- ---- control fields, bit by bit

abbrev first : ℕ → ControlField1
first raw = record { raw = raw }

abbrev second : ℕ → ControlField2
second raw = record { raw = raw }

pub record ControlBits : Type 0 where
  -- control 1: 0x80 standard frame, 0x20 do not repeat, 0x10 broadcast, 0x0C priority, 0x02 acknowledgement, 0x01 error
  pub standard : First.StandardFramePromise (first 0x80) true
  pub not_standard : First.StandardFramePromise (first 0x7F) false
  pub single : First.DoNotRepeatPromise (first 0x20) true
  pub not_single : First.DoNotRepeatPromise (first 0xDF) false
  pub broadcast : First.BroadcastPromise (first 0x10) true
  pub not_broadcast : First.BroadcastPromise (first 0xEF) false
  pub normal : First.PriorityPromise (first 0x04) Priority.Normal
  pub urgent : First.PriorityPromise (first 0xFB) Priority.Urgent
  pub acknowledge : First.AckRequestedPromise (first 0x02) true
  pub not_acknowledge : First.AckRequestedPromise (first 0xFD) false
  pub error : First.HasErrorPromise (first 0x01) true
  pub not_error : First.HasErrorPromise (first 0xFE) false
  -- control 2: 0x80 group address, 0x70 hop count, 0x0F extended format
  pub group : Second.GroupAddressPromise (second 0x80) true
  pub individual : Second.GroupAddressPromise (second 0x7F) false
  pub hops : Second.HopCountPromise (second 0x60) 6
  pub not_hops : Second.HopCountPromise (second 0x8F) 0
  pub format : Second.ExtendedFormatPromise (second 0xF4) 4
  -- what `new` makes of its arguments
  pub new_first : First.NewPromise true false true Priority.Normal false false (first 0x94)
  pub new_others : First.NewPromise false true false Priority.Urgent true true (first 0x2B)
  pub new_second : Second.NewPromise true 6 4 (second 0xE4)

pub control_bits : ControlBits
control_bits = record {
  standard = refl;
  not_standard = refl;
  single = refl;
  not_single = refl;
  broadcast = refl;
  not_broadcast = refl;
  normal = refl;
  urgent = refl;
  acknowledge = refl;
  not_acknowledge = refl;
  error = refl;
  not_error = refl;
  group = refl;
  individual = refl;
  hops = refl;
  not_hops = refl;
  format = refl;
  new_first = refl;
  new_others = refl;
  new_second = refl;
}

-- ---- TPCI and APCI

-- the two bytes of TPCI and APCI
pub record PciNames : Type 0 where
  pub unnumbered_data : Transport.FromPromise 0x3F Tpci.UnnumberedData
  pub numbered_data : Transport.FromPromise 0x57 (Tpci.NumberedData 5)
  pub unnumbered_control : Transport.FromPromise 0x81 Tpci.UnnumberedControl
  pub numbered-control : Transport.FromPromise 0xD6 (Tpci.NumberedControl 5)
  pub group_value_read : Application.FromPromise 0x00 0x3F Apci.GroupValueRead
  pub group_value_response : Application.FromPromise 0x00 0x40 Apci.GroupValueResponse
  pub group_value_write : Application.FromPromise 0x00 0x80 Apci.GroupValueWrite
  pub individual_address_write : Application.FromPromise 0x00 0xC0 Apci.IndividualAddressWrite
  pub individual_address_read : Application.FromPromise 0x01 0x00 Apci.IndividualAddressRead
  pub individual_address_response : Application.FromPromise 0x01 0x40 Apci.IndividualAddressResponse
  pub adc_read : Application.FromPromise 0x01 0x80 Apci.AdcRead
  pub adc_response : Application.FromPromise 0x01 0xC0 Apci.AdcResponse
  pub memory_read : Application.FromPromise 0x02 0x00 Apci.MemoryRead
  pub memory_response : Application.FromPromise 0x02 0x40 Apci.MemoryResponse
  pub memory_write : Application.FromPromise 0x02 0x80 Apci.MemoryWrite
  pub user_message : Application.FromPromise 0x02 0xC0 (Apci.Unknown 0x2C0)
  pub device_descriptor_read : Application.FromPromise 0x03 0x00 Apci.DeviceDescriptorRead
  pub device_descriptor_response : Application.FromPromise 0x03 0x40 Apci.DeviceDescriptorResponse
  pub restart : Application.FromPromise 0x03 0x80 (Apci.Unknown 0x380)
  pub escape : Application.FromPromise 0x03 0xC0 (Apci.Unknown 0x3C0)
  pub code_of_write : Application.ToPromise Apci.GroupValueWrite 0x080
  pub code_of_memory_write : Application.ToPromise Apci.MemoryWrite 0x280
  -- T_Nak with sequence 5: its control code is none of the application's
  pub control_code : Transport.ControlCodeInPromise 0xD7 3
  pub code_of_control : Application.ToPromise (Apci.Control 3) 3

pub pci_names : PciNames
pci_names = record {
  unnumbered_data = refl;
  numbered_data = refl;
  unnumbered_control = refl;
  numbered-control = refl;
  group_value_read = refl;
  group_value_response = refl;
  group_value_write = refl;
  individual_address_write = refl;
  individual_address_read = refl;
  individual_address_response = refl;
  adc_read = refl;
  adc_response = refl;
  memory_read = refl;
  memory_response = refl;
  memory_write = refl;
  user_message = refl;
  device_descriptor_read = refl;
  device_descriptor_response = refl;
  restart = refl;
  escape = refl;
  code_of_write = refl;
  code_of_memory_write = refl;
  control_code = refl;
  code_of_control = refl;
}

-- a record by control 2 and APCI
abbrev asking : ℕ → Apci → LDataFields
asking control-2 a = record {
  ctrl1 = record { raw = 0x94 };
  ctrl2 = record { raw = control-2 };
  source = record { 0 = 0x1105 };
  destination_raw = 0x0803;
  npdu_length = 2;
  tpci = Tpci.UnnumberedData;
  apci = a;
}

-- what an L_Data record is asked: each of the three services by its name, and whom it is for by bit 7 of control 2
pub record Asked : Type 0 where
  pub write : LData.IsServicePromise 0x080 (asking 0xE0 Apci.GroupValueWrite) true
  pub write_unknown : LData.IsServicePromise 0x080 (asking 0xE0 (Apci.Unknown 0x080)) false
  pub write_response : LData.IsServicePromise 0x080 (asking 0xE0 Apci.GroupValueResponse) false
  pub read : LData.IsServicePromise 0x000 (asking 0xE0 Apci.GroupValueRead) true
  pub read_unknown : LData.IsServicePromise 0x000 (asking 0xE0 (Apci.Unknown 0x000)) false
  pub read_control : LData.IsServicePromise 0x000 (asking 0xE0 (Apci.Control 0)) false
  pub response : LData.IsServicePromise 0x040 (asking 0xE0 Apci.GroupValueResponse) true
  pub response_read : LData.IsServicePromise 0x040 (asking 0xE0 Apci.GroupValueRead) false
  pub to_group : LData.DestinationGroupPromise (asking 0x80 Apci.GroupValueWrite) (Some (record { 0 = 0x0803 }))
  pub to_no_group : LData.DestinationGroupPromise (asking 0x7F Apci.GroupValueWrite) None
  pub to_device : LData.DestinationIndividualPromise (asking 0x7F Apci.GroupValueWrite) (Some (record { 0 = 0x0803 }))
  pub to_no_device : LData.DestinationIndividualPromise (asking 0x80 Apci.GroupValueWrite) None

pub asked : Asked
asked = record {
  write = refl;
  write_unknown = refl;
  write_response = refl;
  read = refl;
  read_unknown = refl;
  read_control = refl;
  response = refl;
  response_read = refl;
  to_group = refl;
  to_no_group = refl;
  to_device = refl;
  to_no_device = refl;
}

-- ---- the tunnel's words, as the C border and the image number them

pub record TunnelNumbers : Type 0 where
  pub nothing : said_of Said.Nothing ≡ 0
  pub repeat : said_of Said.Repeat ≡ 1
  pub give_up : said_of Said.GiveUp ≡ 2
  pub deliver : said_of Said.Deliver ≡ 3
  pub duplicate : said_of Said.Duplicate ≡ 4
  pub out_of_order : said_of Said.OutOfOrder ≡ 5
  pub sent : said_of Said.Sent ≡ 6
  pub ignored : said_of Said.Ignored ≡ 7
  pub idle : wait_number Wait.Idle ≡ 0
  pub first : wait_number Wait.First ≡ 1
  pub second : wait_number Wait.Second ≡ 2

pub tunnel-numbers : TunnelNumbers
tunnel-numbers = record {
  nothing = refl;
  repeat = refl;
  give_up = refl;
  deliver = refl;
  duplicate = refl;
  out_of_order = refl;
  sent = refl;
  ignored = refl;
  idle = refl;
  first = refl;
  second = refl;
}

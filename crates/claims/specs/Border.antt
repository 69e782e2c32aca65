-- The C border, one row for each exported function, a refusal with its offset for each answer that reads, and the table's image: numbers and bytes typed from 01. The arguments and fields of a row differ, so that two exchanged in promise and code alike are found.
use Rattle.std.specs.Prelude.{ℕ, refl, List, [], ◌∷◌, ◌++◌, replicate, Ok, Err, None}
use Rattle.wire.specs.declared.refusals.Refusal.TheVariants.{InvalidMessageCode}
use Rattle.constants.specs.MessageCodes.{message_of}
use Rattle.pci.specs.PciLaws.{tpci_of}
use Rattle.tunnel.specs.declared.rules.Wait.TheVariants.{First, Second}
use Rattle.tunnel_table.specs.Places.{Place, held}
use Rattle.tunnel_image.specs.Image as Image
use Rattle.knx.specs.Reading as KnxReading
use Rattle.knx.specs.Channel as KnxChannel
use Rattle.knx.specs.CemiLData as CemiLData
use Rattle.additional_info.specs.Area.{records_in, behind}
use Rattle.knx.specs.Building as Building
use Rattle.knx.specs.Info as KnxInfo
use Rattle.knx.specs.Called as Called
use Rattle.knx.specs.declared.reading.KnxConnectResponse.{KnxConnectResponse}
use Rattle.knx.specs.declared.cemi_ldata.KnxLData.{KnxLData}
use Rattle.knx.specs.declared.building.KnxWritten.{KnxWritten}
use Rattle.knx.specs.declared.building.KnxEndpoint.{KnxEndpoint}
use Rattle.knx.specs.declared.info.KnxAdditionalInfo.{KnxAdditionalInfo}
use Rattle.knx.specs.declared.called.KnxCalled.{KnxCalled}
use Rattle.claims.specs.Layouts.{endpoint_bytes, nines, stamped}
use Rattle.claims.specs.StandardCount.{to_group}

-- ---- reading

-- a response that is refused, by its offset and number
abbrev no_response : ℕ → ℕ → KnxConnectResponse
no_response o n = record { channel = 0; status = 0; structure_length = 0; host_protocol = 0; address = replicate 4 0; port = 0; crd = replicate 4 0; offset = o; number = n }

-- L is 7 and one byte follows the TPCI: 2 at 2 + 4 + 6, in either count
abbrev wrong_l : List ℕ
wrong_l = 0x29 ∷ 0x04 ∷ 0x04 ∷ 0x02 ∷ 0x12 ∷ 0x34 ∷ to_group 7 (0x00 ∷ 0x81 ∷ [])

abbrev no_ldata : KnxLData
no_ldata = record {
  start = 0;
  end = 0;
  source = 0;
  destination = 0;
  apci_code = 0;
  message_code = 0;
  control_1 = 0;
  control_2 = 0;
  npdu_length = 0;
  tpci_kind = 0;
  tpci_sequence = 0;
  apci_named = 0;
  control_code = 0;
  six_bit = 0;
  offset = 12;
  number = 2;
}

pub record Reads : Type 0 where
  -- an acknowledgement's eleven bytes and one more
  pub frame : KnxReading.FramePromise (0x06 ∷ 0x10 ∷ 0x04 ∷ 0x21 ∷ 0x00 ∷ 0x0B ∷ 0x04 ∷ 0x15 ∷ 0x07 ∷ 0x00 ∷ 0x00 ∷ 0xEE ∷ [])
      (record { start = 6; end = 11; service = 0x0421; total = 11; offset = 0; number = 0 })
  pub hpai : KnxReading.HpaiPromise endpoint_bytes
      (record { structure_length = 8; host_protocol = 1; address = 192 ∷ 168 ∷ 1 ∷ 2 ∷ []; port = 3671; offset = 0; number = 0 })
  pub connect_response : KnxReading.ConnectResponsePromise (0x15 ∷ 0x00 ∷ endpoint_bytes ++ 0x04 ∷ 0x05 ∷ 0x11 ∷ 0x0A ∷ [])
      (record {
        channel = 0x15;
        status = 0;
        structure_length = 8;
        host_protocol = 1;
        address = 192 ∷ 168 ∷ 1 ∷ 2 ∷ [];
        port = 3671;
        crd = 0x04 ∷ 0x05 ∷ 0x11 ∷ 0x0A ∷ [];
        offset = 0;
        number = 0;
      })
  -- in KNX's form a refusal has two bytes
  pub connect_refused : KnxReading.ConnectResponseStandardPromise (0x15 ∷ 0x24 ∷ [])
      (record { channel = 0x15; status = 0x24; structure_length = 0; host_protocol = 0; address = replicate 4 0; port = 0; crd = replicate 4 0; offset = 0; number = 0 })
  pub own_address : KnxReading.OwnAddressPromise
      (record { channel = 0x15; status = 0; structure_length = 8; host_protocol = 1; address = 192 ∷ 168 ∷ 1 ∷ 2 ∷ []; port = 3671; crd = 0x04 ∷ 0x05 ∷ 0x11 ∷ 0x0A ∷ []; offset = 0; number = 0 })
      0x110A
  pub status : KnxChannel.StatusPromise (0x15 ∷ 0x21 ∷ 0xEE ∷ []) (record { channel = 0x15; status = 0x21; offset = 0; number = 0 })
  pub status-short : KnxChannel.StatusPromise (0x15 ∷ []) (record { offset = 1; channel = 0; status = 0; number = 1 })
  pub disconnect_request : KnxChannel.DisconnectRequestPromise (0x15 ∷ 0x00 ∷ endpoint_bytes)
      (record { channel = 0x15; structure_length = 8; host_protocol = 1; address = 192 ∷ 168 ∷ 1 ∷ 2 ∷ []; port = 3671; offset = 0; number = 0 })
  -- a group write of 2A behind two bytes of additional information
  pub cemi-ldata : CemiLData.CemiLDataPromise stamped
      (record {
        start = 13;
        end = 14;
        source = 0x1105;
        destination = 0x0803;
        apci_code = 0x080;
        message_code = 0x29;
        control_1 = 0x94;
        control_2 = 0xE0;
        npdu_length = 3;
        tpci_kind = 0;
        tpci_sequence = 0;
        apci_named = 1;
        control_code = 0;
        six_bit = 0;
        offset = 0;
        number = 0;
      })
  -- a numbered packet of sequence 5 with the unnamed code 0x2C0 and the number 6
  pub cemi-numbered : CemiLData.CemiLDataPromise (0x2E ∷ 0x00 ∷ 0xBC ∷ 0x60 ∷ 0x11 ∷ 0x05 ∷ 0x08 ∷ 0x03 ∷ 0x02 ∷ 0x56 ∷ 0xC6 ∷ [])
      (record {
        start = 11;
        end = 11;
        source = 0x1105;
        destination = 0x0803;
        apci_code = 0x2C0;
        message_code = 0x2E;
        control_1 = 0xBC;
        control_2 = 0x60;
        npdu_length = 2;
        tpci_kind = 1;
        tpci_sequence = 5;
        apci_named = 0;
        control_code = 0;
        six_bit = 6;
        offset = 0;
        number = 0;
      })
  -- the switch telegram of a real gateway, and T_Ack of sequence 5
  pub cemi_switch : CemiLData.CemiLDataStandardPromise (0x29 ∷ 0x00 ∷ 0xBC ∷ 0xE0 ∷ 0x11 ∷ 0x05 ∷ 0x08 ∷ 0x03 ∷ 0x01 ∷ 0x00 ∷ 0x81 ∷ [])
      (record {
        start = 11;
        end = 11;
        source = 0x1105;
        destination = 0x0803;
        apci_code = 0x080;
        message_code = 0x29;
        control_1 = 0xBC;
        control_2 = 0xE0;
        npdu_length = 1;
        tpci_kind = 0;
        tpci_sequence = 0;
        apci_named = 1;
        control_code = 0;
        six_bit = 1;
        offset = 0;
        number = 0;
      })
  pub cemi-ack : CemiLData.CemiLDataStandardPromise (0x29 ∷ 0x00 ∷ 0xB0 ∷ 0x60 ∷ 0x11 ∷ 0x05 ∷ 0x12 ∷ 0x0A ∷ 0x00 ∷ 0xD6 ∷ [])
      (record {
        start = 10;
        end = 10;
        source = 0x1105;
        destination = 0x120A;
        apci_code = 0;
        message_code = 0x29;
        control_1 = 0xB0;
        control_2 = 0x60;
        npdu_length = 0;
        tpci_kind = 3;
        tpci_sequence = 5;
        apci_named = 0;
        control_code = 2;
        six_bit = 0;
        offset = 0;
        number = 0;
      })
  -- refused, each at an offset of its own: a total length of 5; an Hpai of 7 bytes; one whose length byte is 7, in a response and in a request; a response of one byte; an L of 7 behind four bytes of additional information
  pub frame_refused : KnxReading.FramePromise (0x06 ∷ 0x10 ∷ 0x04 ∷ 0x20 ∷ 0x00 ∷ 0x05 ∷ []) (record { start = 0; end = 0; service = 0; total = 0; offset = 4; number = 2 })
  pub hpai-refused : KnxReading.HpaiPromise (0x08 ∷ replicate 6 0) (record { structure_length = 0; host_protocol = 0; address = replicate 4 0; port = 0; offset = 7; number = 1 })
  pub response_refused : KnxReading.ConnectResponsePromise (0x15 ∷ 0x00 ∷ 0x07 ∷ replicate 11 0) (no_response 2 2)
  pub response_standard_refused : KnxReading.ConnectResponseStandardPromise (0x15 ∷ []) (no_response 1 1)
  pub request-refused : KnxChannel.DisconnectRequestPromise (0x15 ∷ 0x00 ∷ 0x07 ∷ replicate 7 0)
      (record { channel = 0; structure_length = 0; host_protocol = 0; address = replicate 4 0; port = 0; offset = 2; number = 2 })
  pub ldata-refused : CemiLData.CemiLDataPromise wrong_l no_ldata
  pub ldata_standard_refused : CemiLData.CemiLDataStandardPromise wrong_l no_ldata

pub reads : Reads
unfolding message_of
reads = record {
  frame = refl;
  hpai = refl;
  connect_response = (refl, record { address_4 = refl; crd_4 = refl });
  connect_refused = (refl, record { address_4 = refl; crd_4 = refl });
  own_address = refl;
  status = refl;
  status-short = refl;
  disconnect_request = refl;
  cemi-ldata = refl;
  cemi-numbered = refl;
  cemi_switch = refl;
  cemi-ack = refl;
  frame_refused = refl;
  hpai-refused = refl;
  response_refused = (refl, record { address_4 = refl; crd_4 = refl });
  response_standard_refused = (refl, record { address_4 = refl; crd_4 = refl });
  request-refused = refl;
  ldata-refused = refl;
  ldata_standard_refused = refl;
}

-- ---- additional information

-- no record, and beside a number and its offset
abbrev no_info : ℕ → ℕ → KnxAdditionalInfo
no_info o n = record { start = 0; end = 0; timestamp = 0; found = 0; named = 0; info_type = 0; timestamped = 0; offset = o; number = n }

pub record Infos : Type 0 where
  pub area : KnxInfo.AreaPromise stamped (record { start = 2; end = 4; offset = 0; number = 0 })
  pub area-refused : KnxInfo.AreaPromise (0x29 ∷ 0x02 ∷ 0x04 ∷ []) (record { start = 0; end = 0; offset = 1; number = 2 })
  -- an extended timestamp of four bytes, then a type without a name
  pub first : KnxInfo.FirstPromise (0x06 ∷ 0x04 ∷ 0x80 ∷ 0x01 ∷ 0x02 ∷ 0x03 ∷ 0x99 ∷ 0x01 ∷ 0xAA ∷ [])
      (record { start = 2; end = 6; timestamp = 0x80010203; found = 1; named = 1; info_type = 6; timestamped = 1; offset = 0; number = 0 })
  pub second : KnxInfo.NthPromise (0x06 ∷ 0x04 ∷ 0x80 ∷ 0x01 ∷ 0x02 ∷ 0x03 ∷ 0x99 ∷ 0x01 ∷ 0xAA ∷ []) 1
      (record { start = 8; end = 9; timestamp = 0; found = 1; named = 0; info_type = 0x99; timestamped = 0; offset = 0; number = 0 })
  pub none : KnxInfo.FirstPromise [] (no_info 0 0)
  pub refused : KnxInfo.FirstPromise (0x04 ∷ []) (no_info 0 14)
  pub two : KnxInfo.CountPromise (0x06 ∷ 0x00 ∷ 0x99 ∷ 0x01 ∷ 0xAA ∷ []) (record { count = 2; offset = 0; number = 0 })
  -- a lone type byte at 2, for the n-th and the count
  pub nth_refused : KnxInfo.NthPromise (0x06 ∷ 0x00 ∷ 0x99 ∷ []) 0 (no_info 2 14)
  pub count-refused : KnxInfo.CountPromise (0x06 ∷ 0x00 ∷ 0x99 ∷ []) (record { count = 0; offset = 2; number = 14 })

pub infos : Infos
unfolding records_in behind
infos = record { area = refl; area-refused = refl; first = refl; second = refl; none = refl; refused = refl; two = refl; nth_refused = refl; count-refused = refl }

-- ---- building

abbrev control : KnxEndpoint
control = record { address = 192 ∷ 168 ∷ 1 ∷ 2 ∷ []; port = 3671 }

abbrev other : KnxEndpoint
other = record { address = 10 ∷ 0 ∷ 0 ∷ 3 ∷ []; port = 3672 }

abbrev other_bytes : List ℕ
other_bytes = 0x08 ∷ 0x01 ∷ 0x0A ∷ 0x00 ∷ 0x00 ∷ 0x03 ∷ 0x0E ∷ 0x58 ∷ []

abbrev wrote : ℕ → KnxWritten
wrote n = record { count = n; offset = 0; number = 0 }

pub record Builds : Type 0 where
  pub ldata : Building.LDataBuildPromise 0xBC 0x60 0x1105 0x0803 0x54 0x240 6 (0x2A ∷ []) (nines ++ nines) (wrote 10)
      (0xBC ∷ 0x60 ∷ 0x11 ∷ 0x05 ∷ 0x08 ∷ 0x03 ∷ 0x03 ∷ 0x56 ∷ 0x46 ∷ 0x2A ∷ replicate 8 9)
  -- one byte, L is 2; T_Nak of sequence 5, whose TPCI byte is given as D4
  pub ldata_standard : Building.LDataBuildStandardPromise 0xBC 0x60 0x1105 0x0803 0x54 0x240 6 (0x2A ∷ []) (nines ++ nines) (wrote 10)
      (0xBC ∷ 0x60 ∷ 0x11 ∷ 0x05 ∷ 0x08 ∷ 0x03 ∷ 0x02 ∷ 0x56 ∷ 0x46 ∷ 0x2A ∷ replicate 8 9)
  pub ldata_nak : Building.LDataBuildStandardPromise 0xB0 0x60 0x1105 0x120A 0xD4 3 64 [] nines (wrote 8) (0xB0 ∷ 0x60 ∷ 0x11 ∷ 0x05 ∷ 0x12 ∷ 0x0A ∷ 0x00 ∷ 0xD7 ∷ 9 ∷ [])
  pub connect_request : Building.ConnectRequestPromise control other (nines ++ nines ++ nines) (wrote 26)
      (0x06 ∷ 0x10 ∷ 0x02 ∷ 0x05 ∷ 0x00 ∷ 0x1A ∷ endpoint_bytes ++ other_bytes ++ 0x04 ∷ 0x04 ∷ 0x02 ∷ 0x00 ∷ 9 ∷ [])
  pub state_request : Building.ConnectionStateRequestPromise 0x15 control (nines ++ nines) (wrote 16)
      (0x06 ∷ 0x10 ∷ 0x02 ∷ 0x07 ∷ 0x00 ∷ 0x10 ∷ 0x15 ∷ 0x00 ∷ endpoint_bytes ++ 9 ∷ 9 ∷ [])
  pub disconnect_request : Building.DisconnectRequestPromise 0x15 control (nines ++ nines) (wrote 16)
      (0x06 ∷ 0x10 ∷ 0x02 ∷ 0x09 ∷ 0x00 ∷ 0x10 ∷ 0x15 ∷ 0x00 ∷ endpoint_bytes ++ 9 ∷ 9 ∷ [])
  pub tunneling_request : Building.TunnelingRequestPromise 0x15 0x07 (0x29 ∷ 0x01 ∷ []) (nines ++ nines) (wrote 12)
      (0x06 ∷ 0x10 ∷ 0x04 ∷ 0x20 ∷ 0x00 ∷ 0x0C ∷ 0x04 ∷ 0x15 ∷ 0x07 ∷ 0x00 ∷ 0x29 ∷ 0x01 ∷ replicate 6 9)
  pub info-append : KnxInfo.AppendPromise (0x99 ∷ 0x01 ∷ 0xAA ∷ []) 0x04 (0x12 ∷ 0x34 ∷ []) nines (wrote 7) (0x99 ∷ 0x01 ∷ 0xAA ∷ 0x04 ∷ 0x02 ∷ 0x12 ∷ 0x34 ∷ 9 ∷ 9 ∷ [])
  -- L_Data.con around an area and three bytes; a code that is none of the seven is 6 before the area's 14
  pub cemi_build : KnxInfo.BuildPromise 0x2E (0x99 ∷ 0x01 ∷ 0xAA ∷ []) (0xBC ∷ 0xE0 ∷ 0x11 ∷ []) nines (wrote 8) (0x2E ∷ 0x03 ∷ 0x99 ∷ 0x01 ∷ 0xAA ∷ 0xBC ∷ 0xE0 ∷ 0x11 ∷ 9 ∷ [])
  pub cemi_code : KnxInfo.BuildPromise 0x13 (0x99 ∷ []) [] [] (record { count = 0; offset = 0; number = 6 }) []
  pub tunneling_ack : Building.TunnelingAckPromise 0x15 0x07 0x29 (nines ++ nines) (wrote 11)
      (0x06 ∷ 0x10 ∷ 0x04 ∷ 0x21 ∷ 0x00 ∷ 0x0B ∷ 0x04 ∷ 0x15 ∷ 0x07 ∷ 0x00 ∷ 0x29 ∷ replicate 7 9)
  pub tunneling_ack_standard : Building.TunnelingAckStandardPromise 0x15 0x07 0x29 (nines ++ nines) (wrote 10)
      (0x06 ∷ 0x10 ∷ 0x04 ∷ 0x21 ∷ 0x00 ∷ 0x0A ∷ 0x04 ∷ 0x15 ∷ 0x07 ∷ 0x29 ∷ replicate 8 9)
  pub disconnect_response : Building.DisconnectResponseBuildPromise 0x15 0x21 nines (wrote 8) (0x06 ∷ 0x10 ∷ 0x02 ∷ 0x0A ∷ 0x00 ∷ 0x08 ∷ 0x15 ∷ 0x21 ∷ 9 ∷ [])

pub builds : Builds
unfolding tpci_of records_in behind
builds = record {
  ldata = record { answer = Ok 10; keeps = (refl, refl); tells = refl };
  ldata_standard = record { answer = Ok 10; keeps = (refl, refl); tells = refl };
  ldata_nak = record { answer = Ok 8; keeps = (refl, refl); tells = refl };
  connect_request = record { answer = Ok 26; keeps = (refl, refl); tells = refl };
  state_request = record { answer = Ok 16; keeps = (refl, refl); tells = refl };
  disconnect_request = record { answer = Ok 16; keeps = (refl, refl); tells = refl };
  tunneling_request = record { answer = Ok 12; keeps = (refl, refl); tells = refl };
  info-append = record { answer = Ok 7; keeps = (refl, refl); tells = refl };
  cemi_build = record { answer = Ok 8; keeps = (refl, refl); tells = refl };
  cemi_code = record { answer = Err InvalidMessageCode; keeps = (refl, refl); tells = refl };
  tunneling_ack = record { answer = Ok 11; keeps = (refl, refl); tells = refl };
  tunneling_ack_standard = record { answer = Ok 10; keeps = (refl, refl); tells = refl };
  disconnect_response = record { answer = Ok 8; keeps = (refl, refl); tells = refl };
}

-- ---- the table's image

-- a place: held, id, r, s, waiting; then another, then six free ones
abbrev image_of : List ℕ → List ℕ → List ℕ
image_of first second = first ++ second ++ replicate 30 0

abbrev place : ℕ → ℕ → ℕ → ℕ → List ℕ
place id r s waiting = 1 ∷ id ∷ r ∷ s ∷ waiting ∷ []

abbrev none : List ℕ
none = 0 ∷ 0 ∷ 0 ∷ 0 ∷ 0 ∷ []

-- 0x15 with r = 7 and s = 3 waits first; 0x16 with r = 8 and s = 4 waits second
abbrev two : List ℕ
two = image_of (place 0x15 7 3 1) (place 0x16 8 4 2)

abbrev two_places : List Place
two_places =
    held 0x15 (record { r = 7; s = 3; w = First })
    ∷ held 0x16 (record { r = 8; s = 4; w = Second })
    ∷ replicate 6 None

abbrev said : ℕ → KnxCalled
said n = record { start = 0; end = 0; written = 0; said = n; offset = 0; number = 0 }

abbrev refused_at : ℕ → ℕ → KnxCalled
refused_at o n = record { start = 0; end = 0; written = 0; said = 0; offset = o; number = n }

pub record Tables : Type 0 where
  pub unpacked : Image.UnpackPromise two (record { places = two_places })
  pub packed : Image.PackPromise two_places (replicate 41 9) (Ok 40) (two ++ 9 ∷ [])
  pub empty : Called.EmptyPromise (replicate 41 9) (wrote 40) (replicate 40 0 ++ 9 ∷ [])
  pub opens : Called.OpenPromise (image_of (place 0x15 7 3 1) none) 0x16 (said 0) (image_of (place 0x15 7 3 1) (place 0x16 0 0 0))
  pub closes : Called.ClosePromise two 0x15 (said 0) (image_of none (place 0x16 8 4 2))
  pub repeats : Called.TimeoutPromise two 0x15 (said 1) (image_of (place 0x15 7 3 2) (place 0x16 8 4 2))
  pub gives_up : Called.TimeoutPromise two 0x16 (said 2) (image_of (place 0x15 7 3 1) none)
  -- the request has the sending number 3, and the channel waits first
  pub sends : Called.SendPromise (image_of (place 0x15 7 3 0) none) 0x15 (0x11 ∷ 0x01 ∷ []) (nines ++ nines)
      (record { start = 0; end = 0; written = 12; said = 0; offset = 0; number = 0 })
      (image_of (place 0x15 7 3 1) none)
      (0x06 ∷ 0x10 ∷ 0x04 ∷ 0x20 ∷ 0x00 ∷ 0x0C ∷ 0x04 ∷ 0x15 ∷ 0x03 ∷ 0x00 ∷ 0x11 ∷ 0x01 ∷ replicate 6 9)
  -- request number 7 is delivered and acknowledged; acknowledgement number 3 says "sent"
  pub delivers : Called.DatagramPromise two (0x06 ∷ 0x10 ∷ 0x04 ∷ 0x20 ∷ 0x00 ∷ 0x0C ∷ 0x04 ∷ 0x15 ∷ 0x07 ∷ 0x00 ∷ 0x29 ∷ 0x01 ∷ 0xEE ∷ []) (nines ++ nines)
      (record { start = 10; end = 12; written = 11; said = 3; offset = 0; number = 0 })
      (image_of (place 0x15 8 3 1) (place 0x16 8 4 2))
      (0x06 ∷ 0x10 ∷ 0x04 ∷ 0x21 ∷ 0x00 ∷ 0x0B ∷ 0x04 ∷ 0x15 ∷ 0x07 ∷ 0x00 ∷ 0x00 ∷ replicate 7 9)
  pub sent : Called.DatagramPromise two (0x06 ∷ 0x10 ∷ 0x04 ∷ 0x21 ∷ 0x00 ∷ 0x0B ∷ 0x04 ∷ 0x15 ∷ 0x03 ∷ 0x00 ∷ 0x00 ∷ []) [] (said 6)
      (image_of (place 0x15 7 4 0) (place 0x16 8 4 2))
      []
  pub ignored : Called.DatagramPromise two (0x06 ∷ 0x10 ∷ 0x04 ∷ 0x21 ∷ 0x00 ∷ 0x0B ∷ 0x04 ∷ 0x15 ∷ 0x07 ∷ 0x00 ∷ 0x00 ∷ []) [] (said 7) two []
  -- in KNX's form ten bytes, both ways; status 0x29 acts as a timeout
  pub delivers_standard : Called.DatagramStandardPromise two (0x06 ∷ 0x10 ∷ 0x04 ∷ 0x20 ∷ 0x00 ∷ 0x0C ∷ 0x04 ∷ 0x15 ∷ 0x07 ∷ 0x00 ∷ 0x29 ∷ 0x01 ∷ 0xEE ∷ []) (replicate 10 9)
      (record { start = 10; end = 12; written = 10; said = 3; offset = 0; number = 0 })
      (image_of (place 0x15 8 3 1) (place 0x16 8 4 2))
      (0x06 ∷ 0x10 ∷ 0x04 ∷ 0x21 ∷ 0x00 ∷ 0x0A ∷ 0x04 ∷ 0x15 ∷ 0x07 ∷ 0x00 ∷ [])
  pub sent_standard : Called.DatagramStandardPromise two (0x06 ∷ 0x10 ∷ 0x04 ∷ 0x21 ∷ 0x00 ∷ 0x0A ∷ 0x04 ∷ 0x15 ∷ 0x03 ∷ 0x00 ∷ []) [] (said 6)
      (image_of (place 0x15 7 4 0) (place 0x16 8 4 2))
      []
  pub repeats_standard : Called.DatagramStandardPromise two (0x06 ∷ 0x10 ∷ 0x04 ∷ 0x21 ∷ 0x00 ∷ 0x0A ∷ 0x04 ∷ 0x15 ∷ 0x03 ∷ 0x29 ∷ []) [] (said 1)
      (image_of (place 0x15 7 3 2) (place 0x16 8 4 2))
      []
  -- 0x17 is not open: 9 at 7, where the datagram names it
  pub not_open : Called.DatagramPromise two (0x06 ∷ 0x10 ∷ 0x04 ∷ 0x20 ∷ 0x00 ∷ 0x0A ∷ 0x04 ∷ 0x17 ∷ 0x07 ∷ 0x00 ∷ []) nines (refused_at 7 9) two nines
  -- an image of 39 bytes is 1
  pub short : Called.OpenPromise (replicate 39 0) 0x15 (refused_at 0 1) (replicate 39 0)

pub tables : Tables
tables = record {
  unpacked = refl;
  packed = (refl, refl);
  empty = record { answer = Ok 40; keeps = (refl, refl); tells = refl };
  opens = refl;
  closes = refl;
  repeats = refl;
  gives_up = refl;
  sends = refl;
  delivers = refl;
  sent = refl;
  ignored = refl;
  delivers_standard = refl;
  sent_standard = refl;
  repeats_standard = refl;
  not_open = refl;
  short = refl;
}

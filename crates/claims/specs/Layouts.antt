-- Each record's bytes and values, typed from 01 and the KNX documents: a layout that parser and builder share wrongly is found here, since one error in it passes every round trip. In a row the values differ, so that two fields exchanged are found too.
use Rattle.std.specs.Prelude.{ℕ, ◌≡◌, refl, List, [], ◌∷◌, ◌++◌, Ok}
use Rattle.wire.specs.Told.{viewed}
use Rattle.constants.specs.declared.services.ServiceType.TheVariants.{TunnellingRequest}
use Rattle.constants.specs.declared.message_codes.CEMIMessageCode.TheVariants.{LDataInd}
use Rattle.header.specs.Header as Header
use Rattle.header.specs.declared.KnxnetIpHeader.{KnxnetIpHeader}
use Rattle.hpai.specs.Hpai as Hpai
use Rattle.hpai.specs.declared.Hpai.{Hpai}
use Rattle.connect.specs.Cri as Cri
use Rattle.connect.specs.Request as ConnectRequest
use Rattle.connect.specs.Response as ConnectResponse
use Rattle.connect.specs.Channel as Channel
use Rattle.tunnelling.specs.Connection as Connection
use Rattle.tunnelling.specs.Request as TunnelingRequest
use Rattle.tunnelling.specs.Ack as TunnelingAck
use Rattle.tunnelling.specs.declared.connection.ConnectionHeader.{ConnectionHeader}
use Rattle.ldata.specs.Builder as LDataBuilder
use Rattle.pci.specs.declared.transport.Tpci.TheVariants.{NumberedData}
use Rattle.cemi.specs.Cemi as Cemi
use Rattle.cemi.specs.declared.CEMIFrame.{CEMIFrame}
use Rattle.claims.specs.Rows.{ldata, group_write}

-- ---- header, endpoint and request information

abbrev header : KnxnetIpHeader
header = record { header_length = 6; protocol_version = 0x10; service_type = TunnellingRequest; total_length = 0x0215 }

abbrev header_bytes : List ℕ
header_bytes = 0x06 ∷ 0x10 ∷ 0x04 ∷ 0x20 ∷ 0x02 ∷ 0x15 ∷ []

-- 192.168.1.2, port 3671, over UDP (1); and port 3672 over a protocol that is not looked at
abbrev pub endpoint : Hpai
endpoint = record { structure_length = 8; host_protocol = 1; ip_address = 192 ∷ 168 ∷ 1 ∷ 2 ∷ []; port = 3671 }

abbrev pub endpoint_bytes : List ℕ
endpoint_bytes = 0x08 ∷ 0x01 ∷ 0xC0 ∷ 0xA8 ∷ 0x01 ∷ 0x02 ∷ 0x0E ∷ 0x57 ∷ []

abbrev other : Hpai
other = record { structure_length = 8; host_protocol = 2; ip_address = 192 ∷ 168 ∷ 1 ∷ 2 ∷ []; port = 3672 }

abbrev other_bytes : List ℕ
other_bytes = 0x08 ∷ 0x02 ∷ 0xC0 ∷ 0xA8 ∷ 0x01 ∷ 0x02 ∷ 0x0E ∷ 0x58 ∷ []

-- nine bytes before a call, each 9
abbrev pub nines : List ℕ
nines = 9 ∷ 9 ∷ 9 ∷ 9 ∷ 9 ∷ 9 ∷ 9 ∷ 9 ∷ 9 ∷ []

pub record Endpoints : Type 0 where
  pub header_parse : Header.ParsePromise header_bytes (Ok header)
  pub header_encode : Header.EncodePromise header nines (Ok 6) (header_bytes ++ 9 ∷ 9 ∷ 9 ∷ [])
  pub body-length : Header.BodyLengthPromise header 527
  pub body_length_below : Header.BodyLengthPromise (record { header_length = 6; protocol_version = 0x10; service_type = TunnellingRequest; total_length = 5 }) 0
  pub hpai_parse : Hpai.ParsePromise (endpoint_bytes ++ 0xEE ∷ []) (Ok endpoint)
  pub hpai_encode : Hpai.EncodePromise endpoint nines (Ok 8) (endpoint_bytes ++ 9 ∷ [])
  pub hpai_protocol : Hpai.ParsePromise other_bytes (Ok other)
  pub hpai_protocol_encode : Hpai.EncodePromise other nines (Ok 8) (other_bytes ++ 9 ∷ [])
  -- a tunnel (4) on the link layer (2); the reserved byte is not looked at
  pub cri_encode : Cri.EncodePromise (record { connection_type = 4; knx_layer = 2 }) nines (Ok 4) (0x04 ∷ 0x04 ∷ 0x02 ∷ 0x00 ∷ 9 ∷ 9 ∷ 9 ∷ 9 ∷ 9 ∷ [])
  pub cri_decode : Cri.DecodePromise (0x04 ∷ 0x03 ∷ 0x80 ∷ 0xFF ∷ []) (Ok (record { connection_type = 3; knx_layer = 0x80 }))
  pub cri_tunnel : Cri.TunnelLinkLayerPromise (record { connection_type = 4; knx_layer = 2 })

pub endpoints : Endpoints
endpoints = record {
  header_parse = refl;
  header_encode = (refl, refl);
  body-length = refl;
  body_length_below = refl;
  hpai_parse = refl;
  hpai_encode = (refl, refl);
  hpai_protocol = refl;
  hpai_protocol_encode = (refl, refl);
  cri_encode = (refl, refl);
  cri_decode = refl;
  cri_tunnel = refl;
}

-- ---- connecting, keeping alive, disconnecting

pub record Connecting : Type 0 where
  -- 26 bytes: control endpoint, data endpoint, request information
  pub connect_request : ConnectRequest.BuildPromise
      (record { control_endpoint = endpoint; data_endpoint = other; cri = record { connection_type = 4; knx_layer = 2 } })
      (nines ++ nines ++ nines)
      (Ok 26)
      (0x06 ∷ 0x10 ∷ 0x02 ∷ 0x05 ∷ 0x00 ∷ 0x1A ∷ endpoint_bytes ++ other_bytes ++ 0x04 ∷ 0x04 ∷ 0x02 ∷ 0x00 ∷ 9 ∷ [])
  -- 16 bytes: channel, a zero, control endpoint
  pub state_request : Channel.StateBuildPromise (record { channel_id = 0x15; control_endpoint = endpoint }) (nines ++ nines)
      (Ok 16)
      (0x06 ∷ 0x10 ∷ 0x02 ∷ 0x07 ∷ 0x00 ∷ 0x10 ∷ 0x15 ∷ 0x00 ∷ endpoint_bytes ++ 9 ∷ 9 ∷ [])
  pub disconnect_request : Channel.DisconnectBuildPromise (record { channel_id = 0x15; control_endpoint = endpoint }) (nines ++ nines)
      (Ok 16)
      (0x06 ∷ 0x10 ∷ 0x02 ∷ 0x09 ∷ 0x00 ∷ 0x10 ∷ 0x15 ∷ 0x00 ∷ endpoint_bytes ++ 9 ∷ 9 ∷ [])
  -- channel, then status; later bytes are not looked at
  pub state_response : Channel.StateParsePromise (0x15 ∷ 0x21 ∷ []) (Ok (record { channel_id = 0x15; status = 0x21 }))
  pub disconnect_response : Channel.DisconnectParsePromise (0x15 ∷ 0x21 ∷ 0xEE ∷ []) (Ok (record { channel_id = 0x15; status = 0x21 }))
  -- channel, status, data endpoint, four bytes of data
  pub connect_response : ConnectResponse.ParsePromise (0x15 ∷ 0x00 ∷ endpoint_bytes ++ 0x04 ∷ 0x05 ∷ 0x11 ∷ 0x0A ∷ [])
      (Ok (record { channel_id = 0x15; status = 0; data_endpoint = endpoint; crd = 0x04 ∷ 0x05 ∷ 0x11 ∷ 0x0A ∷ [] }))

pub connecting : Connecting
connecting = record {
  connect_request = (refl, refl);
  state_request = (refl, refl);
  disconnect_request = (refl, refl);
  state_response = refl;
  disconnect_response = refl;
  connect_response = (refl, record { address_4 = refl; crd_4 = refl });
}

-- ---- tunnelled frames

abbrev connection : ConnectionHeader
connection = record { channel_id = 0x15; sequence_counter = 0x07 }

pub record Tunnelled : Type 0 where
  pub connection_encode : Connection.EncodePromise connection nines (Ok 4) (0x04 ∷ 0x15 ∷ 0x07 ∷ 0x00 ∷ 9 ∷ 9 ∷ 9 ∷ 9 ∷ 9 ∷ [])
  pub connection_decode : Connection.DecodePromise (0x05 ∷ 0x15 ∷ 0x07 ∷ 0xFF ∷ []) (Ok connection)
  pub request : TunnelingRequest.BuildPromise (record { connection_header = connection }) (0x29 ∷ 0x01 ∷ []) (nines ++ nines)
      (Ok 12)
      (0x06 ∷ 0x10 ∷ 0x04 ∷ 0x20 ∷ 0x00 ∷ 0x0C ∷ 0x04 ∷ 0x15 ∷ 0x07 ∷ 0x00 ∷ 0x29 ∷ 0x01 ∷ 9 ∷ 9 ∷ 9 ∷ 9 ∷ 9 ∷ 9 ∷ [])
  pub request-cemi : TunnelingRequest.cemi_by01 (0x04 ∷ 0x15 ∷ 0x07 ∷ 0x00 ∷ 0x29 ∷ 0x01 ∷ []) ≡ viewed 4 6
  pub ack : TunnelingAck.BuildPromise (record { connection_header = connection; status = 0x29 }) (nines ++ 9 ∷ 9 ∷ 9 ∷ [])
      (Ok 11)
      (0x06 ∷ 0x10 ∷ 0x04 ∷ 0x21 ∷ 0x00 ∷ 0x0B ∷ 0x04 ∷ 0x15 ∷ 0x07 ∷ 0x00 ∷ 0x29 ∷ 9 ∷ [])
  pub ack_parse : TunnelingAck.ParsePromise (0x05 ∷ 0x15 ∷ 0x07 ∷ 0xFF ∷ 0x29 ∷ 0xEE ∷ []) (Ok (record { connection_header = connection; status = 0x29 }))

pub tunnelled : Tunnelled
tunnelled = record {
  connection_encode = (refl, refl);
  connection_decode = refl;
  request = (refl, refl);
  request-cemi = refl;
  ack = (refl, refl);
  ack_parse = refl;
}

-- ---- cEMI and L_Data

abbrev indication : CEMIFrame
indication = record { message_code = LDataInd }

-- two bytes of additional information, then a group write of 2A
abbrev pub stamped : List ℕ
stamped = 0x29 ∷ 0x02 ∷ 0xAA ∷ 0xBB ∷ ldata 3 (0x00 ∷ 0x80 ∷ 0x2A ∷ [])

pub record InCemi : Type 0 where
  pub accepted : Cemi.ParsePromise stamped (Ok indication)
  pub info-length : Cemi.info_length stamped ≡ 2
  pub info_view : Cemi.service_info_by01 stamped ≡ viewed 4 14
  pub info_part : Cemi.ServiceInfoPartPromise stamped (ldata 3 (0x00 ∷ 0x80 ∷ 0x2A ∷ []))
  pub fields : Cemi.AsLDataPromise indication stamped (Ok (group_write 3))
  -- a numbered packet of sequence 5 with memory response 0x240, the number 6 and two bytes of data: L is 4, the two code bits stand in bytes 7 and 8
  pub built : LDataBuilder.BuildPromise
      (record {
        ctrl1 = record { raw = 0xBC };
        ctrl2 = record { raw = 0x60 };
        source = record { 0 = 0x1105 };
        destination_raw = 0x0803;
        tpci = NumberedData 5;
        apci_code = 0x240;
        six_bit = 6;
      })
      (0x2A ∷ 0x2B ∷ [])
      (nines ++ nines)
      (Ok 11)
      (0xBC ∷ 0x60 ∷ 0x11 ∷ 0x05 ∷ 0x08 ∷ 0x03 ∷ 0x04 ∷ 0x56 ∷ 0x46 ∷ 0x2A ∷ 0x2B ∷ 9 ∷ 9 ∷ 9 ∷ 9 ∷ 9 ∷ 9 ∷ 9 ∷ [])

pub in_cemi : InCemi
in_cemi = record {
  accepted = refl;
  info-length = refl;
  info_view = refl;
  info_part = refl;
  fields = refl;
  built = (refl, refl);
}

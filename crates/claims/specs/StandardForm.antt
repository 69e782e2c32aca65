-- KNX's own acknowledgement and refused connect response, 03_08_04 and 03_08_02, and what a whole session needs: what both forms share, said once over the form; then rows typed from KNX and from frames of a real gateway. Over the promises that the contracts cite.
use Rattle.std.specs.Prelude.{ℕ, ◌+◌, ◌≤◌, ◌≡◌, refl, List, [], ◌∷◌, ◌++◌, length, get_or, take, replicate, Result, Ok, None, Some, Err}
use Rattle.wire.specs.Told.{Told, done, refused}
use Rattle.wire.specs.Writing.{tells}
use Rattle.wire.specs.Layout.{byte, put}
use Rattle.wire.specs.LayoutLaws.{Bytes}
use Rattle.wire.specs.Format.{read_where}
use Rattle.wire.specs.Parts.{part_of}
use Rattle.wire.specs.Places.{place}
use Rattle.wire.specs.declared.refusals.Fault.{Fault}
use Rattle.wire.specs.declared.refusals.Refusal.TheVariants.{BufferTooSmall, InvalidFrame}
use Rattle.constants.specs.Constants.{header_size}
use Rattle.constants.specs.declared.services.ServiceType.TheVariants as ServiceType
use Rattle.frame.specs.Frame as Frame
use Rattle.frame.specs.RoundTrip.{Carries}
use Rattle.hpai.specs.Hpai as Hpai
use Rattle.hpai.specs.HpaiLaws as HpaiLaws
use Rattle.connect.specs.Response as ConnectResponse
use Rattle.connect.specs.ResponseLaws as ConnectResponseLaws
use Rattle.connect.specs.Channel as Channel
use Rattle.connect.specs.ChannelLaws as ChannelLaws
use Rattle.connect.specs.declared.channel.DisconnectRequest.{DisconnectRequest}
use Rattle.connect.specs.declared.channel.DisconnectResponse.{DisconnectResponse}
use Rattle.connect.specs.declared.response.ConnectResponse.{ConnectResponse}
use Rattle.tunnelling.specs.AckForm.{form_by, body_size}
use Rattle.tunnelling.specs.AckForm as AckForm
use Rattle.tunnelling.specs.AckLaws as TunnelingAckLaws
use Rattle.tunnelling.specs.Request as TunnelingRequest
use Rattle.tunnelling.specs.declared.form.Form.{Form}
use Rattle.tunnelling.specs.declared.form.Form.TheVariants.{Crate, Standard}
use Rattle.tunnelling.specs.declared.request.TunnelingRequest.{TunnelingRequest}
use Rattle.tunnelling.specs.declared.ack.TunnelingAck.{TunnelingAck}
use Rattle.tunnel_datagram.specs.Hearing.{cemi_start, heard_in}
use Rattle.tunnel_datagram.specs.WrittenHeard as WrittenHeard
use Rattle.tunnel_datagram.specs.declared.hearing.Heard.TheVariants.{Request, Ack}
use Rattle.tunnel.specs.Numbers.{said_of}
use Rattle.tunnel.specs.declared.rules.Tunnel.{Tunnel}
use Rattle.tunnel.specs.declared.rules.Wait.{Wait}
use Rattle.tunnel.specs.declared.rules.Wait.TheVariants.{Idle, First}
use Rattle.tunnel.specs.declared.rules.Said.TheVariants as Said
use Rattle.tunnel_model.specs.Store.{reached, names, table_trace, calls_of}
use Rattle.tunnel_model.specs.Calls.{Call, Open, Send, Datagram, DatagramIn, named, refuses, says}
use Rattle.tunnel_model.specs.Lone.{After, lone}
use Rattle.tunnel_model.specs.Exchange as Exchange
use Rattle.tunnel_model.specs.Table.{chan, table_of}
use Rattle.tunnel_table.specs.Places.{kind}
use Rattle.claims.specs.Examples.{request, room}
use Rattle.frame.specs.declared.frame.FrameFields.{FrameFields}

-- ---- an acknowledgement, in either form

-- what is accepted has the layout of its answer, but for the bytes that are not looked at: the length byte, and in the crate's form the reserved one
pub ack_has_layout : (f : Form) (s : List ℕ) (a : TunnelingAck) → Bytes s → AckForm.ParseInPromise f s (Ok a)
    → take (body_size (form_by f)) s ≡ put (form_by f).fields ((form_by f).values_with (get_or s 0 0) (get_or s 3 0) a)
ack_has_layout = TunnelingAckLaws.has_layout_in

-- built, parsed as a frame, its body parsed in the same form: the same channel, number and status
pub ack_round_trip : (f : Form) (a : TunnelingAck) (b : List ℕ) (n : ℕ) (after : List ℕ) (p : Result FrameFields Fault)
    → AckForm.BuildInPromise f a b (Ok n) after → Frame.ParsePromise after p → Carries ServiceType.TunnellingAck (header_size + body_size (form_by f)) n after p (TunnelingAckLaws.ReadsIn f a)
ack_round_trip = TunnelingAckLaws.round_trip_in

-- what the builders wrote is heard: an acknowledgement in its own form, a request in either
pub ack-heard : (f : Form) (a : TunnelingAck) (b : List ℕ) (n : ℕ) (after : List ℕ) → AckForm.BuildInPromise f a b (Ok n) after
    → heard_in f after ≡ Ok (Ack a.connection_header.channel_id a.connection_header.sequence_counter a.status)
ack-heard = WrittenHeard.ack-heard

pub request-heard : (f : Form) (t : TunnelingRequest) (cemi b : List ℕ) (n : ℕ) (after : List ℕ) → TunnelingRequest.BuildPromise t cemi b (Ok n) after
    → (heard_in f after ≡ Ok (Request t.connection_header.channel_id t.connection_header.sequence_counter (cemi_start + length cemi)))
    × (part_of after cemi_start (cemi_start + length cemi) ≡ cemi)
request-heard = WrittenHeard.request-heard

-- ---- what one table writes, another hears: a request that a send wrote, and the acknowledgement that it brought about

pub send_heard : (f : Form) (t : Tunnel) (b : ℕ) (cemi out : List ℕ) → (lone t (Send b cemi out)).0.0.number ≡ 0
    → (heard_in f (lone t (Send b cemi out)).0.1 ≡ Ok (Request b t.s (cemi_start + length cemi)))
    × (part_of (lone t (Send b cemi out)).0.1 cemi_start (cemi_start + length cemi) ≡ cemi)
send_heard = Exchange.send_heard

pub answer-heard : (f : Form) (t : Tunnel) (channel n end : ℕ) (bytes out : List ℕ) → heard_in f bytes ≡ Ok (Request channel n end) → (lone t (DatagramIn f bytes out)).0.0.number ≡ 0
    → 1 ≤ get_or (lone t (DatagramIn f bytes out)).0.0.values 1 0 → heard_in f (lone t (DatagramIn f bytes out)).0.1 ≡ Ok (Ack channel n 0)
answer-heard = Exchange.ack-heard

-- ---- a connect response in KNX's form

-- with status 0 it is 01's; with another it is channel and status, and zeros, whatever follows
pub response_as_01 : (s : List ℕ) → get_or s 1 0 ≡ 0 → ConnectResponse.parse_standard_where s ≡ ConnectResponse.parse_where s
response_as_01 = ConnectResponseLaws.as_01

pub response_refuses : (s : List ℕ) → (get_or s 1 0 ≡ 0 → ⊥) → ConnectResponse.parse_standard_where s ≡ done (ConnectResponse.bare (get_or s 0 0) (get_or s 1 0))
response_refuses = ConnectResponseLaws.refusing

pub response_reads_back : (c : ConnectResponse) (rest : List ℕ) → ConnectResponse.Arrays c → c.data_endpoint.structure_length ≡ 8 → c.status ≡ 0
    → ConnectResponse.parse_standard_where (ConnectResponse.layout c ++ rest) ≡ ConnectResponse.told (Ok c)
response_reads_back = ConnectResponseLaws.knx_back

pub refusal_reads_back : (channel status : ℕ) (rest : List ℕ) → (status ≡ 0 → ⊥) → ConnectResponse.parse_standard_where (put (byte ∷ byte ∷ []) (channel ∷ status ∷ []) ++ rest) ≡ done (ConnectResponse.bare channel status)
refusal_reads_back = ConnectResponseLaws.bare_back

pub response_has_layout : (s : List ℕ) (c : ConnectResponse) → Bytes s → ConnectResponse.ParseStandardPromise s (Ok c) → c.status ≡ 0 → take 14 s ≡ ConnectResponse.layout c
response_has_layout = ConnectResponseLaws.knx_has_layout

pub refusal_has_layout : (s : List ℕ) (c : ConnectResponse) → ConnectResponse.ParseStandardPromise s (Ok c) → (c.status ≡ 0 → ⊥)
    → take 2 s ≡ put (byte ∷ byte ∷ []) (c.channel_id ∷ c.status ∷ [])
refusal_has_layout = ConnectResponseLaws.bare_has_layout

-- ---- disconnecting, where the gateway asks for it

pub disconnect_request_has_layout : (s : List ℕ) (q : DisconnectRequest) → Bytes s → Channel.DisconnectRequestParsePromise s (Ok q)
    → take 10 s ≡ put Channel.request_fields (q.channel_id ∷ get_or s 1 0 ∷ Hpai.values q.control_endpoint)
disconnect_request_has_layout = ChannelLaws.request_has_layout

pub disconnect_request_round_trip : (q : DisconnectRequest) (b : List ℕ) (n : ℕ) (after : List ℕ) (p : Result FrameFields Fault) → HpaiLaws.Proper q.control_endpoint
    → Channel.DisconnectBuildPromise q b (Ok n) after → Frame.ParsePromise after p → Carries ServiceType.DisconnectRequest 16 n after p (ChannelLaws.ReadsRequest q)
disconnect_request_round_trip = ChannelLaws.request_round_trip

pub disconnect_response_round_trip : (q : DisconnectResponse) (b : List ℕ) (n : ℕ) (after : List ℕ) (p : Result FrameFields Fault)
    → Channel.DisconnectResponseBuildPromise q b (Ok n) after → Frame.ParsePromise after p → Carries ServiceType.DisconnectResponse 8 n after p (ChannelLaws.ReadsResponse q)
disconnect_response_round_trip = ChannelLaws.response_round_trip

-- ---- rows: an acknowledgement

-- channel 0x15, number 7
abbrev ack_of : ℕ → TunnelingAck
ack_of status = record { connection_header = record { channel_id = 0x15; sequence_counter = 7 }; status = status }

-- KNX's acknowledgement, and 01's
abbrev knx_ack : ℕ → ℕ → ℕ → List ℕ
knx_ack b n status = 0x06 ∷ 0x10 ∷ 0x04 ∷ 0x21 ∷ 0x00 ∷ 0x0A ∷ 0x04 ∷ b ∷ n ∷ status ∷ []

abbrev ack_by01 : ℕ → ℕ → ℕ → List ℕ
ack_by01 b n status = 0x06 ∷ 0x10 ∷ 0x04 ∷ 0x21 ∷ 0x00 ∷ 0x0B ∷ 0x04 ∷ b ∷ n ∷ 0x00 ∷ status ∷ []

-- what parsing a body gives
abbrev reads : Form → List ℕ → Told
reads f s = AckForm.parsed (form_by f) s

-- too short, and where the part ends
abbrev short : ℕ → Fault
short end = record { why = BufferTooSmall; at = end }

-- what building into a buffer of m bytes tells
abbrev builds : Form → ℕ → ℕ
builds f m = (tells (AckForm.build_checks (form_by f) m) []).number

pub record Acks : Type 0 where
  pub built : AckForm.BuildInPromise Standard (ack_of 0x2A) room (Ok 10) (0x06 ∷ 0x10 ∷ 0x04 ∷ 0x21 ∷ 0x00 ∷ 0x0A ∷ 0x04 ∷ 0x15 ∷ 0x07 ∷ 0x2A ∷ 9 ∷ 9 ∷ [])
  pub built_0 : AckForm.BuildInPromise Standard (ack_of 0) room (Ok 10) (0x06 ∷ 0x10 ∷ 0x04 ∷ 0x21 ∷ 0x00 ∷ 0x0A ∷ 0x04 ∷ 0x15 ∷ 0x07 ∷ 0x00 ∷ 9 ∷ 9 ∷ [])
  pub built_by_01 : AckForm.BuildInPromise Crate (ack_of 0x2A) room (Ok 11) (0x06 ∷ 0x10 ∷ 0x04 ∷ 0x21 ∷ 0x00 ∷ 0x0B ∷ 0x04 ∷ 0x15 ∷ 0x07 ∷ 0x00 ∷ 0x2A ∷ 9 ∷ [])
  -- the output needs 10 bytes, by 01 eleven
  pub room_9 : builds Standard 9 ≡ 1
  pub room_10 : builds Standard 10 ≡ 0
  pub room_10_by_01 : builds Crate 10 ≡ 1
  -- a body of four bytes or more, the fourth the status; by 01 of five, the fifth
  pub three : reads Standard (0x04 ∷ 0x15 ∷ 0x07 ∷ []) ≡ refused 3 (short 3)
  pub four : reads Standard (0x04 ∷ 0x15 ∷ 0x07 ∷ 0x2A ∷ []) ≡ done (0x15 ∷ 7 ∷ 0x2A ∷ [])
  pub four_0 : reads Standard (0x04 ∷ 0x15 ∷ 0x07 ∷ 0x00 ∷ []) ≡ done (0x15 ∷ 7 ∷ 0 ∷ [])
  pub four_by_01 : reads Crate (0x04 ∷ 0x15 ∷ 0x07 ∷ 0x2A ∷ []) ≡ refused 3 (short 4)
  pub five : reads Standard (0x04 ∷ 0x15 ∷ 0x07 ∷ 0x00 ∷ 0x2A ∷ []) ≡ done (0x15 ∷ 7 ∷ 0 ∷ [])
  pub five_by_01 : reads Crate (0x04 ∷ 0x15 ∷ 0x07 ∷ 0x00 ∷ 0x2A ∷ []) ≡ done (0x15 ∷ 7 ∷ 0x2A ∷ [])
  -- a status in KNX's place, and 0 in the crate's
  pub both : reads Standard (0x04 ∷ 0x15 ∷ 0x07 ∷ 0x01 ∷ 0x00 ∷ []) ≡ done (0x15 ∷ 7 ∷ 1 ∷ [])
  pub both_by_01 : reads Crate (0x04 ∷ 0x15 ∷ 0x07 ∷ 0x01 ∷ 0x00 ∷ []) ≡ done (0x15 ∷ 7 ∷ 0 ∷ [])
  -- the length byte is not looked at
  pub length_byte : reads Standard (0xFF ∷ 0x15 ∷ 0x07 ∷ 0x2A ∷ 0xEE ∷ 0xEE ∷ []) ≡ done (0x15 ∷ 7 ∷ 0x2A ∷ [])

pub acks : Acks
acks = record {
  built = (refl, refl);
  built_0 = (refl, refl);
  built_by_01 = (refl, refl);
  room_9 = refl;
  room_10 = refl;
  room_10_by_01 = refl;
  three = refl;
  four = refl;
  four_0 = refl;
  four_by_01 = refl;
  five = refl;
  five_by_01 = refl;
  both = refl;
  both_by_01 = refl;
  length_byte = refl;
}

-- ---- rows: a datagram, on the lone tunnel with r = 0 and s = 0

abbrev alone : Wait → Call → After
alone w c = lone (record { r = 0; s = 0; w = w }) c

abbrev ten_nines : List ℕ
ten_nines = replicate 10 9

pub record Datagrams : Type 0 where
  -- whose call it is depends on the form: an acknowledgement of ten bytes names nobody by 01
  pub names_knx : named (DatagramIn Standard (knx_ack 21 0 0) []) ≡ Some 21
  pub names_nobody : named (Datagram (knx_ack 21 0 0) []) ≡ None
  pub request_either : heard_in Standard (request 21 7) ≡ Ok (Request 21 7 12)
  pub heard_knx : heard_in Standard (knx_ack 21 7 0x29) ≡ Ok (Ack 21 7 0x29)
  pub heard_by_01 : heard_in Crate (knx_ack 21 7 0x29) ≡ Err (short 10)
  -- one of eleven bytes is read by its fourth byte
  pub heard_eleven : heard_in Standard (ack_by01 21 7 0x29) ≡ Ok (Ack 21 7 0)
  -- deliver and duplicate: ten bytes are written, and ten are enough
  pub deliver : alone Idle (DatagramIn Standard (request 21 0) ten_nines)
      ≡ ((record { number = 0; values = said_of Said.Deliver ∷ 10 ∷ []; start = 10; end = 12; offset = 0 }, knx_ack 21 0 0), Some (record { r = 1; s = 0; w = Idle }))
  pub deliver_short : alone Idle (DatagramIn Standard (request 21 0) (replicate 9 9)) ≡ (refuses BufferTooSmall (replicate 9 9), Some (record { r = 0; s = 0; w = Idle }))
  pub deliver_by_01 : alone Idle (Datagram (request 21 0) ten_nines) ≡ (refuses BufferTooSmall ten_nines, Some (record { r = 0; s = 0; w = Idle }))
  pub duplicate : alone Idle (DatagramIn Standard (request 21 255) room) ≡ ((done (said_of Said.Duplicate ∷ 10 ∷ []), knx_ack 21 255 0 ++ 9 ∷ 9 ∷ []), Some (record { r = 0; s = 0; w = Idle }))
  pub out_of_order : alone Idle (DatagramIn Standard (request 21 1) []) ≡ (says Said.OutOfOrder [], Some (record { r = 0; s = 0; w = Idle }))
  -- while it waits: sent, repeat, and what 01's form would mean
  pub sent : alone First (DatagramIn Standard (knx_ack 21 0 0) []) ≡ (says Said.Sent [], Some (record { r = 0; s = 1; w = Idle }))
  pub bad : (alone First (DatagramIn Standard (knx_ack 21 0 0x29) [])).0 ≡ says Said.Repeat []
  pub eleven_sent : (alone First (DatagramIn Standard (ack_by01 21 0 0x29) [])).0 ≡ says Said.Sent []
  pub eleven_bad : (alone First (Datagram (ack_by01 21 0 0x29) [])).0 ≡ says Said.Repeat []

pub datagrams : Datagrams
datagrams = record {
  names_knx = refl;
  names_nobody = refl;
  request_either = refl;
  heard_knx = refl;
  heard_by_01 = refl;
  heard_eleven = refl;
  deliver = refl;
  deliver_short = refl;
  deliver_by_01 = refl;
  duplicate = refl;
  out_of_order = refl;
  sent = refl;
  bad = refl;
  eleven_sent = refl;
  eleven_bad = refl;
}

-- ---- demand 3 over a mix of both: its calls carry their form, so Demand3 holds of any list of them. One such list, and what is seen of 21

abbrev mixed : List Call
mixed =
    Datagram (request 21 0) room
    ∷ DatagramIn Standard (request 7 0) room
    ∷ DatagramIn Standard (request 21 0) room
    ∷ Datagram (knx_ack 21 0 0) []
    ∷ DatagramIn Standard (request 21 1) ten_nines
    ∷ Send 21 [] room
    ∷ DatagramIn Standard (knx_ack 7 0 0) []
    ∷ DatagramIn Standard (knx_ack 21 0 0) []
    ∷ []

pub record Mixed : Type 0 where
  -- the acknowledgement of ten bytes that came by 01's call is nobody's
  pub mine : calls_of chan (names chan 21) mixed
      ≡ Datagram (request 21 0) room ∷ DatagramIn Standard (request 21 0) room ∷ DatagramIn Standard (request 21 1) ten_nines ∷ Send 21 [] room ∷ DatagramIn Standard (knx_ack 21 0 0) [] ∷ []
  pub seen_of_21 : table_trace chan (table_of kind 8) (names chan 21) 21 (reached chan (table_of kind 8) (Open 21 ∷ Open 7 ∷ [])) mixed
      ≡ ((record { number = 0; values = said_of Said.Deliver ∷ 11 ∷ []; start = 10; end = 12; offset = 0 }, ack_by01 21 0 0 ++ 9 ∷ []), Some (record { r = 1; s = 0; w = Idle }))
      ∷ ((done (said_of Said.Duplicate ∷ 10 ∷ []), knx_ack 21 0 0 ++ 9 ∷ 9 ∷ []), Some (record { r = 1; s = 0; w = Idle }))
      ∷ ((record { number = 0; values = said_of Said.Deliver ∷ 10 ∷ []; start = 10; end = 12; offset = 0 }, knx_ack 21 1 0), Some (record { r = 2; s = 0; w = Idle }))
      ∷ ((done (said_of Said.Nothing ∷ 10 ∷ []), 0x06 ∷ 0x10 ∷ 0x04 ∷ 0x20 ∷ 0x00 ∷ 0x0A ∷ 0x04 ∷ 21 ∷ 0 ∷ 0x00 ∷ 9 ∷ 9 ∷ []), Some (record { r = 2; s = 0; w = First }))
      ∷ (says Said.Sent [], Some (record { r = 2; s = 1; w = Idle }))
      ∷ []

pub mixed_so : Mixed
mixed_so = record { mine = refl; seen_of_21 = refl }

-- ---- rows: a session

-- a data endpoint 192.168.1.100:3671, by its length byte
abbrev endpoint : ℕ → List ℕ
endpoint n = n ∷ 0x01 ∷ 192 ∷ 168 ∷ 1 ∷ 100 ∷ 0x0E ∷ 0x57 ∷ []

abbrev responds : List ℕ → Told
responds s = ConnectResponse.parse_standard_where s

-- the body of a disconnect request: the reserved byte, the endpoint
abbrev asks_to_end : ℕ → List ℕ → List ℕ
asks_to_end reserved h = 0x15 ∷ reserved ∷ h

abbrev ends : List ℕ → Told
ends s = read_where Channel.request_format s

abbrev owed : ℕ → DisconnectResponse
owed status = record { channel_id = 0x15; status = status }

pub record Sessions : Type 0 where
  -- a gateway's refusal: no more connections
  pub no_more : responds (0x00 ∷ 0x24 ∷ []) ≡ done (0 ∷ 0x24 ∷ replicate 11 0)
  pub no_more_by_01 : ConnectResponse.parse_where (0x00 ∷ 0x24 ∷ []) ≡ refused 13 (short 2)
  -- fewer than 2 (1); status 0 with fewer than 14 (1), then the endpoint (2); with another status nothing more is asked
  pub nothing : responds [] ≡ refused 13 (short 0)
  pub channel_alone : responds (0x15 ∷ []) ≡ refused 13 (short 1)
  pub ok_of_2 : responds (0x15 ∷ 0x00 ∷ []) ≡ refused 13 (short 2)
  pub ok_of_13 : responds (0x15 ∷ 0x00 ∷ endpoint 8 ++ 0x04 ∷ 0x04 ∷ 0x11 ∷ []) ≡ refused 13 (short 13)
  pub ok_of_14 : responds (0x15 ∷ 0x00 ∷ endpoint 8 ++ 0x04 ∷ 0x04 ∷ 0x11 ∷ 0x05 ∷ []) ≡ done (0x15 ∷ 0 ∷ 8 ∷ 1 ∷ 192 ∷ 168 ∷ 1 ∷ 100 ∷ 3671 ∷ 0x04 ∷ 0x04 ∷ 0x11 ∷ 0x05 ∷ [])
  pub ok_endpoint : responds (0x15 ∷ 0x00 ∷ endpoint 7 ++ 0x04 ∷ 0x04 ∷ 0x11 ∷ 0x05 ∷ []) ≡ refused 13 (record { why = InvalidFrame; at = 2 })
  pub refused-endpoint : responds (0x15 ∷ 0x22 ∷ endpoint 7 ++ 0x04 ∷ 0x04 ∷ 0x11 ∷ 0x05 ∷ []) ≡ done (0x15 ∷ 0x22 ∷ replicate 11 0)
  pub status_is_asked_second : place (ConnectResponse.knx_checks 2 (0x15 ∷ 0x00 ∷ [])) ≡ 1
  -- 1.1.5
  pub own_address : ConnectResponse.IndividualAddressPromise (record { channel_id = 0x15; status = 0; data_endpoint = record { structure_length = 8; host_protocol = 1; ip_address = 192 ∷ 168 ∷ 1 ∷ 100 ∷ []; port = 3671 }; crd = 0x04 ∷ 0x04 ∷ 0x11 ∷ 0x05 ∷ [] }) (record { 0 = 0x1105 })
  -- a disconnect request: fewer than 10 (1), then the endpoint's length (2); the reserved byte is not looked at
  pub ended : Channel.DisconnectRequestParsePromise (asks_to_end 0xFF (endpoint 8)) (Ok (record { channel_id = 0x15; control_endpoint = record { structure_length = 8; host_protocol = 1; ip_address = 192 ∷ 168 ∷ 1 ∷ 100 ∷ []; port = 3671 } }))
  pub ended_of_9 : ends (asks_to_end 0 (take 7 (endpoint 8))) ≡ refused 8 (short 9)
  pub ended-length : ends (asks_to_end 0 (endpoint 9)) ≡ refused 8 (record { why = InvalidFrame; at = 2 })
  pub ended_of_9_length : ends (asks_to_end 0 (take 7 (endpoint 9))) ≡ refused 8 (short 9)
  -- the response that it is owed
  pub owed-built : Channel.DisconnectResponseBuildPromise (owed 0) room (Ok 8) (0x06 ∷ 0x10 ∷ 0x02 ∷ 0x0A ∷ 0x00 ∷ 0x08 ∷ 0x15 ∷ 0x00 ∷ 9 ∷ 9 ∷ 9 ∷ 9 ∷ [])
  pub owed_of_7 : (tells (Channel.response_checks 7) []).number ≡ 1

pub sessions : Sessions
sessions = record {
  no_more = refl;
  no_more_by_01 = refl;
  nothing = refl;
  channel_alone = refl;
  ok_of_2 = refl;
  ok_of_13 = refl;
  ok_of_14 = refl;
  ok_endpoint = refl;
  refused-endpoint = refl;
  status_is_asked_second = refl;
  own_address = refl;
  ended = refl;
  ended_of_9 = refl;
  ended-length = refl;
  ended_of_9_length = refl;
  owed-built = (refl, refl);
  owed_of_7 = refl;
}

-- 02, 3/13, "Say where": one law for every part, B's offset by its datagram alone, and rows. What each call promises of its offset is its own promise; that there is no second one is in `Unique`. Assumes nothing.
use Rattle.std.specs.Prelude.{ℕ, ◌+◌, ◌≡◌, refl, true, List, [], ◌∷◌, ◌++◌, length, replicate, Ok, Err, Result}
use Rattle.wire.specs.Told.{Told, refused, nowhere, verdict}
use Rattle.wire.specs.Places.{standing, later_fault, Reader, all_checks, all_offsets, says_all, later}
use Rattle.wire.specs.PlaceLaws as PlaceLaws
use Rattle.wire.specs.Layout.{get}
use Rattle.wire.specs.Parts.{part_of}
use Rattle.wire.specs.declared.refusals.Fault.{Fault}
use Rattle.wire.specs.declared.refusals.Refusal.{Refusal}
use Rattle.wire.specs.declared.refusals.Refusal.TheVariants.{BufferTooSmall, InvalidFrame, UnsupportedVersion, UnsupportedServiceType, InvalidMessageCode, NotOpen, NotForTunnels, InvalidAdditionalInfo}
use Rattle.wire.specs.Told.{Verdict}
use Rattle.constants.specs.Constants.{header_size}
use Rattle.constants.specs.declared.message_codes.CEMIMessageCode.TheVariants.{LRawInd}
use Rattle.constants.specs.declared.services.ServiceType.TheVariants.{TunnellingRequest}
use Rattle.header.specs.Header.{service_in, total_in}
use Rattle.header.specs.Header as Header
use Rattle.frame.specs.Frame as Frame
use Rattle.frame.specs.declared.frame.FrameFields.{FrameFields}
use Rattle.hpai.specs.Hpai as Hpai
use Rattle.connect.specs.Cri as Cri
use Rattle.connect.specs.Response as ConnectResponse
use Rattle.connect.specs.Channel as Channel
use Rattle.tunnelling.specs.Connection as Connection
use Rattle.tunnelling.specs.Request as TunnelingRequest
use Rattle.tunnelling.specs.Ack as TunnelingAck
use Rattle.tunnelling.specs.AckForm.{form_by, build_checks}
use Rattle.tunnelling.specs.declared.form.Form.{Form}
use Rattle.ldata.specs.Count.{Count, standard_count, count_by}
use Rattle.ldata.specs.LData as LData
use Rattle.ldata.specs.declared.count.Counting.{Counting}
use Rattle.ldata.specs.declared.count.Counting.TheVariants.{Standard}
use Rattle.cemi.specs.Cemi as Cemi
use Rattle.cemi.specs.CemiLaws as CemiLaws
use Rattle.additional_info.specs.Area.{behind, records_in, place_of, unfilled, area_check, area_offsets}
use Rattle.additional_info.specs.Area as Area
use Rattle.additional_info.specs.AreaLaws as AreaLaws
use Rattle.borrowed.specs.LDataFrame as LDataFrame
use Rattle.tunnel_datagram.specs.Hearing.{cemi_start, heard_or, heard_in, heard_by01}
use Rattle.tunnel_datagram.specs.Order as Order
use Rattle.tunnel_datagram.specs.declared.hearing.Heard.{Heard}
use Rattle.tunnel_datagram.specs.declared.hearing.Heard.TheVariants.{Request, Ack}
use Rattle.tunnel.specs.Rules.{arrival_of, acknowledged_of}
use Rattle.tunnel.specs.declared.rules.Tunnel.{Tunnel}
use Rattle.tunnel.specs.declared.rules.Arrival.{Arrival}
use Rattle.tunnel.specs.declared.rules.Arrival.TheVariants.{Deliver, Duplicate, OutOfOrder}
use Rattle.tunnel_model.specs.Calls.{DatagramIn, Datagram, Close, refuses_at}
use Rattle.tunnel_model.specs.Lone.{After, stepped, or_refused, arrived, heard, lone}
use Rattle.tunnel_model.specs.Store.{step}
use Rattle.tunnel_model.specs.Table.{chan, store_of, empty_of}
use Rattle.tunnel_table.specs.Places.{kind}
use Rattle.claims.specs.Examples.{request}
use Rattle.claims.specs.StandardCount.{indication, to_group, group_write}
use Rattle.tunnel.specs.declared.rules.Stepped.{Stepped}

-- ---- a part that starts later adds its own start

-- for every part: where all before it stand, what its reader refuses is what the reader of the whole refuses, moved by the part's start, whatever follows
pub every_part : (rs : List Reader) (r : Reader) (qs : List Reader) (e : Fault) → says_all rs ≡ Ok tt → standing r.checks r.offsets ≡ Err e
    → standing (all_checks (rs ++ r ∷ qs)) (all_offsets (rs ++ r ∷ qs)) ≡ Err (later_fault r.start e)
every_part = PlaceLaws.every_part

-- and the reader of the whole says what the readers of its parts say, one after another
pub parts : (rs : List Reader) → standing (all_checks rs) (all_offsets rs) ≡ says_all rs
parts = PlaceLaws.one_reader

-- so a datagram goes by one list of checks in 01's order, in the form of an acknowledgement that is given; number and offset are those of the first that is broken
pub one_list : (f : Form) (s : List ℕ)
    → heard_in f s ≡ heard_or (standing (Order.checks f s) (Order.offsets f s)) (Order.heard_of f (service_in (get Header.fields 0 s)) (total_in (get Header.fields 0 s)) (Order.body_in s))
one_list = Order.by_one_list

-- the parts of a tunnelled request: the frame, its body at 6, the cEMI frame at 10, its additional information at 12, and L_Data behind that
module _ (s : List ℕ) where
  abbrev pub body_in : List ℕ
  body_in = Order.body_in s

  abbrev pub cemi_in : List ℕ
  cemi_in = part_of s cemi_start (total_in (get Header.fields 0 s))

  abbrev pub area_in : List ℕ
  area_in = part_of cemi_in 2 (2 + Cemi.info_length cemi_in)

  abbrev pub frame : Reader
  frame = record { start = 0; checks = Frame.checks (length s) (get Header.fields 0 s); offsets = Frame.offsets (length s); each = refl }

  abbrev pub body : Reader
  body = record { start = header_size; checks = Connection.checks (length body_in); offsets = Connection.offsets (length body_in); each = refl }

  abbrev pub cemi : Reader
  cemi = record { start = cemi_start; checks = Cemi.checks cemi_in; offsets = Cemi.offsets cemi_in; each = refl }

  abbrev pub info : Reader
  info = record { start = cemi_start; checks = Cemi.info_check cemi_in ∷ []; offsets = Cemi.info_offset ∷ []; each = refl }

  abbrev pub area : Reader
  area = record { start = cemi_start + 2; checks = area_check area_in ∷ []; offsets = area_offsets area_in; each = refl }

  abbrev pub ldata : Count → Reader
  ldata C = record {
    start = 12 + Cemi.info_length cemi_in;
    checks = LData.byte_checks C (Cemi.service_info cemi_in);
    offsets = LData.offsets (length (Cemi.service_info cemi_in));
    each = CemiLaws.rest_each C cemi_in;
  }

  -- each part's refusal, from what its reader promises
  abbrev Refuses : List Reader → Fault → Type 0
  Refuses rs e = standing (all_checks rs) (all_offsets rs) ≡ Err e

  pub body-later : (e : Fault) → says_all (frame ∷ []) ≡ Ok tt → Connection.DecodePromise body_in (Err e) → Refuses (frame ∷ body ∷ []) (later_fault 6 e)
  body-later e stand p = every_part (frame ∷ []) body [] e stand (PlaceLaws.was_fallen body.checks body.offsets _ 2 e refl p)

  pub cemi-later : (e : Fault) → says_all (frame ∷ body ∷ []) ≡ Ok tt → Cemi.ParsePromise cemi_in (Err e) → Refuses (frame ∷ body ∷ cemi ∷ []) (later_fault 10 e)
  cemi-later e stand p = every_part (frame ∷ body ∷ []) cemi [] e stand (PlaceLaws.was_fallen cemi.checks cemi.offsets _ 1 e refl p)

  pub area-later : (e : Fault) → says_all (frame ∷ body ∷ cemi ∷ info ∷ []) ≡ Ok tt → Area.CountPromise area_in (Err e) → Refuses (frame ∷ body ∷ cemi ∷ info ∷ area ∷ []) (later_fault 12 e)
  area-later e stand p = every_part (frame ∷ body ∷ cemi ∷ info ∷ []) area [] e stand (PlaceLaws.was_fallen area.checks area.offsets _ 1 e refl p)

  -- in either count
  pub ldata-later : (c : Counting) (e : Fault) → says_all (frame ∷ body ∷ cemi ∷ info ∷ []) ≡ Ok tt → LData.ParseInPromise c (Cemi.service_info cemi_in) (Err e)
      → Refuses (frame ∷ body ∷ cemi ∷ info ∷ ldata (count_by c) ∷ []) (later_fault (12 + Cemi.info_length cemi_in) e)
  ldata-later c e stand p =
      every_part (frame ∷ body ∷ cemi ∷ info ∷ []) (ldata (count_by c)) [] e stand (PlaceLaws.was_fallen (ldata (count_by c)).checks (ldata (count_by c)).offsets _ 9 e refl p)

-- a record of an area adds its place: what the reader of a record says of what remains, moved by the place, is what the reader of the area says
pub record_later : (s : List ℕ) → unfilled s ≡ true → standing (area_check s ∷ []) (area_offsets s) ≡ later (place_of (length s) s) (standing (Area.checks (behind (length s) s)) Area.offsets)
record_later = AreaLaws.record_later

-- ---- in demand 3 it depends on B's datagram alone

-- the offset of what was heard: a refusal has its own; any other datagram none, since an open channel refuses it for its output at most
abbrev pub offset_of : Result Heard Fault → ℕ
offset_of (Ok (Request channel n end)) = 0
offset_of (Ok (Ack channel n status)) = 0
offset_of (Err e) = e.at

or_nowhere : (v : Verdict) (out : List ℕ) (t : Tunnel) (a : After) → a.0.0.offset ≡ 0 → (or_refused v out t a).0.0.offset ≡ 0
or_nowhere (Ok _) out t a z = z
or_nowhere (Err e) out t a z = refl

arrived-nowhere : (f : Form) (x : Arrival) (t : Tunnel) (channel n end : ℕ) (out : List ℕ) → (arrived f x t channel n end out).0.0.offset ≡ 0
arrived-nowhere f Deliver t channel n end out = or_nowhere (verdict (build_checks (form_by f) (length out))) out t _ refl
arrived-nowhere f Duplicate t channel n end out = or_nowhere (verdict (build_checks (form_by f) (length out))) out t _ refl
arrived-nowhere f OutOfOrder t channel n end out = refl

stepped-nowhere : (t : Tunnel) (r : Result Stepped Refusal) (out : List ℕ) → (stepped t r out).0.0.offset ≡ 0
stepped-nowhere t (Ok s) out = refl
stepped-nowhere t (Err e) out = refl

heard_offset : (f : Form) (t : Tunnel) (h : Result Heard Fault) (out : List ℕ) → (heard f t h out).0.0.offset ≡ offset_of h
heard_offset f t (Ok (Request channel n end)) out = arrived-nowhere f (arrival_of t n) t channel n end out
heard_offset f t (Ok (Ack channel n status)) out = stepped-nowhere t (acknowledged_of t n status) out
heard_offset f t (Err e) out = refl

-- whatever state the tunnel is in and whatever output it is lent; in a table B's calls get the lone tunnel's outcome, of which the offset is part (`Demand3.isolates`)
pub by_datagram_alone : (f : Form) (t : Tunnel) (bytes out : List ℕ) → (lone t (DatagramIn f bytes out)).0.0.offset ≡ offset_of (heard_in f bytes)
by_datagram_alone f t bytes out = heard_offset f t (heard_in f bytes) out

-- ---- rows, typed from 02's paragraph: the refusal, and the offset of the field that decided it

abbrev at : Refusal → ℕ → Fault
at e o = record { why = e; at = o }

-- six bytes whose service is a tunnelling request, by length byte, version and total length
abbrev six : ℕ → ℕ → ℕ → List ℕ
six long version total = long ∷ version ∷ 0x04 ∷ 0x20 ∷ 0x00 ∷ total ∷ []

-- a frame's record that no parse made, with this version
abbrev made : ℕ → FrameFields
made version = record { header = record { header_length = 6; protocol_version = version; service_type = TunnellingRequest; total_length = 6 } }

-- no part, refused
abbrev no_part : Fault → Told
no_part e = refused 0 e

-- requests of channel 0x15: with four bytes of additional information and an L of 7, and with `04 00 99` as additional information alone
abbrev wrong_length : List ℕ
wrong_length = 0x06 ∷ 0x10 ∷ 0x04 ∷ 0x20 ∷ 0x00 ∷ 0x19 ∷ 0x04 ∷ 0x15 ∷ 0x00 ∷ 0x00 ∷ 0x29 ∷ 0x04 ∷ 0x04 ∷ 0x02 ∷ 0x12 ∷ 0x34 ∷ to_group 7 (0x00 ∷ 0x81 ∷ [])

abbrev lone_type : List ℕ
lone_type = 0x06 ∷ 0x10 ∷ 0x04 ∷ 0x20 ∷ 0x00 ∷ 0x0F ∷ 0x04 ∷ 0x15 ∷ 0x00 ∷ 0x00 ∷ 0x29 ∷ 0x03 ∷ 0x04 ∷ 0x00 ∷ 0x99 ∷ []

-- read through to L_Data, and through the area
abbrev to_ldata : List ℕ → List Reader
to_ldata s = frame s ∷ body s ∷ cemi s ∷ info s ∷ ldata s standard_count ∷ []

abbrev to_area : List ℕ → List Reader
to_area s = frame s ∷ body s ∷ cemi s ∷ info s ∷ area s ∷ []

pub record Rows : Type 0 where
  -- the header: 1 at the input's end, 2 at 0, 3 at 1, 4 at 2
  pub header_empty : Header.ParsePromise [] (Err (at BufferTooSmall 0))
  pub header-short : Header.ParsePromise (0x06 ∷ 0x10 ∷ 0x04 ∷ 0x20 ∷ 0x00 ∷ []) (Err (at BufferTooSmall 5))
  pub header-length : Header.ParsePromise (six 5 0x10 6) (Err (at InvalidFrame 0))
  pub header_version : Header.ParsePromise (six 6 0x11 6) (Err (at UnsupportedVersion 1))
  pub header_service : Header.ParsePromise (0x06 ∷ 0x10 ∷ 0xFF ∷ 0xFF ∷ 0x00 ∷ 0x06 ∷ []) (Err (at UnsupportedServiceType 2))
  -- both of the total length at 4
  pub frame_total_5 : Frame.ParsePromise (six 6 0x10 5) (Err (at InvalidFrame 4))
  pub frame_total_7 : Frame.ParsePromise (six 6 0x10 7) (Err (at InvalidFrame 4))
  pub frame-header : Frame.ParsePromise (six 6 0x11 5) (Err (at UnsupportedVersion 1))
  -- the accessors of a record that no parse made, over a slice
  pub made-header : Frame.HeaderPromise (made 0x10) (replicate 5 0) (Err (at BufferTooSmall 5))
  pub made_service : Frame.ServiceTypePromise (made 0x20) (replicate 6 0) (Err (at UnsupportedVersion 1))
  pub made-body : Frame.BodyPromise (record { header = record { header_length = 6; protocol_version = 0x10; service_type = TunnellingRequest; total_length = 7 } }) (replicate 6 0)
      (Err (at InvalidFrame 4))
  -- an Hpai and request information: 1 at the end, 2 at 0
  pub hpai-short : Hpai.parse_where (0x08 ∷ replicate 6 0) ≡ refused 7 (at BufferTooSmall 7)
  pub hpai-length : Hpai.parse_where (0x09 ∷ replicate 7 0) ≡ refused 7 (at InvalidFrame 0)
  pub cri_short : Cri.DecodePromise (0x04 ∷ 0x04 ∷ 0x02 ∷ []) (Err (at BufferTooSmall 3))
  pub cri_length : Cri.DecodePromise (0x05 ∷ 0x04 ∷ 0x02 ∷ 0x00 ∷ []) (Err (at InvalidFrame 0))
  -- a connect response's body: 1 at its end, the Hpai's 2 at 2
  pub response_short : ConnectResponse.parse_where (0x15 ∷ 0x00 ∷ 0x08 ∷ replicate 10 0) ≡ refused 13 (at BufferTooSmall 13)
  pub response_hpai : ConnectResponse.parse_where (0x15 ∷ 0x00 ∷ 0x07 ∷ replicate 11 0) ≡ refused 13 (at InvalidFrame 2)
  pub status-short : Channel.StateParsePromise (0x15 ∷ []) (Err (at BufferTooSmall 1))
  -- bodies that are too short: at their end, not at the length that they need
  pub connection-short : Connection.DecodePromise (0x04 ∷ 0x15 ∷ 0x07 ∷ []) (Err (at BufferTooSmall 3))
  pub cemi_data_short : TunnelingRequest.CemiDataPromise (0x04 ∷ []) (Err (at BufferTooSmall 1))
  pub ack-short : TunnelingAck.ParsePromise (0x04 ∷ 0x15 ∷ 0x07 ∷ 0x00 ∷ []) (Err (at BufferTooSmall 4))
  -- cEMI: 1 at its end, 6 at 0, the additional length's 2 at 1, also past the end of the area
  pub cemi-short : Cemi.ParsePromise (0x29 ∷ []) (Err (at BufferTooSmall 1))
  pub cemi_code : Cemi.ParsePromise (0x13 ∷ 0x00 ∷ []) (Err (at InvalidMessageCode 0))
  pub service_info_past : Cemi.service_info_where (0x29 ∷ 0x02 ∷ 0x04 ∷ []) ≡ no_part (at InvalidFrame 1)
  pub area_past : Cemi.info_where (0x29 ∷ 0x02 ∷ 0x04 ∷ []) ≡ no_part (at InvalidFrame 1)
  pub as_ldata_raw : Cemi.AsLDataPromise (record { message_code = LRawInd }) (0x29 ∷ 0x00 ∷ to_group 2 (0x00 ∷ 0x81 ∷ [])) (Err (at InvalidMessageCode 0))
  pub as_ldata_past : Cemi.AsLDataPromise indication (0x29 ∷ 0xFF ∷ []) (Err (at InvalidFrame 1))
  -- L_Data behind four bytes of additional information: 2 + 4 + 6, and at the frame's end
  pub as_ldata_length : Cemi.AsLDataInPromise Standard indication (0x29 ∷ 0x04 ∷ 0x04 ∷ 0x02 ∷ 0x12 ∷ 0x34 ∷ to_group 7 (0x00 ∷ 0x81 ∷ [])) (Err (at InvalidFrame 12))
  pub as_ldata_short : Cemi.AsLDataInPromise Standard indication (0x29 ∷ 0x04 ∷ 0x04 ∷ 0x02 ∷ 0x12 ∷ 0x34 ∷ to_group 7 []) (Err (at BufferTooSmall 13))
  -- L_Data in both counts: 1 at its end, 2 at 6, of an L that is not allowed and of an end past the input
  pub ldata_8 : LData.ParsePromise (to_group 2 (0x00 ∷ [])) (Err (at BufferTooSmall 8))
  pub ldata_L1 : LData.ParsePromise (to_group 1 (0x00 ∷ 0x81 ∷ [])) (Err (at InvalidFrame 6))
  pub ldata_L4 : LData.ParsePromise (to_group 4 (0x00 ∷ 0x81 ∷ [])) (Err (at InvalidFrame 6))
  pub standard_7 : LData.ParseInPromise Standard (to_group 1 []) (Err (at BufferTooSmall 7))
  pub standard_L0 : LData.ParseInPromise Standard (to_group 0 (0x00 ∷ 0x81 ∷ [])) (Err (at InvalidFrame 6))
  pub standard_L2 : LData.ParseInPromise Standard (to_group 2 (0x00 ∷ 0x81 ∷ [])) (Err (at InvalidFrame 6))
  -- the data of records that no parse made, one with its slice and one that holds its data alone
  pub made_data_short : LData.DataPromise (group_write 2) (replicate 8 0) (Err (at BufferTooSmall 8))
  pub made_data_L : LData.DataPromise (group_write 1) (replicate 9 0) (Err (at InvalidFrame 6))
  pub borrowed_L : LDataFrame.BorrowedViewPromise Standard [] (group_write 2) (Err (at InvalidFrame 6))
  -- a datagram: 12 at 2; a body that is too short at the total length, not at the datagram's; 9 at 7
  pub other_service : heard_by01 (0x06 ∷ 0x10 ∷ 0x02 ∷ 0x06 ∷ 0x00 ∷ 0x06 ∷ []) ≡ Err (at NotForTunnels 2)
  pub request-short : heard_by01 (six 6 0x10 6 ++ 0xFF ∷ []) ≡ Err (at BufferTooSmall 6)
  pub ack_short_in_datagram : heard_by01 (0x06 ∷ 0x10 ∷ 0x04 ∷ 0x21 ∷ 0x00 ∷ 0x0A ∷ 0x04 ∷ 0x15 ∷ 0x07 ∷ 0x00 ∷ 0xFF ∷ []) ≡ Err (at BufferTooSmall 10)
  pub not_open : (step chan (store_of kind) (empty_of kind 8) (Datagram (request 21 0) [])).0 ≡ refuses_at (at NotOpen 7) []
  -- a call that takes no datagram; an output that is too small is `TunnelRows.short-output`
  pub close_closed : (step chan (store_of kind) (empty_of kind 8) (Close 21)).0 ≡ refuses_at (nowhere NotOpen) []
  -- a request whose L_Data behind four bytes of additional information has a wrong L: 10 + 2 + 4 + 6; one whose area ends in a lone type byte: 12 + 2
  pub deep_length : standing (all_checks (to_ldata wrong_length)) (all_offsets (to_ldata wrong_length)) ≡ Err (at InvalidFrame 22)
  pub deep_area : standing (all_checks (to_area lone_type)) (all_offsets (to_area lone_type)) ≡ Err (at InvalidAdditionalInfo 14)

pub rows : Rows
unfolding records_in behind
rows = record {
  header_empty = refl;
  header-short = refl;
  header-length = refl;
  header_version = refl;
  header_service = refl;
  frame_total_5 = refl;
  frame_total_7 = refl;
  frame-header = refl;
  made-header = refl;
  made_service = refl;
  made-body = refl;
  hpai-short = refl;
  hpai-length = refl;
  cri_short = refl;
  cri_length = refl;
  response_short = refl;
  response_hpai = refl;
  status-short = refl;
  connection-short = refl;
  cemi_data_short = refl;
  ack-short = refl;
  cemi-short = refl;
  cemi_code = refl;
  service_info_past = refl;
  area_past = refl;
  as_ldata_raw = refl;
  as_ldata_past = refl;
  as_ldata_length = refl;
  as_ldata_short = refl;
  ldata_8 = refl;
  ldata_L1 = refl;
  ldata_L4 = refl;
  standard_7 = refl;
  standard_L0 = refl;
  standard_L2 = refl;
  made_data_short = refl;
  made_data_L = refl;
  borrowed_L = refl;
  other_service = refl;
  request-short = refl;
  ack_short_in_datagram = refl;
  not_open = refl;
  close_closed = refl;
  deep_length = refl;
  deep_area = refl;
}

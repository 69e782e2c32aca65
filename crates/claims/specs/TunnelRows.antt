-- 01, "Tunnel table": its answers as rows, on the lone tunnel, on the empty table, and on tables that no calls reach.
use Rattle.std.specs.Prelude.{ℕ, ◌≡◌, refl, Bool, true, List, [], ◌∷◌, replicate, Some, None}
use Rattle.wire.specs.Told.{done}
use Rattle.wire.specs.declared.refusals.Refusal.TheVariants.{BufferTooSmall, NotOpen, AwaitsAck, AwaitsNothing}
use Rattle.tunnel.specs.declared.rules.Wait.{Wait}
use Rattle.tunnel.specs.declared.rules.Wait.TheVariants.{Idle, First, Second}
use Rattle.tunnel.specs.declared.rules.Said.TheVariants.{Repeat, GiveUp, Duplicate, OutOfOrder, Sent, Ignored}
use Rattle.tunnel_model.specs.Firsts.{is_none}
use Rattle.tunnel_model.specs.Store.{step}
use Rattle.tunnel.specs.Numbers.{said_of}
use Rattle.tunnel_model.specs.Calls.{Call, Open, Close, Timeout, Send, Datagram, Outcome, refuses_at, refuses, says}
use Rattle.tunnel_model.specs.Lone.{lone}
use Rattle.tunnel_model.specs.Table.{chan, store_of, empty_of}
use Rattle.tunnel_table.specs.Places.{Place, kind, held}
use Rattle.claims.specs.Examples.{request, ack, room}

-- what a call on a table gives, and its number alone
abbrev on : List Place → Call → Outcome × List Place
on l c = step chan (store_of kind) l c

abbrev on_empty : Call → ℕ
on_empty c = (on (empty_of kind 8) c).0.0.number

-- a lone tunnel with r = 0, s = 0
abbrev alone : Wait → Call → Outcome
alone w c = (lone (record { r = 0; s = 0; w = w }) c).0

-- and whether it is then closed
abbrev closes : Wait → Call → Bool
closes w c = is_none (lone (record { r = 0; s = 0; w = w }) c).1

-- a place that holds a channel as it is opened
abbrev holding : ℕ → Place
holding b = held b (record { r = 0; s = 0; w = Idle })

-- tables that no calls reach: 21 stands twice; and seven ids fill eight places
abbrev twice : List Place
twice = holding 21 ∷ holding 21 ∷ []

abbrev crowded : List Place
crowded = holding 1 ∷ holding 2 ∷ holding 3 ∷ holding 4 ∷ holding 5 ∷ holding 6 ∷ holding 7 ∷ holding 1 ∷ []

pub record TunnelRows : Type 0 where
  -- a datagram: frame refusals, then 12, then body refusals, then 9, then the output
  pub frame-first : on_empty (Datagram (0x06 ∷ 0x10 ∷ 0xFF ∷ 0xFF ∷ 0x00 ∷ 0x06 ∷ []) []) ≡ 4
  pub other_service : on_empty (Datagram (0x06 ∷ 0x10 ∷ 0x02 ∷ 0x06 ∷ 0x00 ∷ 0x06 ∷ []) []) ≡ 12
  pub body_before_channel : on_empty (Datagram (0x06 ∷ 0x10 ∷ 0x04 ∷ 0x20 ∷ 0x00 ∷ 0x06 ∷ []) []) ≡ 1
  pub channel_before_output : on_empty (Datagram (request 21 0) []) ≡ 9
  pub short-output : alone Idle (Datagram (request 21 0) []) ≡ refuses BufferTooSmall []
  pub duplicate_short_output : alone Idle (Datagram (request 21 255) []) ≡ refuses BufferTooSmall []
  pub out_of_order_no_output : alone Idle (Datagram (request 21 1) []) ≡ says OutOfOrder []
  -- just before 0 is 255
  pub duplicate_255 : (alone Idle (Datagram (request 21 255) room)).0 ≡ done (said_of Duplicate ∷ 11 ∷ [])
  -- send: 9, then 10, then the request's 1 and 5
  pub send_closed : on_empty (Send 21 [] []) ≡ 9
  pub send_waiting : alone First (Send 21 [] []) ≡ refuses AwaitsAck []
  pub send_no_room : alone Idle (Send 21 [] (replicate 9 0)) ≡ refuses BufferTooSmall (replicate 9 0)
  -- timeout: 11 if idle; give up, by a timeout or by an acknowledgement with another status, closes
  pub timeout_idle : alone Idle (Timeout 21) ≡ refuses AwaitsNothing []
  pub timeout_first : alone First (Timeout 21) ≡ says Repeat []
  pub timeout_second : alone Second (Timeout 21) ≡ says GiveUp []
  pub timeout_closes : closes Second (Timeout 21) ≡ true
  pub bad_ack_second : alone Second (Datagram (ack 21 0 1) []) ≡ says GiveUp []
  pub bad_ack_closes : closes Second (Datagram (ack 21 0 1) []) ≡ true
  pub bad_ack_idle : alone Idle (Datagram (ack 21 0 1) []) ≡ says Ignored []
  pub ack_other_number : alone First (Datagram (ack 21 1 0) []) ≡ says Ignored []
  -- an acknowledgement while waiting first, with number s: status 0 is "sent", another is "repeat" and waits second; the number is judged before the status
  pub ack-first : lone (record { r = 7; s = 0; w = First }) (Datagram (ack 21 0 0) []) ≡ (says Sent [], Some (record { r = 7; s = 1; w = Idle }))
  pub bad_ack_first : lone (record { r = 7; s = 0; w = First }) (Datagram (ack 21 0 1) []) ≡ (says Repeat [], Some (record { r = 7; s = 0; w = Second }))
  pub bad_ack_other_number : alone First (Datagram (ack 21 1 1) []) ≡ says Ignored []
  -- 255 is followed by 0 when sending too
  pub s_255 : lone (record { r = 7; s = 255; w = Second }) (Datagram (ack 21 255 0) []) ≡ (says Sent [], Some (record { r = 7; s = 0; w = Idle }))
  -- a channel that is not open: 9, and a filled output stays as it was
  pub close_closed : on_empty (Close 21) ≡ 9
  pub timeout_closed : on_empty (Timeout 21) ≡ 9
  pub request_closed : (on (empty_of kind 8) (Datagram (request 21 0) room)).0 ≡ refuses_at (record { why = NotOpen; at = 7 }) room
  -- an id that stands twice means its first place: closed once, it is still open
  pub twice_closed : (on twice (Close 21)).1 ≡ None ∷ holding 21 ∷ []
  pub twice_still_open : (on (on twice (Close 21)).1 (Open 21)).0.0.number ≡ 7
  -- 8 means that no place is free, although seven other ids are open
  pub seven_ids : (on crowded (Open 8)).0.0.number ≡ 8

pub tunnel_rows : TunnelRows
tunnel_rows = record {
  frame-first = refl;
  other_service = refl;
  body_before_channel = refl;
  channel_before_output = refl;
  short-output = refl;
  duplicate_short_output = refl;
  out_of_order_no_output = refl;
  duplicate_255 = refl;
  send_closed = refl;
  send_waiting = refl;
  send_no_room = refl;
  timeout_idle = refl;
  timeout_first = refl;
  timeout_second = refl;
  timeout_closes = refl;
  bad_ack_second = refl;
  bad_ack_closes = refl;
  bad_ack_idle = refl;
  ack_other_number = refl;
  ack-first = refl;
  bad_ack_first = refl;
  bad_ack_other_number = refl;
  s_255 = refl;
  close_closed = refl;
  timeout_closed = refl;
  request_closed = refl;
  twice_closed = refl;
  twice_still_open = refl;
  seven_ids = refl;
}

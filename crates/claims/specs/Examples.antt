-- Demand 3 at work, by computation: a trace with calls of 21, of 7 and of nobody, and tables that calls reach with 21 idle, waiting first, waiting second, and with r = 255.
use Rattle.std.specs.Prelude.{ℕ, zero, suc, ◌+◌, ◌%◌, ◌<◌, ◌≡◌, refl, true, List, [], ◌∷◌, ◌++◌, Option, None, Some}
use Rattle.std.proofs.Common.{arith, sym, ap, ◌∙◌, eq-eqb}
use Rattle.wire.specs.Told.{done}
use Rattle.wire.specs.declared.refusals.Refusal.TheVariants.{BufferTooSmall, AlreadyOpen}
use Rattle.tunnel.specs.Rules.{afresh, arrival_of}
use Rattle.tunnel.specs.declared.rules.Wait.TheVariants.{Idle, First, Second}
use Rattle.tunnel.specs.declared.rules.Tunnel.{Tunnel}
use Rattle.tunnel.specs.declared.rules.Said.TheVariants.{Nothing, Repeat, Deliver, Duplicate, Sent}
use Rattle.tunnelling.specs.declared.form.Form.TheVariants.{Crate}
use Rattle.tunnel.specs.declared.rules.Arrival.{Arrival}
use Rattle.tunnel_model.specs.Store.{Seen, run, reached, names, table_trace, lone_trace, calls_of, seen}
use Rattle.tunnel.specs.Numbers.{said_of}
use Rattle.tunnel_model.specs.Calls.{Call, Open, Close, Timeout, Send, Datagram, refuses, says}
use Rattle.tunnel_model.specs.Lone.{arrived}
use Rattle.tunnel_model.specs.Table.{chan, table_of}
use Rattle.tunnel_table.specs.Places.{Place, kind}
use Rattle.claims.specs.Demand3.{isolates}

-- a request of a channel with a number and the cEMI bytes 29 00, and one byte more that the total length leaves out
abbrev pub request : ℕ → ℕ → List ℕ
request b n = 0x06 ∷ 0x10 ∷ 0x04 ∷ 0x20 ∷ 0x00 ∷ 0x0C ∷ 0x04 ∷ b ∷ n ∷ 0x00 ∷ 0x29 ∷ 0x00 ∷ 0xEE ∷ []

abbrev pub ack : ℕ → ℕ → ℕ → List ℕ
ack b n status = 0x06 ∷ 0x10 ∷ 0x04 ∷ 0x21 ∷ 0x00 ∷ 0x0B ∷ 0x04 ∷ b ∷ n ∷ 0x00 ∷ status ∷ []

-- an output of twelve bytes, each 9
abbrev pub room : List ℕ
room = 9 ∷ 9 ∷ 9 ∷ 9 ∷ 9 ∷ 9 ∷ 9 ∷ 9 ∷ 9 ∷ 9 ∷ 9 ∷ 9 ∷ []

-- ---- a trace

abbrev before : List Call
before = Open 21 ∷ Datagram [] room ∷ Open 7 ∷ Send 7 [] room ∷ Close 9 ∷ []

-- among them nobody's: an unknown service, a service not for tunnels, a body that is too short
abbrev calls : List Call
calls =
    Datagram (request 21 0) room
    ∷ Datagram (request 7 0) room
    ∷ Datagram (0x06 ∷ 0x10 ∷ 0xFF ∷ 0xFF ∷ 0x00 ∷ 0x06 ∷ []) room
    ∷ Datagram (0x06 ∷ 0x10 ∷ 0x02 ∷ 0x05 ∷ 0x00 ∷ 0x06 ∷ []) room
    ∷ Datagram (0x06 ∷ 0x10 ∷ 0x04 ∷ 0x21 ∷ 0x00 ∷ 0x0A ∷ 0x04 ∷ 21 ∷ 0 ∷ 0x00 ∷ []) room
    ∷ Datagram (request 21 0) room
    ∷ Datagram (request 21 1) []
    ∷ Timeout 7
    ∷ Send 21 (0x11 ∷ 0x00 ∷ []) room
    ∷ Timeout 21
    ∷ Close 7
    ∷ Datagram (ack 21 0 0) []
    ∷ Open 21
    ∷ Close 21
    ∷ Open 21
    ∷ []

abbrev acked : List ℕ
acked = 0x06 ∷ 0x10 ∷ 0x04 ∷ 0x21 ∷ 0x00 ∷ 0x0B ∷ 0x04 ∷ 21 ∷ 0 ∷ 0x00 ∷ 0x00 ∷ 9 ∷ []

abbrev at : ℕ → ℕ → Option Tunnel
at r s = Some (record { r = r; s = s; w = Idle })

-- the premise of `isolates` is met
pub is_open : (table_of kind 8).look 21 (reached chan (table_of kind 8) before) ≡ Some afresh
is_open = refl

-- what the table gives 21: the view 10 to 12, eleven bytes written, the twelfth as it was; and nothing after it is closed
pub trace : table_trace chan (table_of kind 8) (names chan 21) 21 (reached chan (table_of kind 8) before) calls
    ≡ ((record { number = 0; values = said_of Deliver ∷ 11 ∷ []; start = 10; end = 12; offset = 0 }, acked), at 1 0)
    ∷ ((done (said_of Duplicate ∷ 11 ∷ []), acked), at 1 0)
    ∷ (refuses BufferTooSmall [], at 1 0)
    ∷ ((done (said_of Nothing ∷ 12 ∷ []), 0x06 ∷ 0x10 ∷ 0x04 ∷ 0x20 ∷ 0x00 ∷ 0x0C ∷ 0x04 ∷ 21 ∷ 0 ∷ 0x00 ∷ 0x11 ∷ 0x00 ∷ []), Some (record { r = 1; s = 0; w = First }))
    ∷ (says Repeat [], Some (record { r = 1; s = 0; w = Second }))
    ∷ (says Sent [], at 1 1)
    ∷ (refuses AlreadyOpen [], at 1 1)
    ∷ (says Nothing [], None)
    ∷ []
trace = refl

pub as_alone : table_trace chan (table_of kind 8) (names chan 21) 21 (reached chan (table_of kind 8) before) calls ≡ lone_trace chan (Some afresh) (calls_of chan (names chan 21) calls)
as_alone = isolates before calls 21 afresh is_open

-- ---- each waiting state

pub idle : (table_of kind 8).look 21 (reached chan (table_of kind 8) (Open 21 ∷ [])) ≡ Some afresh
idle = refl

pub waits_first : (table_of kind 8).look 21 (reached chan (table_of kind 8) (Open 21 ∷ Send 21 [] room ∷ [])) ≡ Some (record { r = 0; s = 0; w = First })
waits_first = refl

pub waits_second : (table_of kind 8).look 21 (reached chan (table_of kind 8) (Open 21 ∷ Send 21 [] room ∷ Timeout 21 ∷ [])) ≡ Some (record { r = 0; s = 0; w = Second })
waits_second = refl

-- ---- r = 255

-- 21 is opened, and k requests are delivered
unfoldable pub asked : ℕ → List Call
asked zero = Open 21 ∷ []
asked (suc k) = asked k ++ Datagram (request 21 k) room ∷ []

run_on : (l : List Place) (cs ds : List Call) → run chan (table_of kind 8) l (cs ++ ds) ≡ run chan (table_of kind 8) (run chan (table_of kind 8) l cs) ds
run_on l [] ds = refl
run_on l (c ∷ cs) ds = run_on ((table_of kind 8).step l c).1 cs ds

abbrev last_seen : List (Seen chan) → Option Tunnel
last_seen [] = None
last_seen (x ∷ xs) = x.1

climbs : (k : ℕ) → k < 256 → (table_of kind 8).look 21 (reached chan (table_of kind 8) (asked k)) ≡ at k 0
unfolding asked
climbs zero h = refl
climbs (suc k) h =
    let p : Tunnel = record { r = k; s = 0; w = Idle } in
    let l : List Place = reached chan (table_of kind 8) (asked k) in
    let c : Call = Datagram (request 21 k) room in
    let there : (table_of kind 8).look 21 l ≡ Some p = climbs k (omega arith) in
    let x : Seen chan = (((table_of kind 8).step l c).0, (table_of kind 8).look 21 ((table_of kind 8).step l c).1) in
    let arrives : arrival_of p k ≡ Arrival.Deliver = simp (eq-eqb k k refl) in
    let next : (k + 1) % 256 ≡ suc k = omega arith in
    ap ((table_of kind 8).look 21) (run_on (table_of kind 8).start (asked k) (c ∷ []))
    ∙ ap (λ (o : Option Tunnel). last_seen (seen chan o true x [])) (sym there)
    ∙ ap last_seen (isolates (asked k) (c ∷ []) 21 p there)
    ∙ ap (λ (x : Arrival). (arrived Crate x p 21 k 12 room).1) arrives
    ∙ ap (λ (r : ℕ). at r 0) next

pub r_255 : (table_of kind 8).look 21 (reached chan (table_of kind 8) (asked 255)) ≡ at 255 0
r_255 = climbs 255 (omega arith)

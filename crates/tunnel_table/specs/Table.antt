-- What the calls on the table promise: 01's table of eight, made of the code's own places. Assumes nothing.
use Rattle.std.specs.Prelude.{ℕ, ◌≡◌, List, [], ◌∷◌, length, set, Result, Ok, Err, Option, None, Some}
use Rattle.wire.specs.Told.{Told, verdict}
use Rattle.wire.specs.Writing.{onto, Writes}
use Rattle.wire.specs.declared.refusals.Fault.{Fault}
use Rattle.wire.specs.declared.refusals.Refusal.TheVariants.{NotOpen}
use Rattle.wire.specs.Told.{Verdict}
use Rattle.tunnelling.specs.AckForm.{form_by}
use Rattle.tunnelling.specs.AckForm as AckForm
use Rattle.tunnelling.specs.declared.form.Form.{Form}
use Rattle.tunnelling.specs.declared.form.Form.TheVariants.{Crate}
use Rattle.tunnel_datagram.specs.Hearing.{channel_offset}
use Rattle.tunnel_datagram.specs.declared.hearing.Heard.{Heard}
use Rattle.tunnel.specs.Rules.{arrival_of, acknowledged_of}
use Rattle.tunnel.specs.declared.rules.Tunnel.{Tunnel}
use Rattle.tunnel.specs.declared.rules.Said.{Said}
use Rattle.tunnel_model.specs.Firsts.{first_of, put_first}
use Rattle.tunnel_model.specs.Store.{step}
use Rattle.tunnel_model.specs.Places.{holds, state_in, placed}
use Rattle.tunnel.specs.Numbers.{said_of}
use Rattle.tunnel_model.specs.Calls.{Call, Outcome, refuses_at, refuses}
use Rattle.tunnel_model.specs.Lone.{After, ack, arrived, stepped}
use Rattle.tunnel_model.specs.Table.{chan, store_of, empty_of}
use Rattle.tunnel_table.specs.Places.{Place, kind, held}
use Rattle.tunnel_table.specs.declared.spot.Spot.{Spot}
use Rattle.tunnel_table.specs.declared.table.Table.{Table}
use Rattle.tunnel_table.specs.declared.table.Called.{Called}
use Rattle.tunnel_table.specs.declared.table.Reaction.{Reaction}
use Rattle.wire.specs.declared.refusals.Refusal.{Refusal}

-- what is told of a call that is not refused
abbrev pub told : Called → Told
told r = record { number = 0; values = said_of r.said ∷ r.written ∷ []; start = r.view.start; end = r.view.end; offset = 0 }

-- what a call gave: the outcome with the output afterwards, and the places afterwards, which a refusal leaves as they were
abbrev pub called_as : Table → Result Called Fault → List ℕ → Outcome × List Place
called_as t (Ok r) out = ((told r, out), r.table.places)
called_as t (Err e) out = (refuses_at e out, t.places)

-- every call on the table is one step of 01's table of eight
abbrev pub CallPromise : Table → Call → Result Called Fault → List ℕ → Type 0
CallPromise t c r out = called_as t r out ≡ step chan (store_of kind) t.places c

abbrev pub EmptyPromise : Table → Type 0
EmptyPromise r = r.places ≡ empty_of kind 8

-- ---- the code's parts

-- what a rule does to a channel's place: 9, at k, where the channel is not open
abbrev pub on_at : ℕ → Option Tunnel → ℕ → (Tunnel → After) → List ℕ → List Place → Outcome × List Place
on_at k None b f out l = (refuses_at (record { why = NotOpen; at = k }) out, l)
on_at k (Some t) b f out l = ((f t).0, put_first (holds kind b) (placed kind b (f t).1) l)

abbrev pub on : ℕ → ℕ → (Tunnel → After) → List ℕ → List Place → Outcome × List Place
on k b f out l = on_at k (state_in kind (first_of (holds kind b) l)) b f out l

abbrev pub request_rule : Form → ℕ → ℕ → ℕ → List ℕ → Tunnel → After
request_rule f channel n end out t = arrived f (arrival_of t n) t channel n end out

abbrev pub ack_rule : ℕ → ℕ → List ℕ → Tunnel → After
ack_rule n status out t = stepped t (acknowledged_of t n status) out

-- what was heard of a datagram: a request, which is acknowledged in the form that is given, an acknowledgement, or a refusal, which changes nothing
abbrev pub heard_in_on : Form → Result Heard Fault → List ℕ → List Place → Outcome × List Place
heard_in_on f (Ok (Heard.Request channel n end)) out l = on channel_offset channel (request_rule f channel n end out) out l
heard_in_on f (Ok (Heard.Ack channel n status)) out l = on channel_offset channel (ack_rule n status out) out l
heard_in_on f (Err e) out l = (refuses_at e out, l)

abbrev pub HeardInPromise : Form → Table → Result Heard Fault → List ℕ → Result Called Fault → List ℕ → Type 0
HeardInPromise f t h out r after = called_as t r after ≡ heard_in_on f h out t.places

-- in the crate's form
abbrev pub heard_on : Result Heard Fault → List ℕ → List Place → Outcome × List Place
heard_on h out l = heard_in_on Crate h out l

abbrev pub HeardPromise : Table → Result Heard Fault → List ℕ → Result Called Fault → List ℕ → Type 0
HeardPromise t h out r after = called_as t r after ≡ heard_on h out t.places

abbrev pub AcknowledgementPromise : Table → ℕ → ℕ → ℕ → Result Called Fault → Type 0
AcknowledgementPromise t channel n status r = (out : List ℕ) → called_as t r out ≡ on channel_offset channel (ack_rule n status out) out t.places

abbrev pub AckPromise : Form → ℕ → ℕ → List ℕ → Result ℕ Refusal → List ℕ → Type 0
AckPromise f channel n out r after = Writes (AckForm.build_checks (form_by f) (length out)) (ack f channel n) out r after

-- an acknowledgement is written and the channel is put back, or there is no room for it
abbrev pub reaction_told : Reaction → ℕ → Told
reaction_told x n = record { number = 0; values = said_of x.said ∷ n ∷ []; start = x.view.start; end = x.view.end; offset = 0 }

abbrev pub reacted : Form → Verdict → Table → Spot → ℕ → ℕ → Reaction → List ℕ → Outcome × List Place
reacted f (Ok _) t s b n x out = ((reaction_told x (length (ack f b n)), onto out (ack f b n)), set t.places s.at (held b x.tunnel))
reacted f (Err e) t s b n x out = (refuses e out, t.places)

abbrev pub ReactPromise : Form → Table → Spot → ℕ → ℕ → Reaction → List ℕ → Result Called Fault → List ℕ → Type 0
ReactPromise f t s b n x out r after = called_as t r after ≡ reacted f (verdict (AckForm.build_checks (form_by f) (length out))) t s b n x out

abbrev pub saying : Table → Said → Called
saying t said = record { said = said; view = record { start = 0; end = 0 }; written = 0; table = t }

abbrev pub put_at : Table → Spot → Place → Table
put_at t s p = record { places = set t.places s.at p }

-- What one tunnel writes, another hears: a request that a send wrote, in either form; an acknowledgement that a delivery or a duplicate wrote, in the same form. Assumes nothing.
use Rattle.std.specs.Prelude.{ℕ, ◌+◌, ◌≤◌, ◌≡◌, refl, Bool, true, false, cond, List, [], ◌∷◌, length, get_or, Ok, Err, Some, Result}
use Rattle.std.proofs.Common.{arith, sym, ap, subst, ◌∙◌}
use Rattle.wire.specs.Told.{done, verdict}
use Rattle.wire.specs.ToldLaws.{never_done}
use Rattle.wire.specs.Parts.{part_of}
use Rattle.wire.specs.Writing.{onto}
use Rattle.wire.specs.declared.refusals.Refusal.{Refusal}
use Rattle.wire.specs.declared.refusals.Refusal.TheVariants.{AwaitsAck}
use Rattle.wire.specs.Told.{Verdict}
use Rattle.tunnelling.specs.Request as TunnelingRequest
use Rattle.tunnelling.specs.AckForm.{form_by}
use Rattle.tunnelling.specs.AckForm as AckForm
use Rattle.tunnelling.specs.declared.form.Form.{Form}
use Rattle.tunnel_datagram.specs.Hearing.{cemi_start, heard_in}
use Rattle.tunnel_datagram.specs.WrittenHeard.{request-stands, cemi-stands, ack-stands}
use Rattle.tunnel_datagram.specs.declared.hearing.Heard.{Heard}
use Rattle.tunnel_datagram.specs.declared.hearing.Heard.TheVariants.{Request, Ack}
use Rattle.tunnel.specs.Rules.{waiting, arrival_of, sending_of}
use Rattle.tunnel.specs.declared.rules.Tunnel.{Tunnel}
use Rattle.tunnel.specs.declared.rules.Arrival.{Arrival}
use Rattle.tunnel.specs.declared.rules.Arrival.TheVariants.{Deliver, Duplicate, OutOfOrder}
use Rattle.tunnel.specs.declared.rules.Said.TheVariants.{Nothing}
use Rattle.tunnel.specs.Numbers.{said_of}
use Rattle.tunnel_model.specs.Calls.{Send, DatagramIn, refuses}
use Rattle.tunnel_model.specs.Lone.{After, or_refused, request, ack, arrived, heard, lone}
use Rattle.wire.specs.declared.refusals.Fault.{Fault}

-- ---- an answer of 0 is not the refusal

unrefused : (waits : Bool) (e : Refusal) (out : List ℕ) (t : Tunnel) (a : After) → (cond waits (refuses e out, Some t) a).0.0.number ≡ 0 → cond waits (refuses e out, Some t) a ≡ a
unrefused true e out t a z = absurd (never_done e z)
unrefused false e out t a z = refl

accepted : (v : Verdict) (out : List ℕ) (t : Tunnel) (a : After) → (or_refused v out t a).0.0.number ≡ 0 → or_refused v out t a ≡ a
accepted (Ok _) out t a z = refl
accepted (Err e) out t a z = absurd (never_done e z)

-- ---- a send that was answered 0 wrote its request, which is heard

pub send_heard : (f : Form) (t : Tunnel) (b : ℕ) (cemi out : List ℕ) → (lone t (Send b cemi out)).0.0.number ≡ 0
    → (heard_in f (lone t (Send b cemi out)).0.1 ≡ Ok (Request b t.s (cemi_start + length cemi)))
    × (part_of (lone t (Send b cemi out)).0.1 cemi_start (cemi_start + length cemi) ≡ cemi)
send_heard f t b cemi out z =
    let wrote : After = ((done (said_of Nothing ∷ length (request b t.s cemi) ∷ []), onto out (request b t.s cemi)), Some (sending_of t)) in
    let v : Verdict = verdict (TunnelingRequest.build_checks (length cemi) (length out)) in
    let first : lone t (Send b cemi out) ≡ or_refused v out t wrote = unrefused (waiting t.w) AwaitsAck out t (or_refused v out t wrote) z in
    let whole : lone t (Send b cemi out) ≡ wrote = first ∙ accepted v out t wrote (sym (ap (λ (a : After). a.0.0.number) first) ∙ z) in
    let bytes : (lone t (Send b cemi out)).0.1 ≡ onto out (request b t.s cemi) = ap (λ (a : After). a.0.1) whole in (
      ap (heard_in f) bytes ∙ request-stands (record { channel_id = b; sequence_counter = t.s }) cemi out f,
      ap (λ (l : List ℕ). part_of l cemi_start (cemi_start + length cemi)) bytes ∙ cemi-stands (record { channel_id = b; sequence_counter = t.s }) cemi out,
    )

-- ---- a request that was answered 0 and for which something was written: its acknowledgement, with status 0

-- something was written
abbrev Acknowledges : After → Type 0
Acknowledges a = 1 ≤ get_or a.0.0.values 1 0

module _ (f : Form) where
  ack_writes : (x : Arrival) (t : Tunnel) (channel n end : ℕ) (out : List ℕ) → (arrived f x t channel n end out).0.0.number ≡ 0 → Acknowledges (arrived f x t channel n end out)
      → (arrived f x t channel n end out).0.1 ≡ onto out (ack f channel n)
  ack_writes Deliver t channel n end out z w = ap (λ (a : After). a.0.1) (accepted (verdict (AckForm.build_checks (form_by f) (length out))) out t _ z)
  ack_writes Duplicate t channel n end out z w = ap (λ (a : After). a.0.1) (accepted (verdict (AckForm.build_checks (form_by f) (length out))) out t _ z)
  ack_writes OutOfOrder t channel n end out z w = absurd (omega (arith, w))

  pub ack-heard : (t : Tunnel) (channel n end : ℕ) (bytes out : List ℕ) → heard_in f bytes ≡ Ok (Request channel n end) → (lone t (DatagramIn f bytes out)).0.0.number ≡ 0
      → Acknowledges (lone t (DatagramIn f bytes out)) → heard_in f (lone t (DatagramIn f bytes out)).0.1 ≡ Ok (Ack channel n 0)
  ack-heard t channel n end bytes out is z w =
      let as-arrived : lone t (DatagramIn f bytes out) ≡ arrived f (arrival_of t n) t channel n end out = ap (λ (h : Result Heard Fault). heard f t h out) is in
      let zero : (arrived f (arrival_of t n) t channel n end out).0.0.number ≡ 0 = sym (ap (λ (a : After). a.0.0.number) as-arrived) ∙ z in
      let some_bytes : Acknowledges (arrived f (arrival_of t n) t channel n end out) = subst Acknowledges as-arrived w in
      ap (λ (a : After). heard_in f a.0.1) as-arrived
      ∙ ap (heard_in f) (ack_writes (arrival_of t n) t channel n end out zero some_bytes)
      ∙ ack-stands f (record { connection_header = record { channel_id = channel; sequence_counter = n }; status = 0 }) out

-- What is heard goes on from the frame's parse and the body's, in either form; no second answer. Assumes nothing.
use Rattle.std.specs.Prelude.{ℕ, ◌≤◌, ◌≡◌, refl, cond, List, length, get_or, eqb, Ok, Err, Result}
use Rattle.std.proofs.Common.{arith, sym, ap, ◌∙◌}
use Rattle.wire.specs.Told.{Told, done, Check, judged}
use Rattle.wire.specs.Places.{located, standing, later_fault, later}
use Rattle.wire.specs.PlaceLaws.{accepted-stands, was_fallen, fault_within}
use Rattle.wire.specs.ToldLaws.{was_accepted, let_through, one_to_one, answer_of, back_refused, same}
use Rattle.wire.specs.Refusing.{Refusing, refused-zeros}
use Rattle.wire.specs.Layout.{get}
use Rattle.wire.specs.Parts.{part_of}
use Rattle.wire.specs.declared.refusals.Fault.{Fault}
use Rattle.wire.specs.Places.{Standing}
use Rattle.constants.specs.Constants.{header_size}
use Rattle.constants.specs.Services.{code_of}
use Rattle.header.specs.Header.{fields, values, service_in, total_in}
use Rattle.frame.specs.Frame as Frame
use Rattle.frame.specs.declared.frame.FrameFields.{FrameFields}
use Rattle.tunnelling.specs.Connection as Connection
use Rattle.tunnelling.specs.Request as TunnelingRequest
use Rattle.tunnelling.specs.Ack as TunnelingAck
use Rattle.tunnelling.specs.AckForm.{form_by}
use Rattle.tunnelling.specs.AckForm as AckForm
use Rattle.tunnelling.specs.declared.form.Form.{Form}
use Rattle.tunnelling.specs.declared.form.Form.TheVariants.{Crate}
use Rattle.tunnelling.specs.declared.request.TunnelingRequest.{TunnelingRequest}
use Rattle.tunnelling.specs.declared.ack.TunnelingAck.{TunnelingAck}
use Rattle.tunnel_datagram.specs.Hearing.{told, heard_or, request_of, ack_of, request_in, ack_in, in_frame, heard_in, HearPromise, HearInPromise}
use Rattle.tunnel_datagram.specs.declared.hearing.Heard.{Heard}
use Rattle.tunnel_datagram.specs.declared.hearing.Heard.TheVariants.{Request, Ack}

-- ---- checks that were answered

stood : (cs : List Check) (os : List ℕ) (t u : Told) → u.number ≡ 0 → u ≡ located cs os (judged cs t) → standing cs os ≡ Ok tt
stood cs os t u z q = accepted-stands cs os (was_accepted cs t u z q)

-- ---- bodies, which stand behind the header

pub requested : (body : List ℕ) (end : ℕ) (q : TunnelingRequest) → TunnelingRequest.ParsePromise body (Ok q)
    → Ok (Request q.connection_header.channel_id q.connection_header.sequence_counter end) ≡ request_in body end
requested body end q p =
    let values_in : List ℕ = Connection.values_in (get Connection.fields 0 body) in
    let cs : List Check = Connection.checks (length body) in
    let os : List ℕ = Connection.offsets (length body) in
    let u : Told = TunnelingRequest.told (Ok q) in
    ap (λ (t : Told). request_of t.values end) (let_through cs (done values_in) u refl p)
    ∙ ap (λ (v : Standing). heard_or (later header_size v) (request_of values_in end)) (sym (stood cs os (done values_in) u refl p))

-- the body's refusal, as it fell
request_fell : (body : List ℕ) (e : Fault) → TunnelingRequest.ParsePromise body (Err e) → standing (Connection.checks (length body)) (Connection.offsets (length body)) ≡ Err e
request_fell body e p = was_fallen (Connection.checks (length body)) (Connection.offsets (length body)) (done (Connection.values_in (get Connection.fields 0 body))) 2 e refl p

pub not_requested : (body : List ℕ) (end : ℕ) (e : Fault) → TunnelingRequest.ParsePromise body (Err e) → Err (later_fault header_size e) ≡ request_in body end
not_requested body end e p = ap (λ (v : Standing). heard_or (later header_size v) (request_of (Connection.values_in (get Connection.fields 0 body)) end)) (sym (request_fell body e p))

-- no further than the body's end
pub request_within : (body : List ℕ) (e : Fault) → TunnelingRequest.ParsePromise body (Err e) → e.at ≤ length body
request_within body e p = fault_within (length body) (Connection.checks (length body)) (Connection.offsets (length body)) e (omega arith, omega arith) (request_fell body e p)

-- in the form that is given
module _ (f : Form) where
  abbrev ack_checks : List ℕ → List Check
  ack_checks body = AckForm.checks (form_by f) (length body)

  abbrev ack_offsets : List ℕ → List ℕ
  ack_offsets body = AckForm.offsets (form_by f) (length body)

  abbrev ack_values : List ℕ → List ℕ
  ack_values body = AckForm.values_in (form_by f) (get (form_by f).fields 0 body)

  pub acked : (body : List ℕ) (a : TunnelingAck) → AckForm.ParseInPromise f body (Ok a)
      → Ok (Ack a.connection_header.channel_id a.connection_header.sequence_counter a.status) ≡ ack_in f body
  acked body a p =
      let u : Told = TunnelingAck.told (Ok a) in
      ap (λ (t : Told). ack_of t.values) (let_through (ack_checks body) (done (ack_values body)) u refl p)
      ∙ ap (λ (v : Standing). heard_or (later header_size v) (ack_of (ack_values body))) (sym (stood (ack_checks body) (ack_offsets body) (done (ack_values body)) u refl p))

  ack_fell : (body : List ℕ) (e : Fault) → AckForm.ParseInPromise f body (Err e) → standing (ack_checks body) (ack_offsets body) ≡ Err e
  ack_fell body e p = was_fallen (ack_checks body) (ack_offsets body) (done (ack_values body)) 3 e refl p

  pub not_acked : (body : List ℕ) (e : Fault) → AckForm.ParseInPromise f body (Err e) → Err (later_fault header_size e) ≡ ack_in f body
  not_acked body e p = ap (λ (v : Standing). heard_or (later header_size v) (ack_of (ack_values body))) (sym (ack_fell body e p))

  pub ack_within : (body : List ℕ) (e : Fault) → AckForm.ParseInPromise f body (Err e) → e.at ≤ length body
  ack_within body e p = fault_within (length body) (ack_checks body) (ack_offsets body) e (omega arith, omega arith) (ack_fell body e p)

  -- ---- frames

  pub framed : (s : List ℕ) (x : FrameFields) → Frame.ParsePromise s (Ok x)
      → in_frame f (code_of x.header.service_type) x.header.total_length (part_of s 6 x.header.total_length) ≡ heard_in f s
  framed s x p =
      let vs : List ℕ = get fields 0 s in
      let cs : List Check = Frame.checks (length s) vs in
      let u : Told = Frame.told (Ok x) in
      let read : values x.header ≡ vs = ap (λ (t : Told). t.values) (let_through cs (done vs) u refl p) in
      ap (λ (ws : List ℕ). in_frame f (service_in ws) (total_in ws) (part_of s 6 (total_in ws))) read
      ∙ ap (λ (v : Standing). heard_or v (in_frame f (service_in vs) (total_in vs) (part_of s 6 (total_in vs)))) (sym (stood cs (Frame.offsets (length s)) (done vs) u refl p))

-- ---- no second answer

abbrev made : ℕ → List ℕ → Result Heard Fault
made end vs = cond (eqb (get_or vs 0 0) 1) (Ok (Request (get_or vs 1 0) (get_or vs 2 0) end)) (Ok (Ack (get_or vs 1 0) (get_or vs 2 0) (get_or vs 3 0)))

abbrev answered : Told → Result Heard Fault
answered t = answer_of (made t.end) Err t

back : (h : Result Heard Fault) → answered (told h) ≡ h
back (Ok (Request channel n end)) = refl
back (Ok (Ack channel n status)) = refl
back (Err e) = back_refused (made 0) Err 4 e

pub told_one : (r q : Result Heard Fault) → told r ≡ told q → r ≡ q
told_one = one_to_one told answered back

pub hear_in_one : (f : Form) (s : List ℕ) (r q : Result Heard Fault) → HearInPromise f s r → HearInPromise f s q → r ≡ q
hear_in_one f s r q a b = told_one r q (same a b)

pub hear_one : (s : List ℕ) (r q : Result Heard Fault) → HearPromise s r → HearPromise s q → r ≡ q
hear_one = hear_in_one Crate

-- what is promised, as it is used: the answer itself
pub heard_in_is : (f : Form) (s : List ℕ) (r : Result Heard Fault) → HearInPromise f s r → r ≡ heard_in f s
heard_in_is f s r p = told_one r (heard_in f s) p

-- a refusal says its number, and zeros
pub heard-refusing : (h : Result Heard Fault) → Refusing (told h)
heard-refusing (Ok (Request channel n end)) some = absurd (some refl)
heard-refusing (Ok (Ack channel n status)) some = absurd (some refl)
heard-refusing (Err e) some = refused-zeros 4 e

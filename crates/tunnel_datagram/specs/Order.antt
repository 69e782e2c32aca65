-- A datagram's checks as one list in 01's order: the frame's, the service's, then the body's, which stands behind the header. What is heard goes by that list, number and offset alike. Assumes nothing.
use Rattle.std.specs.Prelude.{ℕ, suc, ◌≡◌, refl, Bool, true, false, cond, List, ◌∷◌, [], ◌++◌, length, get_or, eqb, Ok, Err, Result}
use Rattle.std.proofs.Common.{sym, ap, ◌∙◌}
use Rattle.wire.specs.Told.{Check, ◌⇒◌, none_of, verdict}
use Rattle.wire.specs.Places.{place, stands_at, standing, moved, and_then}
use Rattle.wire.specs.PlaceLaws.{stands_then, stands-later}
use Rattle.wire.specs.Layout.{get}
use Rattle.wire.specs.Parts.{part_of}
use Rattle.wire.specs.declared.refusals.Refusal.TheVariants.{NotForTunnels}
use Rattle.wire.specs.Places.{Standing}
use Rattle.constants.specs.Constants.{header_size}
use Rattle.constants.specs.Services.{code_of}
use Rattle.constants.specs.declared.services.ServiceType.TheVariants.{TunnellingRequest, TunnellingAck}
use Rattle.header.specs.Header.{fields, service_in, total_in}
use Rattle.frame.specs.Frame as Frame
use Rattle.tunnelling.specs.Connection as Connection
use Rattle.tunnelling.specs.AckForm.{form_by}
use Rattle.tunnelling.specs.AckForm as AckForm
use Rattle.tunnelling.specs.declared.form.Form.{Form}
use Rattle.tunnel_datagram.specs.Hearing.{heard_or, request_of, ack_of, request_in, ack_in, not_for_tunnels, in_frame, heard_in}
use Rattle.tunnel_datagram.specs.declared.hearing.Heard.{Heard}
use Rattle.wire.specs.declared.refusals.Fault.{Fault}

abbrev pub body_in : List ℕ → List ℕ
body_in s = part_of s header_size (total_in (get fields 0 s))

module _ (f : Form) where
  -- of a frame of this service with a body of n bytes: another service (12), then the body's own
  abbrev pub tunnel_checks : ℕ → ℕ → List Check
  tunnel_checks service n =
      none_of service (code_of TunnellingRequest ∷ code_of TunnellingAck ∷ []) ⇒ NotForTunnels
      ∷ cond (eqb service (code_of TunnellingRequest)) (Connection.checks n) (AckForm.checks (form_by f) n)

  -- beside them, the service's offset, then the body's, moved by its start
  abbrev pub tunnel_offsets : ℕ → ℕ → List ℕ
  tunnel_offsets service n = 2 ∷ moved header_size (cond (eqb service (code_of TunnellingRequest)) (Connection.offsets n) (AckForm.offsets (form_by f) n))

  abbrev pub checks : List ℕ → List Check
  checks s = Frame.checks (length s) (get fields 0 s) ++ tunnel_checks (service_in (get fields 0 s)) (length (body_in s))

  abbrev pub offsets : List ℕ → List ℕ
  offsets s = Frame.offsets (length s) ++ tunnel_offsets (service_in (get fields 0 s)) (length (body_in s))

  -- what is heard where all hold
  abbrev pub heard_of : ℕ → ℕ → List ℕ → Result Heard Fault
  heard_of service total body =
      cond (eqb service (code_of TunnellingRequest)) (request_of (Connection.values_in (get Connection.fields 0 body)) total)
      (ack_of (AckForm.values_in (form_by f) (get (form_by f).fields 0 body)))

  in_order : (service total : ℕ) (body : List ℕ)
      → in_frame f service total body ≡ heard_or (standing (tunnel_checks service (length body)) (tunnel_offsets service (length body))) (heard_of service total body)
  in_order service total body = go (eqb service (code_of TunnellingRequest)) (eqb service (code_of TunnellingAck))
    where
      go : (a b : Bool)
          → cond a (request_in body total) (cond b (ack_in f body) (Err not_for_tunnels))
          ≡ heard_or
          (stands_at (cond (cond a false (cond b false true)) (Err NotForTunnels) (verdict (cond a (Connection.checks (length body)) (AckForm.checks (form_by f) (length body)))))
          (get_or (2 ∷ moved header_size (cond a (Connection.offsets (length body)) (AckForm.offsets (form_by f) (length body))))
          (cond (cond a false (cond b false true)) 0 (suc (place (cond a (Connection.checks (length body)) (AckForm.checks (form_by f) (length body)))))) 0))
          (cond a (request_of (Connection.values_in (get Connection.fields 0 body)) total) (ack_of (AckForm.values_in (form_by f) (get (form_by f).fields 0 body))))
      go true b =
          ap (λ (v : Standing). heard_or v (request_of (Connection.values_in (get Connection.fields 0 body)) total))
          (sym (stands-later header_size (Connection.checks (length body)) (Connection.offsets (length body)) refl))
      go false true =
          ap (λ (v : Standing). heard_or v (ack_of (AckForm.values_in (form_by f) (get (form_by f).fields 0 body))))
          (sym (stands-later header_size (AckForm.checks (form_by f) (length body)) (AckForm.offsets (form_by f) (length body)) refl))
      go false false = refl

  after : (v w : Standing) (h : Result Heard Fault) → heard_or v (heard_or w h) ≡ heard_or (and_then v w) h
  after (Ok _) w h = refl
  after (Err e) w h = refl

  -- number and offset are those of the first broken check of the whole list
  pub by_one_list : (s : List ℕ) → heard_in f s ≡ heard_or (standing (checks s) (offsets s)) (heard_of (service_in (get fields 0 s)) (total_in (get fields 0 s)) (body_in s))
  by_one_list s =
      let vs : List ℕ = get fields 0 s in
      let first : Standing = standing (Frame.checks (length s) vs) (Frame.offsets (length s)) in
      let ds : List Check = tunnel_checks (service_in vs) (length (body_in s)) in
      let ps : List ℕ = tunnel_offsets (service_in vs) (length (body_in s)) in
      let h : Result Heard Fault = heard_of (service_in vs) (total_in vs) (body_in s) in
      ap (heard_or first) (in_order (service_in vs) (total_in vs) (body_in s)) ∙ after first (standing ds ps) h
      ∙ ap (λ (v : Standing). heard_or v h) (sym (stands_then (Frame.checks (length s) vs) ds (Frame.offsets (length s)) ps refl))

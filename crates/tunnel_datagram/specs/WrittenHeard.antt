-- What is written is heard: a request that `TunnelingRequest::build` wrote as that channel, number and cEMI, an acknowledgement that `TunnelingAck::build_in` wrote, heard in the same form, as that channel, number and status. The cEMI that is heard is the part that the body's own parse hands out. Assumes nothing.
use Rattle.std.specs.Prelude.{ℕ, ◌+◌, ◌-◌, ◌≤◌, ◌≡◌, refl, List, [], ◌++◌, length, drop, ltb, Ok}
use Rattle.std.proofs.Common.{arith, sym, ap, ◌∙◌, append-nil, length-drop, length-take-le, ltb-false}
use Rattle.wire.specs.Told.{done, viewed, verdict}
use Rattle.wire.specs.ToldLaws.{holds, was_accepted, let_pass}
use Rattle.wire.specs.Layout.{put, get}
use Rattle.wire.specs.Parts.{part_of, shown}
use Rattle.wire.specs.PartLaws.{part_is, part_between, part_part}
use Rattle.wire.specs.Writing.{onto}
use Rattle.wire.specs.WritingLaws.{wrote}
use Rattle.wire.specs.declared.refusals.Refusal.TheVariants.{BufferTooSmall}
use Rattle.constants.specs.Services.{code_of}
use Rattle.constants.specs.declared.services.ServiceType.{ServiceType}
use Rattle.constants.specs.declared.services.ServiceType.TheVariants.{TunnellingRequest, TunnellingAck}
use Rattle.header.specs.Header as Header
use Rattle.frame.specs.Frame as Frame
use Rattle.frame.specs.Write.{frame}
use Rattle.frame.specs.RoundTrip.{back, built, Within, within}
use Rattle.frame.specs.declared.frame.FrameFields.{FrameFields}
use Rattle.tunnelling.specs.Connection as Connection
use Rattle.tunnelling.specs.ConnectionLaws as ConnectionLaws
use Rattle.tunnelling.specs.Request as TunnelingRequest
use Rattle.tunnelling.specs.AckForm.{form_by}
use Rattle.tunnelling.specs.AckForm as AckForm
use Rattle.tunnelling.specs.AckLaws as TunnelingAckLaws
use Rattle.tunnelling.specs.declared.form.Form.{Form}
use Rattle.tunnelling.specs.declared.connection.ConnectionHeader.{ConnectionHeader}
use Rattle.tunnelling.specs.declared.request.TunnelingRequest.{TunnelingRequest}
use Rattle.tunnelling.specs.declared.ack.TunnelingAck.{TunnelingAck}
use Rattle.tunnel_datagram.specs.Hearing.{cemi_start, in_frame, heard_in}
use Rattle.tunnel_datagram.specs.HearingLaws.{framed, requested, acked}
use Rattle.tunnel_datagram.specs.declared.hearing.Heard.TheVariants.{Request, Ack}

-- ---- written, then heard

-- of a frame that stands in a buffer its body is heard, whatever stands behind it
frame-heard : (f : Form) (s : ServiceType) (body b : List ℕ) → heard_in f (onto b (frame s body)) ≡ in_frame f (code_of s) (6 + length body) body
frame-heard f s body b =
    let x = back s body b in
    let made : FrameFields = built s body in
    let w : Within made (onto b (frame s body)) = within made (onto b (frame s body)) (sym x.fields_back) in
    let body_is : part_of (onto b (frame s body)) 6 (6 + length body) ≡ body = sym (ap (shown (onto b (frame s body))) (let_pass (Frame.checks (length (onto b (frame s body))) (Header.values made.header)) (viewed 6 (6 + length body)) w.stood)) ∙ x.body_back in
    sym (framed f (onto b (frame s body)) made (sym x.fields_back)) ∙ ap (in_frame f (code_of s) (6 + length body)) body_is

-- a request's bytes in a buffer
module _ (h : ConnectionHeader) (cemi b : List ℕ) where
  abbrev body : List ℕ
  body = TunnelingRequest.body h cemi

  pub request-stands : (f : Form) → heard_in f (onto b (frame TunnellingRequest body)) ≡ Ok (Request h.channel_id h.sequence_counter (cemi_start + length cemi))
  request-stands f =
      let long : 6 + length body ≡ cemi_start + length cemi = omega arith in
      frame-heard f TunnellingRequest body b
      ∙ sym (requested body (6 + length body) (record { connection_header = h }) (sym (ConnectionLaws.reads_back h cemi)))
      ∙ ap (λ (n : ℕ). Ok (Request h.channel_id h.sequence_counter n)) long

  pub cemi-stands : part_of (onto b (frame TunnellingRequest body)) cemi_start (cemi_start + length cemi) ≡ cemi
  cemi-stands =
      let front : List ℕ = put Header.fields (Header.made TunnellingRequest (length body)) ++ Connection.layout h in
      part_between front cemi (drop (length (frame TunnellingRequest body)) b) cemi_start (cemi_start + length cemi) refl refl

module _ (f : Form) where
  -- an acknowledgement's bytes in a buffer
  pub ack-stands : (a : TunnelingAck) (b : List ℕ)
      → heard_in f (onto b (frame TunnellingAck (AckForm.layout (form_by f) a))) ≡ Ok (Ack a.connection_header.channel_id a.connection_header.sequence_counter a.status)
  ack-stands a b =
      let w : List ℕ = AckForm.layout (form_by f) a in
      frame-heard f TunnellingAck w b ∙ sym (acked f w a (sym (ap (AckForm.parsed (form_by f)) (sym (append-nil w)) ∙ TunnelingAckLaws.reads_back_in f a [])))

  -- what the builders wrote
  pub request-heard : (t : TunnelingRequest) (cemi b : List ℕ) (n : ℕ) (after : List ℕ) → TunnelingRequest.BuildPromise t cemi b (Ok n) after
      → (heard_in f after ≡ Ok (Request t.connection_header.channel_id t.connection_header.sequence_counter (cemi_start + length cemi)))
      × (part_of after cemi_start (cemi_start + length cemi) ≡ cemi)
  request-heard t cemi b n after promised =
      let h : ConnectionHeader = t.connection_header in
      let w : List ℕ = frame TunnellingRequest (TunnelingRequest.body h cemi) in
      let stands : after ≡ onto b w = (wrote (TunnelingRequest.build_checks (length cemi) (length b)) w b n after promised).bytes in
      (ap (heard_in f) stands ∙ request-stands h cemi b f, ap (λ (l : List ℕ). part_of l cemi_start (cemi_start + length cemi)) stands ∙ cemi-stands h cemi b)

  pub ack-heard : (a : TunnelingAck) (b : List ℕ) (n : ℕ) (after : List ℕ) → AckForm.BuildInPromise f a b (Ok n) after
      → heard_in f after ≡ Ok (Ack a.connection_header.channel_id a.connection_header.sequence_counter a.status)
  ack-heard a b n after promised =
      ap (heard_in f) (wrote (AckForm.build_checks (form_by f) (length b)) (frame TunnellingAck (AckForm.layout (form_by f) a)) b n after promised).bytes ∙ ack-stands a b

-- ---- the two ways to the cEMI: from the datagram, and from the body

pub cemi_same : (s : List ℕ) (f : FrameFields) (body : List ℕ) (q : TunnelingRequest) (cemi : List ℕ)
    → Frame.ParsePromise s (Ok f) → Frame.BodyPartPromise f s body → TunnelingRequest.ParsePromise body (Ok q) → TunnelingRequest.CemiPartPromise body cemi
    → cemi ≡ part_of s cemi_start f.header.total_length
cemi_same s f body q cemi p taken parsed handed =
    let total : ℕ = f.header.total_length in
    let w : Within f s = within f s p in
    let values_in : List ℕ = Connection.values_in (get Connection.fields 0 body) in
    let stood : verdict (Connection.checks (length body)) ≡ Ok tt = was_accepted (Connection.checks (length body)) (done values_in) (TunnelingRequest.told (Ok q)) refl parsed in
    let four : 4 ≤ length body = ltb-false (length body) 4 (holds [] (ltb (length body) 4) BufferTooSmall [] stood) in
    let is : body ≡ part_of s 6 total = taken ∙ ap (shown s) (let_pass (Frame.checks (length s) (Header.values f.header)) (viewed 6 total) w.stood) in
    let long : length body ≡ total - 6 = ap length (is ∙ part_is s 6 total w.low w.high) ∙ length-take-le (total - 6) (drop 6 s) (omega (arith, length-drop 6 s, w.high)) in
    handed ∙ ap (shown body) (let_pass (Connection.checks (length body)) (viewed 4 (length body)) stood)
    ∙ ap (λ (l : List ℕ). part_of l 4 (length l)) is
    ∙ part_part s 6 4 total (omega (arith, w.low, four, long)) w.high

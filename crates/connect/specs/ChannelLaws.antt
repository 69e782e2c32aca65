-- Connection state and disconnect: requests come back from their frames, responses have their layout, and no second answer. Assumes nothing.
use Rattle.std.specs.Prelude.{ℕ, ◌≤◌, ◌≡◌, refl, List, [], ◌∷◌, length, get_or, take, drop, Result, Ok, Err}
use Rattle.std.proofs.Common.{arith, sym, ap, ◌∙◌, append-nil, le-ltb, eq-eqb}
use Rattle.wire.specs.Told.{Told, done, refused}
use Rattle.wire.specs.ToldLaws.{one_to_one, answer_of, back_refused, same}
use Rattle.wire.specs.Layout.{put, get}
use Rattle.wire.specs.Format.{read_where}
use Rattle.wire.specs.FormatLaws as FormatLaws
use Rattle.wire.specs.LayoutLaws.{Bytes}
use Rattle.wire.specs.WritingLaws.{writes_one}
use Rattle.constants.specs.declared.services.ServiceType.{ServiceType}
use Rattle.frame.specs.Write.{frame}
use Rattle.frame.specs.Frame as Frame
use Rattle.frame.specs.RoundTrip.{Carries, carries}
use Rattle.hpai.specs.Hpai as Hpai
use Rattle.hpai.specs.HpaiLaws as HpaiLaws
use Rattle.hpai.specs.declared.Hpai.{Hpai}
use Rattle.connect.specs.Endpoint.{StandsPromise, ReadPromise}
use Rattle.connect.specs.EndpointLaws as EndpointLaws
use Rattle.connect.specs.Channel.{request_layout, request_checks, RequestPromise, DisconnectBuildPromise, status_fields, status_format, status_where, status, told_state, StateParsePromise, told_disconnect, DisconnectParsePromise, request_fields, request_format, told_request, DisconnectRequestParsePromise, status_layout, response_checks, DisconnectResponseBuildPromise}
use Rattle.connect.specs.declared.channel.DisconnectRequest.{DisconnectRequest}
use Rattle.connect.specs.declared.channel.DisconnectResponse.{DisconnectResponse}
use Rattle.wire.specs.declared.refusals.Fault.{Fault}
use Rattle.frame.specs.declared.frame.FrameFields.{FrameFields}
use Rattle.connect.specs.declared.channel.ConnectionStateResponse.{ConnectionStateResponse}
use Rattle.wire.specs.declared.refusals.Refusal.{Refusal}

-- ---- requests, for any service

pub request_one : (s : ServiceType) (channel : ℕ) (h : Hpai) (b : List ℕ) (r q : Result ℕ Refusal) (after later : List ℕ)
    → RequestPromise s channel h b r after → RequestPromise s channel h b q later → (r ≡ q) × (after ≡ later)
request_one s channel h b = writes_one (request_checks (length b)) (frame s (request_layout channel h)) b

-- the endpoint stands at 2 of the body, which is 8 of the frame
endpoint_back : (channel : ℕ) (h : Hpai) (r : Result Hpai Fault) → HpaiLaws.Proper h → Hpai.ParsePromise (drop 2 (request_layout channel h)) r → r ≡ Ok h
endpoint_back channel h r p x = HpaiLaws.told_one r (Ok h) (x ∙ ap Hpai.parse_where (sym (append-nil (Hpai.layout h))) ∙ HpaiLaws.reads_back h [] p)

-- what is read of a request's body
pub record Reads (channel : ℕ) (h : Hpai) (part : List ℕ) : Type 0 where
  pub channel_first : get_or part 0 0 ≡ channel
  pub control-endpoint : (r : Result Hpai Fault) → Hpai.ParsePromise (drop 2 part) r → r ≡ Ok h

-- built, parsed as a frame, the parts of its body parsed
pub round_trip : (s : ServiceType) (channel : ℕ) (h : Hpai) (b : List ℕ) (n : ℕ) (after : List ℕ) (p : Result FrameFields Fault) → HpaiLaws.Proper h
    → RequestPromise s channel h b (Ok n) after → Frame.ParsePromise after p → Carries s 16 n after p (Reads channel h)
round_trip s channel h b n after p proper built parsed =
    carries (request_checks (length b)) s (request_layout channel h) b 16 n after p (Reads channel h) (omega (arith, HpaiLaws.length-layout h proper.address_4)) built parsed
    (record { channel_first = refl; control-endpoint = λ r. endpoint_back channel h r proper })

-- ---- responses

abbrev state_of : List ℕ → Result ConnectionStateResponse Fault
state_of vs = Ok (record { channel_id = get_or vs 0 0; status = get_or vs 1 0 })

state_back : (r : Result ConnectionStateResponse Fault) → answer_of state_of Err (told_state r) ≡ r
state_back (Ok c) = refl
state_back (Err e) = back_refused state_of Err 2 e

pub state_told_one : (r q : Result ConnectionStateResponse Fault) → told_state r ≡ told_state q → r ≡ q
state_told_one = one_to_one told_state (answer_of state_of Err) state_back

pub state_parse_one : (s : List ℕ) (r q : Result ConnectionStateResponse Fault) → StateParsePromise s r → StateParsePromise s q → r ≡ q
state_parse_one s r q a b = state_told_one r q (same a b)

abbrev disconnect_of : List ℕ → Result DisconnectResponse Fault
disconnect_of vs = Ok (record { channel_id = get_or vs 0 0; status = get_or vs 1 0 })

disconnect_back : (r : Result DisconnectResponse Fault) → answer_of disconnect_of Err (told_disconnect r) ≡ r
disconnect_back (Ok c) = refl
disconnect_back (Err e) = back_refused disconnect_of Err 2 e

pub disconnect_told_one : (r q : Result DisconnectResponse Fault) → told_disconnect r ≡ told_disconnect q → r ≡ q
disconnect_told_one = one_to_one told_disconnect (answer_of disconnect_of Err) disconnect_back

pub disconnect_parse_one : (s : List ℕ) (r q : Result DisconnectResponse Fault) → DisconnectParsePromise s r → DisconnectParsePromise s q → r ≡ q
disconnect_parse_one s r q a b = disconnect_told_one r q (same a b)

-- what is accepted starts with the two values that are told
pub has_layout : (s : List ℕ) (channel code : ℕ) → Bytes s → status channel code ≡ status_where s → take 2 s ≡ put status_fields (channel ∷ code ∷ [])
has_layout s channel code b q =
    let x = FormatLaws.accepted status_format s (status channel code) refl q in x.bytes b ∙ ap (λ (t : Told). put status_fields t.values) (sym x.told_is)

-- ---- a disconnect request that came in

-- on from its endpoint, whose refusal is the request's
module _ (s : List ℕ) (enough : 10 ≤ length s) where
  pub fell : (e : Fault) → StandsPromise s (Err e) → refused 8 e ≡ read_where request_format s
  fell e q = simp (le-ltb (length s) 10 enough) (EndpointLaws.fell s (done (get_or s 0 0 ∷ get Hpai.fields 2 s)) e q)

  pub stood : (c : Hpai) → StandsPromise s (Ok tt) → ReadPromise s c → done (get_or s 0 0 ∷ Hpai.values c) ≡ read_where request_format s
  stood c q p =
      ap (λ (us : List ℕ). done (get_or s 0 0 ∷ us)) (EndpointLaws.held s c p)
      ∙ simp (le-ltb (length s) 10 enough) (EndpointLaws.stood s (done (get_or s 0 0 ∷ get Hpai.fields 2 s)) refl q)

request_of : List ℕ → Result DisconnectRequest Fault
request_of vs = Ok (record { channel_id = get_or vs 0 0; control_endpoint = HpaiLaws.hpai_of (drop 1 vs) })

request_back : (r : Result DisconnectRequest Fault) → answer_of request_of Err (told_request r) ≡ r
unfolding request_of
request_back (Ok q) = ap (λ (h : Hpai). Ok (record { channel_id = q.channel_id; control_endpoint = h })) (HpaiLaws.hpai_of_values q.control_endpoint)
request_back (Err e) = back_refused request_of Err 8 e

request_told_one : (r q : Result DisconnectRequest Fault) → told_request r ≡ told_request q → r ≡ q
request_told_one = one_to_one told_request (answer_of request_of Err) request_back

pub request_parse_one : (s : List ℕ) (r q : Result DisconnectRequest Fault) → DisconnectRequestParsePromise s r → DisconnectRequestParsePromise s q → r ≡ q
request_parse_one s r q a b = request_told_one r q (same a b)

-- what is read of its body: the same request
abbrev pub ReadsRequest : DisconnectRequest → List ℕ → Type 0
ReadsRequest q part = (r : Result DisconnectRequest Fault) → DisconnectRequestParsePromise part r → r ≡ Ok q

request-reads : (q : DisconnectRequest) → HpaiLaws.Proper q.control_endpoint → ReadsRequest q (request_layout q.channel_id q.control_endpoint)
request-reads q p r x =
    let h : Hpai = q.control_endpoint in
    let vs : List ℕ = q.channel_id ∷ 0 ∷ Hpai.values h in
    let nine : length vs ≡ 9 = omega (arith, HpaiLaws.length-values h p.address_4) in
    request_told_one r (Ok q)
    (x ∙ ap (read_where request_format) (sym (append-nil (request_layout q.channel_id h)))
    ∙ FormatLaws.reads_back request_format vs [] nine (simp (eq-eqb h.structure_length 8 p.length_8)))

-- built, parsed as a frame, its body parsed
pub request_round_trip : (q : DisconnectRequest) (b : List ℕ) (n : ℕ) (after : List ℕ) (p : Result FrameFields Fault) → HpaiLaws.Proper q.control_endpoint
    → DisconnectBuildPromise q b (Ok n) after → Frame.ParsePromise after p → Carries ServiceType.DisconnectRequest 16 n after p (ReadsRequest q)
request_round_trip q b n after p proper built parsed =
    carries (request_checks (length b)) ServiceType.DisconnectRequest (request_layout q.channel_id q.control_endpoint) b 16 n after p (ReadsRequest q)
    (omega (arith, HpaiLaws.length-layout q.control_endpoint proper.address_4)) built parsed (request-reads q proper)

-- what is accepted has the layout of its answer, but for the reserved byte
pub request_has_layout : (s : List ℕ) (q : DisconnectRequest) → Bytes s → DisconnectRequestParsePromise s (Ok q)
    → take 10 s ≡ put request_fields (q.channel_id ∷ get_or s 1 0 ∷ Hpai.values q.control_endpoint)
request_has_layout s q b p =
    let x = FormatLaws.accepted request_format s (told_request (Ok q)) refl p in
    x.bytes b ∙ ap (λ (t : Told). put request_fields (get_or t.values 0 0 ∷ get_or s 1 0 ∷ drop 1 t.values)) (sym x.told_is)

-- ---- the response that it is owed

pub response_one : (q : DisconnectResponse) (b : List ℕ) (r w : Result ℕ Refusal) (after later : List ℕ)
    → DisconnectResponseBuildPromise q b r after → DisconnectResponseBuildPromise q b w later → (r ≡ w) × (after ≡ later)
response_one q b = writes_one (response_checks (length b)) (frame ServiceType.DisconnectResponse (status_layout q.channel_id q.status)) b

abbrev pub ReadsResponse : DisconnectResponse → List ℕ → Type 0
ReadsResponse q part = (r : Result DisconnectResponse Fault) → DisconnectParsePromise part r → r ≡ Ok q

pub response_round_trip : (q : DisconnectResponse) (b : List ℕ) (n : ℕ) (after : List ℕ) (p : Result FrameFields Fault)
    → DisconnectResponseBuildPromise q b (Ok n) after → Frame.ParsePromise after p → Carries ServiceType.DisconnectResponse 8 n after p (ReadsResponse q)
response_round_trip q b n after p built parsed =
    carries (response_checks (length b)) ServiceType.DisconnectResponse (status_layout q.channel_id q.status) b 8 n after p (ReadsResponse q) refl built parsed
    (λ r x. disconnect_told_one r (Ok q) x)

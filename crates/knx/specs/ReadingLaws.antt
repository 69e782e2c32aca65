-- The border's readers: how their numbers follow from the answers below, and no second answer. Assumes nothing.
use Rattle.std.specs.Prelude.{ℕ, ◌≡◌, refl, List, [], ◌∷◌, length, get_or, Ok, Result}
use Rattle.std.proofs.Common.{sym, ap, ◌∙◌}
use Rattle.wire.specs.Told.{Told, done, Check, verdict, judged, viewed}
use Rattle.wire.specs.ToldLaws.{one_to_one, same, was_accepted, let_through}
use Rattle.wire.specs.Places.{located}
use Rattle.wire.specs.PlaceLaws.{located_pass}
use Rattle.wire.specs.Layout.{get}
use Rattle.wire.specs.Parts as Parts
use Rattle.wire.specs.PartLaws as PartLaws
use Rattle.wire.specs.declared.parts.View.{View}
use Rattle.address.specs.declared.IndividualAddress.{IndividualAddress}
use Rattle.header.specs.Header.{fields, values, service_in, total_in}
use Rattle.frame.specs.Frame as Frame
use Rattle.frame.specs.Judging as Judging
use Rattle.frame.specs.declared.judging.Judged.{Judged}
use Rattle.frame.specs.declared.frame.FrameFields.{FrameFields}
use Rattle.hpai.specs.HpaiLaws as HpaiLaws
use Rattle.hpai.specs.declared.Hpai.{Hpai}
use Rattle.connect.specs.Response.{Arrays}
use Rattle.connect.specs.ResponseLaws as ConnectResponseLaws
use Rattle.connect.specs.declared.response.ConnectResponse.{ConnectResponse}
use Rattle.knx.specs.Reading.{told_frame, frame_in, frame_where, FramePromise, hpai_in, told_hpai, HpaiPromise, response_in, told_response, ConnectResponsePromise, ConnectResponseStandardPromise, OwnAddressPromise}
use Rattle.knx.specs.declared.reading.KnxFrame.{KnxFrame}
use Rattle.knx.specs.declared.reading.KnxHpai.{KnxHpai}
use Rattle.knx.specs.declared.reading.KnxConnectResponse.{KnxConnectResponse}
use Rattle.wire.specs.declared.refusals.Fault.{Fault}

-- what was judged, with the body's bounds
pub judged-frame : (s : List ℕ) (j : Judged) → Judging.JudgePromise s (Ok j) → record { number = 0; values = j.service ∷ j.total ∷ []; start = 6; end = j.total; offset = 0 } ≡ frame_where s
judged-frame s j p =
    let vs : List ℕ = get fields 0 s in
    let cs : List Check = Frame.checks (length s) vs in
    let passed : verdict cs ≡ verdict [] = was_accepted cs (done (service_in vs ∷ total_in vs ∷ [])) (Judging.told (Ok j)) refl p in
    let same-values = let_through cs (done (service_in vs ∷ total_in vs ∷ [])) (Judging.told (Ok j)) refl p in
    ap (λ (t : Told). record { number = 0; values = t.values; start = 6; end = get_or t.values 1 0; offset = 0 }) same-values
    ∙ sym (located_pass cs (Frame.offsets (length s)) (frame_in vs) refl refl passed)

-- the view of a frame is the one that `FrameFields::body` answers
pub body_as : (s : List ℕ) (r : KnxFrame) (f : FrameFields) (v : Result View Fault) → FramePromise s r → Frame.ParsePromise s (Ok f) → Frame.BodyPromise f s v
    → v ≡ Ok (record { start = r.start; end = r.end })
body_as s r f v p q w =
    let vs : List ℕ = get fields 0 s in
    let cs : List Check = Frame.checks (length s) vs in
    let same-values : values f.header ≡ vs = ap (λ (t : Told). t.values) (let_through cs (done vs) (Frame.told (Ok f)) refl q) in
    let passed : verdict cs ≡ verdict [] = was_accepted cs (done vs) (Frame.told (Ok f)) refl q in
    let of-r : told_frame r ≡ frame_in vs = p ∙ located_pass cs (Frame.offsets (length s)) (frame_in vs) refl refl passed in
    let body : List ℕ → Told = λ us. located (Frame.checks (length s) us) (Frame.offsets (length s)) (judged (Frame.checks (length s) us) (viewed 6 (total_in us))) in
    let of-v : Parts.told v ≡ viewed 6 (total_in vs) = w ∙ ap body same-values ∙ located_pass cs (Frame.offsets (length s)) (viewed 6 (total_in vs)) refl refl passed in
    PartLaws.told_one v (Ok (record { start = r.start; end = r.end })) (of-v ∙ ap (λ (t : Told). viewed t.start t.end) (sym of-r))

-- ---- no second answer

pub frame_one : (s : List ℕ) (r q : KnxFrame) → FramePromise s r → FramePromise s q → r ≡ q
frame_one s r q a b =
    one_to_one told_frame (λ t. record { start = t.start; end = t.end; offset = t.offset; service = get_or t.values 0 0; total = get_or t.values 1 0; number = t.number }) (λ x. refl) r q (same a b)

abbrev hpai_from : Told → KnxHpai
hpai_from t =
    let h = HpaiLaws.hpai_of t.values in
    record { offset = t.offset; structure_length = h.structure_length; host_protocol = h.host_protocol; address = h.ip_address; port = h.port; number = t.number }

hpai_back : (r : KnxHpai) → hpai_from (told_hpai r) ≡ r
hpai_back r =
    ap (λ (h : Hpai). record { offset = r.offset; structure_length = h.structure_length; host_protocol = h.host_protocol; address = h.ip_address; port = h.port; number = r.number })
    (HpaiLaws.hpai_of_values (hpai_in r))

pub hpai_one : (s : List ℕ) (r q : KnxHpai) → HpaiPromise s r → HpaiPromise s q → r ≡ q
hpai_one s r q a b = one_to_one told_hpai hpai_from hpai_back r q (same a b)

abbrev response_from : Told → KnxConnectResponse
response_from t =
    let c = ConnectResponseLaws.response_of t.values in
    let e = c.data_endpoint in
    record { offset = t.offset; channel = c.channel_id; status = c.status; structure_length = e.structure_length; host_protocol = e.host_protocol; address = e.ip_address; port = e.port; crd = c.crd; number = t.number }

response_back : (r : KnxConnectResponse) → Arrays (response_in r) → response_from (told_response r) ≡ r
response_back r a =
    ap (λ (c : ConnectResponse).
    record { offset = r.offset; channel = c.channel_id; status = c.status; structure_length = c.data_endpoint.structure_length; host_protocol = c.data_endpoint.host_protocol; address = c.data_endpoint.ip_address; port = c.data_endpoint.port; crd = c.crd; number = r.number })
    (ConnectResponseLaws.response_of_values (response_in r) a)

response_one : (r q : KnxConnectResponse) → Arrays (response_in r) → Arrays (response_in q) → told_response r ≡ told_response q → r ≡ q
response_one r q a b e = sym (response_back r a) ∙ ap response_from e ∙ response_back q b

pub connect_response_one : (s : List ℕ) (r q : KnxConnectResponse) → ConnectResponsePromise s r → ConnectResponsePromise s q → r ≡ q
connect_response_one s r q a b = response_one r q a.1 b.1 (same a.0 b.0)

pub connect_response_standard_one : (s : List ℕ) (r q : KnxConnectResponse) → ConnectResponseStandardPromise s r → ConnectResponseStandardPromise s q → r ≡ q
connect_response_standard_one s r q a b = response_one r q a.1 b.1 (same a.0 b.0)

pub own_address_one : (c : KnxConnectResponse) (r q : ℕ) → OwnAddressPromise c r → OwnAddressPromise c q → r ≡ q
own_address_one c r q a b = ap (λ (x : IndividualAddress). x.0) (same a b)

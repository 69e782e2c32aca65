-- A connect response: how it goes on from its endpoint, both ways, and no second answer; then in KNX's form. Assumes nothing.
use Rattle.std.specs.Prelude.{ℕ, ◌<◌, ◌≤◌, ◌≡◌, refl, Bool, true, false, cond, ◌↔◌, List, [], ◌∷◌, ◌++◌, length, get_or, take, drop, ltb, eqb, Result, Ok, Err, IfOk}
use Rattle.std.proofs.Common.{arith, sym, ap, ◌∙◌, append_assoc, length-append, take_at, drop_at, lt-ltb, le-ltb, ltb-true, eq-eqb, ne_eqb, eqb-true}
use Rattle.std.proofs.lemmas.List.{get_or_at}
use Rattle.std.proofs.lemmas.Bool.{eqb-false}
use Rattle.wire.specs.Told.{Told, done, refused, verdict, answer}
use Rattle.wire.specs.ToldLaws.{answer_of, back_refused, same}
use Rattle.wire.specs.Layout.{byte, run_at, put, get}
use Rattle.wire.specs.FormatLaws as FormatLaws
use Rattle.wire.specs.LayoutLaws.{Bytes}
use Rattle.wire.specs.declared.refusals.Fault.{Fault}
use Rattle.wire.specs.declared.refusals.Refusal.TheVariants.{BufferTooSmall}
use Rattle.wire.specs.Told.{Verdict}
use Rattle.wire.specs.Places.{Standing}
use Rattle.wire.specs.PlaceLaws.{located_pass, located_fall, stands-accepted}
use Rattle.hpai.specs.Hpai as Hpai
use Rattle.hpai.specs.declared.Hpai.{Hpai}
use Rattle.connect.specs.Endpoint as Endpoint
use Rattle.connect.specs.EndpointLaws as EndpointLaws
use Rattle.connect.specs.Response.{fields, format, values, layout, checks, offsets, told, parse_where, Arrays, StandsPromise, ReadPromise, ParsePromise, bare, parse_standard_where, ParseStandardPromise}
use Rattle.connect.specs.declared.response.ConnectResponse.{ConnectResponse}

-- ---- the checks, the endpoint's behind the length, decide

abbrev too_few : List ℕ → Fault
too_few s = record { why = BufferTooSmall; at = length s }

pub too_few_falls : (s : List ℕ) → length s < 14 → StandsPromise s (Err (too_few s))
too_few_falls s short = sym (simp (lt-ltb (length s) 14 short) refl)

pub endpoint_decides : (s : List ℕ) (r : Standing) → 14 ≤ length s → Endpoint.StandsPromise s r → StandsPromise s r
endpoint_decides s r enough q = q ∙ sym (simp (le-ltb (length s) 14 enough) refl)

pub fell : (s : List ℕ) (e : Fault) → StandsPromise s (Err e) → refused 13 e ≡ parse_where s
fell s e q = sym (located_fall (checks (length s) (get fields 0 s)) (offsets (length s)) (done (get fields 0 s)) e (sym q))

pub stood : (s : List ℕ) (c : ConnectResponse) → StandsPromise s (Ok tt) → ReadPromise s c → done (values c) ≡ parse_where s
stood s c q p =
    let cs = checks (length s) (get fields 0 s) in
    let os = offsets (length s) in
    ap done p.0 ∙ sym (located_pass cs os (done (get fields 0 s)) refl refl (stands-accepted cs os (sym q)))

-- on from an endpoint that stands, which has the bytes from 2 to 10
pub endpoint_stood : (s : List ℕ) (c : Hpai) → 14 ≤ length s → Endpoint.StandsPromise s (Ok tt) → Endpoint.ReadPromise s c → done (get_or s 0 0 ∷ get_or s 1 0 ∷ (Hpai.values c ++ run_at 4 s 10)) ≡ parse_where s
endpoint_stood s c enough q p =
    ap (λ (us : List ℕ). done (get_or s 0 0 ∷ get_or s 1 0 ∷ (us ++ run_at 4 s 10))) (EndpointLaws.held s c p)
    ∙ simp (le-ltb (length s) 14 enough) (EndpointLaws.stood s (done (get fields 0 s)) refl q)

-- ---- no second answer

-- the response with these thirteen values
unfoldable pub response_of : List ℕ → ConnectResponse
response_of vs = record {
  channel_id = get_or vs 0 0;
  status = get_or vs 1 0;
  data_endpoint = record {
    structure_length = get_or vs 2 0;
    host_protocol = get_or vs 3 0;
    ip_address = take 4 (drop 4 vs);
    port = get_or (drop 4 vs) 4 0;
  };
  crd = drop 5 (drop 4 vs);
}

pub response_of_values : (c : ConnectResponse) → Arrays c → response_of (values c) ≡ c
unfolding response_of
response_of_values c a =
    let ip : List ℕ = c.data_endpoint.ip_address in
    let port : ℕ = c.data_endpoint.port in
    let rest : (ip ++ port ∷ []) ++ c.crd ≡ ip ++ (port ∷ c.crd) = append_assoc ip (port ∷ []) c.crd in
    let address : take 4 ((ip ++ port ∷ []) ++ c.crd) ≡ ip = ap (take 4) rest ∙ take_at ip (port ∷ c.crd) 4 a.address_4 in
    let number : get_or ((ip ++ port ∷ []) ++ c.crd) 4 0 ≡ port = ap (λ (l : List ℕ). get_or l 4 0) rest ∙ get_or_at ip port c.crd 0 4 a.address_4 in
    let five : length (ip ++ port ∷ []) ≡ 5 = length-append ip (port ∷ []) ∙ omega (arith, a.address_4) in
    rw (address, number, drop_at (ip ++ port ∷ []) c.crd 5 five)

answered : List ℕ → Result ConnectResponse Fault
answered vs = Ok (response_of vs)

told_back : (r : Result ConnectResponse Fault) → IfOk r Arrays → answer_of answered Err (told r) ≡ r
unfolding answered
told_back (Ok c) a = ap Ok (response_of_values c a)
told_back (Err e) a = back_refused answered Err 13 e

told_one : (r q : Result ConnectResponse Fault) → IfOk r Arrays → IfOk q Arrays → told r ≡ told q → r ≡ q
told_one r q a b e = sym (told_back r a) ∙ ap (answer_of answered Err) e ∙ told_back q b

pub parse_one : (s : List ℕ) (r q : Result ConnectResponse Fault) → ParsePromise s r → ParsePromise s q → r ≡ q
parse_one s r q a b = told_one r q a.1 b.1 (same a.0 b.0)

pub parse_standard_one : (s : List ℕ) (r q : Result ConnectResponse Fault) → ParseStandardPromise s r → ParseStandardPromise s q → r ≡ q
parse_standard_one s r q a b = told_one r q a.1 b.1 (same a.0 b.0)

-- ---- both ways

length-values : (c : ConnectResponse) → Arrays c → length (values c) ≡ 13
length-values c a =
    let ip : List ℕ = c.data_endpoint.ip_address in
    omega (arith, length-append (ip ++ c.data_endpoint.port ∷ []) c.crd, length-append ip (c.data_endpoint.port ∷ []), a.address_4, a.crd_4)

-- a response whose endpoint has the proper length byte is read back
pub reads_back : (c : ConnectResponse) (rest : List ℕ) → Arrays c → c.data_endpoint.structure_length ≡ 8 → parse_where (layout c ++ rest) ≡ told (Ok c)
reads_back c rest a e = FormatLaws.reads_back format (values c) rest (length-values c a) (simp (eq-eqb _ _ e))

-- what is accepted has the layout of its answer
pub has_layout : (s : List ℕ) (c : ConnectResponse) → Bytes s → ParsePromise s (Ok c) → take 14 s ≡ layout c
has_layout s c b q = let x = FormatLaws.accepted format s (told (Ok c)) refl q.0 in x.bytes b ∙ ap (λ (t : Told). put fields t.values) (sym x.told_is)

-- ---- in KNX's form

-- thirteen values, whatever the status
thirteen : (s : List ℕ) (b : Bool) → length (cond b (get fields 0 s) (bare (get_or s 0 0) (get_or s 1 0))) ≡ 13
thirteen s true = refl
thirteen s false = refl

-- fewer than two bytes are told at the body's end
abbrev too_short : List ℕ → Fault
too_short s = record { why = BufferTooSmall; at = length s }

pub too_short_lem : (s : List ℕ) → length s < 2 → refused 13 (too_short s) ≡ parse_standard_where s
too_short_lem s short =
    sym (simp (lt-ltb (length s) 2 short) (ap (λ (k : ℕ). refused k (too_short s)) (thirteen s (eqb (get_or s 1 0) 0))))

-- with status 0 it is 01's
pub as_01 : (s : List ℕ) → get_or s 1 0 ≡ 0 → parse_standard_where s ≡ parse_where s
as_01 s zero = go (ltb (length s) 2) refl
  where
    go : (b : Bool) → ltb (length s) 2 ≡ b → parse_standard_where s ≡ parse_where s
    go true e = let few = ltb-true (length s) 2 e in sym (too_short_lem s few) ∙ sym (simp (lt-ltb (length s) 14 (omega arith)))
    go false e = simp (e, eq-eqb (get_or s 1 0) 0 zero)

-- a body with a byte other than 0 at 1 has two
two : (s : List ℕ) → (get_or s 1 0 ≡ 0 → ⊥) → 2 ≤ length s
two [] some = absurd (some refl)
two (x ∷ []) some = absurd (some refl)
two (x ∷ y ∷ s) some = omega arith

-- with another it has channel and status alone
pub refusing : (s : List ℕ) → (get_or s 1 0 ≡ 0 → ⊥) → parse_standard_where s ≡ done (bare (get_or s 0 0) (get_or s 1 0))
refusing s some = simp (le-ltb (length s) 2 (two s some), ne_eqb (get_or s 1 0) 0 some)

-- a response that refuses, and one that does not, are read back
pub bare_back : (channel status : ℕ) (rest : List ℕ) → (status ≡ 0 → ⊥) → parse_standard_where (put (byte ∷ byte ∷ []) (channel ∷ status ∷ []) ++ rest) ≡ done (bare channel status)
bare_back channel status rest some = refusing (channel ∷ status ∷ rest) some

pub knx_back : (c : ConnectResponse) (rest : List ℕ) → Arrays c → c.data_endpoint.structure_length ≡ 8 → c.status ≡ 0 → parse_standard_where (layout c ++ rest) ≡ told (Ok c)
knx_back c rest a e zero = as_01 (layout c ++ rest) zero ∙ reads_back c rest a e

-- the status that is told is the body's
status_01 : (s : List ℕ) (v : Verdict) → get_or s 1 0 ≡ 0 → get_or (answer v (done (get fields 0 s))).values 1 0 ≡ 0
status_01 s (Ok _) zero = zero
status_01 s (Err e) zero = refl

status_is : (s : List ℕ) (c : ConnectResponse) → ParseStandardPromise s (Ok c) → (c.status ≡ 0) ↔ (get_or s 1 0 ≡ 0)
status_is s c q = (λ z. go (eqb (get_or s 1 0) 0) refl z, λ zero. ap (λ (t : Told). get_or t.values 1 0) (q.0 ∙ as_01 s zero) ∙ status_01 s (verdict (checks (length s) (get fields 0 s))) zero)
  where
    go : (b : Bool) → eqb (get_or s 1 0) 0 ≡ b → c.status ≡ 0 → get_or s 1 0 ≡ 0
    go true e z = eqb-true (get_or s 1 0) 0 e
    go false e z = sym (ap (λ (t : Told). get_or t.values 1 0) (q.0 ∙ refusing s (eqb-false (get_or s 1 0) 0 e))) ∙ z

-- and what is accepted has the layout of its answer: of one that refuses, two bytes
first_two : (s : List ℕ) → (get_or s 1 0 ≡ 0 → ⊥) → take 2 s ≡ get_or s 0 0 ∷ get_or s 1 0 ∷ []
first_two [] some = absurd (some refl)
first_two (x ∷ []) some = absurd (some refl)
first_two (x ∷ y ∷ s) some = refl

pub bare_has_layout : (s : List ℕ) (c : ConnectResponse) → ParseStandardPromise s (Ok c) → (c.status ≡ 0 → ⊥)
    → take 2 s ≡ put (byte ∷ byte ∷ []) (c.channel_id ∷ c.status ∷ [])
bare_has_layout s c q some =
    let other : get_or s 1 0 ≡ 0 → ⊥ = λ z. some ((status_is s c q).1 z) in
    first_two s other ∙ sym (ap (λ (t : Told). get_or t.values 0 0 ∷ get_or t.values 1 0 ∷ []) (q.0 ∙ refusing s other))

pub knx_has_layout : (s : List ℕ) (c : ConnectResponse) → Bytes s → ParseStandardPromise s (Ok c) → c.status ≡ 0 → take 14 s ≡ layout c
knx_has_layout s c b q zero = has_layout s c b (q.0 ∙ as_01 s ((status_is s c q).0 zero), q.1)

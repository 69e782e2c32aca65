-- A connect request comes back from its frame: its two endpoints and its request information. Assumes nothing.
use Rattle.std.specs.Prelude.{ℕ, ◌≡◌, List, [], ◌++◌, length, drop, Result, Ok}
use Rattle.std.proofs.Common.{arith, ap, ◌∙◌, append_assoc, length-append, drop_at}
use Rattle.wire.specs.WritingLaws.{writes_one}
use Rattle.constants.specs.declared.services.ServiceType.TheVariants as ServiceType
use Rattle.frame.specs.Write.{frame}
use Rattle.frame.specs.Frame as Frame
use Rattle.frame.specs.RoundTrip.{Carries, carries}
use Rattle.hpai.specs.Hpai as Hpai
use Rattle.hpai.specs.HpaiLaws as HpaiLaws
use Rattle.hpai.specs.declared.Hpai.{Hpai}
use Rattle.connect.specs.Cri as Cri
use Rattle.connect.specs.CriLaws as CriLaws
use Rattle.connect.specs.Request.{layout, build_checks, BuildPromise}
use Rattle.connect.specs.declared.request.ConnectRequest.{ConnectRequest}
use Rattle.frame.specs.declared.frame.FrameFields.{FrameFields}
use Rattle.wire.specs.declared.refusals.Fault.{Fault}
use Rattle.wire.specs.declared.refusals.Refusal.{Refusal}
use Rattle.connect.specs.declared.cri.ConnectionRequestInfo.{ConnectionRequestInfo}

pub build_one : (q : ConnectRequest) (b : List ℕ) (r s : Result ℕ Refusal) (after later : List ℕ)
    → BuildPromise q b r after → BuildPromise q b s later → (r ≡ s) × (after ≡ later)
build_one q b = writes_one (build_checks (length b)) (frame ServiceType.ConnectRequest (layout q)) b

-- both endpoints have the proper length byte
pub record Proper (q : ConnectRequest) : Type 0 where
  pub control : HpaiLaws.Proper q.control_endpoint
  pub other : HpaiLaws.Proper q.data_endpoint

-- the parts of the body: at 0, 8 and 16, which are 6, 14 and 22 of the frame
control_back : (q : ConnectRequest) (r : Result Hpai Fault) → Proper q → Hpai.ParsePromise (layout q) r → r ≡ Ok q.control_endpoint
control_back q r p x =
    let c : List ℕ = Hpai.layout q.control_endpoint in
    let d : List ℕ = Hpai.layout q.data_endpoint in
    let i : List ℕ = Cri.layout q.cri in
    HpaiLaws.told_one r (Ok q.control_endpoint) (x ∙ ap Hpai.parse_where (append_assoc c d i) ∙ HpaiLaws.reads_back q.control_endpoint (d ++ i) p.control)

data_back : (q : ConnectRequest) (r : Result Hpai Fault) → Proper q → Hpai.ParsePromise (drop 8 (layout q)) r → r ≡ Ok q.data_endpoint
data_back q r p x =
    let c : List ℕ = Hpai.layout q.control_endpoint in
    let d : List ℕ = Hpai.layout q.data_endpoint in
    let i : List ℕ = Cri.layout q.cri in
    let behind : drop 8 (layout q) ≡ d ++ i = ap (drop 8) (append_assoc c d i) ∙ drop_at c (d ++ i) 8 (HpaiLaws.length-layout q.control_endpoint p.control.address_4) in
    HpaiLaws.told_one r (Ok q.data_endpoint) (x ∙ ap Hpai.parse_where behind ∙ HpaiLaws.reads_back q.data_endpoint i p.other)

cri_back : (q : ConnectRequest) (r : Result ConnectionRequestInfo Fault) → Proper q → Cri.DecodePromise (drop 16 (layout q)) r → r ≡ Ok q.cri
cri_back q r p x =
    let c : List ℕ = Hpai.layout q.control_endpoint in
    let d : List ℕ = Hpai.layout q.data_endpoint in
    let i : List ℕ = Cri.layout q.cri in
    let sixteen : length (c ++ d) ≡ 16 =
    length-append c d ∙ omega (arith, HpaiLaws.length-layout q.control_endpoint p.control.address_4, HpaiLaws.length-layout q.data_endpoint p.other.address_4) in
    CriLaws.told_one r (Ok q.cri) (x ∙ ap Cri.decode_where (drop_at (c ++ d) i 16 sixteen) ∙ CriLaws.reads_back q.cri [])

length-layout : (q : ConnectRequest) → Proper q → length (layout q) ≡ 20
length-layout q p =
    let c : List ℕ = Hpai.layout q.control_endpoint in
    let d : List ℕ = Hpai.layout q.data_endpoint in
    length-append (c ++ d) (Cri.layout q.cri)
    ∙ omega (arith, length-append c d, HpaiLaws.length-layout q.control_endpoint p.control.address_4, HpaiLaws.length-layout q.data_endpoint p.other.address_4)

-- what is read of its body
pub record Reads (q : ConnectRequest) (part : List ℕ) : Type 0 where
  pub control-endpoint : (r : Result Hpai Fault) → Hpai.ParsePromise part r → r ≡ Ok q.control_endpoint
  pub data_endpoint : (r : Result Hpai Fault) → Hpai.ParsePromise (drop 8 part) r → r ≡ Ok q.data_endpoint
  pub request_information : (r : Result ConnectionRequestInfo Fault) → Cri.DecodePromise (drop 16 part) r → r ≡ Ok q.cri

-- built, parsed as a frame, the parts of its body parsed
pub round_trip : (q : ConnectRequest) (b : List ℕ) (n : ℕ) (after : List ℕ) (p : Result FrameFields Fault) → Proper q
    → BuildPromise q b (Ok n) after → Frame.ParsePromise after p → Carries ServiceType.ConnectRequest 26 n after p (Reads q)
round_trip q b n after p proper built parsed =
    carries (build_checks (length b)) ServiceType.ConnectRequest (layout q) b 26 n after p (Reads q) (omega (arith, length-layout q proper)) built parsed (record {
      control-endpoint = λ r. control_back q r proper;
      data_endpoint = λ r. data_back q r proper;
      request_information = λ r. cri_back q r proper;
    })

-- 02, 1/13: the additional information ends where the service information starts; what is built is parsed back, what is taken apart is laid out again; and no second answer. Assumes nothing.
use Rattle.std.specs.Prelude.{ℕ, ◌+◌, ◌-◌, ◌≤◌, ◌≡◌, refl, List, [], ◌∷◌, ◌++◌, length, take, drop, ltb, Result, Ok, Err}
use Rattle.std.proofs.Common.{arith, sym, ap, subst, ◌∙◌, append-nil, take-append-drop, take_at, drop-drop, length-take-le, le-ltb, ltb-false}
use Rattle.wire.specs.Clash.{never}
use Rattle.wire.specs.Told.{Told, done, viewed, Check, verdict, answer, judged}
use Rattle.wire.specs.Places.{located}
use Rattle.wire.specs.PlaceLaws.{located_pass}
use Rattle.wire.specs.ToldLaws.{never_done, let_pass, goes_on, holds, let_through, was_accepted, same}
use Rattle.wire.specs.LayoutLaws.{length_three}
use Rattle.wire.specs.Writing as Writing
use Rattle.wire.specs.WritingLaws as WritingLaws
use Rattle.wire.specs.Parts.{part_of, shown}
use Rattle.wire.specs.Parts as Parts
use Rattle.wire.specs.PartLaws as PartLaws
use Rattle.wire.specs.declared.parts.View.{View}
use Rattle.wire.specs.declared.refusals.Refusal.TheVariants.{InvalidFrame}
use Rattle.wire.specs.Told.{Verdict}
use Rattle.constants.specs.MessageCodes.{code_of}
use Rattle.constants.specs.MessageCodeLaws as MessageCodeLaws
use Rattle.additional_info.specs.Appending.{area_checks}
use Rattle.cemi.specs.Cemi.{code_in, info_length, checks, offsets, told, parse_where, info_check, info_offset, service_info_by01, service_info_where, ServiceInfoPromise, info_by02, info_where, InfoPromise, layout, build_checks, BuildPromise}
use Rattle.cemi.specs.CemiLaws.{long_enough}
use Rattle.cemi.specs.declared.CEMIFrame.{CEMIFrame}
use Rattle.wire.specs.declared.refusals.Refusal.{Refusal}
use Rattle.wire.specs.declared.refusals.Fault.{Fault}

-- ---- the additional information

-- it ends where the service information starts, and is refused as that is
pub before_service : (s : List ℕ) (v : View) → ServiceInfoPromise s (Ok v) → InfoPromise s (Ok (record { start = 2; end = v.start }))
before_service s v p =
    let cs : List Check = checks s ++ info_check s ∷ [] in
    let behind : Told = viewed (2 + info_length s) (length s) in
    let here : Told = viewed 2 (2 + info_length s) in
    ap (λ (e : ℕ). viewed 2 e) (ap (λ (t : Told). t.start) (let_through cs behind (Parts.told (Ok v)) refl p))
    ∙ sym (located_pass cs (offsets s ++ info_offset ∷ []) here refl refl (was_accepted cs behind (Parts.told (Ok v)) refl p))

pub no_service : (s : List ℕ) (e : Fault) → ServiceInfoPromise s (Err e) → InfoPromise s (Err e)
no_service s e p = go (verdict (checks s ++ info_check s ∷ [])) p
  where
    go : (w : Verdict) → Parts.told (Err e) ≡ located (checks s ++ info_check s ∷ []) (offsets s ++ info_offset ∷ []) (answer w (viewed (2 + info_length s) (length s)))
        → Parts.told (Err e) ≡ located (checks s ++ info_check s ∷ []) (offsets s ++ info_offset ∷ []) (answer w (viewed 2 (2 + info_length s)))
    go (Ok _) q = absurd (never_done e.why (ap (λ (t : Told). t.number) q))
    go (Err f) q = q

-- three pieces that were written are the head, the area and the rest
pub piece_by_piece : (f : CEMIFrame) (area rest head b : List ℕ) (r : Result ℕ Refusal) (after : List ℕ)
    → head ≡ code_of f.message_code ∷ length area ∷ [] → verdict (area_checks area 0) ≡ Ok tt → Writing.Write3Promise head area rest b r after → BuildPromise f area rest b r after
piece_by_piece f area rest head b r after e q p =
    let code : ℕ = code_of f.message_code in
    WritingLaws.pieces (area_checks area 0) head area rest (layout code area rest) b (2 + length area + length rest) r after q (ap (λ (l : List ℕ). l ++ area ++ rest) e) (length_three (code ∷ length area ∷ []) area rest) p

-- built, then parsed, whatever the rest of the buffer held: the code, the area and the rest come back
pub record Built (f : CEMIFrame) (area rest w : List ℕ) : Type 0 where
  pub bytes : w ≡ layout (code_of f.message_code) area rest
  pub code_back : parse_where w ≡ told (Ok f)
  pub area_view : info_where w ≡ viewed 2 (2 + length area)
  pub area_back : shown w (info_by02 w) ≡ area
  pub rest_view : service_info_where w ≡ viewed (2 + length area) (length w)
  pub rest_back : shown w (service_info_by01 w) ≡ rest

pub built : (f : CEMIFrame) (area rest b : List ℕ) (n : ℕ) (after : List ℕ) → BuildPromise f area rest b (Ok n) after → Built f area rest (take n after)
built f area rest b n after p =
    let code : ℕ = code_of f.message_code in
    let w : List ℕ = layout code area rest in
    let o = WritingLaws.wrote (build_checks area (length rest) (length b)) w b n after p in
    let e : take n after ≡ w = ap (take n) o.bytes ∙ take_at w (drop (length w) b) n (sym o.count) in
    let long : length w ≡ 2 + length area + length rest = length_three (code ∷ length area ∷ []) area rest in
    let known : verdict (checks w) ≡ Ok tt = simp (le-ltb (length w) 2 (omega arith), MessageCodeLaws.known f.message_code) in
    let all : verdict (checks w ++ info_check w ∷ []) ≡ Ok tt = goes_on (checks w) (info_check w ∷ []) known ∙ long_enough w (length area) refl (omega arith) in
    let passes : (t : Told) → t.offset ≡ 0 → located (checks w ++ info_check w ∷ []) (offsets w ++ info_offset ∷ []) (judged (checks w ++ info_check w ∷ []) t) ≡ t = λ t z. located_pass (checks w ++ info_check w ∷ []) (offsets w ++ info_offset ∷ []) t refl z all in
    let area-is : info_where w ≡ viewed 2 (2 + length area) = passes (viewed 2 (2 + length area)) refl in
    let rest_is : service_info_where w ≡ viewed (2 + length area) (length w) = passes (viewed (2 + length area) (length w)) refl in
    let made : Built f area rest w = record {
      bytes = refl;
      code_back = located_pass (checks w) (offsets w) (done (code ∷ [])) refl refl known;
      area_view = area-is;
      area_back = ap (shown w) area-is ∙ PartLaws.part_between (code ∷ length area ∷ []) area rest 2 (2 + length area) refl refl;
      rest_view = rest_is;
      rest_back = ap (shown w) rest_is ∙ ap (λ (l : List ℕ). part_of (code ∷ length area ∷ area ++ l) (2 + length area) (length w)) (sym (append-nil rest))
          ∙ PartLaws.part_between (code ∷ length area ∷ area) rest [] (2 + length area) (length w) (omega arith) (omega arith);
    } in
    subst (Built f area rest) (sym e) made

-- a frame whose service information was found, taken apart, is laid out from its parts
pub taken_apart : (s : List ℕ) → verdict (checks s ++ info_check s ∷ []) ≡ Ok tt → layout (code_in s) (shown s (info_by02 s)) (shown s (service_info_by01 s)) ≡ s
taken_apart [] q = never cc
taken_apart (a ∷ []) q = never cc
taken_apart (a ∷ n ∷ r) q =
    let s : List ℕ = a ∷ n ∷ r in
    let fits : 2 + n ≤ length s = ltb-false (length s) (2 + n) (holds (checks s) (ltb (length s) (2 + n)) InvalidFrame [] q) in
    let long : length (take n r) ≡ n = length-take-le n r (omega arith) in
    let m : 2 + n - 2 ≡ n = omega arith in
    let area : shown s (info_by02 s) ≡ take n r =
    ap (shown s) (let_pass (checks s ++ info_check s ∷ []) (viewed 2 (2 + n)) q) ∙ PartLaws.part_is s 2 (2 + n) (omega arith) fits ∙ ap (λ (k : ℕ). take k r) m in
    let rest : shown s (service_info_by01 s) ≡ drop n r =
    ap (shown s) (let_pass (checks s ++ info_check s ∷ []) (viewed (2 + n) (length s)) q) ∙ PartLaws.part_to_end s (2 + n) fits ∙ sym (drop-drop n 2 s) in
    ap (λ (l : List ℕ). layout a l (shown s (service_info_by01 s))) area ∙ ap (layout a (take n r)) rest ∙ ap (λ (k : ℕ). a ∷ k ∷ take n r ++ drop n r) long ∙ ap (λ (l : List ℕ). a ∷ n ∷ l) (take-append-drop n r)

-- ---- no second answer

pub info_one : (s : List ℕ) (r q : Result View Fault) → InfoPromise s r → InfoPromise s q → r ≡ q
info_one s r q a b = PartLaws.told_one r q (same a b)

pub build_one : (f : CEMIFrame) (area rest b : List ℕ) (r q : Result ℕ Refusal) (after later : List ℕ)
    → BuildPromise f area rest b r after → BuildPromise f area rest b q later → (r ≡ q) × (after ≡ later)
build_one f area rest b = WritingLaws.writes_one (build_checks area (length rest) (length b)) (layout (code_of f.message_code) area rest) b

-- Request information both ways, and no second answer. Assumes nothing.
use Rattle.std.specs.Prelude.{ℕ, ◌≡◌, refl, List, [], ◌∷◌, ◌++◌, length, get_or, take, drop, Result, Ok, Err}
use Rattle.std.proofs.Common.{sym, ap, ◌∙◌, eqb-true}
use Rattle.std.proofs.lemmas.Bool.{not-false}
use Rattle.wire.specs.Told.{Told, differs}
use Rattle.wire.specs.ToldLaws.{one_to_one, answer_of, back_refused, holds, same}
use Rattle.wire.specs.Layout.{put}
use Rattle.wire.specs.FormatLaws as FormatLaws
use Rattle.wire.specs.LayoutLaws.{Bytes}
use Rattle.wire.specs.WritingLaws.{writes_one, wrote}
use Rattle.wire.specs.declared.refusals.Refusal.TheVariants.{InvalidFrame}
use Rattle.connect.specs.Cri.{fields, format, values, layout, told, decode_where, DecodePromise, encode_checks, EncodePromise}
use Rattle.connect.specs.declared.cri.ConnectionRequestInfo.{ConnectionRequestInfo}
use Rattle.wire.specs.declared.refusals.Fault.{Fault}
use Rattle.wire.specs.declared.refusals.Refusal.{Refusal}

abbrev answered : List ℕ → Result ConnectionRequestInfo Fault
answered vs = Ok (record { connection_type = get_or vs 0 0; knx_layer = get_or vs 1 0 })

told_back : (r : Result ConnectionRequestInfo Fault) → answer_of answered Err (told r) ≡ r
told_back (Ok c) = refl
told_back (Err e) = back_refused answered Err 2 e

pub told_one : (r q : Result ConnectionRequestInfo Fault) → told r ≡ told q → r ≡ q
told_one = one_to_one told (answer_of answered Err) told_back

pub decode_one : (s : List ℕ) (r q : Result ConnectionRequestInfo Fault) → DecodePromise s r → DecodePromise s q → r ≡ q
decode_one s r q a b = told_one r q (same a b)

pub encode_one : (c : ConnectionRequestInfo) (b : List ℕ) (r q : Result ℕ Refusal) (after later : List ℕ)
    → EncodePromise c b r after → EncodePromise c b q later → (r ≡ q) × (after ≡ later)
encode_one c b = writes_one (encode_checks (length b)) (layout c) b

pub reads_back : (c : ConnectionRequestInfo) (rest : List ℕ) → decode_where (layout c ++ rest) ≡ told (Ok c)
reads_back c rest = FormatLaws.reads_back format (values c) rest refl refl

pub encode_decode : (c : ConnectionRequestInfo) (b : List ℕ) (n : ℕ) (after : List ℕ) (r : Result ConnectionRequestInfo Fault)
    → EncodePromise c b (Ok n) after → DecodePromise after r → r ≡ Ok c
encode_decode c b n after r e q =
    told_one r (Ok c) (q ∙ ap decode_where (wrote (encode_checks (length b)) (layout c) b n after e).bytes ∙ reads_back c (drop 4 b))

-- what is accepted has the layout of its answer, but for the reserved byte
pub has_layout : (s : List ℕ) (c : ConnectionRequestInfo) → Bytes s → DecodePromise s (Ok c)
    → take 4 s ≡ put fields (4 ∷ c.connection_type ∷ c.knx_layer ∷ get_or s 3 0 ∷ [])
has_layout s c b q =
    let x = FormatLaws.accepted format s (told (Ok c)) refl q in
    let first : get_or s 0 0 ≡ 4 = eqb-true (get_or s 0 0) 4 (not-false _ (holds [] (differs (get_or s 0 0) 4) InvalidFrame [] x.asked)) in
    x.bytes b
    ∙ ap (λ (t : Told). put fields (get_or s 0 0 ∷ get_or t.values 0 0 ∷ get_or t.values 1 0 ∷ get_or s 3 0 ∷ [])) (sym x.told_is)
    ∙ ap (λ (k : ℕ). put fields (k ∷ c.connection_type ∷ c.knx_layer ∷ get_or s 3 0 ∷ [])) first

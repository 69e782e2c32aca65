-- An Hpai both ways: what is written is read back, what is accepted has the layout of its answer; and no second answer. Assumes nothing.
use Rattle.std.specs.Prelude.{ℕ, ◌-◌, ◌≡◌, refl, List, [], ◌∷◌, ◌++◌, length, get_or, take, drop, Result, Ok, Err}
use Rattle.std.proofs.Common.{arith, sym, ap, ◌∙◌, length-append, eq-eqb}
use Rattle.std.proofs.Math.Seq.{get_or-append_seam, take-append_seam}
use Rattle.wire.specs.Told.{Told}
use Rattle.wire.specs.ToldLaws.{one_to_one, answer_of, back_refused, same}
use Rattle.wire.specs.Layout.{high_of, low_of, run_at, put}
use Rattle.wire.specs.FormatLaws as FormatLaws
use Rattle.wire.specs.LayoutLaws.{Bytes, run-all, length-put}
use Rattle.wire.specs.WritingLaws.{writes_one, wrote}
use Rattle.hpai.specs.Hpai.{fields, format, values, layout, told, parse_where, ParsePromise, encode_checks, EncodePromise}
use Rattle.hpai.specs.declared.Hpai.{Hpai}
use Rattle.wire.specs.declared.refusals.Refusal.{Refusal}
use Rattle.wire.specs.declared.refusals.Fault.{Fault}

-- the address's four bytes one by one
pub layout_is : (h : Hpai) → length h.ip_address ≡ 4
    → layout h ≡ h.structure_length ∷ h.host_protocol ∷ (run_at 4 h.ip_address 0 ++ high_of h.port ∷ low_of h.port ∷ [])
layout_is h q =
    ap (λ (ip : List ℕ). put fields (h.structure_length ∷ h.host_protocol ∷ (ip ++ h.port ∷ []))) (sym (run-all 4 h.ip_address q))

pub length-values : (h : Hpai) → length h.ip_address ≡ 4 → length (values h) ≡ 7
length-values h q = omega (arith, length-append h.ip_address (h.port ∷ []))

pub length-layout : (h : Hpai) → length h.ip_address ≡ 4 → length (layout h) ≡ 8
length-layout h q = length-put fields (values h) (length-values h q)

-- ---- no second answer

-- the Hpai with these values: the port is the last of them
unfoldable pub hpai_of : List ℕ → Hpai
hpai_of vs = record {
  structure_length = get_or vs 0 0;
  host_protocol = get_or vs 1 0;
  ip_address = take (length vs - 3) (drop 2 vs);
  port = get_or (drop 2 vs) (length vs - 3) 0;
}

pub hpai_of_values : (h : Hpai) → hpai_of (values h) ≡ h
unfolding hpai_of
hpai_of_values h =
    let ip : List ℕ = h.ip_address in
    let k : length (values h) - 3 ≡ length ip = omega (arith, length-append ip (h.port ∷ [])) in
    rw (k, take-append_seam ip (h.port ∷ []), get_or-append_seam ip h.port [] 0)

answered : List ℕ → Result Hpai Fault
answered vs = Ok (hpai_of vs)

told_back : (r : Result Hpai Fault) → answer_of answered Err (told r) ≡ r
unfolding answered
told_back (Ok h) = ap Ok (hpai_of_values h)
told_back (Err e) = back_refused answered Err 7 e

pub told_one : (r q : Result Hpai Fault) → told r ≡ told q → r ≡ q
told_one = one_to_one told (answer_of answered Err) told_back

pub parse_one : (s : List ℕ) (r q : Result Hpai Fault) → ParsePromise s r → ParsePromise s q → r ≡ q
parse_one s r q a b = told_one r q (same a b)

pub encode_one : (h : Hpai) (b : List ℕ) (r q : Result ℕ Refusal) (after later : List ℕ)
    → EncodePromise h b r after → EncodePromise h b q later → (r ≡ q) × (after ≡ later)
encode_one h b = writes_one (encode_checks (length b)) (layout h) b

-- ---- written, then read

-- the Hpai's own length byte is 8, and its address has four bytes, as every value of the type has
pub record Proper (h : Hpai) : Type 0 where
  pub length_8 : h.structure_length ≡ 8
  pub address_4 : length h.ip_address ≡ 4

pub reads_back : (h : Hpai) (rest : List ℕ) → Proper h → parse_where (layout h ++ rest) ≡ told (Ok h)
reads_back h rest p = FormatLaws.reads_back format (values h) rest (length-values h p.address_4) (simp (eq-eqb _ _ p.length_8))

pub encode_parse : (h : Hpai) (b : List ℕ) (n : ℕ) (after : List ℕ) (r : Result Hpai Fault)
    → Proper h → EncodePromise h b (Ok n) after → ParsePromise after r → r ≡ Ok h
encode_parse h b n after r p e q =
    told_one r (Ok h) (q ∙ ap parse_where (wrote (encode_checks (length b)) (layout h) b n after e).bytes ∙ reads_back h (drop (length (layout h)) b) p)

-- ---- read, then written

pub has_layout : (s : List ℕ) (h : Hpai) → Bytes s → ParsePromise s (Ok h) → take 8 s ≡ layout h
has_layout s h b q = let x = FormatLaws.accepted format s (told (Ok h)) refl q in x.bytes b ∙ ap (λ (t : Told). put fields t.values) (sym x.told_is)

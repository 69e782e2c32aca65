-- What every encoder and builder promises has no second answer, and what it wrote stands in the buffer. Assumes nothing.
use Rattle.std.specs.Prelude.{ℕ, ◌≡◌, refl, List, [], ◌∷◌, ◌++◌, length, get_or, Result, Ok, Err}
use Rattle.std.proofs.Common.{sym, ap, ◌∙◌}
use Rattle.wire.specs.Told.{Told, done, nowhere, Check, verdict, answer, lent}
use Rattle.wire.specs.ToldLaws.{stays, goes_on, let_refuse, was_accepted, was_refused, let_through, same, one_to_one, answer_of, back_refused}
use Rattle.wire.specs.Writing.{told, onto, Writes, room, WritePromise, Write3Promise}
use Rattle.wire.specs.declared.refusals.Refusal.{Refusal}
use Rattle.wire.specs.declared.refusals.Fault.{Fault}
use Rattle.wire.specs.Told.{Verdict}

abbrev bytes_of : List ℕ → Result ℕ Refusal
bytes_of vs = Ok (get_or vs 0 0)

-- a builder names no field
abbrev unwritten : Fault → Result ℕ Refusal
unwritten f = Err f.why

told_back : (r : Result ℕ Refusal) → answer_of bytes_of unwritten (told r) ≡ r
told_back (Ok n) = refl
told_back (Err e) = back_refused bytes_of unwritten 1 (nowhere e)

pub told_one : (r q : Result ℕ Refusal) → told r ≡ told q → r ≡ q
told_one = one_to_one told (answer_of bytes_of unwritten) told_back

pub writes_one : (cs : List Check) (w b : List ℕ) (r q : Result ℕ Refusal) (after later : List ℕ)
    → Writes cs w b r after → Writes cs w b q later → (r ≡ q) × (after ≡ later)
writes_one cs w b r q after later x y = (told_one r q (same x.0 y.0), same x.1 y.1)

pub write_one : (w b : List ℕ) (r q : Result ℕ Refusal) (after later : List ℕ)
    → WritePromise w b r after → WritePromise w b q later → (r ≡ q) × (after ≡ later)
write_one w b = writes_one (room (length w) (length b) ∷ []) w b

-- where a count is answered, that many bytes were written, and the rest is as it was
pub record Wrote (w b : List ℕ) (n : ℕ) (after : List ℕ) : Type 0 where
  pub count : n ≡ length w
  pub bytes : after ≡ onto b w

pub wrote : (cs : List Check) (w b : List ℕ) (n : ℕ) (after : List ℕ) → Writes cs w b (Ok n) after → Wrote w b n after
wrote cs w b n after x =
    let t : Told = done (length w ∷ []) in
    let u : Told = done (n ∷ []) in
    record {
      count = ap (λ (k : Told). get_or k.values 0 0) (let_through cs t u refl x.0);
      bytes = x.1 ∙ ap (λ (v : Verdict). lent v b (onto b w)) (was_accepted cs t u refl x.0);
    }

pub was_written : (cs : List Check) (w b : List ℕ) (n : ℕ) (after : List ℕ) → Writes cs w b (Ok n) after → verdict cs ≡ Ok tt
was_written cs w b n after x = was_accepted cs (done (length w ∷ [])) (done (n ∷ [])) refl x.0

-- where it refused, so did the checks, and the buffer is as it was
pub was_unwritten : (cs : List Check) (w b : List ℕ) (e : Refusal) (after : List ℕ) → Writes cs w b (Err e) after → (verdict cs ≡ Err e) × (after ≡ b)
was_unwritten cs w b e after x =
    let q : verdict cs ≡ Err e = was_refused cs (done (length w ∷ [])) 1 (nowhere e) refl x.0 in
    (q, x.1 ∙ ap (λ (v : Verdict). lent v b (onto b w)) q)

-- other checks that say the same, or the same bytes put otherwise
pub writes_as : (cs ds : List Check) (w v b : List ℕ) (r : Result ℕ Refusal) (after : List ℕ)
    → verdict cs ≡ verdict ds → w ≡ v → Writes cs w b r after → Writes ds v b r after
writes_as cs ds w v b r after e f x =
    let t : Verdict → List ℕ → Told = λ a l. answer a (done (length l ∷ [])) in
    (x.0 ∙ ap (λ (a : Verdict). t a w) e ∙ ap (t (verdict ds)) f, x.1 ∙ ap (λ (a : Verdict). lent a b (onto b w)) e ∙ ap (λ (l : List ℕ). lent (verdict ds) b (onto b l)) f)

-- checks that hold, before those by which it was written
pub writes_behind : (cs ds : List Check) (w b : List ℕ) (r : Result ℕ Refusal) (after : List ℕ) → verdict cs ≡ Ok tt → Writes ds w b r after → Writes (cs ++ ds) w b r after
writes_behind cs ds w b r after q = writes_as ds (cs ++ ds) w w b r after (sym (goes_on cs ds q)) refl

-- checks of which one refuses, before any others
pub refuses-before : (cs ds : List Check) (w b : List ℕ) (e : Refusal) → verdict cs ≡ Err e → Writes (cs ++ ds) w b (Err e) b
refuses-before cs ds w b e q =
    let v : verdict (cs ++ ds) ≡ Err e = stays cs ds e q in
    (sym (let_refuse (cs ++ ds) (done (length w ∷ [])) e v), ap (λ (x : Verdict). lent x b (onto b w)) (sym v))

-- three pieces written behind checks that hold are what they make together, of n bytes
pub pieces : (cs : List Check) (u v w whole b : List ℕ) (n : ℕ) (r : Result ℕ Refusal) (after : List ℕ) → verdict cs ≡ Ok tt → u ++ v ++ w ≡ whole → length whole ≡ n
    → Write3Promise u v w b r after → Writes (cs ++ room n (length b) ∷ []) whole b r after
pieces cs u v w whole b n r after q e many p =
    writes_behind cs (room n (length b) ∷ []) whole b r after q
    (writes_as (room (length (u ++ v ++ w)) (length b) ∷ []) (room n (length b) ∷ []) (u ++ v ++ w) whole b r after (ap (λ (k : ℕ). verdict (room k (length b) ∷ [])) (ap length e ∙ many)) e p)

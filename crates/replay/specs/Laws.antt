-- No second line, and what a reader has left. Assumes nothing.
use Rattle.std.specs.Prelude.{ℕ, ◌+◌, ◌≤◌, ◌≡◌, Option, None, Some, List, ◌++◌, length, take, drop}
use Rattle.std.specs.Io.KnownBytes.{Consumes, Keeps}
use Rattle.replay.specs.Records.{record_of, ReadFrom}
use Rattle.replay.specs.declared.records.Record.{Record}
use Rattle.std.proofs.Common.{arith, sym, ap, subst, ◌∙◌, append_assoc, length-append, length-take-le, take-take, take_all, take_at, take-add, drop_at}
use Rattle.std.proofs.lemmas.List.{take-append-le}
use Rattle.std.proofs.Math.Seq.{take-append_seam}
use Rattle.wire.specs.ToldLaws.{same}
use Rattle.replay.specs.Lines.{Sheet, LinePromise}
use Rattle.replay.specs.declared.telling.Told.{Told}

pub line_one : (t : Told) (s out : List ℕ) (r q : ℕ) (after later : List ℕ) → LinePromise t s out r after → LinePromise t s out q later → (r ≡ q) × (after ≡ later)
line_one t s out r q after later a b =
    let e = same a b in
    (ap (λ (x : Sheet). x.at) e, ap (λ (x : Sheet). x.out) e)

-- ---- two reads, of a record's seven bytes and of its arguments

pub read_from : (head part args : List ℕ) (before between left : Option (List ℕ)) (r : Record) → length head ≡ 7 → r ≡ record_of head → Consumes before between head → Consumes between left part
    → part ≡ take r.n args → ReadFrom before left r args
read_from head part args None between left r h e p q z = tt
read_from head part args (Some s) None left r h e p q z = absurd p
read_from head part args (Some s) (Some t) None r h e p q z = absurd q
read_from head part args (Some s) (Some t) (Some u) r h e p q z =
    let front : take 7 s ≡ head = ap (λ (k : ℕ). take k s) (sym h) ∙ ap (take (length head)) p ∙ take-append_seam head t in
    let whole : s ≡ (take 7 s ++ take r.n args) ++ u = p ∙ ap (λ (l : List ℕ). head ++ l) q ∙ sym (append_assoc head part u) ∙ ap (λ (l : List ℕ). l ++ u) (ap (λ (l : List ℕ). l ++ part) (sym front) ∙ ap (λ (l : List ℕ). take 7 s ++ l) z) in
    (e ∙ ap record_of (sym front), whole, omega (arith, ap length p, length-append head t))

-- ---- reads one behind the other

pub consumes_on : (before between left : Option (List ℕ)) (first next : List ℕ) → Consumes before between first → Consumes between left next → Consumes before left (first ++ next)
consumes_on None between left first next p q = tt
consumes_on (Some s) None left first next p q = absurd p
consumes_on (Some s) (Some t) None first next p q = absurd q
consumes_on (Some s) (Some t) (Some u) first next p q = p ∙ ap (λ (l : List ℕ). first ++ l) q ∙ sym (append_assoc first next u)

pub consumes_kept : (before between left : Option (List ℕ)) (first : List ℕ) → Consumes before between first → Keeps between left → Consumes before left first
consumes_kept None between left first p q = tt
consumes_kept (Some s) None left first p q = absurd p
consumes_kept (Some s) (Some t) None first p q = absurd q
consumes_kept (Some s) (Some t) (Some u) first p q = p ∙ ap (λ (l : List ℕ). first ++ l) (sym q)

-- bytes that are read behind the front of a buffer
pub read-behind : (start part rest : List ℕ) (at n : ℕ) → length start ≡ at → n ≤ length part → take (at + n) (start ++ (part ++ rest)) ≡ start ++ take n part
read-behind start part rest at n h k =
    take-add at n (start ++ (part ++ rest)) ∙ ap (λ (l : List ℕ). l ++ take n (drop at (start ++ (part ++ rest)))) (take_at start (part ++ rest) at h)
    ∙ ap (λ (l : List ℕ). start ++ take n l) (drop_at start (part ++ rest) at h) ∙ ap (λ (l : List ℕ). start ++ l) (take-append-le n part rest k)

-- ---- a record and its arguments

-- the arguments alone, without what stands behind them in their buffer
pub arguments_alone : (before left : Option (List ℕ)) (r : Record) (args : List ℕ) → ReadFrom before left r args → ReadFrom before left r (take r.n args)
arguments_alone None left r args q = tt
arguments_alone (Some s) left r args q = (q.0, subst (λ (l : List ℕ). Consumes (Some s) left (take 7 s ++ l)) (sym (take-take r.n r.n args (omega arith))) q.1, q.2)

-- which record was read, its arguments, and what is left
pub read_is : (s : List ℕ) (left : Option (List ℕ)) (r : Record) (args : List ℕ) → length args ≡ r.n → ReadFrom (Some s) left r args → (args ≡ take r.n (drop 7 s)) × (left ≡ Some (drop (7 + r.n) s))
read_is s None r args h q = absurd q.1
read_is s (Some u) r args h q =
    let head : List ℕ = take 7 s in
    let seven : length head ≡ 7 = length-take-le 7 s q.2 in
    let whole : s ≡ (head ++ args) ++ u = q.1 ∙ ap (λ (l : List ℕ). (head ++ l) ++ u) (take_all r.n args (omega (arith, h))) in
    let behind : drop 7 s ≡ args ++ u = ap (drop 7) (whole ∙ append_assoc head args u) ∙ drop_at head (args ++ u) 7 seven in (
      sym (ap (take r.n) behind ∙ take_at args u r.n h),
      ap Some (sym (ap (drop (7 + r.n)) whole ∙ drop_at (head ++ args) u (7 + r.n) (length-append head args ∙ omega (arith, seven, h)))),
    )

-- What a record borrows: the bytes that were parsed, none where the parse refused. Assumes nothing.
use Rattle.std.specs.Prelude.{ℕ, ◌≡◌, List, [], Ok, Err}
use Rattle.std.proofs.Common.{arith, sym, ap}
use Rattle.wire.specs.Told.{Told, refused, Check, Verdict, verdict, judged}
use Rattle.wire.specs.ToldLaws.{was_accepted, was_refused}
use Rattle.wire.specs.Places.{at}
use Rattle.wire.specs.Parts.{part_of}
use Rattle.wire.specs.PartLaws.{part_is}
use Rattle.wire.specs.declared.refusals.Fault.{Fault}

abbrev pub borrowed_by : Verdict → List ℕ → List ℕ
borrowed_by (Ok _) s = s
borrowed_by (Err e) s = []

-- a parse that answered borrows the bytes; one that refused borrows none
pub borrowed_all : {o : ℕ} (cs : List Check) (t u : Told) (s : List ℕ) → u.number ≡ 0 → u ≡ at o (judged cs t) → s ≡ borrowed_by (verdict cs) s
borrowed_all cs t u s z q = sym (ap (λ (v : Verdict). borrowed_by v s) (was_accepted cs t u z q))

pub borrowed_none : {o : ℕ} (cs : List Check) (t : Told) (k : ℕ) (e : Fault) (s : List ℕ) → t.number ≡ 0 → refused k e ≡ at o (judged cs t) → [] ≡ borrowed_by (verdict cs) s
borrowed_none cs t k e s z q = sym (ap (λ (v : Verdict). borrowed_by v s) (was_refused cs t k e z q))

pub empty_part : (s : List ℕ) → part_of s 0 0 ≡ []
empty_part s = part_is s 0 0 (omega arith) (omega arith)

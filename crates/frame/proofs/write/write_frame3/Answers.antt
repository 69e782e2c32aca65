-- The header is written first, and each part is copied right behind what stands. Assumes nothing.
use Rattle.std.proofs.Common.{ℕ, ◌+◌, ap, sym, ◌∙◌, [], ◌∷◌, ◌++◌, arith, le-ltb, ltb-false, ltb, length}
use Rattle.wire.specs.Told.{done}
use Rattle.frame.specs.WriteLaws.{sum_of, laid}
use Rattle.frame.proofs.write.write_frame3.Goals as goal

pub returns : goal.returns
returns c =
    let a = c.args in
    let asked = ap (λ (k : ℕ). ltb (length a.buf.now) k) (sym (sum_of a.a.now a.b.now a.c.now)) ∙ sym c.short.ensures ∙ c.if-short.false in
    let fits = ltb-false (length a.buf.now) (6 + length a.a.now + length a.b.now + length a.c.now) (sym c.short.ensures ∙ c.if-short.false) in
    let total = sum_of a.a.now a.b.now a.c.now in
    let small = le-ltb 65535 (6 + length (a.a.now ++ a.b.now ++ a.c.now)) (omega arith) in
    let headed = rw (le-ltb (length a.buf.now) 6 (omega arith)) at c.encode.ensures.1 in (
      simp (asked, small) (ap (λ (t : ℕ). done (t ∷ [])) (total ∙ omega arith)),
      simp (asked, small)
          (laid a.service_type a.a.now a.b.now a.c.now a.buf.now c.encode.new.buf c.copy_at.new.dst c.copy_at-2.new.dst c.copy_at-3.new.dst
          (omega arith) headed c.copy_at.ensures c.copy_at-2.ensures c.copy_at-3.ensures),
    )

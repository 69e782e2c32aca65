-- Each piece is copied right behind what stands. Assumes nothing.
use Rattle.std.proofs.Common.{ℕ, ◌+◌, ◌<◌, List, arith, ap, sym, [], ◌∷◌, ◌++◌, length, lt-ltb, le-ltb}
use Rattle.std.specs.Prelude.{Err}
use Rattle.wire.specs.Told.{done}
use Rattle.wire.specs.Writing.{Write3Promise}
use Rattle.wire.specs.declared.refusals.Refusal.TheVariants.{BufferTooSmall}
use Rattle.wire.specs.LayoutLaws.{length_three, copied_three}
use Rattle.wire.proofs.writing.write3.Goals as goal

-- a buffer shorter than the three together
short : (a b c buf : List ℕ) → length buf < length a + length b + length c → Write3Promise a b c buf (Err BufferTooSmall) buf
short a b c buf h =
    let asked = lt-ltb (length buf) (length (a ++ b ++ c)) (omega (arith, length_three a b c)) in
    (simp asked, simp asked)

pub returns : goal.returns
returns c =
    let a = c.args in
    let long = length_three a.a.now a.b.now a.c.now in
    let h = le-ltb (length a.buf.now) (length (a.a.now ++ a.b.now ++ a.c.now)) (omega arith) in (
      simp h (ap (λ (n : ℕ). done (n ∷ [])) (sym long)),
      simp h
          (copied_three a.a.now a.b.now a.c.now a.buf.now c.copy_at.new.dst c.copy_at-2.new.dst c.copy_at-3.new.dst
          (omega arith) c.copy_at.ensures c.copy_at-2.ensures c.copy_at-3.ensures),
    )

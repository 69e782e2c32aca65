-- `pack`: what the loop keeps, and that its contract follows. Assumes nothing.
use Rattle.std.proofs.Common.{ℕ, arith, ◌≡◌, ap, sym, ◌∙◌, [], ◌∷◌, length, rules, lt-ltb, le-ltb}
use Rattle.wire.specs.Told.{done}
use Rattle.tunnel_image.specs.Image.{packed}
use Rattle.tunnel_image.specs.ImageLaws.{forty, packed_turn, packed_all}
use Rattle.tunnel_image.proofs.image.pack.Goals as goal

pub returns-then-image-lt-SIZE : goal.returns-then-image-lt-SIZE
returns-then-image-lt-SIZE c =
    let a = c.args in
    let eight : length a.places ≡ 8 = search rules in
    let h = lt-ltb (length a.image.now) (length (packed a.places)) (omega (arith, forty a.places eight, c.if-image-lt-SIZE.true)) in
    (simp h, simp h)

pub loop-i-preserved : goal.loop-i-preserved
loop-i-preserved c =
    let l = c.loop-i in
    let a = c.args in
    (omega arith, l.invariant.1, packed_turn a.places l.i _ a.image.now l.image c.put_place.new.image (omega arith) (omega arith) l.invariant.2 c.put_place.ensures, omega arith)

pub returns : goal.returns
returns c =
    let l = c.loop-i in
    let a = c.args in
    let w = forty a.places l.invariant.1 in
    let h = le-ltb (length a.image.now) (length (packed a.places)) (omega (arith, w)) in
    (simp h (ap (λ (n : ℕ). done (n ∷ [])) (sym w)), simp h (l.invariant.2 ∙ packed_all a.places l.i a.image.now (omega arith)))

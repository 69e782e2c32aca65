-- `find`: what the loop keeps, and that its contract follows. Assumes nothing.
use Rattle.std.proofs.Common.{arith, sym, ◌∙◌, rules}
use Rattle.tunnel_table.specs.Places.{passing}
use Rattle.tunnel_table.specs.SeekLaws.{seek_turn, seek_end}
use Rattle.tunnel_table.proofs.places.find.Goals as goal

pub loop-i-preserved : goal.loop-i-preserved
loop-i-preserved c =
    let o = c.loop-i in
    (search rules, o.invariant.1, o.invariant.2 ∙ seek_turn (passing c.args.id) _ _ o.i (omega arith) (sym c.passes.ensures ∙ c.if-passes.false))

pub returns-then-i-eq8 : goal.returns-then-i-eq8
returns-then-i-eq8 c =
    let o = c.loop-i in
    sym (o.invariant.2 ∙ seek_end (passing c.args.id) _ o.i (omega arith))

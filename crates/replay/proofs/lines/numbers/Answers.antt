-- A turn lays the pieces of one number, and all that the loop yields are the first of them. Assumes nothing.
use Rattle.std.proofs.Common.{flat_map, ap, ◌∙◌, List, ℕ}
use Rattle.std.proofs.lemmas.Iterator.{YieldsList-from_take, YieldsList-from_slice}
use Rattle.std.proofs.lemmas.Iterator.Consumers.{YieldsList-end}
use Rattle.replay.specs.Lines.{sheet, all, number_pieces}
use Rattle.replay.proofs.lines.numbers.Goals as goal

pub returns : goal.returns
returns c =
    let a = c.args in
    let o = c.loop-n in
    let whole = YieldsList-end (YieldsList-from_take a.count (YieldsList-from_slice a.ns.now cc) cc) o.yielded _ o.yielded_by _ _ c.in-None.is c.next.ensures.steps in
    o.invariant ∙ ap (λ (ns : List ℕ). all (sheet a.out.now a.at) (flat_map (number_pieces a.mark.now) ns)) whole.0

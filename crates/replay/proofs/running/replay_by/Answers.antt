-- A turn is one more. Assumes nothing.
use Rattle.std.proofs.Common.{◌++◌, ℕ, suc, refl, [], sym, ◌∙◌, arith, length-append, length-take, drop, length-drop, add-one}
use Rattle.std.proofs.lemmas.List.{length-replicate}
use Rattle.std.specs.Io.KnownBytes.{Appends}
use Rattle.replay.specs.Running.{none}
use Rattle.replay.specs.RunningLaws.{of_ok, turn_made, turns_on, appends-nothing, appends_on}
use Rattle.replay.proofs.running.replay_by.Goals as goal

pub loop-init : goal.loop-init
loop-init g c = (([], none, appends-nothing (g.W.Write.contents c.args.output.now), λ e. refl), length-replicate {A = ℕ} 66000 0, length-replicate {A = ℕ} 66000 0, length-replicate {A = ℕ} 133000 0)

pub returns-then-is_err : goal.returns-then-is_err
returns-then-is_err g c =
    let o = c.loop in
    let i = o.invariant in
    let made = turn_made c.in-Ok-Some.field-0 c.in-Ok-Some.record c.next_by.new.args o.buf c.next_by.new.buf c.answer-told.result c.answer-told.new.buf o.out c.line-used.result c.line-used.new.out c.part.result.now
    c.in-Ok-Some.field-0-is c.in-Ok-Some.ensures (c.next_by.auto.args ∙ i.1) (c.next_by.auto.buf ∙ i.2) i.3 c.answer-told.ensures c.line-used.ensures c.part.ensures in
    record {
      count = suc o.counter;
      left = g.R.Read.remaining c.next_by.new.input;
      text = i.0.0 ++ c.part.result.now;
      turns = turns_on i.0.1 made;
      ended = omega arith;
      untouched = λ e. absurd (omega (arith, e));
    }

pub loop-preserved : goal.loop-preserved
loop-preserved g c =
    let o = c.loop in
    let i = o.invariant in
    let m = c.in-Ok-Some.record.m in
    let wide = c.next_by.auto.buf ∙ i.2 in
    let made = turn_made c.in-Ok-Some.field-0 c.in-Ok-Some.record c.next_by.new.args o.buf c.next_by.new.buf c.answer-told.result c.answer-told.new.buf o.out c.line-used.result c.line-used.new.out c.part.result.now
    c.in-Ok-Some.field-0-is c.in-Ok-Some.ensures (c.next_by.auto.args ∙ i.1) wide i.3 c.answer-told.ensures c.line-used.ensures c.part.ensures in
    let line = c.part.result.now in
    let held = g.W.Write.contents in
    let written = of_ok c.write_all.result (Appends (held o.output) (held c.write_all.new.self) line) (sym c.is_err.ensures.value ∙ c.if-is_err.false) c.write_all.ensures.bytes in
    let turns = turns_on i.0.1 made in (
      (i.0.0 ++ line, rw add-one turns, appends_on (held c.args.output.now) (held o.output) (held c.write_all.new.self) i.0.0 line i.0.2 written, λ e. absurd (omega (arith, e))),
      c.next_by.auto.args ∙ i.1,
      length-append c.answer-told.new.buf (drop m c.next_by.new.buf) ∙ omega (arith, c.answer-told.auto.buf, length-take m c.next_by.new.buf, length-drop m c.next_by.new.buf, wide),
      c.line-used.auto.out ∙ i.3,
    )

pub returns : goal.returns
returns g c =
    let o = c.loop in
    let i = o.invariant in
    record {
      count = o.counter;
      left = g.R.Read.remaining o.input;
      text = i.0.0;
      turns = i.0.1;
      ended = (omega (arith, c.loop-test.false, o.auto.counter-end), i.0.2);
      untouched = i.0.3;
    }

-- Each way out of a turn is a step or two of the inspection. Assumes nothing.
use Rattle.std.proofs.Common.{◌≡◌, ap, subst, ◌∙◌, false, List, ℕ}
use Rattle.kip.specs.Capture.{whole}
use Rattle.inspection.specs.Scanning.{ScanPromise}
use Rattle.inspection.specs.Printing.{ends}
use Rattle.inspection.specs.Turns.{read_in}
use Rattle.inspection.specs.Reaching.{Reached, rest_in, scan_reaches, front_reaches, front_rest}
use Rattle.inspection.specs.declared.turns.Progress.{Progress}
use Rattle.wire.specs.Clash.{never}
use Rattle.inspect_io.specs.TurningLaws.{write_turns, read_turns}
use Rattle.inspect_io.proofs.captures.Capture.turn.Given.{Over}
use Rattle.inspect_io.proofs.captures.Capture.turn.Goals as goal
use Rattle.inspect_io.proofs.captures.Capture.turn.Goals.{After-scan-scanned}

-- once the buffer is scanned
module _ (g : Over) (c : After-scan-scanned g) where
  abbrev input : List ℕ
  input = c.args.buffers.now.input

  abbrev out : List ℕ
  out = c.scan-scanned.new.out

  abbrev handed : Progress
  handed = record { spot = c.scan-scanned.result.spot; have = c.args.progress.have }

  said : ScanPromise (read_in input c.args.progress) c.args.buffers.now.out c.args.progress.spot c.scan-scanned.result out
  said = subst (λ (s : List ℕ). ScanPromise s c.args.buffers.now.out c.args.progress.spot c.scan-scanned.result out) c.part-read.ensures c.scan-scanned.ensures

  reached : Reached input out handed
  reached = scan_reaches input c.args.buffers.now.out c.args.progress c.requires c.scan-scanned.result out said

pub returns-in-Full : goal.returns-in-Full
returns-in-Full g c =
    let s = (goal.at.returns-in-Full g c).After-scan-scanned in
    write_turns (input g s) (out g s) (handed g s) (reached g s) c.write_out.result c.write_out.ensures

pub returns-in-Last : goal.returns-in-Last
returns-in-Last g c = (reached g (goal.at.returns-in-Last g c).After-scan-scanned, λ e. never cc)

pub returns-in-Short : goal.returns-in-Short
returns-in-Short g c =
    let s = (goal.at.returns-in-Short g c).After-scan-scanned in
    let front = c.to_front-front in
    let more = c.read_more in
    let none : whole (rest_in (input g s) (handed g s)) ≡ false = ends (read_in (input g s) c.args.progress) c.args.buffers.now.out c.args.progress.spot c.scan-scanned.result (out g s) (said g s) c.in-Short.is in
    let rest = front_rest (input g s) (out g s) (handed g s) (reached g s) front.result front.new.input front.ensures in
    let moved = front_reaches (input g s) (out g s) (handed g s) (reached g s) front.result front.new.input front.ensures in
    read_turns front.new.input (out g s) front.result moved more.new.buffers.input more.new.buffers.out more.result more.ensures (ap whole rest ∙ none)

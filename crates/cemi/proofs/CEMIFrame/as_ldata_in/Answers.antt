-- What L_Data's parse answers of the rest; its refusal is moved by where the rest starts. Assumes nothing.
use Rattle.std.specs.Prelude.{Err}
use Rattle.std.proofs.Common.{ℕ, ◌+◌, ◌≡◌, ap, sym, ◌∙◌, arith, not, length}
use Rattle.wire.specs.Parts.{part_of}
use Rattle.wire.specs.Places.{later_fault}
use Rattle.wire.specs.PlaceLaws.{stands-accepted}
use Rattle.wire.specs.PartLaws.{part_most}
use Rattle.ldata.specs.Count.{count_by}
use Rattle.ldata.specs.LData.{told, parse_where}
use Rattle.cemi.specs.Cemi.{checks, offsets, info_length, service_info}
use Rattle.cemi.specs.CemiLaws.{start-told, on-rest, off_rest, rest_within}
use Rattle.cemi.proofs.CEMIFrame.as_ldata_in.Goals as goal
use Rattle.cemi.proofs.CEMIFrame.as_ldata_in.Goals.{After-part}

-- the rest starts behind the additional information
start-is : (c : After-part) → c.in_ok-start.start ≡ 2 + info_length c.args.«data».now
start-is c = (start-told c.args.«data».now c.in_ok-start.start c.in_ok-start.ensures).0

rest-is : (c : After-part) → c.part.result.now ≡ service_info c.args.«data».now
rest-is c =
    let s = c.args.«data».now in
    c.part.ensures ∙ ap (λ (k : ℕ). part_of s k (length s)) (start-is c)

pub overflow_add-result : goal.overflow_add-result
overflow_add-result c =
    let s = c.args.«data».now in
    let start = start-is (goal.at.overflow_add-result c).After-part in
    let C = count_by c.args.counting in
    let refuses = c.in-Err.ensures ∙ ap (parse_where C) (rest-is (goal.at.overflow_add-result c).After-part) in
    let byte = c.type_inv.«data» 1 in
    omega (arith, start, byte, rest_within C (service_info s) c.in-Err.fault refuses, part_most s (2 + info_length s) (length s))

pub returns-in-Ok : goal.returns-in-Ok
returns-in-Ok c =
    let s = c.args.«data».now in
    let C = count_by c.args.counting in
    let held = stands-accepted (checks s) (offsets s) (sym c.in_ok-stands.ensures) in
    let this = ap not (sym c.is_ldata.ensures ∙ c.if-not-is_ldata.false) in
    let enough = (start-told s c.in_ok-start.start c.in_ok-start.ensures).1 in
    on-rest C c.args.self s held this enough c.in-Ok.fields (c.in-Ok.ensures ∙ ap (parse_where C) (rest-is (goal.at.returns-in-Ok c).After-part))

pub returns-in-Err : goal.returns-in-Err
returns-in-Err c =
    let s = c.args.«data».now in
    let C = count_by c.args.counting in
    let held = stands-accepted (checks s) (offsets s) (sym c.in_ok-stands.ensures) in
    let this = ap not (sym c.is_ldata.ensures ∙ c.if-not-is_ldata.false) in
    let enough = (start-told s c.in_ok-start.start c.in_ok-start.ensures).1 in
    ap (λ (k : ℕ). told (Err (later_fault k c.in-Err.fault))) (start-is (goal.at.returns-in-Err c).After-part)
    ∙ off_rest C c.args.self s held this enough c.in-Err.fault (c.in-Err.ensures ∙ ap (parse_where C) (rest-is (goal.at.returns-in-Err c).After-part))

-- The number is asked first. Assumes nothing.
use Rattle.std.specs.Prelude.{Err}
use Rattle.knx.specs.InfoLaws.{code_unknown}
use Rattle.knx.proofs.info.knx_cemi_build.Goals as goal

pub returns-in-Err : goal.returns-in-Err
returns-in-Err c =
    let a = c.args in
    let e = c.in-Err.fault in
    record {
      answer = Err e.why;
      keeps = code_unknown a.message_code a.additional_info.now a.service_info.now a.out.now e c.in-Err.ensures;
      tells = c.written-in-Err.ensures;
    }

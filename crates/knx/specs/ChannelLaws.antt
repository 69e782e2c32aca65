-- The border's readers of an open channel's services: no second answer. Assumes nothing.
use Rattle.std.specs.Prelude.{ℕ, ◌≡◌, refl, List, get_or, drop}
use Rattle.std.proofs.Common.{ap}
use Rattle.wire.specs.ToldLaws.{one_to_one, same}
use Rattle.wire.specs.Told.{Told}
use Rattle.hpai.specs.HpaiLaws as HpaiLaws
use Rattle.hpai.specs.declared.Hpai.{Hpai}
use Rattle.knx.specs.Channel.{told, StatusPromise, endpoint_in, told_request, DisconnectRequestPromise}
use Rattle.knx.specs.declared.channel.KnxStatus.{KnxStatus}
use Rattle.knx.specs.declared.channel.KnxDisconnectRequest.{KnxDisconnectRequest}

pub status_one : (s : List ℕ) (r q : KnxStatus) → StatusPromise s r → StatusPromise s q → r ≡ q
status_one s r q a b = one_to_one told (λ t. record { offset = t.offset; channel = get_or t.values 0 0; status = get_or t.values 1 0; number = t.number }) (λ x. refl) r q (same a b)

abbrev request_from : Told → KnxDisconnectRequest
request_from t =
    let h = HpaiLaws.hpai_of (drop 1 t.values) in
    record { offset = t.offset; channel = get_or t.values 0 0; structure_length = h.structure_length; host_protocol = h.host_protocol; address = h.ip_address; port = h.port; number = t.number }

request_back : (r : KnxDisconnectRequest) → request_from (told_request r) ≡ r
request_back r =
    ap (λ (h : Hpai). record { offset = r.offset; channel = r.channel; structure_length = h.structure_length; host_protocol = h.host_protocol; address = h.ip_address; port = h.port; number = r.number })
    (HpaiLaws.hpai_of_values (endpoint_in r))

pub disconnect_request_one : (s : List ℕ) (r q : KnxDisconnectRequest) → DisconnectRequestPromise s r → DisconnectRequestPromise s q → r ≡ q
disconnect_request_one s r q a b = one_to_one told_request request_from request_back r q (same a b)

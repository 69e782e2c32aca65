-- What the border's readers of an open channel's services promise, over the rules of `connect`: connection state and disconnect responses, and a disconnect request that came in. Assumes nothing.
use Rattle.std.specs.Prelude.{ℕ, ◌≡◌, List, [], ◌∷◌}
use Rattle.wire.specs.Told.{Told, refused}
use Rattle.wire.specs.declared.refusals.Fault.{Fault}
use Rattle.wire.specs.Format.{read_where}
use Rattle.hpai.specs.Hpai as Hpai
use Rattle.hpai.specs.declared.Hpai.{Hpai}
use Rattle.connect.specs.Channel as Channel
use Rattle.knx.specs.declared.channel.KnxStatus.{KnxStatus}
use Rattle.knx.specs.declared.channel.KnxDisconnectRequest.{KnxDisconnectRequest}

abbrev pub told : KnxStatus → Told
told r = record { number = r.number; values = r.channel ∷ r.status ∷ []; start = 0; end = 0; offset = r.offset }

-- both responses: channel and status
abbrev pub StatusPromise : List ℕ → KnxStatus → Type 0
StatusPromise s r = told r ≡ Channel.status_where s

abbrev pub NoStatusPromise : Fault → KnxStatus → Type 0
NoStatusPromise e r = told r ≡ refused 2 e

-- the control endpoint that has these numbers
abbrev pub endpoint_in : KnxDisconnectRequest → Hpai
endpoint_in r = record { structure_length = r.structure_length; host_protocol = r.host_protocol; ip_address = r.address; port = r.port }

abbrev pub told_request : KnxDisconnectRequest → Told
told_request r = record { number = r.number; values = r.channel ∷ Hpai.values (endpoint_in r); start = 0; end = 0; offset = r.offset }

-- what `DisconnectRequest::parse` tells
abbrev pub DisconnectRequestPromise : List ℕ → KnxDisconnectRequest → Type 0
DisconnectRequestPromise s r = told_request r ≡ read_where Channel.request_format s

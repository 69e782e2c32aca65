-- The empty versions that 01 shuts out, each by the predicate that ours has: demand 2 for parsers and builders, demand 3 for tables.
use Rattle.std.specs.Prelude.{ℕ, suc, ◌≤◌, ◌≡◌, refl, Bool, true, false, List, [], ◌∷◌, ◌++◌, length, get_or, drop, replicate, eqb, Ok, None, Result, Err}
use Rattle.std.proofs.Common.{arith, sym, ap, subst, ◌∙◌, get_or-take, get_or-drop, eq-eqb, le-ltb}
use Rattle.wire.specs.Told.{Told, done, verdict}
use Rattle.wire.specs.declared.refusals.Refusal.TheVariants.{TableFull}
use Rattle.constants.specs.declared.services.ServiceType.{ServiceType}
use Rattle.constants.specs.declared.services.ServiceType.TheVariants.{TunnellingRequest}
use Rattle.header.specs.Header as Header
use Rattle.header.specs.HeaderLaws as HeaderLaws
use Rattle.header.specs.declared.KnxnetIpHeader.{KnxnetIpHeader}
use Rattle.frame.specs.RoundTrip.{stands-first}
use Rattle.pci.specs.declared.transport.Tpci.TheVariants.{UnnumberedData}
use Rattle.ldata.specs.Count.{count_by}
use Rattle.ldata.specs.LData as LData
use Rattle.ldata.specs.Builder as LDataBuilder
use Rattle.ldata.specs.RoundTrip as LDataRoundTrip
use Rattle.ldata.specs.declared.count.Counting.{Counting}
use Rattle.ldata.specs.declared.count.Counting.TheVariants.{Crate, Standard}
use Rattle.ldata.specs.declared.builder.LDataBuilder.{LDataBuilder}
use Rattle.tunnel_datagram.specs.Hearing.{heard_in}
use Rattle.tunnel_datagram.specs.declared.hearing.Heard.{Heard}
use Rattle.tunnel_datagram.specs.declared.hearing.Heard.TheVariants.{Request, Ack}
use Rattle.tunnel.specs.Rules.{afresh}
use Rattle.tunnel.specs.declared.rules.Said.TheVariants.{Ignored}
use Rattle.tunnel_model.specs.Firsts.{one_if, is_none, count_of}
use Rattle.tunnel_model.specs.FirstLaws.{clash, none_some}
use Rattle.tunnel_model.specs.Store.{Machine, Seen, Isolates, Others, Opens}
use Rattle.tunnel_model.specs.Calls.{Call, Open, Close, Timeout, Send, Datagram, DatagramIn, Outcome, out_of, refuses, says}
use Rattle.tunnel_model.specs.Table.{chan, empty_of, table_of}
use Rattle.tunnel_table.specs.Places.{Place, kind}
use Rattle.additional_info.specs.Area.{Info}
use Rattle.additional_info.specs.Area as Area
use Rattle.additional_info.specs.AppendingLaws as AppendingLaws
use Rattle.additional_info.specs.declared.info_type.AdditionalInfoType.{AdditionalInfoType}
use Rattle.claims.specs.AdditionalInfo.{info_told, Appends}
use Rattle.claims.specs.Demand2.{ReadsBack, header, Builds, ldata_proper, ldata_bytes, ldata, LDataBuilds}
use Rattle.claims.specs.Examples.{request, room}
use Rattle.wire.specs.declared.refusals.Fault.{Fault}

-- ---- parsers

-- any parser that never answers 0, of any record that has a proper one
module _ {A : Type 0} (proper : A → Type 0) (layout : A → List ℕ) (tells : A → Told) (parse : List ℕ → Told) (reads : ReadsBack proper layout tells parse) where
  never_answers : (a : A) → proper a → (tells a).number ≡ 0 → ((s : List ℕ) → (parse s).number ≡ 0 → ⊥) → ⊥
  never_answers a p zero never = never (layout a ++ []) (ap (λ (t : Told). t.number) (reads a [] p) ∙ zero)

  -- any parser whose accepted answers are all one record, where two proper ones differ
  one_record : (a b : A) (t : Told) → proper a → proper b → (tells a).number ≡ 0 → (tells b).number ≡ 0 → (tells a ≡ tells b → ⊥) → ((s : List ℕ) → (parse s).number ≡ 0 → parse s ≡ t) → ⊥
  one_record a b t pa pb za zb differ fixed =
      let x : tells a ≡ t = sym (reads a [] pa) ∙ fixed (layout a ++ []) (ap (λ (u : Told). u.number) (reads a [] pa) ∙ za) in
      let y : tells b ≡ t = sym (reads b [] pb) ∙ fixed (layout b ++ []) (ap (λ (u : Told). u.number) (reads b [] pb) ∙ zb) in
      differ (x ∙ sym y)

-- a proper header of a total length
abbrev total : ℕ → KnxnetIpHeader
total n = record { header_length = 6; protocol_version = 0x10; service_type = TunnellingRequest; total_length = n }

total_proper : (n : ℕ) → HeaderLaws.Proper (total n)
total_proper n = record { length_6 = refl; version_1 = refl }

totals_differ : header (total 6) ≡ header (total 7) → ⊥
totals_differ x = let y : ◌≡◌ {A = ℕ} 6 7 = ap (λ (t : Told). get_or t.values 3 0) x in omega arith

pub refuses_everything : (parse : List ℕ → Told) → ((s : List ℕ) → (parse s).number ≡ 0 → ⊥) → ReadsBack HeaderLaws.Proper Header.layout header parse → ⊥
refuses_everything parse never reads = never_answers HeaderLaws.Proper Header.layout header parse reads (total 6) (total_proper 6) refl never

pub returns_fixed : (parse : List ℕ → Told) (t : Told) → ((s : List ℕ) → (parse s).number ≡ 0 → parse s ≡ t) → ReadsBack HeaderLaws.Proper Header.layout header parse → ⊥
returns_fixed parse t fixed reads =
    one_record HeaderLaws.Proper Header.layout header parse reads (total 6) (total 7) t (total_proper 6) (total_proper 7) refl refl totals_differ fixed

-- a group write of a six-bit number, without data
abbrev writing : ℕ → LDataBuilder
writing control_1 = record {
  ctrl1 = record { raw = control_1 };
  ctrl2 = record { raw = 0xE0 };
  source = record { 0 = 0x1105 };
  destination_raw = 0x0803;
  tpci = UnnumberedData;
  apci_code = 0x080;
  six_bit = 1;
}

-- with room for its nine bytes it is taken, in either count
writing_proper : (c : Counting) (control_1 m : ℕ) → 9 ≤ m → verdict (LDataBuilder.checks_in (count_by c) (writing control_1) 0 m) ≡ Ok tt
writing_proper Crate control_1 m h = simp (le-ltb m 9 h)
writing_proper Standard control_1 m h = simp (le-ltb m 9 h)

writing-size : (c : Counting) (control_1 : ℕ) → LDataRoundTrip.size_in (count_by c) (writing control_1) 0 ≡ 9
writing-size Crate control_1 = refl
writing-size Standard control_1 = refl

writing_takes : (c : Counting) (control_1 : ℕ) → ldata_proper c (writing control_1, [])
writing_takes c control_1 = writing_proper c control_1 (LDataRoundTrip.size_in (count_by c) (writing control_1) 0) (omega (arith, writing-size c control_1))

writings_differ : (c : Counting) → ldata c (writing 0x94, []) ≡ ldata c (writing 0x95, []) → ⊥
writings_differ Crate x = let y : ◌≡◌ {A = ℕ} 0x94 0x95 = ap (λ (t : Told). get_or t.values 0 0) x in omega arith
writings_differ Standard x = let y : ◌≡◌ {A = ℕ} 0x94 0x95 = ap (λ (t : Told). get_or t.values 0 0) x in omega arith

pub ldata_refuses_everything : (c : Counting) (parse : List ℕ → Told) → ((s : List ℕ) → (parse s).number ≡ 0 → ⊥) → ReadsBack (ldata_proper c) (ldata_bytes c) (ldata c) parse → ⊥
ldata_refuses_everything c parse never reads =
    never_answers (ldata_proper c) (ldata_bytes c) (ldata c) parse reads (writing 0x94, []) (writing_takes c 0x94) refl never

pub ldata_returns_fixed : (c : Counting) (parse : List ℕ → Told) (t : Told) → ((s : List ℕ) → (parse s).number ≡ 0 → parse s ≡ t) → ReadsBack (ldata_proper c) (ldata_bytes c) (ldata c) parse → ⊥
ldata_returns_fixed c parse t fixed reads =
    one_record (ldata_proper c) (ldata_bytes c) (ldata c) parse reads (writing 0x94, []) (writing 0x95, []) t (writing_takes c 0x94) (writing_takes c 0x95) refl refl (writings_differ c) fixed

-- a record of a type without data
abbrev bare : ℕ → Info
bare code = record { code = code; «data» = [] }

bares_differ : info_told (bare 1) ≡ info_told (bare 2) → ⊥
bares_differ x = let y : ◌≡◌ {A = ℕ} 1 2 = ap (λ (t : Told). get_or t.values 2 0) x in omega arith

pub info_refuses_everything : (parse : List ℕ → Told) → ((s : List ℕ) → (parse s).number ≡ 0 → ⊥) → ReadsBack (λ (i : Info). Unit {0}) Area.layout info_told parse → ⊥
info_refuses_everything parse never reads = never_answers (λ (i : Info). Unit {0}) Area.layout info_told parse reads (bare 1) tt refl never

pub info_returns_fixed : (parse : List ℕ → Told) (t : Told) → ((s : List ℕ) → (parse s).number ≡ 0 → parse s ≡ t) → ReadsBack (λ (i : Info). Unit {0}) Area.layout info_told parse → ⊥
info_returns_fixed parse t fixed reads = one_record (λ (i : Info). Unit {0}) Area.layout info_told parse reads (bare 1) (bare 2) t tt tt refl refl bares_differ fixed

-- ---- builders

abbrev zeros : List ℕ
zeros = replicate 10 0

-- a builder that writes nothing, whatever it tells
pub writes_nothing : (tells : ServiceType → List ℕ → List ℕ → Told) → Builds tells (λ s body b. b) → ⊥
writes_nothing tells f =
    let x : ◌≡◌ {A = ℕ} 2 0 = ap (λ (t : Told). t.number) (f TunnellingRequest [] zeros (omega arith) (omega arith)).1.fields_back in
    omega arith

-- ten zeros are a data packet with L = 0, which neither count allows
zeros-refused : (c : Counting) → (LData.parse_by01 (count_by c) zeros).number ≡ 2
zeros-refused Crate = refl
zeros-refused Standard = refl

pub ldata_writes_nothing : (c : Counting) (tells : LDataBuilder → List ℕ → List ℕ → Told) → LDataBuilds c tells (λ b d buf. buf) → ⊥
ldata_writes_nothing c tells f =
    let x : ◌≡◌ {A = ℕ} 2 0 = sym (zeros-refused c) ∙ ap (λ (t : Told). t.number) (f (writing 0x94) [] zeros (writing_proper c 0x94 10 (omega arith))).1.fields_back in
    omega arith

-- a writer of additional information that writes nothing: of ten zeros the first two are a record of type 0, not 1
pub append_writes_nothing : (tells : List ℕ → AdditionalInfoType → List ℕ → List ℕ → Told) → Appends tells (λ s t d b. b) → ⊥
append_writes_nothing tells f =
    let x = (f [] AdditionalInfoType.PlMediumInfo [] zeros AppendingLaws.empty_readable (omega arith) (omega arith)).1 in
    let y : ◌≡◌ {A = ℕ} 0 1 = ap (λ (l : List ℕ). get_or l 0 0) x.copied in
    omega arith

-- any builder that reports more than stands changed: the last byte that it reports is as it was
pub reports_more : (tells : ServiceType → List ℕ → List ℕ → Told) (after : ServiceType → List ℕ → List ℕ → List ℕ)
    → ((s : ServiceType) (body b : List ℕ) (n : ℕ) → tells s body b ≡ done (suc n ∷ []) → get_or (after s body b) n 0 ≡ get_or b n 0) → Builds tells after → ⊥
reports_more tells after stays f =
    let x = f TunnellingRequest (1 ∷ []) zeros (omega arith) (omega arith) in
    let a : List ℕ = after TunnellingRequest (1 ∷ []) zeros in
    let same : get_or a 6 0 ≡ 0 = stays TunnellingRequest (1 ∷ []) zeros 6 x.0 in
    let one : get_or a 6 0 ≡ 1 = sym (get_or-take 7 a 6 0 (omega arith)) ∙ ap (λ (l : List ℕ). get_or l 6 0) (stands-first TunnellingRequest (1 ∷ []) zeros a x.1) in
    let z : ◌≡◌ {A = ℕ} 0 1 = sym same ∙ one in
    omega arith

-- and any that reports fewer: the byte behind its count is changed
pub reports_fewer : (tells : ServiceType → List ℕ → List ℕ → Told) (after : ServiceType → List ℕ → List ℕ → List ℕ)
    → ((s : ServiceType) (body b : List ℕ) (n : ℕ) → tells s body b ≡ done (n ∷ []) → get_or (after s body b) n 0 ≡ get_or b n 0 → ⊥) → Builds tells after → ⊥
reports_fewer tells after changes f =
    let x = f TunnellingRequest [] zeros (omega arith) (omega arith) in
    changes TunnellingRequest [] zeros 6 x.0 (sym (get_or-drop 6 (after TunnellingRequest [] zeros) 0 0) ∙ ap (λ (l : List ℕ). get_or l 0 0) x.1.rest_back)

pub ldata_reports_fewer : (c : Counting) (tells : LDataBuilder → List ℕ → List ℕ → Told) (after : LDataBuilder → List ℕ → List ℕ → List ℕ)
    → ((b : LDataBuilder) (d buf : List ℕ) (n : ℕ) → tells b d buf ≡ done (n ∷ []) → get_or (after b d buf) n 0 ≡ get_or buf n 0 → ⊥) → LDataBuilds c tells after → ⊥
ldata_reports_fewer c tells after changes f =
    let x = f (writing 0x94) [] zeros (writing_proper c 0x94 10 (omega arith)) in
    let size = writing-size c 0x94 in
    let later : drop 9 (after (writing 0x94) [] zeros) ≡ drop 9 zeros = subst (λ (k : ℕ). drop k (after (writing 0x94) [] zeros) ≡ drop k zeros) size x.1.rest_back in
    changes (writing 0x94) [] zeros 9 (x.0 ∙ ap (λ (k : ℕ). done (k ∷ [])) size) (sym (get_or-drop 9 (after (writing 0x94) [] zeros) 0 0) ∙ ap (λ (l : List ℕ). get_or l 0 0) later)

-- ---- tables

abbrev plain : Machine chan
plain = table_of kind 8

-- the end of the second view of a trace, 99 where there is none
abbrev second_end : List (Seen chan) → ℕ
second_end [] = 99
second_end (x ∷ []) = 99
second_end (x ∷ y ∷ rest) = y.0.0.end

-- a table that handles the first datagram and afterwards says "ignored"
abbrev nap : Bool → List Place → Call → Outcome × (List Place × Bool)
nap true l (DatagramIn form bytes out) = (says Ignored out, (l, true))
nap false l (DatagramIn form bytes out) = ((plain.step l (DatagramIn form bytes out)).0, ((plain.step l (DatagramIn form bytes out)).1, true))
nap f l (Open b) = ((plain.step l (Open b)).0, ((plain.step l (Open b)).1, f))
nap f l (Close b) = ((plain.step l (Close b)).0, ((plain.step l (Close b)).1, f))
nap f l (Timeout b) = ((plain.step l (Timeout b)).0, ((plain.step l (Timeout b)).1, f))
nap f l (Send b cemi out) = ((plain.step l (Send b cemi out)).0, ((plain.step l (Send b cemi out)).1, f))

abbrev pub drowsy : Machine chan
drowsy = record { Table = List Place × Bool; start = (empty_of kind 8, false); look = λ b t. plain.look b t.0; step = λ t c. nap t.1 t.0 c }

pub ignores_after_first : Isolates chan drowsy → ⊥
ignores_after_first f =
    let z : ◌≡◌ {A = ℕ} 0 12 = ap second_end (f (Open 21 ∷ []) (Datagram (request 21 0) room ∷ Datagram (request 21 1) room ∷ []) 21 afresh refl) in
    omega arith

-- a table that a refused datagram empties
abbrev shaken : Result Heard Fault → List Place → List Place
shaken (Ok (Request channel n end)) l = l
shaken (Ok (Ack channel n status)) l = l
shaken (Err e) l = empty_of kind 8

abbrev shake : List Place → Call → List Place
shake l (DatagramIn form bytes out) = shaken (heard_in form bytes) l
shake l (Open b) = l
shake l (Close b) = l
shake l (Timeout b) = l
shake l (Send b cemi out) = l

abbrev pub touchy : Machine chan
touchy = record { Table = List Place; start = empty_of kind 8; look = plain.look; step = λ l c. ((plain.step l c).0, shake (plain.step l c).1 c) }

pub disturbed_by_refused : Isolates chan touchy → ⊥
disturbed_by_refused f =
    let z : ◌≡◌ {A = ℕ} 99 12 = ap second_end (f (Open 21 ∷ []) (Datagram (request 21 0) room ∷ Datagram [] room ∷ Datagram (request 21 1) room ∷ []) 21 afresh refl) in
    omega arith

-- any table that never shows a channel, however it answers
module _ (M : Machine chan) (hidden : (b : ℕ) (l : M.Table) → M.look b l ≡ None) where
  nobody : (b : ℕ) (l : M.Table) → Others chan M 8 b l → ⊥
  nobody b l o = go o.ids o.many o.all
    where
      go : (is : List ℕ) → length is ≡ 8 → ((i : ℕ) → 1 ≤ count_of (λ j. eqb j i) is → is_none (M.look i l) ≡ false) → ⊥
      go [] k all = let z : ◌≡◌ {A = ℕ} 0 8 = k in omega arith
      go (i ∷ is) k all = clash (sym (ap is_none (hidden i l)) ∙ all i (let h = ap one_if (eq-eqb i i refl) in omega arith))

  pub never_opens : Opens chan 8 M → ⊥
  never_opens f =
      let x = f [] (Open 0) 0 refl refl (hidden 0 M.start) in
      none_some (sym (hidden 0 (M.step M.start (Open 0)).1) ∙ (x.afresh (nobody 0 M.start)).1)

-- such as one that refuses every call with 8
abbrev pub shut : Machine chan
shut = record { Table = Unit {0}; start = tt; look = λ b t. None; step = λ t c. (refuses TableFull (out_of c), t) }

pub always_full : Opens chan 8 shut → ⊥
always_full = never_opens shut (λ b l. refl)

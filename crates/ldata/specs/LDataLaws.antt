-- An L_Data frame: how its parse goes on from TPCI, what it is made of, and no second answer. Proved over how L counts. Assumes nothing.
use Rattle.std.specs.Prelude.{ℕ, ◌+◌, ◌-◌, ◌≤◌, ◌≡◌, refl, Bool, true, false, not, cond, List, [], ◌∷◌, ◌++◌, length, get_or, take, drop, ltb, Result, Ok, Err, Option, Some, None}
use Rattle.std.proofs.Common.{arith, sym, ap, ◌∙◌, append-nil, take-suc, take-add, ltb-false}
use Rattle.wire.specs.Told.{Told, done, viewed, Check, ◌⇒◌, verdict, judged}
use Rattle.wire.specs.ToldLaws.{let_pass, is_true, holds, was_accepted, let_through, same, one_to_one, answer_of, back_refused}
use Rattle.wire.specs.Places.{standing, and_then}
use Rattle.wire.specs.PlaceLaws.{stands_then, stands-accepted, accepted-stands, located_pass, located_fall}
use Rattle.wire.specs.Layout.{put}
use Rattle.wire.specs.LayoutLaws.{Bytes, put-get}
use Rattle.wire.specs.Parts.{shown}
use Rattle.wire.specs.PartLaws.{part_is}
use Rattle.wire.specs.PartLaws as PartLaws
use Rattle.wire.specs.declared.parts.View.{View}
use Rattle.wire.specs.declared.refusals.Fault.{Fault}
use Rattle.wire.specs.declared.refusals.Refusal.TheVariants.{BufferTooSmall, InvalidFrame}
use Rattle.pci.specs.Transport.{is_data}
use Rattle.pci.specs.Transport as Transport
use Rattle.pci.specs.Application.{is_unknown}
use Rattle.pci.specs.Application as Application
use Rattle.pci.specs.PciLaws.{tpci_of, tpci_back, behind_tpci, apci_from, apci_back, no_name}
use Rattle.pci.specs.declared.transport.Tpci.{Tpci}
use Rattle.pci.specs.declared.transport.Tpci.TheVariants.{UnnumberedData, NumberedData, UnnumberedControl, NumberedControl}
use Rattle.pci.specs.declared.application.Apci.{Apci}
use Rattle.ldata.specs.Count.{Count, start_of}
use Rattle.ldata.specs.CountLaws.{Lawful}
use Rattle.ldata.specs.LData.{fields, data_byte, apci_in, values, values_in, end_check, length_check, checks, length_offsets, offsets, byte_checks, told, parse_where, data_by01, ParseInPromise, DataInPromise, told_group, told_individual, DestinationGroupPromise, DestinationIndividualPromise, IsServicePromise}
use Rattle.ldata.specs.declared.count.Counting.{Counting}
use Rattle.ldata.specs.declared.ldata.LDataFields.{LDataFields}
use Rattle.address.specs.declared.GroupAddress.{GroupAddress}
use Rattle.address.specs.declared.IndividualAddress.{IndividualAddress}

-- an offset for each check, in either order
pub one_each : (C : Count) (n : ℕ) (d : Bool) (l : ℕ) → length (offsets n) ≡ length (checks C n d l)
one_each C n d l = go C.allowed_first
  where
    go : (first : Bool) → length (offsets n) ≡ length (ltb n C.least ⇒ BufferTooSmall ∷ cond first (length_check C d l ∷ end_check C n l ∷ []) (end_check C n l ∷ length_check C d l ∷ []))
    go true = refl
    go false = refl

-- ---- on from TPCI

-- whether a packet that was read from a byte is a data packet is said by the byte
pub same_kind : (b : ℕ) (t : Tpci) (d : Bool) → Transport.FromPromise b t → d ≡ is_data t → d ≡ data_byte b
same_kind b t d from is = is ∙ ap (λ (vs : List ℕ). ltb (get_or vs 0 0) 2) from

module _ (C : Count) (s : List ℕ) (d : Bool) (kind : d ≡ data_byte (get_or s 7 0)) where
  abbrev os : List ℕ
  os = offsets (length s)

  over : standing (checks C (length s) d (get_or s 6 0)) os ≡ standing (byte_checks C s) os
  over = ap (λ (e : Bool). standing (checks C (length s) e (get_or s 6 0)) os) kind

  pub stood : (f : LDataFields) → values f ≡ values_in C s → standing (checks C (length s) d (get_or s 6 0)) os ≡ (Ok tt) → told (Ok f) ≡ parse_where C s
  stood f read q =
      let each = one_each C (length s) (data_byte (get_or s 7 0)) (get_or s 6 0) in
      ap done read ∙ sym (located_pass (byte_checks C s) os (done (values_in C s)) each refl (stands-accepted (byte_checks C s) os (sym over ∙ q)))

  pub fell : (e : Fault) → standing (checks C (length s) d (get_or s 6 0)) os ≡ Err e → told (Err e) ≡ parse_where C s
  fell e q = sym (located_fall (byte_checks C s) os (done (values_in C s)) e (sym over ∙ q))

-- the kind is the first of a TPCI's values
kind-first : (t : Tpci) (l : List ℕ) → get_or (Transport.values t ++ l) 0 0 ≡ get_or (Transport.values t) 0 0
kind-first UnnumberedData l = refl
kind-first (NumberedData n) l = refl
kind-first UnnumberedControl l = refl
kind-first (NumberedControl n) l = refl

-- ---- what is accepted

-- what the checks let through: enough bytes, the end among them, and an allowed L
pub record Stands (C : Count) (n : ℕ) (d : Bool) (l : ℕ) : Type 0 where
  pub enough : C.least ≤ n
  pub reaches : C.end_of l ≤ n
  pub fits : not (C.allowed d l) ≡ false

-- the last two checks refuse with one number at one place, so their order does not show
pub last_two : (C : Count) (n : ℕ) (d : Bool) (l : ℕ) → standing (drop 1 (checks C n d l)) length_offsets ≡ standing (end_check C n l ∷ length_check C d l ∷ []) length_offsets
last_two C n d l = go C.allowed_first (ltb n (C.end_of l)) (not (C.allowed d l))
  where
    go : (first a b : Bool)
        → standing (cond first (b ⇒ InvalidFrame ∷ a ⇒ InvalidFrame ∷ []) (a ⇒ InvalidFrame ∷ b ⇒ InvalidFrame ∷ [])) length_offsets ≡ standing (a ⇒ InvalidFrame ∷ b ⇒ InvalidFrame ∷ []) length_offsets
    go false a b = refl
    go true true true = refl
    go true true false = refl
    go true false true = refl
    go true false false = refl

-- the checks with the end asked first
abbrev pub end_first : Count → ℕ → Bool → ℕ → List Check
end_first C n d l = ltb n C.least ⇒ BufferTooSmall ∷ end_check C n l ∷ length_check C d l ∷ []

pub any_order : (C : Count) (n : ℕ) (d : Bool) (l : ℕ) → standing (checks C n d l) (offsets n) ≡ standing (end_first C n d l) (offsets n)
any_order C n d l =
    let small : List Check = ltb n C.least ⇒ BufferTooSmall ∷ [] in
    stands_then small (drop 1 (checks C n d l)) (n ∷ []) length_offsets refl
    ∙ ap (and_then (standing small (n ∷ []))) (last_two C n d l)
    ∙ sym (stands_then small (end_check C n l ∷ length_check C d l ∷ []) (n ∷ []) length_offsets refl)

pub accepts_either : (C : Count) (n : ℕ) (d : Bool) (l : ℕ) → verdict (end_first C n d l) ≡ Ok tt → verdict (checks C n d l) ≡ Ok tt
accepts_either C n d l q = stands-accepted (checks C n d l) (offsets n) (any_order C n d l ∙ accepted-stands (end_first C n d l) (offsets n) q)

pub accepted : (C : Count) (n : ℕ) (d : Bool) (l : ℕ) → verdict (checks C n d l) ≡ Ok tt → Stands C n d l
accepted C n d l accepts =
    let small : Check = ltb n C.least ⇒ BufferTooSmall in
    let q = stands-accepted (end_first C n d l) (offsets n) (sym (any_order C n d l) ∙ accepted-stands (checks C n d l) (offsets n) accepts) in
    record {
      enough = ltb-false n C.least (holds [] (ltb n C.least) BufferTooSmall (end_check C n l ∷ length_check C d l ∷ []) q);
      reaches = ltb-false n (C.end_of l) (holds (small ∷ []) (ltb n (C.end_of l)) InvalidFrame (length_check C d l ∷ []) q);
      fits = holds (small ∷ end_check C n l ∷ []) (not (C.allowed d l)) InvalidFrame [] q;
    }

-- the first eight bytes of a record, by its TPCI byte
abbrev pub front_of : LDataFields → ℕ → List ℕ
front_of f tpci = put fields (f.ctrl1.raw ∷ f.ctrl2.raw ∷ f.source.0 ∷ f.destination_raw ∷ f.npdu_length ∷ tpci ∷ [])

module _ (C : Count) (s : List ℕ) (f : LDataFields) (parsed : told (Ok f) ≡ parse_where C s) where
  -- the values of the record are those that stand in the bytes
  pub read : values f ≡ values_in C s
  read = ap (λ (t : Told). t.values) (let_through (byte_checks C s) (done (values_in C s)) (told (Ok f)) refl parsed)

  -- its APCI is the one that stands there
  pub apci_read : f.apci ≡ apci_in C (data_byte (get_or s 7 0)) (get_or s 7 0) (get_or s 8 0)
  apci_read =
      let stands-there : Apci = apci_in C (data_byte (get_or s 7 0)) (get_or s 7 0) (get_or s 8 0) in
      sym (apci_back f.apci) ∙ ap apci_from (sym (behind_tpci f.tpci (Application.values f.apci)) ∙ ap (drop 7) read) ∙ apci_back stands-there

  -- its data is where its bytes say
  pub kind_read : is_data f.tpci ≡ data_byte (get_or s 7 0)
  kind_read = ap (λ (k : ℕ). ltb k 2) (sym (kind-first f.tpci (Application.values f.apci)) ∙ ap (λ (vs : List ℕ). get_or vs 5 0) read)

  pub data_read : data_by01 C f s ≡ judged (byte_checks C s) (viewed (start_of (data_byte (get_or s 7 0))) (C.end_of (get_or s 6 0)))
  data_read =
      let of : Bool → ℕ → Told = λ d l. judged (checks C (length s) d l) (viewed (start_of d) (C.end_of l)) in
      ap (λ (d : Bool). of d f.npdu_length) kind_read ∙ ap (of (data_byte (get_or s 7 0))) (ap (λ (vs : List ℕ). get_or vs 4 0) read)

  pub stands : Stands C (length s) (data_byte (get_or s 7 0)) (get_or s 6 0)
  stands = accepted C (length s) (data_byte (get_or s 7 0)) (get_or s 6 0) (was_accepted (byte_checks C s) (done (values_in C s)) (told (Ok f)) refl parsed)

  -- the first eight bytes are the layout of the record and the TPCI byte
  pub has_layout : Lawful C → Bytes s
      → take 8 s ≡ front_of f (get_or s 7 0)
  has_layout laws b =
      sym (put-get fields 0 s b (omega (arith, stands.enough, laws.eight)))
      ∙ ap (λ (vs : List ℕ). put fields (get_or vs 0 0 ∷ get_or vs 1 0 ∷ get_or vs 2 0 ∷ get_or vs 3 0 ∷ get_or vs 4 0 ∷ get_or s 7 0 ∷ [])) (sym read)

  -- what stands before the data
  before_data : (d : Bool) → start_of d ≤ length s → take (start_of d) s ≡ take 8 s ++ cond d (get_or s 8 0 ∷ []) []
  before_data true h = take-suc s 8 0 (omega arith)
  before_data false h = sym (append-nil (take 8 s))

  -- and the whole up to its end is these bytes, the APCI byte of a data packet, and the data
  pub laid_out : Lawful C → Bytes s → (part : List ℕ) → part ≡ shown s (data_by01 C f s)
      → take (C.end_of f.npdu_length) s
      ≡ (front_of f (get_or s 7 0) ++ cond (is_data f.tpci) (get_or s 8 0 ∷ []) []) ++ part
  laid_out laws b part is =
      let d = data_byte (get_or s 7 0) in
      let l = get_or s 6 0 in
      let a = start_of d in
      let e = C.end_of l in
      let starts : a ≤ e = laws.starts d l (is_true (C.allowed d l) stands.fits) in
      let together : e ≡ a + (e - a) = omega (arith, starts) in
      let at = viewed a e in
      let behind : part ≡ take (e - a) (drop a s) =
      is ∙ ap (shown s) (data_read ∙ let_pass (byte_checks C s) at (was_accepted (byte_checks C s) (done (values_in C s)) (told (Ok f)) refl parsed)) ∙ part_is s a e starts stands.reaches in
      let front : take a s ≡ front_of f (get_or s 7 0) ++ cond (is_data f.tpci) (get_or s 8 0 ∷ []) [] =
      before_data d (omega (arith, starts, stands.reaches)) ∙ ap (λ (w : List ℕ). w ++ cond d (get_or s 8 0 ∷ []) []) (has_layout laws b)
      ∙ ap (λ (k : Bool). front_of f (get_or s 7 0) ++ cond k (get_or s 8 0 ∷ []) []) (sym kind_read) in
      ap (λ (k : ℕ). take (C.end_of k) s) (ap (λ (vs : List ℕ). get_or vs 4 0) read) ∙ ap (λ (k : ℕ). take k s) together
      ∙ take-add a (e - a) s ∙ ap (λ (w : List ℕ). w ++ take (e - a) (drop a s)) front
      ∙ ap (λ (w : List ℕ). (front_of f (get_or s 7 0) ++ cond (is_data f.tpci) (get_or s 8 0 ∷ []) []) ++ w) (sym behind)

-- a control packet asks no named service, not even that of code 0
pub control_never : (C : Count) → Lawful C → (s : List ℕ) (f : LDataFields) (code : ℕ) (r : Bool)
    → told (Ok f) ≡ parse_where C s → data_byte (get_or s 7 0) ≡ false → IsServicePromise code f r → r ≡ false
control_never C laws s f code r p control is =
    let of : Bool → Bool = λ d. is_unknown (apci_in C d (get_or s 7 0) (get_or s 8 0)) in
    is ∙ no_name f.apci code (ap is_unknown (apci_read C s f p) ∙ ap of control ∙ laws.unnamed (get_or s 7 0))

-- ---- no second answer

-- the record with these nine values
unfoldable fields_of : List ℕ → LDataFields
fields_of vs = record {
  ctrl1 = record { raw = get_or vs 0 0 };
  ctrl2 = record { raw = get_or vs 1 0 };
  source = record { 0 = get_or vs 2 0 };
  destination_raw = get_or vs 3 0;
  npdu_length = get_or vs 4 0;
  tpci = tpci_of (drop 5 vs);
  apci = apci_from (drop 7 vs);
}

answered : List ℕ → Result LDataFields Fault
answered vs = Ok (fields_of vs)

told_back : (r : Result LDataFields Fault) → answer_of answered Err (told r) ≡ r
unfolding answered fields_of
told_back (Ok f) =
    let vs : List ℕ = Application.values f.apci in
    let of : Tpci → Apci → (Result LDataFields Fault) = λ t a. Ok (record { ctrl1 = f.ctrl1; ctrl2 = f.ctrl2; source = f.source; destination_raw = f.destination_raw; npdu_length = f.npdu_length; tpci = t; apci = a }) in
    ap (λ (t : Tpci). of t (apci_from (drop 2 (Transport.values f.tpci ++ vs)))) (tpci_back f.tpci vs)
    ∙ ap (λ (l : List ℕ). of f.tpci (apci_from l)) (behind_tpci f.tpci vs)
    ∙ ap (of f.tpci) (apci_back f.apci)
told_back (Err e) = back_refused answered Err 9 e

pub told_one : (r q : Result LDataFields Fault) → told r ≡ told q → r ≡ q
told_one = one_to_one told (answer_of answered Err) told_back

pub parse_one : (c : Counting) (s : List ℕ) (r q : Result LDataFields Fault) → ParseInPromise c s r → ParseInPromise c s q → r ≡ q
parse_one c s r q a b = told_one r q (same a b)

pub data_one : (c : Counting) (f : LDataFields) (s : List ℕ) (r q : Result View Fault) → DataInPromise c f s r → DataInPromise c f s q → r ≡ q
data_one c f s r q a b = PartLaws.told_one r q (same a b)

-- the address of two values, and a function back for each kind
abbrev group_of : Told → Option GroupAddress
group_of t = get_or (None ∷ Some (record { 0 = get_or t.values 1 0 }) ∷ []) (get_or t.values 0 0) None

group_back : (r : Option GroupAddress) → group_of (told_group r) ≡ r
group_back (Some a) = refl
group_back None = refl

abbrev individual_of : Told → Option IndividualAddress
individual_of t = get_or (None ∷ Some (record { 0 = get_or t.values 1 0 }) ∷ []) (get_or t.values 0 0) None

individual_back : (r : Option IndividualAddress) → individual_of (told_individual r) ≡ r
individual_back (Some a) = refl
individual_back None = refl

pub destination_group_one : (f : LDataFields) (r q : Option GroupAddress) → DestinationGroupPromise f r → DestinationGroupPromise f q → r ≡ q
destination_group_one f r q a b = one_to_one told_group group_of group_back r q (same a b)

pub destination_individual_one : (f : LDataFields) (r q : Option IndividualAddress)
    → DestinationIndividualPromise f r → DestinationIndividualPromise f q → r ≡ q
destination_individual_one f r q a b = one_to_one told_individual individual_of individual_back r q (same a b)

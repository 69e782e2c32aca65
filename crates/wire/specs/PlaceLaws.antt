-- The check that decided, in every list of checks: the verdict is its own, it is broken, and all before it hold; where none is broken, all is accepted. Its offset: of checks one after another, of a part that starts later, and of the answer. Assumes nothing.
use Rattle.std.specs.Prelude.{ℕ, zero, suc, ◌+◌, ◌≤◌, ◌<◌, ◌≡◌, refl, Bool, true, false, cond, List, [], ◌∷◌, ◌++◌, length, get_or, replicate, Ok, Err}
use Rattle.std.proofs.Common.{arith, sym, ap, ◌∙◌}
use Rattle.wire.specs.Clash.{never}
use Rattle.wire.specs.Told.{Told, refused, nowhere, Check, ◌⇒◌, verdict, answer, judged}
use Rattle.wire.specs.ToldLaws.{number_one, never_done, refused_as}
use Rattle.wire.specs.Places.{place, broken_at, verdict_at, offset_by, at, located, stands_at, standing, moved, later_fault, later, and_then, Reader, all_checks, all_offsets, says_all, Within}
use Rattle.wire.specs.declared.refusals.Refusal.{Refusal}
use Rattle.wire.specs.declared.refusals.Fault.{Fault}
use Rattle.wire.specs.Told.{Verdict}
use Rattle.wire.specs.Places.{Standing}

-- what is said of a list of checks
pub record Decided (cs : List Check) : Type 0 where
  pub decides : verdict cs ≡ verdict_at cs (place cs)
  pub in_range : place cs ≤ length cs
  pub is_broken : place cs < length cs → broken_at cs (place cs) ≡ true
  pub unbroken_before : (i : ℕ) → i < place cs → broken_at cs i ≡ false
  pub none-broken : verdict cs ≡ Ok tt → place cs ≡ length cs

-- one check more in front: where it is broken it decides, else the others do
in_front : (broken b : Bool) (cs : List Check) → broken ≡ b → Decided cs → (e : _) → Decided (broken ⇒ e ∷ cs)
in_front broken true cs k d e = record {
  decides = rw k;
  in_range = rw k (omega arith);
  is_broken = λ h. rw k;
  unbroken_before = λ i h. absurd (let z : i < 0 = rw k at h in omega arith);
  none-broken = λ q. never cc;
}
in_front broken false cs k d e = record {
  decides = rw k d.decides;
  in_range = rw k (omega (arith, d.in_range));
  is_broken = λ h. (let z : suc (place cs) < suc (length cs) = rw k at h in rw k (d.is_broken (omega arith)));
  unbroken_before = λ i h. before i (rw k at h);
  none-broken = λ q. rw k (ap suc (d.none-broken (rw k at q)));
}
  where
    before : (i : ℕ) → i < suc (place cs) → broken_at (broken ⇒ e ∷ cs) i ≡ false
    before zero h = k
    before (suc j) h = d.unbroken_before j (omega arith)

pub decided : (cs : List Check) → Decided cs
decided [] = record { decides = refl; in_range = omega arith; is_broken = λ h. absurd (omega arith); unbroken_before = λ i h. refl; none-broken = λ q. refl }
decided (broken ⇒ e ∷ cs) = in_front broken broken cs refl (decided cs) e

-- where one refuses, one is broken
pub some_broken : (cs : List Check) (e : Refusal) → verdict cs ≡ Err e → place cs < length cs
some_broken [] e q = never cc
some_broken (broken ⇒ f ∷ cs) e q = go broken q (some_broken cs e)
  where
    go : (b : Bool) → cond b (Err f) (verdict cs) ≡ Err e → (verdict cs ≡ Err e → place cs < length cs) → cond b 0 (suc (place cs)) < suc (length cs)
    go true p later = omega arith
    go false p later = let h = later p in omega arith

-- ---- checks one after another

pub stands_then : (cs ds : List Check) (os ps : List ℕ) → length os ≡ length cs → standing (cs ++ ds) (os ++ ps) ≡ and_then (standing cs os) (standing ds ps)
stands_then [] ds [] ps q = refl
stands_then [] ds (o ∷ os) ps q = absurd (omega arith)
stands_then (broken ⇒ e ∷ cs) ds [] ps q = absurd (omega arith)
stands_then (broken ⇒ e ∷ cs) ds (o ∷ os) ps q = go broken (stands_then cs ds os ps (omega arith))
  where
    go : (b : Bool) → standing (cs ++ ds) (os ++ ps) ≡ and_then (standing cs os) (standing ds ps)
        → stands_at (cond b (Err e) (verdict (cs ++ ds))) (get_or (o ∷ (os ++ ps)) (cond b 0 (suc (place (cs ++ ds)))) 0)
        ≡ and_then (stands_at (cond b (Err e) (verdict cs)) (get_or (o ∷ os) (cond b 0 (suc (place cs))) 0)) (standing ds ps)
    go true h = refl
    go false h = h

-- what fell stays fallen, whatever checks follow
pub falls_still : (cs ds : List Check) (os ps : List ℕ) (f : Fault) → length os ≡ length cs → standing cs os ≡ Err f → standing (cs ++ ds) (os ++ ps) ≡ Err f
falls_still cs ds os ps f q h = stands_then cs ds os ps q ∙ ap (λ (v : Standing). and_then v (standing ds ps)) h

-- where all of them hold, the ones that follow decide
pub stands_on : (cs ds : List Check) (os ps : List ℕ) → length os ≡ length cs → verdict cs ≡ Ok tt → standing (cs ++ ds) (os ++ ps) ≡ standing ds ps
stands_on cs ds os ps q a = stands_then cs ds os ps q ∙ ap (λ (v : Verdict). and_then (stands_at v (offset_by cs os)) (standing ds ps)) a

-- ---- a part that starts later

pub stands-later : (k : ℕ) (cs : List Check) (os : List ℕ) → length os ≡ length cs → standing cs (moved k os) ≡ later k (standing cs os)
stands-later k [] os q = refl
stands-later k (broken ⇒ e ∷ cs) [] q = absurd (omega arith)
stands-later k (broken ⇒ e ∷ cs) (o ∷ os) q = go broken (stands-later k cs os (omega arith))
  where
    go : (b : Bool) → standing cs (moved k os) ≡ later k (standing cs os)
        → stands_at (cond b (Err e) (verdict cs)) (get_or ((k + o) ∷ moved k os) (cond b 0 (suc (place cs))) 0)
        ≡ later k (stands_at (cond b (Err e) (verdict cs)) (get_or (o ∷ os) (cond b 0 (suc (place cs))) 0))
    go true h = refl
    go false h = h

length_moved : (k : ℕ) (os : List ℕ) → length (moved k os) ≡ length os
length_moved k [] = refl
length_moved k (o ∷ os) = ap suc (length_moved k os)

-- for every part: what the reader of the whole says is what the readers of its parts say, one after another, each moved by its start
pub one_reader : (rs : List Reader) → standing (all_checks rs) (all_offsets rs) ≡ says_all rs
one_reader [] = refl
one_reader (r ∷ rs) =
    stands_then r.checks (all_checks rs) (moved r.start r.offsets) (all_offsets rs) (length_moved r.start r.offsets ∙ r.each)
    ∙ ap (λ (v : Standing). and_then v (standing (all_checks rs) (all_offsets rs))) (stands-later r.start r.checks r.offsets r.each)
    ∙ ap (and_then (later r.start (standing r.checks r.offsets))) (one_reader rs)

-- so where all before it stand, what the reader of a part refuses is what the reader of the whole refuses, moved by the part's start, whatever follows
decides_behind : (rs : List Reader) (r : Reader) (qs : List Reader) (e : Fault) → says_all rs ≡ Ok tt → standing r.checks r.offsets ≡ Err e → says_all (rs ++ r ∷ qs) ≡ Err (later_fault r.start e)
decides_behind [] r qs e s q = ap (λ (v : Standing). and_then (later r.start v) (says_all qs)) q
decides_behind (p ∷ rs) r qs e s q = go (later p.start (standing p.checks p.offsets)) s (λ t. decides_behind rs r qs e t q)
  where
    go : (v : Standing) → and_then v (says_all rs) ≡ Ok tt → (says_all rs ≡ Ok tt → says_all (rs ++ r ∷ qs) ≡ Err (later_fault r.start e)) → and_then v (says_all (rs ++ r ∷ qs)) ≡ Err (later_fault r.start e)
    go (Ok _) t behind = behind t
    go (Err f) t behind = never cc

pub every_part : (rs : List Reader) (r : Reader) (qs : List Reader) (e : Fault) → says_all rs ≡ Ok tt → standing r.checks r.offsets ≡ Err e
    → standing (all_checks (rs ++ r ∷ qs)) (all_offsets (rs ++ r ∷ qs)) ≡ Err (later_fault r.start e)
every_part rs r qs e s q = one_reader (rs ++ r ∷ qs) ∙ decides_behind rs r qs e s q

-- ---- from a standing to the answer, and back

stands_at_lem : (v : Verdict) (o : ℕ) → stands_at v o ≡ Ok tt → v ≡ Ok tt
stands_at_lem (Ok _) o q = refl
stands_at_lem (Err e) o q = never cc

pub stands-accepted : (cs : List Check) (os : List ℕ) → standing cs os ≡ Ok tt → verdict cs ≡ Ok tt
stands-accepted cs os q = stands_at_lem (verdict cs) (offset_by cs os) q

pub accepted-stands : (cs : List Check) (os : List ℕ) → verdict cs ≡ Ok tt → standing cs os ≡ Ok tt
accepted-stands cs os q = ap (λ (v : Verdict). stands_at v (offset_by cs os)) q

past : (os : List ℕ) (i : ℕ) → i ≡ length os → get_or os i 0 ≡ 0
past [] i q = refl
past (o ∷ os) zero q = absurd (omega arith)
past (o ∷ os) (suc i) q = past os i (omega arith)

-- where all hold, the offset is 0
pub nothing_decided : (cs : List Check) (os : List ℕ) → length os ≡ length cs → verdict cs ≡ Ok tt → offset_by cs os ≡ 0
nothing_decided cs os q a = past os (place cs) ((decided cs).none-broken a ∙ sym q)

-- and they let the answer through
pub located_pass : (cs : List Check) (os : List ℕ) (t : Told) → length os ≡ length cs → t.offset ≡ 0 → verdict cs ≡ Ok tt → located cs os (judged cs t) ≡ t
located_pass cs os t q z a = ap (λ (v : Verdict). at (offset_by cs os) (answer v t)) a ∙ ap (λ (o : ℕ). at o t) (nothing_decided cs os q a ∙ sym z)

pub located_fall : (cs : List Check) (os : List ℕ) (t : Told) (f : Fault) → standing cs os ≡ Err f → located cs os (judged cs t) ≡ refused (length t.values) f
located_fall cs os t f q = go (verdict cs) (offset_by cs os) q
  where
    go : (v : Verdict) (o : ℕ) → stands_at v o ≡ Err f → at o (answer v t) ≡ refused (length t.values) f
    go (Ok _) o p = never cc
    go (Err e) o p = let h : record { why = e; at = o } ≡ f = cc in ap (refused (length t.values)) h

-- a fall is the verdict's refusal, at the offset of the check that decided
pub falls_so : (cs : List Check) (os : List ℕ) (f : Fault) → standing cs os ≡ Err f → (verdict cs ≡ Err f.why) × (offset_by cs os ≡ f.at)
falls_so cs os f q = go (verdict cs) (offset_by cs os) q
  where
    go : (v : Verdict) (o : ℕ) → stands_at v o ≡ Err f → (v ≡ Err f.why) × (o ≡ f.at)
    go (Ok _) o p = never cc
    go (Err e) o p =
        let why : e ≡ f.why = cc in
        let at-so : o ≡ f.at = cc in
        (ap Err why, at-so)

-- what was refused says where the checks fell
pub was_fallen : (cs : List Check) (os : List ℕ) (t : Told) (k : ℕ) (f : Fault) → t.number ≡ 0 → refused k f ≡ located cs os (judged cs t) → standing cs os ≡ Err f
was_fallen cs os t k f z q = go (verdict cs) (offset_by cs os) q
  where
    go : (v : Verdict) (o : ℕ) → refused k f ≡ at o (answer v t) → stands_at v o ≡ Err f
    go (Ok _) o p = absurd (never_done f.why (ap (λ (u : Told). u.number) p ∙ z))
    go (Err e) o p =
        let same-why : f.why ≡ e = number_one f.why e (ap (λ (u : Told). u.number) p) in
        let same_at : f.at ≡ o = ap (λ (u : Told). u.offset) p in
        rw (← same-why, ← same_at) refl

-- an offset is one of its list
within_at : (m : ℕ) (os : List ℕ) (i : ℕ) → Within m os → get_or os i 0 ≤ m
within_at m [] i w = w
within_at m (o ∷ os) zero w = w.0
within_at m (o ∷ os) (suc i) w = within_at m os i w.1

pub fault_within : (m : ℕ) (cs : List Check) (os : List ℕ) (f : Fault) → Within m os → standing cs os ≡ Err f → f.at ≤ m
fault_within m cs os f w q = go (verdict cs) (offset_by cs os) (within_at m os (place cs) w) q
  where
    go : (v : Verdict) (o : ℕ) → o ≤ m → stands_at v o ≡ Err f → f.at ≤ m
    go (Ok _) o l p = never cc
    go (Err e) o l p = let h : o ≡ f.at = cc in omega arith

-- ---- an answer that has the number beside its record

-- its offset is one of the list
pub offset_within : (m : ℕ) (cs : List Check) (os : List ℕ) (t u : Told) → Within m os → u ≡ located cs os t → u.offset ≤ m
offset_within m cs os t u w q =
    let h : u.offset ≡ offset_by cs os = ap (λ (x : Told). x.offset) q in
    omega (arith, h, within_at m os (place cs) w)

was_broken : {o : ℕ} (cs : List Check) (t u : Told) → t.number ≡ 0 → u ≡ at o (judged cs t) → (u.number ≡ 0 → ⊥) → place cs < length cs
was_broken cs t u z q n = go (verdict cs) refl (ap (λ (x : Told). x.number) q)
  where
    go : (v : Verdict) → verdict cs ≡ v → u.number ≡ (answer v t).number → place cs < length cs
    go (Ok _) k p = absurd (n (p ∙ z))
    go (Err e) k p = some_broken cs e k

moved_at : (k : ℕ) (os : List ℕ) (i : ℕ) → i < length os → get_or (moved k os) i 0 ≡ k + get_or os i 0
moved_at k [] i q = absurd (omega arith)
moved_at k (o ∷ os) zero q = refl
moved_at k (o ∷ os) (suc i) q = moved_at k os i (omega arith)

-- for every such part: its refusal, moved by its start, is that of the whole, which would tell v
pub refuses-later : (k : ℕ) (cs : List Check) (os : List ℕ) (t u v : Told) → length os ≡ length cs → t.number ≡ 0 → u ≡ located cs os (judged cs t) → (u.number ≡ 0 → ⊥)
    → record { number = u.number; values = replicate (length v.values) 0; start = 0; end = 0; offset = k + u.offset } ≡ located cs (moved k os) (judged cs v)
refuses-later k cs os t u v l z q some =
    let there : k + u.offset ≡ offset_by cs (moved k os) =
    ap (λ (x : Told). k + x.offset) q ∙ sym (moved_at k os (place cs) (omega (arith, l, was_broken cs t u z q some))) in
    refused_as (verdict cs) t v u.number (k + u.offset) z (ap (λ (x : Told). x.number) q) some ∙ ap (λ (o : ℕ). at o (judged cs v)) there

-- where every field stands at 0, and the answer says no offset of its own, there is nothing to say
pub all_at_0 : (cs : List Check) (os : List ℕ) (t : Told) → Within 0 os → t.offset ≡ 0 → located cs os t ≡ t
all_at_0 cs os t w z = ap (λ (o : ℕ). at o t) (omega (arith, within_at 0 os (place cs) w, z))

pub falls_at_0 : (cs : List Check) (os : List ℕ) (e : Refusal) → Within 0 os → verdict cs ≡ Err e → standing cs os ≡ Err (nowhere e)
falls_at_0 cs os e w q =
    ap (λ (v : Verdict). stands_at v (offset_by cs os)) q ∙ ap (λ (o : ℕ). Err (record { why = e; at = o })) (omega (arith, within_at 0 os (place cs) w))

pub judged-nowhere : (cs : List Check) (t : Told) → t.offset ≡ 0 → (judged cs t).offset ≡ 0
judged-nowhere cs t z = go (verdict cs)
  where
    go : (v : Verdict) → (answer v t).offset ≡ 0
    go (Ok _) = z
    go (Err e) = refl

-- ---- one check alone

pub one_place : (c : Check) (e : Refusal) → verdict (c ∷ []) ≡ Err e → place (c ∷ []) ≡ 0
one_place (true ⇒ f) e q = refl
one_place (false ⇒ f) e q = never cc

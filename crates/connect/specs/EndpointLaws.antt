-- A body with an endpoint from 2 to 10: what the endpoint's parse answered decides. A connect response and a disconnect request are such. Assumes nothing.
use Rattle.std.specs.Prelude.{ℕ, ◌≤◌, ◌≡◌, refl, List, length, take, drop, Result, Ok, Err}
use Rattle.std.proofs.Common.{arith, sym, ap, ◌∙◌, length-drop, length-take-le}
use Rattle.wire.specs.Told.{Told, done, refused, judged}
use Rattle.wire.specs.ToldLaws.{was_accepted, let_through, never_done}
use Rattle.wire.specs.Places.{located, standing, moved, later, later_fault}
use Rattle.wire.specs.PlaceLaws.{located_pass, located_fall, was_fallen, offset_within, refuses-later, stands-later, accepted-stands, stands-accepted}
use Rattle.wire.specs.Layout.{get}
use Rattle.wire.specs.LayoutLaws.{get_part}
use Rattle.hpai.specs.Hpai as Hpai
use Rattle.hpai.specs.declared.Hpai.{Hpai}
use Rattle.connect.specs.Endpoint.{endpoint_in, whole, StandsPromise, ReadPromise}
use Rattle.wire.specs.declared.refusals.Fault.{Fault}

module _ (s : List ℕ) (enough : 10 ≤ length s) (h : Result Hpai Fault) (parsed : Hpai.ParsePromise (take 8 (drop 2 s)) h) where
  abbrev said : ℕ → List ℕ → Told
  said n vs = located (Hpai.checks n vs) (Hpai.offsets n) (judged (Hpai.checks n vs) (done vs))

  heard : Hpai.told h ≡ said 8 (endpoint_in s)
  heard =
      let eight : length (take 8 (drop 2 s)) ≡ 8 = length-take-le 8 (drop 2 s) (omega (arith, length-drop 2 s)) in
      parsed ∙ ap (λ (n : ℕ). said n (get Hpai.fields 0 (take 8 (drop 2 s)))) eight ∙ ap (said 8) (get_part Hpai.fields 8 2 0 s (omega arith))

  -- the endpoint's offset is no further than its end
  pub within : (e : Fault) → h ≡ Err e → e.at ≤ 8
  within e q =
      let cs = Hpai.checks 8 (endpoint_in s) in
      offset_within 8 cs (Hpai.offsets 8) (judged cs (done (endpoint_in s))) (refused 7 e) (omega arith, (omega arith, omega arith)) (ap Hpai.told (sym q) ∙ heard)

  -- the endpoint's refusal is the body's, 2 later
  pub refuses : (t : Told) (e : Fault) → h ≡ Err e → refused (length t.values) (later_fault 2 e) ≡ whole s t
  refuses t e q =
      refuses-later 2 (Hpai.checks 8 (endpoint_in s)) (Hpai.offsets 8) (done (endpoint_in s)) (refused 7 e) t refl refl (ap Hpai.told (sym q) ∙ heard) (never_done e.why)

  -- where it is accepted, so is the body
  pub lets : (t : Told) (c : Hpai) → t.offset ≡ 0 → h ≡ Ok c → t ≡ whole s t
  lets t c z q =
      let cs = Hpai.checks 8 (endpoint_in s) in
      sym (located_pass cs (moved 2 (Hpai.offsets 8)) t refl z (was_accepted cs (done (endpoint_in s)) (Hpai.told (Ok c)) refl (ap Hpai.told (sym q) ∙ heard)))

  -- with the endpoint's values
  pub read : (c : Hpai) → h ≡ Ok c → Hpai.values c ≡ endpoint_in s
  read c q =
      ap (λ (t : Told). t.values) (let_through (Hpai.checks 8 (endpoint_in s)) (done (endpoint_in s)) (Hpai.told (Ok c)) refl (ap Hpai.told (sym q) ∙ heard))

  -- so do its checks
  pub falls : (e : Fault) → h ≡ Err e → Err (later_fault 2 e) ≡ standing (Hpai.checks 8 (endpoint_in s)) (moved 2 (Hpai.offsets 8))
  falls e q =
      let cs = Hpai.checks 8 (endpoint_in s) in
      let os = Hpai.offsets 8 in
      sym (stands-later 2 cs os refl ∙ ap (later 2) (was_fallen cs os (done (endpoint_in s)) 7 e refl (ap Hpai.told (sym q) ∙ heard)))

  pub passes : (c : Hpai) → h ≡ Ok c → Ok tt ≡ standing (Hpai.checks 8 (endpoint_in s)) (moved 2 (Hpai.offsets 8))
  passes c q =
      let cs = Hpai.checks 8 (endpoint_in s) in
      sym (accepted-stands cs (moved 2 (Hpai.offsets 8)) (was_accepted cs (done (endpoint_in s)) (Hpai.told (Ok c)) refl (ap Hpai.told (sym q) ∙ heard)))

-- ---- what the checks at 2 say decides for any answer of the body

pub fell : (s : List ℕ) (t : Told) (e : Fault) → StandsPromise s (Err e) → refused (length t.values) e ≡ whole s t
fell s t e q = sym (located_fall (Hpai.checks 8 (endpoint_in s)) (moved 2 (Hpai.offsets 8)) t e (sym q))

pub stood : (s : List ℕ) (t : Told) → t.offset ≡ 0 → StandsPromise s (Ok tt) → t ≡ whole s t
stood s t z q =
    let cs = Hpai.checks 8 (endpoint_in s) in
    let os = moved 2 (Hpai.offsets 8) in
    sym (located_pass cs os t refl z (stands-accepted cs os (sym q)))

pub held : (s : List ℕ) (c : Hpai) → ReadPromise s c → Hpai.values c ≡ endpoint_in s
held s c q = q.0

-- "7 if open; 8 exactly if eight other ids are open; else r = s = 0, idle", on every table of n places that calls reach. Assumes nothing.
use Rattle.std.specs.Prelude.{ℕ, ◌≡◌, refl, Bool, true, false, ◌↔◌, List, Option, None, Some}
use Rattle.std.proofs.Common.{arith, sym, ap, ◌∙◌}
use Rattle.tunnel.specs.Rules.{afresh}
use Rattle.tunnel.specs.declared.rules.Tunnel.{Tunnel}
use Rattle.tunnel_model.specs.Firsts.{is_none}
use Rattle.tunnel_model.specs.FirstLaws.{clash, none_some}
use Rattle.tunnel_model.specs.Store.{step, step_at, opened, reached, Others, Opening}
use Rattle.tunnel_model.specs.Places.{Kind, KindLaws}
use Rattle.tunnel_model.specs.Calls.{Call, Open, Outcome}
use Rattle.tunnel_model.specs.Table.{chan, store_of, table_of}
use Rattle.tunnel_model.specs.Demand3.{opens_as_said}

module _ (K : Kind Tunnel) (n : ℕ) where
  abbrev pub number_opening : List K.Place → ℕ → ℕ
  number_opening l b = (step chan (store_of K) l (Open b)).0.0.number

  pub record OpenSays (l : List K.Place) (b : ℕ) : Type 0 where
    pub seven : (number_opening l b ≡ 7) ↔ (is_none ((table_of K n).look b l) ≡ false)
    pub eight : (number_opening l b ≡ 8) ↔ (((table_of K n).look b l ≡ None) × Others chan (table_of K n) n b l)
    pub fresh : (table_of K n).look b l ≡ None → (Others chan (table_of K n) n b l → ⊥)
        → (number_opening l b ≡ 0) × ((table_of K n).look b (step chan (store_of K) l (Open b)).1 ≡ Some afresh)

  module _ (W : KindLaws K) (before : List Call) (b : ℕ) where
    abbrev now : List K.Place
    now = reached chan (table_of K n) before

    pub open_says : OpenSays now b
    open_says = go ((table_of K n).look b now) refl
      where
        held : (t : Tunnel) → (table_of K n).look b now ≡ Some t → OpenSays now b
        held t e =
            let is-7 : number_opening now b ≡ 7 = ap (λ (o : Option Tunnel). (step_at chan (store_of K) o b now (Open b)).0.0.number) e in
            record {
              seven = ((λ k. ap is_none e), (λ k. is-7));
              eight = ((λ k. absurd (let z : ◌≡◌ {A = ℕ} 7 8 = sym is-7 ∙ k in omega arith)), (λ x. none_some (sym x.0 ∙ e)));
              fresh = λ m others. none_some (sym m ∙ e);
            }

        outcome : (table_of K n).look b now ≡ None → (f : Bool) → (store_of K).full (Open b) now ≡ f → (step chan (store_of K) now (Open b)).0 ≡ (opened chan (store_of K) f b now (Open b)).0
        outcome e f g = rw (e, g)

        missing : (table_of K n).look b now ≡ None → (f : Bool) → (store_of K).full (Open b) now ≡ f → OpenSays now b
        missing e true f =
            let says : Opening chan (table_of K n) n b now (Open b) (step chan (store_of K) now (Open b)) = opens_as_said K W n before (Open b) b refl refl e in
            let is-8 : number_opening now b ≡ 8 = ap (λ (o : Outcome). o.0.number) (outcome e true f) in
            record {
              seven = ((λ k. absurd (let z : ◌≡◌ {A = ℕ} 8 7 = sym is-8 ∙ k in omega arith)), (λ k. clash (sym (ap is_none e) ∙ k)));
              eight = ((λ k. (e, says.refused.0 (outcome e true f))), (λ x. is-8));
              fresh = λ m others. absurd (others (says.refused.0 (outcome e true f)));
            }
        missing e false f =
            let says : Opening chan (table_of K n) n b now (Open b) (step chan (store_of K) now (Open b)) = opens_as_said K W n before (Open b) b refl refl e in
            let is-0 : number_opening now b ≡ 0 = ap (λ (o : Outcome). o.0.number) (outcome e false f) in
            let never : Others chan (table_of K n) n b now → ⊥ = λ x.
            (let z : ◌≡◌ {A = ℕ} 0 8 = sym is-0 ∙ ap (λ (o : Outcome). o.0.number) (says.refused.1 x) in omega arith) in
            record {
              seven = ((λ k. absurd (let z : ◌≡◌ {A = ℕ} 0 7 = sym is-0 ∙ k in omega arith)), (λ k. clash (sym (ap is_none e) ∙ k)));
              eight = ((λ k. absurd (let z : ◌≡◌ {A = ℕ} 0 8 = sym is-0 ∙ k in omega arith)), (λ x. absurd (never x.1)));
              fresh = λ m others. (is-0, (says.afresh others).1);
            }

        go : (o : Option Tunnel) → (table_of K n).look b now ≡ o → OpenSays now b
        go None e = missing e ((store_of K).full (Open b) now) refl
        go (Some t) e = held t e

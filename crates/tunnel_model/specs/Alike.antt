-- Two tables compared call by call: where related tables answer every call alike and stay related, what is seen of a channel is the same of both, so isolation and opening carry over. Assumes nothing.
use Rattle.std.specs.Prelude.{ℕ, ◌≡◌, refl, Bool, List, [], ◌∷◌, Option}
use Rattle.std.proofs.Common.{sym, ap, ◌∙◌}
use Rattle.tunnel_model.specs.Firsts.{is_none}
use Rattle.tunnel_model.specs.Store.{Chan, Machine, run, reached, names, seen, table_trace, Isolates, Others, Opens}

module _ (C : Chan) (M N : Machine C) where
  -- tables of M and N that hold the same channels, and what a call does to them
  pub record Alike : Type 1 where
    pub Both : M.Table → N.Table → Type 0
    pub start_both : Both M.start N.start
    pub step_both : (t : M.Table) (l : N.Table) (c : C.Call) → Both t l → Both (M.step t c).1 (N.step l c).1
    pub outcome_is : (t : M.Table) (l : N.Table) (c : C.Call) → Both t l → (M.step t c).0 ≡ (N.step l c).0
    pub look_is : (t : M.Table) (l : N.Table) (b : ℕ) → Both t l → M.look b t ≡ N.look b l

  module _ (W : Alike) where
    runs : (t : M.Table) (l : N.Table) (cs : List C.Call) → W.Both t l → W.Both (run C M t cs) (run C N l cs)
    runs t l [] r = r
    runs t l (c ∷ cs) r = runs (M.step t c).1 (N.step l c).1 cs (W.step_both t l c r)

    -- the tables that the same calls reach
    pub reached_both : (cs : List C.Call) → W.Both (reached C M cs) (reached C N cs)
    reached_both cs = runs M.start N.start cs W.start_both

    pub traces : (test : C.Call → Bool) (b : ℕ) (t : M.Table) (l : N.Table) (cs : List C.Call) → W.Both t l → table_trace C M test b t cs ≡ table_trace C N test b l cs
    traces test b t l [] r = refl
    traces test b t l (c ∷ cs) r =
        let later = W.step_both t l c r in
        ap (seen C (M.look b t) (test c) ((M.step t c).0, M.look b (M.step t c).1)) (traces test b (M.step t c).1 (N.step l c).1 cs later)
        ∙ ap (λ (o : Option C.State). seen C o (test c) ((M.step t c).0, M.look b (M.step t c).1) (table_trace C N test b (N.step l c).1 cs)) (W.look_is t l b r)
        ∙ ap (λ (o : C.Outcome). seen C (N.look b l) (test c) (o, M.look b (M.step t c).1) (table_trace C N test b (N.step l c).1 cs)) (W.outcome_is t l c r)
        ∙ ap (λ (o : Option C.State). seen C (N.look b l) (test c) ((N.step l c).0, o) (table_trace C N test b (N.step l c).1 cs)) (W.look_is (M.step t c).1 (N.step l c).1 b later)

    pub isolates_alike : Isolates C N → Isolates C M
    isolates_alike law before calls b p e =
        let r = reached_both before in
        traces (names C b) b (reached C M before) (reached C N before) calls r ∙ law before calls b p (sym (W.look_is (reached C M before) (reached C N before) b r) ∙ e)

    -- where "full" leaves M's table, too, as it was
    pub opens_alike : (n : ℕ) → ((before : List C.Call) (c : C.Call) → (M.step (reached C M before) c).0 ≡ C.is_full c → (M.step (reached C M before) c).1 ≡ reached C M before)
        → Opens C n N → Opens C n M
    opens_alike n stays law before c b named opens closed =
        let t : M.Table = reached C M before in
        let l : N.Table = reached C N before in
        let r : W.Both t l = reached_both before in
        let opening = law before c b named opens (sym (W.look_is t l b r) ∙ closed) in
        let out : Others C N n b l → Others C M n b t = λ x.
        record { ids = x.ids; many = x.many; once = x.once; all = λ i h. ap is_none (W.look_is t l i r) ∙ x.all i h; other = x.other } in
        let back : Others C M n b t → Others C N n b l = λ x.
        record { ids = x.ids; many = x.many; once = x.once; all = λ i h. sym (ap is_none (W.look_is t l i r)) ∙ x.all i h; other = x.other } in
        record {
          refused = ((λ a. out (opening.refused.0 (sym (W.outcome_is t l c r) ∙ a))), (λ x. W.outcome_is t l c r ∙ opening.refused.1 (back x)));
          unchanged = stays before c;
          afresh = λ no.
              let s = opening.afresh (λ x. no (out x)) in
              (W.outcome_is t l c r ∙ s.0, W.look_is (M.step t c).1 (N.step l c).1 b (W.step_both t l c r) ∙ s.1);
        }

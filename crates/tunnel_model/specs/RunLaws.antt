-- A list of compiled calls folds into the run and the trace that demand 3 speaks of, so demand 3 holds of such lists: isolation, no difference, opening. Assumes nothing.
use Rattle.std.specs.Prelude.{ℕ, ◌≡◌, refl, true, List, [], ◌∷◌, None, Some}
use Rattle.std.proofs.Common.{sym, ap, ◌∙◌, subst}
use Rattle.tunnel_model.specs.Store.{Chan, Machine, Seen, run, reached, names, seen, table_trace, lone_trace, calls_of, Isolates, Opening, Opens}
use Rattle.tunnel_model.specs.Runs.{Ran, last_of, seen_by}

module _ (C : Chan) (M : Machine C) (Given : Type 0) (given_as : Given → C.Outcome × M.Table) where
  folds : (l : M.Table) (cs : List C.Call) (gs : List Given) → Ran C M Given given_as l cs gs → last_of C M Given given_as l gs ≡ run C M l cs
  folds l [] [] x = refl
  folds l [] (g ∷ gs) x = absurd x
  folds l (c ∷ cs) [] x = absurd x
  folds l (c ∷ cs) (g ∷ gs) x = folds (given_as g).1 cs gs x.1 ∙ ap (λ (y : C.Outcome × M.Table). run C M y.1 cs) x.0

  traces : (b : ℕ) (l : M.Table) (cs : List C.Call) (gs : List Given) → Ran C M Given given_as l cs gs → seen_by C M Given given_as b l cs gs ≡ table_trace C M (names C b) b l cs
  traces b l [] [] x = refl
  traces b l [] (g ∷ gs) x = absurd x
  traces b l (c ∷ cs) [] x = absurd x
  traces b l (c ∷ cs) (g ∷ gs) x =
      let of : C.Outcome × M.Table → List (Seen C) = λ y.
      seen C (M.look b l) (names C b c) (y.0, M.look b y.1) (table_trace C M (names C b) b y.1 cs) in
      ap (seen C (M.look b l) (names C b c) ((given_as g).0, M.look b (given_as g).1)) (traces b (given_as g).1 cs gs x.1) ∙ ap of x.0

  -- calls from the start, after which the table is the one that they reach
  module _ (start : M.Table) (begun : start ≡ M.start) (before : List C.Call) (gs : List Given) (x : Ran C M Given given_as start before gs) where
    abbrev here : M.Table
    here = last_of C M Given given_as start gs

    pub there : here ≡ reached C M before
    there = folds start before gs x ∙ ap (λ (l : M.Table). run C M l before) begun

    -- with B open as p: whatever calls follow, what is seen of B is what the lone channel gives
    pub run_isolates : Isolates C M → (calls : List C.Call) (hs : List Given) (b : ℕ) (p : C.State) → Ran C M Given given_as here calls hs → M.look b here ≡ Some p
        → seen_by C M Given given_as b here calls hs ≡ lone_trace C (Some p) (calls_of C (names C b) calls)
    run_isolates law calls hs b p y e =
        traces b here calls hs y ∙ ap (λ (l : M.Table). table_trace C M (names C b) b l calls) there ∙ law before calls b p (ap (M.look b) (sym there) ∙ e)

    -- and two lists with the same calls of B show the same of B
    pub run_no_difference : Isolates C M → (calls others : List C.Call) (hs is : List Given) (b : ℕ) (p : C.State)
        → Ran C M Given given_as here calls hs → Ran C M Given given_as here others is → M.look b here ≡ Some p → calls_of C (names C b) calls ≡ calls_of C (names C b) others
        → seen_by C M Given given_as b here calls hs ≡ seen_by C M Given given_as b here others is
    run_no_difference law calls others hs is b p y z e k =
        run_isolates law calls hs b p y e ∙ ap (lone_trace C (Some p)) k ∙ sym (run_isolates law others is b p z e)

    -- an opening call on B, which is not open
    pub run-opens : (n : ℕ) → Opens C n M → (c : C.Call) (g : Given) (b : ℕ) → given_as g ≡ M.step here c → C.named c ≡ Some b → C.opens c ≡ true → M.look b here ≡ None
        → Opening C M n b here c (given_as g)
    run-opens n law c g b p named opens closed =
        let at : Opening C M n b here c (M.step here c) =
        subst (λ (l : M.Table). Opening C M n b l c (M.step l c)) (sym there) (law before c b named opens (ap (M.look b) (sym there) ∙ closed)) in
        subst (Opening C M n b here c) (sym p) at

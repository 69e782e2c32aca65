-- Demand 3 for n places of any kind: isolation, one place for an id, opening refused exactly if n other ids are open. Assumes nothing.
use Rattle.std.specs.Prelude.{ℕ, zero, suc, ◌+◌, ◌≤◌, ◌≡◌, Bool, true, false, List, leb, replicate, Option, None, Some}
use Rattle.std.proofs.Math.Path.{refl, ap}
use Rattle.std.proofs.Common.{sym, ◌∙◌, arith, leb-true, le-leb}
use Rattle.std.proofs.Math.ListN.{length}
use Rattle.std.proofs.lemmas.List.{length-replicate}
use Rattle.tunnel_model.specs.Firsts.{one_if, is_id, is_none, first_of, count_of}
use Rattle.tunnel_model.specs.FirstLaws.{clash, count_both}
use Rattle.tunnel_model.specs.Store.{step, reached, names, table_trace, lone_trace, calls_of, IsolatesAt, Isolates, Others, Opening, Opens}
use Rattle.tunnel_model.specs.Laws.{StoreLaws}
use Rattle.tunnel_model.specs.Theorems.{all_of, run_inv, all_mine, isolation, opens_fresh, opens_full}
use Rattle.tunnel_model.specs.Places.{Kind, KindLaws, holds, free, taken}
use Rattle.tunnel_model.specs.PlacesLaws.{Kept, places_laws, full_when, one_of}
use Rattle.tunnel_model.specs.Count.{others, others_count}
use Rattle.tunnel.specs.declared.rules.Tunnel.{Tunnel}
use Rattle.tunnel_model.specs.Calls.{Call, Outcome, named, opens}
use Rattle.tunnel_model.specs.Table.{chan, store_of, empty_of, table_of}

none_in : {P : Type 0} (r : P → Bool) (p : P) (n : ℕ) → r p ≡ false → count_of r (replicate n p) ≡ 0
none_in r p zero e = refl
none_in r p (suc n) e = let h = none_in r p n e in let k = ap one_if e in omega arith

module _ (K : Kind Tunnel) (W : KindLaws K) (n : ℕ) where
  abbrev pub table_laws : StoreLaws chan (store_of K)
  table_laws = places_laws chan K W n (λ c l. is_none (first_of (free K) l)) (λ l. Unit {0}) (λ c l w x f. f) (λ b c l p w x e. tt) (λ b c l w x e f. tt)

  empty_kept : Kept K W n (empty_of K n)
  empty_kept = record {
    long = length-replicate n K.freed;
    unique = λ b. (let h = none_in (holds K b) K.freed n (ap (λ (o : Option ℕ). is_id o b) W.freed_id) in omega arith);
  }

  -- a table reached by calls has n places, and one at most for an id
  pub reached_kept : (cs : List Call) → Kept K W n (reached chan (table_of K n) cs)
  unfolding places_laws
  reached_kept cs = (run_inv chan (store_of K) table_laws (empty_of K n) (empty_of K n) cs (all_of (λ c. tt) cs) (empty_kept, tt)).0

  pub one_place : (cs : List Call) (b : ℕ) → count_of (holds K b) (reached chan (table_of K n) cs) ≤ 1
  one_place cs b = (reached_kept cs).unique b

  -- from any table of n places with one at most for an id: until B is closed, B's calls get what the lone tunnel gives, fed B's calls only
  pub isolates_from : (l : List K.Place) → Kept K W n l → IsolatesAt chan (table_of K n) l
  unfolding places_laws
  isolates_from l v calls b p e =
      isolation chan (store_of K) table_laws (empty_of K n) b (names chan b) (λ q. Unit {0}) (all_mine chan b) l calls (all_of (λ c. tt) calls) (v, tt) (λ q k. tt)
      ∙ ap (λ (o : Option Tunnel). lone_trace chan o (calls_of chan (names chan b) calls)) e

  -- so from any that calls reach
  pub isolates : Isolates chan (table_of K n)
  isolates before = isolates_from (reached chan (table_of K n) before) (reached_kept before)

  -- what the others do, refused datagrams included, makes no difference
  pub no_difference : (before calls others : List Call) (b : ℕ) (p : Tunnel) → (table_of K n).look b (reached chan (table_of K n) before) ≡ Some p
      → calls_of chan (names chan b) calls ≡ calls_of chan (names chan b) others
      → table_trace chan (table_of K n) (names chan b) b (reached chan (table_of K n) before) calls ≡ table_trace chan (table_of K n) (names chan b) b (reached chan (table_of K n) before) others
  no_difference before calls others b p e k =
      isolates before calls b p e ∙ ap (λ (cs : List Call). lone_trace chan (Some p) cs) k ∙ sym (isolates before others b p e)

  opening : (l : List K.Place) → Kept K W n l → (c : Call) (b : ℕ) → named c ≡ Some b → opens c ≡ true → (table_of K n).look b l ≡ None → Opening chan (table_of K n) n b l c (step chan (store_of K) l c)
  unfolding places_laws
  opening l v c b m o e = go ((store_of K).full c l) refl
    where
      all : count_of (free K) l + count_of (taken K) l ≡ length l
      all = count_both (free K) (taken K) l (λ p. one_of (free K p))

      filled : (store_of K).full c l ≡ leb n (count_of (taken K) l)
      filled = full_when K W n l v.long

      apart : chan.done c ≡ chan.is_full c → ⊥
      apart k = let z : ◌≡◌ {A = ℕ} 0 8 = ap (λ (x : Outcome). x.0.number) k in omega arith

      crowd : Others chan (table_of K n) n b l → (store_of K).full c l ≡ true
      crowd x = filled ∙ le-leb n (count_of (taken K) l) (others_count chan K W (store_of K).full (empty_of K n) l n b v x)

      crowded : (store_of K).full c l ≡ true → Others chan (table_of K n) n b l
      crowded f =
          let k = leb-true n (count_of (taken K) l) (sym filled ∙ f) in
          let h = all in
          let m = v.long in
          others chan K W (store_of K).full (empty_of K n) l n b v e (omega arith)

      go : (t : Bool) → (store_of K).full c l ≡ t → Opening chan (table_of K n) n b l c (step chan (store_of K) l c)
      go true f =
          let full = opens_full chan (store_of K) table_laws (empty_of K n) b l c (v, tt) tt m o e f in
          record {
            refused = ((λ a. crowded f), (λ x. ap (λ (r : Outcome × List K.Place). r.0) full));
            unchanged = λ a. ap (λ (r : Outcome × List K.Place). r.1) full;
            afresh = λ no. absurd (no (crowded f));
          }
      go false f =
          let s = opens_fresh chan (store_of K) table_laws (empty_of K n) b l c (v, tt) tt m o e f in
          record {
            refused = ((λ a. absurd (apart (sym s.0 ∙ a))), (λ x. clash (sym (crowd x) ∙ f)));
            unchanged = λ a. absurd (apart (sym s.0 ∙ a));
            afresh = λ no. s;
          }

  -- opening is refused exactly if n other ids are open, and else starts B afresh
  pub opens_as_said : Opens chan n (table_of K n)
  opens_as_said before c b m o e = opening (reached chan (table_of K n) before) (reached_kept before) c b m o e

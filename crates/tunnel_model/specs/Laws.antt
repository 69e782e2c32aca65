-- The laws of a store, from which all theorems on tables follow. They speak of a call that names b, of what the channel's own rules then leave, and of what it is opened as: nothing else is ever put or added. Assumes nothing.
use Rattle.std.specs.Prelude.{ℕ, ◌≡◌, true, false, eqb, None, Some}
use Rattle.tunnel_model.specs.Store.{Chan, Store}

pub record StoreLaws (C : Chan) (S : Store C) : Type 1 where
  -- what calls keep, and which calls the store is for: those whose id it has an entry for
  pub Inv : S.Table → Type 0
  pub Takes : C.Call → Type 0
  -- a channel that is open is changed or closed, and no other
  pub inv_put : (b : ℕ) (c : C.Call) (l : S.Table) (p : C.State) → Inv l → C.named c ≡ Some b → S.look b l ≡ Some p → Inv (S.put b (C.lone p c).1 l)
  pub put_same : (b : ℕ) (c : C.Call) (l : S.Table) (p : C.State) → Inv l → C.named c ≡ Some b → S.look b l ≡ Some p → S.look b (S.put b (C.lone p c).1 l) ≡ (C.lone p c).1
  pub put_other : (a b : ℕ) (c : C.Call) (l : S.Table) (p : C.State) → C.named c ≡ Some a → eqb a b ≡ false → S.look b (S.put a (C.lone p c).1 l) ≡ S.look b l
  -- put back as it was, it changes nothing
  pub put_back : (b : ℕ) (l : S.Table) (p : C.State) → S.look b l ≡ Some p → S.put b (Some p) l ≡ l
  -- a channel that is not open is added, and no other is changed
  pub inv_add : (b : ℕ) (c : C.Call) (l : S.Table) → Inv l → Takes c → C.named c ≡ Some b → C.opens c ≡ true → S.look b l ≡ None → S.full c l ≡ false → Inv (S.add b (C.fresh c) l)
  pub add_same : (b : ℕ) (c : C.Call) (l : S.Table) → Inv l → Takes c → C.named c ≡ Some b → C.opens c ≡ true → S.look b l ≡ None → S.full c l ≡ false
      → S.look b (S.add b (C.fresh c) l) ≡ Some (C.fresh c)
  pub add_other : (a b : ℕ) (c : C.Call) (l : S.Table) → C.named c ≡ Some a → eqb a b ≡ false → S.look b (S.add a (C.fresh c) l) ≡ S.look b l

-- What follows from a store's laws: a call keeps the invariant; what it leaves of the channel that it names, and of any other; a refusal changes nothing; isolation; opening. Assumes nothing.
use Rattle.std.specs.Prelude.{ℕ, ◌≡◌, refl, Bool, true, false, cond, List, [], ◌∷◌, eqb, Option, None, Some}
use Rattle.std.proofs.Common.{sym, ap, ◌∙◌}
use Rattle.tunnel_model.specs.Firsts.{is_id}
use Rattle.tunnel_model.specs.FirstLaws.{clash, id_is, id_at}
use Rattle.tunnel_model.specs.Store.{Chan, Store, All, opened, absent, step_at, step_on, step, machine, run, names, seen, table_trace, lone_trace, calls_of}
use Rattle.tunnel_model.specs.Laws.{StoreLaws}

-- where nothing is asked of a call, nothing is asked of a list of them
pub all_of : {A : Type 0} {P : A → Type 0} → ((a : A) → P a) → (l : List A) → All P l
all_of each [] = tt
all_of each (a ∷ l) = (each a, all_of each l)

module _ (C : Chan) (S : Store C) (L : StoreLaws C S) (l₀ : S.Table) where
  pub step_inv : (l : S.Table) (c : C.Call) → L.Takes c → L.Inv l → L.Inv (step C S l c).1
  step_inv l c k v = on (C.named c) refl
    where
      in_full : (b : ℕ) → C.named c ≡ Some b → C.opens c ≡ true → S.look b l ≡ None → (t : Bool) → S.full c l ≡ t → L.Inv (opened C S t b l c).1
      in_full b n o e true f = v
      in_full b n o e false f = L.inv_add b c l v k n o e f

      in_absent : (b : ℕ) → C.named c ≡ Some b → S.look b l ≡ None → (t : Bool) → C.opens c ≡ t → L.Inv (absent C S t b l c).1
      in_absent b n e true o = in_full b n o e (S.full c l) refl
      in_absent b n e false o = v

      at : (b : ℕ) → C.named c ≡ Some b → (o : Option C.State) → S.look b l ≡ o → L.Inv (step_at C S o b l c).1
      at b n None e = in_absent b n e (C.opens c) refl
      at b n (Some p) e = L.inv_put b c l p v n e

      on : (n : Option ℕ) → C.named c ≡ n → L.Inv (step_on C S n l c).1
      on None n = v
      on (Some b) n = at b n (S.look b l) refl

  pub run_inv : (l : S.Table) (cs : List C.Call) → All L.Takes cs → L.Inv l → L.Inv (run C (machine C S l₀) l cs)
  run_inv l [] k v = v
  run_inv l (c ∷ cs) k v = run_inv (step C S l c).1 cs k.1 (step_inv l c k.0 v)

  -- what a call leaves of the channel that it names
  pub mine : (b : ℕ) (l : S.Table) (c : C.Call) (p : C.State) → L.Inv l → C.named c ≡ Some b → S.look b l ≡ Some p
      → ((step C S l c).0 ≡ (C.lone p c).0) × (S.look b (step C S l c).1 ≡ (C.lone p c).1)
  mine b l c p v n e = (rw (n, e), rw (n, e) (L.put_same b c l p v n e))

  -- and of any other; a call that names nobody leaves every channel
  pub other : (b : ℕ) (l : S.Table) (c : C.Call) → names C b c ≡ false → S.look b (step C S l c).1 ≡ S.look b l
  other b l c ne = on (C.named c) refl ne
    where
      in_full : (a : ℕ) → C.named c ≡ Some a → eqb a b ≡ false → (t : Bool) → S.look b (opened C S t a l c).1 ≡ S.look b l
      in_full a n h true = refl
      in_full a n h false = L.add_other a b c l n h

      in_absent : (a : ℕ) → C.named c ≡ Some a → eqb a b ≡ false → (t : Bool) → S.look b (absent C S t a l c).1 ≡ S.look b l
      in_absent a n h true = in_full a n h (S.full c l)
      in_absent a n h false = refl

      at : (a : ℕ) → C.named c ≡ Some a → eqb a b ≡ false → (o : Option C.State) → S.look b (step_at C S o a l c).1 ≡ S.look b l
      at a n h None = in_absent a n h (C.opens c)
      at a n h (Some p) = L.put_other a b c l p n h

      on : (o : Option ℕ) → C.named c ≡ o → is_id o b ≡ false → S.look b (step_on C S o l c).1 ≡ S.look b l
      on None n h = refl
      on (Some a) n h = at a n h (S.look a l)

  -- opening a channel that is not open
  module _ (b : ℕ) (l : S.Table) (c : C.Call) (v : L.Inv l) (k : L.Takes c) (n : C.named c ≡ Some b) (o : C.opens c ≡ true) (e : S.look b l ≡ None) where
    pub opens_fresh : S.full c l ≡ false → ((step C S l c).0 ≡ C.done c) × (S.look b (step C S l c).1 ≡ Some (C.fresh c))
    opens_fresh f = (rw (n, e, o, f), rw (n, e, o, f) (L.add_same b c l v k n o e f))

    pub opens_full : S.full c l ≡ true → step C S l c ≡ (C.is_full c, l)
    opens_full f = rw (n, e, o, f)

-- ---- demand 1

-- which outcomes are refusals, and when one is clean: of a channel by itself a refusal is clean, and leaves the channel as it was
pub record Refusals (C : Chan) (IsRefusal : C.Outcome → Type 0) (Clean : C.Call → C.Outcome → Type 0) : Type 0 where
  pub itself_clean : (c : C.Call) → IsRefusal (C.itself c) → Clean c (C.itself c)
  pub lone_clean : (p : C.State) (c : C.Call) → IsRefusal (C.lone p c).0 → Clean c (C.lone p c).0 × ((C.lone p c).1 ≡ Some p)
  pub full_clean : (c : C.Call) → IsRefusal (C.is_full c) → Clean c (C.is_full c)
  pub closed_clean : (c : C.Call) → IsRefusal (C.not_open c) → Clean c (C.not_open c)
  pub done_not : (c : C.Call) → IsRefusal (C.done c) → ⊥

module _ (C : Chan) (S : Store C) (L : StoreLaws C S) (IsRefusal : C.Outcome → Type 0) (Clean : C.Call → C.Outcome → Type 0) (W : Refusals C IsRefusal Clean) where
  -- of a table, too, and it leaves the table as it was
  pub leaves : (l : S.Table) (c : C.Call) → IsRefusal (step C S l c).0 → Clean c (step C S l c).0 × ((step C S l c).1 ≡ l)
  leaves l c = on (C.named c)
    where
      in_full : (b : ℕ) (t : Bool) → IsRefusal (opened C S t b l c).0 → Clean c (opened C S t b l c).0 × ((opened C S t b l c).1 ≡ l)
      in_full b true x = (W.full_clean c x, refl)
      in_full b false x = absurd (W.done_not c x)

      in_absent : (b : ℕ) (t : Bool) → IsRefusal (absent C S t b l c).0 → Clean c (absent C S t b l c).0 × ((absent C S t b l c).1 ≡ l)
      in_absent b true x = in_full b (S.full c l) x
      in_absent b false x = (W.closed_clean c x, refl)

      at : (b : ℕ) (o : Option C.State) → S.look b l ≡ o → IsRefusal (step_at C S o b l c).0 → Clean c (step_at C S o b l c).0 × ((step_at C S o b l c).1 ≡ l)
      at b None e x = in_absent b (C.opens c) x
      at b (Some p) e x =
          let w = W.lone_clean p c x in
          (w.0, ap (λ (v : Option C.State). S.put b v l) w.1 ∙ L.put_back b l p e)

      on : (n : Option ℕ) → IsRefusal (step_on C S n l c).0 → Clean c (step_on C S n l c).0 × ((step_on C S n l c).1 ≡ l)
      on None x = (W.itself_clean c x, refl)
      on (Some b) x = at b (S.look b l) refl x

-- ---- isolation

-- whose calls are B's: those that pass the test name B, and where B is of the kind Own, the others that name B leave it as it is. Every B stays of its kind.
pub record Mine (C : Chan) (b : ℕ) (test : C.Call → Bool) (Own : C.State → Type 0) : Type 0 where
  pub naming : (c : C.Call) → test c ≡ true → C.named c ≡ Some b
  pub quiet : (p : C.State) (c : C.Call) → Own p → C.named c ≡ Some b → test c ≡ false → (C.lone p c).1 ≡ Some p
  pub stays : (p q : C.State) (c : C.Call) → Own p → test c ≡ true → (C.lone p c).1 ≡ Some q → Own q

-- all that name B
pub all_mine : (C : Chan) (b : ℕ) → Mine C b (names C b) (λ p. Unit {0})
all_mine C b = record {
  naming = λ c k. id_is (C.named c) b k;
  quiet = λ p c own n k. clash (sym (id_at (C.named c) b n) ∙ k);
  stays = λ p q c own k e. tt;
}

module _ (C : Chan) (S : Store C) (L : StoreLaws C S) (l₀ : S.Table) (b : ℕ) (test : C.Call → Bool) (Own : C.State → Type 0) (W : Mine C b test Own) where
  -- B's calls, from any table with the invariant
  pub isolation : (l : S.Table) (cs : List C.Call) → All L.Takes cs → L.Inv l → ((p : C.State) → S.look b l ≡ Some p → Own p)
      → table_trace C (machine C S l₀) test b l cs ≡ lone_trace C (S.look b l) (calls_of C test cs)
  isolation l [] k v own = sym (lone_nil (S.look b l))
    where
      lone_nil : (o : Option C.State) → lone_trace C o [] ≡ []
      lone_nil None = refl
      lone_nil (Some p) = refl
  isolation l (c ∷ cs) k v own =
      go (S.look b l) refl (test c) refl (isolation (step C S l c).1 cs k.1 (step_inv C S L l₀ l c k.0 v))
    where
      lone-none : (ds : List C.Call) → lone_trace C None ds ≡ []
      lone-none [] = refl
      lone-none (d ∷ ds) = refl

      -- a call that does not pass leaves B as it is
      as_before : (p : C.State) → S.look b l ≡ Some p → test c ≡ false → S.look b (step C S l c).1 ≡ Some p
      as_before p e t = named_or_not (names C b c) refl
        where
          named_or_not : (m : Bool) → names C b c ≡ m → S.look b (step C S l c).1 ≡ Some p
          named_or_not true m =
              let n = id_is (C.named c) b m in
              (mine C S L l₀ b l c p v n e).1 ∙ W.quiet p c (own p e) n t
          named_or_not false m = other C S L l₀ b l c m ∙ e

      -- and B stays of its kind
      still : (p : C.State) → S.look b l ≡ Some p → (t : Bool) → test c ≡ t → (q : C.State) → S.look b (step C S l c).1 ≡ Some q → Own q
      still p e true t q f = W.stays p q c (own p e) t (sym (mine C S L l₀ b l c p v (W.naming c t) e).1 ∙ f)
      still p e false t q f = own q (e ∙ sym (as_before p e t) ∙ f)

      go : (o : Option C.State) → S.look b l ≡ o → (t : Bool) → test c ≡ t
          → (((q : C.State) → S.look b (step C S l c).1 ≡ Some q → Own q)
          → table_trace C (machine C S l₀) test b (step C S l c).1 cs ≡ lone_trace C (S.look b (step C S l c).1) (calls_of C test cs))
          → seen C o t ((step C S l c).0, S.look b (step C S l c).1) (table_trace C (machine C S l₀) test b (step C S l c).1 cs)
          ≡ lone_trace C o (cond t (c ∷ calls_of C test cs) (calls_of C test cs))
      go None e t k' ih = sym (lone-none (cond t (c ∷ calls_of C test cs) (calls_of C test cs)))
      go (Some p) e true t ih =
          let m = mine C S L l₀ b l c p v (W.naming c t) e in
          let a = m.0 in
          let w = m.1 in
          let later = ih (still p e true t) in
          rw (later, w, a)
      go (Some p) e false t ih = ih (still p e false t) ∙ ap (λ (o : Option C.State). lone_trace C o (calls_of C test cs)) (as_before p e t)

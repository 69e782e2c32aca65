-- Laws of every format, both ways: what is written is read back, and what is accepted has the layout of its values. Assumes nothing.
use Rattle.std.specs.Prelude.{ℕ, suc, ◌≤◌, ◌≡◌, refl, Bool, true, false, cond, List, [], ◌++◌, length, take, ltb, Ok, Err}
use Rattle.std.proofs.Common.{arith, sym, ap, ◌∙◌, length-append, le-ltb, ltb-false}
use Rattle.wire.specs.Clash.{never}
use Rattle.wire.specs.Told.{Told, done, Check, verdict, judged}
use Rattle.wire.specs.ToldLaws.{holds, was_accepted}
use Rattle.wire.specs.Places.{located}
use Rattle.wire.specs.PlaceLaws.{located_pass}
use Rattle.wire.specs.Layout.{size, get}
use Rattle.wire.specs.LayoutLaws.{Bytes, count, length-put, get-put, put-get}
use Rattle.wire.specs.Format.{Format, checks_of, offsets_of, read_where, bytes_of}
use Rattle.wire.specs.declared.refusals.Refusal.TheVariants.{BufferTooSmall}

module _ (F : Format) where
  -- enough bytes, and values that are as they are asked to be
  pub stands : (n : ℕ) (vs : List ℕ) → size F.fields ≤ n → verdict (F.asks vs) ≡ Ok tt → verdict (checks_of F n vs) ≡ Ok tt
  stands n vs h q = simp (le-ltb n (size F.fields) h) q

  -- an offset for each check
  pub one_each : (n : ℕ) (vs : List ℕ) → length (offsets_of F n) ≡ length (checks_of F n vs)
  one_each n vs = ap suc (F.each vs)

  -- written, then read, whatever follows
  pub reads_back : (vs rest : List ℕ) → length vs ≡ count F.fields → verdict (F.asks vs) ≡ Ok tt → read_where F (bytes_of F vs ++ rest) ≡ done (F.values_in vs)
  reads_back vs rest many q =
      let n : ℕ = length (bytes_of F vs ++ rest) in
      let enough : size F.fields ≤ n = omega (arith, length-append (bytes_of F vs) rest, length-put F.fields vs many) in
      ap (λ (us : List ℕ). located (checks_of F n us) (offsets_of F n) (judged (checks_of F n us) (done (F.values_in us)))) (get-put F.fields vs [] rest 0 refl many)
      ∙ located_pass (checks_of F n vs) (offsets_of F n) (done (F.values_in vs)) (one_each n vs) refl (stands n vs enough q)

  -- read, and accepted: what was told is held, the values were as asked, and the bytes are those of the values
  pub record Accepted (s : List ℕ) (t : Told) : Type 0 where
    pub told_is : t ≡ done (F.values_in (get F.fields 0 s))
    pub enough : size F.fields ≤ length s
    pub asked : verdict (F.asks (get F.fields 0 s)) ≡ Ok tt
    pub bytes : Bytes s → take (size F.fields) s ≡ bytes_of F (get F.fields 0 s)

  rest-holds : (b : Bool) (cs : List Check) → cond b (Err BufferTooSmall) (verdict cs) ≡ Ok tt → verdict cs ≡ Ok tt
  rest-holds true cs q = never cc
  rest-holds false cs q = q

  pub accepted : (s : List ℕ) (t : Told) → t.number ≡ 0 → t ≡ read_where F s → Accepted s t
  accepted s t z q =
      let vs : List ℕ = get F.fields 0 s in
      let cs : List Check = checks_of F (length s) vs in
      let all : verdict cs ≡ Ok tt = was_accepted cs (done (F.values_in vs)) t z q in
      let room : size F.fields ≤ length s = ltb-false (length s) (size F.fields) (holds [] (ltb (length s) (size F.fields)) BufferTooSmall (F.asks vs) all) in
      record {
        told_is = q ∙ located_pass cs (offsets_of F (length s)) (done (F.values_in vs)) (one_each (length s) vs) refl all;
        enough = room;
        asked = rest-holds (ltb (length s) (size F.fields)) (F.asks vs) all;
        bytes = λ b. sym (put-get F.fields 0 s b (omega (arith, room)));
      }

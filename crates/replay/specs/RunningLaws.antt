-- One turn more, the text of a line, and no second run. Assumes nothing.
use Rattle.std.specs.Prelude.{ℕ, suc, ◌+◌, ◌-◌, ◌≤◌, ◌≡◌, refl, Bool, true, false, cond, Option, None, Some, Result, Ok, Err, List, [], ◌∷◌, ◌++◌, length, take, drop, fold, leb}
use Rattle.std.specs.Io.KnownBytes.{Appends}
use Rattle.std.proofs.lemmas.List.FromFn.{length-map-range_with_len}
use Rattle.std.proofs.Common.{arith, sym, ap, subst, ◌∙◌, append_assoc, append-nil, length-append, length-drop, length-take-le, take_at, leb-true}
use Rattle.std.specs.Result.{is_err, OnOk}
use Rattle.wire.specs.Clash.{never}
use Rattle.wire.specs.Layout.{copied}
use Rattle.wire.specs.LayoutLaws.{copied_is}
use Rattle.wire.specs.Parts.{part_of, PartPromise}
use Rattle.wire.specs.PartLaws.{part_is}
use Rattle.replay.specs.Lines.{Sheet, sheet, laid, all, pattern, line_of, LinePromise, behind, text_of}
use Rattle.replay.specs.Laws.{arguments_alone, read_is}
use Rattle.replay.specs.Records.{pattern_from, record_of, RecordPromise, Begins, NoneLeft, Gave}
use Rattle.replay.specs.Running.{Answering, room, line_room, Turn, Turns, none, turn, NoRecord, TryReplayPromise}
use Rattle.replay.specs.declared.records.Record.{Record}
use Rattle.replay.specs.declared.telling.Told.{Told}

-- ---- one turn more

pub turns_on : {C : Type 0} {answers : Answering C} {before middle left : Option (List ℕ)} {calls next last : C} {text line : List ℕ} {n : ℕ}
    → Turns answers before middle calls next text n → Turn answers middle left next last line → Turns answers before left calls last (text ++ line) (suc n)
turns_on {answers = answers} {before = before} {left = left} {calls = calls} {last = last} {line = line} none t =
    subst (λ (l : List ℕ). Turns answers before left calls last l 1) (append-nil line) (turn t none)
turns_on {answers = answers} {before = before} {left = left} {calls = calls} {last = last} {line = line} (turn {line = first} {rest = rest} {n = n} u r) t =
    subst (λ (l : List ℕ). Turns answers before left calls last l (suc (suc n))) (sym (append_assoc first rest line)) (turn u (turns_on r t))

pub appends-nothing : (held : Option (List ℕ)) → Appends held held []
appends-nothing None = tt
appends-nothing (Some s) = sym (append-nil s)

pub appends_on : (held between holds : Option (List ℕ)) (text line : List ℕ) → Appends held between text → Appends between holds line → Appends held holds (text ++ line)
appends_on None between holds text line p q = tt
appends_on (Some s) None holds text line p q = absurd p
appends_on (Some s) (Some t) None text line p q = absurd q
appends_on (Some s) (Some t) (Some u) text line p q = q ∙ ap (λ (l : List ℕ). l ++ line) p ∙ append_assoc s text line

-- ---- the text of a line

-- a text stands at the front of a sheet
record Fronts (size : ℕ) (s : Sheet) (text : List ℕ) : Type 0 where
  long : length s.out ≡ size
  at : s.at ≡ length text
  within : s.at ≤ size
  front : take s.at s.out ≡ text

copied_length : (w b : List ℕ) (at : ℕ) → at + length w ≤ length b → length (copied w b at) ≡ length b
copied_length w b at h =
    let front : length (take at b) ≡ at = length-take-le at b (omega arith) in
    omega (arith, ap length (copied_is w b at (at + length w) refl h), length-append (take at b ++ w) (drop (at + length w) b), length-append (take at b) w, front, length-drop (at + length w) b)

fronts_laid : (size : ℕ) (s : Sheet) (text w : List ℕ) → Fronts size s text → Fronts size (laid s w) (behind size text w)
fronts_laid size s text w f = subst (λ (b : Bool). Fronts size (laid s w) (cond b (text ++ w) text)) same (go (leb (s.at + length w) (length s.out)) refl)
  where
    same : leb (s.at + length w) (length s.out) ≡ leb (length text + length w) size
    same = ap (λ (n : ℕ). leb (s.at + length w) n) f.long ∙ ap (λ (n : ℕ). leb (n + length w) size) f.at

    go : (b : Bool) → leb (s.at + length w) (length s.out) ≡ b → Fronts size (cond b (sheet (copied w s.out s.at) (s.at + length w)) s) (cond b (text ++ w) text)
    go false e = f
    go true e =
        let fits : s.at + length w ≤ length s.out = leb-true (s.at + length w) (length s.out) e in
        let within : s.at ≤ length s.out = omega arith in
        record {
          long = copied_length w s.out s.at fits ∙ f.long;
          at = omega (arith, f.at, length-append text w);
          within = omega (arith, f.long);
          front = ap (take (s.at + length w)) (copied_is w s.out s.at (s.at + length w) refl fits)
              ∙ take_at (take s.at s.out ++ w) (drop (s.at + length w) s.out) (s.at + length w) (length-append (take s.at s.out) w ∙ ap (λ (k : ℕ). k + length w) (length-take-le s.at s.out within))
              ∙ ap (λ (l : List ℕ). l ++ w) f.front;
        }

fronts_all : (ws : List (List ℕ)) (size : ℕ) (s : Sheet) (text : List ℕ) → Fronts size s text → Fronts size (all s ws) (fold (behind size) text ws)
fronts_all [] size s text f = f
fronts_all (w ∷ ws) size s text f = fronts_all ws size (laid s w) (behind size text w) (fronts_laid size s text w f)

-- what a line's part of the output is
pub line_text : (t : Told) (s out : List ℕ) (used : ℕ) (after : List ℕ) → LinePromise t s out used after → part_of after 0 used ≡ text_of (length out) (line_of t s)
line_text t s out used after e =
    let clear : Fronts (length out) (sheet out 0) [] = record { long = refl; at = refl; within = omega arith; front = refl } in
    let f : Fronts (length out) (sheet after used) (text_of (length out) (line_of t s)) =
    subst (λ (x : Sheet). Fronts (length out) x (text_of (length out) (line_of t s))) (sym e) (fronts_all (line_of t s) (length out) (sheet out 0) [] clear) in
    let whole : used - 0 ≡ used = omega arith in
    part_is after 0 used (omega arith) (omega (arith, f.long, f.within)) ∙ ap (λ (n : ℕ). take n after) whole ∙ f.front

-- ---- a turn of the run

-- what is promised of an Ok holds where it is one
pub of_ok : {T E : Type 0} (r : Result T E) (P : Type 0) → is_err r ≡ false → OnOk r P → P
of_ok (Ok x) P e p = p
of_ok (Err x) P e p = let clash : true ≡ false = e in never cc

-- what the lent part holds before a call
lent_is : (m : ℕ) (buf after : List ℕ) → after ≡ pattern_from m 0 ++ drop m buf → take m after ≡ pattern_from m 0
lent_is m buf after e = ap (take m) e ∙ take_at (pattern_from m 0) (drop m buf) m (length-map-range_with_len pattern 0 m)

pub turn_made : {C : Type 0} {answers : Answering C} {before left : Option (List ℕ)} {calls next : C} (o : Option Record) (r : Record) (args buf after : List ℕ) (told : Told) (shown out : List ℕ) (used : ℕ) (more line : List ℕ)
    → o ≡ Some r → Gave before left o args buf after → length args ≡ room → length after ≡ room → length out ≡ line_room
    → answers calls r.call (take r.n args) (take r.m after) told shown next → LinePromise told shown out used more → PartPromise more 0 used line → Turn answers before left calls next line
turn_made {C} {answers} {before} {left} {calls} {next} o r args buf after told shown out used more line is p long wide tall answered lined part =
    let q : RecordPromise before left r args buf after = subst (λ (x : Option Record). Gave before left x args buf after) is p in
    record {
      asked = r;
      arguments = take r.n args;
      told = told;
      shown = shown;
      count = length-take-le r.n args q.arguments.0;
      read = arguments_alone before left r args q.read;
      has_room = omega (arith, q.arguments.0, long);
      lends = omega (arith, q.lends.0, wide);
      answered = subst (λ (l : List ℕ). answers calls r.call (take r.n args) l told shown next) (lent_is r.m buf after q.filled) answered;
      lined = part ∙ line_text told shown out used more lined ∙ ap (λ (n : ℕ). text_of n (line_of told shown)) tall;
    }

-- ---- no second run

-- each call is answered in one way
abbrev pub OneWay : {C : Type 0} → Answering C → Type 0
OneWay {C} answers = (calls : C) (call : ℕ) (args lent : List ℕ) (t u : Told) (after later : List ℕ) (next last : C)
    → answers calls call args lent t after next → answers calls call args lent u later last → (t ≡ u) × (after ≡ later) × (next ≡ last)

module _ {C : Type 0} (answers : Answering C) (one : OneWay answers) where
  turn_one : (s : List ℕ) (left rest : Option (List ℕ)) (calls next last : C) (line other : List ℕ) → Turn answers (Some s) left calls next line → Turn answers (Some s) rest calls last other
      → (left ≡ rest) × (next ≡ last) × (line ≡ other)
  turn_one s left rest calls next last line other t u =
      let asked : t.asked ≡ u.asked = t.read.0 ∙ sym u.read.0 in
      let p = read_is s left t.asked t.arguments t.count t.read in
      let q = read_is s rest u.asked u.arguments u.count u.read in
      let same : t.arguments ≡ u.arguments = p.0 ∙ ap (λ (r : Record). take r.n (drop 7 s)) asked ∙ sym q.0 in
      let answered : answers calls t.asked.call t.arguments (pattern_from t.asked.m 0) u.told u.shown last =
      subst (λ (r : Record). answers calls r.call t.arguments (pattern_from r.m 0) u.told u.shown last) (sym asked)
      (subst (λ (l : List ℕ). answers calls u.asked.call l (pattern_from u.asked.m 0) u.told u.shown last) (sym same) u.answered) in
      let w = one calls t.asked.call t.arguments (pattern_from t.asked.m 0) t.told u.told t.shown u.shown next last t.answered answered in (
        p.1 ∙ ap (λ (r : Record). Some (drop (7 + r.n) s)) asked ∙ sym q.1,
        w.2,
        t.lined ∙ ap (λ (x : Told). text_of line_room (line_of x t.shown)) w.0 ∙ ap (λ (l : List ℕ). text_of line_room (line_of u.told l)) w.1 ∙ sym u.lined,
      )

-- a turn has a record
begins : {C : Type 0} (answers : Answering C) (s : List ℕ) (left : Option (List ℕ)) (calls next : C) (line : List ℕ) → Turn answers (Some s) left calls next line → Begins room room s
begins answers s None calls next line t = absurd t.read.1
begins answers s (Some u) calls next line t =
    let r : Record = record_of (take 7 s) in
    let n : t.asked.n ≡ r.n = ap (λ (a : Record). a.n) t.read.0 in
    (t.read.2, omega (arith, n, t.has_room), omega (arith, ap (λ (a : Record). a.m) t.read.0, t.lends), long n)
  where
    long : t.asked.n ≡ (record_of (take 7 s)).n → 7 + (record_of (take 7 s)).n ≤ length s
    long n = omega (
      arith,
      n,
      ap length t.read.1,
      length-append (take 7 s ++ take t.asked.n t.arguments) u,
      length-append (take 7 s) (take t.asked.n t.arguments),
      length-take-le 7 s t.read.2,
      length-take-le t.asked.n t.arguments (omega (arith, t.count)),
    )

-- where no seven bytes are left no turn is made
pub no_turn : {C : Type 0} {answers : Answering C} {before left : Option (List ℕ)} {calls last : C} {text : List ℕ} {n : ℕ} → NoRecord before → Turns answers before left calls last text n → (n ≡ 0) × (last ≡ calls)
no_turn h none = (refl, refl)
no_turn {answers = answers} {before = before} {calls = calls} h (turn {middle = middle} {next = next} {line = line} t r) = absurd (short before h t)
  where
    short : (b : Option (List ℕ)) → NoRecord b → Turn answers b middle calls next line → ⊥
    short None h t = h
    short (Some s) h t = omega (arith, h, (begins answers s middle calls next line t).0)

module _ {C : Type 0} (answers : Answering C) (one : OneWay answers) where
  -- two runs over the same bytes, both to where no record is left
  turns_one : {before left rest : Option (List ℕ)} {calls next last : C} {text other : List ℕ} {n k : ℕ} (s : List ℕ) → before ≡ Some s → Turns answers before left calls next text n → NoneLeft room room left
      → Turns answers before rest calls last other k → NoneLeft room room rest → (next ≡ last) × (text ≡ other)
  turns_one s known none p none q = (refl, refl)
  turns_one {calls = calls} s known none p (turn {middle = middle} {next = next} {line = line} u r) q =
      absurd (subst (NoneLeft room room) known p (begins answers s middle calls next line (subst (λ (b : Option (List ℕ)). Turn answers b middle calls next line) known u)))
  turns_one {calls = calls} s known (turn {middle = middle} {next = next} {line = line} t r) p none q =
      absurd (subst (NoneLeft room room) known q (begins answers s middle calls next line (subst (λ (b : Option (List ℕ)). Turn answers b middle calls next line) known t)))
  turns_one {rest = rest} {calls = calls} {last = last} s known (turn {middle = m} {next = c} {line = line} {rest = text} t r) p (turn {middle = m₂} {next = c₂} {line = line₂} {rest = text₂} {n = k} u v) q =
      let t₁ = subst (λ (b : Option (List ℕ)). Turn answers b m calls c line) known t in
      let u₁ = subst (λ (b : Option (List ℕ)). Turn answers b m₂ calls c₂ line₂) known u in
      let w = turn_one answers one s m m₂ calls c c₂ line line₂ t₁ u₁ in
      let v₁ = subst (λ (b : Option (List ℕ)). Turns answers b rest c last text₂ k) (sym w.0) (subst (λ (x : C). Turns answers m₂ rest x last text₂ k) (sym w.1) v) in
      let on = turns_one (drop (7 + t₁.asked.n) s) (read_is s m t₁.asked t₁.arguments t₁.count t₁.read).1 r p v₁ q in
      (on.0, ap (λ (l : List ℕ). l ++ text) w.2 ∙ ap (λ (l : List ℕ). line₂ ++ l) on.1)

  holds_is : (h : List ℕ) (holds : Option (List ℕ)) (text : List ℕ) → Appends (Some h) holds text → holds ≡ Some (h ++ text)
  holds_is h None text p = absurd p
  holds_is h (Some t) text p = ap Some p

  -- known bytes, of which no record is left, and a writer whose bytes are known
  pub replay_one : {W : Type 0} (s h : List ℕ) (holds holding : Option (List ℕ)) (output written later : W) (calls next last : C) → TryReplayPromise answers (Some s) (Some h) holds output written calls next (Ok tt)
      → TryReplayPromise answers (Some s) (Some h) holding output later calls last (Ok tt) → (holds ≡ holding) × (next ≡ last)
  replay_one s h holds holding output written later calls next last p q =
      let w = turns_one s refl p.turns p.ended.0 q.turns q.ended.0 in
      (holds_is h holds p.text p.ended.1 ∙ ap (λ (l : List ℕ). Some (h ++ l)) w.1 ∙ sym (holds_is h holding q.text q.ended.1), w.0)

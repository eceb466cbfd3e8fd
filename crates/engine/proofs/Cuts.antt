-- An answer of 13 to an instruction: no check gives it, and the writing of an entry gives no
-- other refusal.
use Rattle.std.proofs.Common.{◌≡◌, ℕ, zero, suc, ◌<◌, leb, Bool, true, false, cond, not, ◌&&◌, eqb, List, [], ◌∷◌, Some, None, Ok, Err, Option, Result, sym, refl, ap, ◌∙◌, subst, arith}
use Rattle.std.proofs.lemmas.Bool.{and_parts, cond-false, lt-leb, eqb-true, both_ways, eq-eqb}
use Rattle.refusals.specs.declared.Refusal.{Refusal}
use Rattle.refusals.specs.declared.Refusal.TheVariants.{NoCalls, OpeningRefused, EngineDown, JournalFull}
use Rattle.refusals.specs.declared.Fault.{Fault}
use Rattle.refusals.specs.Faults.{plain, at_block, of_trade, in_entry}
use Rattle.refusals.specs.Numbers.{number_of, fault_number}
use Rattle.instruction.specs.declared.Instruction.{Instruction}
use Rattle.instruction.specs.Kinds.{kind_at}
use Rattle.instruction.specs.declared.Kind.TheVariants.{Issue}
use Rattle.book.specs.Rulings.{Check, first_refusal}
use Rattle.rulebook.specs.declared.State.{State}
use Rattle.rulebook.specs.declared.Terms.{Terms}
use Rattle.rulebook.specs.Table.{Act}
use Rattle.rulebook.specs.Rules.{Rulebook, Standing, answer, fault_about, fault_of, with_trade, all_checks, fault_answer, names_trade}
use Rattle.device.specs.Medium.{Medium}
use Rattle.device.specs.Calls.{Answer, and_then}
use Rattle.journal.specs.Journal.{record_at, mark_at, write_entry_answer}
use Rattle.engine.specs.declared.engine.Mode.{Mode}
use Rattle.engine.specs.declared.engine.Mode.TheVariants.{Open, Down, Refused}
use Rattle.engine.specs.View.{View}
use Rattle.engine.specs.Instructing.{if_open, room_answer, check_answer, within_entry, Leaves, TakesInstruction, Passes, IsFaultOf, block_without_call, TellsWhenDown}
use Rattle.engine.proofs.Refusals.{same-fault, names-by-kind}
use Rattle.engine.proofs.Instructs.{let-pass}

-- what is said with a refusal does not change it
pub fault-refusal-as : (b : Bool) (r : Refusal) (t : ℕ) → (cond b (of_trade t (plain r)) (plain r)).refusal ≡ r
fault-refusal-as true r t = refl
fault-refusal-as false r t = refl

pub fault-refusal : (x : Instruction) (r : Refusal) → (fault_of x r).refusal ≡ r
fault-refusal x r = fault-refusal-as (names_trade (kind_at x.kind)) r x.trade

pub about-refusal-as : (b : Bool) (f : Fault) (t : ℕ) → (cond b (of_trade t f) f).refusal ≡ f.refusal
about-refusal-as true f t = refl
about-refusal-as false f t = refl

-- the number of "no calls are left"
abbrev pub is13 : Refusal → Bool
is13 r = eqb (number_of r) 13

-- no check of these refuses so
abbrev calm : List Check → Bool
calm [] = true
calm (c ∷ cs) = not (is13 c.refusal) && calm cs

calm-first-as : (b : Bool) (c r : Refusal) (rest : Result (Unit {0}) Refusal) → not (is13 c) ≡ true
    → (rest ≡ Err r → is13 r ≡ false) → cond b (Err c) rest ≡ Err r → is13 r ≡ false
calm-first-as true c r rest n later e = let q : c ≡ r = cc in grind (arith, n, q)
calm-first-as false c r rest n later e = later e

calm-first : (cs : List Check) (r : Refusal) → calm cs ≡ true → first_refusal cs ≡ Err r → is13 r ≡ false
calm-first [] r w e = absurd cc
calm-first (c ∷ cs) r w e =
    let p = and_parts (not (is13 c.refusal)) (calm cs) w in
    calm-first-as c.fails c.refusal r (first_refusal cs) p.0 (λ q. calm-first cs r p.1 q) e

-- every rule has a number over 20, so that a 13 is never the rules' own
calm-rules : (h : Rulebook) (k : Act) (o : State) (m : Terms) (s : Standing) (x : Instruction)
    → calm (all_checks h k o m s x) ≡ true
calm-rules h None o m s x = refl
calm-rules h (Some Issue) o m s x = refl
calm-rules h k o m s x = refl

told-calm : (x : Instruction) (a : Result (Unit {0}) Refusal) (f : Fault)
    → ((r : Refusal) → a ≡ Err r → is13 r ≡ false) → with_trade x a ≡ Err f → is13 f.refusal ≡ false
told-calm x (Ok u) f n e = absurd cc
told-calm x (Err r) f n e =
    let q : fault_of x r ≡ f = cc in
    subst (λ g. is13 g.refusal ≡ false) q (ap is13 (fault-refusal x r) ∙ n r refl)

pub verdict-calm : (h : Rulebook) (s : Standing) (x : Instruction) (f : Fault) → fault_answer h s x ≡ Err f
    → is13 f.refusal ≡ false
verdict-calm h s x f e =
    let k = kind_at x.kind in
    told-calm x (answer h s x) f
    (λ r q. calm-first (all_checks h k (s.state x.trade) (s.terms x.trade) s x) r
    (calm-rules h k (s.state x.trade) (s.terms x.trade) s x) q) e

room-calm-as : (b : Bool) (x : Instruction) (f : Fault)
    → ◌≡◌ {A = Answer} (cond b (Err (fault_of x JournalFull)) (Ok tt)) (Err f) → is13 f.refusal ≡ false
room-calm-as true x f e =
    let q : fault_of x JournalFull ≡ f = cc in subst (λ g. is13 g.refusal ≡ false) q
    (ap is13 (fault-refusal x JournalFull))
room-calm-as false x f e = absurd cc

room-calm : (x : Instruction) (v : View) (f : Fault) → room_answer x v ≡ Err f → is13 f.refusal ≡ false
room-calm x v f e = room-calm-as (leb v.pairs v.entry_count) x f e

then-calm : (a b : Answer) (f : Fault) → ((g : Fault) → a ≡ Err g → is13 g.refusal ≡ false)
    → ((g : Fault) → b ≡ Err g → is13 g.refusal ≡ false) → and_then a b ≡ Err f → is13 f.refusal ≡ false
then-calm (Ok u) b f p q e = q f e
then-calm (Err g) b f p q e = p f e

ready-calm : (m : Mode) (x : Instruction) (a : Answer) (f : Fault)
    → ((g : Fault) → a ≡ Err g → is13 g.refusal ≡ false) → if_open m x a ≡ Err f → is13 f.refusal ≡ false
ready-calm Open x a f p e = p f e
ready-calm (Down y) x a f p e =
    let q : fault_of x EngineDown ≡ f = cc in subst (λ g. is13 g.refusal ≡ false) q
    (ap is13 (fault-refusal x EngineDown))
ready-calm (Refused g) x a f p e =
    let q : fault_of x OpeningRefused ≡ f = cc in subst (λ g. is13 g.refusal ≡ false) q
    (ap is13 (fault-refusal x OpeningRefused))

-- no check of an instruction is answered 13
pub checked-calm : (h : Rulebook) (x : Instruction) (v : View) (f : Fault) → check_answer h x v ≡ Err f
    → is13 f.refusal ≡ false
checked-calm h x v f e =
    ready-calm v.mode x (and_then (fault_answer h v.standing x) (room_answer x v)) f
    (λ g q. then-calm (fault_answer h v.standing x) (room_answer x v) g (verdict-calm h v.standing x)
    (room-calm x v) q) e

-- the four calls of an entry stop with 13, where fewer than four are left
pub enter-cut : (m : Medium) (k : ℕ) (f : Fault) → write_entry_answer m k ≡ Err f
    → (is13 f.refusal ≡ true) × (m.calls_left < 4)
enter-cut m k f e = grind (arith, e)

pub enter-done : (m : Medium) (k : ℕ) → write_entry_answer m k ≡ Ok tt → 3 < m.calls_left
enter-done m k e = grind (arith, e)

-- what the checks ask for is all that they ask for
pub passes : {h : Rulebook} {x : Instruction} {v : View} → Passes h x v → check_answer h x v ≡ Ok tt
passes {h} {x} {v} p =
    ap (λ (m : Mode). if_open m x (and_then (fault_answer h v.standing x) (room_answer x v))) p.mode
    ∙ ap (λ r. and_then (with_trade x r) (room_answer x v)) p.accepted
    ∙ cond-false (leb v.pairs v.entry_count) _ _ (lt-leb v.pairs v.entry_count p.room)

-- what a fault of the checks, or of the writing, names

-- what is said with a refusal, by whether the trade is named
said-of : (x : Instruction) (k : Option ℕ) (g : Fault) (names : Bool) → names ≡ (leb 3 x.kind && leb x.kind 7)
    → g.entry ≡ k → g.trade ≡ None → g.rule ≡ None
    → IsFaultOf x g.block k (cond names (of_trade x.trade g) g)
said-of x k g true e entry trade rule =
    record { block = refl; entry = entry; trade = ap (λ b. cond b (Some x.trade) None) e; rule = rule }
said-of x k g false e entry trade rule =
    record { block = refl; entry = entry; trade = trade ∙ ap (λ b. cond b (Some x.trade) None) e; rule = rule }

plain-says : (x : Instruction) (r : Refusal) → IsFaultOf x None None (fault_of x r)
plain-says x r = said-of x None (plain r) (names_trade (kind_at x.kind)) (names-by-kind x.kind) refl refl refl

says-so : (x : Instruction) (r : Refusal) (f : Fault) → ◌≡◌ {A = Answer} (Err (fault_of x r)) (Err f)
    → IsFaultOf x None None f
says-so x r f e = subst (λ g. IsFaultOf x None None g) (same-fault (fault_of x r) f e) (plain-says x r)

told-says : (x : Instruction) (a : Result (Unit {0}) Refusal) (f : Fault) → with_trade x a ≡ Err f
    → IsFaultOf x None None f
told-says x (Ok u) f e = absurd cc
told-says x (Err r) f e = says-so x r f e

room-says : (b : Bool) (x : Instruction) (f : Fault)
    → ◌≡◌ {A = Answer} (cond b (Err (fault_of x JournalFull)) (Ok tt)) (Err f) → IsFaultOf x None None f
room-says true x f e = says-so x JournalFull f e
room-says false x f e = absurd cc

then-says : (x : Instruction) (a b : Answer) (f : Fault) → (a ≡ Err f → IsFaultOf x None None f)
    → (b ≡ Err f → IsFaultOf x None None f) → and_then a b ≡ Err f → IsFaultOf x None None f
then-says x (Ok u) b f p q e = q e
then-says x (Err g) b f p q e = p e

ready-says : (m : Mode) (x : Instruction) (a : Answer) (f : Fault) → (a ≡ Err f → IsFaultOf x None None f)
    → if_open m x a ≡ Err f → IsFaultOf x None None f
ready-says Open x a f p e = p e
ready-says (Down y) x a f p e = says-so x EngineDown f e
ready-says (Refused g) x a f p e = says-so x OpeningRefused f e

checked-says : (h : Rulebook) (x : Instruction) (v : View) (f : Fault) → check_answer h x v ≡ Err f
    → IsFaultOf x None None f
checked-says h x v f e =
    ready-says v.mode x (and_then (fault_answer h v.standing x) (room_answer x v)) f
    (λ q. then-says x (fault_answer h v.standing x) (room_answer x v) f (told-says x (answer h v.standing x) f)
    (room-says (leb v.pairs v.entry_count) x f) q) e

-- the answer to the calls of an entry, by the calls left
abbrev answer_by : ℕ → ℕ → Answer
answer_by n k =
    cond (eqb n 0) (Err (at_block NoCalls (record_at k)))
    (cond (eqb n 1) (Err (plain NoCalls))
    (cond (eqb n 2) (Err (at_block NoCalls (mark_at k))) (cond (eqb n 3) (Err (plain NoCalls)) (Ok tt))))

record CutSays (n k : ℕ) (f : Fault) : Type 0 where
  block : f.block ≡ block_without_call k n
  trade : f.trade ≡ None
  rule : f.rule ≡ None

says-as : (n k : ℕ) (g f : Fault) → ◌≡◌ {A = Answer} (Err g) (Err f) → CutSays n k g → CutSays n k f
says-as n k g f e s = subst (λ x. CutSays n k x) (same-fault g f e) s

cut-says : (n k : ℕ) (f : Fault) → n < 4 → answer_by n k ≡ Err f → CutSays n k f
cut-says zero k f l e =
    says-as 0 k (at_block NoCalls (record_at k)) f e (record { block = refl; trade = refl; rule = refl })
cut-says (suc zero) k f l e = says-as 1 k (plain NoCalls) f e (record { block = refl; trade = refl; rule = refl })
cut-says (suc (suc zero)) k f l e =
    says-as 2 k (at_block NoCalls (mark_at k)) f e (record { block = refl; trade = refl; rule = refl })
cut-says (suc (suc (suc zero))) k f l e =
    says-as 3 k (plain NoCalls) f e (record { block = refl; trade = refl; rule = refl })
cut-says (suc (suc (suc (suc n)))) k f l e = absurd (omega arith)

within-says : (n k : ℕ) (x : Instruction) (g : Fault) → CutSays n k g
    → IsFaultOf x (block_without_call k n) (Some k) (fault_about x (in_entry k g))
within-says n k x g s =
    let i = said-of x (Some k) (in_entry k g) (names_trade (kind_at x.kind))
    (names-by-kind x.kind) refl s.trade s.rule in
    record { block = i.block ∙ s.block; entry = i.entry; trade = i.trade; rule = i.rule }

none-is-13 : ◌≡◌ {A = ℕ} 0 13 → ⊥
none-is-13 e = omega arith

module _ (h : Rulebook) (x : Instruction) (v v' : View) where
  -- the writing was cut short
  pub cut-down : Passes h x v → {f : Fault} → write_entry_answer v.medium v.entry_count ≡ Err f → {r : Answer}
      → r ≡ Err (fault_about x (in_entry v.entry_count f)) → v'.mode ≡ Down x → TellsWhenDown h x v v' r
  cut-down p {f} ew {r} er down =
      let cut = enter-cut v.medium v.entry_count f ew in
      let is : fault_number r ≡ 13 = ap fault_number er
      ∙ ap number_of (about-refusal-as (names_trade (kind_at x.kind)) (in_entry v.entry_count f) x.trade)
      ∙ eqb-true (number_of f.refusal) 13 cut.0 in
      record {
        only = λ e. (p, cut.1);
        always = λ q l. is;
        hand = λ e. down;
        cut = λ g eg n.
            subst (λ y. IsFaultOf x (block_without_call v.entry_count v.medium.calls_left) (Some v.entry_count) y)
            (same-fault (fault_about x (in_entry v.entry_count f)) g (sym er ∙ eg))
            (within-says v.medium.calls_left v.entry_count x f
            (cut-says v.medium.calls_left v.entry_count f cut.1 ew));
        check = λ g eg n. absurd (n (ap fault_number (sym eg) ∙ is));
      }

  -- by what the checks answer, and what the writing of the entry does
  cut-by : (c w r : Answer) → check_answer h x v ≡ c → write_entry_answer v.medium v.entry_count ≡ w
      → r ≡ and_then c (within_entry x v.entry_count w) → Leaves c w x v v' → TellsWhenDown h x v v' r
  cut-by (Err f) w r ec ew er left =
      let calm = checked-calm h x v f ec in
      let other : fault_number r ≡ 13
      → ⊥ = λ e. both_ways (is13 f.refusal) calm
      (eq-eqb (number_of f.refusal) 13 (sym (ap fault_number er) ∙ e)) in
      record {
        only = λ e. absurd (other e);
        always = λ p l. (let q : ◌≡◌ {A = Answer} (Err f) (Ok tt) = sym ec ∙ passes p in absurd cc);
        hand = λ e. absurd (other e);
        cut = λ g eg n. absurd (other (ap fault_number eg ∙ n));
        check =
            λ g eg n. subst (λ y. IsFaultOf x None None y) (same-fault f g (sym er ∙ eg)) (checked-says h x v f ec);
      }
  cut-by (Ok u) (Ok z) r ec ew er left =
      let done = enter-done v.medium v.entry_count ew in
      let other : fault_number r ≡ 13 → ⊥ = λ e. none-is-13 (sym (ap fault_number er) ∙ e) in
      record {
        only = λ e. absurd (other e);
        always = λ p l. absurd (omega arith);
        hand = λ e. absurd (other e);
        cut = λ g eg n. absurd (other (ap fault_number eg ∙ n));
        check = λ g eg n. (let q : ◌≡◌ {A = Answer} (Ok tt) (Err g) = sym er ∙ eg in absurd cc);
      }
  cut-by (Ok u) (Err f) r ec ew er left = cut-down (let-pass (sym ec)) ew er left.mode

  pub cut-short : {r : Answer} → TakesInstruction h x v v' r → TellsWhenDown h x v v' r
  cut-short {r} i =
      cut-by (check_answer h x v) (write_entry_answer v.medium v.entry_count) r refl refl i.answer i.after

-- After a close, a restart and an open the depository keeps the tally that they lead to.
use Rattle.std.proofs.Common.{◌≡◌, ℕ, ◌+◌, ◌*◌, ◌<◌, ◌≤◌, true, false, eqb, List, [], ◌∷◌, ◌++◌, length, Some, None, Ok, Err, Option, Result, ◌⊎◌, sym, refl, ap, ◌∙◌, subst, inl, inr, arith}
use Rattle.std.proofs.lemmas.List.{length_push}
use Rattle.std.proofs.lemmas.Bool.{eq-eqb, ne_eqb, cond-true, cond-false}
use Rattle.refusals.specs.declared.Refusal.{Refusal}
use Rattle.refusals.specs.declared.Fault.{Fault}
use Rattle.refusals.specs.Numbers.{number_of}
use Rattle.instruction.specs.declared.Instruction.{Instruction}
use Rattle.rulebook.specs.Terms.{securities, cash}
use Rattle.rulebook.specs.Rules.{Rulebook}
use Rattle.device.specs.Medium.{Medium, IsBounded}
use Rattle.device.specs.Power.{Restart}
use Rattle.journal.proofs.Survives.{restarting}
use Rattle.engine.specs.declared.engine.Mode.{Mode}
use Rattle.engine.specs.declared.engine.Mode.TheVariants.{Open, Down, Refused}
use Rattle.engine.specs.declared.slip.Contents.{Contents}
use Rattle.engine.specs.declared.slip.Verdict.{Verdict}
use Rattle.engine.specs.declared.slip.Verdict.TheVariants.{Same, Stands}
use Rattle.engine.specs.ClosingSlip.{same_fields, slip_verdict, HasVerdict, presented_number}
use Rattle.engine.specs.View.{View}
use Rattle.engine.specs.Asking.{opening_answer, contents_by_mode}
use Rattle.engine.specs.Opening.{opening_view, last_of}
use Rattle.engine.specs.StandingList.{blocks_for_books}
use Rattle.engine.proofs.Keeping.{WithOrWithout, Holding, FoundBy}
use Rattle.engine.proofs.Finds.{last-more}
use Rattle.engine.proofs.Openings.{opens}
use Rattle.depository.specs.declared.calls.OpenReply.{OpenReply}
use Rattle.depository.specs.OwedSlip.{newest_known}
use Rattle.depository.specs.Calling.{slip_answer, owed_after_open}
use Rattle.depository.specs.CallTally.{Tally, after_open, with_in_hand}
use Rattle.depository.specs.Survival.{JudgesLastSlip}
use Rattle.depository.proofs.KeepsTally.{SlipMatches, IsPairCount, OnDevice, InEngine, KeepsTallyBy}

-- no option is both
nothing-is-some : {X : Type 0} {x : X} → ◌≡◌ {A = Option X} None (Some x) → ⊥
nothing-is-some e =
    cc

-- an instruction has its own fields
same-self : (x : Instruction) → same_fields x x ≡ true
same-self x =
    rw (
      eq-eqb x.kind x.kind refl,
      eq-eqb x.account x.account refl,
      eq-eqb x.counterparty x.counterparty refl,
      eq-eqb x.item x.item refl,
      eq-eqb x.currency x.currency refl,
      eq-eqb x.trade x.trade refl,
      eq-eqb x.quantity x.quantity refl,
    ) (eq-eqb x.amount x.amount refl)

-- the verdict is 0 where as many entries were found as the slip tells,
judged-same : (c : Contents) (n : ℕ) (last : Option Instruction) → n ≡ c.entries → slip_verdict (Some c) n last ≡ Same
judged-same c n last e = cond-true (eqb n c.entries) _ _ (eq-eqb n c.entries e)

-- and 1 where one more was found, and it is the instruction in hand
judged-stands : (c : Contents) (n : ℕ) (last : Option Instruction) (x : Instruction) → n ≡ c.entries + 1
    → c.hand ≡ Some x → last ≡ Some x → slip_verdict (Some c) n last ≡ Stands
judged-stands c n last x e eh el =
    let other : eqb n c.entries ≡ false = ne_eqb n c.entries (λ q. omega arith) in
    cond-false (eqb n c.entries) _ _ other ∙ rw (eq-eqb n (c.entries + 1) e, eh, el, same-self x) refl

module _ (h : Rulebook) (pairs : ℕ) (t : Tally) where
  -- after a close the slip that is owed tells the tally
  pub closed : (v : View) (l : Option Contents) (m : Mode) → KeepsTallyBy h pairs t v l m
      → OnDevice h pairs t v.medium × SlipMatches (newest_known (contents_by_mode m v.entry_count) l) t
  closed v l Open k = (k.1.device, (k.1.entry_count, sym k.0))
  closed v l (Down x) k = (k.1.device, (k.1.entry_count, sym k.0))
  closed v l (Refused f) k = k

  -- a restart leaves the journal on the device as it is
  pub restarted : (m n : Medium) (q top : ℕ) → Restart m n q top → OnDevice h pairs t m → OnDevice h pairs t n
  restarted m n q top r k = record {
    journal = restarting (blocks_for_books h pairs) m n q top t.list t.in_hand k.journal r;
    lawful = k.lawful;
    size = omega (arith, r.size, k.size);
  }

  -- the reply to the open that gave the engine v in the mode m
  abbrev answered : Mode → View → Option Contents → OpenReply
  answered m v l = record {
    answer = opening_answer m;
    found = v.found;
    slip_answer = slip_answer m v.found v.last_found l;
  }

  -- The list ys that an opening found, answered 0, is that of the tally after it; and the slip is
  -- judged as the law says.
  pub record Agrees (l : Option Contents) (v : View) (ys : List Instruction) : Type 0 where
    pub fed : after_open t (Ok tt) (slip_answer Open v.found v.last_found l) ≡ record { list = ys; in_hand = None }
    pub judged : JudgesLastSlip l (answered Open v l) v

  -- where no slip is owed, none is judged
  none-judged : (v : View) → JudgesLastSlip None (answered Open v None) v
  none-judged v = record {
    no_slip = λ e. refl;
    judged = λ c e. absurd (nothing-is-some e);
    zero_or_one = λ w e. absurd (nothing-is-some e);
  }

  -- a verdict of 0 or 1
  abbrev IsUpheld : Result Verdict Refusal → Type 0
  IsUpheld p = (presented_number p ≡ 0) ⊎ (presented_number p ≡ 1)

  -- where one is, from the verdict's own words
  is-judged : (c : Contents) (v : View) (w : Verdict) → slip_verdict (Some c) v.found v.last_found ≡ w
      → HasVerdict (Some c) v.found v.last_found w → IsUpheld (Ok w)
      → JudgesLastSlip (Some c) (answered Open v (Some c)) v
  is-judged c v w e j up = record {
    no_slip = λ e. absurd (nothing-is-some (sym e));
    judged = λ b same. let q : c ≡ b = cc in (
      w,
      ap (λ u. Some (Ok u)) e,
      subst (λ u. HasVerdict (Some u) v.found v.last_found w) q j,
    );
    zero_or_one = λ p same. let q : Ok w ≡ p = cc (e, same) in subst IsUpheld q up;
  }

  abbrev with-verdict : Verdict → Tally
  with-verdict w = after_open t (Ok tt) (Some (Ok w))

  -- what was in hand was not found,
  agrees-without : (l : Option Contents) (v : View) (ys : List Instruction) → SlipMatches l t → v.found ≡ length ys
      → ys ≡ t.list → Agrees l v ys
  agrees-without None v ys m found e = record {
    fed = λ i. record { list = sym e i; in_hand = None };
    judged = none-judged v;
  }
  agrees-without (Some c) v ys m found e =
      let n : v.found ≡ c.entries = found ∙ ap length e ∙ sym m.0 in
      let same = judged-same c v.found v.last_found n in
      record {
        fed = ap with-verdict same ∙ (λ i. record { list = sym e i; in_hand = None });
        judged = is-judged c v Same same (c, refl, n) (inl refl);
      }

  -- or it was
  agrees-with : (l : Option Contents) (v : View) (ys : List Instruction) (x : Instruction) → SlipMatches l t
      → v.found ≡ length ys → v.last_found ≡ last_of ys → t.in_hand ≡ Some x → ys ≡ t.list ++ (x ∷ [])
      → Agrees l v ys
  agrees-with None v ys x m found last hand e = absurd (nothing-is-some (sym m ∙ hand))
  agrees-with (Some c) v ys x m found last hand e =
      let n : v.found ≡ c.entries + 1 = found ∙ ap length e ∙ length_push t.list x ∙ ap (λ n. n + 1) (sym m.0) in
      let is-last : v.last_found ≡ Some x = last ∙ ap last_of e ∙ last-more t.list x in
      let stands = judged-stands c v.found v.last_found x n (m.1 ∙ hand) is-last in
      record {
        fed = ap with-verdict stands ∙ (λ i. record { list = with_in_hand t.list (hand i); in_hand = None })
            ∙ (λ i. record { list = sym e i; in_hand = None });
        judged = is-judged c v Stands stands (c, refl, n, (x, m.1 ∙ hand, is-last)) (inr refl);
      }

  -- in either case
  agrees : (l : Option Contents) (v : View) (ys : List Instruction) → SlipMatches l t → Holding h pairs ys v
      → WithOrWithout t.list t.in_hand ys → Agrees l v ys
  agrees l v ys m g (inl e) = agrees-without l v ys m g.found e
  agrees l v ys m g (inr (x, hand, e)) = agrees-with l v ys x m g.found g.last_found hand e

  -- by the mode after an opening: answered 0 it judges the slip as the law says; it is refused
  -- only with 13
  abbrev SaysOfOpening : Option Contents → View → Mode → Type 0
  SaysOfOpening l v Open = JudgesLastSlip l (answered Open v l) v
  SaysOfOpening l v (Down x) = ⊥
  SaysOfOpening l v (Refused f) = number_of f.refusal ≡ 13

  -- what an opening leaves of a tally that the device kept
  pub record Reopens (m : Medium) (l : Option Contents) (v : View) : Type 0 where
    pub kept : KeepsTallyBy h pairs (after_open t (opening_answer v.mode)
        (slip_answer v.mode v.found v.last_found l)) v (owed_after_open v.mode l) v.mode
    pub judged : opening_answer v.mode ≡ Ok tt → JudgesLastSlip l (answered v.mode v l) v
    pub refused : (f : Fault) → opening_answer v.mode ≡ Err f → number_of f.refusal ≡ 13
    pub prompt : 1 + 2 * pairs ≤ m.calls_left → opening_answer v.mode ≡ Ok tt

  -- what `Reopens` says, by the mode
  abbrev KeepsAs : Option Contents → View → Mode → Type 0
  KeepsAs l v m = KeepsTallyBy h pairs (after_open t (opening_answer m) (slip_answer m v.found v.last_found l)) v
      (owed_after_open m l) m × SaysOfOpening l v m

  kept-as : (w : Medium) (l : Option Contents) (v : View) (m : Mode) → OnDevice h pairs t w → SlipMatches l t
      → 1 + 2 * pairs ≤ v.medium.size → FoundBy h pairs t.list t.in_hand v m → KeepsAs l v m
  kept-as w l v Open k ml size (ys, either, g) =
      let a = agrees l v ys ml g either in
      let engine : InEngine h pairs (record { list = ys; in_hand = None }) v = record {
        device = record {
          journal = g.journal;
          lawful = record { standing = v.standing; runs = g.runs; next = λ x e. absurd (nothing-is-some e) };
          size = size;
        };
        runs = g.runs;
        room = g.room;
        entry_count = g.entry_count;
      } in
      (subst (λ u. KeepsTallyBy h pairs u v None Open) (sym a.fed) (refl, engine), a.judged)
  kept-as w l v (Down x) k ml size f = absurd f
  kept-as w l v (Refused f) k ml size j = ((record { journal = j.1; lawful = k.lawful; size = size }, ml), j.0)

  -- so in words: answered 0,
  says-judged : (l : Option Contents) (v : View) (m : Mode) → SaysOfOpening l v m → opening_answer m ≡ Ok tt
      → JudgesLastSlip l (answered m v l) v
  says-judged l v Open s e = s
  says-judged l v (Down x) s e = absurd s
  says-judged l v (Refused f) s e = absurd cc

  -- and refused
  says-refused : (l : Option Contents) (v : View) (m : Mode) → SaysOfOpening l v m
      → (f : Fault) → opening_answer m ≡ Err f → number_of f.refusal ≡ 13
  says-refused l v Open s f e = absurd cc
  says-refused l v (Down x) s f e = absurd s
  says-refused l v (Refused g) s f e = let q : g ≡ f = cc in subst (λ (u : Fault). number_of u.refusal ≡ 13) q s

  -- an opening of a device that keeps the tally
  pub reopened : (m : Medium) (l : Option Contents) → IsPairCount pairs → (h.book_kind securities).code < 256
      → (h.book_kind cash).code < 256 → IsBounded m → OnDevice h pairs t m → SlipMatches l t
      → Reopens m l (opening_view h m)
  reopened m l p c₁ c₂ b k ml =
      let v = opening_view h m in
      let o = opens h pairs m t.list t.in_hand v p.some p.few k.size c₁ c₂ b k.journal k.lawful refl in
      let a = kept-as m l v v.mode k ml (omega (arith, o.same.size, k.size)) o.found in
      record {
        kept = a.0;
        judged = says-judged l v v.mode a.1;
        refused = says-refused l v v.mode a.1;
        prompt = λ low. ap opening_answer (o.prompt low);
      }

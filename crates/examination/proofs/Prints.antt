-- What the program prints: its device can be formatted, so a script gets its key unless it is too
-- long; and that key is one.
use Rattle.std.proofs.Common.{◌≡◌, ℕ, List, length, drop, Ok, Err, Result, inl, inr, sym, refl, ap, ◌∙◌, subst, arith, rules}
use Rattle.std.specs.Result.{IfOk, IsErrAnd, MatchResult}
use Rattle.std.proofs.lemmas.List.{length-replicate}
use Rattle.std.proofs.lemmas.Result.{err_from_is_err_and}
use Rattle.refusals.specs.declared.Refusal.TheVariants.{InputTooLong}
use Rattle.refusals.specs.declared.Fault.{Fault}
use Rattle.book.specs.Holdings.{Holdings, nothing}
use Rattle.ledger.specs.View.{both_sides}
use Rattle.device.specs.declared.TheConstants.{MOST_CALLS}
use Rattle.simulated.specs.declared.state.Simulated.{Simulated}
use Rattle.simulated.specs.Meaning.{image_of, meaning, meaning_of, state_of, Makes}
use Rattle.simulated.proofs.Kind.{fixed}
use Rattle.journal.specs.Format.{format_answer}
use Rattle.depository.proofs.Determined.{IsDetermined}
use Rattle.depository.proofs.OneAnswer.{one-answer}
use Rattle.examination.specs.declared.answer.LineAnswer.{LineAnswer}
use Rattle.depository.specs.declared.stop.Stop.{Stop}
use Rattle.depository.specs.declared.stop.Stop.TheVariants.{ByFault}
use Rattle.examination.specs.Orders.{requests_in}
use Rattle.examination.specs.Answers.{answers_for}
use Rattle.examination.specs.Key.{IsKeyOf, IsStop}
use Rattle.examination.specs.Texts.{key_text, refusal_text}
use Rattle.examination.specs.Program.{zero_bytes, image_length, first_calls, pair_count, IsNew, two_balances, IsKeyText, IsPrinted, KeysAreUnique}

zeros-count : (n : ℕ) → length (zero_bytes n) ≡ n
unfolding zero_bytes
zeros-count n = length-replicate n 0

formats-on : (image : List ℕ) (left : ℕ) → length image ≡ image_length → left ≡ first_calls
    → format_answer pair_count (meaning_of image left) ≡ Ok tt
formats-on image left e el = rw (e, el) refl

formats : (d : Simulated) → IsNew d → format_answer pair_count (meaning d) ≡ Ok tt
formats d n = formats-on (image_of d) d.rows.calls_left (ap length n.image ∙ zeros-count image_length) n.calls

pub prints-key : (d : Simulated) (r c : Holdings) (script : List ℕ) (answers shown : List LineAnswer)
    (text : List ℕ) → IsNew d → r ≡ nothing → c ≡ nothing
    → IsKeyOf Makes meaning two_balances MOST_CALLS pair_count d (both_sides r c) script answers → shown ≡ answers
    → text ≡ key_text 1 shown → IsPrinted script text
prints-key d r c script answers shown text n er ec k es et =
    let no-register = subst (λ z. IsKeyOf Makes meaning two_balances MOST_CALLS pair_count d
    (both_sides z c) script answers) er k in
    let empty = subst (λ z. IsKeyOf Makes meaning two_balances MOST_CALLS pair_count d
    (both_sides nothing z) script answers) ec no-register in
    inl (record {
      device = d;
      is_new = n;
      answers = answers;
      is_key = empty;
      no_dash = empty.no_dash (let calls = n.calls in omega arith);
      is_text = et ∙ ap (key_text 1) es;
    })

-- the one refusal that can come
pub prints-refusal : (d : Simulated) (script : List ℕ) (f : Fault) (stop : Stop) (text : List ℕ) → IsNew d
    → stop ≡ ByFault f → IsStop pair_count (meaning d) script stop → text ≡ refusal_text f.refusal
    → IsPrinted script text
prints-refusal d script f stop text n es s et =
    elim (subst (λ z. IsStop pair_count (meaning d) script z) es s) [
      | inl p ↦ let e : f.refusal ≡ InputTooLong = cc (p.1) in inr (p.0, et ∙ ap refusal_text e)
      | inr p ↦ let e : Ok tt ≡ Err f = sym (formats d n) ∙ p.1 in absurd cc
    ]

-- a simulated device is determined by its image and the calls left
both : {a b : List ℕ} {m n : ℕ} → a ≡ b → m ≡ n → ◌≡◌ {A = List ℕ × ℕ} (a, m) (b, n)
both p q = λ i. (p i, q i)

settled : IsDetermined Makes meaning state_of
settled = record { fixed = fixed; meaning = λ d e q. ap (λ (s : List ℕ × ℕ). meaning_of s.0 s.1) q }

key-one : (script text other : List ℕ) → IsKeyText script text → IsKeyText script other → text ≡ other
key-one script text other a b =
    let alike = both (a.is_new.image ∙ sym b.is_new.image) (a.is_new.calls ∙ sym b.is_new.calls) in
    let replies = one-answer Makes meaning state_of settled two_balances MOST_CALLS alike
    a.is_key.are_replies.survives.run b.is_key.are_replies.survives.run in
    let answers = a.is_key.answers_are ∙ ap (λ rs. answers_for (requests_in script) (drop 1 rs)) replies
    ∙ sym b.is_key.answers_are in
    a.is_text ∙ ap (key_text 1) answers ∙ sym b.is_text

print-one : (script text other : List ℕ) → IsPrinted script text → IsPrinted script other → text ≡ other
print-one script text other (inl a) (inl b) = key-one script text other a b
print-one script text other (inl a) (inr q) = let short = a.is_key.short in absurd (omega (arith, short, q.0))
print-one script text other (inr p) (inl b) = let short = b.is_key.short in absurd (omega (arith, short, p.0))
print-one script text other (inr p) (inr q) = p.1 ∙ sym q.1

pub keys_are_unique : KeysAreUnique
keys_are_unique = record { one = print-one }

-- what holds of the value holds also where the error was made another
pub other-error : {T E D : Type 0} (Q : E → D → Type 0) (r : Result T E) (s : Result T D) (P : T → Type 0)
    → MatchResult r (λ x. s ≡ Ok x) (λ e. IsErrAnd s (Q e)) → IfOk r P → IfOk s P
other-error Q (Ok x) s P cases h = subst (λ t. IfOk t P) (sym cases) h
other-error Q (Err e) s P cases h = let p = err_from_is_err_and s cases in subst (λ t. IfOk t P) (sym p.1) tt

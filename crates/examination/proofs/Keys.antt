-- The key of a script.
use Rattle.std.proofs.Common.{sym, ◌≡◌, ℕ, suc, ◌≤◌, List, [], ◌∷◌, length, drop, Result, refl, ap, ◌∙◌, subst}
use Rattle.std.specs.List.{AllByRecursion}
use Rattle.std.proofs.lemmas.List.{length-map}
use Rattle.refusals.specs.declared.Refusal.{Refusal}
use Rattle.book.specs.Holdings.{Holdings}
use Rattle.rulebook.specs.Terms.{Side}
use Rattle.rulebook.specs.Rules.{Rulebook}
use Rattle.script.specs.declared.Request.{Request}
use Rattle.script.specs.Requests.{request_in}
use Rattle.script.specs.Feeds.{lines_of}
use Rattle.device.specs.Medium.{Medium}
use Rattle.device.specs.Traces.{DeviceCall}
use Rattle.depository.specs.Orders.{Order}
use Rattle.depository.specs.declared.calls.Reply.{Reply}
use Rattle.examination.specs.declared.answer.LineAnswer.{LineAnswer}
use Rattle.examination.specs.Orders.{orders_of, requests_in, orders_in}
use Rattle.examination.specs.Answers.{HasNoDash, answers_for}
use Rattle.examination.specs.Key.{most_bytes, AreReplies, IsKeyOf}
use Rattle.examination.proofs.NoDash.{no-dash-key}

answers-count : (qs : List (Result Request Refusal)) (rs : List Reply) → length (answers_for qs rs) ≡ length qs
answers-count [] rs = refl
answers-count (q ∷ qs) rs = ap suc (answers-count qs (drop (length (orders_of q)) rs))

-- a key is made of the replies to the calls of the script's lines
pub keyed : {D : Type 0} (makes : D → DeviceCall → D → Type 0) (means : D → Medium) (h : Rulebook) (most pairs : ℕ)
    (d : D) (books : Side → Holdings) (script : List ℕ) (calls : List Order)
    (requests : List (Result Request Refusal))
    (replies shown : List Reply) (answers : List LineAnswer) → length script ≤ most_bytes → calls ≡ orders_in script
    → AreReplies makes means h most pairs d books calls replies → requests ≡ requests_in script
    → shown ≡ replies
    → answers ≡ answers_for requests (drop 1 shown) → IsKeyOf makes means h most pairs d books script answers
keyed makes means h most pairs d books script calls requests replies shown answers short ec r eq es ea =
    let is : answers ≡ answers_for (requests_in script) (drop 1 replies) = ea
    ∙ ap (λ z. answers_for z (drop 1 shown)) eq ∙ ap (λ z. answers_for (requests_in script) (drop 1 z)) es in
    let replied : AreReplies makes means h most pairs d books (orders_in script) replies = subst
    (λ z. AreReplies makes means h most pairs d books z replies) ec r in
    record {
      short = short;
      replies = replies;
      are_replies = replied;
      answers_are = is;
      count = ap length is ∙ answers-count (requests_in script) (drop 1 replies)
          ∙ length-map (lines_of script) request_in;
      no_dash = λ calls. subst (AllByRecursion HasNoDash) (sym is)
          (no-dash-key h most makes means pairs d books
          (requests_in script) replies replied.end replied.device replied.survives calls);
    }

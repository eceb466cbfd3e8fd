-- The key as text.
use Rattle.std.specs.Prelude.{ℕ, ◌+◌, List, [], ◌∷◌, ◌++◌, Some, None, Option, Result, decimal}
use Rattle.refusals.specs.declared.Refusal.{Refusal}
use Rattle.refusals.specs.Numbers.{number_of, answer_number}
use Rattle.engine.specs.declared.slip.Verdict.{Verdict}
use Rattle.engine.specs.ClosingSlip.{presented_number}
use Rattle.examination.specs.declared.answer.LineAnswer.{LineAnswer}
use Rattle.examination.specs.declared.answer.LineAnswer.TheVariants.{Accepted, Amounts, Reopened, Refused, Unasked}

-- what the slip was answered, or a dash (45) where none was presented
abbrev pub slip_answer_then : Option (Result Verdict Refusal) → List ℕ → List ℕ
slip_answer_then (Some p) rest = decimal (presented_number p) ++ rest
slip_answer_then None rest = 45 ∷ rest

-- An answer, and what is written after it. An answer is 0, with free and blocked after a question;
-- or the number of a refusal; or, after a cut, the number of the opening's answer, the count found,
-- and what the slip was answered. A dash stands for what no line asks for.
abbrev pub answer_then : LineAnswer → List ℕ → List ℕ
answer_then Accepted rest = 48 ∷ rest
answer_then (Amounts f) rest = 48 ∷ 32 ∷ (decimal f.free ++ (32 ∷ (decimal f.blocked ++ rest)))
answer_then (Reopened o) rest =
    decimal (answer_number o.answer)
    ++ (32 ∷ (decimal o.found ++ (32 ∷ slip_answer_then o.slip_answer rest)))
answer_then (Refused r) rest = decimal (number_of r) ++ rest
answer_then Unasked rest = 45 ∷ rest

-- a line's number, a space, its answer and a line feed (10)
abbrev pub line_text : ℕ → LineAnswer → List ℕ
line_text n a = decimal n ++ (32 ∷ answer_then a (10 ∷ []))

-- the lines, numbered on from n
abbrev pub key_text : ℕ → List LineAnswer → List ℕ
key_text n [] = []
key_text n (a ∷ rest) = line_text n a ++ key_text (n + 1) rest

-- what is printed for a script that is refused as a whole: 0, a space, the refusal's number and a
-- line feed
abbrev pub refusal_text : Refusal → List ℕ
refusal_text r = 48 ∷ 32 ∷ (decimal (number_of r) ++ (10 ∷ []))

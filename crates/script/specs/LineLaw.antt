-- The law over lines: the one text of each request, and what reading a line answers. It shares no
-- word with the reader's rule.
use Rattle.std.specs.Prelude.{◌≡◌, ℕ, ◌^◌, ◌<◌, ◌≤◌, List, [], ◌∷◌, length, Ok, Err, decimal, Result}
use Rattle.std.specs.List.{flat_map, AllByRecursion}
use Rattle.refusals.specs.declared.Refusal.{Refusal}
use Rattle.refusals.specs.Numbers.{number_of}
use Rattle.instruction.specs.declared.Kind.{Kind}
use Rattle.instruction.specs.declared.Kind.TheVariants.{Issue, PayIn, Enter, Earmark, Fund, Settle, Free}
use Rattle.instruction.specs.declared.Instruction.{Instruction}
use Rattle.instruction.specs.Layout.{IsEncodable}
use Rattle.script.specs.declared.Position.{Position}
use Rattle.script.specs.declared.Cut.{Cut as PowerCut}
use Rattle.script.specs.declared.Request.{Request}
use Rattle.script.specs.declared.Request.TheVariants.{Instruct, Register, Cash, Cut}

-- a space and the decimal of each number
abbrev pub numbers_text : List ℕ → List ℕ
numbers_text ns = flat_map (λ n. 32 ∷ decimal n) ns

-- the letter of a kind: I, D, T, E, L, S or F
abbrev pub letter_of : Kind → ℕ
letter_of Issue = 73
letter_of PayIn = 68
letter_of Enter = 84
letter_of Earmark = 69
letter_of Fund = 76
letter_of Settle = 83
letter_of Free = 70

-- the kind bytes that they stand for
abbrev pub byte_of : Kind → ℕ
byte_of Issue = 1
byte_of PayIn = 2
byte_of Enter = 3
byte_of Earmark = 4
byte_of Fund = 5
byte_of Settle = 6
byte_of Free = 7

-- the fields that follow the letter
abbrev pub written_fields : Kind → Instruction → List ℕ
written_fields Issue i = i.account ∷ i.item ∷ i.quantity ∷ []
written_fields PayIn i = i.account ∷ i.currency ∷ i.amount ∷ []
written_fields Enter i =
    i.account ∷ i.counterparty ∷ i.item ∷ i.currency ∷ i.trade ∷ i.quantity ∷ i.amount ∷ []
written_fields Earmark i = i.trade ∷ []
written_fields Fund i = i.trade ∷ []
written_fields Settle i = i.trade ∷ []
written_fields Free i = i.trade ∷ []

abbrev all_but_trade : Instruction → List ℕ
all_but_trade i =
    i.account ∷ i.counterparty ∷ i.item ∷ i.currency ∷ i.quantity ∷ i.amount ∷ []

-- the other fields, which are 0
abbrev pub omitted_fields : Kind → Instruction → List ℕ
omitted_fields Issue i = i.counterparty ∷ i.currency ∷ i.trade ∷ i.amount ∷ []
omitted_fields PayIn i = i.counterparty ∷ i.item ∷ i.trade ∷ i.quantity ∷ []
omitted_fields Enter i = []
omitted_fields Earmark i = all_but_trade i
omitted_fields Fund i = all_but_trade i
omitted_fields Settle i = all_but_trade i
omitted_fields Free i = all_but_trade i

-- a line is the text of an instruction
pub record IsInstructionText (i : Instruction) (line : List ℕ) : Type 0 where
  pub kind : Kind
  pub byte : i.kind ≡ byte_of kind
  pub zeros : AllByRecursion (λ n. n ≡ 0) (omitted_fields kind i)
  pub fit : IsEncodable i
  pub text : line ≡ letter_of kind ∷ numbers_text (written_fields kind i)

-- a line is the text of a question with this letter
pub record IsQuestionText (letter : ℕ) (p : Position) (line : List ℕ) : Type 0 where
  pub account : p.account < 2 ^ 16
  pub item : p.item < 2 ^ 16
  pub text : line ≡ letter ∷ numbers_text (p.account ∷ p.item ∷ [])

-- a line is the text of a cut: the letter C (67), the calls, and up to eight remains
pub record IsCutText (x : PowerCut) (line : List ℕ) : Type 0 where
  pub calls_left : x.calls_left < 2 ^ 32
  pub few : length x.remains ≤ 8
  pub bytes : AllByRecursion (λ r. r < 2 ^ 8) x.remains
  pub text : line ≡ 67 ∷ numbers_text (x.calls_left ∷ x.remains)

-- a line is the text of a request; Q (81) asks for securities, K (75) for cash
abbrev pub IsTextOf : Request → List ℕ → Type 0
IsTextOf (Instruct i) line = IsInstructionText i line
IsTextOf (Register p) line = IsQuestionText 81 p line
IsTextOf (Cash p) line = IsQuestionText 75 p line
IsTextOf (Cut x) line = IsCutText x line

-- what reading a line answers: the request that the line is the text of, or 71 where it is the text
-- of none
abbrev pub ReadsLine : List ℕ → Result Request Refusal → Type 0
ReadsLine line (Ok q) = IsTextOf q line
ReadsLine line (Err r) = (number_of r ≡ 71) × ((q : Request) → IsTextOf q line → ⊥)

-- What a line is read as: the reader's rule. What it has to do is said apart, in LineLaw.
use Rattle.std.specs.Prelude.{ℕ, zero, suc, Bool, List, [], ◌∷◌, map, length, Some, None, Option, Result, if◌then◌else◌, ◌==◌, slice_index}
use Rattle.std.specs.Bool.{then_some}
use Rattle.std.specs.Option.{ok_or}
use Rattle.refusals.specs.declared.Refusal.{Refusal}
use Rattle.refusals.specs.Numbers.{numbered}
use Rattle.instruction.specs.declared.Kind.{Kind}
use Rattle.instruction.specs.declared.Kind.TheVariants.{Issue, PayIn, Enter, Earmark, Fund, Settle, Free}
use Rattle.instruction.specs.declared.Instruction.{Instruction}
use Rattle.instruction.specs.Fields.{most_of, fields_of, instruction_with}
use Rattle.script.specs.declared.TheConstants.{MOST_REMAINS}
use Rattle.script.specs.declared.Position.{Position}
use Rattle.script.specs.declared.Cut.{Cut as PowerCut}
use Rattle.script.specs.declared.Request.{Request}
use Rattle.script.specs.declared.Request.TheVariants.{Instruct, Register, Cash, Cut}
use Rattle.script.specs.Words.{Word, letter, digits, space, other, end, first_word, after_word}
use Rattle.script.specs.Numerals.{largest_in, numeral}

abbrev pub and_then : {X Y : Type 0} → Option X → (X → Option Y) → Option Y
and_then (Some x) f = f x
and_then None f = None

-- what was read, if the line ends there
abbrev pub at_line_end : {X : Type 0} → List ℕ → X → Option X
at_line_end bs x = then_some (length bs == 0) x

abbrev pub number_in : ℕ → Word → Option ℕ
number_in most (digits ds) = numeral most ds
number_in most (letter l) = None
number_in most space = None
number_in most other = None
number_in most end = None

abbrev pub field_in : ℕ → Word → List ℕ → Option ℕ
field_in most space bs = number_in most (first_word bs)
field_in most (letter l) bs = None
field_in most (digits ds) bs = None
field_in most other bs = None
field_in most end bs = None

-- the number of a field: a space, and a numeral of at most `most`
unfoldable pub field_of : ℕ → List ℕ → Option ℕ
field_of most bs = field_in most (first_word bs) (after_word bs)

-- what follows a field
unfoldable pub after_field : List ℕ → List ℕ
after_field bs = after_word (after_word bs)

-- the numbers of fields, each at most what is given for it, and then the end of the line
abbrev pub numbers_in : List ℕ → List ℕ → Option (List ℕ)
numbers_in [] bs = at_line_end bs []
numbers_in (m ∷ ms) bs =
    and_then (field_of m bs) (λ n. and_then (numbers_in ms (after_field bs)) (λ ns. Some (n ∷ ns)))

-- the fields that a kind uses
abbrev pub instruction_of : Kind → List ℕ → Option Instruction
instruction_of k bs =
    and_then (numbers_in (map most_of (fields_of k)) bs) (λ ns. Some (instruction_with k ns))

-- one field, if it is used: its number, or 0
abbrev pub number_if : Bool → ℕ → List ℕ → Option ℕ
number_if used most bs = if used then field_of most bs else Some 0

-- and what follows it
abbrev pub after_if : Bool → List ℕ → List ℕ
after_if used bs = if used then after_field bs else bs

-- an account, and an item of the register or a currency of cash
abbrev pub position_of : List ℕ → Option Position
position_of bs =
    and_then (numbers_in (largest_in 2 ∷ largest_in 2 ∷ []) bs)
    (λ ns. Some (record { account = slice_index ns 0; item = slice_index ns 1 }))

-- up to so many remains, and then the end of the line
unfoldable pub remains_in : ℕ → List ℕ → Option (List ℕ)
remains_in zero bs = at_line_end bs []
remains_in (suc n) bs =
    if length bs == 0 then Some []
    else and_then (field_of (largest_in 1) bs)
    (λ r. and_then (remains_in n (after_field bs)) (λ rs. Some (r ∷ rs)))

-- a number of calls, and the remains
abbrev pub cut_of : List ℕ → Option PowerCut
cut_of bs =
    and_then (field_of (largest_in 4) bs)
    (λ q. and_then (remains_in MOST_REMAINS (after_field bs))
    (λ rs. Some (record { calls_left = q; remains = rs })))

-- the kind of the letter I, D, T, E, L, S or F
abbrev pub kind_for : ℕ → Option Kind
kind_for c =
    if c == 73 then Some Issue
    else (if c == 68 then Some PayIn
    else (if c == 84 then Some Enter
    else (if c == 69 then Some Earmark
    else (if c == 76 then Some Fund
    else (if c == 83 then Some Settle
    else (if c == 70 then Some Free else None))))))

-- the request of a letter and the fields after it: Q (81) asks for securities, K (75) for cash, and
-- C (67) for a cut
abbrev pub request_for : ℕ → List ℕ → Option Request
request_for c bs =
    if c == 81 then and_then (position_of bs) (λ p. Some (Register p))
    else (if c == 75 then and_then (position_of bs) (λ p. Some (Cash p))
    else (if c == 67 then and_then (cut_of bs) (λ x. Some (Cut x))
    else and_then (kind_for c) (λ k. and_then (instruction_of k bs) (λ i. Some (Instruct i)))))

abbrev pub request_after : Word → List ℕ → Option Request
request_after (letter l) bs = request_for l bs
request_after (digits ds) bs = None
request_after space bs = None
request_after other bs = None
request_after end bs = None

abbrev pub request_of : List ℕ → Option Request
request_of bs = request_after (first_word bs) (after_word bs)

-- what a line is read as; 71 is of a line that is none of these
unfoldable pub request_in : List ℕ → Result Request Refusal
request_in bs = ok_or (request_of bs) (numbered 71)

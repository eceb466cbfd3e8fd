-- The kinds of instructions and their kind bytes.
use Rattle.std.specs.Prelude.{◌≡◌, ℕ, if◌then◌else◌, Some, None, Option, Ok, Err, Result, ◌==◌}
use Rattle.refusals.specs.declared.Refusal.{Refusal}
use Rattle.refusals.specs.Numbers.{number_of}
use Rattle.instruction.specs.declared.Kind.{Kind}
use Rattle.instruction.specs.declared.Kind.TheVariants.{Issue, PayIn, Enter, Earmark, Fund, Settle, Free}

-- the kind byte
abbrev pub code_of : Kind → ℕ
code_of Issue = 1
code_of PayIn = 2
code_of Enter = 3
code_of Earmark = 4
code_of Fund = 5
code_of Settle = 6
code_of Free = 7

-- the kind that a kind byte means, if any
abbrev pub kind_at : ℕ → Option Kind
kind_at n =
    if n == 1 then Some Issue else
    if n == 2 then Some PayIn else
    if n == 3 then Some Enter else
    if n == 4 then Some Earmark else
    if n == 5 then Some Fund else
    if n == 6 then Some Settle else
    if n == 7 then Some Free else
    None

-- what is answered to a kind byte: the kind that it means, or 32 where it means none
abbrev pub Decodes : ℕ → Result Kind Refusal → Type 0
Decodes n (Ok k) = kind_at n ≡ Some k
Decodes n (Err r) = (kind_at n ≡ None) × (number_of r ≡ 32)

-- Each kind byte means the kind that it must, and a kind is meant by its own kind byte alone.
pub record KindsAndCodes : Type 0 where
  pub issue : kind_at 1 ≡ Some Issue
  pub pay-in : kind_at 2 ≡ Some PayIn
  pub enter : kind_at 3 ≡ Some Enter
  pub earmark : kind_at 4 ≡ Some Earmark
  pub fund : kind_at 5 ≡ Some Fund
  pub settle : kind_at 6 ≡ Some Settle
  pub free : kind_at 7 ≡ Some Free
  pub own : (k : Kind) → kind_at (code_of k) ≡ Some k
  pub only : (n : ℕ) (k : Kind) → kind_at n ≡ Some k → n ≡ code_of k

-- What the program prints for a script: its device, its books, and the text of the key.
use Rattle.std.specs.Prelude.{◌≡◌, ℕ, ◌<◌, ◌⊎◌, List, length, replicate}
use Rattle.std.specs.List.{AllByRecursion}
use Rattle.refusals.specs.Numbers.{numbered}
use Rattle.book.specs.Holdings.{Holdings, nothing}
use Rattle.balances.specs.Rows.{balances_kind}
use Rattle.rulebook.specs.Terms.{Side}
use Rattle.rulebook.specs.Rules.{Rulebook}
use Rattle.ledger.specs.View.{rulebook_of, both_sides}
use Rattle.device.specs.declared.TheConstants.{MOST_CALLS}
use Rattle.simulated.specs.declared.state.Simulated.{Simulated}
use Rattle.simulated.specs.Meaning.{image_of, meaning, Makes}
use Rattle.examination.specs.declared.answer.LineAnswer.{LineAnswer}
use Rattle.examination.specs.Answers.{HasNoDash}
use Rattle.examination.specs.Key.{most_bytes, IsKeyOf}
use Rattle.examination.specs.Texts.{key_text, refusal_text}

unfoldable pub zero_bytes : ℕ → List ℕ
zero_bytes n = replicate n 0

-- the image of 127 blocks
abbrev pub image_length : ℕ
image_length = 65278

-- the calls that the device has before its format
abbrev pub first_calls : ℕ
first_calls = 1000000

-- a header, and these pairs of record and mark, fill the 127 blocks
abbrev pub pair_count : ℕ
pair_count = 63

-- a simulated device over zeros
pub record IsNew (d : Simulated) : Type 0 where
  pub image : image_of d ≡ zero_bytes image_length
  pub calls : d.rows.calls_left ≡ first_calls

-- two books of balances
abbrev pub two_balances : Rulebook
two_balances = rulebook_of balances_kind balances_kind

-- with nothing in them
abbrev pub no_holdings : Side → Holdings
no_holdings = both_sides nothing nothing

-- the text of the key of a script, over such a device and such books
pub record IsKeyText (script text : List ℕ) : Type 0 where
  pub device : Simulated
  pub is_new : IsNew device
  pub answers : List LineAnswer
  pub is_key : IsKeyOf Makes meaning two_balances MOST_CALLS pair_count device no_holdings
      script answers
  pub no_dash : AllByRecursion HasNoDash answers
  pub is_text : text ≡ key_text 1 answers

-- what is printed for a script: the text of its key; or line 0 alone, where it is too long
abbrev pub IsPrinted : List ℕ → List ℕ → Type 0
IsPrinted script text =
    IsKeyText script text ⊎ ((most_bytes < length script) × (text ≡ refusal_text (numbered 73)))

-- A script has one key: no other text could be printed for it.
pub record KeysAreUnique : Type 0 where
  pub one : (script text other : List ℕ)
      → IsPrinted script text → IsPrinted script other → text ≡ other

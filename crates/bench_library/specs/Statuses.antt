-- The status of a call of the library: whether the work was done, and what is left if it was not.
use Rattle.std.specs.Prelude.{◌≡◌, ℕ, ◌<◌, ◌≤◌, Bool, false, ◌||◌, ◌&&◌, ◌⊎◌, ◌↔◌, ◌≢◌, List, length, Ok, Err, Result, ◌==◌}
use Rattle.bench_library.specs.declared.rows.Setup.{Setup}
use Rattle.bench_library.specs.declared.rows.AnswerRow.{AnswerRow}
use Rattle.bench_library.specs.declared.work.Status.{Status}
use Rattle.bench_library.specs.declared.work.Status.TheVariants.{NoMemory, Unlisted, OtherLength}

abbrev pub status_number : Status → ℕ
status_number NoMemory = 1
status_number Unlisted = 2
status_number OtherLength = 3

-- 0 where the work was done
abbrev pub status_of : Result ℕ Status → ℕ
status_of (Ok n) = 0
status_of (Err s) = status_number s

-- Balances (1) and lots (2) are the kinds of book that the library has, for register and cash
-- book.
abbrev pub are_books : ℕ → ℕ → Bool
are_books register cash = (register == 1 || register == 2) && (cash == 1 || cash == 2)

-- The kinds of device that it has are simulated (0) and battery-backed (1).
abbrev pub is_listed : Setup → Bool
is_listed s = (s.device == 0 || s.device == 1) && are_books s.register s.cash

-- What was lent, before and after a call that answers `status`, where the kinds are listed or not.
pub record CarriesOut (listed : Bool) (image image' bytes bytes' : List ℕ)
    (answers answers' : List AnswerRow) (status : ℕ) : Type 0 where
  pub range : status ≤ 3
  pub unlisted : (status ≡ 2) ↔ (listed ≡ false)
  -- memory is taken for a copy of the image alone
  pub memory : status ≡ 1 → 0 < length image
  pub same_image : (status ≢ 0) → image' ≡ image
  pub same_bytes : (status ≡ 1) ⊎ (status ≡ 2) → bytes' ≡ bytes
  pub same_answers : (status ≡ 1) ⊎ (status ≡ 2) → answers' ≡ answers

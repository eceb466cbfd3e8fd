-- What a device means, and the limits that every device keeps.
use Rattle.std.specs.Prelude.{◌≡◌, ℕ, ◌^◌, ◌<◌, ◌≤◌, Bool, false, List, length, Some, None, Option}
use Rattle.device.specs.declared.TheConstants.{BLOCK_SIZE, MOST_BLOCKS, MOST_CALLS}
use Rattle.device.specs.Bytes.{AreBytes}

pub record Medium : Type 0 where
  -- how many blocks there are
  pub size : ℕ
  -- the bytes that a block holds, or None where it is unreadable
  pub holds : ℕ → Option (List ℕ)
  -- whether a block was written and not yet synced
  pub loose : ℕ → Bool
  pub calls_left : ℕ

pub record IsBounded (m : Medium) : Type 0 where
  pub few : m.size ≤ MOST_BLOCKS
  pub calls : m.calls_left < 2 ^ 32
  -- a readable block holds a block's bytes
  pub whole : (b : ℕ) (x : List ℕ) → m.holds b ≡ Some x → length x ≡ BLOCK_SIZE
  pub bytes : (b : ℕ) (x : List ℕ) → m.holds b ≡ Some x → AreBytes x
  -- past the last block nothing is held and nothing is loose
  pub none-held : (b : ℕ) → m.size ≤ b → m.holds b ≡ None
  pub none-loose : (b : ℕ) → m.size ≤ b → m.loose b ≡ false

-- the limits as numbers, counted out so that a wrong constant is refused
pub record LimitsByNumber : Type 0 where
  pub block-size : BLOCK_SIZE ≡ 256
  pub most-blocks : MOST_BLOCKS ≡ 65535
  pub most-calls : MOST_CALLS ≡ 4294967295

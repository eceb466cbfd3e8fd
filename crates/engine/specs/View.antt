-- What a contract sees of an engine.
use Rattle.std.specs.Prelude.{ℕ, Option}
use Rattle.instruction.specs.declared.Instruction.{Instruction}
use Rattle.rulebook.specs.Rules.{Standing}
use Rattle.ledger.specs.View.{standing_of}
use Rattle.device.specs.Medium.{Medium}
use Rattle.device.specs.declared.Device as device
use Rattle.book.specs.declared.Book as book
use Rattle.engine.specs.declared.engine.Mode.{Mode}
use Rattle.engine.specs.declared.engine.Engine.{Engine}

pub record View : Type 0 where
  pub mode : Mode
  pub medium : Medium
  -- books and trades
  pub standing : Standing
  -- how many entries the journal has room for
  pub pairs : ℕ
  -- how many entries the opening found, and the instruction of the last of them
  pub found : ℕ
  pub last_found : Option Instruction
  -- how many entries stand
  pub entry_count : ℕ

abbrev pub view : {D R C : Type 0} {d : device.Ghosts D} {r : book.Ghosts R} {c : book.Ghosts C}
    → (D → Medium) → Engine D R C d r c → View
view m e = record {
  mode = e.mode;
  medium = m e.device;
  standing = standing_of e.ledger;
  pairs = e.pairs;
  found = e.found.count;
  last_found = e.found.last;
  entry_count = e.entry_count;
}

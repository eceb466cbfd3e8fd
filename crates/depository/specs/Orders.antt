-- An order: what a call asks for, without where its bytes lie in memory.
use Rattle.std.specs.Prelude.{ℕ, List}
use Rattle.instruction.specs.declared.Instruction.{Instruction}
use Rattle.depository.specs.declared.calls.Question.{Question}
use Rattle.depository.specs.declared.calls.Call.{Call}
use Rattle.depository.specs.declared.calls.Call.TheVariants.{Instruct, Close, Restart, Open, Ask}

pub data Order : Type 0 where
  instruct_order : Instruction → Order
  close_order : Order
  -- the number of calls that the device is to have left, and the remains
  restart_order : ℕ → List ℕ → Order
  open_order : Order
  ask_order : Question → Order

abbrev pub order : Call → Order
order (Instruct x) = instruct_order x
order Close = close_order
order (Restart calls_left remains) = restart_order calls_left remains.now
order Open = open_order
order (Ask question) = ask_order question

-- An instruction that the checks let pass.
use Rattle.std.proofs.Common.{◌≡◌, ◌<◌, Ok, Err, sym, refl, arith}
use Rattle.refusals.specs.declared.Fault.{Fault}
use Rattle.instruction.specs.declared.Instruction.{Instruction}
use Rattle.rulebook.specs.Rules.{Rulebook, answer, fault_answer}
use Rattle.ledger.proofs.Carried.{accepts}
use Rattle.device.specs.Calls.{Answer, and_then}
use Rattle.device.proofs.Answered.{then-passed}
use Rattle.journal.specs.Journal.{write_entry_answer}
use Rattle.engine.specs.declared.engine.Mode.{Mode}
use Rattle.engine.specs.declared.engine.Mode.TheVariants.{Open, Down, Refused}
use Rattle.engine.specs.View.{View}
use Rattle.engine.specs.Instructing.{if_open, room_answer, check_answer, Accepts, TakesInstruction, Passes}

no-refusal : {e : Fault} {u : Unit {0}} → ◌≡◌ {A = Answer} (Err e) (Ok u) → ⊥
no-refusal e =
    cc

-- what the checks of an instruction tell where they let it pass
abbrev pub LetPass : Rulebook → Instruction → View → Type 0
LetPass h x v = Passes h x v

ready-passes : (m : Mode) (x : Instruction) (next : Answer) → Ok tt ≡ if_open m x next → (m ≡ Open) × (Ok tt ≡ next)
ready-passes Open x next e = (refl, e)
ready-passes (Down y) x next e = absurd (no-refusal (sym e))
ready-passes (Refused f) x next e = absurd (no-refusal (sym e))

room-passes : (x : Instruction) (v : View) → room_answer x v ≡ Ok tt → v.entry_count < v.pairs
room-passes x v e = grind arith

pub let-pass : {h : Rulebook} {x : Instruction} {v : View} → Ok tt ≡ check_answer h x v → LetPass h x v
let-pass {h} {x} {v} e =
    let p = ready-passes v.mode x (and_then (fault_answer h v.standing x) (room_answer x v)) e in
    let q = then-passed (fault_answer h v.standing x) (room_answer x v) p.1 in
    record { mode = p.0; accepted = accepts x (answer h v.standing x) q.0; room = room-passes x v q.1 }

-- an instruction that was let pass, and written and carried out
pub carried-out : {h : Rulebook} {x : Instruction} {v v' : View} → Ok tt ≡ check_answer h x v
    → Ok tt ≡ write_entry_answer v.medium v.entry_count
    → (LetPass h x v → Accepts x v v') → TakesInstruction h x v v' (Ok tt)
carried-out {h} {x} {v} {v'} pass written after =
    record {
      answer = rw (sym pass, sym written) refl;
      after = rw (sym pass, sym written) (after (let-pass pass));
    }

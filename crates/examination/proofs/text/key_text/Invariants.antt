use Rattle.std.proofs.Common.{◌≡◌, ◌+◌, ◌++◌, drop, string_bytes}
use Rattle.examination.specs.Texts.{key_text}
use Rattle.examination.proofs.text.key_text.Given as goal

abbrev pub invariant-loop-before : goal.invariant-loop-before
invariant-loop-before l = string_bytes l.text ++ key_text (l.before + 1)
    (drop l.before l.answers) ≡ key_text 1 l.answers

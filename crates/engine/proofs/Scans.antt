-- The recovery, turn by turn.
use Rattle.std.proofs.Common.{◌≡◌, ℕ, ◌+◌, ◌-◌, ◌<◌, ◌≤◌, Some, None, Ok, Err, Option, Result, sym, refl, ap, ◌∙◌, add-one, arith}
use Rattle.refusals.specs.declared.Fault.{Fault}
use Rattle.instruction.specs.declared.Instruction.{Instruction}
use Rattle.rulebook.specs.Rules.{Rulebook, Standing, effect}
use Rattle.device.specs.Medium.{Medium}
use Rattle.journal.specs.Entries.{after_reads, with_calls_left}
use Rattle.engine.specs.declared.engine.FoundEntries.{FoundEntries}
use Rattle.engine.specs.Recovery.{entry_answer, calls_spent, standing_after, scan_turn, scan_end, Scan, scan, FollowsScan}

scan-none : (h : Rulebook) (m : Medium) (k : ℕ) (s : Standing) (last : Option Instruction)
    → scan h 0 m k s last ≡ scan_end m k s last
unfolding scan
scan-none h m k s last = refl

scan-more : (h : Rulebook) (n : ℕ) (m : Medium) (k : ℕ) (s : Standing) (last : Option Instruction)
    → scan h (n + 1) m k s last ≡ scan_turn (entry_answer h m s k) m k s last
    (λ x. scan h n (after_reads 2 m) (k + 1) (effect s x) (Some x))
unfolding scan
scan-more h n m k s last = rw (add-one n) refl

-- the recovery of m₀ from s₀ on stands before entry k, with this found, at the device m and the
-- standing s
pub record Turn (h : Rulebook) (pairs : ℕ) (m₀ : Medium) (s₀ : Standing) (k : ℕ) (found : FoundEntries) (m : Medium)
    (s : Standing) : Type 0 where
  pub within : k ≤ pairs
  pub counted : found.count ≡ k
  pub same : scan h pairs m₀ 0 s₀ None ≡ scan h (pairs - k) m k s found.last
  pub medium : m ≡ with_calls_left m.calls_left m₀

-- what the reading of an entry answers, and the device and the standing after it
pub record EntryRead (h : Rulebook) (k : ℕ) (m : Medium) (s : Standing) (r : Result (Option Instruction) Fault)
    (m' : Medium) (s' : Standing) : Type 0 where
  pub answer : r ≡ entry_answer h m s k
  pub after : m' ≡ after_reads (calls_spent r) m
  pub books : s' ≡ standing_after s r

pub entry-read : {h : Rulebook} {k : ℕ} {m : Medium} {s : Standing} {r : Result
    (Option Instruction) Fault} {m' : Medium} {s' : Standing} → r ≡ entry_answer h m s k
    → m' ≡ after_reads (calls_spent r) m → s' ≡ standing_after s r → EntryRead h k m s r m' s'
entry-read a e b = record { answer = a; after = e; books = b }

module _ {h : Rulebook} {pairs : ℕ} {m₀ : Medium} {s₀ : Standing} {k : ℕ} {found : FoundEntries} {m : Medium}
    {s : Standing} (t : Turn h pairs m₀ s₀ k found m s) where
  -- what comes after entry k
  abbrev onward : Instruction → Scan
  onward x = scan h (pairs - (k + 1)) (after_reads 2 m) (k + 1) (effect s x) (Some x)

  as-scanned : {r : Result FoundEntries Fault} {m' : Medium} {s' : Standing} (n : ℕ)
      → scan h pairs m₀ 0 s₀ None ≡ record { outcome = r; calls_left = n; standing = s' } → m' ≡ with_calls_left n m
      → FollowsScan (scan h pairs m₀ 0 s₀ None) m₀ m' s' r
  as-scanned n e em = rw e (record { answer = refl; device = em ∙ ap (with_calls_left n) t.medium; books = refl })

  -- this found, where it ends
  found-so-far : (m' : Medium)
      → scan_end m' k s found.last ≡ record { outcome = Ok found; calls_left = m'.calls_left; standing = s }
  found-so-far m' = ap (λ j. scan_end m' j s found.last) (sym t.counted)

  -- all entries are used
  pub all-read : pairs ≤ k → FollowsScan (scan h pairs m₀ 0 s₀ None) m₀ m s (Ok found)
  all-read l =
      let e : pairs - k ≡ 0 = omega arith in
      as-scanned m.calls_left
      (t.same ∙ ap (λ n. scan h n m k s found.last) e ∙ scan-none h m k s found.last ∙ found-so-far m) refl

  turned : k < pairs → (r : Result (Option Instruction) Fault) → r ≡ entry_answer h m s k
      → scan h pairs m₀ 0 s₀ None ≡ scan_turn r m k s found.last onward
  turned l r is =
      let e : pairs - k ≡ pairs - (k + 1) + 1 = omega arith in
      t.same ∙ ap (λ n. scan h n m k s found.last) e ∙ scan-more h (pairs - (k + 1)) m k s found.last
      ∙ ap (λ a. scan_turn a m k s found.last onward) (sym is)

  module _ (l : k < pairs) {m' : Medium} {s' : Standing} where
    -- the mark of entry k is not good
    pub mark-ends : EntryRead h k m s (Ok None) m' s' → FollowsScan (scan h pairs m₀ 0 s₀ None) m₀ m' s' (Ok found)
    mark-ends e =
        rw e.books (as-scanned (m.calls_left - 1)
        (turned l (Ok None) e.answer ∙ found-so-far (after_reads 1 m)) e.after)

    -- entry k is refused
    pub entry-refused : (f : Fault) → EntryRead h k m s (Err f) m' s'
        → FollowsScan (scan h pairs m₀ 0 s₀ None) m₀ m' s' (Err f)
    entry-refused f e = rw e.books (as-scanned (m.calls_left - 2) (turned l (Err f) e.answer) e.after)

    pub next-turn : (x : Instruction) → EntryRead h k m s (Ok (Some x)) m' s'
        → Turn h pairs m₀ s₀ (k + 1) (record { count = k + 1; last = Some x }) m' s'
    next-turn x e =
        rw (e.after, e.books) (record {
          within = omega arith;
          counted = refl;
          same = turned l (Ok (Some x)) e.answer;
          medium = ap (with_calls_left (m.calls_left - 2)) t.medium;
        })

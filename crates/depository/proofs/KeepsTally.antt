-- What keeps the tally of a depository: its device, its engine, and the slip that it owes.
use Rattle.std.proofs.Common.{◌≡◌, ℕ, ◌+◌, ◌*◌, ◌≤◌, length, Some, None, Option}
use Rattle.rulebook.specs.Rules.{Rulebook, AreAccepted}
use Rattle.device.specs.Medium.{Medium}
use Rattle.journal.specs.Journal.{Journal}
use Rattle.engine.specs.declared.engine.Mode.{Mode}
use Rattle.engine.specs.declared.engine.Mode.TheVariants.{Open, Down, Refused}
use Rattle.engine.specs.declared.slip.Contents.{Contents}
use Rattle.engine.specs.View.{View}
use Rattle.engine.specs.StandingList.{blocks_for_books}
use Rattle.engine.proofs.Keeping.{Lawful}
use Rattle.depository.specs.Moments.{Phase, running, shut, Moment}
use Rattle.depository.specs.CallTally.{Tally}

-- the slip that is owed tells the tally; where none is owed, nothing is in hand
abbrev pub SlipMatches : Option Contents → Tally → Type 0
SlipMatches None t = t.in_hand ≡ None
SlipMatches (Some c) t = (c.entries ≡ length t.list) × (c.hand ≡ t.in_hand)

-- a number of pairs that a journal may have
pub record IsPairCount (pairs : ℕ) : Type 0 where
  pub some : 1 ≤ pairs
  pub few : pairs ≤ 32767

module _ (h : Rulebook) (pairs : ℕ) (t : Tally) where
  -- the device keeps the tally
  pub record OnDevice (m : Medium) : Type 0 where
    pub journal : Journal (blocks_for_books h pairs) m t.list t.in_hand
    pub lawful : Lawful h t.list t.in_hand
    pub size : 1 + 2 * pairs ≤ m.size

  -- and so do the books and trades of the engine
  pub record InEngine (v : View) : Type 0 where
    pub device : OnDevice v.medium
    pub runs : AreAccepted h t.list v.standing
    pub room : v.pairs ≡ pairs
    pub entry_count : v.entry_count ≡ length t.list

  -- by the engine's mode
  abbrev pub KeepsTallyBy : View → Option Contents → Mode → Type 0
  KeepsTallyBy v l Open = (t.in_hand ≡ None) × InEngine v
  KeepsTallyBy v l (Down x) = (t.in_hand ≡ Some x) × InEngine v
  KeepsTallyBy v l (Refused f) = OnDevice v.medium × SlipMatches l t

  abbrev pub KeepsTallyIn : Phase → Option Contents → Type 0
  KeepsTallyIn (running v) l = KeepsTallyBy v l v.mode
  KeepsTallyIn (shut m books) l = OnDevice m × SlipMatches l t

  abbrev pub KeepsTally : Moment → Type 0
  KeepsTally a = KeepsTallyIn a.phase a.owed

-- What a book means: the free and the blocked amount of each account in each item.
use Rattle.std.specs.Prelude.{ℕ, ◌+◌, ◌-◌}
use Rattle.book.specs.declared.TheConstants.{ACCOUNTS}
use Rattle.book.specs.Sums.{sum_below, amount_if, is_place}

-- amounts by account and item
pub record Holdings : Type 0 where
  pub free : ℕ → ℕ → ℕ
  pub blocked : ℕ → ℕ → ℕ

-- what a book's kind fixes
pub record BookKind : Type 0 where
  -- the kind byte
  pub code : ℕ
  -- how many items the book has, numbered from 0
  pub items : ℕ
  -- the most that an item may total
  pub ceiling : ℕ

-- the holdings of an empty book
abbrev pub nothing : Holdings
nothing = record { free = λ a i. 0; blocked = λ a i. 0 }

-- the most that an item may total: the ceiling of the kind, for every item alike
abbrev pub limit : BookKind → Holdings → ℕ → ℕ
limit k b i = k.ceiling

-- what all accounts have of an item, free and blocked together
abbrev pub total : Holdings → ℕ → ℕ
total b i = sum_below ACCOUNTS (λ a. b.free a i + b.blocked a i)

-- what a call has a book do
pub data Deed : Type 0 where
  no_change : Deed
  -- by account, item and quantity: to the free amount, from free to blocked, from blocked to free
  crediting blocking releasing : ℕ → ℕ → ℕ → Deed
  -- by two accounts, item and quantity: from the one's blocked amount to the other's free one
  moving : ℕ → ℕ → ℕ → ℕ → Deed

-- the amounts f with q more, or less, of the item I for the account A
abbrev pub more_at : (ℕ → ℕ → ℕ) → ℕ → ℕ → ℕ → ℕ → ℕ → ℕ
more_at f A I q a i = f a i + amount_if (is_place A I a i) q

abbrev pub less_at : (ℕ → ℕ → ℕ) → ℕ → ℕ → ℕ → ℕ → ℕ → ℕ
less_at f A I q a i = f a i - amount_if (is_place A I a i) q

-- the free and the blocked amounts after a deed
abbrev pub free_after : Deed → (ℕ → ℕ → ℕ) → ℕ → ℕ → ℕ
free_after no_change f = f
free_after (crediting A I q) f = more_at f A I q
free_after (blocking A I q) f = less_at f A I q
free_after (releasing A I q) f = more_at f A I q
free_after (moving A B I q) f = more_at f B I q

abbrev pub blocked_after : Deed → (ℕ → ℕ → ℕ) → ℕ → ℕ → ℕ
blocked_after no_change f = f
blocked_after (crediting A I q) f = f
blocked_after (blocking A I q) f = more_at f A I q
blocked_after (releasing A I q) f = less_at f A I q
blocked_after (moving A B I q) f = less_at f A I q

-- the holdings after a deed
abbrev pub apply : Holdings → Deed → Holdings
apply b w = record { free = free_after w b.free; blocked = blocked_after w b.blocked }

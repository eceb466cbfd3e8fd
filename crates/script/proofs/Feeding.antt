-- The lines of a text: one after the other, and all put together again.
use Rattle.std.proofs.Common.{◌≡◌, ℕ, suc, ◌+◌, ◌<◌, List, [], ◌∷◌, ◌++◌, length, take, drop, refl, arith, rules}
use Rattle.std.specs.List.{prefix_len, flat_map, AllByRecursion}
use Rattle.script.specs.Feeds.{in_line, first_line, after_line, with_first_byte, lines_of, with_last_feed, Splits}

pub lines_of-none : (bs : List ℕ) → length bs ≡ 0 → lines_of bs ≡ []
unfolding lines_of
lines_of-none [] h = refl
lines_of-none (c ∷ cs) h = absurd (omega arith)

-- a text that is not empty has its first line, and then the lines of what follows that
more-cons : (c : ℕ) (cs : List ℕ) → lines_of (c ∷ cs) ≡ first_line (c ∷ cs) ∷ lines_of (after_line (c ∷ cs))
unfolding lines_of
more-cons c [] = search rules
more-cons c (d ∷ ds) =
    let n = prefix_len in_line (d ∷ ds) in
    let p : suc n ≡ 1 + n = omega arith in
    let r : (c ∷ first_line (d ∷ ds)) ∷ lines_of (after_line (d ∷ ds)) ≡ take (1 + n) (c ∷ d ∷ ds) ∷ lines_of
    (drop 1 (drop (1 + n) (c ∷ d ∷ ds))) =
    λ k. take (p k) (c ∷ d ∷ ds) ∷ lines_of (drop 1 (drop (p k) (c ∷ d ∷ ds))) in
    let m = more-cons d ds in
    search (rules, r)

pub lines_of-more : (bs : List ℕ) → 0 < length bs → lines_of bs ≡ first_line bs ∷ lines_of (after_line bs)
lines_of-more bs h = search (rules, more-cons)

-- no line is broken, and the lines are the text
abbrev Unbroken : List (List ℕ) → Type 0
Unbroken ls = AllByRecursion (AllByRecursion (λ c. c ≡ 10 → ⊥)) ls

unbroken-first : (c : ℕ) (ls : List (List ℕ)) → (c ≡ 10 → ⊥) → Unbroken ls → Unbroken (with_first_byte c ls)
unbroken-first c ls h a = search rules

unbroken : (bs : List ℕ) → Unbroken (lines_of bs)
unfolding lines_of
unbroken [] = tt
unbroken (c ∷ cs) = let m = unbroken cs in search (rules, unbroken-first)

whole : (bs : List ℕ) → flat_map (λ l. l ++ (10 ∷ [])) (lines_of bs) ≡ with_last_feed bs
unfolding lines_of
whole [] = refl
whole (c ∷ []) = search rules
whole (c ∷ d ∷ ds) = let m = more-cons d ds in let w = whole (d ∷ ds) in search rules

pub splits : (bs : List ℕ) → Splits bs (lines_of bs)
splits bs = record { unbroken = unbroken bs; whole = whole bs }

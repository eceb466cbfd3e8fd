-- An image, row by row.
use Rattle.std.proofs.Common.{◌≡◌, ℕ, ◌+◌, ◌<◌, List, [], ◌++◌, length, get_or, take, sym, ap, ◌∙◌}
use Rattle.std.specs.List.{flat_map}
use Rattle.std.proofs.lemmas.List.{append_assoc, take_more, flat_map_more}
use Rattle.check_drill.specs.declared.pictures.Row.{Row}

-- one part after another
pub join-both : (xs ys zs mid end : List ℕ) → mid ≡ xs ++ ys → end ≡ mid ++ zs → end ≡ xs ++ (ys ++ zs)
join-both xs ys zs mid end one two = two ∙ ap (λ (us : List ℕ). us ++ zs) one ∙ append_assoc xs ys zs

pub join-row : (f : Row → List ℕ) (rows : List Row) (i : ℕ) (d : Row) (xs ys : List ℕ) → i < length rows
    → xs ≡ flat_map f (take i rows) → ys ≡ xs ++ f (get_or rows i d) → ys ≡ flat_map f (take (i + 1) rows)
join-row f rows i d xs ys within before after =
    after ∙ ap (λ (zs : List ℕ). zs ++ f (get_or rows i d)) before
    ∙ flat_map_more f [] (take i rows) (get_or rows i d) ∙ ap (flat_map f) (sym (take_more rows i d within))

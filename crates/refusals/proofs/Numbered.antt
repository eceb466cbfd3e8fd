-- A refusal and its number determine each other.
use Rattle.std.proofs.Common.{◌≡◌, true, refl, sym, ap, ◌∙◌, eqb}
use Rattle.std.specs.List.{list_any}
use Rattle.refusals.specs.declared.Refusal.{Refusal}
use Rattle.refusals.specs.declared.Refusal.TheVariants.{NoBlock}
use Rattle.refusals.specs.Numbers.{number_of, numbered, numbers, NumbersTellApart}

own : (r : Refusal) → numbered (number_of r) ≡ r
own NoBlock = refl
own r = refl

complete : (r : Refusal) → list_any (λ n. eqb n (number_of r)) numbers ≡ true
complete NoBlock = refl
complete r = refl

pub numbers_tell_apart : NumbersTellApart
numbers_tell_apart = record {
  back = own;
  forth = (
    refl,
    (
      refl,
      (
        refl,
        (
          refl,
          (
            refl,
            (
              refl,
              (
                refl,
                (
                  refl,
                  (
                    refl,
                    (
                      refl,
                      (
                        refl,
                        (
                          refl,
                          (
                            refl,
                            (
                              refl,
                              (
                                refl,
                                (
                                  refl,
                                  (refl, (refl, (refl, (refl, (refl, (refl, (refl, (refl, (refl, (refl, (refl, tt))))))))))),
                                ),
                              ),
                            ),
                          ),
                        ),
                      ),
                    ),
                  ),
                ),
              ),
            ),
          ),
        ),
      ),
    ),
  );
  complete = complete;
  apart = λ r s e. sym (own r) ∙ ap numbered e ∙ own s;
}

use Rattle.std.proofs.Common.{◌≡◌, ℕ, ◌+◌, ◌/◌, ◌<◌, true, false, List, [], ◌∷◌, ◌++◌, length, get_or, vec_items, refl, sym, ap, ◌∙◌, subst, inl, inr, arith, length-take}
use Rattle.std.proofs.lemmas.List.{length_push, get_or-take}
use Rattle.std.proofs.lemmas.Slice.{pushed}
use Rattle.std.proofs.lemmas.Bool.{false≢true, cases_eq, cond-true, cond-false}
use Rattle.images.specs.Images.{row}
use Rattle.simulated.specs.Rows.{is_loose, loose_count}
use Rattle.simulated.specs.Lists.{is_on}
use Rattle.simulated.proofs.ListLaws.{names-last, names-more, lists-from, chunk-row}
use Rattle.simulated.proofs.SweepLaws.{loose-more}
use Rattle.simulated.proofs.loose.list_loose.Goals as goal
use Rattle.simulated.proofs.loose.list_loose.Goals.{then-row_is_loose+in_ok-push, else-row_is_loose}

pub loop-b-preserved : goal.loop-b-preserved
loop-b-preserved c =
    let xs = c.args.rows.now.image.items in
    let b = c.loop-b.b in
    let size = c.args.rows.now.size in
    let rows = c.as_chunks.result.0.now in
    let old = c.loop-b.list.items in
    let inv = c.loop-b.invariant in
    let long = length-take c.args.rows.now.size c.as_chunks.result.0.now in
    let here : c.loop-b.b < c.args.rows.now.size = omega (arith, long) in
    let seen_image = c.as_slice.result.now in
    let among : c.loop-b.b < length c.as_slice.result.now / 514 =
    omega (arith, long, c.as_chunks.ensures.front_len) in
    let seen : c.row_is_loose.result ≡ is_loose (row 514 xs b) =
    c.row_is_loose.ensures
    ∙ ap is_loose
    (get_or-take size rows b [] here ∙ ap (λ (rs : List (List ℕ)). get_or rs b []) c.as_chunks.ensures.front ∙ chunk-row (length seen_image / 514) seen_image b [] among ∙ ap (λ (zs : List ℕ). row 514 zs b) c.as_slice.ensures.value) in
    elim c.if-row_is_loose.branch [
      | then-row_is_loose+in_ok-push w ↦
          let is : vec_items c.if-row_is_loose.list ≡ old ++ (b ∷ []) =
          ap vec_items w.list-is ∙ pushed (b ∷ []) refl w.in_ok-push.was w.push.ensures.items in
          let more : loose_count xs (b + 1) ≡ loose_count xs b + 1 = loose-more xs b
          ∙ cond-true (is_loose (row 514 xs b)) _ _ (sym seen ∙ w.if-row_is_loose.true) in (
            λ k l e.
                subst (λ (zs : List ℕ). is_on zs k ≡ true) (sym is)
                (elim (cases_eq k b) [
                  | inl same ↦ subst (λ (j : ℕ). is_on (old ++ (b ∷ [])) j ≡ true) (sym same) (names-last old b)
                  | inr away ↦ names-more old b k (inv.0 k (omega arith) e)
                ]),
            omega (arith, ap length is, length_push old b, more, inv.1),
          )
      | else-row_is_loose w ↦
          let is = ap vec_items w.list-is in
          let firm : is_loose (row 514 xs b) ≡ false = sym seen ∙ w.if-row_is_loose.false in
          let same_count : loose_count xs (b + 1) ≡ loose_count xs b = loose-more xs b
          ∙ cond-false (is_loose (row 514 xs b)) _ _ firm in (
            λ k l e.
                subst (λ (zs : List ℕ). is_on zs k ≡ true) (sym is)
                (elim (cases_eq k b) [
                  | inl same ↦ absurd (false≢true (sym firm ∙ ap (λ (j : ℕ). is_loose (row 514 xs j)) (sym same) ∙ e))
                  | inr away ↦ inv.0 k (omega arith) e
                ]),
            omega (arith, ap length is, same_count, inv.1),
          )
    ]

pub returns : goal.returns
returns c =
    let long = length-take c.args.rows.now.size c.as_chunks.result.0.now in
    let same : length c.as_slice.result.now / 514 ≡ length c.args.rows.now.image.items / 514 =
    ap (λ (zs : List ℕ). length zs / 514) c.as_slice.ensures.value in
    let all : c.loop-b.b ≡ c.args.rows.now.size =
    omega (arith, long, same, c.as_chunks.ensures.front_len, c.args.rows.now.sized) in
    record {
      listed = lists-from c.loop-b.list.items c.args.rows.now.image.items
          (λ b l e. c.loop-b.invariant.0 b (omega arith) e);
      short = omega (arith, c.loop-b.invariant.1, ap (loose_count c.args.rows.now.image.items) all);
    }

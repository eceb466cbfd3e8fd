use Rattle.std.proofs.Common.{◌≡◌, ℕ, List, ◌++◌, length, take, drop, ap, ◌∙◌, arith, length-take}
use Rattle.simulated.specs.Rows.{newer_bytes}
use Rattle.simulated.specs.RowLemmas.{kept-full, newer-full}
use Rattle.simulated.proofs.rows.tear.Goals as goal

pub slice_bounds-bytes-end : goal.slice_bounds-bytes-end
slice_bounds-bytes-end c = omega (arith, ap length c.kept_bytes.ensures, kept-full c.args.row.now c.told-row)

pub slice_bounds-copy_from_slice-end : goal.slice_bounds-copy_from_slice-end
slice_bounds-copy_from_slice-end c =
    omega
    (arith, ap length c.kept_bytes.ensures, kept-full c.args.row.now c.told-row, length-take 128 c.kept_bytes.result.now)

pub copy_from_slice-requires : goal.copy_from_slice-requires
copy_from_slice-requires c =
    simp length-take
    (omega (arith, ap length c.kept_bytes.ensures, ap length c.newer_bytes.ensures, kept-full c.args.row.now c.told-row, newer-full c.args.row.now c.told-row))

pub returns : goal.returns
returns c =
    let r = c.args.row.now in
    let front : c.copy_from_slice.new.self ≡ take 128 (newer_bytes r) =
    c.copy_from_slice.ensures.after ∙ ap (take 128) c.newer_bytes.ensures in
    ap (λ (xs : List ℕ). xs ++ drop 128 c.kept_bytes.result.now) front
    ∙ ap (λ (xs : List ℕ). take 128 (newer_bytes r) ++ drop 128 xs) c.kept_bytes.ensures

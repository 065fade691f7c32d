use Rattle.std.proofs.Common.{arith, rules, ◌≡◌, refl, ◌++◌}
use Rattle.share_work.proofs.PieceRows.{OnOk-both, IfOk-both, rows_joined, gains_joined, haves_joined}
use Rattle.share_work.proofs.shares.rows.+chain.Goals as goal

pub low_and_high-returns-clause-rows : goal.low_and_high-returns-clause-rows
low_and_high-returns-clause-rows g t c =
    IfOk-both c.join_rows.result c.join_mut-first.result.0 c.join_mut-first.result.1
    (λ low high rows. rows.items ≡ low.items ++ high.items) _ _ _ c.join_rows.ensures
    c.join_mut-first.ensures.0.met.1.4 c.join_mut-first.ensures.1.met.1.4
    (λ ls hs rs is first second. rw is (rows_joined _ _ _ _ _ _ _ _ _ _ _ _ refl first second))

pub rows_from-returns-clause-gains : goal.rows_from-returns-clause-gains
rows_from-returns-clause-gains g t c =
    let both = c.low_and_high.ensures in rw c.split_at_mut-low.ensures.value
    (gains_joined _ _ _ _ _ _ _ _ _ _ _ refl both.gains_low both.gains_high)

pub rows_from-returns-clause-have : goal.rows_from-returns-clause-have
rows_from-returns-clause-have g t c = grind (arith, OnOk-both, haves_joined, rules)

use Rattle.share_work.proofs.Common.{common_steps, div_ceil_times, rules, ◌≡◌, ◌+◌, ◌*◌, ◌≤◌, length, arith, refl, []}
use Rattle.share_work.proofs.PieceRows.{gains_same, gains_joined, haves_idle, haves_joined, OnOk-all}
use Rattle.share_work.proofs.shares.rows.all_rows.Goals as goal

pub returns-in_err-rows-clause-fit : goal.returns-in_err-rows-clause-fit
returns-in_err-rows-clause-fit g c = grind (arith, common_steps)

pub returns-in_err-rows-clause-numbers : goal.returns-in_err-rows-clause-numbers
returns-in_err-rows-clause-numbers g c = grind (arith, common_steps)

pub returns-in_err-rows-clause-gains : goal.returns-in_err-rows-clause-gains
returns-in_err-rows-clause-gains g c = rw c.split_at_mut-lent.ensures.value
    (gains_joined _ _ _ _ _ _ _ _ _ _ _ refl c.in_err-rows.ensures.gains (gains_same _ _ _ _ _ _ _))

pub with_idle_rows-requires-clause-idle : goal.with_idle_rows-requires-clause-idle
with_idle_rows-requires-clause-idle g c some_idle =
    let job = c.args.job.now in let pieces = c.div_ceil-pieces.result in
    let all : length job.items.now ≤ pieces * job.plan.cut = rw (c.div_ceil-pieces.ensures, c.cut.ensures)
    ((div_ceil_times (length job.items.now) job.plan.cut job.plan.some_items).0) in
    let few : c.min-busy.result ≡ pieces = omega (arith, c.min-busy.ensures) in rw few all

pub with_idle_rows-requires-clause-rows : goal.with_idle_rows-requires-clause-rows
with_idle_rows-requires-clause-rows g c = grind (arith, common_steps)

pub returns-clause-fit : goal.returns-clause-fit
returns-clause-fit g c = grind (arith, common_steps)

pub returns-clause-numbers : goal.returns-clause-numbers
returns-clause-numbers g c = grind (arith, common_steps)

pub returns-clause-gains : goal.returns-clause-gains
returns-clause-gains g c = rw c.split_at_mut-lent.ensures.value
    (gains_joined _ _ _ _ _ _ _ _ _ _ _ refl c.in_ok-rows.ensures.gains (gains_same _ _ _ _ _ _ _))

pub returns-clause-have : goal.returns-clause-have
returns-clause-have g c =
    let job = c.args.job.now in let low = c.split_at_mut-lent.result.0.now in let pieces = c.div_ceil-pieces.result in
    let all : length job.items.now ≤ pieces * job.plan.cut = rw (c.div_ceil-pieces.ensures, c.cut.ensures)
    ((div_ceil_times (length job.items.now) job.plan.cut job.plan.some_items).0) in
    let least = c.min-busy.ensures in let lens = c.split_at_mut-lent.ensures in
    OnOk-all _ _ (haves_joined _ _ _ _ _ _ (0 + length low) low [] _ _ refl (search rules) c.in_ok-rows.ensures.have
    (haves_idle _ _ _ _ _ _ _ (λ some_idle. let few : 0 + length low ≡ pieces = omega arith in rw few all)))

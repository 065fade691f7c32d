use Rattle.std.proofs.Common.{◌≡◌, ◌∙◌, sym, refl, ℕ, ◌+◌, ◌*◌, ◌/◌, ◌^◌, ◌<◌, arith, bit_and, true≢false, rules}
use Rattle.std.proofs.lemmas.List.{get_or_default}
use Rattle.std.proofs.lemmas.Nat.{row_fits}
use Rattle.bit_matrix.specs.Bits.{Bits, word_of}
use Rattle.bit_matrix.specs.Changes.{columns_of}
use Rattle.bit_matrix.specs.contracts.matrix.BitMatrix.{the_view}
use Rattle.bit_matrix.proofs.Joining.{meet_here, meet_nowhere}
use Rattle.bit_matrix.proofs.matrix.BitMatrix.meets.Goals as goal

pub returns-then-bits-index-ne0 : goal.returns-then-bits-index-ne0
returns-then-bits-index-ne0 c =
    let first : Bits = the_view c.self.inside in
    let second : Bits = the_view c.other.inside in
    let k : ℕ = c.loop-word.word in
    let row = rw (← c.self.view_is) at c.requires.row in
    let other = rw (← c.other.view_is) at c.requires.other in
    let hk : k < first.width = omega (arith, c.loop-word-test.true, c.min-word-end.ensures) in
    let hl : k < second.width = omega (arith, c.loop-word-test.true, c.min-word-end.ensures) in
    let fits = row_fits c.args.row first.width first.rows first.width row (omega arith) in
    let fits_other = row_fits c.args.other_row second.width second.rows second.width other (omega arith) in
    let word : c.index-bits.result.now ≡ word_of first c.args.row k = c.index-bits.ensures
    ∙ get_or_default first.words (c.args.row * first.width + k) c.index-bits.result.now 0
    (omega (arith, fits, hk, c.self.invariant.1)) in
    let other_word : c.index.result.now ≡ word_of second c.args.other_row k = c.index.ensures
    ∙ get_or_default second.words (c.args.other_row * second.width + k) c.index.result.now 0
    (omega (arith, fits_other, hl, c.other.invariant.1)) in
    let some : bit_and (word_of first c.args.row k) (word_of second c.args.other_row k) ≡ 0 → ⊥ =
    λ none. c.if-bits-index-ne0.true (rw (word, other_word) none) in
    let fits64 : c.index-bits.result.now < 2 ^ 64 = search rules in
    let meet = meet_here first c.args.row second c.args.other_row k hk hl (rw word at fits64) some in
    rw (← c.self.view_is, ← c.other.view_is) (λ _. meet, λ _. refl)

pub returns : goal.returns
returns c =
    let first : Bits = the_view c.self.inside in
    let second : Bits = the_view c.other.inside in
    let every : (x : ℕ) → x < columns_of first → x < columns_of second → x / 64 < c.loop-word.word =
    λ x h l. omega (arith, h, l, c.loop-word-test.false, c.min-word-end.ensures) in
    let none = rw (← c.self.view_is, ← c.other.view_is) at c.loop-word.invariant in
    let nowhere = meet_nowhere first c.args.row second c.args.other_row c.loop-word.word every none in
    rw (← c.self.view_is, ← c.other.view_is) (λ t. absurd (true≢false (sym t)), λ meet. absurd (nowhere meet))

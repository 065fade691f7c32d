use Rattle.std.proofs.Common.{◌≡◌, ◌∙◌, sym, refl, ℕ, false, length, List, None, Some, Vec, Global}
use Rattle.std.proofs.lemmas.List.{take_at}
use Rattle.std.specs.Vec.{with_items}
use Rattle.source_search.specs.Shelves.{IsFoundOn, Known}
use Rattle.source_skip.specs.Languages.{begins_other}
use Rattle.source_skip.specs.Pieces.{loose_tokens}
use Rattle.source_skip.specs.Skipped.{skipped}
use Rattle.skipped_sources.specs.Shelves.{known_skipped}
use Rattle.skipped_sources.proofs.shelf.SkippingShelf.text_of.Goals as goal

found_on : (known : Known) (name : List ℕ) (text new : Vec ℕ Global) → IsFoundOn known name (Some text)
    → begins_other (loose_tokens text.items) ≡ false → new.items ≡ skipped text.items
    → IsFoundOn (known_skipped known) name (Some new)
found_on None name text new on here is = tt
found_on (Some lookup) name text new on here is = rw (← on, here, is) refl

pub returns : goal.returns
returns g c =
    let size : length c.skip.new.text ≡ c.in-Some.text.len = c.skip.auto.text ∙ c.deref_mut.ensures.len in
    found_on (g.S.Shelf.texts c.args.self.now.shelf.now) c.args.name.now c.in-Some.text
    (with_items c.in-Some.text c.skip.new.text)
    (rw c.in-Some.is at c.in_ok-text.ensures)
    (rw c.deref.ensures.value at (sym c.begins_other.ensures ∙ c.if-begins_other.false))
    (rw (take_at c.skip.new.text _ c.in-Some.text.len size)
    (rw c.deref_mut.ensures.value at c.in_ok-skip.ensures.skipped))

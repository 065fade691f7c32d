use Rattle.std.proofs.Common.{List, ℕ, map-id, subst, sym, ◌∙◌, flat_map}
use Rattle.std.proofs.lemmas.Iterator.{YieldsList-from_chars}
use Rattle.std.proofs.lemmas.Iterator.Consumers.{YieldsList-end}
use Rattle.std.specs.Fmt.{HasWritten}
use Rattle.schema_check.specs.Escapes.{property_char}
use Rattle.schema_check.proofs.escaped.write_property.Goals as goal

pub returns : goal.returns
returns g c = λ plain done.
    let end = YieldsList-end (YieldsList-from_chars c.args.text.now c.utf8.text cc) c.loop-c.yielded _
    c.loop-c.yielded_by _ _
    c.in-None.is c.next.ensures.steps in
    let P : List ℕ → Type 0 = λ cs. HasWritten g.W.Write.write_str_gives c.args.f.now
    (flat_map property_char cs) c.loop-c.f in
    subst P (sym (map-id c.loop-c.yielded) ∙ end.0) (c.loop-c.invariant plain)

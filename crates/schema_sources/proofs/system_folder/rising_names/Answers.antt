use Rattle.std.proofs.Common.{◌≡◌, ◌∙◌, ap, map, rules, string_bytes, subst, sym}
use Rattle.std.proofs.lemmas.Map.Iter.{iter_end}
use Rattle.proto_base.specs.NameOrder.{NamesRise}
use Rattle.schema_sources.proofs.Keys.{rising_keys, text_of, twice_now}
use Rattle.schema_sources.proofs.system_folder.rising_names.Goals as goal

pub returns : goal.returns
returns c =
    let keys = c.loop-file.once.keys in
    let all : map (λ name. name.now) c.loop-name.yielded ≡ keys = search (rules, iter_end) in
    let names : map string_bytes c.loop-name.names.items ≡ map text_of keys =
    c.loop-name.invariant ∙ twice_now c.loop-name.yielded ∙ ap (map text_of) all in
    subst NamesRise (sym names) (rising_keys keys c.iter-name-items.ensures.ordered)

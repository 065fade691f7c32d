use Rattle.digraph.proofs.Sharing.{view_named}
use Rattle.digraph.proofs.lists.Lists.with_names.Goals as goal

pub returns : goal.returns
returns c = rw (
  c.in_ok-items.ensures,
  c.deref.ensures.value,
  c.in_ok-extend_from_slice.ensures.items,
  c.in_ok-ranges.ensures.items,
  c.deref-2.ensures.value,
) (view_named _ _ _ _ c.self.view_is c.requires)

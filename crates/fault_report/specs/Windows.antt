-- Words of private contracts: what is shown of a line on both sides of a place.
use Rattle.std.specs.Prelude.{◌≡◌, ℕ, List}
use Rattle.fault_report.specs.Shown.{back_of, front_of, shown}
use Rattle.fault_report.specs.declared.excerpt.Window.{Window}

pub record IsWindow (before after : List ℕ) (w : Window) : Type 0 where
  pub front : w.front.items ≡ front_of (shown before) (shown after)
  pub back : w.back.items ≡ back_of (shown before) (shown after)

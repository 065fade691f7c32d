use Rattle.std.proofs.Common.{sym, ◌∙◌, map}
use Rattle.source_skip.specs.ProgramSettings.{entry_of}
use Rattle.source_skip.specs.ProgramTokens.{spelled}
use Rattle.source_skip.proofs.Entries.{next_shorter, next_tokens, push_mapped, settings_close, settings_end, settings_more, settings_start, settings_stop, settings_unmarked, tail_entry}
use Rattle.source_skip.proofs.settings.next_brackets.Goals as goal

pub loop-next-init : goal.loop-next-init
loop-next-init c =
    rw (
      c.new-entries.ensures.items,
      next_tokens spelled c.args.tokens.now c.split_first-next.result c.split_first-next.ensures.cases,
    )
    (settings_start c.args.closes.now (map spelled c.args.tokens.now) c.requires)

pub returns-then-not-is_symbol : goal.returns-then-not-is_symbol
returns-then-not-is_symbol c = settings_unmarked c.args.closes.now (map spelled c.args.tokens.now)
    (map entry_of c.loop-next.entries.items) c.loop-next.mark (spelled c.in-Some.separator.now)
    (map spelled c.in-Some.setting.now) (rw c.in-Some.is at c.loop-next.invariant)
    (sym c.is_symbol.ensures ∙ c.if-not-is_symbol.true)

pub returns-in_default-entry_behind : goal.returns-in_default-entry_behind
returns-in_default-entry_behind c = settings_stop c.args.closes.now (map spelled c.args.tokens.now)
    (map entry_of c.loop-next.entries.items) c.loop-next.mark (spelled c.in-Some.separator.now)
    (map spelled c.in-Some.setting.now) (rw c.in-Some.is at c.loop-next.invariant) c.in_default-entry_behind.ensures

pub returns-in-Some-symbol : goal.returns-in-Some-symbol
returns-in-Some-symbol c =
    rw (push_mapped entry_of c.loop-next.entries.items c.push.new.self.items c.in-Some-entry_behind.entry
    c.in_ok-push.ensures.items) (settings_close c.args.closes.now (map spelled c.args.tokens.now)
    (map entry_of c.loop-next.entries.items) c.loop-next.mark (spelled c.in-Some.separator.now)
    (map spelled c.in-Some.setting.now) (rw c.in-Some.is at c.loop-next.invariant)
    (entry_of c.in-Some-entry_behind.entry) (sym c.is_symbol.ensures ∙ c.if-not-is_symbol.false)
    c.in-Some-entry_behind.ensures (map spelled c.in-Some-symbol.behind.now) c.in-Some-symbol.ensures)

pub loop-next-smaller : goal.loop-next-smaller
loop-next-smaller c = next_shorter spelled c.in-Some-entry_behind.entry.rest.now c.in-Some.setting.now
    c.in-Some.separator c.split_first-next-in-Some.result c.loop-next.next c.in-Some.setting
    c.split_first-next-in-Some.ensures.cases c.in-Some.is (tail_entry (spelled c.in-Some.separator.now)
    (map spelled c.in-Some.setting.now) (entry_of c.in-Some-entry_behind.entry) c.in-Some-entry_behind.ensures)

pub loop-next-preserved : goal.loop-next-preserved
loop-next-preserved c =
    rw (
      next_tokens spelled c.in-Some-entry_behind.entry.rest.now c.split_first-next-in-Some.result
          c.split_first-next-in-Some.ensures.cases,
      push_mapped entry_of c.loop-next.entries.items c.push.new.self.items c.in-Some-entry_behind.entry
          c.in_ok-push.ensures.items,
    ) (settings_more c.args.closes.now (map spelled c.args.tokens.now)
    (map entry_of c.loop-next.entries.items) c.loop-next.mark (spelled c.in-Some.separator.now)
    (map spelled c.in-Some.setting.now) (rw c.in-Some.is at c.loop-next.invariant)
    (entry_of c.in-Some-entry_behind.entry) (sym c.is_symbol.ensures ∙ c.if-not-is_symbol.false)
    c.in-Some-entry_behind.ensures c.in_default-symbol.ensures)

pub returns : goal.returns
returns c = settings_end c.args.closes.now (map spelled c.args.tokens.now) (map entry_of c.loop-next.entries.items)
    c.loop-next.mark (rw c.in_default.is at c.loop-next.invariant)

use Rattle.std.proofs.Common.{rules, refl}
use borrow.Author.Tests.{tests}
use Rattle.base_rules.specs.Basics.{drop, ◌*◌, ◌-◌, ◌^◌, given, choose}
use Rattle.base_rules.proofs.Facts.{◌∙◌, arith, get_or-drop, mod-eq_of_lt}
use Rattle.base_rules.proofs.Chains.{fold_words, cut_part}
use Rattle.base_units.specs.Limits.{table_entries}
use Rattle.book_ledger.specs.{Tables.entry_at, Words.entry_from}
use Rattle.book_range.specs.Range.{entry_ok, entry_fits, entries_ok}
use Rattle.book_range.proofs.entries_ok.Goals as goal

pub returns : goal.returns
unfolding entries_ok entry_ok entry_at given choose
returns c =
    fold_words (entry_ok c.args.frames c.args.entries.now c.args.block) (λ w. entry_fits c.args.frames (entry_from w)) table_entries
    (drop (c.args.block * table_entries) c.args.entries.now) c.fold.ensures.ran
    (c.iter.ensures.rest ∙ cut_part c.args.entries.now _ table_entries (2 ^ 64 - 1) (omega arith) (search rules) (search rules))
    (λ l. refl) (λ i l. rw (get_or-drop, mod-eq_of_lt l) refl) (λ a x b q k. search (rules, tests))

-- All that the evaluation of a call goes through, opened by one name; and all that the reading and writing of a line does.
use Rattle.base_rules.specs.Basics.{choose, given, on_option, on_result, all_from}
use Rattle.base_units.specs.{Limits.between, Address.frame_of, Address.hpa_of}
use Rattle.base_numbers.specs.Number.{all_digits, value_from, number_from, number_read, digits_by}
use Rattle.base_levels.specs.Level.{row_of, gpa_fits, index_at}
use Rattle.base_calls.specs.Answers.{values_of}
use Rattle.book_stock.specs.Bits.{word_of, bit_set, in_use, with_bit, set_use, lowest_from, lowest_unused}
use Rattle.book_stock.specs.Wipe.{wiped_at}
use Rattle.door_script.specs.Text.{upto}
use Rattle.door_script.specs.Lines.{starts, taken_by, fits, field_at, number_in, numbers_of, read_by, line_of}
use Rattle.book_ledger.specs.Tables.{frame_at, set_frame, record_word, set_record_word, domain_at, set_domain, page_at, set_page, entry_at, set_entry}
use Rattle.book_ledger.specs.Sizes.{tables_of, root_of, sizes_of, bit_of}
use Rattle.door_answers.specs.Answers.{read_out, line_with}
use Rattle.book_walk.specs.Walk.{entry_type, own_frame, walk_from, on_walk}
use Rattle.call_plan.specs.Lookup.{frame_operand, domain_for, built_for, is_nda, parties_for, spot_operand, spot_for}
use Rattle.call_plan.specs.Changes.{gain, lose}
use Rattle.call_plan.specs.Entries.{entry_for, blocked_state, is_tracked, unblocked_state, table_empty, free_at}
use Rattle.call_domains.specs.Domains.{track_plan, enlist_at, addcx_plan, other_key, key_unused, new_record, create_at, create_plan, life_plan, op_plan}
use Rattle.call_trees.specs.Trees.{block_at, block_plan, pageremove_at, pageremove_plan, tracked_for, unblock_at, unblock_plan, readentry_at, readentry_plan}
use Rattle.call_trees.specs.Trees.{septremove_plan, septremove_at}
use Rattle.call_adds.specs.Adds.{add_table_at, septadd_plan, page_plan, free_for}
use Rattle.call_adds.specs.Adds as adds
use Rattle.call_carry.specs.Carry.{after_frame, after_page, after_domain, after_entry, after_use, after_record, after_block, applied, carried}
use Rattle.call_carry.specs.Carry.{swept_at, swept_from, swept, swept_tables}
use Rattle.call_pages.specs.Pages.{readpage_plan, reclaim_plan, reclaim_at, reclaim_tdr, reclaim_child}
use Rattle.call_host.specs.Calls.{plan_of}

unfoldable pub call_open : Unit {0}
unfolding choose given on_option on_result between frame_of hpa_of row_of gpa_fits index_at word_of bit_set in_use with_bit set_use lowest_from lowest_unused
    wiped_at frame_at set_frame record_word set_record_word domain_at set_domain page_at set_page entry_at set_entry tables_of root_of sizes_of entry_type
    own_frame walk_from on_walk values_of frame_operand domain_for built_for gain lose track_plan enlist_at addcx_plan other_key key_unused new_record create_at
    create_plan entry_for blocked_state is_tracked add_table_at adds.add_page_at septadd_plan page_plan block_at block_plan pageremove_at pageremove_plan
    readpage_plan after_frame after_page after_domain after_entry after_use after_record after_block applied carried plan_of all_from bit_of is_nda parties_for
    spot_operand spot_for life_plan op_plan free_for tracked_for unblock_at unblock_plan readentry_at readentry_plan unblocked_state septremove_plan
    septremove_at table_empty free_at reclaim_plan reclaim_at reclaim_tdr reclaim_child swept_at swept_from swept swept_tables
call_open = tt

unfoldable pub line_open : Unit {0}
unfolding all_digits value_from number_from number_read digits_by upto on_option starts taken_by fits field_at number_in numbers_of read_by line_of read_out line_with
line_open = tt

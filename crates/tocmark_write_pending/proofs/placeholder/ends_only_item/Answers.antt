use Rattle.std.proofs.Common.{map}
use Rattle.tocmark_spelling.specs.Buffered.{buffered_view}
use Rattle.tocmark_write_pending.proofs.EndedLists.{last-ends, last-stays, other-begins}
use Rattle.tocmark_write_pending.proofs.placeholder.ends_only_item.Goals as goal

pub returns-then-is_last_but_one : goal.returns-then-is_last_but_one
returns-then-is_last_but_one c =
    last-ends c.args.events.now c.rest_of.result.now c.args.start c.begins_list.result c.rest_of.ensures c.begins_list.ensures c.end_at.result c.is_last_but_one.result c.ends_in_end.result (c.end_at.ensures.end (map buffered_view c.args.events.now) c.requires.ends) c.is_last_but_one.ensures c.if-begins_list.true c.ends_in_end.ensures c.if-is_last_but_one.true

pub returns-else-is_last_but_one : goal.returns-else-is_last_but_one
returns-else-is_last_but_one c =
    last-stays c.args.events.now c.rest_of.result.now c.args.start c.begins_list.result c.rest_of.ensures c.begins_list.ensures c.end_at.result c.is_last_but_one.result c.is_last_but_one.result (c.end_at.ensures.end (map buffered_view c.args.events.now) c.requires.ends) c.is_last_but_one.ensures c.if-begins_list.true c.if-is_last_but_one.false

pub returns-else-begins_list : goal.returns-else-begins_list
returns-else-begins_list c =
    other-begins c.args.events.now c.rest_of.result.now c.args.start c.begins_list.result c.rest_of.ensures c.begins_list.ensures c.if-begins_list.false

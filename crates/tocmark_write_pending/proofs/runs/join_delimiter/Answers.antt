use Rattle.std.proofs.Common.{◌≡◌, ◌∷◌, ◌∙◌, ap, arith, length, map, reverse, sym}
use Rattle.std.proofs.lemmas.List.{length-map}
use Rattle.tocmark_spelling.specs.Buffered.{buffered_view}
use Rattle.tocmark_write_pending.specs.DelimiterColumn.{noted}
use Rattle.tocmark_write_pending.specs.RunColumn.{runs_begun}
use Rattle.tocmark_write_pending.proofs.DelimiterColumn.{numbered-more, widths-noted}
use Rattle.tocmark_write_pending.proofs.RunLists.{delimiter-joined, turned-count}
use Rattle.tocmark_write_pending.proofs.runs.join_delimiter.Goals as goal

pub returns-clause-held : goal.returns-clause-held
returns-clause-held c =
    delimiter-joined (buffered_view c.args.event.now) (reverse (map buffered_view c.args.events.now)) c.args.runs.now.items c.change_last.new.runs.items c.begin_run.new.runs.items c.requires.held c.requires.delimiter
    (c.in_ok-change_last.ensures.count ∙ ap length c.in_ok-make_room.ensures.items) c.in_ok-change_last.ensures.changed c.begin_run.ensures

pub returns-clause-numbered : goal.returns-clause-numbered
returns-clause-numbered c =
    let events = c.args.events.now in
    let es = map buffered_view events in
    let x = buffered_view c.args.event.now in
    let runs = c.begin_run.new.runs in
    let held = delimiter-joined x (reverse es) c.args.runs.now.items c.change_last.new.runs.items runs.items c.requires.held c.requires.delimiter
    (c.in_ok-change_last.ensures.count ∙ ap length c.in_ok-make_room.ensures.items) c.in_ok-change_last.ensures.changed c.begin_run.ensures in
    let place : length events ≡ length es = sym (length-map events buffered_view) in
    let number : c.len.result ≡ runs_begun (x ∷ reverse es) = (let n : c.len.result ≡ length runs.items = omega (arith, c.len.ensures, runs.ok.0) in n) ∙ sym (turned-count runs.items) ∙ held.count in
    numbered-more es x (length events) c.len.result c.args.delimiters.now.items c.note_run.new.delimiters.items c.requires.numbered place number
    (c.note_run.ensures ∙ ap (noted (length events) c.len.result) c.in_ok-make_room_up_to.ensures.items)

pub returns-clause-widths : goal.returns-clause-widths
returns-clause-widths c = λ i.
    widths-noted (length c.args.events.now) c.len.result c.args.delimiters.now.items c.note_run.new.delimiters.items
    (c.note_run.ensures ∙ ap (noted (length c.args.events.now) c.len.result) c.in_ok-make_room_up_to.ensures.items) i

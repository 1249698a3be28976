use Rattle.std.proofs.Common.{◌≡◌, ◌∙◌, ◌+◌, ◌++◌, ◌∷◌, [], sym, ap, Bool, length, map, drop, take, reverse, arith, length-append}
use Rattle.std.specs.Prelude.{is_some}
use Rattle.std.proofs.lemmas.List.{append-nil, drop_all}
use Rattle.tocmark_write_pending.specs.Ahead.{character_after, character_before, disturbers}
use Rattle.tocmark_event.specs.View.{TagView, Start}
use Rattle.tocmark_spelling.specs.Scans.{span}
use Rattle.tocmark_spelling.specs.Buffered.{buffered_view}
use Rattle.tocmark_spelling.specs.PlanOf.{setting_of}
use Rattle.tocmark_spelling.specs.Runs.{start_width, close_width}
use Rattle.tocmark_write_emphasis.specs.Marks.{mark_of}
use Rattle.tocmark_write_emphasis.proofs.Disturbers.{mark-at, marks-step}
use Rattle.tocmark_spelling.proofs.Turns.{drop-event, length-events}
use Rattle.tocmark_write_emphasis.proofs.preferences.disturbers.Goals as goal

pub loop-event-init : goal.loop-event-init
loop-event-init g c =
    record {
      len = ap length c.in_ok-marks.ensures.items;
      marks = λ o flags label. ap (λ x. x ++ disturbers (setting_of o flags (g.R.Reader.reading c.args.reader.now) label) (is_some c.args.by_runs) [] (map buffered_view c.args.events.now)) c.in_ok-marks.ensures.items;
    }

pub mark_at-requires-clause-place : goal.mark_at-requires-clause-place
mark_at-requires-clause-place g c = omega (arith, c.len-i.ensures ∙ c.loop-event.marks.ok.0 ∙ c.loop-event.invariant.len)

pub loop-event-preserved : goal.loop-event-preserved
loop-event-preserved g c =
    let a = c.args in
    let n = c.loop-event.event-index in
    let es = map buffered_view a.events.now in
    let rest = drop (n + 1) es in
    let e = buffered_view c.event-item.result in
    let place : c.len-i.result ≡ n = c.len-i.ensures ∙ c.loop-event.marks.ok.0 ∙ c.loop-event.invariant.len in
    let at : drop n es ≡ e ∷ rest = drop-event a.events.now n c.event-item.result (omega arith) c.event-item.is in
    let reach : (t : TagView) → drop n es ≡ Start t ∷ rest → c.body_end.result ≡ n + 1 + span 0 rest = λ t start.
    c.body_end.ensures.start es t rest c.requires.ends (ap (λ k. drop k es) place ∙ start) ∙ ap (λ k. k + 1 + span 0 rest) place in
    record {
      len = omega (arith, ap length c.in_ok-push.ensures.items, length-append c.loop-event.marks.items (c.in_ok-mark.mark ∷ []), c.loop-event.invariant.len);
      marks = λ o flags label.
          let s = setting_of o flags (g.R.Reader.reading a.reader.now) label in
          let runs : Bool = is_some a.by_runs in
          let behind = character_after runs close_width (drop (c.body_end.result + 1) es) in
          let is = mark-at es rest n e at s runs c.body_end.result c.in_ok-mark.mark reach
          (c.in_ok-mark.ensures o flags label ∙ ap (λ k. mark_of s runs e (character_before runs (reverse (take k es))) (character_after runs start_width (drop (k + 1) es)) behind) place) in
          marks-step es rest n e at s runs c.loop-event.marks.items c.push.new.self.items (disturbers s runs [] es) c.in_ok-mark.mark c.in_ok-push.ensures.items is (c.loop-event.invariant.marks o flags label);
    }

pub returns-clause-len : goal.returns-clause-len
returns-clause-len g c = omega (arith, c.loop-event.invariant.len)

pub returns-clause-marks : goal.returns-clause-marks
returns-clause-marks g c = λ o flags label.
    let a = c.args in
    let n = c.loop-event.event-index in
    let es = map buffered_view a.events.now in
    let s = setting_of o flags (g.R.Reader.reading a.reader.now) label in
    let end : drop n es ≡ [] = drop_all n es (omega (arith, length-events a.events.now)) in
    sym (append-nil c.loop-event.marks.items)
    ∙ ap (λ x. c.loop-event.marks.items ++ disturbers s (is_some a.by_runs) (reverse (take n es)) x) (sym end)
    ∙ c.loop-event.invariant.marks o flags label

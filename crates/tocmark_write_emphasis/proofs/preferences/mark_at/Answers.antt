use Rattle.std.proofs.Common.{◌≡◌, ◌∙◌, ◌+◌, ap, sym, subst, Bool, Option, ℕ, IfOk, string_bytes, map, take, drop, reverse}
use Rattle.std.specs.Prelude.{◌&&◌, is_some}
use Rattle.std.specs.Option.{option_map}
use Rattle.tocmark_event.specs.View.{event_view, tag_view}
use Rattle.tocmark_spelling.specs.Buffered.{buffered_view, sourced}
use Rattle.tocmark_spelling.specs.PlanOf.{setting_of}
use Rattle.tocmark_spelling.specs.Runs.{counts, disturbs_at, start_width, close_width}
use Rattle.tocmark_write_pending.specs.Ahead.{character_before, character_after}
use Rattle.tocmark_write_emphasis.specs.Marks.{mark_of}
use Rattle.tocmark_write_emphasis.proofs.preferences.mark_at.Goals as goal

pub returns-then-counts : goal.returns-then-counts
returns-then-counts g c = λ o flags label.
    let a = c.args in
    let s = setting_of o flags (g.R.Reader.reading a.reader.now) label in
    let es = map buffered_view a.events.now in
    let runs : Bool = is_some a.by_runs in
    let b : Option ℕ = character_before runs (reverse (take a.places.0 es)) in
    let f : Option ℕ = character_after runs start_width (drop (a.places.0 + 1) es) in
    let k : Option ℕ = character_after runs close_width (drop (a.places.1 + 1) es) in
    let there = c.characters_round.result in
    let P : Bool → Type 0 = λ x. IfOk c.disturbs_at.result (λ mark. mark ≡ x) in
    let found : mark_of s runs (buffered_view a.event.now) b f k ≡ disturbs_at s there.before there.first there.after =
    ap (λ x. mark_of s runs (sourced (event_view string_bytes x) (option_map string_bytes a.event.now.source)) b f k) c.in-Start.is
    ∙ ap (λ t. t && disturbs_at s b f k) (ap (λ r. counts r (tag_view string_bytes c.in-Start.tag)) (sym c.is_some.ensures) ∙ sym c.counts.ensures ∙ c.if-counts.true)
    ∙ ap (λ x. disturbs_at s x f k) (sym c.characters_round.ensures.before)
    ∙ ap (λ x. disturbs_at s there.before x k) (sym c.characters_round.ensures.first)
    ∙ ap (disturbs_at s there.before there.first) (sym c.characters_round.ensures.after) in
    subst P (sym found) (c.disturbs_at.ensures o flags label)

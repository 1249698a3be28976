use Rattle.std.proofs.Common.{◌∙◌, sym, ap, length, map}
use Rattle.std.specs.Prelude.{is_some}
use Rattle.tocmark_spelling.specs.Buffered.{buffered_view}
use Rattle.tocmark_spelling.specs.PlanOf.{setting_of}
use Rattle.tocmark_spelling.proofs.Turns.{length-events}
use Rattle.tocmark_write_emphasis.proofs.preferences.preferences.Goals as goal

pub marks_within-requires : goal.marks_within-requires
marks_within-requires g c = c.requires.ends.len ∙ length-events c.args.events.now ∙ sym c.in_ok-marks.ensures.len ∙ sym (ap length c.deref.ensures.value)

pub returns : goal.returns
returns g c = λ o flags label.
    let s = setting_of o flags (g.R.Reader.reading c.args.reader.now) label in
    let es = map buffered_view c.args.events.now in
    c.marks_within.ensures.disturbed s (is_some c.args.by_runs) es (c.deref.ensures.value ∙ c.in_ok-marks.ensures.marks o flags label) c.requires.ends

use Rattle.std.proofs.Common.{◌∙◌, ap, map, string_bytes, sym, subst, true≢false}
use Rattle.tocmark_event.specs.Merged.{merged}
use Rattle.tocmark_event.specs.Reading.{ReadingView}
use Rattle.tocmark_compare.specs.Given.{found_events}
use Rattle.tocmark_rewrite.specs.Labels.{AreAmong}
use Rattle.tocmark_rewrite.proofs.rewrite.refusal.Goals as goal

pub returns-then-says-clause-none : goal.returns-then-says-clause-none
returns-then-says-clause-none g c = λ _.
    let both = c.in_ok-says.ensures.0 c.if-says.true in
    record {
      same = sym (ap (λ (r : ReadingView). merged (found_events r)) c.in_ok-reading.ensures) ∙ both.0;
      labels = subst (λ (r : ReadingView). AreAmong (map string_bytes c.args.work.now.defined.now) r.defined) c.in_ok-reading.ensures both.1;
    }

pub returns-clause-some : goal.returns-clause-some
returns-clause-some g c = λ says.
    true≢false (sym (c.in_ok-says.ensures.1 (
      ap (λ (r : ReadingView). merged (found_events r)) c.in_ok-reading.ensures ∙ says.same,
      subst (λ (r : ReadingView). AreAmong (map string_bytes c.args.work.now.defined.now) r.defined) (sym c.in_ok-reading.ensures) says.labels,
    )) ∙ c.if-says.false)

use Rattle.std.proofs.Common.{◌∙◌, ap, false, Bool, if◌then◌else◌, drop, string_bytes}
use Rattle.tocmark_event.specs.Text.{text_of}
use Rattle.tocmark_event.specs.View.{event_view}
use Rattle.tocmark_spelling.specs.Buffered.{following_view, next_view}
use Rattle.tocmark_compare.specs.Alike.{alike}
use Rattle.tocmark_compare.proofs.Comparisons.{others-alike}
use Rattle.tocmark_compare.proofs.alike.no_texts.Goals as goal

pub returns-in-Some-expected-clause-onward : goal.returns-in-Some-expected-clause-onward
returns-in-Some-expected-clause-onward c xs ys x y h k =
    c.both_if.ensures.onward xs ys
    ∙ ap (λ (same : Bool). if same then alike false (drop 1 xs) (drop 1 ys) else false) c.same_event.ensures
    ∙ others-alike c.args.at.begun xs ys (event_view text_of c.in-Some.event.now) (event_view string_bytes c.in-Some-expected.other.now) c.args.at.found c.args.at.expected
    (x ∙ ap next_view c.in-Some.is) (y ∙ ap following_view c.in-Some-expected.is) h k

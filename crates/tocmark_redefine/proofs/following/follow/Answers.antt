use Rattle.std.proofs.Common.{◌∙◌, arith, map, refl}
use Rattle.std.proofs.lemmas.List.{length-map}
use Rattle.tocmark_event.specs.Text.{text_of}
use Rattle.tocmark_event.specs.View.{event_view}
use Rattle.tocmark_reader.specs.Definitions.{said_view}
use Rattle.tocmark_redefine.specs.Followed.{followed}
use Rattle.tocmark_redefine.proofs.Followings.{next_one}
use Rattle.tocmark_rewrite.proofs.Fronts.{all-changed}
use Rattle.tocmark_redefine.proofs.following.follow.Goals as goal

pub loop-event-init : goal.loop-event-init
loop-event-init g c = refl

pub loop-event-preserved : goal.loop-event-preserved
loop-event-preserved g c =
    next_one (λ e. event_view text_of e.0) (followed (map said_view c.args.olds.now) (map said_view c.args.news.now)) c.loop-event.events _ c.loop-event.event-index _ _ c.loop-event.invariant (omega arith) c.in_ok-follow_event.ensures

pub returns : goal.returns
returns g c = c.loop-event.invariant ∙ all-changed (followed (map said_view c.args.olds.now) (map said_view c.args.news.now)) c.loop-event.event-index _ (rw length-map c.loop-event-test.false)

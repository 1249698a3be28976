use Rattle.std.proofs.Common.{◌∙◌, map, append-nil, false, []}
use Rattle.tocmark_event.specs.Text.{text_of}
use Rattle.tocmark_event.specs.View.{event_view}
use Rattle.tocmark.specs.TokenCount.{code_in}
use Rattle.tocmark.proofs.TokenRuns.{from_none}
use Rattle.tocmark.proofs.token_count.longest_in.Goals as goal

pub returns : goal.returns
returns g c =
    let views = map (λ x. event_view text_of x.now) c.loop-event.yielded in
    let seen = c.loop-event.invariant.2 [] in (
      c.loop-event.yielded,
      (c.next.new.self, (c.loop-event.event-iterator, rw (← c.into_iter-event-iterator.ensures.into_iter_gives) c.loop-event.yielded_by, c.in-None.ensures.steps)),
      c.longest.ensures ∙ seen ∙ rw (append-nil views) (from_none (code_in false views)),
    )

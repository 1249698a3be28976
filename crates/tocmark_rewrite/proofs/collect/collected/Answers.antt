use Rattle.tocmark_rewrite.proofs.collect.collected.Goals as goal

pub returns : goal.returns
returns g c =
    let i = c.loop-event.invariant in (
      c.loop-event.yielded,
      (c.next.new.self, (c.loop-event.event-iterator, rw (← c.into_iter-event-iterator.ensures.into_iter_gives) c.loop-event.yielded_by, c.in-None.ensures.steps)),
      i.2,
    )

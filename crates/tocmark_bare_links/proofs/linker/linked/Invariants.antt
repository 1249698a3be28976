use Rattle.std.proofs.Common.{◌≡◌, ℕ, take}
use Rattle.std.specs.List.{fold}
use Rattle.tocmark_event.specs.Text.{ParserEvent}
use Rattle.tocmark_bare_links.specs.Lines.{shown}
use Rattle.tocmark_bare_links.specs.Linked.{LinkingView, link_step, linking_start, linking_view}
use Rattle.tocmark_bare_links.proofs.linker.linked.Given as goal

abbrev pub invariant-loop-pair : goal.invariant-loop-pair
invariant-loop-pair l =
    linking_view l.linker
    ≡ fold (λ (s : LinkingView) (e : ParserEvent × (ℕ × ℕ)). link_step l.source s (shown e)) linking_start (take l.pair-index l.events)

use Rattle.std.proofs.Common.{◌≡◌, ◌∙◌, ℕ, false, List, ap, arith, map, sym}
use Rattle.std.specs.List.{fold}
use Rattle.std.proofs.lemmas.List.{take_all}
use Rattle.std.proofs.lemmas.List.Folds.{fold-map}
use Rattle.tocmark_event.specs.Text.{ParserEvent}
use Rattle.tocmark_bare_links.specs.Lines.{shown}
use Rattle.tocmark_bare_links.specs.Linked.{LinkingView, link_step, linked, linking_start, linking_view, stretch_ended}
use Rattle.tocmark_bare_links.proofs.linker.linked.Goals as goal

pub returns : goal.returns
unfolding linked
returns c =
    let source : List ℕ = c.args.source.now in
    let events : List (ParserEvent × (ℕ × ℕ)) = c.args.events.now in
    let step : LinkingView → ParserEvent × (ℕ × ℕ) → LinkingView = λ s e. link_step source s (shown e) in
    let all : linking_view c.loop-pair.linker ≡ fold (link_step source) linking_start (map shown events) =
    c.loop-pair.invariant
    ∙ ap (λ (es : List (ParserEvent × (ℕ × ℕ))). fold step linking_start es) (take_all c.loop-pair.pair-index events (omega arith))
    ∙ sym (fold-map (link_step source) shown linking_start events) in
    let bytes : c.as_bytes-2.result.now ≡ source = cc in
    ap (λ (l : LinkingView). l.scan.events)
    (c.in_ok-end_stretch.ensures
    ∙ ap (λ (b : List ℕ). stretch_ended b false (linking_view c.loop-pair.linker)) bytes
    ∙ ap (stretch_ended source false) all)

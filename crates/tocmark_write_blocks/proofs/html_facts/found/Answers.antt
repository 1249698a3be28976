use Rattle.std.proofs.Common.{◌≡◌, ◌∙◌, ◌+◌, ◌-◌, ◌<◌, ◌≤◌, ℕ, suc, ap, sym, length, map, drop, get_or, arith, subst, length-set, ◌∷◌}
use Rattle.std.proofs.lemmas.List.{length-drop}
use Rattle.tocmark_event.specs.View.{TagView, Start}
use Rattle.tocmark_spelling.specs.Buffered.{buffered_view}
use Rattle.tocmark_spelling.specs.Scans.{span}
use Rattle.tocmark_spelling.proofs.Turns.{drop-event, length-events}
use Rattle.tocmark_write_pending.proofs.FactLemmas.{place-set}
use Rattle.tocmark_write_blocks.specs.Html.{no_html}
use Rattle.tocmark_write_blocks.specs.HtmlAhead.{all_html, ahead_of, AreHtmlTexts}
use Rattle.tocmark_write_blocks.specs.declared.html_ahead.HtmlAhead.{HtmlAhead}
use Rattle.tocmark_write_blocks.specs.declared.html_facts.HtmlFacts.{HtmlFacts}
use Rattle.tocmark_write_blocks.proofs.RawLemmas.{place-holds}
use Rattle.tocmark_write_blocks.proofs.HtmlLemmas.{IsFound, finds, ahead-step, texts-step, visible-within, left-within, ends-there}
use Rattle.tocmark_write_blocks.proofs.html_facts.found.Goals as goal

pub event_facts-requires : goal.event_facts-requires
event_facts-requires c =
    let held = c.loop-i.invariant in
    record { within = visible-within (map buffered_view c.args.events.now) c.loop-i.i c.args.text.now c.loop-i.ahead c.requires.text held.texts held.ahead }

pub ahead_at-ahead-requires-clause-within : goal.ahead_at-ahead-requires-clause-within
ahead_at-ahead-requires-clause-within c =
    let evs = map buffered_view c.args.events.now in
    let k = c.loop-i.i - 1 in
    let q : c.loop-i.i ≡ k + 1 = omega arith in
    let lt : k < length c.args.events.now = omega arith in
    let at = drop-event c.args.events.now k _ lt c.index-events-i-in-loop-i.is in
    left-within evs _ k c.args.text.now c.loop-i.ahead at c.requires.text (c.loop-i.invariant.ahead ∙ ap (λ i. ahead_of (drop i evs)) q)

pub ahead_at-ahead-requires-clause-ends : goal.ahead_at-ahead-requires-clause-ends
ahead_at-ahead-requires-clause-ends c =
    ends-there (map buffered_view c.args.events.now) c.loop-i.i c.args.text.now c.loop-i.ahead c.requires.text c.loop-i.invariant.ahead

pub loop-i-preserved : goal.loop-i-preserved
loop-i-preserved c =
    let a = c.args in
    let evs = map buffered_view a.events.now in
    let k = c.loop-i.i - 1 in
    let q : c.loop-i.i ≡ k + 1 = omega arith in
    let count = length-events a.events.now in
    let lt : k < length a.events.now = omega arith in
    let small : k < length evs = omega (arith, count) in
    let at = drop-event a.events.now k _ lt c.index-events-i.is in
    let at_again = drop-event a.events.now k _ lt c.index-events-i-in-loop-i.is in
    let held = c.loop-i.invariant in
    let texts = subst (λ i. AreHtmlTexts (drop i evs)) q held.texts in
    let behind = held.ahead ∙ ap (λ i. ahead_of (drop i evs)) q in
    let end = c.body_end-end.result in
    let reach : (t : TagView) → buffered_view c.index-events-i.result ≡ Start t → end ≡ k + 1 + span 0 (drop (k + 1) evs) = λ t start.
    c.body_end-end.ensures.start evs t (drop (k + 1) evs) c.requires.ends (at ∙ ap (λ x. x ∷ drop (k + 1) evs) start) in
    let later : c.loop-i.i ≤ end = omega (arith, c.body_end-end.ensures.behind evs c.requires.ends small) in
    let after = c.number_at-after.ensures ∙ ap (λ xs. get_or xs end 0) c.deref.ensures.value ∙ held.lefts end later in
    let left_behind : c.saturating_sub-behind.result ≡ length evs - end = c.saturating_sub-behind.ensures ∙ ap (λ n. n - end) (sym count) in
    let events_here : length a.events.now - k ≡ suc (length (drop (k + 1) evs)) = omega (arith, count, length-drop (k + 1) evs) in
    let ahead = ahead-step evs _ k (length a.events.now - k) a.text.now c.loop-i.ahead c.ahead_at-ahead.result at_again c.requires.text events_here c.ahead_at-ahead.ensures.text texts behind c.ahead_at-ahead.ensures.ahead in
    let P : ℕ → HtmlFacts → Type 0 = IsFound evs in
    let facts = c.loop-i.facts.items in
    let lefts = c.loop-i.lefts.items in
    let Q : ℕ → Type 0 = λ i. (j : ℕ) → i ≤ j → P j (get_or facts j no_html) in
    let value : ℕ → ℕ = λ j. length (all_html (drop j evs)) in
    let R : ℕ → Type 0 = λ i. (j : ℕ) → i ≤ j → get_or lefts j 0 ≡ value j in
    record {
      within = omega arith;
      len = omega (arith, length-set {A = HtmlFacts}, held.len);
      numbers = omega (arith, length-set {A = ℕ}, held.numbers);
      texts = texts-step evs _ k at_again c.ahead_at-ahead.ensures.text texts;
      ahead = ahead;
      lefts = place-set lefts 0 k c.ahead_at-ahead.result.left value (omega (arith, held.numbers)) (ap (λ (x : HtmlAhead). x.left) ahead) (subst R q held.lefts);
      found = place-holds P facts no_html k c.event_facts.result (omega (arith, held.len))
          (finds evs _ k end c.number_at-after.result c.saturating_sub-behind.result a.text.now c.loop-i.ahead c.event_facts.result
          at reach after left_behind c.requires.text texts behind c.event_facts.ensures)
          (subst Q q held.found);
    }

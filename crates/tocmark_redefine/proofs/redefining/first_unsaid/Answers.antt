use Rattle.std.proofs.Common.{◌≡◌, ◌∙◌, ap, map, sym, List, ℕ, String}
use Rattle.std.specs.Global.{Global}
use Rattle.tocmark_reader.specs.Definitions.{SaidDefinition, said_view}
use Rattle.tocmark_redefine.specs.Redefined.{AreRedefined, replaced}
use Rattle.tocmark_redefine.proofs.Replacing.{if_none, lent_part, none_of, texts}
use Rattle.tocmark_redefine.proofs.redefining.first_unsaid.Goals as goal

pub returns : goal.returns
returns c =
    let olds = c.args.olds.now in
    let news = c.args.news.now in
    let changes = c.args.changes.now in
    let led : texts c.deref-3.result.now ≡ replaced c.deref-2.result.now (texts c.deref.result.now) =
    none_of _ c.in_ok-astray.astray (sym c.is_some.ensures ∙ c.if-is_some.false) c.in_ok-astray.ensures in
    let titled : texts c.deref-6.result.now ≡ replaced c.deref-5.result.now (texts c.deref-4.result.now) =
    none_of _ c.in_ok-untitled.untitled (sym c.is_some-2.ensures ∙ c.if-is_some-2.false) c.in_ok-untitled.ensures in
    if_none (texts c.deref-7.result.now ≡ texts c.deref-8.result.now) (AreRedefined changes (map said_view olds) (map said_view news)) c.parting.result
    (λ labelled. record {
      labels =
          lent_part (λ (d : SaidDefinition). d.label) news c.in_ok-new_labels.new_labels.items c.deref-7.result.now c.deref-7.ensures.value c.in_ok-new_labels.ensures
          ∙ labelled
          ∙ sym (lent_part (λ (d : SaidDefinition). d.label) olds c.in_ok-old_labels.old_labels.items c.deref-8.result.now c.deref-8.ensures.value c.in_ok-old_labels.ensures);
      destinations =
          lent_part (λ (d : SaidDefinition). d.destination) news c.in_ok-new_places.new_places.items c.deref-3.result.now c.deref-3.ensures.value c.in_ok-new_places.ensures
          ∙ led
          ∙ ap (λ (cs : List (ℕ × String Global)). replaced cs (texts c.deref.result.now)) c.deref-2.ensures.value
          ∙ ap (replaced changes.destinations.items) (sym (lent_part (λ (d : SaidDefinition). d.destination) olds c.in_ok-old_places.old_places.items c.deref.result.now c.deref.ensures.value c.in_ok-old_places.ensures));
      titles =
          lent_part (λ (d : SaidDefinition). d.title) news c.in_ok-new_titles.new_titles.items c.deref-6.result.now c.deref-6.ensures.value c.in_ok-new_titles.ensures
          ∙ titled
          ∙ ap (λ (cs : List (ℕ × String Global)). replaced cs (texts c.deref-4.result.now)) c.deref-5.ensures.value
          ∙ ap (replaced changes.titles.items) (sym (lent_part (λ (d : SaidDefinition). d.title) olds c.in_ok-old_titles.old_titles.items c.deref-4.result.now c.deref-4.ensures.value c.in_ok-old_titles.ensures));
    }) c.parting.ensures

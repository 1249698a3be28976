use Rattle.std.proofs.Common.{map, flat_map, sym, ap, ◌∙◌, ◌&&◌, bytes_eq}
use Rattle.std.specs.Cmp.Lexicographic.{pointwise}
use Rattle.tocmark_event.specs.View.{attribute_view}
use Rattle.tocmark_spelling.specs.SameEvents.{attribute_key}
use Rattle.tocmark_compare.proofs.SameKeys.{names-same}
use Rattle.tocmark_compare.proofs.text.same_names.Goals as goal

pub returns-then-same_texts : goal.returns-then-same_texts
returns-then-same_texts g c =
    let xs = map g.T.Words.bytes c.args.classes.now in
    let ys = map g.U.Words.bytes c.args.other_classes.now in
    let us = flat_map attribute_key (map (attribute_view g.T.Words.bytes) c.args.attrs.now) in
    let vs = flat_map attribute_key (map (attribute_view g.U.Words.bytes) c.args.other_attrs.now) in
    c.same_attributes.ensures ∙ sym (ap (λ b. b && pointwise bytes_eq us vs) (sym c.same_texts.ensures ∙ c.if-same_texts.true)) ∙ sym (names-same xs ys us vs)

pub returns-else-same_texts : goal.returns-else-same_texts
returns-else-same_texts g c =
    let xs = map g.T.Words.bytes c.args.classes.now in
    let ys = map g.U.Words.bytes c.args.other_classes.now in
    let us = flat_map attribute_key (map (attribute_view g.T.Words.bytes) c.args.attrs.now) in
    let vs = flat_map attribute_key (map (attribute_view g.U.Words.bytes) c.args.other_attrs.now) in
    c.if-same_texts.false ∙ sym (ap (λ b. b && pointwise bytes_eq us vs) (sym c.same_texts.ensures ∙ c.if-same_texts.false)) ∙ sym (names-same xs ys us vs)

use Rattle.std.proofs.Common.{◌≡◌, ◌∷◌, ◌++◌, sym, ap, ◌∙◌, length, map, flat_map, bytes_eq, nat_eq, Bool, true, ℕ, List}
use Rattle.std.specs.Option.{option_map}
use Rattle.std.specs.Cmp.Lexicographic.{pointwise}
use Rattle.std.proofs.lemmas.Bool.{eq-eqb, eqb-true}
use Rattle.tocmark_event.specs.Ends.{end_code}
use Rattle.tocmark_event.specs.View.{Start, Heading, attribute_view, tag_view}
use Rattle.tocmark_event.specs.declared.event.TagEnd.TheVariants as end
use Rattle.tocmark_spelling.specs.SameEvents.{number, optional, attribute_key, same_event}
use Rattle.tocmark_compare.proofs.SameKeys.{both-hold}
use Rattle.tocmark_compare.proofs.tag.is_heading.Goals.{then-same_level, else-same_level}
use Rattle.tocmark_compare.proofs.tag.is_heading.Goals as goal

pub returns-then-same_optional : goal.returns-then-same_optional
returns-then-same_optional g c =
    let t = g.T.Words.bytes in
    let u = g.U.Words.bytes in
    let names : List (List ℕ) = number (length (map t c.args.classes.now)) ∷ map t c.args.classes.now ++ flat_map attribute_key (map (attribute_view t) c.args.attrs.now) in
    let level : Bool = nat_eq (end_code (end.Heading c.args.level)) (end_code (end.Heading c.in-Heading.other_level)) in
    let id : Bool = bytes_eq (optional (option_map t c.args.id.now)) (optional (option_map u c.in-Heading.other_id)) in
    let held : (level ≡ true) × (id ≡ true) = elim c.if-same_level.branch [
      | then-same_level w ↦ (eq-eqb _ _ (sym c.heading_number.ensures ∙ w.if-same_level.true ∙ c.heading_number-in-Heading.ensures), sym w.same_optional.ensures ∙ sym w.value-is ∙ c.if-same_optional.true)
      | else-same_level w ↦ absurd (w.if-same_level.false (eqb-true _ _ (sym w.value-is ∙ c.if-same_optional.true)))
    ] in
    c.same_names.ensures
    ∙ (λ i. pointwise bytes_eq names (number (length (map u (c.deref.ensures.value i))) ∷ map u (c.deref.ensures.value i) ++ flat_map attribute_key (map (attribute_view u) (c.deref-then-same_optional.ensures.value i))))
    ∙ sym (both-hold level id _ held.0 held.1)
    ∙ ap (λ h. same_event (Start (Heading c.args.level (option_map t c.args.id.now) (map t c.args.classes.now) (map (attribute_view t) c.args.attrs.now))) (Start (tag_view u h))) (sym c.in-Heading.is)

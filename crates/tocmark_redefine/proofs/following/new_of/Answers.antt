use Rattle.std.proofs.Common.{rules, ◌≡◌, ◌∙◌, ap, sym, map, Bool, true, ℕ, List, Option, None, if◌then◌else◌}
use Rattle.std.specs.HashMap.{get_by_text}
use Rattle.tocmark_read_tokens.specs.Label.{key_of}
use Rattle.tocmark_reader.specs.Definitions.{SaidDefinition, said_view}
use Rattle.tocmark_redefine.specs.Followed.{is_by_label, new_at, place_of_label}
use Rattle.tocmark_redefine.proofs.LabelPlaces.{placed}
use Rattle.tocmark_redefine.proofs.following.new_of.Goals as goal

pub returns : goal.returns
returns c =
    let olds : List SaidDefinition = map said_view c.args.olds.now in
    let news : List SaidDefinition = map said_view c.args.news.now in
    let link = c.args.link in
    let place : Option ℕ = place_of_label olds link.id.now in
    let at : c.copied-place.result ≡ get_by_text c.args.places.now (key_of link.id.now) = search rules in
    let by : is_by_label link.link_type ≡ true = sym c.is_by_label.ensures ∙ c.if-not-is_by_label.false in
    c.new_at.ensures
    ∙ ap (λ (p : Option ℕ). new_at olds news link.destination.now link.title.now p) (at ∙ placed c.args.olds.now (get_by_text c.args.places.now) link.id.now c.requires)
    ∙ sym (ap (λ (b : Bool). if b then new_at olds news link.destination.now link.title.now place else None) by)

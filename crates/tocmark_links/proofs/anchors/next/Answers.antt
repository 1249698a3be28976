use Rattle.std.proofs.Common.{◌≡◌, rules, sym, ap, ◌∙◌, string_bytes, unwrap_or, arith, subst}
use Rattle.std.specs.HashMap.{get_by_text}
use Rattle.std.proofs.lemmas.Map.Text.{hash_map_updates_text}
use Rattle.tocmark_links.specs.Anchors.{IsFirstFree}
use Rattle.tocmark_links.specs.Numbering.{IsFirstFrom, IsNext}
use Rattle.tocmark_links.specs.Slug.{slug_of}
use Rattle.tocmark_links.proofs.Numbers.{next-is}
use Rattle.tocmark_links.proofs.anchors.next.Goals as goal

pub returns : goal.returns
returns c =
    let slugs = c.args.slugs in
    let base = string_bytes c.in_ok-base.base in
    let name = string_bytes c.in_ok-number.name in
    let begins : c.last_number-from.result ≡ unwrap_or (get_by_text c.args.taken.now base) 0 =
    c.last_number-from.ensures ∙ ap (λ b. unwrap_or (get_by_text c.args.taken.now b) 0) c.as_str.ensures.value in
    let copied : string_bytes c.in_ok-clone.field-0 ≡ name = search rules in
    let found : IsFirstFrom slugs c.args.taken.now base c.last_number-from.result c.in_ok-number.number name =
    subst (λ b. IsFirstFrom slugs c.args.taken.now b c.last_number-from.result c.in_ok-number.number name) c.as_str-2.ensures.value c.in_ok-number.ensures in
    subst (λ b. IsNext slugs c.args.words.now c.args.taken.now c.insert-2.new.self name) c.in_ok-base.ensures
    (λ names. rw (sym c.in_ok-base.ensures) (next-is slugs names base name c.last_number-from.result c.in_ok-number.number c.args.taken.now c.insert.new.self c.insert-2.new.self begins found (rw copied at (hash_map_updates_text _ c.args.taken.now c.insert.new.self _ c.in_ok-insert.ensures.updates)) (hash_map_updates_text base c.insert.new.self c.insert-2.new.self _ c.in_ok-insert-2.ensures.updates)))

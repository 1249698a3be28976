use Rattle.std.proofs.Common.{◌∷◌, ◌++◌, [], ap, append_assoc, sym, ◌∙◌}
use Rattle.json.specs.Print.{escape}
use Rattle.tocmark_json.specs.Json.{link_json}
use Rattle.tocmark_json.proofs.Adding.{tagged_closed}
use Rattle.tocmark_json.proofs.printing.print_link.Goals as goal

pub returns : goal.returns
returns g c =
    let bytes = g.T.Words.bytes in
    let name = c.args.name.now in
    tagged_closed c.push.result c.args.out.now.items c.push_string.new.out.items c.print_target.new.out.items c.push.new.out.items name (link_json c.args.link_type (bytes c.args.dest_url.now) (bytes c.args.title.now) (bytes c.args.id.now))
    (c.in_ok-push_string.ensures ∙ ap (λ l. c.args.out.now.items ++ 123 ∷ 34 ∷ l) (sym (append_assoc (escape name) (34 ∷ []) (58 ∷ [])))) c.in_ok-print_target.ensures c.push.ensures

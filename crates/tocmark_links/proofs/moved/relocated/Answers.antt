use Rattle.std.proofs.Common.{◌≡◌, ◌∙◌, ap, rules, Some, string_bytes}
use Rattle.std.proofs.lemmas.Result.{IfOk-weaker}
use Rattle.tocmark_links.specs.Leading.{after, Follows, led_to, LeadsAfter, NamesItself, new_or}
use Rattle.tocmark_links.specs.Naming.{kind_at, placed}
use Rattle.tocmark_links.proofs.Moving.{follows}
use Rattle.tocmark_links.proofs.moved.relocated.Goals as goal

pub returns-clause-leads : goal.returns-clause-leads
returns-clause-leads c =
    let tree = c.args.tree.now in
    let moves = c.args.moves.now in
    let from = c.args.from.now in
    let old = c.args.destination.now in
    let path = string_bytes c.in-Some.path in
    let home = c.as_str-2.result.now in
    let place = c.as_str-3.result.now in
    let led : Some path ≡ led_to tree.is_book (kind_at tree) from old = search rules in
    let there : place ≡ placed moves path =
    c.as_str-3.ensures.value ∙ c.in_ok-place.ensures ∙ ap (placed moves) c.as_str.ensures.value in
    IfOk-weaker c.destination.result (λ new. NamesItself tree.is_book (after tree moves) place → LeadsAfter tree moves home (new_or new old) place) (λ new. Follows tree moves from old new) (λ new leads. follows tree moves from old path home place new led (c.as_str-2.ensures.value ∙ c.in_ok-home.ensures) there leads) c.destination.ensures

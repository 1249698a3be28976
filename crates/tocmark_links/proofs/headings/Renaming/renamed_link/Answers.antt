use Rattle.std.proofs.Common.{◌≡◌, rules, None, Some, string_bytes}
use Rattle.std.specs.HashMap.{get_by_text}
use Rattle.tocmark_links.specs.Headings.{heading_to}
use Rattle.tocmark_links.proofs.Firsts.{leads-nowhere, leads-there}
use Rattle.tocmark_links.proofs.headings.Renaming.renamed_link.Goals as goal

pub returns-in_default : goal.returns-in_default
returns-in_default c =
    let tree = c.args.tree.now in
    let renaming = c.args.self.now in
    let from = c.args.from.now in
    let old = c.args.destination.now in
    let led : None ≡ heading_to tree (string_bytes renaming.file) (get_by_text renaming.old) from old = search rules in
    leads-nowhere tree renaming from old None led

pub returns-then-branch : goal.returns-then-branch
returns-then-branch c =
    let tree = c.args.tree.now in
    let renaming = c.args.self.now in
    let from = c.args.from.now in
    let old = c.args.destination.now in
    let number = c.in-Some.number in
    let led : Some number ≡ heading_to tree (string_bytes renaming.file) (get_by_text renaming.old) from old = search rules in
    let there : heading_to tree (string_bytes renaming.file) (get_by_text renaming.new) from old ≡ Some number = search rules in
    leads-there tree renaming from old None number led there

pub returns-then-branch-2 : goal.returns-then-branch-2
returns-then-branch-2 c =
    let tree = c.args.tree.now in
    let renaming = c.args.self.now in
    let from = c.args.from.now in
    let old = c.args.destination.now in
    let new = c.in_ok-new.new in
    let number = c.in-Some.number in
    let led : Some number ≡ heading_to tree (string_bytes renaming.file) (get_by_text renaming.old) from old = search rules in
    let there : heading_to tree (string_bytes renaming.file) (get_by_text renaming.new) from (string_bytes new) ≡ Some number = search rules in
    leads-there tree renaming from old (Some new) number led there

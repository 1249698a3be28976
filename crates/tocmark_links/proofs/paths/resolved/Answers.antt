use Rattle.std.proofs.Common.{◌∙◌, sym}
use Rattle.tocmark_links.proofs.Parts.{out-when, resolved-out}
use Rattle.tocmark_links.proofs.paths.resolved.Goals as goal

pub returns-then-not-branch : goal.returns-then-not-branch
returns-then-not-branch c =
    let led = rw (c.new-place.ensures.items, c.deref.ensures.value, c.in_ok-parts.ensures) at c.in_ok-go_all.ensures in
    resolved-out c.args.folder.now c.args.path.now (sym c.begins_at_root.ensures ∙ c.if-not-begins_at_root.true) (out-when _ _ _ led c.if-not-branch.true)

use Rattle.std.proofs.Common.{◌∙◌, sym}
use Rattle.tocmark_write_pending.proofs.Feeds.{holds-byte}
use Rattle.tocmark_write_pending.proofs.body_facts.holds_feed.Goals as goal

pub returns : goal.returns
returns c = c.has_feed.ensures ∙ sym (holds-byte 10 c.args.text.now)

use Rattle.tocmark_write_labels.proofs.Feeds.{trimmed-is}
use Rattle.tocmark_write_labels.proofs.ending.without_leading_feeds.Goals as goal

pub returns : goal.returns
returns c = trimmed-is c.args.text.now c.trim_start_matches.result.now c.trim_start_matches.ensures.matches

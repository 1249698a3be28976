use Rattle.tocmark_write_labels.proofs.Feeds.{feeds-boundary}
use Rattle.tocmark_write_labels.proofs.ending.leading_feeds.Goals as goal

pub range-requires-clause-end_boundary : goal.range-requires-clause-end_boundary
range-requires-clause-end_boundary c =
    feeds-boundary c.args.text.now c.without_leading_feeds-rest.result.now c.without_leading_feeds-rest.ensures c.without_leading_feeds-rest.utf8

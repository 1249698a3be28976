use Rattle.tocmark_format.proofs.format.Formatter.answered.Goals as goal

pub returns-clause-told : goal.returns-clause-told
returns-clause-told g c =
    λ printed asked empty. record {
      ladder = c.args.ladder.now;
      keeps_none = c.in_ok-left.ensures.told asked empty;
      printed = printed;
    }

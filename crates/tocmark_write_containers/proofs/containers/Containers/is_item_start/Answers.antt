use Rattle.std.proofs.Common.{◌∙◌, ap, sym}
use Rattle.tocmark_spelling.specs.Opening.{is_number}
use Rattle.tocmark_write_containers.proofs.Says.{item-start}
use Rattle.tocmark_write_containers.specs.declared.outside.Outside.{Outside}
use Rattle.tocmark_write_containers.proofs.containers.Containers.is_item_start.Goals as goal

pub returns : goal.returns
returns c =
    c.starts_item.ensures
    ∙ ap (λ (o : Outside). is_number o.item_start c.args.place) c.outside.ensures
    ∙ sym (item-start c.args.place c.args.self.now.path)

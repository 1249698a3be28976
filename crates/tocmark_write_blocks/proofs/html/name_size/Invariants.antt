use Rattle.std.proofs.Common.{◌≡◌, ◌+◌, drop}
use Rattle.std.specs.List.{prefix_len}
use Rattle.tocmark_write_blocks.specs.HtmlNames.{is_in_name}
use Rattle.tocmark_write_blocks.proofs.html.name_size.Given as goal

abbrev pub invariant-loop-size : goal.invariant-loop-size
invariant-loop-size l =
    l.size + prefix_len is_in_name (drop l.size l.text) ≡ prefix_len is_in_name l.text

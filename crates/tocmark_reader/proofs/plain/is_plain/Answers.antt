use Rattle.tocmark_reader.proofs.PlainSearch.{tested_both, tested_one, plain_told}
use Rattle.tocmark_reader.proofs.plain.is_plain.Goals as goal

pub returns-then-has_plain_parts : goal.returns-then-has_plain_parts
returns-then-has_plain_parts c =
    let value = tested_both c.as_bytes-bytes.result.now c.args.text.now c.has_plain_parts.result c.has_plain_lines.result c.as_bytes-bytes.ensures.value c.has_plain_parts.ensures c.if-has_plain_parts.true c.has_plain_lines.ensures in
    record { value = value; decided = plain_told c.args.text.now c.has_plain_lines.result value }

pub returns-else-has_plain_parts : goal.returns-else-has_plain_parts
returns-else-has_plain_parts c =
    let value = tested_one c.as_bytes-bytes.result.now c.args.text.now c.has_plain_parts.result c.as_bytes-bytes.ensures.value c.has_plain_parts.ensures c.if-has_plain_parts.false in
    record { value = value; decided = plain_told c.args.text.now c.has_plain_parts.result value }

use Rattle.std.proofs.Common.{string_bytes, ◌∙◌, ap, sym}
use Rattle.std.proofs.lemmas.Str.{utf8_lossy-IsUtf8, IsUtf8-string_bytes}
use Rattle.std.specs.Str.Lossy.{utf8_lossy}
use Rattle.tocmark_read_tokens.proofs.label.text_of.Goals as goal

pub returns-in-Ok : goal.returns-in-Ok
returns-in-Ok c =
    sym (utf8_lossy-IsUtf8 (string_bytes c.in-Ok.text) (IsUtf8-string_bytes c.in-Ok.text)) ∙ ap (λ v. utf8_lossy v.items) c.in-Ok.ensures.ok

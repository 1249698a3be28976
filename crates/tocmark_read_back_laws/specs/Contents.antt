-- What CommonMark declares of the lines of a plain paragraph or heading.
use Rattle.std.specs.Prelude.{◌+◌, ◌^◌, ◌<◌, ◌≡◌, true, List, length, map}
use Rattle.tocmark_read_scan.specs.PlainParts.{Part, meant, spelled}
use Rattle.tocmark_reader.specs.PlainTexts.{is_plain_text, line_events, text_parts}
use Rattle.tocmark_commonmark.specs.Events.{inline_events}
use Rattle.tocmark_commonmark.specs.Inlines.{inlines}
use Rattle.tocmark_commonmark.specs.Links.{Destination}
use Rattle.tocmark_standard_laws.specs.Lettered.{lettered}

-- chapter 6: the inlines of a plain text are what its lines mean, with a soft break between two, whatever labels there are
abbrev pub PlainContentsAreDeclared : Type 0
PlainContentsAreDeclared =
    (labels : List Destination) (l : List Part) (ms : List (List Part)) → is_plain_text l ms ≡ true →
    length (spelled (text_parts l ms)) + 2 < 2 ^ 64 →
    lettered (inline_events (inlines labels (spelled (text_parts l ms)))) ≡ lettered (line_events (meant l) (map meant ms))

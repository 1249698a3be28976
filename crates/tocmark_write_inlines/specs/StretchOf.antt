-- A whole stretch, as a plain value.
use Rattle.std.specs.Option.{option_map}
use Rattle.tocmark_spelling.specs.Page.{Held}
use Rattle.tocmark_write_inlines.specs.declared.stretch.Stretch.{Stretch}

-- a stretch that is lent, as one that is held
abbrev pub stretch_view : Stretch → Held
stretch_view s = record { text = s.text.now; source = option_map (λ text. text.now) s.source; after_close = s.after_close }

-- What an open container is, and what it was at the mark.
use Rattle.std.specs.Prelude.{List, map, reverse, string_bytes, unwrap_or}
use Rattle.std.specs.Option.{option_map}
use Rattle.tocmark_event.specs.View.{tag_view}
use Rattle.tocmark_spelling.specs.Page.{Level}
use Rattle.tocmark_write_containers.specs.FrameOf.{content_view, level_of}
use Rattle.tocmark_write_containers.specs.PrefixOf.{prefix_bytes}
use Rattle.tocmark_write_containers.specs.declared.kept.Kept.{Kept}
use Rattle.tocmark_write_containers.specs.declared.outside.Outside.{Outside}

-- what it is now
abbrev pub present : Kept → Level
present k = level_of k.frame

-- what it was at the mark
abbrev pub original : Kept → Level
original k = record {
  tag = tag_view string_bytes k.frame.tag.now;
  prefix = prefix_bytes k.frame.prefix;
  start = k.frame.start;
  content = unwrap_or (option_map content_view k.before) (content_view k.frame.content);
}

-- what it and the containers around it say of a place
abbrev pub outside_at : Kept → Outside
outside_at k = k.frame.outside

-- what is seen of all of them, the innermost first
abbrev pub seen : {Y : Type 0} → (Kept → Y) → List Kept → List Y
seen f ks = reverse (map f ks)

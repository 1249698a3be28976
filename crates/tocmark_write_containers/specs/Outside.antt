-- What the open containers say of a place.
use Rattle.std.specs.Prelude.{ℕ, Bool, ◌&&◌, ◌||◌, if◌then◌else◌, nat_le, Option, Some, None, List, [], ◌∷◌, length, bytes_eq, codes}
use Rattle.tocmark_event.specs.View.{TagView}
use Rattle.tocmark_spelling.specs.Kinds.{is_list, is_item, is_heading, is_table, is_cell, is_emphasis, is_emphasis_or_strong, is_strikethrough}
use Rattle.tocmark_spelling.specs.Marker.{opening_token}
use Rattle.tocmark_spelling.specs.Opening.{bullet_of, is_double, is_number, nearest_bullet}
use Rattle.tocmark_spelling.specs.Page.{OpeningChoice, Path}
use Rattle.tocmark_spelling.specs.Places.{depth_in, is_in, is_raw_tag, nearest}
use Rattle.tocmark_spelling.specs.Stretch.{is_bullet_hyphen, is_in_hyphen_list}
use Rattle.tocmark_spelling.specs.Words.{or_else}
use Rattle.tocmark_write_containers.specs.declared.outside.Outside.{Outside}

-- the place at which an opening ends, if it is an item's, or if the one outside ended there and the same holds of it
abbrev pub item_start_within : TagView → ℕ → Option ℕ → Option ℕ
item_start_within t start outer = if is_item t || is_number outer start then Some start else None

-- the only place at which nothing but openings can be between an item's opening and it
abbrev pub item_start_of : Path → Option ℕ
item_start_of [] = None
item_start_of (l ∷ path) = item_start_within l.tag l.start (item_start_of path)

-- how many containers are open outside of the nearest one of such a tag
abbrev pub outside_nearest : (TagView → Bool) → Path → Option ℕ
outside_nearest test [] = None
outside_nearest test (l ∷ path) = if test l.tag then Some (length path) else outside_nearest test path

-- whether a container began with `~~`
abbrev pub begins_double : OpeningChoice → Bool
begins_double c = bytes_eq (opening_token c) (codes "~~")

-- which containers are open at a place, and what they chose
abbrev pub outside_of : Path → Outside
outside_of path = record {
  in_list = is_in is_list path;
  in_two_lists = nat_le 2 (depth_in is_list path);
  in_item = is_in is_item path;
  in_heading = is_in is_heading path;
  in_table = is_in is_table path;
  raw = is_in is_raw_tag path;
  in_hyphen_list = is_in_hyphen_list path;
  bullet = nearest_bullet path;
  in_double = is_double (nearest is_strikethrough path);
  item_start = item_start_of path;
  cell = outside_nearest is_cell path;
  table = outside_nearest is_table path;
  emphasis = outside_nearest is_emphasis path;
  emphasis_or_strong = outside_nearest is_emphasis_or_strong path;
}

-- the same inside one more container, outside of which so many are open
abbrev pub within : TagView → ℕ → OpeningChoice → ℕ → Outside → Outside
within t start c depth o = record {
  in_list = is_list t || o.in_list;
  in_two_lists = (is_list t && o.in_list) || o.in_two_lists;
  in_item = is_item t || o.in_item;
  in_heading = is_heading t || o.in_heading;
  in_table = is_table t || o.in_table;
  raw = is_raw_tag t || o.raw;
  in_hyphen_list = is_bullet_hyphen c || o.in_hyphen_list;
  bullet = or_else (bullet_of c) o.bullet;
  in_double = if is_strikethrough t then begins_double c else o.in_double;
  item_start = item_start_within t start o.item_start;
  cell = if is_cell t then Some depth else o.cell;
  table = if is_table t then Some depth else o.table;
  emphasis = if is_emphasis t then Some depth else o.emphasis;
  emphasis_or_strong = if is_emphasis_or_strong t then Some depth else o.emphasis_or_strong;
}

-- the same inside each open container, the innermost first
abbrev pub outsides : Path → List Outside
outsides [] = []
outsides (l ∷ path) = outside_of (l ∷ path) ∷ outsides path

-- What the place of a list and an item's marker are told.
use Rattle.std.specs.Prelude.{◌≡◌, length}
use Rattle.tocmark_spelling.specs.Opening.{nearest_bullet}
use Rattle.tocmark_spelling.specs.Page.{Path, Page}
use Rattle.tocmark_spelling.specs.Places.{at_item_start}
use Rattle.tocmark_spelling.specs.declared.list_choice.ListChoice.{ListChoice}
use Rattle.tocmark_write_lists.specs.declared.lists.ListSurroundings.{ListSurroundings}
use Rattle.tocmark_write_lists.specs.declared.items.Marker.{Marker}

-- what is told of a list's place is what the open containers and the page say
pub record IsListPlace (place : ListSurroundings) (path : Path) (p : Page) : Type 0 where
  pub at_item : at_item_start path p ≡ place.at_item_start
  pub bullet : nearest_bullet path ≡ place.nearest_bullet
  pub depth : length path ≡ place.depth
  pub last_list : p.trail.last_list ≡ place.last_list

-- the marker is that of an item in the list that chose this
pub record IsMarked (marker : Marker) (c : ListChoice) : Type 0 where
  pub number : c.number ≡ marker.number
  pub token : c.token ≡ marker.token
  pub wide : c.wide ≡ marker.wide

-- The spelling of a forest, and the nodes for which there is none.
use Rattle.std.specs.Prelude.{ℕ, Bool, true, false, not, ◌&&◌, ◌||◌, Option, Some, None, List, [], ◌∷◌}
use Rattle.tocmark_event.specs.View.{TagView, Item, Heading, TableCell, TableHead, Link, Image, Leaf}
use Rattle.tocmark_event.specs.Forest.{empty, leaf, node}
use Rattle.std.specs.List.{list_any}
use Rattle.tocmark_spelling.specs.Plan.{Setting, Manner}
use Rattle.tocmark_spelling.specs.Kinds.{is_heading, is_list, is_table}
use Rattle.tocmark_spelling.specs.Body.{Trees}
use Rattle.tocmark_spelling.specs.ById.{by_id}
use Rattle.tocmark_spelling.specs.Runs.{inside, beyond, ahead_of, past}
use Rattle.tocmark_spelling.specs.Look.{look}
use Rattle.tocmark_spelling.specs.Page.{OpeningChoice, Named, Path, Page, Site, Around, written, with_last}
use Rattle.tocmark_spelling.specs.declared.trail.Last.TheVariants.{Inline}
use Rattle.tocmark_spelling.specs.Gap.{gap}
use Rattle.tocmark_spelling.specs.Opening.{opening}
use Rattle.tocmark_spelling.specs.Closing.{closing}
use Rattle.tocmark_spelling.specs.Stretch.{leaf_on}
use Rattle.tocmark_event.specs.View.{Start}

-- whether the innermost of these containers has such a tag
abbrev pub directly_in : (TagView → Bool) → List TagView → Bool
directly_in test [] = false
directly_in test (t ∷ ts) = test t

-- a container that may not be in these, the innermost first
abbrev pub is_wrong_in : TagView → List TagView → Bool
is_wrong_in Item outside = not (directly_in is_list outside)
is_wrong_in (Heading level id classes attrs) outside = list_any is_heading outside
is_wrong_in TableCell outside = not (list_any is_table outside)
is_wrong_in TableHead outside = not (directly_in is_table outside)
is_wrong_in t outside = false

-- whether some node is where it may not: an Item not directly in a List, a Heading in a Heading, a TableCell in no
-- Table, a TableHead not directly in a Table; a body that is spelled by its id isn't looked at
unfoldable pub is_misplaced : Setting → List TagView → Trees → Bool
is_misplaced s outside empty = false
is_misplaced s outside (leaf l f) = is_misplaced s outside f
is_misplaced s outside (node t kids f) =
    is_wrong_in t outside || (not (by_id s t kids) && is_misplaced s (t ∷ outside) kids) || is_misplaced s outside f

-- what comes next, from where the spelling is; none if there was no spelling so far
abbrev pub then_site : Option Site → (Site → Option Site) → Option Site
then_site (Some here) f = f here
then_site None f = None

-- whether the id of the innermost container is in place of its body
abbrev pub is_named : OpeningChoice → Bool
is_named (Named named) = named
is_named c = false

-- whether the body of the innermost container is left out, since its id is in its place
abbrev pub skips_body : Path → Bool
skips_body [] = false
skips_body (l ∷ path) = is_named l.content

-- the id of a link or image; empty for any other tag
abbrev pub id_of : TagView → List ℕ
id_of (Link kind dest title id) = id
id_of (Image kind dest title id) = id
id_of t = []

-- the id of a link or image in place of its body
abbrev pub id_on : TagView → Site → Option Site
id_on t here = Some (record here { page = with_last Inline (written here.path (id_of t) here.page) })

-- the body, or the id in its place
abbrev pub body_or_id : Bool → TagView → Site → (Site → Option Site) → Option Site
body_or_id true t here body = id_on t here
body_or_id false t here body = body here

-- the spelling of a forest: each tree in order; a leaf with its gap; of a container its gap, its opening, its children
-- with the path longer by it, and its closing; none where a node is misplaced
unfoldable pub spelling : Setting → Manner → Trees → Around → Path → Page → Option Site
spelling s m empty a path p = Some (record { path = path; page = p })
spelling s m (leaf l f) a path p =
    let here = leaf_on s m l (ahead_of f a) path p in
    spelling s m f (past (Leaf l) a) here.path here.page
spelling s m (node t kids f) a path p =
    then_site (opening s m t (look s m t kids (ahead_of f a)) path (gap (Start t) path p)) (λ open_.
    then_site (body_or_id (skips_body open_.path) t open_ (λ here. spelling s m kids (inside t (ahead_of f a)) here.path here.page)) (λ full.
    then_site (closing s.options full.path full.page) (λ here.
    spelling s m f (beyond t kids a) here.path here.page)))

-- What the spelling of a container asks of the events round it, as functions of the flat list: of the events before its
-- Start, the last one first, and of those after it.
use Rattle.std.specs.Prelude.{◌≡◌, ℕ, zero, suc, ◌+◌, ◌==◌, Bool, true, false, not, ◌&&◌, ◌||◌, if◌then◌else◌, Option, List, [], ◌∷◌, ◌++◌, map, codes, take, drop, reverse, length, nat_lt, slice_index_or, ◌-◌, ◌<◌, None, Some, unwrap_or}
use Rattle.std.specs.List.{list_any}
use Rattle.tocmark_event.specs.View.{TagView, Link, Image, unsourced, SourcedEvent, EventView, LeafView, Start, End, Leaf, end_of}
use Rattle.tocmark_event.specs.Forest.{flat_onto, flat}
use Rattle.tocmark_event.specs.Merged.{merged}
use Rattle.tocmark_spelling.specs.ById.{events_of, goes_by_id, is_one_link}
use Rattle.tocmark_spelling.specs.Runs.{Run, run_at, tag_width, start_width, close_width, run_before, run_after, counts, disturbs_at}
use Rattle.tocmark_spelling.specs.Machine.{kids_of, around}
use Rattle.tocmark_spelling.specs.Body.{Trees, is_inline_leaf, breaks_line, text_of_leaf, html_in, html_of_leaf}
use Rattle.tocmark_spelling.specs.Kinds.{is_inline_tag, is_item, is_paragraph, is_emphasis, is_emphasis_or_strong}
use Rattle.tocmark_spelling.specs.Plan.{Setting, Manner}
use Rattle.tocmark_spelling.specs.Look.{Look, look, is_preferred}
use Rattle.tocmark_spelling.specs.Edges.{edge_before, edge_after}
use Rattle.tocmark_spelling.specs.Page.{front}
use Rattle.tocmark_spelling.specs.Words.{or_else}
use Rattle.tocmark_spelling.specs.Scans.{span, is_leaf}

-- the body of the container after whose Start these events are
abbrev pub body_in : List SourcedEvent → List SourcedEvent
body_in rest = take (span 0 rest) rest

-- the events after its End
abbrev pub behind_body : List SourcedEvent → List SourcedEvent
behind_body rest = drop (suc (span 0 rest)) rest

-- the events before its End, the last one first
abbrev pub up_to_end : List SourcedEvent → List SourcedEvent → List SourcedEvent
up_to_end before rest = reverse (body_in rest) ++ before

-- after the Start of a container are its children's events and its End
abbrev pub IsNested : TagView → List SourcedEvent → Type 0
IsNested t rest = rest ≡ flat_onto (kids_of rest) (End (end_of t) ∷ behind_body rest)

-- so it is after each Start of a list
abbrev pub AreNested : List SourcedEvent → Type 0
AreNested [] = Unit {0}
AreNested (Start t ∷ es) = IsNested t es × AreNested es
AreNested (e ∷ es) = AreNested es

-- the run of a container's Start
abbrev pub opening_ahead : TagView → List SourcedEvent → List SourcedEvent → Run
opening_ahead t before rest = run_at start_width (tag_width t) before rest

-- the run of its End
abbrev pub closing_ahead : TagView → List SourcedEvent → List SourcedEvent → Run
closing_ahead t before rest = run_at close_width (tag_width t) (up_to_end (Start t ∷ before) rest) (behind_body rest)

-- whether no further tree is before the next End
abbrev pub ends_here : List SourcedEvent → Bool
ends_here [] = true
ends_here (End k ∷ es) = true
ends_here es = false

-- the width that a first child adds; none if it is an only child and Emphasis
abbrev pub first_width : TagView → Bool → ℕ → ℕ
first_width t true width = if is_emphasis t then 0 else width
first_width t false width = width

-- the width of the delimiters that the first child of a body adds to those of the container
abbrev pub width_in : List SourcedEvent → ℕ
width_in [] = 0
width_in (Start t ∷ es) = first_width t (ends_here (behind_body es)) (tag_width t + (if is_emphasis_or_strong t then width_in es else 0))
width_in (e ∷ es) = 0

-- how many markers a container opens with
abbrev pub width_ahead_of : TagView → List SourcedEvent → ℕ
width_ahead_of t rest = tag_width t + width_in rest

-- the character before an event: that before its run of Starts, or its neighbour alone
abbrev pub character_before : Bool → List SourcedEvent → Option ℕ
character_before true before = run_before start_width before
character_before false before = edge_before (front before)

-- the character after an event likewise, its run that of Starts or of Ends
abbrev pub character_after : Bool → (SourcedEvent → ℕ) → List SourcedEvent → Option ℕ
character_after true width after = run_after width after
character_after false width after = edge_after (front after)

-- whether an event starts a node whose markers would have to be asterisks that could close the ones round it
abbrev pub starts_disturber : Setting → Bool → List SourcedEvent → SourcedEvent → List SourcedEvent → Bool
starts_disturber s runs before (Start t) rest =
    counts runs t
    && disturbs_at s (character_before runs before) (character_after runs start_width rest) (character_after runs close_width (behind_body rest))
starts_disturber s runs before e rest = false

-- for each event whether it starts such a node
abbrev pub disturbers : Setting → Bool → List SourcedEvent → List SourcedEvent → List Bool
disturbers s runs before [] = []
disturbers s runs before (e ∷ es) = starts_disturber s runs before e es ∷ disturbers s runs (e ∷ before) es

-- whether such a node is in a body
abbrev pub is_disturbed : Setting → Bool → List SourcedEvent → List SourcedEvent → Bool
is_disturbed s runs before rest = list_any (λ b. b) (take (span 0 rest) (disturbers s runs before rest))

-- whether a container prefers the underscore
abbrev pub prefers_ahead : Setting → Manner → TagView → List SourcedEvent → List SourcedEvent → Bool
prefers_ahead s m t before rest = is_emphasis_or_strong t && is_disturbed s (not (is_preferred m.plan.layout)) (Start t ∷ before) rest

-- whether a body begins with a Paragraph
abbrev pub begins_with_paragraph : List SourcedEvent → Bool
begins_with_paragraph [] = false
begins_with_paragraph (Start t ∷ es) = is_paragraph t
begins_with_paragraph (e ∷ es) = false

-- whether a container with such a tag is directly in the container that is open with so many others inside it
abbrev pub has_start : (TagView → Bool) → ℕ → List SourcedEvent → Bool
has_start test d [] = false
has_start test d (Leaf l ∷ es) = has_start test d es
has_start test zero (Start t ∷ es) = test t || has_start test 1 es
has_start test (suc d) (Start t ∷ es) = has_start test (suc (suc d)) es
has_start test zero (End k ∷ es) = false
has_start test (suc d) (End k ∷ es) = has_start test d es

-- whether something inline is directly in the container that is open with so many others inside it
abbrev pub has_inline_event : ℕ → List SourcedEvent → Bool
has_inline_event d [] = false
has_inline_event zero (Leaf l ∷ es) = is_inline_leaf l.leaf || has_inline_event 0 es
has_inline_event (suc d) (Leaf l ∷ es) = has_inline_event (suc d) es
has_inline_event zero (Start t ∷ es) = is_inline_tag t || has_inline_event 1 es
has_inline_event (suc d) (Start t ∷ es) = has_inline_event (suc (suc d)) es
has_inline_event zero (End k ∷ es) = false
has_inline_event (suc d) (End k ∷ es) = has_inline_event d es

-- whether what follows some Start that is directly in that container passes a test
abbrev pub some_start : (List SourcedEvent → Bool) → ℕ → List SourcedEvent → Bool
some_start test d [] = false
some_start test d (Leaf l ∷ es) = some_start test d es
some_start test zero (Start t ∷ es) = test es || some_start test 1 es
some_start test (suc d) (Start t ∷ es) = some_start test (suc (suc d)) es
some_start test zero (End k ∷ es) = false
some_start test (suc d) (End k ∷ es) = some_start test d es

-- whether a list with this body is tight
abbrev pub is_tight_body : List SourcedEvent → Bool
is_tight_body rest = some_start (has_inline_event 0) 0 rest && not (some_start (has_start is_paragraph 0) 0 rest)

-- a number for each Start that is directly in that container, by its tag and what follows it, added up
abbrev pub sum_starts : (TagView → List SourcedEvent → ℕ) → ℕ → List SourcedEvent → ℕ
sum_starts count d [] = 0
sum_starts count d (Leaf l ∷ es) = sum_starts count d es
sum_starts count zero (Start t ∷ es) = count t es + sum_starts count 1 es
sum_starts count (suc d) (Start t ∷ es) = sum_starts count (suc (suc d)) es
sum_starts count zero (End k ∷ es) = 0
sum_starts count (suc d) (End k ∷ es) = sum_starts count d es

-- how many containers with such a tag are directly in a body
abbrev pub count_starts : (TagView → Bool) → List SourcedEvent → ℕ
count_starts test es = sum_starts (λ t rest. if test t then 1 else 0) 0 es

-- whether a list with this body has one Item, in which is one block, a Paragraph
abbrev pub is_lone_paragraph : List SourcedEvent → Bool
is_lone_paragraph rest =
    (count_starts is_item rest == 1) && (sum_starts (λ t es. count_starts (λ t. not (is_inline_tag t)) es) 0 rest == 1)
    && some_start (has_start is_paragraph 0) 0 rest

-- the texts of the leaves joined
abbrev pub texts_of : (LeafView → List ℕ) → List SourcedEvent → List ℕ
texts_of text [] = []
texts_of text (Leaf l ∷ es) = text l.leaf ++ texts_of text es
texts_of text (e ∷ es) = texts_of text es

-- the first text that a leaf has
abbrev pub first_of : (LeafView → Option (List ℕ)) → List SourcedEvent → Option (List ℕ)
first_of text [] = None
first_of text (Leaf l ∷ es) = or_else (text l.leaf) (first_of text es)
first_of text (e ∷ es) = first_of text es

-- whether the reader finds just these events in `[id](cmark-label)`, with `!` in front for an image
abbrev pub reads_back : Setting → List ℕ → TagView → List ℕ → List SourcedEvent → Bool
reads_back s mark t id body =
    is_one_link t (merged (map unsourced body)) (merged (events_of (s.reading (mark ++ codes "[" ++ id ++ codes "](cmark-label)") s.flags)))

-- whether a container is a Collapsed or Shortcut link or image whose id is in place of this body
abbrev pub is_named_by_id : Setting → TagView → List SourcedEvent → Bool
is_named_by_id s (Link k d t i) body = goes_by_id k && reads_back s [] (Link k d t i) i body
is_named_by_id s (Image k d t i) body = goes_by_id k && reads_back s (codes "!") (Image k d t i) i body
is_named_by_id s t body = false

-- what an opening is told is what is in the flat list round its container
pub record IsSeen (s : Setting) (m : Manner) (t : TagView) (before rest : List SourcedEvent) (next : Option EventView) (l : Look) : Type 0 where
  pub previous : l.previous ≡ front before
  pub next_in_unit : l.next_in_unit ≡ front (behind_body rest)
  pub next_is : l.next ≡ or_else (front (behind_body rest)) next
  pub opening : l.opening ≡ opening_ahead t before rest
  pub closing : l.closing ≡ closing_ahead t before rest
  pub width : l.width ≡ width_ahead_of t rest
  pub prefers : l.prefers ≡ prefers_ahead s m t before rest
  pub named : l.named ≡ is_named_by_id s t (body_in rest)
  pub empty_body : l.empty_body ≡ ends_here rest
  pub begins_paragraph : l.begins_paragraph ≡ begins_with_paragraph rest
  pub has_paragraph : l.has_paragraph ≡ has_start is_paragraph 0 rest
  pub tight : l.tight ≡ is_tight_body rest
  pub lone_paragraph : l.lone_paragraph ≡ is_lone_paragraph rest
  pub broken : l.broken ≡ list_any (is_leaf breaks_line) (body_in rest)
  pub text : l.text ≡ texts_of text_of_leaf (body_in rest)
  pub first_html : l.first_html ≡ first_of html_in (body_in rest)
  pub html : l.html ≡ texts_of html_of_leaf (body_in rest)

-- so it is at each Start of a forest's list
abbrev pub AreSeen : Setting → Manner → Option EventView → Trees → Type 0
AreSeen s m next f =
    (i : ℕ) (t : TagView) (rest : List SourcedEvent) → drop i (flat f) ≡ Start t ∷ rest
    → IsSeen s m t (reverse (take i (flat f))) rest next (look s m t (kids_of rest) (around (reverse (take i (flat f))) (behind_body rest) next))

-- the first place, from this one on, that is marked
abbrev pub first_mark : ℕ → List Bool → Option ℕ
first_mark i [] = None
first_mark i (b ∷ bs) = if b then Some i else first_mark (i + 1) bs

-- whether there is such a place and it comes before an end; any does where there is no end
abbrev pub comes_before : Option ℕ → Option ℕ → Bool
comes_before None end = false
comes_before (Some place) None = true
comes_before (Some place) (Some end) = nat_lt place end

-- for each place whether one after it and before its end is marked, or one after it where it has no end
pub record HoldMarks (marks : List Bool) (ends : List (Option ℕ)) (found : List Bool) : Type 0 where
  pub len : length found ≡ length marks
  pub at : (i : ℕ) → i < length marks
      → slice_index_or found i false
      ≡ list_any (λ b. b) (take (unwrap_or (slice_index_or ends i None) (length marks) - (i + 1)) (drop (i + 1) marks))

-- for each Start whether a node of its body disturbs
abbrev pub AreDisturbed : Setting → Bool → List SourcedEvent → List Bool → Type 0
AreDisturbed s runs es found =
    (i : ℕ) (t : TagView) (rest : List SourcedEvent) → drop i es ≡ Start t ∷ rest → slice_index_or found i false ≡ is_disturbed s runs (Start t ∷ reverse (take i es)) rest

-- The markers of Emphasis and Strong (CommonMark, section 6.2).
use Rattle.std.specs.Prelude.{ℕ, ◌+◌, ◌%◌, Bool, true, false, not, ◌&&◌, ◌||◌, ◌==◌, if◌then◌else◌, Option, Some, None, List, [], length, replicate, slice_index, bytes_eq, codes, encode_utf8, unwrap_or}
use Rattle.tocmark_event.specs.Ends.{same_end}
use Rattle.tocmark_event.specs.View.{TagView, Strong, EventView, End, end_of}
use Rattle.tocmark_event.specs.declared.event.TagEnd.{TagEnd}
use Rattle.tocmark_write_texts.specs.Characters.{underscore}
use Rattle.tocmark_spelling.specs.Words.{last_character, last_byte, asterisk, or_else, same_truth}
use Rattle.tocmark_spelling.specs.Plan.{Markers, Setting, Manner}
use Rattle.tocmark_spelling.specs.declared.plan.Layout.{Layout}
use Rattle.tocmark_spelling.specs.declared.plan.Layout.TheVariants.{Preferred, Runs, Uniform, Shared, RuleThree}
use Rattle.tocmark_spelling.specs.declared.plan.TextSpelling.{TextSpelling}
use Rattle.tocmark_spelling.specs.declared.plan.TextSpelling.TheVariants.{LiteralEntities}
use Rattle.tocmark_spelling.specs.Kinds.{is_emphasis, is_emphasis_or_strong}
use Rattle.tocmark_spelling.specs.Edges.{is_boundary, is_punctuation, edge_after}
use Rattle.tocmark_spelling.specs.Runs.{tag_width, end_width, is_marker, run_around, last_run}
use Rattle.tocmark_spelling.specs.Look.{Look}
use Rattle.tocmark_spelling.specs.Page.{OpeningChoice, Delimited, Level, Path, Page}
use Rattle.tocmark_spelling.specs.Places.{nearest}

-- the other marker
abbrev pub other_marker : ℕ → ℕ
other_marker c = if c == asterisk then underscore else asterisk

-- what is before the body of a delimited container
abbrev pub opening_token : OpeningChoice → List ℕ
opening_token (Delimited open_token close_token) = open_token
opening_token c = []

-- what is before the body of an open container, if there is one
abbrev pub token_of : Option Level → Option (List ℕ)
token_of None = None
token_of (Some l) = Some (opening_token l.content)

-- whether there is such a token and it is this one
abbrev pub is_token : Option (List ℕ) → List ℕ → Bool
is_token None t = false
is_token (Some u) t = bytes_eq u t

-- the token that was asked for
abbrev pub asked_token : Markers → TagView → List ℕ
asked_token m Strong = m.strong
asked_token m t = encode_utf8 m.emphasis

-- its character
abbrev pub asked_marker : Markers → TagView → ℕ
asked_marker m Strong = slice_index m.strong 0
asked_marker m t = m.emphasis

-- `_` may be on both sides
abbrev pub fits_underscore : Setting → Option ℕ → Option ℕ → Bool
fits_underscore s before after = is_boundary s before && is_boundary s after

-- the preferred marker of Emphasis: `_` if it is preferred and may be here, else the one asked for, but not the one
-- of the Emphasis around it
abbrev pub preferred_marker : Setting → List ℕ → Look → Path → Page → List ℕ
preferred_marker s t l path p =
    let fits = fits_underscore s (last_character p.sheet.text) (edge_after l.next) in
    if l.prefers && fits then codes "_"
    else if is_token (token_of (nearest is_emphasis path)) t && (not (bytes_eq t (codes "*")) || fits)
    then (if bytes_eq t (codes "*") then codes "_" else codes "*")
    else t

-- the node follows the End of Emphasis or Strong
abbrev pub ends_delimiter : Option EventView → Bool
ends_delimiter (Some (End k)) = not (end_width k == 0)
ends_delimiter e = false

-- whether the event is an End of this kind
abbrev pub is_end : TagEnd → Option EventView → Bool
is_end k (Some (End k')) = same_end k' k
is_end k e = false

-- nothing was written since the parent's opening
abbrev pub same_start : Level → Page → Bool
same_start parent p = parent.start == length p.sheet.text

-- the node is followed by its parent's End
abbrev pub same_finish : Level → Look → Bool
same_finish parent l = is_end (end_of parent.tag) l.next_in_unit

-- the marker, `*` or `_`, with which the parent opens
abbrev pub marker_of : Level → ℕ
marker_of parent = slice_index (opening_token parent.content) 0

-- by runs: another marker than the parent's, if they begin and end together or apart, or punctuation follows
abbrev pub beside_parent : Setting → ℕ → Look → Option Level → Page → ℕ
beside_parent s t l None p = t
beside_parent s t l (Some parent) p =
    if (marker_of parent == t) && (same_truth (same_start parent p) (same_finish parent l) || is_punctuation s l.opening.after)
    then other_marker t else t

-- the marker by runs
abbrev pub marker_by_runs : Setting → ℕ → Look → Path → Page → ℕ
marker_by_runs s t l path p =
    if not (fits_underscore s l.opening.before l.closing.after) then asterisk
    else if ends_delimiter l.previous then (if last_byte p.sheet.text == underscore then asterisk else underscore)
    else if l.prefers then underscore
    else beside_parent s t l (nearest is_emphasis_or_strong path) p

-- whether a length is a multiple of three, as the rule of three asks (CommonMark, section 6.2)
abbrev pub is_divisible : ℕ → Bool
is_divisible n = n % 3 == 0

-- whether a node that follows a closing takes the marker written last: of its length or its width by the rule of three
abbrev pub copies_marker : Layout → Look → Page → Bool
copies_marker (Shared ends adjacent split) l p = adjacent
copies_marker RuleThree l p =
    let written_run = last_run p.sheet.text in
    not (written_run % 3 == l.width % 3) || is_divisible written_run
copies_marker layout l p = false

-- the marker of a node that follows a closing: the one written last, or the other one
abbrev pub after_closing : Layout → Look → Page → ℕ
after_closing layout l p =
    let c = last_byte p.sheet.text in
    if copies_marker layout l p then (if is_marker c then c else asterisk)
    else (if c == asterisk then underscore else asterisk)

-- the runs of a node could be read as parts of each other
abbrev pub splits : Setting → Bool → Look → Bool
splits s split l =
    split && not (is_divisible l.opening.width) && is_divisible (l.opening.width + l.closing.width) && is_punctuation s l.closing.before

-- whether the tag is Strong
abbrev pub is_strong : TagView → Bool
is_strong Strong = true
is_strong t = false

-- whether this layout lets a node that ends with its parent take the parent's marker
abbrev pub shares_finish : Layout → Bool
shares_finish (Shared ends adjacent split) = ends
shares_finish layout = false

-- whether this layout minds that the runs of a node could be read as parts of each other
abbrev pub may_split : Layout → Bool
may_split (Shared ends adjacent split) = split
may_split layout = false

-- a node that begins with its parent takes the parent's marker if they also end together and it is Strong, or if they
-- don't end together and their runs can't be parts of each other
abbrev pub shares_start : Setting → Layout → TagView → Look → Bool → Bool
shares_start s layout t l true = is_strong t
shares_start s layout t l false = not (splits s (may_split layout) l)

-- by the rule of three: the parent's run and what this node opens with make up a multiple of three
abbrev pub completes_three : Layout → Look → Level → Page → Bool
completes_three RuleThree l parent p =
    let run = run_around (marker_of parent) parent.start p.sheet.text in
    not (is_divisible run) && is_divisible (run + l.width)
completes_three layout l parent p = false

-- whether a node takes its parent's marker: as they begin or end together, or by the rule of three
abbrev pub shares_marker : Setting → Layout → TagView → Look → Level → Page → Bool
shares_marker s layout t l parent p =
    if same_start parent p then shares_start s layout t l (same_finish parent l)
    else completes_three layout l parent p || (same_finish parent l && shares_finish layout)

-- the marker of a node in its parent: the parent's or the other one; without a parent, the one given
abbrev pub inside_parent : Setting → Layout → ℕ → TagView → Look → Option Level → Page → ℕ
inside_parent s layout c t l None p = c
inside_parent s layout c t l (Some parent) p =
    if shares_marker s layout t l parent p then marker_of parent else other_marker (marker_of parent)

-- the marker by shared runs or the rule of three, but for a marker that is beside it in a Text
abbrev pub marker_by_sharing : Setting → Layout → ℕ → TagView → Look → Path → Page → ℕ
marker_by_sharing s layout c t l path p =
    if ends_delimiter l.previous then after_closing layout l p
    else inside_parent s layout c t l (nearest is_emphasis_or_strong path) p

-- with literal texts: the marker that is in a Text before or after
abbrev pub literal_marker : TextSpelling → Look → Option ℕ
literal_marker LiteralEntities l = or_else l.opening.literal_before l.closing.literal_after
literal_marker text l = None

-- as many as the node is wide
abbrev pub in_width : TagView → ℕ → List ℕ
in_width t c = replicate (tag_width t) c

-- what Emphasis or Strong opens and closes with, in each layout of a plan (CommonMark, section 6.2)
abbrev pub marker_in : Layout → Setting → Manner → TagView → Look → Path → Page → List ℕ
marker_in Preferred s m t l path p = if is_strong t then m.markers.strong else preferred_marker s (encode_utf8 m.markers.emphasis) l path p
marker_in Runs s m t l path p = in_width t (marker_by_runs s (asked_marker m.markers t) l path p)
marker_in Uniform s m t l path p = asked_token m.markers t
marker_in (Shared ends adjacent split) s m t l path p =
    in_width t (unwrap_or (literal_marker m.plan.text l) (marker_by_sharing s (Shared ends adjacent split) (asked_marker m.markers t) t l path p))
marker_in RuleThree s m t l path p =
    in_width t (unwrap_or (literal_marker m.plan.text l) (marker_by_sharing s RuleThree (asked_marker m.markers t) t l path p))

-- what a container of Emphasis or Strong opens and closes with
unfoldable pub marker : Setting → Manner → TagView → Look → Path → Page → List ℕ
marker s m t l path p = marker_in m.plan.layout s m t l path p

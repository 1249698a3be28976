-- The spellings that are tried for a unit, in order.
use Rattle.std.specs.Prelude.{ℕ, Bool, true, false, ◌&&◌, ◌||◌, if◌then◌else◌, ◌==◌, List, [], ◌∷◌, ◌++◌, bytes_eq, codes, flat_map, map}
use Rattle.tocmark_event.specs.Options.{OptionsView}
use Rattle.tocmark_event.specs.Forest.{empty, leaf, node}
use Rattle.tocmark_event.specs.View.{TagView}
use Rattle.tocmark_spelling.specs.Body.{Trees, some_leaf}
use Rattle.tocmark_spelling.specs.Words.{asterisk}
use Rattle.tocmark_spelling.specs.Plan.{Plan, Markers, Manner}
use Rattle.tocmark_spelling.specs.declared.plan.Layout.{Layout}
use Rattle.tocmark_spelling.specs.declared.plan.Layout.TheVariants.{Preferred, Runs, Uniform, Shared, RuleThree}
use Rattle.tocmark_spelling.specs.declared.plan.TextSpelling.{TextSpelling}
use Rattle.tocmark_spelling.specs.declared.plan.TextSpelling.TheVariants.{Escaped, Literal, Entities, LiteralEntities}
-- what is written by delimiters, and what has a spelling in the source
pub use Rattle.tocmark_write_unit.specs.CensusOf.{is_delimiter_tag, is_math, is_sourced}

-- whether a container of such a tag is at any depth
abbrev pub some_tag : (TagView → Bool) → Trees → Bool
some_tag test empty = false
some_tag test (leaf l f) = some_tag test f
some_tag test (node t kids f) = test t || some_tag test kids || some_tag test f

-- a unit with an event that is written by delimiters
abbrev pub is_delimiter_block : Trees → Bool
is_delimiter_block f = some_tag is_delimiter_tag f || some_leaf is_math f

-- whether a unit has an event
abbrev pub has_event : Trees → Bool
has_event empty = false
has_event (leaf l f) = true
has_event (node t kids f) = true

-- a unit that is written only as it reads back: one with delimiters, and where the options ask for it each that has an event
abbrev pub is_checked : OptionsView → Trees → Bool
is_checked o f = is_delimiter_block f || (o.check_plain_blocks && has_event f)

-- whether the source of some text is known
abbrev pub has_source : Trees → Bool
has_source empty = false
has_source (leaf l f) = is_sourced l || has_source f
has_source (node t kids f) = has_source kids || has_source f

-- a manner: a layout, a way with texts, the two markers, and whether texts are taken from the source
abbrev pub in_manner : Layout → TextSpelling → Markers → Bool → Manner
in_manner layout text markers source = record { plan = record { layout = layout; text = text }; markers = markers; source = source }

-- the markers that the options name
abbrev pub own_markers : OptionsView → Markers
own_markers o = record { emphasis = o.emphasis_token; strong = o.strong_token }

-- the preferred spelling: escaped, with the options' own markers
abbrev pub preferred_manner : OptionsView → Manner
preferred_manner o = in_manner Preferred Escaped (own_markers o) false

-- the other marker of emphasis: `_` for `*`, else `*` (CommonMark, section 6.2)
abbrev pub other_emphasis : ℕ → ℕ
other_emphasis c = if c == asterisk then 95 else asterisk

-- the other marker of strong emphasis: `__` for `**`, else `**` (CommonMark, section 6.2)
abbrev pub other_strong : List ℕ → List ℕ
other_strong t = if bytes_eq t (codes "**") then codes "__" else codes "**"

-- a marker of Emphasis with one of Strong
abbrev pub pair : ℕ → List ℕ → Markers
pair emphasis strong = record { emphasis = emphasis; strong = strong }

-- the four pairs of markers, the preferred ones first
abbrev pub pairs_from : ℕ → List ℕ → List Markers
pairs_from e s = pair e s ∷ pair (other_emphasis e) s ∷ pair e (other_strong s) ∷ pair (other_emphasis e) (other_strong s) ∷ []

-- the same in a fixed order
abbrev pub all_pairs : List Markers
all_pairs = pair asterisk (codes "**") ∷ pair asterisk (codes "__") ∷ pair 95 (codes "**") ∷ pair 95 (codes "__") ∷ []

-- the fourteen fallbacks
abbrev pub fallbacks : List Plan
fallbacks =
    record { layout = RuleThree; text = Entities }
    ∷ record { layout = RuleThree; text = LiteralEntities }
    ∷ record { layout = Runs; text = Literal }
    ∷ record { layout = Uniform; text = Escaped }
    ∷ record { layout = Uniform; text = Literal }
    ∷ record { layout = Shared false false false; text = Escaped }
    ∷ record { layout = Shared true false false; text = Escaped }
    ∷ record { layout = Shared false true false; text = Escaped }
    ∷ record { layout = Shared true true false; text = Escaped }
    ∷ record { layout = Shared false false false; text = Entities }
    ∷ record { layout = Shared false false false; text = Literal }
    ∷ record { layout = Shared true false false; text = Literal }
    ∷ record { layout = Shared false false true; text = Escaped }
    ∷ record { layout = Shared true false true; text = Escaped }
    ∷ []

-- a fallback with each pair of markers
abbrev pub fallback_manners : Plan → List Manner
fallback_manners plan = map (λ m. record { plan = plan; markers = m; source = false }) all_pairs

-- from the source: the preferred spelling, and for a delimiter block one by runs
abbrev pub source_manners : OptionsView → Bool → List Manner
source_manners o delimiters =
    in_manner Preferred Escaped (own_markers o) true ∷ (if delimiters then in_manner Runs Escaped (own_markers o) true ∷ [] else [])

-- of a delimiter block: the preferred spelling, four by runs, and the fallbacks
abbrev pub delimiter_manners : OptionsView → List Manner
delimiter_manners o =
    preferred_manner o ∷ map (λ m. in_manner Runs Escaped m false) (pairs_from o.emphasis_token o.strong_token)
    ++ flat_map fallback_manners fallbacks

-- escaped: all of them for a delimiter block, and the preferred one for any other unit that is checked
abbrev pub escaped_manners : OptionsView → Bool → Bool → List Manner
escaped_manners o delimiters checked = if delimiters then delimiter_manners o else (if checked then preferred_manner o ∷ [] else [])

-- the spellings that are tried: from the source where some text has one, and escaped for a unit that is checked
unfoldable pub candidates : OptionsView → Trees → List Manner
candidates o f =
    (if has_source f then source_manners o (is_delimiter_block f) else [])
    ++ escaped_manners o (is_delimiter_block f) (is_checked o f)

-- Where the markers that may be chosen are ASCII.
use Rattle.std.specs.Prelude.{◌≡◌, ◌<◌, Bool, true, false, Option, Some, None, IfSome, [], ◌∷◌}
use Rattle.tocmark_spelling.specs.Kinds.{is_emphasis_or_strong}
use Rattle.tocmark_spelling.specs.Machine.{Machine, going, skipping, refused}
use Rattle.tocmark_spelling.specs.Marker.{marker_of}
use Rattle.tocmark_spelling.specs.Page.{Path, Site}
use Rattle.tocmark_spelling.specs.declared.plan.Delimiters.{Delimiters}
use Rattle.tocmark_spelling.specs.declared.plan.Layout.{Layout}
use Rattle.tocmark_spelling.specs.declared.plan.Layout.TheVariants.{Preferred, Uniform}
use Rattle.tocmark_write_emphasis.specs.Facts.{asked_by}
use Rattle.tocmark_write_emphasis.specs.declared.facts.EmphasisEvents.{EmphasisEvents}

-- whether a layout chooses among single bytes
abbrev pub chooses_bytes : Layout → Bool
chooses_bytes Preferred = false
chooses_bytes Uniform = false
chooses_bytes layout = true

-- the markers that are asked for are ASCII, those of several characters in their first byte
pub record AreLowAsked (d : Delimiters) : Type 0 where
  pub emphasis : asked_by d false < 128
  pub strong : asked_by d true < 128

-- each open container of emphasis or strong emphasis opened with an ASCII byte
abbrev pub AreLowLevels : Path → Type 0
AreLowLevels [] = Unit {0}
AreLowLevels (l ∷ path) = (is_emphasis_or_strong l.tag ≡ true → marker_of l < 128) × AreLowLevels path

-- where the layout chooses among single bytes, those that are asked for are ASCII
abbrev pub AsksLow : Delimiters → Type 0
AsksLow d = chooses_bytes d.layout ≡ true → AreLowAsked d

-- there each open container of emphasis or strong emphasis opened with an ASCII byte
abbrev pub OpensLow : Delimiters → Path → Type 0
OpensLow d path = chooses_bytes d.layout ≡ true → AreLowLevels path

-- the markers that are beside a node in Texts are ASCII
pub record HasLowLiterals (node : EmphasisEvents) : Type 0 where
  pub before : IfSome node.opening.literal_before (λ c. c < 128)
  pub after : IfSome node.closing.literal_after (λ c. c < 128)

-- where a machine is; none where it has refused an event
abbrev pub site_in : Machine → Option Site
site_in (going here before) = Some here
site_in (skipping d here before) = Some here
site_in refused = None

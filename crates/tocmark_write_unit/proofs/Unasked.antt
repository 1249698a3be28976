-- What no event of a unit asks for holds of an empty list.
use Rattle.std.proofs.Common.{◌≡◌, Bool, false, List, [], ◌∷◌, refl, sym}
use Rattle.std.specs.Prelude.{◌||◌}
use Rattle.std.specs.List.{list_any}
use Rattle.std.proofs.lemmas.Bool.{false≢true}
use Rattle.tocmark_event.specs.Options.{OptionsView}
use Rattle.tocmark_event.specs.View.{TagView, Indented, Fenced, CodeBlock, HtmlBlock, Link, Image, SourcedEvent, Start, End, Leaf}
use Rattle.tocmark_event.specs.declared.event.flags.ParserOptions.{ParserOptions}
use Rattle.tocmark_spelling.specs.PlanOf.{setting_of}
use Rattle.tocmark_write_inlines.proofs.Names.{none-named}
use Rattle.tocmark_write_inlines.specs.Named.{asks_reader, may_be_named, AreNamed}
use Rattle.tocmark_write_blocks.proofs.RawLemmas.{left-false, no-raw, right-false}
use Rattle.tocmark_write_blocks.specs.Kinds.{is_fenced, is_html_block, opens}
use Rattle.tocmark_write_blocks.specs.Raw.{AreRaw}
use Rattle.tocmark_write_renderer.specs.JobOf.{Reading}
use Rattle.tocmark_write_unit.specs.CensusOf.{is_link_or_image, is_raw_block}

-- where no event passes a test, none passes a sharper one
fewer : (wide sharp : SourcedEvent → Bool) → ((e : SourcedEvent) → wide e ≡ false → sharp e ≡ false)
    → (es : List SourcedEvent) → list_any wide es ≡ false → list_any sharp es ≡ false
fewer wide sharp h [] none = refl
fewer wide sharp h (e ∷ es) none = λ j.
    h e (left-false (wide e) (list_any wide es) none) j || fewer wide sharp h es (right-false (wide e) (list_any wide es) none) j

not-fenced : (t : TagView) → is_raw_block t ≡ false → is_fenced t ≡ false
not-fenced (CodeBlock Indented) h = refl
not-fenced (CodeBlock (Fenced info)) h = h
not-fenced t h = refl

not-html : (t : TagView) → is_raw_block t ≡ false → is_html_block t ≡ false
not-html HtmlBlock h = h
not-html t h = refl

not-named : (t : TagView) → is_link_or_image t ≡ false → may_be_named t ≡ false
not-named (Link kind dest title id) h = absurd (false≢true (sym h))
not-named (Image kind dest title id) h = absurd (false≢true (sym h))
not-named t h = refl

opens-no : (sharp : TagView → Bool) → ((t : TagView) → is_raw_block t ≡ false → sharp t ≡ false)
    → (e : SourcedEvent) → opens is_raw_block e ≡ false → opens sharp e ≡ false
opens-no sharp h (Start t) none = h t none
opens-no sharp h (End k) none = refl
opens-no sharp h (Leaf l) none = refl

asks-no : (e : SourcedEvent) → opens is_link_or_image e ≡ false → asks_reader e ≡ false
asks-no (Start t) none = not-named t none
asks-no (End k) none = refl
asks-no (Leaf l) none = refl

-- without a code or HTML block
pub raw-unasked : (o : OptionsView) (es : List SourcedEvent) → list_any (opens is_raw_block) es ≡ false → AreRaw o es []
raw-unasked o es none =
    no-raw o es [] (fewer (opens is_raw_block) (opens is_fenced) (opens-no is_fenced not-fenced) es none)
    (fewer (opens is_raw_block) (opens is_html_block) (opens-no is_html_block not-html) es none)

-- without a link or an image
pub named-unasked : (reading : Reading) (flags : ParserOptions) (es : List SourcedEvent) → list_any (opens is_link_or_image) es ≡ false → AreNamed reading flags es []
named-unasked reading flags es none = record {
  at = λ o label i. none-named (setting_of o flags reading label) es i (fewer (opens is_link_or_image) asks_reader asks-no es none);
}

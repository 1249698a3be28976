-- What the opening of a code or HTML block asks of the texts in it.
use Rattle.std.specs.Prelude.{◌≡◌, ℕ, ◌==◌, Bool, false, not, if◌then◌else◌, List, [], ◌∷◌, chars, drop, slice_index_or}
use Rattle.std.specs.List.{list_any}
use Rattle.tocmark_write_blocks.specs.TokenRuns.{no_runs, IsText}
use Rattle.tocmark_write_blocks.specs.declared.token_runs.TokenRuns.{TokenRuns}
use Rattle.tocmark_write_texts.specs.Leaves.{longest_run}
use Rattle.tocmark_event.specs.Options.{OptionsView}
use Rattle.tocmark_event.specs.View.{TagView, CodeBlock, HtmlBlock, Fenced, LeafView, Text, SourcedEvent, Start, Leaf}
use Rattle.tocmark_spelling.specs.Body.{Trees, first_html, html_of_leaf, joined_by, text_of_leaf}
use Rattle.tocmark_spelling.specs.Html.{is_blank_terminated, is_html_closed}
use Rattle.tocmark_spelling.specs.Machine.{kids_of}
use Rattle.tocmark_spelling.specs.Opening.{fence_token}
use Rattle.tocmark_write_blocks.specs.declared.html_facts.HtmlFacts.{HtmlFacts}
use Rattle.tocmark_write_blocks.specs.declared.raw_facts.RawFacts.{RawFacts}

-- where nothing is asked
abbrev pub no_raw : RawFacts
no_raw = record { longest = 0; blank = false; closed = false }

-- how an HTML block with this body ends
pub record IsHtmlEnd (kids : Trees) (x : RawFacts) : Type 0 where
  pub blank : x.blank ≡ is_blank_terminated (first_html kids)
  pub closed : x.closed ≡ is_html_closed (joined_by html_of_leaf kids)

-- the longest run of the fence's token in fenced code with this body
abbrev pub IsFenceRun : OptionsView → List ℕ → Trees → RawFacts → Type 0
IsFenceRun o info kids x = x.longest ≡ longest_run (fence_token o info) (chars (joined_by text_of_leaf kids))

-- what the opening of a container with this tag and body asks
abbrev pub IsRawTag : OptionsView → TagView → Trees → RawFacts → Type 0
IsRawTag o (CodeBlock (Fenced info)) kids x = IsFenceRun o info kids x
IsRawTag o HtmlBlock kids x = IsHtmlEnd kids x
IsRawTag o t kids x = Unit {0}

-- the same of an event; nothing where it is no Start
abbrev pub IsRaw : OptionsView → SourcedEvent → Trees → RawFacts → Type 0
IsRaw o (Start t) kids x = IsRawTag o t kids x
IsRaw o e kids x = Unit {0}

-- for each event what the opening of its body asks
pub record AreRaw (o : OptionsView) (es : List SourcedEvent) (facts : List RawFacts) : Type 0 where
  pub at : (i : ℕ) (e : SourcedEvent) (rest : List SourcedEvent) → drop i es ≡ e ∷ rest
      → IsRaw o e (kids_of rest) (slice_index_or facts i no_raw)

-- the longest run of a token in the body after whose Start these events are
abbrev pub body_run : ℕ → List SourcedEvent → ℕ
body_run token rest = longest_run token (chars (joined_by text_of_leaf (kids_of rest)))

-- for each Start of fenced code the longest run of a token in it
pub record AreFenceRuns (token : ℕ) (es : List SourcedEvent) (runs : List TokenRuns) : Type 0 where
  pub at : (i : ℕ) (info : List ℕ) (rest : List SourcedEvent) → drop i es ≡ Start (CodeBlock (Fenced info)) ∷ rest
      → (slice_index_or runs i no_runs).longest ≡ body_run token rest

-- whether a byte is in a Text
abbrev pub leaf_holds : ℕ → LeafView → Bool
leaf_holds byte (Text t) = list_any (λ b. b == byte) t
leaf_holds byte l = false

-- the same of an event
abbrev pub event_holds : ℕ → SourcedEvent → Bool
event_holds byte (Leaf l) = leaf_holds byte l.leaf
event_holds byte e = false

-- a byte is in no Text, and each Text is UTF-8
abbrev pub AreWithout : ℕ → List SourcedEvent → Type 0
AreWithout byte [] = Unit {0}
AreWithout byte (e ∷ es) = (event_holds byte e ≡ false) × (IsText e × AreWithout byte es)

-- whether this is the tag of code whose fence isn't made of the preferred token
abbrev pub has_other_fence : OptionsView → TagView → Bool
has_other_fence o (CodeBlock (Fenced info)) = not (fence_token o info == o.code_block_token)
has_other_fence o t = false

-- for each Start of such code the longest run of `~` in it
pub record AreOtherRuns (o : OptionsView) (es : List SourcedEvent) (runs : List TokenRuns) : Type 0 where
  pub at : (i : ℕ) (info : List ℕ) (rest : List SourcedEvent) → drop i es ≡ Start (CodeBlock (Fenced info)) ∷ rest
      → (fence_token o info == o.code_block_token) ≡ false → (slice_index_or runs i no_runs).longest ≡ body_run 126 rest

-- the facts of fenced code with such a longest run
abbrev pub fence_raw : ℕ → RawFacts
fence_raw longest = record { longest = longest; blank = false; closed = false }

-- the facts of an HTML block that ends so
abbrev pub html_raw : HtmlFacts → RawFacts
html_raw h = record { longest = 0; blank = h.blank; closed = h.closed }

-- the facts of a container with this tag, by the longest runs of the preferred token and of `~`, and by how its block ends
abbrev pub raw_of_tag : OptionsView → TagView → ℕ → ℕ → HtmlFacts → RawFacts
raw_of_tag o (CodeBlock (Fenced info)) preferred tilde html =
    fence_raw (if fence_token o info == o.code_block_token then preferred else tilde)
raw_of_tag o HtmlBlock preferred tilde html = html_raw html
raw_of_tag o t preferred tilde html = no_raw

-- the same of an event
abbrev pub raw_of : OptionsView → SourcedEvent → ℕ → ℕ → HtmlFacts → RawFacts
raw_of o (Start t) preferred tilde html = raw_of_tag o t preferred tilde html
raw_of o e preferred tilde html = no_raw

-- What a call with the default options hands for a list of events that is one code span, one link or one fenced code
-- block: exactly one text where it succeeds; else it failed at that text or for want of memory.
use Rattle.std.specs.Prelude.{◌≡◌, ℕ, ◌<◌, false, List, Some, Result, length}
use Rattle.std.specs.List.{concat}
use Rattle.tocmark_event.specs.View.{Code}
use Rattle.tocmark_event.specs.declared.event.flags.ParserOptions.{ParserOptions}
use Rattle.tocmark_event.specs.Options.{default_options}
use Rattle.tocmark_event.specs.declared.options.Error.{Error}
use Rattle.tocmark_write_texts.specs.Leaves.{code_span, unspan}
use Rattle.tocmark_state.specs.Ranges.{Pair}
use Rattle.tocmark_state.specs.Walk.{done}
use Rattle.tocmark_state.specs.Writes.{Makes}
use Rattle.tocmark_laws.specs.CodeBlocks.{IsFence, code_events, code_text}
use Rattle.tocmark_laws.specs.Links.{link_events, link_text, one_text_walk}
use Rattle.tocmark_laws.specs.Paragraphs.{paragraph_with}

-- for a paragraph with one code span: the span of its text, which is read as the text if that isn't empty
abbrev pub MakesCodeSpan : {W X : Type 0} → (W → List ℕ → W → Type 0) → (W → List ℕ → W → Type 0) → W → W → Result X Error → List Pair → Type 0
MakesCodeSpan gives refuses w v r p =
    (text : List ℕ) → p ≡ paragraph_with (Code text) → Makes gives refuses w v r done (one_text_walk (code_span false text))
    × (0 < length text → unspan (code_span false text) ≡ Some text)

-- for a paragraph with one inline link round one text: the link
abbrev pub MakesLink : {W X : Type 0} → (W → List ℕ → W → Type 0) → (W → List ℕ → W → Type 0) → W → W → Result X Error → ParserOptions → List Pair → Type 0
MakesLink gives refuses w v r flags p =
    (dest title id text : List ℕ) → p ≡ link_events dest title id text →
    Makes gives refuses w v r done (one_text_walk (link_text default_options flags dest title text))

-- for one fenced code block: the code block, with a fence that ends no sooner than its texts
abbrev pub MakesFencedCode : {W X : Type 0} → (W → List ℕ → W → Type 0) → (W → List ℕ → W → Type 0) → W → W → Result X Error → List Pair → Type 0
MakesFencedCode gives refuses w v r p =
    (info : List ℕ) (ts : List (List ℕ)) → p ≡ code_events info ts →
    (fence : List ℕ) × IsFence default_options info (concat ts) fence
    × Makes gives refuses w v r done (one_text_walk (code_text fence info (concat ts)))

-- A document of one fenced code block, and what is handed for it.
use Rattle.std.specs.Prelude.{◌≡◌, ℕ, ◌<◌, ◌≤◌, Bool, false, ◌&&◌, ◌==◌, if◌then◌else◌, List, [], ◌∷◌, ◌++◌, chars, codes, encode_utf8, flat_map, map, replicate}
use Rattle.std.specs.List.{concat, list_any}
use Rattle.tocmark_event.specs.Options.{OptionsView}
use Rattle.tocmark_event.specs.Reading.{ReadingView}
use Rattle.tocmark_event.specs.View.{Start, End, Leaf, CodeBlock, Fenced, Text}
use Rattle.tocmark_event.specs.declared.event.TagEnd.TheVariants as end
use Rattle.tocmark_event.specs.declared.event.flags.ParserOptions.{ParserOptions}
use Rattle.tocmark_write_texts.specs.Characters.{backtick}
use Rattle.tocmark_spelling.specs.Opening.{info_byte}
use Rattle.tocmark_spelling.specs.Words.{last_byte}
use Rattle.tocmark_state.specs.Ranges.{Pair, unranged}
use Rattle.tocmark_state.specs.WorkView.{rendering}
use Rattle.tocmark_state.specs.Walk.{nothing_yet, script}
use Rattle.tocmark_laws.specs.Links.{one_text_walk}

-- a fenced code block with this info string and these texts, without ranges
abbrev pub code_events : List ℕ → List (List ℕ) → List Pair
code_events info ts = map unranged (Start (CodeBlock (Fenced info)) ∷ map (λ t. Leaf (Text t)) ts ++ End end.CodeBlock ∷ [])

-- a character is so many times in a row somewhere in a text
pub record HasRun (count token : ℕ) (text : List ℕ) : Type 0 where
  pub before : List ℕ
  pub after : List ℕ
  pub is : text ≡ before ++ replicate count token ++ after

-- a fence can't be of this character before the info string: it is a backtick, and one is there (CommonMark, section 4.5)
abbrev pub clashes : ℕ → List ℕ → Bool
clashes token info = (token == backtick) && list_any (λ b. b == backtick) info

-- a fence that ends no sooner than the text (CommonMark, section 4.5)
pub record IsFence (o : OptionsView) (info text fence : List ℕ) : Type 0 where
  pub token : ℕ
  pub count : ℕ
  pub is : fence ≡ flat_map encode_utf8 (replicate count token)
  pub least : 3 ≤ count
  pub preferred : o.code_block_token_count ≤ count
  pub longer : (n : ℕ) → HasRun n token (chars text) → n < count
  -- the character that the options name, but `~` where that one can't be it
  pub token_is : token ≡ (if clashes o.code_block_token info then 126 else o.code_block_token)
  pub stands : clashes token info ≡ false

-- on a line of its own the fence and the info string, and below it the text
abbrev pub opened_code : List ℕ → List ℕ → List ℕ → List ℕ
opened_code fence info text = codes "\n" ++ fence ++ flat_map info_byte info ++ codes "\n" ++ text

-- the code block in Markdown: the fence is after the text where that ends its last line (CommonMark, section 4.5)
abbrev pub code_text : List ℕ → List ℕ → List ℕ → List ℕ
code_text fence info text =
    opened_code fence info text ++ (if last_byte (opened_code fence info text) == 10 then fence else [])

-- exactly the code block is handed and nothing is refused: under all flags, over each reader, and under all options that
-- don't ask that plain blocks be checked
abbrev pub CodeIsFenced : Type 0
CodeIsFenced =
    (options : OptionsView) (reading : List ℕ → ParserOptions → ReadingView) (flags : ParserOptions) (source info : List ℕ) (ts : List (List ℕ)) →
    options.check_plain_blocks ≡ false → (fence : List ℕ) × IsFence options info (concat ts) fence
    × (script (rendering options reading) source (nothing_yet flags) (code_events info ts)
    ≡ one_text_walk (code_text fence info (concat ts)))

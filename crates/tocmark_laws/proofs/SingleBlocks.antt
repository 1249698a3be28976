-- What a call with the default options made of a list of events that is one code span, one link or one fenced code block.
use Rattle.std.proofs.Common.{◌≡◌, ℕ, ◌+◌, ◌<◌, Bool, true, false, if◌then◌else◌, List, [], ◌∷◌, ◌++◌, Ok, Result, refl, ap, ◌∙◌, subst, arith, codes, length, replicate}
use Rattle.std.proofs.lemmas.List.{length-append, length-replicate}
use Rattle.std.specs.List.{concat}
use Rattle.tocmark_event.specs.View.{Code}
use Rattle.tocmark_event.specs.declared.event.flags.ParserOptions.{ParserOptions}
use Rattle.tocmark_event.specs.Options.{OptionsView, default_options}
use Rattle.tocmark_event.specs.declared.options.Error.{Error}
use Rattle.tocmark_event.specs.Reading.{ReadingView}
use Rattle.tocmark_write_texts.specs.Leaves.{code_span, is_blank, padding, span, ticks, longest_run}
use Rattle.tocmark_write_texts.proofs.SpanReads.{code_span-read}
use Rattle.tocmark_state.specs.Ranges.{Pair}
use Rattle.tocmark_state.specs.Walk.{Walk, Done, done, handed_text, nothing_yet, script}
use Rattle.tocmark_state.specs.WorkView.{rendering}
use Rattle.tocmark_state.specs.Writes.{Makes}
use Rattle.tocmark_laws.specs.CodeBlocks.{IsFence, code_text}
use Rattle.tocmark_laws.specs.Links.{link_text, one_text_walk}
use Rattle.tocmark_laws.specs.Paragraphs.{paragraph_with}
use Rattle.tocmark_laws.specs.SingleBlocks.{MakesCodeSpan, MakesFencedCode, MakesLink}
use Rattle.tocmark_laws.proofs.CodeBlocks.{is_fenced}
use Rattle.tocmark_laws.proofs.Links.{handed}
use Rattle.tocmark_laws.proofs.Paragraphs.{made, written-code}

-- a code span begins with a backtick
begun : (n b : ℕ) (rest : List ℕ) → 0 < length (replicate (n + 1) b ++ rest)
begun n b rest = omega (arith, length-append (replicate (n + 1) b) rest, length-replicate (n + 1) b)

either_begun : (b : Bool) (xs ys : List ℕ) → 0 < length xs → 0 < length ys → 0 < length (if b then xs else ys)
either_begun true xs ys h k = h
either_begun false xs ys h k = k

span-some : (text : List ℕ) → 0 < length (code_span false text)
unfolding code_span span
span-some text =
    either_begun (is_blank text) (codes "`" ++ (text ++ codes "`")) (ticks text ++ (padding text ++ (text ++ (padding text ++ ticks text))))
    (omega arith)
    (begun (longest_run 96 text) 96 (padding text ++ (text ++ (padding text ++ ticks text))))

one_handed : (text : List ℕ) → 0 < length text → handed_text text ≡ text ∷ []
one_handed [] h = absurd (omega arith)
one_handed (b ∷ bs) h = refl

module _ {W X : Type 0} (gives refuses : W → List ℕ → W → Type 0) (w v : W) (r : Result X Error) (o : OptionsView) (reading : List ℕ → ParserOptions → ReadingView) (flags : ParserOptions) (p : List Pair) (default : o ≡ default_options) (is_made : Makes gives refuses w v r done (script (rendering o reading) [] (nothing_yet flags) p)) where
  off : o.check_plain_blocks ≡ false
  off = ap (λ (x : OptionsView). x.check_plain_blocks) default

  -- a call that made the script of these events made the walk that they come to
  made_as : (q : List Pair) (walk : Walk Done) → p ≡ q → script (rendering o reading) [] (nothing_yet flags) q ≡ walk → Makes gives refuses w v r done walk
  made_as q walk e is =
      subst (λ (x : Walk Done). Makes gives refuses w v r done x) (ap (λ (x : List Pair). script (rendering o reading) [] (nothing_yet flags) x) e ∙ is) is_made

  pub code_span_made : MakesCodeSpan gives refuses w v r p
  code_span_made = λ text e. (
    made_as (paragraph_with (Code text)) (one_text_walk (code_span false text)) e
        (made o reading flags off [] (Code text) (code_span false text) refl (written-code o reading flags off text)
        ∙ ap (λ (ts : List (List ℕ)). record { texts = ts; outcome = Ok done }) (one_handed (code_span false text) (span-some text))),
    λ h. code_span-read text h,
  )

  pub link_made : MakesLink gives refuses w v r flags p
  link_made = λ dest title id text e.
      made_as _ (one_text_walk (link_text default_options flags dest title text)) e
      (handed o reading flags dest title id text off [] ∙ ap (λ (x : OptionsView). one_text_walk (link_text x flags dest title text)) default)

  pub fenced_code_made : MakesFencedCode gives refuses w v r p
  fenced_code_made = λ info ts e.
      let f = is_fenced o reading flags info ts off [] in
      (f.0, subst (λ (x : OptionsView). IsFence x info (concat ts) f.0) default f.1, made_as _ (one_text_walk (code_text f.0 info (concat ts))) e f.2)

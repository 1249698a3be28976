-- What is handed for a paragraph of a code span is read as it.
use Rattle.std.proofs.Common.{◌≡◌, ℕ, true, false, List, [], ◌∷◌, refl, ap, sym, ◌∙◌, true≢false}
use Rattle.std.specs.List.{AllByRecursion}
use Rattle.tocmark_event.specs.Options.{OptionsView}
use Rattle.tocmark_event.specs.View.{Code}
use Rattle.tocmark_write_texts.specs.Leaves.{code_span, span, padding, longest_run, last_is}
use Rattle.tocmark_state.specs.Walk.{Walk, Done, handed_text}
use Rattle.tocmark_laws.specs.CodeSpans.{is_span, in_backticks, span_paragraph}
use Rattle.tocmark_laws.specs.ReadBack.{ReadsBackAlike}
use Rattle.tocmark_laws.proofs.CodeSpanReading.{IsCodeByte, IsCode, code_from, span_read}
use Rattle.tocmark_laws.proofs.Paragraphs.{made, written-code}

no_runs : (xs : List ℕ) → AllByRecursion IsCodeByte xs → longest_run 96 xs ≡ 0
no_runs [] h = refl
no_runs (x ∷ xs) h = rw ((h.0).other, no_runs xs (h.1)) refl

no_last : (x : ℕ) (xs : List ℕ) → AllByRecursion IsCodeByte (x ∷ xs) → last_is 96 (x ∷ xs) ≡ false
no_last x [] h = (h.0).other
no_last x (y ∷ ys) h = no_last y ys (h.1)

-- it is written between single backticks, without spaces
span_is : (b : ℕ) (bs : List ℕ) → IsCode b bs → code_span false (b ∷ bs) ≡ in_backticks (b ∷ bs)
unfolding code_span span padding
span_is b bs h = rw (h.first, (h.bytes.0).other, no_last b bs h.bytes, no_runs bs (h.bytes.1)) refl

pub spans_read_back : (options : OptionsView) (code : List ℕ) → options.check_plain_blocks ≡ false → is_span code ≡ true → ReadsBackAlike options (span_paragraph code)
spans_read_back options [] off h reading flags source = absurd (true≢false (sym h))
spans_read_back options (b ∷ bs) off h reading flags source =
    let code : List ℕ = b ∷ bs in
    let walk = made options reading flags off source (Code code) (code_span false code) refl (written-code options reading flags off code) in
    let is = span_is b bs (code_from b bs h) in
    record {
      ends_well = ap (λ (w : Walk Done). w.outcome) walk;
      text = in_backticks code;
      handed = ap (λ (w : Walk Done). w.texts) walk ∙ ap handed_text is;
      read = λ syntax fits. span_read syntax code h fits;
    }

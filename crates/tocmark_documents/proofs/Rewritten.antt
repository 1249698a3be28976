-- What is rewritten for the events of a JSON text.
use Rattle.std.proofs.Common.{◌≡◌, ◌≢◌, ◌++◌, [], ℕ, List, Option, Result, false, map, refl, subst, sym, ap, ◌∙◌, string_bytes}
use mathlib.Core.List.{map-map}
use Rattle.std.specs.Borrow.{Bor}
use Rattle.std.specs.Iterator.{Drains, YieldsFirstBy}
use Rattle.std.specs.Prelude.{IfErr, IfOk, true}
use Rattle.std.proofs.lemmas.Result.{IfErr-weaker, IfOk-weaker}
use Rattle.tocmark_event.specs.Reading.{ReadingView, lent_pair}
use Rattle.tocmark_event.specs.Text.{ParserEvent, text_of}
use Rattle.tocmark_event.specs.View.{EventView}
use Rattle.tocmark_event.specs.declared.event.flags.ParserOptions.{ParserOptions}
use Rattle.tocmark_compare.specs.Given.{given_events}
use Rattle.tocmark_json.specs.Json.{pair_view}
use Rattle.tocmark_laws.proofs.Handed.{drained}
use Rattle.tocmark_judge.specs.Marks.{after_mark, has_mark}
use Rattle.tocmark_judge.proofs.Marking.{rest-unmarked}
use Rattle.tocmark_rewrite.specs.Edited.{HasItsCause, IsWrittenFor, edited_events}
use Rattle.tocmark_rewrite.specs.declared.answer.Rewritten.{Rewritten}
use Rattle.tocmark_rewrite.specs.declared.fault.Fault.{Fault}
use Rattle.tocmark_rewrite.specs.declared.fault.Fault.TheVariants as fault
use Rattle.tocmark_state.specs.Ranges.{Pair, Range}
use Rattle.tocmark_documents.specs.Document.{without_range}
use Rattle.tocmark_documents.specs.Interchange.{IsTextOf, in_source, kept, places_left}
use Rattle.tocmark_documents.specs.Rewriting.{IsOfBlock, IsRewriteCause, IsRewrittenFrom, IsWrittenAfterMark, mark_of, reading_under}
use Rattle.tocmark_documents.specs.declared.fault.RewriteError.{RewriteError}
use Rattle.tocmark_documents.specs.declared.fault.RewriteError.TheVariants as rewrite_error
use Rattle.tocmark_documents.specs.declared.pairs.EventPairs.{EventPairs}
use Rattle.tocmark_documents.proofs.FoundAgain.{given_read}

-- what is written for the events of a JSON text is written from that text
pub written_from : (flags : ParserOptions) (source input : List ℕ) (ps : List (ParserEvent × Option (ℕ × ℕ))) (r : Result Rewritten RewriteError) → IsTextOf input (map (pair_view text_of) ps) → IfOk r (IsWrittenAfterMark (reading_under flags) source (given_events ps)) → IfOk r (IsRewrittenFrom flags source input)
written_from flags source input ps r is h =
    IfOk-weaker r (IsWrittenAfterMark (reading_under flags) source (given_events ps)) (IsRewrittenFrom flags source input) (λ answer w. record {
      pairs = map (pair_view text_of) ps;
      is_text = is;
      is_written = subst (λ (es : List EventView). IsWrittenAfterMark (reading_under flags) source es answer) (given_read ps) w;
    }) h

of_block : (flags : ParserOptions) (source input : List ℕ) (pairs : List Pair) → IsTextOf input pairs → (e : RewriteError) → IsOfBlock (reading_under flags) (after_mark source) (without_range pairs) e → IsRewriteCause flags source input e
of_block flags source input pairs is (rewrite_error.NotJson e) h = absurd h
of_block flags source input pairs is (rewrite_error.NotEvents e) h = absurd h
of_block flags source input pairs is (rewrite_error.Refused p e) h = (pairs, is, h)
of_block flags source input pairs is (rewrite_error.ReadOtherwise p) h = (pairs, is, h)
of_block flags source input pairs is rewrite_error.OutOfMemory h = tt

-- an error that names a block comes from events that were changed
pub blocks_of : {A : Type 0} (flags : ParserOptions) (source input : List ℕ) (ps : List (ParserEvent × Option (ℕ × ℕ))) (r : Result A RewriteError) → IsTextOf input (map (pair_view text_of) ps) → IfErr r (IsOfBlock (reading_under flags) (after_mark source) (given_events ps)) → IfErr r (IsRewriteCause flags source input)
blocks_of flags source input ps r is h =
    IfErr-weaker r (IsOfBlock (reading_under flags) (after_mark source) (given_events ps)) (IsRewriteCause flags source input) (λ e w.
    of_block flags source input (map (pair_view text_of) ps) is e (subst (λ (es : List EventView). IsOfBlock (reading_under flags) (after_mark source) es e) (given_read ps) w)) h

no_mark : (text : List ℕ) → has_mark text ≡ false → mark_of text ≡ []
no_mark text e = rw e refl

-- without a mark, what is rewritten is the source
pub unmarked : (reading : List ℕ → ReadingView) (source : List ℕ) (given : List EventView) (r : Result Rewritten RewriteError) → has_mark source ≡ false → IfOk r (IsWrittenFor reading source given) → IfOk r (IsWrittenAfterMark reading source given)
unmarked reading source given r none h =
    IfOk-weaker r (IsWrittenFor reading source given) (IsWrittenAfterMark reading source given) (λ answer w. record {
      rest = answer;
      is_written = subst (λ (s : List ℕ). IsWrittenFor reading s given answer) (sym (rest-unmarked source none)) w;
      is_marked = record { text = ap (λ (s : List ℕ). s ++ string_bytes answer.text) (sym (no_mark source none)); parts = refl; trees = refl };
    }) h

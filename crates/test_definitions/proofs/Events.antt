-- The rows are written as they say: each is computed.
use Rattle.std.specs.Prelude.{refl}
use Rattle.tocmark_event.specs.Validation.{flags_fault, lists_fault, emphasis_fault, tokens_fault, scripts_fault, size_fault, validation}
use Rattle.std.specs.Str.{chars, trim_start}
use Rattle.std.specs.Fmt.{digits}
use Rattle.ucd_table.specs.Rows.{value_in}
use Rattle.ucd_case.specs.FullFoldingRows.{full_folding_rows}
use Rattle.ucd_case.specs.CaseFolding.{full_folding}
use Rattle.caseless.specs.Caseless.{default_case_fold}
use Rattle.tocmark_write_texts.specs.Characters.{is_alphanumeric}
use Rattle.tocmark_write_texts.specs.Escape.{coded, reference, ends_line, is_marker, doubles_backslash, opens_label, is_read_as_marker, needs_backslash, with_backslash, written, escaped}
use Rattle.tocmark_write_texts.specs.Destination.{destination, title}
use Rattle.tocmark_write_texts.specs.Leaves.{padding, span, code_span}
use Rattle.tocmark_spelling.specs.ById.{by_id}
use Rattle.tocmark_spelling.specs.Edges.{is_boundary}
use Rattle.tocmark_spelling.specs.Runs.{prefers_underscore}
use Rattle.tocmark_spelling.specs.Marker.{marker}
use Rattle.tocmark_spelling.specs.Opening.{opening}
use Rattle.tocmark_spelling.specs.Closing.{closing}
use Rattle.tocmark_spelling.specs.Stretch.{leaf_on}
use Rattle.tocmark_spelling.specs.Spelling.{is_misplaced, spelling}
use Rattle.tocmark_write_labels.specs.Definitions.{definitions_text}
use Rattle.tocmark_choose.specs.Candidates.{candidates}
use Rattle.tocmark_choose.specs.ReadsBack.{reads_back}
use Rattle.tocmark_write_pending.specs.Placeholder.{needs_placeholder}
use Rattle.tocmark_write_labels.specs.Reserved.{reserved_label}
use Rattle.tocmark_choose.specs.Choice.{spelled, first_that_reads_back, document_after, choice}
use Rattle.tocmark_write_pending.specs.Units.{trees_of, waits}
use Rattle.tocmark_choose.specs.Chosen.{chosen}
use Rattle.tocmark_state.specs.Walk.{joins, flushed, flushed_before, advance, step, ended}
use Rattle.test_definitions.specs.Answers.{AreAnswered, AreAnsweredBehind}
use Rattle.test_definitions.specs.Behind.{calls_behind}
use Rattle.test_definitions.specs.Events.{calls}

pub calls-answered : AreAnswered calls
unfolding chars trim_start digits default_case_fold is_alphanumeric coded reference ends_line is_marker doubles_backslash opens_label is_read_as_marker needs_backslash with_backslash written escaped destination title padding span code_span by_id is_boundary prefers_underscore marker opening closing leaf_on is_misplaced spelling definitions_text candidates reads_back needs_placeholder reserved_label spelled first_that_reads_back document_after choice full_folding full_folding_rows value_in flags_fault lists_fault emphasis_fault tokens_fault scripts_fault size_fault validation lib.Utf8.encode trees_of chosen waits joins flushed flushed_before advance step ended AreAnswered
calls-answered = (refl, refl, (refl, refl, (refl, refl, (refl, refl, (refl, refl, (refl, refl, (refl, refl, (refl, refl, (refl, refl, (refl, refl, (refl, refl, (refl, refl, (refl, refl, (refl, refl, (refl, refl, (refl, refl, (refl, refl, (refl, refl, (refl, refl, (refl, refl, (refl, refl, (refl, refl, (refl, refl, (refl, refl, (refl, refl, (refl, refl, (refl, refl, (refl, refl, (refl, refl, (refl, refl, (refl, refl, (refl, refl, (refl, refl, (refl, refl, (refl, refl, (refl, refl, (refl, refl, tt)))))))))))))))))))))))))))))))))))))

pub behind-answered : AreAnsweredBehind calls_behind
unfolding chars trim_start digits default_case_fold is_alphanumeric coded reference ends_line is_marker doubles_backslash opens_label is_read_as_marker needs_backslash with_backslash written escaped destination title padding span code_span by_id is_boundary prefers_underscore marker opening closing leaf_on is_misplaced spelling definitions_text candidates reads_back needs_placeholder reserved_label spelled first_that_reads_back document_after choice full_folding full_folding_rows value_in flags_fault lists_fault emphasis_fault tokens_fault scripts_fault size_fault validation lib.Utf8.encode trees_of chosen waits joins flushed flushed_before advance step ended AreAnsweredBehind
behind-answered = (refl, (refl, (refl, (refl, (refl, (refl, tt))))))

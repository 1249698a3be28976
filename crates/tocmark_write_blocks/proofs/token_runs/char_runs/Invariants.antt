use Rattle.std.proofs.Common.{◌≡◌, chars, IsUtf8}
use Rattle.std.specs.Str.Iter.{chars_rest}
use Rattle.tocmark_write_blocks.specs.TokenRuns.{joined_runs, runs_in}
use Rattle.tocmark_write_blocks.proofs.RunLemmas.{IsSound}
use Rattle.tocmark_write_blocks.proofs.token_runs.char_runs.Given as goal

abbrev pub invariant-loop-c : goal.invariant-loop-c
invariant-loop-c l = record {
  is_text : IsUtf8 (chars_rest l.c-iterator);
  sound : IsSound l.runs;
  same : joined_runs l.runs (runs_in l.token (chars (chars_rest l.c-iterator))) ≡ runs_in l.token (chars l.text);
}

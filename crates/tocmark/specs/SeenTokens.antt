-- What the runs that were seen come to, once more follows.
use Rattle.std.specs.Prelude.{ℕ, ◌+◌, max, List}
use Rattle.tocmark_event.specs.View.{EventView}
use Rattle.tocmark_write_texts.specs.Leaves.{run_length, longest_run}
use Rattle.tocmark.specs.TokenCount.{code_in}
use Rattle.tocmark_state.specs.WorkView.{at_most}
use Rattle.tocmark.specs.declared.token_count.Runs.{Runs}
use Rattle.tocmark.specs.declared.token_count.Seen.{Seen}

-- the longest run of a token, once this text follows
abbrev pub onward : ℕ → Runs → List ℕ → ℕ
onward token runs text = at_most (max runs.longest (max (runs.last + run_length token text) (longest_run token text)))

-- the longest run of backticks or of `~`, once this text follows
abbrev pub with_text : Seen → List ℕ → ℕ
with_text seen text = max (onward 96 seen.backticks text) (onward 126 seen.tildes text)

-- the longest run of backticks or of `~`, once these events follow
abbrev pub with_events : Seen → List EventView → ℕ
with_events seen es = with_text seen (code_in seen.in_code es)

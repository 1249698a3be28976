-- Where no extension has a say in what a line begins, it begins what CommonMark has there.
use Rattle.std.proofs.Common.{◌≡◌, ℕ, Bool, true, false, ◌||◌, List, refl, true≢false}
use Rattle.tocmark_read_lines.specs.declared.cell.Cell.{Cell}
use Rattle.tocmark_read_lines.specs.declared.line.Line.{Line}
use Rattle.tocmark_read_page.specs.declared.line_start.Known.{Known}
use Rattle.tocmark_read_blocks.specs.declared.leaf.LeafStart.{LeafStart}
use Rattle.tocmark_read_page.specs.declared.line_start.LineStart.{LineStart}
use Rattle.tocmark_read_page.specs.Pages.{State}
use Rattle.tocmark_read_blocks.specs.Blocks.{extends_starts, start_or}
use Rattle.tocmark_read_blocks.specs.Leaves.{task_or, metadata_or, quote_kind_or, tag_or}
use Rattle.tocmark_read_constructs.specs.Tasks.{task_in}
use Rattle.tocmark_read_constructs.specs.Metadata.{metadata_in}
use Rattle.tocmark_read_constructs.specs.Quotes.{quote_kind_in, tag_in}

-- of a sum that is false both parts are
first_false : (a b : Bool) → a || b ≡ false → a ≡ false
first_false false b h = refl
first_false true b h = h

second_false : (a b : Bool) → a || b ≡ false → b ≡ false
second_false false b h = h
second_false true b h = absurd (true≢false h)

pub starts_as_core : (known : Known) (text : List ℕ) (cells : List Cell) (line : Line) (place : LineStart) (directly : Bool) (s : State) (core : LeafStart) → extends_starts known.syntax ≡ false → core ≡ start_or known text cells line place directly s core
unfolding extends_starts task_or task_in metadata_or metadata_in quote_kind_or quote_kind_in tag_or tag_in
starts_as_core known text cells line place directly s core h =
    let three : known.syntax.task_lists || known.syntax.yaml_metadata || known.syntax.pluses_metadata ≡ false = first_false (known.syntax.task_lists || known.syntax.yaml_metadata || known.syntax.pluses_metadata) known.syntax.quote_kinds h in
    let kinds : known.syntax.quote_kinds ≡ false = second_false (known.syntax.task_lists || known.syntax.yaml_metadata || known.syntax.pluses_metadata) known.syntax.quote_kinds h in
    let two : known.syntax.task_lists || known.syntax.yaml_metadata ≡ false = first_false (known.syntax.task_lists || known.syntax.yaml_metadata) known.syntax.pluses_metadata three in
    let tasks : known.syntax.task_lists ≡ false = first_false known.syntax.task_lists known.syntax.yaml_metadata two in
    let yaml : known.syntax.yaml_metadata ≡ false = second_false known.syntax.task_lists known.syntax.yaml_metadata two in
    let pluses : known.syntax.pluses_metadata ≡ false = second_false (known.syntax.task_lists || known.syntax.yaml_metadata) known.syntax.pluses_metadata three in
    rw (kinds, tasks, yaml, pluses) refl

-- Runs of delimiters (CommonMark 6.2).
use Rattle.std.specs.Prelude.{ℕ, Bool, true, false, not, ◌-◌, ◌==◌, ◌&&◌, ◌||◌, nat_lt, List}
use Rattle.tocmark_read_scan.specs.Basic.{byte_at}
use Rattle.tocmark_read_scan.specs.Class.{run_end}
use Rattle.tocmark_read_scan.specs.Side.{side_at, side_before}
use Rattle.tocmark_read_scan.specs.declared.class.Class.TheVariants.{Only}
use Rattle.tocmark_read_scan.specs.declared.side.Side.{Side}
use Rattle.tocmark_read_scan.specs.declared.side.Side.TheVariants.{Space, Punctuation, Other}
use Rattle.tocmark_read_scan.specs.declared.syntax.Syntax.{Syntax}
use Rattle.tocmark_read_spans.specs.declared.run.Run.{Run}

-- white space
unfoldable pub is_space : Side → Bool
is_space Space = true
is_space Punctuation = false
is_space Other = false

-- punctuation
unfoldable pub is_punctuation : Side → Bool
is_punctuation Space = false
is_punctuation Punctuation = true
is_punctuation Other = false

-- left-flanking with what follows inside, right-flanking with what precedes inside
unfoldable pub flanks : Side → Side → Bool
flanks inner outer = not (is_space inner) && (not (is_punctuation inner) || (is_space outer || is_punctuation outer))

-- a run opens (what follows inside) or closes (what precedes inside); _ not within a word
unfoldable pub acts : ℕ → Side → Side → Bool
acts byte inner outer = flanks inner outer && ((byte == 42) || not (flanks outer inner) || is_punctuation outer)

-- the run between two places
unfoldable pub run_between : List ℕ → ℕ → ℕ → ℕ → Run
run_between bytes place end byte = record {
  place = place;
  count = end - place;
  length = end - place;
  byte = byte;
  opens = acts byte (side_at bytes end) (side_before bytes place);
  closes = acts byte (side_before bytes place) (side_at bytes end);
  subscript = false;
}

-- the run of a byte that begins at a place
unfoldable pub run_at : List ℕ → ℕ → ℕ → Run
run_at bytes place byte = run_between bytes place (run_end bytes place (Only byte)) byte

-- one or two tildes open before what is no white space; a single one not within a word
unfoldable pub tildes_open : ℕ → Side → Side → Bool
tildes_open count before after =
    not (is_space after) && ((count == 2) || ((count == 1) && (is_space before || is_punctuation before)))

-- they close after what is no white space: before white space or punctuation, two after no punctuation, or after a tilde
unfoldable pub tildes_close : ℕ → Bool → Side → Side → Bool
tildes_close count behind_tilde before after =
    ((count == 1) || (count == 2)) && not (is_space before)
    && (is_space after || is_punctuation after || ((count == 2) && not (is_punctuation before)) || behind_tilde)

-- so many tildes are delimiters: two only where strikethrough is read
unfoldable pub are_read : Syntax → ℕ → Bool
are_read syntax count = syntax.strikethrough || (count == 1)

-- a single tilde is a subscript where those are read
unfoldable pub is_subscript : Syntax → ℕ → Bool
is_subscript syntax count = syntax.subscript && (count == 1)

-- the run of tildes between two places
unfoldable pub tildes_between : Syntax → List ℕ → ℕ → ℕ → Run
tildes_between syntax bytes place end = record {
  place = place;
  count = end - place;
  length = end - place;
  byte = 126;
  opens = are_read syntax (end - place) && tildes_open (end - place) (side_before bytes place) (side_at bytes end);
  closes = are_read syntax (end - place) && tildes_close (end - place) (nat_lt 0 place && (byte_at bytes (place - 1) == 126)) (side_before bytes place) (side_at bytes end);
  subscript = is_subscript syntax (end - place);
}

-- the run of tildes that begins at a place
unfoldable pub tildes_at : Syntax → List ℕ → ℕ → Run
tildes_at syntax bytes place = tildes_between syntax bytes place (run_end bytes place (Only 126))

-- What is after the text of a link or an image (CommonMark 6.3 and 6.4).
use Rattle.std.specs.Prelude.{ℕ, Bool, not, ◌==◌, ◌&&◌, ◌||◌, if◌then◌else◌, List, codes, Option, Some, None}
use Rattle.tocmark_read_scan.specs.Basic.{plus, byte_at, starts_at}
use Rattle.tocmark_read_scan.specs.Class.{run_end}
use Rattle.tocmark_read_tokens.specs.Word.{word, destination, title, label, label_from}
use Rattle.tocmark_read_scan.specs.declared.class.Class.TheVariants.{White}
use Rattle.tocmark_read_tokens.specs.declared.word.Word.{Word}
use Rattle.tocmark_event.specs.declared.event.LinkType.TheVariants.{Reference, Collapsed, Shortcut}
use Rattle.tocmark_read_spans.specs.declared.link.Bracket.{Bracket}
use Rattle.tocmark_read_spans.specs.declared.link.InlineTarget.{InlineTarget}
use Rattle.tocmark_read_spans.specs.declared.link.Asked.{Asked}

-- a quote or an opening parenthesis
unfoldable pub begins_title : ℕ → Bool
begins_title b = (b == 34) || (b == 39) || (b == 40)

-- the title after white space, or an empty one where none begins
unfoldable pub inline_title : List ℕ → ℕ → Option Word
inline_title bytes place =
    let start = run_end bytes place White in
    if not (start == place) && begins_title (byte_at bytes start) then title bytes start else Some (word place place place)

-- the place after the closing parenthesis
unfoldable pub inline_end : List ℕ → ℕ → Option ℕ
inline_end bytes place =
    let end = run_end bytes place White in
    if byte_at bytes end == 41 then Some (plus end 1) else None

-- a target that a parenthesis closes
abbrev pub target_ended : Word → Word → Option ℕ → Option InlineTarget
target_ended d t None = None
target_ended d t (Some end) = Some (record { destination = d; title = t; end = end })

-- a target of a destination and a title
abbrev pub target_titled : List ℕ → Word → Option Word → Option InlineTarget
target_titled bytes d None = None
target_titled bytes d (Some t) = target_ended d t (inline_end bytes t.next)

-- a target of a destination
abbrev pub target_with : List ℕ → Option Word → Option InlineTarget
target_with bytes None = None
target_with bytes (Some d) = target_titled bytes d (inline_title bytes d.next)

-- a target from its destination on
unfoldable pub target_from : List ℕ → ℕ → Option InlineTarget
target_from bytes place = target_with bytes (destination bytes place)

-- a destination and a title in parentheses
unfoldable pub inline_target : List ℕ → ℕ → Option InlineTarget
inline_target bytes place =
    if byte_at bytes place == 40 then target_from bytes (run_end bytes (plus place 1) White) else None

-- a label that ends at this place
abbrev pub ending_at : ℕ → Option Word → Option Word
ending_at place None = None
ending_at place (Some w) = if w.end == place then Some w else None

-- the bracket's own text, if it can be a label
unfoldable pub own_label : List ℕ → Bracket → ℕ → Option Word
own_label bytes bracket place = if bracket.nested then None else ending_at place (label_from bytes bracket.inner)

-- the bracket's own text in a collapsed or a shortcut link
abbrev pub own_from : List ℕ → ℕ → Option Word → Option Asked
own_from bytes place None = None
own_from bytes place (Some l) =
    if starts_at bytes (plus place 1) (codes "[]")
    then Some (record { link_type = Collapsed; label = l; end = plus place 3 })
    else Some (record { link_type = Shortcut; label = l; end = plus place 1 })

-- the bracket's own text is to be looked up
unfoldable pub own_asked : List ℕ → Bracket → ℕ → Option Asked
own_asked bytes bracket place = own_from bytes place (own_label bytes bracket place)

-- the label after the bracket is to be looked up, else the bracket's own text
abbrev pub asked_or : List ℕ → Bracket → ℕ → Option Word → Option Asked
asked_or bytes bracket place None = own_asked bytes bracket place
asked_or bytes bracket place (Some l) = Some (record { link_type = Reference; label = l; end = l.next })

-- the label after the bracket that closes, else the bracket's own text
unfoldable pub label_asked : List ℕ → Bracket → ℕ → Option Asked
label_asked bytes bracket place = asked_or bytes bracket place (label bytes (plus place 1))

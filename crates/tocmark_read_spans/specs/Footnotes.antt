-- References to footnotes.
use Rattle.std.specs.Prelude.{ℕ, ◌-◌, List, ◌∷◌, Option, Some, None}
use Rattle.std.specs.Option.{option_map}
use Rattle.tocmark_read_scan.specs.Basic.{plus}
use Rattle.tocmark_read_tokens.specs.Label.{key_of}
use Rattle.tocmark_read_tokens.specs.Footnotes.{note_label}
use Rattle.tocmark_read_tokens.specs.Word.{label}
use Rattle.tocmark_read_tokens.specs.declared.word.Word.{Word}
use Rattle.tocmark_event.specs.declared.event.LinkType.TheVariants.{Reference}
use Rattle.tocmark_read_spans.specs.Link.{own_label, own_asked}
use Rattle.tocmark_read_spans.specs.declared.link.Bracket.{Bracket}
use Rattle.tocmark_read_spans.specs.declared.link.Asked.{Asked}
use Rattle.tocmark_read_spans.specs.declared.footnote.Sought.{Sought}
use Rattle.tocmark_read_spans.specs.declared.footnote.Sought.TheVariants.{Label, Footnote}

-- the key of a footnote's name: a bracket, with which no label's key begins, and the key that a label would have
unfoldable pub note_key : List ℕ → List ℕ
note_key name = 91 ∷ key_of name

-- a label, unless there is a footnote's name
abbrev pub but_note : Option Word → Option Word → Option Word
but_note None other = other
but_note (Some name) other = None

-- the label at a place, if it is none of a footnote
unfoldable pub label_but_note : List ℕ → ℕ → Option Word
label_but_note bytes place = but_note (note_label bytes place) (label bytes place)

-- the footnote's name in a label
abbrev pub note_in : List ℕ → Bracket → Option Word → Option Word
note_in bytes bracket None = None
note_in bytes bracket (Some w) = note_label bytes (bracket.inner - 1)

-- the footnote's name where the bracket's own text is its label
unfoldable pub own_note : List ℕ → Bracket → ℕ → Option Word
own_note bytes bracket place = note_in bytes bracket (own_label bytes bracket place)

-- a footnote's name, or else a label
abbrev pub note_or_label : Option Word → Option Asked → Option Sought
note_or_label None other = option_map (λ a. Label a) other
note_or_label (Some name) other = Some (Footnote name)

-- the bracket's own text is to be looked up
unfoldable pub own_sought : List ℕ → Bracket → ℕ → Option Sought
own_sought bytes bracket place = note_or_label (own_note bytes bracket place) (own_asked bytes bracket place)

-- the label after the bracket is to be looked up, else the bracket's own text
abbrev pub sought_or : List ℕ → Bracket → ℕ → Option Word → Option Sought
sought_or bytes bracket place None = own_sought bytes bracket place
sought_or bytes bracket place (Some l) = Some (Label (record { link_type = Reference; label = l; end = l.next }))

-- what is looked up for a bracket that closes: a footnote's label after it is none of a link
unfoldable pub label_sought : List ℕ → Bracket → ℕ → Option Sought
label_sought bytes bracket place = sought_or bytes bracket place (label_but_note bytes (plus place 1))

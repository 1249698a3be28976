-- The text of a `CowStr`, lent or owned, as its bytes.
use Rattle.std.specs.Prelude.{ℕ, List}
use Rattle.std.specs.Cow.{cow_str_bytes}
use Rattle.std.specs.Global.{Global}
use Rattle.std.specs.declared.borrow.CowStr.{CowStr}
use Rattle.tocmark_event.specs.declared.event.EventOf.{EventOf}

-- an event whose texts are lent or owned
abbrev pub ParserEvent : Type 0
ParserEvent = EventOf (CowStr Global)

-- the bytes of a text, lent or owned
abbrev pub text_of : CowStr Global → List ℕ
text_of text = cow_str_bytes text

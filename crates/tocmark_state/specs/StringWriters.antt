-- What a writer that keeps its texts in a string holds, takes and refuses.
use Rattle.std.specs.Prelude.{◌≡◌, ℕ, ◌+◌, ◌<◌, List, ◌++◌, length, string_bytes}
use Rattle.std.specs.Prelude.{string_capacity, string_len}
use Rattle.tocmark_state.specs.declared.string_writer.StringWriter.{StringWriter}

-- the bytes that it holds
abbrev pub held : StringWriter → List ℕ
held w = string_bytes w.text

-- a text that it took is after what it held
abbrev pub Has : StringWriter → List ℕ → StringWriter → Type 0
Has before text after = held after ≡ held before ++ text

-- a text for which it had no room, and found no memory, changed nothing
pub record HasNoRoomFor (before : StringWriter) (text : List ℕ) (after : StringWriter) : Type 0 where
  pub stays : held after ≡ held before
  pub full : string_capacity before.text < string_len before.text + length text

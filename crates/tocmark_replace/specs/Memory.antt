-- What is in a file in memory.
use Rattle.std.specs.Prelude.{ℕ, List}
use Rattle.tocmark_replace.specs.declared.memory.MemoryFile.{MemoryFile}
use Rattle.tocmark_replace.specs.Texts.{text_after}

-- what its steps say
abbrev pub memory_text : MemoryFile → List ℕ
memory_text file = text_after file.first.items file.log.steps

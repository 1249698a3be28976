-- Without extensions texts are read as the core reader reads them.
use Rattle.std.proofs.Common.{◌≡◌, ℕ, List, refl, ap, ◌∙◌}
use Rattle.tocmark_event.specs.Reading.{ReadingView}
use Rattle.tocmark_read_scan.specs.declared.syntax.Syntax.{Syntax}
use Rattle.tocmark_read_scan.specs.declared.syntax.TheConstants.{CORE}
use Rattle.tocmark_read_scan.specs.declared.syntax.Names.TheVariants.{Four}
use Rattle.tocmark_reader.specs.Reading.{core_reading, reading_of}
use Rattle.tocmark_reader.specs.Flags.{syntax_of}

pub read_as_core : (syntax : Syntax) (text : List ℕ) (v : ReadingView) → syntax ≡ CORE → v ≡ reading_of syntax text → v ≡ core_reading text
read_as_core syntax text v e h = h ∙ ap (λ s. reading_of s text) e

-- no flags name no extension, and four names are those of the core reader
pub no_flags : syntax_of Four (record { 0 = 0 }) ≡ CORE
unfolding syntax_of
no_flags = refl

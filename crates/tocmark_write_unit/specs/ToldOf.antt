-- What an opening is told, as far as it asks.
use Rattle.std.specs.Prelude.{◌≡◌}
use Rattle.tocmark_event.specs.Options.{OptionsView}
use Rattle.tocmark_event.specs.View.{TagView, Heading, ListOf, Item, DefinitionListDefinition}
use Rattle.tocmark_spelling.specs.Buffered.{following_view}
use Rattle.tocmark_spelling.specs.Look.{Look}
use Rattle.tocmark_write_blocks.specs.AheadOf.{IsTextAhead}
use Rattle.tocmark_write_blocks.specs.declared.ahead.Ahead.{Ahead}
use Rattle.tocmark_write_pending.specs.BodyFacts.{IsForeseen}
use Rattle.tocmark_write_pending.specs.declared.body_facts.BodyFacts.{BodyFacts}

-- what is told of the body of a container with this tag; nothing where its opening doesn't ask what it is like
abbrev pub IsBodyAhead : TagView → Look → BodyFacts → Type 0
IsBodyAhead (Heading level id classes attrs) l x = IsForeseen l x
IsBodyAhead (ListOf number) l x = IsForeseen l x
IsBodyAhead Item l x = IsForeseen l x
IsBodyAhead DefinitionListDefinition l x = IsForeseen l x
IsBodyAhead t l x = Unit {0}

-- what is told is what the look says
pub record IsTold (o : OptionsView) (t : TagView) (l : Look) (a : Ahead) : Type 0 where
  pub body : IsBodyAhead t l a.body
  pub next : l.next ≡ following_view a.next
  pub text : IsTextAhead o t l a

-- What a text comes to with each heading one level down.
use Rattle.std.specs.Prelude.{◌≡◌, List, ℕ, [], map, Ok}
use Rattle.std.specs.List.{concat}
use Rattle.tocmark_event.specs.Options.{default_options}
use Rattle.tocmark_event.specs.View.{EventView, Start, End, Heading}
use Rattle.tocmark_event.specs.declared.event.HeadingLevel.{HeadingLevel}
use Rattle.tocmark_event.specs.declared.event.HeadingLevel.TheVariants.{H1, H2, H3, H4, H5, H6}
use Rattle.tocmark_event.specs.declared.event.TagEnd.TheVariants as end
use Rattle.tocmark_reader.specs.Reading.{core_reading}
use Rattle.tocmark_state.specs.Ranges.{unranged}
use Rattle.tocmark_state.specs.WorkView.{rendering}
use Rattle.tocmark_state.specs.Walk.{Walk, Done, done, nothing_yet, script}

-- the level below; there is none below the sixth
abbrev pub below : HeadingLevel → HeadingLevel
below H1 = H2
below H2 = H3
below H3 = H4
below H4 = H5
below H5 = H6
below H6 = H6

-- an event, one level down if it begins or ends a heading
abbrev pub lowered : EventView → EventView
lowered (Start (Heading level id classes attrs)) = Start (Heading (below level) id classes attrs)
lowered (End (end.Heading level)) = End (end.Heading (below level))
lowered e = e

-- the texts that the events of a text come to, each heading one level down
abbrev pub lowering : List ℕ → Walk Done
lowering text =
    script (rendering default_options (λ t flags. core_reading t)) [] (nothing_yet (record { 0 = 0 }))
    (map (λ e. unranged (lowered e.0)) (core_reading text).events)

-- the output is those texts, joined
pub record IsLowered (text output : List ℕ) : Type 0 where
  pub ends_well : (lowering text).outcome ≡ Ok done
  pub joined : output ≡ concat (lowering text).texts

-- Examples of the standard: emphasis and strong emphasis, part 1.
use Rattle.std.specs.Prelude.{List, [], ◌∷◌, codes, encode_utf8_all}
use Rattle.tocmark_event.specs.declared.event.TagEnd.TheVariants as end
use Rattle.tocmark_event.specs.View.{Paragraph, Emphasis, Start, End, Leaf, Text, SoftBreak}
use Rattle.tocmark_commonmark.specs.StandardExamples.{EventRow, event_row}

-- Emphasis and strong emphasis
abbrev pub example_350 : EventRow
example_350 = event_row (codes "*foo bar*\n")
    (Start Paragraph ∷ Start Emphasis ∷ Leaf (Text (codes "foo bar")) ∷ End end.Emphasis ∷ End end.Paragraph ∷ [])

-- Emphasis and strong emphasis
abbrev pub example_351 : EventRow
example_351 = event_row (codes "a * foo bar*\n")
    (Start Paragraph ∷ Leaf (Text (codes "a * foo bar*")) ∷ End end.Paragraph ∷ [])

-- Emphasis and strong emphasis
abbrev pub example_352 : EventRow
example_352 = event_row (codes "a*\"foo\"*\n")
    (Start Paragraph ∷ Leaf (Text (codes "a*\"foo\"*")) ∷ End end.Paragraph ∷ [])

-- Emphasis and strong emphasis
abbrev pub example_353 : EventRow
example_353 = event_row (encode_utf8_all (codes "*\u{a0}a\u{a0}*\n"))
    (Start Paragraph ∷ Leaf (Text (encode_utf8_all (codes "*\u{a0}a\u{a0}*"))) ∷ End end.Paragraph ∷ [])

-- Emphasis and strong emphasis
abbrev pub example_354 : EventRow
example_354 = event_row (encode_utf8_all (codes "*$*alpha.\n\n*£*bravo.\n\n*€*charlie.\n"))
    (Start Paragraph ∷ Leaf (Text (codes "*$*alpha.")) ∷ End end.Paragraph ∷ Start Paragraph ∷ Leaf (Text (encode_utf8_all (codes "*£*bravo."))) ∷ End end.Paragraph ∷ Start Paragraph ∷ Leaf (Text (encode_utf8_all (codes "*€*charlie."))) ∷ End end.Paragraph ∷ [])

-- Emphasis and strong emphasis
abbrev pub example_355 : EventRow
example_355 = event_row (codes "foo*bar*\n")
    (Start Paragraph ∷ Leaf (Text (codes "foo")) ∷ Start Emphasis ∷ Leaf (Text (codes "bar")) ∷ End end.Emphasis ∷ End end.Paragraph ∷ [])

-- Emphasis and strong emphasis
abbrev pub example_356 : EventRow
example_356 = event_row (codes "5*6*78\n")
    (Start Paragraph ∷ Leaf (Text (codes "5")) ∷ Start Emphasis ∷ Leaf (Text (codes "6")) ∷ End end.Emphasis ∷ Leaf (Text (codes "78")) ∷ End end.Paragraph ∷ [])

-- Emphasis and strong emphasis
abbrev pub example_357 : EventRow
example_357 = event_row (codes "_foo bar_\n")
    (Start Paragraph ∷ Start Emphasis ∷ Leaf (Text (codes "foo bar")) ∷ End end.Emphasis ∷ End end.Paragraph ∷ [])

-- Emphasis and strong emphasis
abbrev pub example_358 : EventRow
example_358 = event_row (codes "_ foo bar_\n")
    (Start Paragraph ∷ Leaf (Text (codes "_ foo bar_")) ∷ End end.Paragraph ∷ [])

-- Emphasis and strong emphasis
abbrev pub example_359 : EventRow
example_359 = event_row (codes "a_\"foo\"_\n")
    (Start Paragraph ∷ Leaf (Text (codes "a_\"foo\"_")) ∷ End end.Paragraph ∷ [])

-- Emphasis and strong emphasis
abbrev pub example_360 : EventRow
example_360 = event_row (codes "foo_bar_\n")
    (Start Paragraph ∷ Leaf (Text (codes "foo_bar_")) ∷ End end.Paragraph ∷ [])

-- Emphasis and strong emphasis
abbrev pub example_361 : EventRow
example_361 = event_row (codes "5_6_78\n")
    (Start Paragraph ∷ Leaf (Text (codes "5_6_78")) ∷ End end.Paragraph ∷ [])

-- Emphasis and strong emphasis
abbrev pub example_362 : EventRow
example_362 = event_row (encode_utf8_all (codes "пристаням_стремятся_\n"))
    (Start Paragraph ∷ Leaf (Text (encode_utf8_all (codes "пристаням_стремятся_"))) ∷ End end.Paragraph ∷ [])

-- Emphasis and strong emphasis
abbrev pub example_363 : EventRow
example_363 = event_row (codes "aa_\"bb\"_cc\n")
    (Start Paragraph ∷ Leaf (Text (codes "aa_\"bb\"_cc")) ∷ End end.Paragraph ∷ [])

-- Emphasis and strong emphasis
abbrev pub example_364 : EventRow
example_364 = event_row (codes "foo-_(bar)_\n")
    (Start Paragraph ∷ Leaf (Text (codes "foo-")) ∷ Start Emphasis ∷ Leaf (Text (codes "(bar)")) ∷ End end.Emphasis ∷ End end.Paragraph ∷ [])

-- Emphasis and strong emphasis
abbrev pub example_365 : EventRow
example_365 = event_row (codes "_foo*\n")
    (Start Paragraph ∷ Leaf (Text (codes "_foo*")) ∷ End end.Paragraph ∷ [])

-- Emphasis and strong emphasis
abbrev pub example_366 : EventRow
example_366 = event_row (codes "*foo bar *\n")
    (Start Paragraph ∷ Leaf (Text (codes "*foo bar *")) ∷ End end.Paragraph ∷ [])

-- Emphasis and strong emphasis
abbrev pub example_367 : EventRow
example_367 = event_row (codes "*foo bar\n*\n")
    (Start Paragraph ∷ Leaf (Text (codes "*foo bar")) ∷ Leaf SoftBreak ∷ Leaf (Text (codes "*")) ∷ End end.Paragraph ∷ [])

-- Emphasis and strong emphasis
abbrev pub example_368 : EventRow
example_368 = event_row (codes "*(*foo)\n")
    (Start Paragraph ∷ Leaf (Text (codes "*(*foo)")) ∷ End end.Paragraph ∷ [])

-- Emphasis and strong emphasis
abbrev pub example_369 : EventRow
example_369 = event_row (codes "*(*foo*)*\n")
    (Start Paragraph ∷ Start Emphasis ∷ Leaf (Text (codes "(")) ∷ Start Emphasis ∷ Leaf (Text (codes "foo")) ∷ End end.Emphasis ∷ Leaf (Text (codes ")")) ∷ End end.Emphasis ∷ End end.Paragraph ∷ [])

-- Emphasis and strong emphasis
abbrev pub example_370 : EventRow
example_370 = event_row (codes "*foo*bar\n")
    (Start Paragraph ∷ Start Emphasis ∷ Leaf (Text (codes "foo")) ∷ End end.Emphasis ∷ Leaf (Text (codes "bar")) ∷ End end.Paragraph ∷ [])

-- Emphasis and strong emphasis
abbrev pub example_371 : EventRow
example_371 = event_row (codes "_foo bar _\n")
    (Start Paragraph ∷ Leaf (Text (codes "_foo bar _")) ∷ End end.Paragraph ∷ [])

-- Emphasis and strong emphasis
abbrev pub example_372 : EventRow
example_372 = event_row (codes "_(_foo)\n")
    (Start Paragraph ∷ Leaf (Text (codes "_(_foo)")) ∷ End end.Paragraph ∷ [])

-- Emphasis and strong emphasis
abbrev pub example_373 : EventRow
example_373 = event_row (codes "_(_foo_)_\n")
    (Start Paragraph ∷ Start Emphasis ∷ Leaf (Text (codes "(")) ∷ Start Emphasis ∷ Leaf (Text (codes "foo")) ∷ End end.Emphasis ∷ Leaf (Text (codes ")")) ∷ End end.Emphasis ∷ End end.Paragraph ∷ [])

-- Emphasis and strong emphasis
abbrev pub example_374 : EventRow
example_374 = event_row (codes "_foo_bar\n")
    (Start Paragraph ∷ Leaf (Text (codes "_foo_bar")) ∷ End end.Paragraph ∷ [])

-- Emphasis and strong emphasis
abbrev pub example_375 : EventRow
example_375 = event_row (encode_utf8_all (codes "_пристаням_стремятся\n"))
    (Start Paragraph ∷ Leaf (Text (encode_utf8_all (codes "_пристаням_стремятся"))) ∷ End end.Paragraph ∷ [])

-- Emphasis and strong emphasis
abbrev pub example_376 : EventRow
example_376 = event_row (codes "_foo_bar_baz_\n")
    (Start Paragraph ∷ Start Emphasis ∷ Leaf (Text (codes "foo_bar_baz")) ∷ End end.Emphasis ∷ End end.Paragraph ∷ [])

-- all of these
abbrev pub standard_emphasis_first : List EventRow
standard_emphasis_first = example_350 ∷ example_351 ∷ example_352 ∷ example_353 ∷ example_354 ∷ example_355 ∷ example_356 ∷ example_357 ∷ example_358 ∷ example_359 ∷ example_360 ∷ example_361 ∷ example_362 ∷ example_363 ∷ example_364 ∷ example_365 ∷ example_366 ∷ example_367 ∷ example_368 ∷ example_369 ∷ example_370 ∷ example_371 ∷ example_372 ∷ example_373 ∷ example_374 ∷ example_375 ∷ example_376 ∷ []

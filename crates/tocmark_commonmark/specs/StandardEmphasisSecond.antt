-- Examples of the standard: emphasis and strong emphasis, part 2.
use Rattle.std.specs.Prelude.{List, [], ◌∷◌, codes, encode_utf8_all}
use Rattle.tocmark_event.specs.declared.event.TagEnd.TheVariants as end
use Rattle.tocmark_event.specs.View.{Paragraph, Emphasis, Strong, Start, End, Leaf, Text, SoftBreak}
use Rattle.tocmark_commonmark.specs.StandardExamples.{EventRow, event_row}

-- Emphasis and strong emphasis
abbrev pub example_377 : EventRow
example_377 = event_row (codes "_(bar)_.\n")
    (Start Paragraph ∷ Start Emphasis ∷ Leaf (Text (codes "(bar)")) ∷ End end.Emphasis ∷ Leaf (Text (codes ".")) ∷ End end.Paragraph ∷ [])

-- Emphasis and strong emphasis
abbrev pub example_378 : EventRow
example_378 = event_row (codes "**foo bar**\n")
    (Start Paragraph ∷ Start Strong ∷ Leaf (Text (codes "foo bar")) ∷ End end.Strong ∷ End end.Paragraph ∷ [])

-- Emphasis and strong emphasis
abbrev pub example_379 : EventRow
example_379 = event_row (codes "** foo bar**\n")
    (Start Paragraph ∷ Leaf (Text (codes "** foo bar**")) ∷ End end.Paragraph ∷ [])

-- Emphasis and strong emphasis
abbrev pub example_380 : EventRow
example_380 = event_row (codes "a**\"foo\"**\n")
    (Start Paragraph ∷ Leaf (Text (codes "a**\"foo\"**")) ∷ End end.Paragraph ∷ [])

-- Emphasis and strong emphasis
abbrev pub example_381 : EventRow
example_381 = event_row (codes "foo**bar**\n")
    (Start Paragraph ∷ Leaf (Text (codes "foo")) ∷ Start Strong ∷ Leaf (Text (codes "bar")) ∷ End end.Strong ∷ End end.Paragraph ∷ [])

-- Emphasis and strong emphasis
abbrev pub example_382 : EventRow
example_382 = event_row (codes "__foo bar__\n")
    (Start Paragraph ∷ Start Strong ∷ Leaf (Text (codes "foo bar")) ∷ End end.Strong ∷ End end.Paragraph ∷ [])

-- Emphasis and strong emphasis
abbrev pub example_383 : EventRow
example_383 = event_row (codes "__ foo bar__\n")
    (Start Paragraph ∷ Leaf (Text (codes "__ foo bar__")) ∷ End end.Paragraph ∷ [])

-- Emphasis and strong emphasis
abbrev pub example_384 : EventRow
example_384 = event_row (codes "__\nfoo bar__\n")
    (Start Paragraph ∷ Leaf (Text (codes "__")) ∷ Leaf SoftBreak ∷ Leaf (Text (codes "foo bar__")) ∷ End end.Paragraph ∷ [])

-- Emphasis and strong emphasis
abbrev pub example_385 : EventRow
example_385 = event_row (codes "a__\"foo\"__\n")
    (Start Paragraph ∷ Leaf (Text (codes "a__\"foo\"__")) ∷ End end.Paragraph ∷ [])

-- Emphasis and strong emphasis
abbrev pub example_386 : EventRow
example_386 = event_row (codes "foo__bar__\n")
    (Start Paragraph ∷ Leaf (Text (codes "foo__bar__")) ∷ End end.Paragraph ∷ [])

-- Emphasis and strong emphasis
abbrev pub example_387 : EventRow
example_387 = event_row (codes "5__6__78\n")
    (Start Paragraph ∷ Leaf (Text (codes "5__6__78")) ∷ End end.Paragraph ∷ [])

-- Emphasis and strong emphasis
abbrev pub example_388 : EventRow
example_388 = event_row (encode_utf8_all (codes "пристаням__стремятся__\n"))
    (Start Paragraph ∷ Leaf (Text (encode_utf8_all (codes "пристаням__стремятся__"))) ∷ End end.Paragraph ∷ [])

-- Emphasis and strong emphasis
abbrev pub example_389 : EventRow
example_389 = event_row (codes "__foo, __bar__, baz__\n")
    (Start Paragraph ∷ Start Strong ∷ Leaf (Text (codes "foo, ")) ∷ Start Strong ∷ Leaf (Text (codes "bar")) ∷ End end.Strong ∷ Leaf (Text (codes ", baz")) ∷ End end.Strong ∷ End end.Paragraph ∷ [])

-- Emphasis and strong emphasis
abbrev pub example_390 : EventRow
example_390 = event_row (codes "foo-__(bar)__\n")
    (Start Paragraph ∷ Leaf (Text (codes "foo-")) ∷ Start Strong ∷ Leaf (Text (codes "(bar)")) ∷ End end.Strong ∷ End end.Paragraph ∷ [])

-- Emphasis and strong emphasis
abbrev pub example_391 : EventRow
example_391 = event_row (codes "**foo bar **\n")
    (Start Paragraph ∷ Leaf (Text (codes "**foo bar **")) ∷ End end.Paragraph ∷ [])

-- Emphasis and strong emphasis
abbrev pub example_392 : EventRow
example_392 = event_row (codes "**(**foo)\n")
    (Start Paragraph ∷ Leaf (Text (codes "**(**foo)")) ∷ End end.Paragraph ∷ [])

-- Emphasis and strong emphasis
abbrev pub example_393 : EventRow
example_393 = event_row (codes "*(**foo**)*\n")
    (Start Paragraph ∷ Start Emphasis ∷ Leaf (Text (codes "(")) ∷ Start Strong ∷ Leaf (Text (codes "foo")) ∷ End end.Strong ∷ Leaf (Text (codes ")")) ∷ End end.Emphasis ∷ End end.Paragraph ∷ [])

-- Emphasis and strong emphasis
abbrev pub example_394 : EventRow
example_394 = event_row (codes "**Gomphocarpus (*Gomphocarpus physocarpus*, syn.\n*Asclepias physocarpa*)**\n")
    (Start Paragraph ∷ Start Strong ∷ Leaf (Text (codes "Gomphocarpus (")) ∷ Start Emphasis ∷ Leaf (Text (codes "Gomphocarpus physocarpus")) ∷ End end.Emphasis ∷ Leaf (Text (codes ", syn.")) ∷ Leaf SoftBreak ∷ Start Emphasis ∷ Leaf (Text (codes "Asclepias physocarpa")) ∷ End end.Emphasis ∷ Leaf (Text (codes ")")) ∷ End end.Strong ∷ End end.Paragraph ∷ [])

-- Emphasis and strong emphasis
abbrev pub example_395 : EventRow
example_395 = event_row (codes "**foo \"*bar*\" foo**\n")
    (Start Paragraph ∷ Start Strong ∷ Leaf (Text (codes "foo \"")) ∷ Start Emphasis ∷ Leaf (Text (codes "bar")) ∷ End end.Emphasis ∷ Leaf (Text (codes "\" foo")) ∷ End end.Strong ∷ End end.Paragraph ∷ [])

-- Emphasis and strong emphasis
abbrev pub example_396 : EventRow
example_396 = event_row (codes "**foo**bar\n")
    (Start Paragraph ∷ Start Strong ∷ Leaf (Text (codes "foo")) ∷ End end.Strong ∷ Leaf (Text (codes "bar")) ∷ End end.Paragraph ∷ [])

-- Emphasis and strong emphasis
abbrev pub example_397 : EventRow
example_397 = event_row (codes "__foo bar __\n")
    (Start Paragraph ∷ Leaf (Text (codes "__foo bar __")) ∷ End end.Paragraph ∷ [])

-- Emphasis and strong emphasis
abbrev pub example_398 : EventRow
example_398 = event_row (codes "__(__foo)\n")
    (Start Paragraph ∷ Leaf (Text (codes "__(__foo)")) ∷ End end.Paragraph ∷ [])

-- Emphasis and strong emphasis
abbrev pub example_399 : EventRow
example_399 = event_row (codes "_(__foo__)_\n")
    (Start Paragraph ∷ Start Emphasis ∷ Leaf (Text (codes "(")) ∷ Start Strong ∷ Leaf (Text (codes "foo")) ∷ End end.Strong ∷ Leaf (Text (codes ")")) ∷ End end.Emphasis ∷ End end.Paragraph ∷ [])

-- Emphasis and strong emphasis
abbrev pub example_400 : EventRow
example_400 = event_row (codes "__foo__bar\n")
    (Start Paragraph ∷ Leaf (Text (codes "__foo__bar")) ∷ End end.Paragraph ∷ [])

-- Emphasis and strong emphasis
abbrev pub example_401 : EventRow
example_401 = event_row (encode_utf8_all (codes "__пристаням__стремятся\n"))
    (Start Paragraph ∷ Leaf (Text (encode_utf8_all (codes "__пристаням__стремятся"))) ∷ End end.Paragraph ∷ [])

-- Emphasis and strong emphasis
abbrev pub example_402 : EventRow
example_402 = event_row (codes "__foo__bar__baz__\n")
    (Start Paragraph ∷ Start Strong ∷ Leaf (Text (codes "foo__bar__baz")) ∷ End end.Strong ∷ End end.Paragraph ∷ [])

-- Emphasis and strong emphasis
abbrev pub example_403 : EventRow
example_403 = event_row (codes "__(bar)__.\n")
    (Start Paragraph ∷ Start Strong ∷ Leaf (Text (codes "(bar)")) ∷ End end.Strong ∷ Leaf (Text (codes ".")) ∷ End end.Paragraph ∷ [])

-- all of these
abbrev pub standard_emphasis_second : List EventRow
standard_emphasis_second = example_377 ∷ example_378 ∷ example_379 ∷ example_380 ∷ example_381 ∷ example_382 ∷ example_383 ∷ example_384 ∷ example_385 ∷ example_386 ∷ example_387 ∷ example_388 ∷ example_389 ∷ example_390 ∷ example_391 ∷ example_392 ∷ example_393 ∷ example_394 ∷ example_395 ∷ example_396 ∷ example_397 ∷ example_398 ∷ example_399 ∷ example_400 ∷ example_401 ∷ example_402 ∷ example_403 ∷ []

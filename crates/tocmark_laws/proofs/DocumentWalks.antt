-- What a document of paragraphs of lines, headings, thematic breaks and fenced code hands: a text for each block.
use Rattle.std.proofs.Common.{◌≡◌, ℕ, suc, ◌+◌, ◌<◌, max, true, false, if◌then◌else◌, List, [], ◌∷◌, ◌++◌, length, length-append, replicate, map, refl, ap, ◌∙◌, arith, append_assoc, eq-eqb, Option, Some, None, Result, Ok, Err}
use Rattle.std.specs.List.{AllByRecursion, concat}
use Rattle.tocmark_write_texts.specs.Escape.{escaped}
use Rattle.tocmark_event.specs.Ends.{same_end, end_code}
use Rattle.tocmark_event.specs.Forest.{flat, flat_onto}
use Rattle.tocmark_event.specs.Options.{OptionsView}
use Rattle.tocmark_event.specs.Reading.{ReadingView}
use Rattle.tocmark_event.specs.View.{EventView, Start, End, Leaf, Text, Rule, Paragraph, CodeBlock, Fenced, TagView, SourcedEvent, end_of}
use Rattle.tocmark_event.specs.declared.event.TagEnd.TheVariants as end
use Rattle.tocmark_event.specs.declared.event.flags.ParserOptions.{ParserOptions}
use Rattle.tocmark_event.specs.declared.options.Error.{Error}
use Rattle.tocmark_event.specs.declared.options.Error.TheVariants as error
use Rattle.tocmark_reader.specs.PlainTexts.{line_events}
use Rattle.tocmark_spelling.specs.Body.{Trees}
use Rattle.tocmark_spelling.specs.Plan.{Setting, Manner}
use Rattle.tocmark_spelling.specs.PlanOf.{setting_of}
use Rattle.tocmark_choose.specs.Candidates.{preferred_manner}
use Rattle.tocmark_choose.specs.Chosen.{chosen}
use Rattle.tocmark_write_labels.specs.Definitions.{definitions_text}
use Rattle.tocmark_write_labels.specs.Document.{DocumentView, first_document}
use Rattle.tocmark_write_labels.specs.Ending.{last_texts, holds_raw_block, unless_empty}
use Rattle.tocmark_write_pending.specs.Units.{waits}
use Rattle.tocmark_write_pending.proofs.Forests.{waits-flat}
use Rattle.tocmark_state.specs.Ranges.{Pair, unranged}
use Rattle.tocmark_state.specs.WorkView.{keeping, rendering}
use Rattle.tocmark_state.specs.Walk.{Walk, Done, done, Kept, Rendering, Standing, beginning, nothing_yet, go_on, stay, finished_of, flushed, flushed_before, flushed_or_deferred, flush_of, joins, advance, step, walk, script, ended, with_event}
use Rattle.tocmark_laws.specs.TextBlocks.{Kind, ParagraphKind, HeadingKind, HasText, tag_of, mark_of, block_text, feeds_behind, place_in}
use Rattle.tocmark_laws.proofs.BlockEscapes.{IsFilled, escaped_filled}
use Rattle.tocmark_laws.proofs.BlockSpelling.{LastEnd, NoEnd, TextEnd, CodeEnd, text_leaf, text_trees, unit, IsCalm, block_placed, block_chosen}
use Rattle.tocmark_laws.proofs.PlainSpelling.{break_leaf, line_trees, lines_text, AreLinesIn, written_some}
use Rattle.tocmark_laws.specs.Documents.{PlainBlock, PlainParagraph, PlainHeading, PlainRule, PlainCode, heading_block, plain_events, plain_document}
use Rattle.tocmark_laws.proofs.DocumentBlocks.{hyphens}
use Rattle.tocmark_laws.proofs.CodeBlocks as code
use Rattle.tocmark_laws.proofs.DocumentCode.{opener}
use Rattle.tocmark_laws.proofs.DocumentCodeSpelling.{line_texts, fence_rest, code_chosen}
use Rattle.tocmark_laws.proofs.DocumentRows.{Code, IsCode, code_joined, code_rest, row_bytes}
use Rattle.tocmark_laws.proofs.DocumentSpelling.{para, para_placed, para_chosen, rule_leaf, rule_unit, rule_placed, rule_chosen, IsHanded}

-- what the gap after a block asks of it
abbrev behind_of : PlainBlock → LastEnd
behind_of (PlainParagraph l ms) = TextEnd ParagraphKind
behind_of (PlainHeading level ts) = TextEnd (HeadingKind level)
behind_of PlainRule = NoEnd
behind_of (PlainCode info ls) = CodeEnd

-- how many line feeds are after a block
abbrev pub owed_behind : OptionsView → PlainBlock → ℕ
owed_behind o (PlainParagraph l ms) = feeds_behind o ParagraphKind
owed_behind o (PlainHeading level ts) = feeds_behind o (HeadingKind level)
owed_behind o PlainRule = max o.newlines_after_rule 1
owed_behind o (PlainCode info ls) = max o.newlines_after_codeblock 2

-- how many are before it where so many are owed: code begins on a line of its own
abbrev pub feeds_before : ℕ → PlainBlock → ℕ
feeds_before owed (PlainParagraph l ms) = owed
feeds_before owed (PlainHeading level ts) = owed
feeds_before owed PlainRule = owed
feeds_before owed (PlainCode info ls) = max owed 1

-- a block as a tree
abbrev tree : PlainBlock → Trees
tree (PlainParagraph l ms) = para l ms
tree (PlainHeading level ts) = unit (heading_block level ts)
tree PlainRule = rule_unit
tree (PlainCode info ls) = code.unit info (line_texts ls)

-- its first event, and those after it
abbrev first_of : PlainBlock → EventView
first_of (PlainParagraph l ms) = Start Paragraph
first_of (PlainHeading level ts) = Start (tag_of (HeadingKind level))
first_of PlainRule = Leaf Rule
first_of (PlainCode info ls) = Start (CodeBlock (Fenced info))

abbrev rest_of : PlainBlock → List EventView
rest_of (PlainParagraph l ms) = line_events l ms ++ End end.Paragraph ∷ []
rest_of (PlainHeading level ts) = map (λ t. Leaf (Text t)) ts ++ End (end_of (tag_of (HeadingKind level))) ∷ []
rest_of PlainRule = []
rest_of (PlainCode info ls) = map (λ l. Leaf (Text (l ++ 10 ∷ []))) ls ++ End end.CodeBlock ∷ []

abbrev inside : Kind → Kept → List SourcedEvent → Standing
inside kind kept p = record (beginning kept) { pending = p; open_tags = end_of (tag_of kind) ∷ [] }

abbrev behind : Kept → List SourcedEvent → Standing
behind kept p = record (beginning kept) { pending = p }

same_itself : (kind : Kind) → same_end (end_of (tag_of kind)) (end_of (tag_of kind)) ≡ true
same_itself kind = eq-eqb (end_code (end_of (tag_of kind))) (end_code (end_of (tag_of kind))) refl

abbrev followed : {S T : Type 0} → (S → Walk T) → Walk S → Walk T
followed f w = go_on w.texts w.outcome f

module _ (how : Rendering) (source : List ℕ) (kept : Kept) where
  -- a paragraph

  one_walked : (p : List SourcedEvent) (l : List ℕ) (q : List Pair) → walk how source (inside ParagraphKind kept p) (map unranged (line_events l [] ++ End end.Paragraph ∷ []) ++ q) ≡ walk how source (behind kept ((p ++ flat_onto (line_trees l []) []) ++ End end.Paragraph ∷ [])) q
  unfolding step advance flushed_before joins
  one_walked p l q = refl

  more_walked : (p : List SourcedEvent) (l n : List ℕ) (ms : List (List ℕ)) (q : List Pair) → walk how source (inside ParagraphKind kept p) (map unranged (line_events l (n ∷ ms) ++ End end.Paragraph ∷ []) ++ q) ≡ walk how source (inside ParagraphKind kept ((p ++ flat_onto (line_trees l []) []) ++ Leaf break_leaf ∷ [])) (map unranged (line_events n ms ++ End end.Paragraph ∷ []) ++ q)
  unfolding step advance flushed_before joins
  more_walked p l n ms q = refl

  lines_walked : (p : List SourcedEvent) (l : List ℕ) (ms : List (List ℕ)) (q : List Pair) → walk how source (inside ParagraphKind kept p) (map unranged (line_events l ms ++ End end.Paragraph ∷ []) ++ q) ≡ walk how source (behind kept (p ++ flat_onto (line_trees l ms) (End end.Paragraph ∷ []))) q
  lines_walked p l [] q = one_walked p l q ∙ ap (λ x. walk how source (behind kept x) q) (append_assoc p (flat_onto (line_trees l []) []) (End end.Paragraph ∷ []))
  lines_walked p l (n ∷ ms) q =
      let text : List SourcedEvent = flat_onto (line_trees l []) [] in
      let line_end : List SourcedEvent = Leaf break_leaf ∷ [] in
      let last : List SourcedEvent = End end.Paragraph ∷ [] in
      more_walked p l n ms q
      ∙ lines_walked ((p ++ text) ++ line_end) n ms q
      ∙ ap (λ x. walk how source (behind kept x) q) (append_assoc (p ++ text) line_end (flat_onto (line_trees n ms) last) ∙ append_assoc p text (line_end ++ flat_onto (line_trees n ms) last))

  -- a heading

  abbrev texts_of : Kind → List (List ℕ) → List Pair
  texts_of kind ts = map unranged (map (λ t. Leaf (Text t)) ts ++ End (end_of (tag_of kind)) ∷ [])

  end_walked : (kind : Kind) (p : List SourcedEvent) (q : List Pair) → walk how source (inside kind kept p) (texts_of kind [] ++ q) ≡ walk how source (behind kept (p ++ End (end_of (tag_of kind)) ∷ [])) q
  unfolding step advance flushed_before joins
  end_walked kind p q =
      ap (λ b. followed (λ t. walk how source t q) (with_event (inside kind kept p) (End (end_of (tag_of kind))) (if b then Ok [] else Err error.UnexpectedEvent))) (same_itself kind)

  text_walked : (kind : Kind) (p : List SourcedEvent) (t : List ℕ) (ts : List (List ℕ)) (q : List Pair) → walk how source (inside kind kept p) (texts_of kind (t ∷ ts) ++ q) ≡ walk how source (inside kind kept (p ++ Leaf (text_leaf t) ∷ [])) (texts_of kind ts ++ q)
  unfolding step advance flushed_before joins
  text_walked kind p t ts q = refl

  texts_walked : (kind : Kind) (p : List SourcedEvent) (ts : List (List ℕ)) (q : List Pair) → walk how source (inside kind kept p) (texts_of kind ts ++ q) ≡ walk how source (behind kept (p ++ flat_onto (text_trees ts) (End (end_of (tag_of kind)) ∷ []))) q
  texts_walked kind p [] q = end_walked kind p q
  texts_walked kind p (t ∷ ts) q =
      text_walked kind p t ts q
      ∙ texts_walked kind (p ++ Leaf (text_leaf t) ∷ []) ts q
      ∙ ap (λ x. walk how source (behind kept x) q) (append_assoc p (Leaf (text_leaf t) ∷ []) (flat_onto (text_trees ts) (End (end_of (tag_of kind)) ∷ [])))

  started : (kind : Kind) (es q : List Pair) → walk how source (beginning kept) (unranged (Start (tag_of kind)) ∷ es ++ q) ≡ walk how source (inside kind kept (Start (tag_of kind) ∷ [])) (es ++ q)
  unfolding step advance flushed_before joins
  started kind es q = refl

  -- fenced code

  abbrev in_code : List SourcedEvent → Standing
  in_code p = record (beginning kept) { pending = p; open_tags = end.CodeBlock ∷ [] }

  abbrev code_of : List (List ℕ) → List Pair
  code_of ls = map unranged (map (λ l. Leaf (Text (l ++ 10 ∷ []))) ls ++ End end.CodeBlock ∷ [])

  code_ended : (p : List SourcedEvent) (q : List Pair) → walk how source (in_code p) (code_of [] ++ q) ≡ walk how source (behind kept (p ++ End end.CodeBlock ∷ [])) q
  unfolding step advance flushed_before joins
  code_ended p q = refl

  code_line : (p : List SourcedEvent) (l : List ℕ) (ls : List (List ℕ)) (q : List Pair) → walk how source (in_code p) (code_of (l ∷ ls) ++ q) ≡ walk how source (in_code (p ++ Leaf (text_leaf (l ++ 10 ∷ [])) ∷ [])) (code_of ls ++ q)
  unfolding step advance flushed_before joins
  code_line p l ls q = refl

  code_walked : (p : List SourcedEvent) (ls : List (List ℕ)) (q : List Pair) → walk how source (in_code p) (code_of ls ++ q) ≡ walk how source (behind kept (p ++ flat_onto (text_trees (line_texts ls)) (End end.CodeBlock ∷ []))) q
  code_walked p [] q = code_ended p q
  code_walked p (l ∷ ls) q =
      code_line p l ls q
      ∙ code_walked (p ++ Leaf (text_leaf (l ++ 10 ∷ [])) ∷ []) ls q
      ∙ ap (λ x. walk how source (behind kept x) q) (append_assoc p (Leaf (text_leaf (l ++ 10 ∷ [])) ∷ []) (flat_onto (text_trees (line_texts ls)) (End end.CodeBlock ∷ [])))

  code_started : (info : List ℕ) (es q : List Pair) → walk how source (beginning kept) (unranged (Start (CodeBlock (Fenced info))) ∷ es ++ q) ≡ walk how source (in_code (Start (CodeBlock (Fenced info)) ∷ [])) (es ++ q)
  unfolding step advance flushed_before joins
  code_started info es q = refl

  rule_walked : (q : List Pair) → walk how source (beginning kept) (unranged (Leaf Rule) ∷ q) ≡ walk how source (behind kept (Leaf rule_leaf ∷ [])) q
  unfolding step advance flushed_before joins
  rule_walked q = refl

  -- a block is pending after its events
  block_walked : (b : PlainBlock) (q : List Pair) → walk how source (beginning kept) (map unranged (plain_events b) ++ q) ≡ walk how source (behind kept (flat (tree b))) q
  block_walked (PlainParagraph l ms) q = started ParagraphKind (map unranged (rest_of (PlainParagraph l ms))) q ∙ lines_walked (Start Paragraph ∷ []) l ms q
  block_walked PlainRule q = rule_walked q
  block_walked (PlainCode info ls) q = code_started info (code_of ls) q ∙ code_walked (Start (CodeBlock (Fenced info)) ∷ []) ls q
  block_walked (PlainHeading level ts) q = started (HeadingKind level) (texts_of (HeadingKind level) ts) q ∙ texts_walked (HeadingKind level) (Start (tag_of (HeadingKind level)) ∷ []) ts q

one_text : (text : List ℕ) → 0 < length text → unless_empty text ≡ text ∷ []
one_text [] h = absurd (omega arith)
one_text (b ∷ bs) h = refl

block_waits : (b : PlainBlock) → waits (flat (tree b)) ≡ false
block_waits (PlainParagraph l ms) = waits-flat (para l ms) ∙ para_placed l ms
block_waits (PlainCode info ls) = waits-flat (code.unit info (line_texts ls)) ∙ code.no-list info (line_texts ls)
block_waits PlainRule = waits-flat rule_unit ∙ rule_placed
block_waits (PlainHeading level ts) = waits-flat (unit (heading_block level ts)) ∙ block_placed (heading_block level ts)

-- a block in Markdown
abbrev pub text_in : OptionsView → (List ℕ → ParserOptions → ReadingView) → ParserOptions → PlainBlock → List ℕ
text_in o reading flags (PlainParagraph l ms) = lines_text (setting_of o flags reading None) (preferred_manner o) l ms
text_in o reading flags (PlainHeading level ts) = block_text o flags (heading_block level ts)
text_in o reading flags PlainRule = hyphens
text_in o reading flags (PlainCode info ls) = row_bytes (Code o.code_block_token (fence_rest o info ls) info ls)

-- what a block has to be, so that its text is there
abbrev pub StandsIn : OptionsView → (List ℕ → ParserOptions → ReadingView) → ParserOptions → PlainBlock → Type 0
StandsIn o reading flags (PlainParagraph l ms) = AreLinesIn (setting_of o flags reading None) (preferred_manner o) (l ∷ ms)
StandsIn o reading flags (PlainHeading level ts) = HasText (heading_block level ts)
StandsIn o reading flags PlainRule = Unit {0}
StandsIn o reading flags (PlainCode info ls) = IsCode o.code_block_token (fence_rest o info ls) info ls

abbrev pub texts_in : OptionsView → (List ℕ → ParserOptions → ReadingView) → ParserOptions → ℕ → List PlainBlock → List (List ℕ)
texts_in o reading flags feeds [] = []
texts_in o reading flags feeds (b ∷ bs) = (replicate (feeds_before feeds b) 10 ++ text_in o reading flags b) ∷ texts_in o reading flags (owed_behind o b) bs

module _ (o : OptionsView) (reading : List ℕ → ParserOptions → ReadingView) (flags : ParserOptions) (source : List ℕ) (off : o.check_plain_blocks ≡ false) where
  abbrev how : Rendering
  how = rendering o reading

  abbrev setting : Setting
  setting = setting_of o flags reading None

  abbrev manner : Manner
  manner = preferred_manner o

  abbrev kept_of : DocumentView → Kept
  kept_of d = record { flags = flags; document = d }

  abbrev plain_text : PlainBlock → List ℕ
  plain_text b = text_in o reading flags b

  abbrev MayStand : PlainBlock → Type 0
  MayStand b = StandsIn o reading flags b

  abbrev plain_texts : ℕ → List PlainBlock → List (List ℕ)
  plain_texts feeds bs = texts_in o reading flags feeds bs

  abbrev text_of : ℕ → PlainBlock → List ℕ
  text_of owed b = replicate (feeds_before owed b) 10 ++ plain_text b

  text_long : (b : PlainBlock) → MayStand b → 0 < length (plain_text b)
  text_long (PlainParagraph l ms) h = written_some setting manner l ms h
  text_long (PlainCode info ls) h =
      let token : ℕ = o.code_block_token in
      let k : ℕ = fence_rest o info ls in
      let width : length (row_bytes (Code token k info ls)) ≡ length (opener token k info) + suc (length (code_rest token k ls)) = ap length (code_joined token k (opener token k info) ls) ∙ length-append (opener token k info) (10 ∷ code_rest token k ls) in
      omega (arith, width)
  text_long PlainRule h = (let q : 0 < 3 = omega arith in q)
  text_long (PlainHeading level ts) h =
      let e = escaped (place_in o flags (HeadingKind level)) (concat ts) in
      let filled : IsFilled e = escaped_filled o flags (HeadingKind level) (concat ts) h in
      omega (arith, filled.some, length-append (mark_of (HeadingKind level)) e)

  text_some : (owed : ℕ) (b : PlainBlock) → MayStand b → unless_empty (text_of owed b) ≡ text_of owed b ∷ []
  text_some owed b h =
      let long : 0 < length (plain_text b) = text_long b h in
      one_text (text_of owed b) (omega (arith, long, length-append (replicate (feeds_before owed b) 10) (plain_text b)))

  handed : (d : DocumentView) (b : PlainBlock) (next : Option EventView) (owed : ℕ) (before : LastEnd) → IsCalm d owed before → MayStand b → IsHanded setting d (tree b) next (text_of owed b) (owed_behind o b) (behind_of b)
  handed d (PlainParagraph l ms) next owed before calm h = para_chosen setting d l ms next off refl owed before calm h
  handed d (PlainCode info ls) next owed before calm h = code_chosen setting d info ls next off refl owed before calm h.token_is h.info_is
  handed d PlainRule next owed before calm h = rule_chosen setting d next off refl owed before calm
  handed d (PlainHeading level ts) next owed before calm h =
      let c = block_chosen setting d (heading_block level ts) next off refl owed before calm h in
      record { document = c.document; is = c.is; after = c.after }

  abbrev cons_walk : {S : Type 0} → List ℕ → Walk S → Walk S
  cons_walk text w = record { texts = text ∷ w.texts; outcome = w.outcome }

  abbrev at_end : Walk Standing → Walk Done
  at_end w = followed (λ t. ended how t) w

  pending_flushed : (d : DocumentView) (p : SourcedEvent) (ps : List SourcedEvent) (next : EventView) (text : List ℕ) (document : DocumentView) → waits (p ∷ ps) ≡ false → chosen setting d (p ∷ ps) (Some next) ≡ Ok (text, document) → unless_empty text ≡ text ∷ [] → flushed_before how next (behind (kept_of d) (p ∷ ps)) ≡ record { texts = text ∷ []; outcome = Ok (beginning (kept_of document)) }
  unfolding flushed_before flushed
  pending_flushed d p ps next text document goes is some =
      ap (λ x. flushed_or_deferred how x next (behind (kept_of d) (p ∷ ps))) goes
      ∙ ap (λ r. flush_of (behind (kept_of d) (p ∷ ps)) (keeping flags r)) is
      ∙ ap (λ ts. record { texts = ts; outcome = Ok (beginning (kept_of document)) }) some

  flushed_is : (d : DocumentView) (owed : ℕ) (b : PlainBlock) (next : EventView) → (c : IsHanded setting d (tree b) (Some next) (text_of owed b) (owed_behind o b) (behind_of b)) → MayStand b → flushed_before how next (behind (kept_of d) (flat (tree b))) ≡ record { texts = text_of owed b ∷ []; outcome = Ok (beginning (kept_of c.document)) }
  flushed_is d owed (PlainParagraph l ms) next c h = pending_flushed d (Start Paragraph) (flat_onto (line_trees l ms) (End end.Paragraph ∷ [])) next (text_of owed (PlainParagraph l ms)) c.document (block_waits (PlainParagraph l ms)) c.is (text_some owed (PlainParagraph l ms) h)
  flushed_is d owed (PlainHeading level ts) next c h = pending_flushed d (Start (tag_of (HeadingKind level))) (flat_onto (text_trees ts) (End (end_of (tag_of (HeadingKind level))) ∷ [])) next (text_of owed (PlainHeading level ts)) c.document (block_waits (PlainHeading level ts)) c.is (text_some owed (PlainHeading level ts) h)
  flushed_is d owed PlainRule next c h = pending_flushed d (Leaf rule_leaf) [] next (text_of owed PlainRule) c.document (block_waits PlainRule) c.is (text_some owed PlainRule h)
  flushed_is d owed (PlainCode info ls) next c h = pending_flushed d (Start (CodeBlock (Fenced info))) (flat_onto (text_trees (line_texts ls)) (End end.CodeBlock ∷ [])) next (text_of owed (PlainCode info ls)) c.document (block_waits (PlainCode info ls)) c.is (text_some owed (PlainCode info ls) h)

  step_flushed : (d : DocumentView) (owed : ℕ) (b : PlainBlock) (tag : TagView) (q : List Pair) → (c : IsHanded setting d (tree b) (Some (Start tag)) (text_of owed b) (owed_behind o b) (behind_of b)) → MayStand b → walk how source (behind (kept_of d) (flat (tree b))) (unranged (Start tag) ∷ q) ≡ cons_walk (text_of owed b) (walk how source (beginning (kept_of c.document)) (unranged (Start tag) ∷ q))
  unfolding step advance joins flushed_before
  step_flushed d owed b tag q c h =
      ap (λ w. followed (λ t. walk how source t q) (followed (λ t. joins (Start tag) t) w)) (flushed_is d owed b (Start tag) c h)

  rule_flushed : (d : DocumentView) (owed : ℕ) (b : PlainBlock) (q : List Pair) → (c : IsHanded setting d (tree b) (Some (Leaf Rule)) (text_of owed b) (owed_behind o b) (behind_of b)) → MayStand b → walk how source (behind (kept_of d) (flat (tree b))) (unranged (Leaf Rule) ∷ q) ≡ cons_walk (text_of owed b) (walk how source (beginning (kept_of c.document)) (unranged (Leaf Rule) ∷ q))
  unfolding step advance joins flushed_before
  rule_flushed d owed b q c h =
      ap (λ w. followed (λ t. walk how source t q) (followed (λ t. joins (Leaf rule_leaf) t) w)) (flushed_is d owed b (Leaf Rule) c h)

  at_end_cons : (text : List ℕ) (w : Walk Standing) → at_end (cons_walk text w) ≡ cons_walk text (at_end w)
  at_end_cons text w = by_outcome w.outcome
    where
      by_outcome : (r : Result Standing Error) → at_end (record { texts = text ∷ w.texts; outcome = r }) ≡ cons_walk text (at_end (record { texts = w.texts; outcome = r }))
      by_outcome (Ok s) = refl
      by_outcome (Err e) = refl

  no_definitions : (d : DocumentView) → d.references ≡ [] → definitions_text d.references d.feeds ≡ []
  unfolding definitions_text
  no_definitions d e = ap (λ refs. definitions_text refs d.feeds) e

  last_written : (d : DocumentView) (owed : ℕ) (b : PlainBlock) → IsHanded setting d (tree b) None (text_of owed b) (owed_behind o b) (behind_of b) → MayStand b → at_end (stay (behind (kept_of d) (flat (tree b)))) ≡ record { texts = text_of owed b ∷ []; outcome = Ok done }
  unfolding ended
  last_written d owed (PlainParagraph l ms) c h =
      ap (λ r. finished_of how (flat (para l ms)) (keeping flags r)) c.is
      ∙ ap (λ defs. record { texts = last_texts (holds_raw_block (flat (para l ms))) defs (text_of owed (PlainParagraph l ms)); outcome = Ok done }) (no_definitions c.document c.after.none)
      ∙ ap (λ ts. record { texts = ts; outcome = Ok done }) (text_some owed (PlainParagraph l ms) h)
  last_written d owed (PlainCode info ls) c h =
      let pending : List SourcedEvent = flat (code.unit info (line_texts ls)) in
      ap (λ r. finished_of how pending (keeping flags r)) c.is
      ∙ ap (λ defs. record { texts = last_texts (holds_raw_block pending) defs (text_of owed (PlainCode info ls)); outcome = Ok done }) (no_definitions c.document c.after.none)
      ∙ ap (λ ts. record { texts = ts; outcome = Ok done }) (text_some owed (PlainCode info ls) h)
  last_written d owed PlainRule c h =
      ap (λ r. finished_of how (flat rule_unit) (keeping flags r)) c.is
      ∙ ap (λ defs. record { texts = last_texts (holds_raw_block (flat rule_unit)) defs (text_of owed PlainRule); outcome = Ok done }) (no_definitions c.document c.after.none)
      ∙ ap (λ ts. record { texts = ts; outcome = Ok done }) (text_some owed PlainRule h)
  last_written d owed (PlainHeading level ts) c h =
      ap (λ r. finished_of how (flat (unit (heading_block level ts))) (keeping flags r)) c.is
      ∙ ap (λ defs. record { texts = last_texts (holds_raw_block (flat (unit (heading_block level ts)))) defs (text_of owed (PlainHeading level ts)); outcome = Ok done }) (no_definitions c.document c.after.none)
      ∙ ap (λ ts. record { texts = ts; outcome = Ok done }) (text_some owed (PlainHeading level ts) h)

  -- a block is written before the first event of the next one
  then_flushed : (d : DocumentView) (owed : ℕ) (b c : PlainBlock) (cs : List PlainBlock) → (h : IsHanded setting d (tree b) (Some (first_of c)) (text_of owed b) (owed_behind o b) (behind_of b)) → MayStand b → walk how source (behind (kept_of d) (flat (tree b))) (plain_document (c ∷ cs)) ≡ cons_walk (text_of owed b) (walk how source (beginning (kept_of h.document)) (plain_document (c ∷ cs)))
  then_flushed d owed b (PlainParagraph l ms) cs h may = step_flushed d owed b Paragraph (map unranged (rest_of (PlainParagraph l ms)) ++ plain_document cs) h may
  then_flushed d owed b (PlainHeading level ts) cs h may = step_flushed d owed b (tag_of (HeadingKind level)) (map unranged (rest_of (PlainHeading level ts)) ++ plain_document cs) h may
  then_flushed d owed b (PlainCode info ls) cs h may = step_flushed d owed b (CodeBlock (Fenced info)) (map unranged (rest_of (PlainCode info ls)) ++ plain_document cs) h may
  then_flushed d owed b PlainRule cs h may = rule_flushed d owed b (plain_document cs) h may

  rest_written : (d : DocumentView) (owed : ℕ) (before : LastEnd) (b : PlainBlock) (bs : List PlainBlock) → IsCalm d owed before → AllByRecursion MayStand (b ∷ bs) → at_end (walk how source (behind (kept_of d) (flat (tree b))) (plain_document bs)) ≡ record { texts = plain_texts owed (b ∷ bs); outcome = Ok done }
  rest_written d owed before b [] calm h = last_written d owed b (handed d b None owed before calm (h.0)) (h.0)
  rest_written d owed before b (c ∷ cs) calm h =
      let chosen : IsHanded setting d (tree b) (Some (first_of c)) (text_of owed b) (owed_behind o b) (behind_of b) = handed d b (Some (first_of c)) owed before calm (h.0) in
      ap at_end (then_flushed d owed b c cs chosen (h.0))
      ∙ at_end_cons (text_of owed b) (walk how source (beginning (kept_of chosen.document)) (plain_document (c ∷ cs)))
      ∙ ap (λ w. cons_walk (text_of owed b) (at_end w)) (block_walked how source (kept_of chosen.document) c (plain_document cs))
      ∙ ap (cons_walk (text_of owed b)) (rest_written chosen.document (owed_behind o b) (behind_of b) c cs chosen.after (h.1))

  -- a text for each block
  pub blocks_are_handed : (b : PlainBlock) (bs : List PlainBlock) → AllByRecursion MayStand (b ∷ bs) → script how source (nothing_yet flags) (plain_document (b ∷ bs)) ≡ record { texts = plain_texts 0 (b ∷ bs); outcome = Ok done }
  blocks_are_handed b bs h =
      ap at_end (block_walked how source (kept_of first_document) b (plain_document bs))
      ∙ rest_written first_document 0 NoEnd b bs (record { trail = refl; feeds = refl; none = refl }) h

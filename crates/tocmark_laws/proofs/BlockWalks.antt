-- What a document of paragraphs and headings hands: a text for each block.
use Rattle.std.proofs.Common.{◌≡◌, ℕ, ◌<◌, true, false, if◌then◌else◌, List, [], ◌∷◌, ◌++◌, length, length-append, replicate, map, refl, ap, subst, ◌∙◌, arith, append_assoc, eq-eqb, Some, None, Result, Ok, Err}
use Rattle.std.specs.List.{AllByRecursion, concat}
use Rattle.tocmark_write_texts.specs.Escape.{escaped}
use Rattle.tocmark_event.specs.Ends.{same_end, end_code}
use Rattle.tocmark_event.specs.Forest.{flat, flat_onto}
use Rattle.tocmark_event.specs.Options.{OptionsView, default_options}
use Rattle.tocmark_event.specs.Reading.{ReadingView}
use Rattle.tocmark_event.specs.View.{EventView, Start, End, Leaf, Text, TagView, SourcedEvent, end_of}
use Rattle.tocmark_event.specs.declared.event.flags.ParserOptions.{ParserOptions}
use Rattle.tocmark_event.specs.declared.options.Error.{Error}
use Rattle.tocmark_event.specs.declared.options.Error.TheVariants as error
use Rattle.tocmark_spelling.specs.Plan.{Setting}
use Rattle.tocmark_spelling.specs.PlanOf.{setting_of}
use Rattle.tocmark_write_labels.specs.Definitions.{definitions_text}
use Rattle.tocmark_write_labels.specs.Document.{DocumentView, first_document}
use Rattle.tocmark_write_labels.specs.Ending.{last_texts, holds_raw_block, unless_empty}
use Rattle.tocmark_write_pending.specs.Units.{waits}
use Rattle.tocmark_write_pending.proofs.Forests.{waits-flat}
use Rattle.tocmark_state.specs.Ranges.{Pair, unranged}
use Rattle.tocmark_state.specs.WorkView.{keeping, rendering}
use Rattle.tocmark_laws.specs.TextBlocks.{Kind, Block, HasText, MakesBlocks, blocks_walk, tag_of, mark_of, block_text, block_events, document_of, feeds_behind, place_in, texts_behind}
use Rattle.tocmark_state.specs.Walk.{Walk, Done, done, Kept, Rendering, Standing, beginning, nothing_yet, go_on, stay, finished_of, flushed, flushed_before, flushed_or_deferred, flush_of, joins, advance, step, walk, script, ended, with_event}
use Rattle.tocmark_state.specs.Writes.{Makes}
use Rattle.tocmark_laws.proofs.BlockEscapes.{IsFilled, escaped_filled}
use Rattle.tocmark_laws.proofs.BlockSpelling.{LastEnd, NoEnd, TextEnd, text_leaf, text_trees, unit, IsCalm, IsChosen, block_placed, block_chosen}

-- a standing in a block, with these events pending
abbrev inside : Kind → Kept → List SourcedEvent → Standing
inside kind kept p = record (beginning kept) { pending = p; open_tags = end_of (tag_of kind) ∷ [] }

-- a standing after a block
abbrev behind : Kept → List SourcedEvent → Standing
behind kept p = record (beginning kept) { pending = p }

abbrev end_event : Kind → List SourcedEvent
end_event kind = End (end_of (tag_of kind)) ∷ []

-- the pairs of a block's texts and of its End
abbrev rest_of : Kind → List (List ℕ) → List Pair
rest_of kind ts = map unranged (map (λ t. Leaf (Text t)) ts ++ End (end_of (tag_of kind)) ∷ [])

same_itself : (kind : Kind) → same_end (end_of (tag_of kind)) (end_of (tag_of kind)) ≡ true
same_itself kind = eq-eqb (end_code (end_of (tag_of kind))) (end_code (end_of (tag_of kind))) refl

-- a walk, and then another one
abbrev followed : {S T : Type 0} → (S → Walk T) → Walk S → Walk T
followed f w = go_on w.texts w.outcome f

module _ (how : Rendering) (source : List ℕ) (kind : Kind) (kept : Kept) where
  end_walked : (p : List SourcedEvent) (q : List Pair) → walk how source (inside kind kept p) (rest_of kind [] ++ q) ≡ walk how source (behind kept (p ++ end_event kind)) q
  unfolding step advance flushed_before joins
  end_walked p q =
      ap (λ b. followed (λ t. walk how source t q) (with_event (inside kind kept p) (End (end_of (tag_of kind))) (if b then Ok [] else Err error.UnexpectedEvent))) (same_itself kind)

  text_walked : (p : List SourcedEvent) (t : List ℕ) (ts : List (List ℕ)) (q : List Pair) → walk how source (inside kind kept p) (rest_of kind (t ∷ ts) ++ q) ≡ walk how source (inside kind kept (p ++ Leaf (text_leaf t) ∷ [])) (rest_of kind ts ++ q)
  unfolding step advance flushed_before joins
  text_walked p t ts q = refl

  -- all texts of a block are pending after it
  texts_walked : (p : List SourcedEvent) (ts : List (List ℕ)) (q : List Pair) → walk how source (inside kind kept p) (rest_of kind ts ++ q) ≡ walk how source (behind kept (p ++ flat_onto (text_trees ts) (end_event kind))) q
  texts_walked p [] q = end_walked p q
  texts_walked p (t ∷ ts) q =
      text_walked p t ts q
      ∙ texts_walked (p ++ Leaf (text_leaf t) ∷ []) ts q
      ∙ ap (λ x. walk how source (behind kept x) q) (append_assoc p (Leaf (text_leaf t) ∷ []) (flat_onto (text_trees ts) (end_event kind)))

  started : (ts : List (List ℕ)) (q : List Pair) → walk how source (beginning kept) (unranged (Start (tag_of kind)) ∷ rest_of kind ts ++ q) ≡ walk how source (inside kind kept (Start (tag_of kind) ∷ [])) (rest_of kind ts ++ q)
  unfolding step advance flushed_before joins
  started ts q = refl

-- a block is pending after its events
block_walked : (how : Rendering) (source : List ℕ) (kept : Kept) (b : Block) (q : List Pair) → walk how source (beginning kept) (map unranged (block_events b) ++ q) ≡ walk how source (behind kept (flat (unit b))) q
block_walked how source kept b q =
    started how source b.kind kept b.texts q ∙ texts_walked how source b.kind kept (Start (tag_of b.kind) ∷ []) b.texts q

-- no block waits
block_waits : (b : Block) → waits (flat (unit b)) ≡ false
block_waits b = waits-flat (unit b) ∙ block_placed b

one_text : (text : List ℕ) → 0 < length text → unless_empty text ≡ text ∷ []
one_text [] h = absurd (omega arith)
one_text (b ∷ bs) h = refl

module _ (o : OptionsView) (reading : List ℕ → ParserOptions → ReadingView) (flags : ParserOptions) (source : List ℕ) (off : o.check_plain_blocks ≡ false) where
  abbrev how : Rendering
  how = rendering o reading

  abbrev setting : Setting
  setting = setting_of o flags reading None

  abbrev kept_of : DocumentView → Kept
  kept_of d = record { flags = flags; document = d }

  -- the text of a block after so many line feeds
  abbrev text_of : ℕ → Block → List ℕ
  text_of owed b = replicate owed 10 ++ block_text o flags b

  text_some : (owed : ℕ) (b : Block) → HasText b → unless_empty (text_of owed b) ≡ text_of owed b ∷ []
  text_some owed b h =
      let e = escaped (place_in o flags b.kind) (concat b.texts) in
      let filled : IsFilled e = escaped_filled o flags b.kind (concat b.texts) h in
      one_text (text_of owed b) (omega (arith, filled.some, length-append (replicate owed 10) (block_text o flags b), length-append (mark_of b.kind) e))

  -- a text, and then what a walk hands
  abbrev cons_walk : {S : Type 0} → List ℕ → Walk S → Walk S
  cons_walk text w = record { texts = text ∷ w.texts; outcome = w.outcome }

  -- where it is at the end
  abbrev at_end : Walk Standing → Walk Done
  at_end w = followed (λ t. ended how t) w

  -- the block is written before the next one's Start
  flushed_is : (d : DocumentView) (owed : ℕ) (b : Block) (next : EventView) → (c : IsChosen setting d b (Some next) owed) → HasText b → flushed_before how next (behind (kept_of d) (flat (unit b))) ≡ record { texts = text_of owed b ∷ []; outcome = Ok (beginning (kept_of c.document)) }
  unfolding flushed_before flushed
  flushed_is d owed b next c h =
      ap (λ x. flushed_or_deferred how x next (behind (kept_of d) (flat (unit b)))) (block_waits b)
      ∙ ap (λ r. flush_of (behind (kept_of d) (flat (unit b))) (keeping flags r)) c.is
      ∙ ap (λ ts. record { texts = ts; outcome = Ok (beginning (kept_of c.document)) }) (text_some owed b h)

  step_flushed : (d : DocumentView) (owed : ℕ) (b : Block) (tag : TagView) (q : List Pair) → (c : IsChosen setting d b (Some (Start tag)) owed) → HasText b → walk how source (behind (kept_of d) (flat (unit b))) (unranged (Start tag) ∷ q) ≡ cons_walk (text_of owed b) (walk how source (beginning (kept_of c.document)) (unranged (Start tag) ∷ q))
  unfolding step advance joins flushed_before
  step_flushed d owed b tag q c h =
      ap (λ w. followed (λ t. walk how source t q) (followed (λ t. joins (Start tag) t) w)) (flushed_is d owed b (Start tag) c h)

  at_end_cons : (text : List ℕ) (w : Walk Standing) → at_end (cons_walk text w) ≡ cons_walk text (at_end w)
  at_end_cons text w = by_outcome w.outcome
    where
      by_outcome : (r : Result Standing Error) → at_end (record { texts = text ∷ w.texts; outcome = r }) ≡ cons_walk text (at_end (record { texts = w.texts; outcome = r }))
      by_outcome (Ok s) = refl
      by_outcome (Err e) = refl

  -- no definitions are left
  no_definitions : (d : DocumentView) → d.references ≡ [] → definitions_text d.references d.feeds ≡ []
  unfolding definitions_text
  no_definitions d e = ap (λ refs. definitions_text refs d.feeds) e

  last_written : (d : DocumentView) (owed : ℕ) (b : Block) → IsChosen setting d b None owed → HasText b → at_end (stay (behind (kept_of d) (flat (unit b)))) ≡ record { texts = text_of owed b ∷ []; outcome = Ok done }
  unfolding ended
  last_written d owed b c h =
      ap (λ r. finished_of how (flat (unit b)) (keeping flags r)) c.is
      ∙ ap (λ defs. record { texts = last_texts (holds_raw_block (flat (unit b))) defs (text_of owed b); outcome = Ok done }) (no_definitions c.document c.after.none)
      ∙ ap (λ ts. record { texts = ts; outcome = Ok done }) (text_some owed b h)

  -- a block that is pending, and the blocks after it
  rest_written : (d : DocumentView) (owed : ℕ) (before : LastEnd) (b : Block) (bs : List Block) → IsCalm d owed before → AllByRecursion HasText (b ∷ bs) → at_end (walk how source (behind (kept_of d) (flat (unit b))) (document_of bs)) ≡ record { texts = texts_behind o flags owed (b ∷ bs); outcome = Ok done }
  rest_written d owed before b [] calm h = last_written d owed b (block_chosen setting d b None off refl owed before calm (h.0)) (h.0)
  rest_written d owed before b (c ∷ cs) calm h =
      let chosen : IsChosen setting d b (Some (Start (tag_of c.kind))) owed = block_chosen setting d b (Some (Start (tag_of c.kind))) off refl owed before calm (h.0) in
      ap at_end (step_flushed d owed b (tag_of c.kind) (rest_of c.kind c.texts ++ document_of cs) chosen (h.0))
      ∙ at_end_cons (text_of owed b) (walk how source (beginning (kept_of chosen.document)) (document_of (c ∷ cs)))
      ∙ ap (λ w. cons_walk (text_of owed b) (at_end w)) (block_walked how source (kept_of chosen.document) c (document_of cs))
      ∙ ap (cons_walk (text_of owed b)) (rest_written chosen.document (feeds_behind o b.kind) (TextEnd b.kind) c cs chosen.after (h.1))

  none_handed : script how source (nothing_yet flags) [] ≡ record { texts = []; outcome = Ok done }
  unfolding ended definitions_text
  none_handed = refl

  -- a text for each block
  pub blocks_are_handed : (bs : List Block) → AllByRecursion HasText bs → script how source (nothing_yet flags) (document_of bs) ≡ blocks_walk o flags bs
  blocks_are_handed [] h = none_handed
  blocks_are_handed (b ∷ bs) h =
      ap at_end (block_walked how source (kept_of first_document) b (document_of bs))
      ∙ rest_written first_document 0 NoEnd b bs (record { trail = refl; feeds = refl; none = refl }) h

-- a call with the default options that made the script of a document of blocks handed a text for each
pub blocks_made : {W X : Type 0} (gives refuses : W → List ℕ → W → Type 0) (w v : W) (r : Result X Error) (o : OptionsView) (reading : List ℕ → ParserOptions → ReadingView) (flags : ParserOptions) (p : List Pair) → o ≡ default_options → Makes gives refuses w v r done (script (rendering o reading) [] (nothing_yet flags) p) → MakesBlocks gives refuses w v r flags p
blocks_made gives refuses w v r o reading flags p default made =
    λ bs h e.
    let is : script (rendering o reading) [] (nothing_yet flags) p ≡ blocks_walk default_options flags bs =
    ap (λ (q : List Pair). script (rendering o reading) [] (nothing_yet flags) q) e
    ∙ blocks_are_handed o reading flags [] (ap (λ (x : OptionsView). x.check_plain_blocks) default) bs h
    ∙ ap (λ (x : OptionsView). blocks_walk x flags bs) default
    in subst (λ (x : Walk Done). Makes gives refuses w v r done x) is made

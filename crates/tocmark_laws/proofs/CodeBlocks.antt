-- What is handed for a document of one fenced code block.
use Rattle.std.proofs.Common.{◌≡◌, ℕ, ◌+◌, ◌-◌, max, Bool, true, false, ◌==◌, nat_lt, if◌then◌else◌, List, [], ◌∷◌, ◌++◌, length, replicate, flat_map, map, codes, refl, ap, sym, ◌∙◌, arith, append_assoc, append-nil, Option, Some, None, Result, Ok}
use Rattle.std.proofs.lemmas.Bool.Decides.{nat_tests}
use Rattle.std.proofs.lemmas.List.{reverse-append}
use Rattle.std.specs.Prelude.{slice_index}
use Rattle.std.specs.List.{concat}
use Rattle.tocmark_event.specs.Forest.{empty, leaf, node, flat, flat_onto}
use Rattle.tocmark_event.specs.Options.{OptionsView}
use Rattle.tocmark_event.specs.Reading.{ReadingView}
use Rattle.tocmark_event.specs.View.{EventView, Start, End, Leaf, Text, CodeBlock, Fenced, SourcedEvent}
use Rattle.tocmark_event.specs.declared.event.TagEnd.TheVariants as end
use Rattle.tocmark_event.specs.declared.event.flags.ParserOptions.{ParserOptions}
use Rattle.tocmark_event.specs.declared.options.Error.{Error}
use Rattle.tocmark_spelling.specs.Body.{Trees, joined_by, text_of_leaf, some_leaf}
use Rattle.tocmark_spelling.specs.Closing.{closing}
use Rattle.tocmark_spelling.specs.Gap.{gap}
use Rattle.tocmark_spelling.specs.Look.{look}
use Rattle.tocmark_spelling.specs.Opening.{opening, fence, info_byte}
use Rattle.tocmark_spelling.specs.Page.{Sheet, laid, lead, put_byte, feeds_after, Path, Page, Site, Around, Fence, Held}
use Rattle.tocmark_spelling.specs.Plan.{Setting, Manner}
use Rattle.tocmark_spelling.specs.PlanOf.{setting_of}
use Rattle.tocmark_spelling.specs.Runs.{ahead_of, beyond, past}
use Rattle.tocmark_spelling.specs.Spelling.{spelling, then_site, body_or_id, skips_body}
use Rattle.tocmark_spelling.specs.Stretch.{leaf_on, held_with, stretch_on}
use Rattle.tocmark_spelling.specs.Words.{last_byte}
use Rattle.tocmark_spelling.specs.declared.trail.Last.{Last}
use Rattle.tocmark_spelling.specs.declared.trail.Last.TheVariants.{Inline, Other, BlockEnd}
use Rattle.tocmark_choose.specs.Candidates.{preferred_manner, has_source, is_delimiter_block, is_delimiter_tag, is_math, some_tag}
use Rattle.tocmark_choose.specs.Choice as choice
use Rattle.tocmark_choose.specs.Choice.{preferred, spelled, accepted_if, document_after}
use Rattle.tocmark_write_labels.specs.Definitions.{definitions_text}
use Rattle.tocmark_write_labels.specs.Document.{DocumentView, first_document}
use Rattle.tocmark_write_labels.specs.Ending.{last_texts, holds_raw_block}
use Rattle.tocmark_write_pending.specs.Placeholder.{whole, needs_placeholder, needs_placeholder_at}
use Rattle.tocmark_laws.proofs.BlockSpelling.{text_leaf, text_trees, page_of, blank}
use Rattle.tocmark_laws.proofs.Paragraphs.{laid-plain}
use Rattle.tocmark_state.specs.Ranges.{Pair, unranged}
use Rattle.tocmark_state.specs.WorkView.{keeping, rendering}
use Rattle.tocmark_state.specs.Walk.{Walk, Done, done, Kept, Rendering, Standing, beginning, finished_of, go_on, stay, nothing_yet, script, walk, joins, flushed_before, advance, step, ended}
use Rattle.tocmark_laws.proofs.Alone.{alone-chosen}
use Rattle.tocmark_laws.proofs.Fences.{fence-is}
use Rattle.tocmark_laws.specs.CodeBlocks.{IsFence, code_events, code_text, opened_code}
use Rattle.tocmark_laws.specs.Links.{one_text_walk}

-- the block as a tree
abbrev pub unit : List ℕ → List (List ℕ) → Trees
unit info ts = node (CodeBlock (Fenced info)) (text_trees ts) empty

-- ---- where a text ends a line

last-put : (xs : List ℕ) (b : ℕ) → last_byte (xs ++ b ∷ []) ≡ b
last-put xs b = ap (λ ys. slice_index ys 0) (reverse-append xs (b ∷ []))

feeds-put : (feeds b : ℕ) → nat_lt 0 (feeds_after b feeds) ≡ (b == 10)
feeds-put feeds b = by_test (b == 10)
  where
    by_test : (x : Bool) → nat_lt 0 (if x then feeds + 1 else 0) ≡ x
    by_test true = grind (arith, nat_tests)
    by_test false = refl

laid-ends : (text : List ℕ) (s : Sheet) → nat_lt 0 s.feeds ≡ (last_byte s.text == 10) → nat_lt 0 (laid [] text s).feeds ≡ (last_byte (laid [] text s).text == 10)
laid-ends [] s h = h
laid-ends (b ∷ bs) s h =
    laid-ends bs (put_byte [] b s) (feeds-put s.feeds b ∙ ap (λ c. c == 10) (sym (last-put (s.text ++ lead [] s.feeds) b)))

-- ---- the spelling

-- inside the block, whose opening ended there
abbrev pub in_code : List ℕ → List ℕ → ℕ → Path
in_code info f start = record { tag = CodeBlock (Fenced info); prefix = []; start = start; content = Fence f } ∷ []

abbrev site : Path → Page → Site
site path page = record { path = path; page = page }

abbrev around : List SourcedEvent → List SourcedEvent → Option EventView → Around
around before after next = record { before = before; after = after; next = next }

none_left : (n : ℕ) → 0 - n ≡ 0
none_left n = omega arith

gap-inside : (info f : List ℕ) (start : ℕ) (text : List ℕ) (sheet : Sheet) → gap (Leaf (Text text)) (in_code info f start) (page_of sheet 0 Other None) ≡ page_of sheet 0 Other None
gap-inside info f start text sheet = ap (λ n. page_of (laid [] (replicate n 10) sheet) 0 Other None) (none_left sheet.feeds)

pub joined-texts : (ts : List (List ℕ)) → joined_by text_of_leaf (text_trees ts) ≡ concat ts
joined-texts [] = refl
joined-texts (t ∷ ts) = ap (λ x. t ++ x) (joined-texts ts)

-- what was written last after the texts
abbrev last_behind : List (List ℕ) → Last
last_behind [] = Other
last_behind (t ∷ ts) = Inline

module _ (s : Setting) (info : List ℕ) where
  abbrev m : Manner
  m = preferred_manner s.options

  abbrev code_end : SourcedEvent
  code_end = End end.CodeBlock

  -- where so much of the text is written
  abbrev written_site : List ℕ → ℕ → Sheet → List ℕ → Site
  written_site f start sheet text = site (in_code info f start) (page_of (laid [] text sheet) 0 Inline None)

  stretch-written : (f : List ℕ) (start : ℕ) (h : Held) (held : Option Held) (sheet : Sheet) (next : Option EventView) → stretch_on s m h next (in_code info f start) (page_of sheet 0 Other held) ≡ written_site f start sheet h.text
  stretch-written f start h held sheet next =
      ap (λ (g : Page). site (in_code info f start) (record g { sheet = laid [] h.text g.sheet; trail = record g.trail { last = Inline } })) (gap-inside info f start h.text sheet)

  abbrev held_text : Option Held → List ℕ
  held_text None = []
  held_text (Some h) = h.text

  held-longer : (held : Option Held) (t : List ℕ) (a : Around) → (held_with held t None a).text ≡ held_text held ++ t
  held-longer None t a = refl
  held-longer (Some h) t a = refl

  last-text : (f : List ℕ) (start : ℕ) (t : List ℕ) (held : Option Held) (sheet : Sheet) (before : List SourcedEvent) (next : Option EventView) → let a = around before (code_end ∷ []) next in
      spelling s m (leaf (text_leaf t) empty) a (in_code info f start) (page_of sheet 0 Other held) ≡ Some (stretch_on s m (held_with held t None a) (Some (End end.CodeBlock)) (in_code info f start) (page_of sheet 0 Other held))
  unfolding spelling leaf_on
  last-text f start t held sheet before next = refl

  held-on : (f : List ℕ) (start : ℕ) (t u : List ℕ) (ts : List (List ℕ)) (held : Option Held) (sheet : Sheet) (before : List SourcedEvent) (next : Option EventView) → let a = around before (code_end ∷ []) next in
      spelling s m (text_trees (t ∷ u ∷ ts)) a (in_code info f start) (page_of sheet 0 Other held) ≡ spelling s m (text_trees (u ∷ ts)) (past (Leaf (text_leaf t)) a) (in_code info f start) (page_of sheet 0 Other (Some (held_with held t None (ahead_of (text_trees (u ∷ ts)) a))))
  unfolding spelling leaf_on
  held-on f start t u ts held sheet before next = refl

  -- all texts are written as one
  some-written : (f : List ℕ) (start : ℕ) (t : List ℕ) (ts : List (List ℕ)) (held : Option Held) (sheet : Sheet) (before : List SourcedEvent) (next : Option EventView) → spelling s m (text_trees (t ∷ ts)) (around before (code_end ∷ []) next) (in_code info f start) (page_of sheet 0 Other held) ≡ Some (written_site f start sheet (held_text held ++ concat (t ∷ ts)))
  some-written f start t [] held sheet before next =
      let a = around before (code_end ∷ []) next in
      last-text f start t held sheet before next
      ∙ ap Some (stretch-written f start (held_with held t None a) held sheet (Some (End end.CodeBlock)))
      ∙ ap (λ x. Some (written_site f start sheet x)) (held-longer held t a ∙ ap (λ x. held_text held ++ x) (sym (append-nil t)))
  some-written f start t (u ∷ us) held sheet before next =
      let a = around before (code_end ∷ []) next in
      let h = held_with held t None (ahead_of (text_trees (u ∷ us)) a) in
      held-on f start t u us held sheet before next
      ∙ some-written f start u us (Some h) sheet (Leaf (text_leaf t) ∷ before) next
      ∙ ap (λ x. Some (written_site f start sheet x)) (ap (λ x. x ++ concat (u ∷ us)) (held-longer held t (ahead_of (text_trees (u ∷ us)) a)) ∙ append_assoc (held_text held) t (concat (u ∷ us)))

  -- the page after the texts
  abbrev pub filled_page : List (List ℕ) → Sheet → Page
  filled_page ts sheet = page_of (laid [] (concat ts) sheet) 0 (last_behind ts) None

  pub body-written : (f : List ℕ) (start : ℕ) (ts : List (List ℕ)) (sheet : Sheet) (before : List SourcedEvent) (next : Option EventView) → spelling s m (text_trees ts) (around before (code_end ∷ []) next) (in_code info f start) (page_of sheet 0 Other None) ≡ Some (site (in_code info f start) (filled_page ts sheet))
  unfolding spelling
  body-written f start [] sheet before next = refl
  body-written f start (t ∷ ts) sheet before next = some-written f start t ts None sheet before next

  -- the sheet below the info string
  abbrev opened_sheet : List ℕ → Sheet
  opened_sheet f = laid [] (f ++ flat_map info_byte info ++ codes "\n") (laid [] (codes "\n") blank)

  abbrev opened_site : List ℕ → Site
  opened_site f = site (in_code info f (length (opened_sheet f).text)) (page_of (opened_sheet f) 0 Other None)

  open-code : (ts : List (List ℕ)) (a : Around) → opening s m (CodeBlock (Fenced info)) (look s m (CodeBlock (Fenced info)) (text_trees ts) a) [] (page_of blank 0 Other None) ≡ Some (opened_site (fence s.options info (joined_by text_of_leaf (text_trees ts))))
  unfolding opening
  open-code ts a = refl

  opened : (ts : List (List ℕ)) (a : Around) → opening s m (CodeBlock (Fenced info)) (look s m (CodeBlock (Fenced info)) (text_trees ts) a) [] (page_of blank 0 Other None) ≡ Some (opened_site (fence s.options info (concat ts)))
  opened ts a = open-code ts a ∙ ap (λ text. Some (opened_site (fence s.options info text))) (joined-texts ts)

  -- the page after the block
  abbrev pub closed_page : List ℕ → Sheet → Page
  closed_page f sheet = record {
    sheet = laid [] (if nat_lt 0 sheet.feeds then f else []) sheet;
    trail = record { owed = max s.options.newlines_after_codeblock 2; last = BlockEnd end.CodeBlock; last_list = None; quote_line = None; raw_end = sheet.feeds == 0; open_html = false };
    references = [];
    held = None;
  }

  pub closed : (f : List ℕ) (start : ℕ) (sheet : Sheet) (last : Last) → closing s.options (in_code info f start) (page_of sheet 0 last None) ≡ Some (site [] (closed_page f sheet))
  unfolding closing
  closed f start sheet last = refl

  -- the rest of the block once its texts are written, once it is open, and once its gap is written
  abbrev pub from_texts : List (List ℕ) → Option EventView → Site → Option Site
  from_texts ts next full =
      then_site (closing s.options full.path full.page) (λ here. spelling s m empty (beyond (CodeBlock (Fenced info)) (text_trees ts) (around [] [] next)) here.path here.page)

  abbrev pub from_opening : List (List ℕ) → Option EventView → Site → Option Site
  from_opening ts next here =
      then_site (body_or_id (skips_body here.path) (CodeBlock (Fenced info)) here (λ here. spelling s m (text_trees ts) (around (Start (CodeBlock (Fenced info)) ∷ []) (code_end ∷ []) next) here.path here.page)) (λ full. from_texts ts next full)

  begun : (ts : List (List ℕ)) (next : Option EventView) → spelling s m (unit info ts) (whole next) [] (page_of blank 0 Other None) ≡ then_site (opening s m (CodeBlock (Fenced info)) (look s m (CodeBlock (Fenced info)) (text_trees ts) (around [] [] next)) [] (page_of blank 0 Other None)) (λ here. from_opening ts next here)
  unfolding spelling
  begun ts next = refl

  -- the sheet after the texts
  abbrev filled_sheet : List (List ℕ) → Sheet
  filled_sheet ts = laid [] (concat ts) (opened_sheet (fence s.options info (concat ts)))

  pub finished : (f : List ℕ) (start : ℕ) (ts : List (List ℕ)) (next : Option EventView) (sheet : Sheet) → from_texts ts next (site (in_code info f start) (filled_page ts sheet)) ≡ Some (site [] (closed_page f (laid [] (concat ts) sheet)))
  unfolding spelling
  finished f start ts next sheet =
      ap (λ o. then_site o (λ here. spelling s m empty (beyond (CodeBlock (Fenced info)) (text_trees ts) (around [] [] next)) here.path here.page)) (closed f start (laid [] (concat ts) sheet) (last_behind ts))

  unit-spelled : (ts : List (List ℕ)) (next : Option EventView) → spelling s m (unit info ts) (whole next) [] (page_of blank 0 Other None) ≡ Some (site [] (closed_page (fence s.options info (concat ts)) (filled_sheet ts)))
  unit-spelled ts next =
      let f = fence s.options info (concat ts) in
      let start = length (opened_sheet f).text in
      begun ts next
      ∙ ap (λ o. then_site o (λ here. from_opening ts next here)) (opened ts (around [] [] next))
      ∙ ap (λ o. then_site o (λ full. from_texts ts next full)) (body-written f start ts (opened_sheet f) (Start (CodeBlock (Fenced info)) ∷ []) next)
      ∙ finished f start ts next (opened_sheet f)

  -- what is before the closing fence
  filled-text : (ts : List (List ℕ)) → (filled_sheet ts).text ≡ opened_code (fence s.options info (concat ts)) info (concat ts)
  filled-text ts =
      let f = fence s.options info (concat ts) in
      laid-plain (concat ts) (opened_sheet f)
      ∙ ap (λ t. t ++ concat ts) (laid-plain (f ++ flat_map info_byte info ++ codes "\n") (laid [] (codes "\n") blank))

  closed-text : (ts : List (List ℕ)) → (closed_page (fence s.options info (concat ts)) (filled_sheet ts)).sheet.text ≡ code_text (fence s.options info (concat ts)) info (concat ts)
  closed-text ts =
      let f = fence s.options info (concat ts) in
      let sheet = filled_sheet ts in
      laid-plain (if nat_lt 0 sheet.feeds then f else []) sheet
      ∙ ap (λ b. sheet.text ++ (if b then f else [])) (laid-ends (concat ts) (opened_sheet f) (laid-ends (f ++ flat_map info_byte info ++ codes "\n") (laid [] (codes "\n") blank) refl))
      ∙ ap (λ t. t ++ (if last_byte t == 10 then f else [])) (filled-text ts)

-- ---- the choice

no-sources : (ts : List (List ℕ)) → has_source (text_trees ts) ≡ false
no-sources [] = refl
no-sources (t ∷ ts) = no-sources ts

texts-plain : (ts : List (List ℕ)) → some_leaf is_math (text_trees ts) ≡ false
texts-plain [] = refl
texts-plain (t ∷ ts) = texts-plain ts

tags-plain : (ts : List (List ℕ)) → some_tag is_delimiter_tag (text_trees ts) ≡ false
tags-plain [] = refl
tags-plain (t ∷ ts) = tags-plain ts

pub undelimited : (info : List ℕ) (ts : List (List ℕ)) → is_delimiter_block (unit info ts) ≡ false
undelimited info ts = rw (tags-plain ts) (rw (texts-plain ts) refl)

pub unsourced : (info : List ℕ) (ts : List (List ℕ)) → has_source (unit info ts) ≡ false
unsourced info ts = rw (no-sources ts) refl

texts-placed : (ts : List (List ℕ)) (a : Around) → needs_placeholder_at (text_trees ts) a ≡ false
texts-placed [] a = refl
texts-placed (t ∷ ts) a = texts-placed ts (record a { before = Leaf (text_leaf t) ∷ a.before })

pub no-list : (info : List ℕ) (ts : List (List ℕ)) → needs_placeholder (unit info ts) ≡ false
unfolding needs_placeholder
no-list info ts = rw (texts-placed ts (record { before = Start (CodeBlock (Fenced info)) ∷ []; after = End end.CodeBlock ∷ []; next = None })) refl

-- ---- the walk

module _ (how : Rendering) (source : List ℕ) (kept : Kept) where
  abbrev inside : List SourcedEvent → Standing
  inside p = record (beginning kept) { pending = p; open_tags = end.CodeBlock ∷ [] }

  abbrev behind : List SourcedEvent → Standing
  behind p = record (beginning kept) { pending = p }

  abbrev rest_of : List (List ℕ) → List Pair
  rest_of ts = map unranged (map (λ t. Leaf (Text t)) ts ++ End end.CodeBlock ∷ [])

  end-walked : (p : List SourcedEvent) → walk how source (inside p) (rest_of []) ≡ stay (behind (p ++ End end.CodeBlock ∷ []))
  unfolding step advance flushed_before joins
  end-walked p = refl

  text-walked : (p : List SourcedEvent) (t : List ℕ) (ts : List (List ℕ)) → walk how source (inside p) (rest_of (t ∷ ts)) ≡ walk how source (inside (p ++ Leaf (text_leaf t) ∷ [])) (rest_of ts)
  unfolding step advance flushed_before joins
  text-walked p t ts = refl

  -- all events are pending
  texts-walked : (p : List SourcedEvent) (ts : List (List ℕ)) → walk how source (inside p) (rest_of ts) ≡ stay (behind (p ++ flat_onto (text_trees ts) (End end.CodeBlock ∷ [])))
  texts-walked p [] = end-walked p
  texts-walked p (t ∷ ts) =
      text-walked p t ts
      ∙ texts-walked (p ++ Leaf (text_leaf t) ∷ []) ts
      ∙ ap (λ x. stay (behind x)) (append_assoc p (Leaf (text_leaf t) ∷ []) (flat_onto (text_trees ts) (End end.CodeBlock ∷ [])))

  started : (info : List ℕ) (ts : List (List ℕ)) → walk how source (beginning kept) (code_events info ts) ≡ walk how source (inside (Start (CodeBlock (Fenced info)) ∷ [])) (rest_of ts)
  unfolding step advance flushed_before joins
  started info ts = refl

  scripted : (info : List ℕ) (ts : List (List ℕ)) → script how source (beginning kept) (code_events info ts) ≡ finished_of how (flat (unit info ts)) (how.choice kept (flat (unit info ts)) None)
  unfolding ended
  scripted info ts =
      ap (λ (w : Walk Standing). go_on w.texts w.outcome (λ t. ended how t)) (started info ts ∙ texts-walked (Start (CodeBlock (Fenced info)) ∷ []) ts)

module _ (o : OptionsView) (reading : List ℕ → ParserOptions → ReadingView) (flags : ParserOptions) (info : List ℕ) (ts : List (List ℕ)) (off : o.check_plain_blocks ≡ false) where
  abbrev setting : Setting
  setting = setting_of o flags reading None

  abbrev page : Page
  page = closed_page setting info (fence o info (concat ts)) (filled_sheet setting info ts)

  preferred-is : preferred setting first_document (unit info ts) None ≡ Ok (page.sheet.text, document_after setting first_document page)
  unfolding spelled
  preferred-is = ap (λ x. accepted_if setting first_document (choice.page_of x)) (unit-spelled setting info ts None)

  no-definitions : definitions_text (document_after setting first_document page).references (document_after setting first_document page).feeds ≡ []
  unfolding document_after definitions_text
  no-definitions = refl

  abbrev ended_as : Result (List ℕ × DocumentView) Error → Walk Done
  ended_as r = finished_of (rendering o reading) (flat (unit info ts)) (keeping flags r)

  pub handed : (source : List ℕ) → script (rendering o reading) source (nothing_yet flags) (code_events info ts) ≡ one_text_walk (code_text (fence o info (concat ts)) info (concat ts))
  handed source =
      scripted (rendering o reading) source (record { flags = flags; document = first_document }) info ts
      ∙ ap (λ r. finished_of (rendering o reading) (flat (unit info ts)) r) (alone-chosen o reading flags (unit info ts) off (no-list info ts) (undelimited info ts) (unsourced info ts))
      ∙ ap ended_as (preferred-is ∙ ap (λ t. Ok (t, document_after setting first_document page)) (closed-text setting info ts))
      ∙ ap (λ (defs : List ℕ). record { texts = last_texts (holds_raw_block (flat (unit info ts))) defs (code_text (fence o info (concat ts)) info (concat ts)); outcome = Ok done }) no-definitions

  pub is_fenced : (source : List ℕ) → (f : List ℕ) × IsFence o info (concat ts) f × (script (rendering o reading) source (nothing_yet flags) (code_events info ts) ≡ one_text_walk (code_text f info (concat ts)))
  is_fenced source = (fence o info (concat ts), fence-is o info (concat ts), handed source)

-- A turn of the writer is a step of the machine.
use Rattle.std.proofs.Common.{◌≡◌, ℕ, suc, ◌<◌, ◌≤◌, Bool, true, false, Option, Some, None, List, ◌∷◌, ◌++◌, Result, Ok, Err, refl, sym, ap, ◌∙◌, subst, drop, length, arith, reverse, take}
use Rattle.std.specs.Prelude.{IfOk}
use Rattle.std.proofs.lemmas.Bool.{false≢true}
use Rattle.tocmark_event.specs.View.{TagView, Paragraph, Heading, BlockQuote, CodeBlock, HtmlBlock, ListOf, Item, FootnoteDefinition, DefinitionList, DefinitionListTitle, DefinitionListDefinition, Table, TableHead, TableRow, TableCell, Emphasis, Strong, Strikethrough, Superscript, Subscript, Link, Image, MetadataBlock, EventView, SourcedEvent, SourcedLeaf, Start, End, Leaf}
use Rattle.tocmark_event.specs.declared.event.TagEnd.{TagEnd}
use Rattle.tocmark_event.specs.declared.options.Error.{Error}
use Rattle.tocmark_event.specs.declared.options.Error.TheVariants as error
use Rattle.tocmark_write_emphasis.specs.Low.{site_in}
use Rattle.tocmark_spelling.specs.Body.{Trees}
use Rattle.tocmark_spelling.specs.ById.{by_id}
use Rattle.tocmark_spelling.specs.Plan.{Setting, Manner}
use Rattle.tocmark_spelling.specs.Look.{look}
use Rattle.tocmark_spelling.specs.Page.{Path, Page, Site, Around}
use Rattle.tocmark_spelling.specs.Opening.{opening}
use Rattle.tocmark_spelling.specs.Closing.{closing}
use Rattle.tocmark_spelling.specs.Stretch.{leaf_on}
use Rattle.tocmark_spelling.specs.Spelling.{id_on, skips_body}
use Rattle.tocmark_write_unit.specs.NeighboursOf.{is_leaf_event, opening_at}
use Rattle.tocmark_spelling.specs.Scans.{span}
use Rattle.tocmark_spelling.specs.Machine.{Machine, going, skipping, refused, arrive, entered, started, around, begun_if, kids_of, step, run, answer_of}
use Rattle.tocmark_write_unit.specs.Turn.{Goes, GoesOn, IsRefused, Moves, Passes}
use Rattle.tocmark_write_renderer.specs.WriterOf.{Rendering, levels_of, page_of, site_of, Arrives, Stands, IsRefusal, Comes}
use Rattle.tocmark_write_unit.proofs.Opened.{IsOpened, opening-opened}
use Rattle.tocmark_write_blocks.specs.AheadOf.{is_opened}
use Rattle.tocmark_spelling.proofs.Looks.{behind-span, behind-open}
use Rattle.tocmark_write_unit.proofs.Jumps.{passes-body}

-- where the writer is
site-of-stands : (w : Rendering) (path : Path) (page : Page) → Stands w path page → record { path = path; page = page } ≡ site_of w
site-of-stands w path page h =
    ap (λ x. record { path = x; page = page }) (sym h.path_is) ∙ ap (λ x. record { path = levels_of w; page = x }) (sym h.page_is)

goes-on : (w : Rendering) (path : Path) (page : Page) (before : List SourcedEvent) → Stands w path page → Goes w (going (record { path = path; page = page }) before) before
goes-on w path page before h = ap (λ x. going x before) (site-of-stands w path page h)

-- no further event was passed
pub moves-on : (w : Rendering) (s : Setting) (m : Manner) (next : Option EventView) (machine : Machine) (rest before : List SourcedEvent) → Goes w machine before → GoesOn w s m next machine rest before 0
moves-on w s m next machine rest before goes =
    record {
      within = omega arith;
      site_is = ap site_in goes;
      run_is = ap (λ x. answer_of (run s m next rest x)) goes;
    }

refuses-started : (e : Error) (t : TagView) (o : Option Site) (before : List SourcedEvent) → IsRefusal e o → IsRefused e (started t o before)
refuses-started error.OutOfMemory t o before r = tt
refuses-started error.UnexpectedEvent t o before r = ap (λ o. started t o before) r
refuses-started (error.FormatFailed f) t o before r = absurd r
refuses-started error.Unrepresentable t o before r = absurd r
refuses-started error.InvalidSourceRange t o before r = absurd r
refuses-started error.Finished t o before r = absurd r
refuses-started error.Failed t o before r = absurd r

refuses-arrive : (e : Error) (o : Option Site) (before : List SourcedEvent) → IsRefusal e o → IsRefused e (arrive o before)
refuses-arrive error.OutOfMemory o before r = tt
refuses-arrive error.UnexpectedEvent o before r = ap (λ o. arrive o before) r
refuses-arrive (error.FormatFailed f) o before r = absurd r
refuses-arrive error.Unrepresentable o before r = absurd r
refuses-arrive error.InvalidSourceRange o before r = absurd r
refuses-arrive error.Finished o before r = absurd r
refuses-arrive error.Failed o before r = absurd r

pub arrive-moves : {X : Type 0} (result : Result X Error) (w : Rendering) (o : Option Site) (before : List SourcedEvent) → Comes result w o → Moves result w (arrive o before) before
arrive-moves (Ok x) w None before h = absurd h
arrive-moves (Ok x) w (Some here) before h = goes-on w here.path here.page before h
arrive-moves (Err e) w o before h = refuses-arrive e o before h

-- ---- a container

-- whether the body of the container that was opened is left out
abbrev SkipsAs : Bool → Option Site → Type 0
SkipsAs b None = Unit {0}
SkipsAs b (Some here) = skips_body here.path ≡ b

opened-skips : (o : Option Site) → IsOpened o → SkipsAs false o
opened-skips None h = tt
opened-skips (Some here) h = h

-- a body is left out where its id is in its place
module _ (s : Setting) (m : Manner) (kids : Trees) (a : Around) (path : Path) (p : Page) where
  opened-as : (t : TagView) → is_opened t ≡ true → SkipsAs false (opening s m t (look s m t kids a) path p)
  opened-as t e = opened-skips (opening s m t (look s m t kids a) path p) (opening-opened s m t (look s m t kids a) path p e)

  skips-as : (t : TagView) → SkipsAs (by_id s t kids) (opening s m t (look s m t kids a) path p)
  unfolding by_id opening
  skips-as Paragraph = opened-as Paragraph refl
  skips-as (Heading level id classes attrs) = opened-as (Heading level id classes attrs) refl
  skips-as (BlockQuote k) = opened-as (BlockQuote k) refl
  skips-as (CodeBlock k) = opened-as (CodeBlock k) refl
  skips-as HtmlBlock = opened-as HtmlBlock refl
  skips-as (ListOf n) = opened-as (ListOf n) refl
  skips-as Item = opened-as Item refl
  skips-as (FootnoteDefinition label) = opened-as (FootnoteDefinition label) refl
  skips-as DefinitionList = opened-as DefinitionList refl
  skips-as DefinitionListTitle = opened-as DefinitionListTitle refl
  skips-as DefinitionListDefinition = opened-as DefinitionListDefinition refl
  skips-as (Table cs) = opened-as (Table cs) refl
  skips-as TableHead = opened-as TableHead refl
  skips-as TableRow = opened-as TableRow refl
  skips-as TableCell = opened-as TableCell refl
  skips-as Emphasis = refl
  skips-as Strong = refl
  skips-as Strikethrough = opened-as Strikethrough refl
  skips-as Superscript = opened-as Superscript refl
  skips-as Subscript = opened-as Subscript refl
  skips-as (Link k d u i) = refl
  skips-as (Image k d u i) = refl
  skips-as (MetadataBlock k) = opened-as (MetadataBlock k) refl

-- after an opening the writer is where the machine is
entered-at : (b : Bool) (t : TagView) (w : Rendering) (o : Option Site) (before : List SourcedEvent) → SkipsAs b o → Arrives w o → started t o before ≡ entered b t (site_of w) before
entered-at b t w None before skips h = absurd h
entered-at b t w (Some here) before skips h =
    ap (λ x. entered x t here before) skips ∙ ap (λ x. entered b t x before) (site-of-stands w here.path here.page h)

module _ (s : Setting) (m : Manner) (next : Option EventView) (t : TagView) (rest before : List SourcedEvent) (here : Site) (lt : span 0 rest < length rest) where
  abbrev stepped : Machine
  stepped = step s m next (Start t) rest (going here before)

  starts : stepped ≡ started t (opening_at s m next t rest before here) (Start t ∷ before)
  starts = ap (λ o. begun_if s m next t (kids_of rest) o here before) (behind-span rest 0 lt)

  -- its opening was refused
  pub start-fails : (e : Error) → IsRefusal e (opening_at s m next t rest before here) → IsRefused e stepped
  start-fails e r = subst (IsRefused e) (sym starts) (refuses-started e t (opening_at s m next t rest before here) (Start t ∷ before) r)

  module _ (mid : Rendering) (opened : Arrives mid (opening_at s m next t rest before here)) where
    entered-as : (b : Bool) → b ≡ by_id s t (kids_of rest) → stepped ≡ entered b t (site_of mid) (Start t ∷ before)
    entered-as b is =
        let o = opening_at s m next t rest before here in
        let a = around before (drop (suc (span 0 rest)) rest) next in
        let skips : SkipsAs (by_id s t (kids_of rest)) o = skips-as s m (kids_of rest) a here.path _ t in
        starts ∙ entered-at b t mid o (Start t ∷ before) (subst (λ x. SkipsAs x o) (sym is) skips) opened

    -- its body comes
    pub start-moves : false ≡ by_id s t (kids_of rest) → GoesOn mid s m next stepped rest (Start t ∷ before) 0
    start-moves is = moves-on mid s m next stepped rest (Start t ∷ before) (entered-as false is)

    -- its id is in place of its body
    pub start-passes : (w : Rendering) (n : ℕ) → n ≡ span 0 rest → true ≡ by_id s t (kids_of rest) → Arrives w (id_on t (site_of mid)) → GoesOn w s m next stepped rest (Start t ∷ before) n
    start-passes w n width is named =
        let there = site_of w in
        let at : stepped ≡ skipping 0 there (Start t ∷ before) =
        entered-as true is ∙ ap (λ x. skipping 0 x (Start t ∷ before)) (site-of-stands w _ _ named) in
        record {
          within = omega (arith, width, lt);
          site_is = ap site_in at;
          run_is = ap (λ x. answer_of (run s m next rest x)) at
              ∙ ap answer_of (passes-body s m next rest there (Start t ∷ before) lt)
              ∙ ap (λ k. answer_of (run s m next (drop k rest) (going there (reverse (take k rest) ++ Start t ∷ before)))) (sym width);
        }

-- a container that isn't closed is refused
pub start-refused : (s : Setting) (m : Manner) (next : Option EventView) (t : TagView) (rest before : List SourcedEvent) (here : Site) → length rest ≤ span 0 rest → step s m next (Start t) rest (going here before) ≡ refused
start-refused s m next t rest before here h = ap (λ o. begun_if s m next t (kids_of rest) o here before) (behind-open rest 0 h)

-- what a call did from where the writer was in between
pub comes-at : {X : Type 0} (result : Result X Error) (w mid : Rendering) (f : Path → Page → Option Site) (path : Path) (page : Page) → Stands mid path page → Comes result w (f (levels_of mid) (page_of mid)) → Comes result w (f path page)
comes-at result w mid f path page h comes =
    let P : Path → Type 0 = λ x. Comes result w (f x (page_of mid)) in
    let Q : Page → Type 0 = λ x. Comes result w (f path x) in
    subst Q h.page_is (subst P h.path_is comes)

-- a container was closed
pub end-moves : {X : Type 0} (result : Result X Error) (w : Rendering) (s : Setting) (m : Manner) (next : Option EventView) (k : TagEnd) (rest before : List SourcedEvent) (here : Site) → Comes result w (closing s.options here.path here.page) → Moves result w (step s m next (End k) rest (going here before)) (End k ∷ before)
end-moves result w s m next k rest before here comes =
    arrive-moves result w (closing s.options here.path here.page) (End k ∷ before) comes

-- the same, and no further event was passed
pub end-passes : (result : Result ℕ Error) (w : Rendering) (s : Setting) (m : Manner) (next : Option EventView) (k : TagEnd) (rest before : List SourcedEvent) (here : Site) → Comes result w (closing s.options here.path here.page) → IfOk result (λ n. n ≡ 0) → Passes result w s m next (step s m next (End k) rest (going here before)) rest (End k ∷ before)
end-passes (Ok n) w s m next k rest before here comes none =
    let machine = step s m next (End k) rest (going here before) in
    subst (λ x. GoesOn w s m next machine rest (End k ∷ before) x) (sym none) (moves-on w s m next machine rest (End k ∷ before) (end-moves {X = ℕ} (Ok n) w s m next k rest before here comes))
end-passes (Err e) w s m next k rest before here comes none = end-moves {X = ℕ} (Err e) w s m next k rest before here comes

leaf-of : (P : SourcedEvent → Type 0) (e : SourcedEvent) → is_leaf_event e ≡ true → ((l : SourcedLeaf) → e ≡ Leaf l → P e) → P e
leaf-of P (Leaf l) h f = f l refl
leaf-of P (Start t) h f = absurd (false≢true h)
leaf-of P (End k) h f = absurd (false≢true h)

-- a leaf was written
pub leaf-moves : (w : Rendering) (s : Setting) (m : Manner) (next : Option EventView) (e : SourcedEvent) (l : SourcedLeaf) (rest before : List SourcedEvent) (here : Site) → e ≡ Leaf l → Stands w (leaf_on s m l (around before rest next) here.path here.page).path (leaf_on s m l (around before rest next) here.path here.page).page → Goes w (step s m next e rest (going here before)) (e ∷ before)
leaf-moves w s m next e l rest before here is stands =
    let P : SourcedEvent → Type 0 = λ x. Goes w (step s m next x rest (going here before)) (x ∷ before) in
    let there = leaf_on s m l (around before rest next) here.path here.page in
    subst P (sym is) (goes-on w there.path there.page (Leaf l ∷ before) stands)

module _ (w : Rendering) (s : Setting) (m : Manner) (next : Option EventView) (rest before : List SourcedEvent) (here : Site) where
  -- the same of an event that is a leaf
  pub leaf-passes : (e : SourcedEvent) → is_leaf_event e ≡ true → ((l : SourcedLeaf) → e ≡ Leaf l → Stands w (leaf_on s m l (around before rest next) here.path here.page).path (leaf_on s m l (around before rest next) here.path here.page).page) → GoesOn w s m next (step s m next e rest (going here before)) rest (e ∷ before) 0
  leaf-passes e leaf stands =
      moves-on w s m next (step s m next e rest (going here before)) rest (e ∷ before)
      (leaf-of (λ x. Goes w (step s m next x rest (going here before)) (x ∷ before)) e leaf (λ l is. leaf-moves w s m next e l rest before here is (stands l is)))

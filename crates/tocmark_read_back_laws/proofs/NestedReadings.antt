-- Documents with lists in lists are read back: the trees that are read of a layout are those that are declared of it.
use Rattle.std.proofs.Common.{◌≡◌, ℕ, ◌+◌, ◌*◌, ◌^◌, ◌<◌, Bool, true, false, not, List, length, refl, ap, sym, subst, ◌∙◌, arith, Some, None}
use Rattle.tocmark_event.specs.Options.{OptionsView}
use Rattle.tocmark_event.specs.declared.event.flags.ParserOptions.{ParserOptions}
use Rattle.tocmark_read_scan.specs.declared.syntax.TheConstants.{CORE}
use Rattle.tocmark_read_blocks.specs.Blocks.{blocks_in}
use Rattle.tocmark_commonmark.specs.Blocks.{blocks_of}
use Rattle.tocmark_commonmark.specs.Tree as block
use Rattle.tocmark_block_laws.specs.Quotes.{Agrees}
use Rattle.tocmark_block_laws.specs.Trees.{told, told_before}
use Rattle.tocmark_state.specs.Walk.{nothing_yet, script}
use Rattle.tocmark_state.specs.WorkView.{rendering}
use Rattle.tocmark_laws.specs.Documents.{ArePlainTokens}
use Rattle.tocmark_document_laws.specs.Blocks.{Blocks, Nothing, PlainThen, QuoteThen, BulletsThen, ItemThen, ArePlainIn, ArePlain, document, events_of}
use Rattle.tocmark_document_laws.specs.DocumentLines.{Line, How, Beside, Marked, Below, Outside, no_lists, bullet_for, feeds_below, feeds_below_item, feeds_below_list, feeds_below_quote, in_bullets, layout, lines_of}
use Rattle.tocmark_document_laws.specs.LaidOut.{JoinTo}
use Rattle.tocmark_document_laws.specs.ReadBack.{BlocksTabless, HasTrees, fed_before}
use Rattle.tocmark_document_laws.proofs.DocumentsLaidOut.{documents_laid_out}
use Rattle.tocmark_document_laws.proofs.ReadBackTexts.{ended}
use Rattle.tocmark_document_laws.proofs.ReadBackBlocks.{lines_joined}
use Rattle.tocmark_layout_laws.specs.Declared.{declared, declared_block, declared_tree, is_tight, HasSafeRules}
use Rattle.tocmark_layout_laws.proofs.Bullets.{IsBullet}
use Rattle.tocmark_layout_laws.proofs.ListedLayouts.{layouts_with_lists_declared}
use Rattle.tocmark_read_back_laws.specs.Documents.{IsReadAsEvents}
use Rattle.tocmark_read_back_laws.specs.Nested.{IsSpaced, NestedLayoutsAgree, NestedLayoutsAreReadBack, NestedDocumentsAreReadBack}
use Rattle.tocmark_read_back_laws.specs.Trees.{blocks_as}
use Rattle.tocmark_read_back_laws.proofs.ReadTrees.{trees_blocks}
use Rattle.tocmark_read_back_laws.proofs.SafeLines.{bullet_from}
use Rattle.tocmark_read_back_laws.proofs.LaidTrees.{block_told, undefined}
use Rattle.tocmark_read_back_laws.proofs.LaidReadings.{agreed_layouts_read_back}
use Rattle.tocmark_read_back_laws.proofs.NestedTexts.{Bound}
use Rattle.tocmark_read_back_laws.proofs.NestedBlocks.{IsSome, Leaves, all_lines, all_read, empty, space, split, trees_in}
use Rattle.tocmark_read_back_laws.proofs.NestedLaws.{laws}
use Rattle.tocmark_read_back_laws.proofs.NestedLeaves.{leaves}
use Rattle.tocmark_read_back_laws.proofs.NestedTags.{spaced_tags}

twice_not : (k : Bool) → not (not k) ≡ k
twice_not true = refl
twice_not false = refl

module _ (o : OptionsView) (flags : ParserOptions) (tokens : ArePlainTokens o) where
  -- the trees that blocks are read as are the declared ones
  trees_as : (items e : Bool) (c : Outside) (how : How) (f : Blocks) → ArePlainIn items f → blocks_as (trees_in o flags c how e f) ≡ told (declared o flags c how f)
  trees_as items e c how Nothing h = refl
  trees_as false e c how (PlainThen b f) h =
      block_told o flags tokens (fed_before e f) b (blocks_as (trees_in o flags c (Below (feeds_below o b) None) e f)) (h.0)
      ∙ ap (told_before (declared_block o flags b)) (trees_as false e c (Below (feeds_below o b) None) f (h.1))
  trees_as true e c how (PlainThen b f) h = absurd h
  trees_as false e c how (QuoteThen kids f) h =
      ap (λ x. block.more (block.Quote x) (blocks_as (trees_in o flags c (Below (feeds_below_quote o) None) e f))) (trees_as false (fed_before e f) c Beside kids (h.0))
      ∙ ap (λ x. block.more (block.Quote (told (declared o flags c Beside kids))) x) (trees_as false e c (Below (feeds_below_quote o) None) f (h.1))
  trees_as true e c how (QuoteThen kids f) h = absurd h
  trees_as false e c how (BulletsThen items f) h =
      let b : ℕ = bullet_for o c how in
      let ci : Outside = in_bullets b c in
      let below : How = Below (feeds_below_list o c.listed items) (Some b) in
      ap (λ k. block.more (block.BulletList 0 k (blocks_as (trees_in o flags ci Beside (fed_before e f) items))) (blocks_as (trees_in o flags c below e f))) (twice_not (is_tight o ci items))
      ∙ ap (λ x. block.more (block.BulletList 0 (is_tight o ci items) x) (blocks_as (trees_in o flags c below e f))) (trees_as true (fed_before e f) ci Beside items (h.2))
      ∙ ap (λ x. block.more (block.BulletList 0 (is_tight o ci items) (told (declared o flags ci Beside items))) x) (trees_as false e c below f (h.3))
  trees_as true e c how (BulletsThen items f) h = absurd h
  trees_as false e c how (ItemThen kids f) h = absurd h
  trees_as true e c how (ItemThen kids f) h =
      ap (λ x. block.more (block.Item x) (blocks_as (trees_in o flags c (Below (feeds_below_item o kids) None) e f))) (trees_as false (fed_before e f) c Marked kids (h.0))
      ∙ ap (λ x. block.more (block.Item (told (declared o flags c Marked kids))) x) (trees_as true e c (Below (feeds_below_item o kids) None) f (h.1))

  module _ (token : IsBullet o.list_token) where
    known : Leaves o flags laws token
    known = leaves o flags laws tokens token

    some_read : (f : Blocks) → IsSome f → ArePlain f → HasSafeRules o no_lists Beside f → BlocksTabless f → IsSpaced o f → Bound (ended false (lines_of o flags no_lists Beside f)) → HasTrees (ended false (lines_of o flags no_lists Beside f)) (trees_in o flags no_lists Beside false f)
    some_read f s h safe tab spaced small =
        let same = split o flags laws token known no_lists Beside f s in
        subst (λ (ls : List Line). HasTrees (ended false ls) (trees_in o flags no_lists Beside false f)) (sym same)
        (all_lines o flags laws token known false no_lists Beside f (space o flags laws token known no_lists Beside f) (empty o flags laws token known no_lists Beside f) (all_read o flags laws token known f) s h tab safe spaced (subst (λ (ls : List Line). Bound (ended false ls)) same small)).has

    lines_read : (f : Blocks) → ArePlain f → HasSafeRules o no_lists Beside f → BlocksTabless f → IsSpaced o f → Bound (ended false (lines_of o flags no_lists Beside f)) → HasTrees (ended false (lines_of o flags no_lists Beside f)) (trees_in o flags no_lists Beside false f)
    lines_read Nothing h safe tab spaced small = laws.nothing_has
    lines_read (PlainThen b f) h safe tab spaced small = some_read (PlainThen b f) tt h safe tab spaced small
    lines_read (QuoteThen kids f) h safe tab spaced small = some_read (QuoteThen kids f) tt h safe tab spaced small
    lines_read (BulletsThen items f) h safe tab spaced small = some_read (BulletsThen items f) tt h safe tab spaced small
    lines_read (ItemThen kids f) h safe tab spaced small = absurd h

    nested_agrees : (f : Blocks) → blocks_of (layout o flags f) ≡ declared_tree o flags f → ArePlain f → HasSafeRules o no_lists Beside f → BlocksTabless f → IsSpaced o f → Bound (layout o flags f) → Agrees (layout o flags f)
    nested_agrees f same h safe tab spaced small =
        let text : List ℕ = layout o flags f in
        let ls : List Line = lines_of o flags no_lists Beside f in
        let has : HasTrees text (trees_in o flags no_lists Beside false f) =
        subst (λ (t : List ℕ). HasTrees t (trees_in o flags no_lists Beside false f)) (sym (lines_joined ls)) (lines_read f h safe tab spaced (subst Bound (lines_joined ls) small)) in
        record {
          blocks = trees_blocks text (blocks_in CORE text) ∙ ap blocks_as has.trees_are ∙ trees_as false false no_lists Beside f h ∙ ap told (sym same);
          definitions = has.undefined ∙ sym (undefined o flags tokens no_lists Beside f) ∙ ap block.defined (sym same);
        }

pub nested_layouts_agree : NestedLayoutsAgree
nested_layouts_agree options flags f tokens bullet plain safe tabless spaced small =
    nested_agrees options flags tokens (bullet_from options.list_token bullet) f (layouts_with_lists_declared options flags f tokens bullet plain safe (omega (arith, small))) plain safe tabless spaced small

pub nested_layouts_read_back : NestedLayoutsAreReadBack
nested_layouts_read_back options flags f tokens bullet plain safe tabless spaced small =
    agreed_layouts_read_back options flags f tokens bullet plain safe (spaced_tags options f plain spaced) tabless (omega (arith, small)) (nested_layouts_agree options flags f tokens bullet plain safe tabless spaced small)

pub nested_documents_read_back : NestedDocumentsAreReadBack
nested_documents_read_back options reading flags source f unchecked tokens bullet plain safe tabless spaced =
    let laid : JoinTo (script (rendering options reading) source (nothing_yet flags) (document f)) (layout options flags f) = documents_laid_out options reading flags source f unchecked tokens bullet plain in
    record {
      ends_well = laid.ends_well;
      read = λ small.
          subst (λ (t : List ℕ). IsReadAsEvents t (events_of f)) (sym laid.is)
          (nested_layouts_read_back options flags f tokens bullet plain safe tabless spaced (subst (λ (t : List ℕ). 32 * length t + 60 < 2 ^ 64) laid.is small));
    }

-- The item that a marker makes of a text without an idle line is in a tight list.
use Rattle.std.proofs.Common.{◌≡◌, ℕ, ◌+◌, ◌-◌, ◌*◌, ◌^◌, ◌<◌, Bool, true, false, ◌&&◌, ◌||◌, nat_le, List, [], ◌∷◌, ◌++◌, length, map, refl, ap, sym, subst, ◌∙◌, arith}
use Rattle.std.specs.List.{AllByRecursion}
use Rattle.tocmark_read_scan.specs.Basic.{bytes_between}
use Rattle.tocmark_read_scan.specs.declared.syntax.TheConstants.{CORE}
use Rattle.tocmark_read_lines.specs.Lines.{lines_of}
use Rattle.tocmark_read_lines.specs.declared.container.ItemStart.{ItemStart}
use Rattle.tocmark_read_lines.specs.declared.line.Line.{Line}
use Rattle.tocmark_read_page.specs.Pages.{State, first_page}
use Rattle.tocmark_read_page.specs.declared.leaf.Leaf.{Leaf}
use Rattle.tocmark_read_page.specs.declared.page.Block.{Block}
use Rattle.tocmark_read_page.specs.declared.piece.Piece.{Piece}
use Rattle.tocmark_read_blocks.specs.Blocks.{core_known, line_taken_in, blocks_in}
use Rattle.tocmark_text_laws.specs.Items.{ItemMark, IsItem, item_front, item_text, first_number}
use Rattle.tocmark_text_laws.specs.Lines.{IsLine}
use Rattle.tocmark_text_laws.specs.Loose.{is_inky, has_ink, is_open, goes_in_leaf, NoneIsIdleFrom, NoneIsIdle, MarksMakeATightItem}
use Rattle.tocmark_text_laws.specs.Quoted.{ListFrom, Item, Node, none, more, Told, told, read_trees}
use Rattle.tocmark_text_laws.proofs.Endings.{lines-end}
use Rattle.tocmark_text_laws.proofs.Pages.{is_shut}
use Rattle.tocmark_text_laws.proofs.QuotedPieces.{LineOn}
use Rattle.tocmark_text_laws.proofs.QuotedLines.{LinesOn}
use Rattle.tocmark_text_laws.proofs.ItemPages.{Inside, inside_more}
use Rattle.tocmark_text_laws.proofs.ItemTurns.{IsInItem, line_in}
use Rattle.tocmark_text_laws.proofs.ItemMarks.{item_of, front_few}
use Rattle.tocmark_text_laws.proofs.ItemLines.{item_lines, Leads, first_leads}
use Rattle.tocmark_text_laws.proofs.ItemRun.{Fits, first_in, line_begins, begins_some, item_blocks}
use Rattle.tocmark_text_laws.proofs.Tight.{IsTight}
use Rattle.tocmark_text_laws.proofs.TightWalk.{or_more, or_left}
use Rattle.tocmark_text_laws.proofs.TightIdle.{and_both, open_leaf, none_loose}

pub ink_after : (xs ys : List ℕ) → has_ink ys ≡ true → has_ink (xs ++ ys) ≡ true
ink_after [] ys h = h
ink_after (x ∷ xs) ys h = or_more (is_inky x) (has_ink (xs ++ ys)) (ink_after xs ys h)

-- a line of the item isn't idle if it isn't without the item
idle_line : (t q : List ℕ) (l' l : Line) (there here : State) → LineOn t q l' l → there.leaf ≡ here.leaf → (is_shut here.leaf ≡ false → there.line ≡ here.line)
    → (has_ink (bytes_between t l.start l.end) || goes_in_leaf l here) ≡ true → (has_ink (bytes_between q l'.start l'.end) || goes_in_leaf l' there) ≡ true
idle_line t q l' l there here h same tied ok = by (has_ink (bytes_between t l.start l.end)) refl ok
  where
    goes : (is_open here.leaf ≡ true) × (nat_le l.number here.line ≡ true) → goes_in_leaf l' there ≡ true
    goes g =
        ap (λ (k : Leaf). is_open k && nat_le l'.number there.line) same
        ∙ ap (λ b. b && nat_le l'.number there.line) (g.0)
        ∙ ap (λ n. nat_le n there.line) h.number
        ∙ ap (λ n. nat_le l.number n) (tied (open_leaf here.leaf (g.0)))
        ∙ g.1

    by : (x : Bool) → has_ink (bytes_between t l.start l.end) ≡ x → (x || goes_in_leaf l here) ≡ true → (has_ink (bytes_between q l'.start l'.end) || goes_in_leaf l' there) ≡ true
    by true e g = or_left (has_ink (bytes_between q l'.start l'.end)) (goes_in_leaf l' there) (ap has_ink h.words ∙ ink_after h.front (bytes_between t l.start l.end) e)
    by false e g = or_more (has_ink (bytes_between q l'.start l'.end)) (goes_in_leaf l' there) (goes (and_both (is_open here.leaf) (nat_le l.number here.line) g))

idle_in : (item : ItemStart) (first t q : List ℕ) (n before : ℕ) (ls' ls : List Line) (there here : State) → LinesOn (IsInItem first item.width) t q before n ls' ls → 0 < before → AllByRecursion (IsLine t) ls → 0 < item.width → 2 * n + 9 < 2 ^ 64 → Inside item t q (2 * n) there here
    → NoneIsIdleFrom t here ls → NoneIsIdleFrom q there ls'
idle_in item first t q n before [] ls there here h late one wide few g idle = tt
idle_in item first t q n before (l' ∷ ls') [] there here h late one wide few g idle = absurd h
idle_in item first t q n before (l' ∷ ls') (l ∷ ls) there here (row, rest) late one wide few g (ok, idle) = (
  idle_line t q l' l there' here' row.line next.leaf (λ e. (next.tied e).0) ok,
  idle_in item first t q l.next (before + 1) ls' ls there' here' rest (omega (arith, late)) (one.1) wide row.line.near
      (inside_more item t q (2 * n + 2 * (l.end - l.start)) (2 * l.next) there' here' (omega (arith, row.low, row.line.order, row.line.onto)) next) idle,
)
  where
    there' : State
    there' = line_taken_in core_known q there l'

    here' : State
    here' = line_taken_in core_known t here l

    next : Inside item t q (2 * n + 2 * (l.end - l.start)) there' here'
    next = line_in item first t q (2 * n) before n l' l there here row late (one.0) wide few g

idle_first : (m : ItemMark) (t q : List ℕ) (ls' ls : List Line) → Fits m t → LinesOn (IsInItem (item_front m) (item_of m).width) t q 0 0 ls' ls → Leads ls → AllByRecursion (IsLine t) ls → NoneIsIdleFrom t first_page ls → NoneIsIdleFrom q first_page ls'
idle_first m t q [] ls f h lead one idle = tt
idle_first m t q (l' ∷ ls') [] f h lead one idle = absurd h
idle_first m t q (l' ∷ ls') (l ∷ ls) f (row, rest) lead one (ok, idle) = (
  idle_line t q l' l there here row.line next.leaf (λ e. (next.tied e).0) ok,
  idle_in (item_of m) (item_front m) t q l.next 1 ls' ls there here rest (omega arith) (one.1) (let z : 0 < length (item_front m) = omega (arith, (front_few m f.kind).0) in z) row.line.near
      (inside_more (item_of m) t q (2 * (l.end - l.start)) (2 * l.next) there here (omega (arith, row.line.order, row.line.onto)) next) idle,
)
  where
    there : State
    there = line_taken_in core_known q first_page l'

    here : State
    here = line_taken_in core_known t first_page l

    next : Inside (item_of m) t q (2 * (l.end - l.start)) there here
    next = first_in m t q l' l f row (lead.0) (lead.1) (one.0)

-- whether the first block is loose
abbrev first_loose : List Told → Bool
first_loose [] = false
first_loose (b ∷ bs) = b.loose

told_tight : (q : List ℕ) (ps : List Piece) (bs : List Block) → AllByRecursion IsTight bs → first_loose (map (told q ps) bs) ≡ false
told_tight q ps [] h = refl
told_tight q ps (b ∷ bs) h = h.0

pub tight_item : MarksMakeATightItem
tight_item m bare t ok starts plain break fits idle = subst (λ (x : Bool). read_trees q ≡ more (Node (ListFrom (first_number m.mark)) x [] (more (Node Item false [] (read_trees t)) none)) none) tight is.trees
  where
    q : List ℕ
    q = item_text m bare t

    is : IsItem m bare t
    is = item_blocks m bare t ok starts plain break fits

    some : 0 < length t
    some = begins_some m t starts

    none_idle : NoneIsIdle q
    none_idle = idle_first m t q (lines_of q) (lines_of t) (record { kind = ok; begins = starts; break = break }) (item_lines m bare t ok some plain fits) (first_leads t (line_begins m t starts)) (lines-end t (omega (arith, fits))) idle

    tight : is.loose ≡ false
    tight = sym (ap first_loose is.blocks) ∙ told_tight q (blocks_in CORE q).pieces (blocks_in CORE q).blocks (none_loose q none_idle)

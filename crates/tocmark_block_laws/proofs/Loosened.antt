-- Blocks of which a list became loose, and lists that are open.
use Rattle.std.proofs.Common.{◌≡◌, ℕ, zero, suc, ◌+◌, ◌^◌, ◌<◌, ◌≤◌, Bool, true, false, not, ◌&&◌, ◌||◌, List, [], ◌∷◌, ◌++◌, length, slice_get, refl, ap, sym, subst, ◌∙◌, arith, append_assoc, length-append, Option, Some, None}
use Rattle.std.specs.Prelude.{slice_set}
use Rattle.std.specs.Option.{option_map_or}
use Rattle.tocmark_read_page.specs.Pages.{made_loose, loosened}
use Rattle.tocmark_read_page.specs.declared.page.Block.{Block as ReadBlock}
use Rattle.tocmark_read_page.specs.declared.page.BlockKind.TheVariants as kind
use Rattle.tocmark_read_page.specs.declared.piece.Piece.{Piece}
use Rattle.tocmark_commonmark.specs.Tree.{Block, Blocks, BulletList, OrderedList}
use Rattle.tocmark_block_laws.specs.Trees.{list_in, block_as}
use Rattle.tocmark_block_laws.proofs.ListPages.{list_loosens}
use Rattle.tocmark_block_laws.proofs.Told.{AreDeep, Run, Holds, inner_run, IsBox}

-- a list, if there is one, is among blocks
abbrev pub Listed : Option ℕ → List ReadBlock → Type 0
Listed None bs = Unit {0}
Listed (Some b) bs = b < length bs

made_cons : (x : ReadBlock) (bs : List ReadBlock) (i : ℕ) → made_loose (x ∷ bs) (suc i) ≡ x ∷ made_loose bs i
made_cons x bs i = by (slice_get bs i)
  where
    by : (o : Option ReadBlock) → option_map_or (λ (b : ReadBlock). slice_set (x ∷ bs) (suc i) (record b { loose = true })) o (x ∷ bs) ≡ x ∷ option_map_or (λ (b : ReadBlock). slice_set bs i (record b { loose = true })) o bs
    by None = refl
    by (Some y) = refl

made_twice : (bs : List ReadBlock) (i : ℕ) → made_loose (made_loose bs i) i ≡ made_loose bs i
made_twice [] i = refl
made_twice (x ∷ bs) zero = refl
made_twice (x ∷ bs) (suc i) = ap (λ zs. made_loose zs (suc i)) (made_cons x bs i) ∙ made_cons x (made_loose bs i) i ∙ ap (λ zs. x ∷ zs) (made_twice bs i) ∙ sym (made_cons x bs i)

made_front : (xs ys : List ReadBlock) (i : ℕ) → i < length xs → made_loose (xs ++ ys) i ≡ made_loose xs i ++ ys
made_front [] ys i low = absurd (omega (arith, low))
made_front (x ∷ xs) ys zero low = refl
made_front (x ∷ xs) ys (suc i) low = made_cons x (xs ++ ys) i ∙ ap (λ zs. x ∷ zs) (made_front xs ys i (omega (arith, low))) ∙ ap (λ zs. zs ++ ys) (sym (made_cons x xs i))

made_long : (bs : List ReadBlock) (i : ℕ) → length (made_loose bs i) ≡ length bs
made_long [] i = refl
made_long (x ∷ bs) zero = refl
made_long (x ∷ bs) (suc i) = ap (λ (zs : List ReadBlock). length zs) (made_cons x bs i) ∙ ap suc (made_long bs i)

pub loosened_not : (list : Option ℕ) (bs : List ReadBlock) → loosened list false bs ≡ bs
unfolding loosened
loosened_not list bs = refl

pub loosened_none : (k : Bool) (bs : List ReadBlock) → loosened None k bs ≡ bs
unfolding loosened
loosened_none true bs = refl
loosened_none false bs = refl

pub loosened_twice : (list : Option ℕ) (a b : Bool) (bs : List ReadBlock) → loosened list b (loosened list a bs) ≡ loosened list (a || b) bs
unfolding loosened
loosened_twice list false b bs = refl
loosened_twice list true false bs = refl
loosened_twice None true true bs = refl
loosened_twice (Some i) true true bs = made_twice bs i

pub loosened_front : (list : Option ℕ) (k : Bool) (xs ys : List ReadBlock) → Listed list xs → loosened list k (xs ++ ys) ≡ loosened list k xs ++ ys
unfolding loosened
loosened_front list false xs ys h = refl
loosened_front None true xs ys h = refl
loosened_front (Some i) true xs ys h = made_front xs ys i h

pub loosened_long : (list : Option ℕ) (k : Bool) (bs : List ReadBlock) → length (loosened list k bs) ≡ length bs
unfolding loosened
loosened_long list false bs = refl
loosened_long None true bs = refl
loosened_long (Some i) true bs = made_long bs i

pub listed_loosened : (list : Option ℕ) (k : Bool) (bs : List ReadBlock) → Listed list bs → Listed list (loosened list k bs)
listed_loosened None k bs h = tt
listed_loosened (Some i) k bs h = omega (arith, h, loosened_long (Some i) k bs)

-- a run whose list became loose
abbrev pub loose_run : Run → Option ℕ → Bool → Run
loose_run r list k = record r { base = loosened list k r.base }

pub holds_moved : (text : List ℕ) (r t : Run) (bs cs : List ReadBlock) (ps : List Piece) (found : Blocks) → length r.outer ≡ length t.outer → r.base ≡ t.base → r.old ≡ t.old → bs ≡ cs → Holds text r bs ps found → Holds text t cs ps found
holds_moved text r t bs cs ps found outer base old same h = record {
  mine = h.mine;
  is = sym same ∙ h.is ∙ ap (λ zs. zs ++ h.mine) base;
  deep = subst (λ d. AreDeep d h.mine) outer h.deep;
  new = h.new;
  pieces = h.pieces ∙ ap (λ zs. zs ++ h.new) old;
  says = h.says;
}

pub holds_loosened : (text : List ℕ) (r : Run) (list : Option ℕ) (k : Bool) (bs : List ReadBlock) (ps : List Piece) (found : Blocks) → Listed list r.base → Holds text r bs ps found → Holds text (loose_run r list k) (loosened list k bs) ps found
holds_loosened text r list k bs ps found listed h = record {
  mine = h.mine;
  is = ap (loosened list k) h.is ∙ loosened_front list k r.base h.mine listed;
  deep = h.deep;
  new = h.new;
  pieces = h.pieces;
  says = h.says;
}

-- a list that is open after these blocks

pub record OpenList (text : List ℕ) (r : Run) : Type 0 where
  pub sort : ℕ
  pub number : Option ℕ
  pub tight : Bool
  pub before : List ReadBlock
  pub old : List Piece
  pub block : ReadBlock
  pub found : Blocks
  pub holds : Holds text r before old found
  pub depth : block.depth ≡ length r.outer
  pub kind : block.kind ≡ kind.List number
  pub loose : block.loose ≡ not tight

-- a list as it is told
abbrev pub list_told : Bool → Option ℕ → Blocks → Block
list_told tight None is = BulletList 0 tight is
list_told tight (Some n) is = OrderedList 0 n tight is

list_as : (tight : Bool) (n : Option ℕ) (is : Blocks) → list_in (not (not tight)) is n ≡ Some (list_told tight n is)
list_as true None is = refl
list_as true (Some n) is = refl
list_as false None is = refl
list_as false (Some n) is = refl

pub list_box_told : (text : List ℕ) (r : Run) (g : OpenList text r) (is : Blocks) → IsBox text g.block is (list_told g.tight g.number is)
list_box_told text r g is pieces =
    ap (λ k. block_as text k g.block.loose pieces is) g.kind ∙ ap (λ k. block_as text (kind.List g.number) k pieces is) g.loose ∙ list_as g.tight g.number is

-- no line is counted in such a run
pub none_fits : 0 ≤ 2 ^ 64
none_fits = omega arith

abbrev pub list_run : (text : List ℕ) (r : Run) → OpenList text r → Run
list_run text r g = inner_run r g.before g.old g.block 0 0 none_fits

-- it is loose from now on, if this is so
abbrev pub loose_block : Bool → ReadBlock → ReadBlock
loose_block true b = record b { loose = true }
loose_block false b = b

pub loose_now : (apart tight : Bool) (b : ReadBlock) → b.loose ≡ not tight → (loose_block apart b).loose ≡ not (tight && not apart)
loose_now true true b e = refl
loose_now true false b e = refl
loose_now false true b e = e
loose_now false false b e = e

pub loose_depth : (apart : Bool) (b : ReadBlock) (d : ℕ) → b.depth ≡ d → (loose_block apart b).depth ≡ d
loose_depth true b d e = e
loose_depth false b d e = e

pub loose_kind : (apart : Bool) (b : ReadBlock) (n : Option ℕ) → b.kind ≡ kind.List n → (loose_block apart b).kind ≡ kind.List n
loose_kind true b n e = e
loose_kind false b n e = e

abbrev pub loosen : (text : List ℕ) (r : Run) → OpenList text r → Bool → OpenList text r
loosen text r g apart = record {
  sort = g.sort;
  number = g.number;
  tight = g.tight && not apart;
  before = g.before;
  old = g.old;
  block = loose_block apart g.block;
  found = g.found;
  holds = g.holds;
  depth = loose_depth apart g.block (length r.outer) g.depth;
  kind = loose_kind apart g.block g.number g.kind;
  loose = loose_now apart g.tight g.block g.loose;
}

pub holds_loose : (text : List ℕ) (r : Run) (g : OpenList text r) (apart : Bool) (bs : List ReadBlock) (ps : List Piece) (is : Blocks) → Holds text (list_run text r g) bs ps is → Holds text (list_run text r (loosen text r g apart)) (loosened (Some (length g.before)) apart bs) ps is
holds_loose text r g false bs ps is h = subst (λ cs. Holds text (list_run text r g) cs ps is) (sym (loosened_not (Some (length g.before)) bs)) h
holds_loose text r g true bs ps is h = record {
  mine = h.mine;
  is = ap (loosened (Some (length g.before)) true) (h.is ∙ append_assoc g.before (g.block ∷ []) h.mine) ∙ list_loosens g.before h.mine g.block ∙ sym (append_assoc g.before (record g.block { loose = true } ∷ []) h.mine);
  deep = h.deep;
  new = h.new;
  pieces = h.pieces;
  says = h.says;
}

-- it is among the blocks
pub list_listed : (text : List ℕ) (r : Run) (g : OpenList text r) (bs : List ReadBlock) (ps : List Piece) (is : Blocks) → Holds text (list_run text r g) bs ps is → length g.before < length bs
list_listed text r g bs ps is h =
    let all : length bs ≡ length ((g.before ++ g.block ∷ []) ++ h.mine) = ap (λ (zs : List ReadBlock). length zs) h.is in
    let one : length ((g.before ++ g.block ∷ []) ++ h.mine) ≡ length (g.before ++ g.block ∷ []) + length h.mine = length-append (g.before ++ g.block ∷ []) h.mine in
    let two : length (g.before ++ g.block ∷ []) ≡ length g.before + 1 = length-append g.before (g.block ∷ []) in
    omega (arith, all, one, two)

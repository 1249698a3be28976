-- Which events begin a forest's, and which are a forest's.
use Rattle.std.proofs.Common.{◌≡◌, ℕ, suc, Bool, true, false, if◌then◌else◌, Option, Some, None, Result, Ok, Err, List, [], ◌∷◌, ◌++◌, length, get_or, refl, sym, ap, ◌∙◌, nat_eq, arith}
use Rattle.std.specs.Prelude.{is_some, ◌==◌}
use Rattle.std.proofs.lemmas.Bool.Decides.{nat_tests}
use Rattle.tocmark_event.specs.Ends.{same_end, end_code}
use Rattle.tocmark_event.specs.Forest.{empty, leaf, node, flat_onto, flat, joined, Opened, Grown, IsBalanced, IsReading, closed_if, read_end, read_one, then_read, read_all, nothing_read, ends_of}
use Rattle.tocmark_event.specs.View.{Start, End, Leaf, SourcedEvent, SourcedLeaf, unsourced, end_of}
use Rattle.tocmark_event.specs.declared.event.BlockQuoteKind.TheVariants as quote
use Rattle.tocmark_event.specs.declared.event.HeadingLevel.TheVariants as level
use Rattle.tocmark_event.specs.declared.event.MetadataBlockKind.TheVariants as metadata
use Rattle.tocmark_event.specs.declared.event.TagEnd.{TagEnd}
use Rattle.tocmark_event.specs.declared.event.TagEnd.TheVariants as end
use Rattle.tocmark_event.specs.declared.options.Error.{Error}
use Rattle.tocmark_event.specs.declared.options.Error.TheVariants as error
use Rattle.tocmark_spelling.specs.Body.{Trees}
use Rattle.tocmark_write_pending.specs.Pending.{closed, nested}
use Rattle.tocmark_write_pending.specs.Units.{if_closed, trees_read, trees_of}

-- ---- equal Ends

all_ends : List TagEnd
all_ends =
    end.Paragraph ∷ end.Heading level.H1 ∷ end.Heading level.H2 ∷ end.Heading level.H3 ∷ end.Heading level.H4 ∷ end.Heading level.H5 ∷ end.Heading level.H6
    ∷ end.BlockQuote None ∷ end.BlockQuote (Some quote.Note) ∷ end.BlockQuote (Some quote.Tip) ∷ end.BlockQuote (Some quote.Important) ∷ end.BlockQuote (Some quote.Warning) ∷ end.BlockQuote (Some quote.Caution)
    ∷ end.CodeBlock ∷ end.HtmlBlock ∷ end.List true ∷ end.List false ∷ end.Item ∷ end.FootnoteDefinition ∷ end.DefinitionList ∷ end.DefinitionListTitle ∷ end.DefinitionListDefinition
    ∷ end.Table ∷ end.TableHead ∷ end.TableRow ∷ end.TableCell ∷ end.Emphasis ∷ end.Strong ∷ end.Strikethrough ∷ end.Superscript ∷ end.Subscript ∷ end.Link ∷ end.Image
    ∷ end.MetadataBlock metadata.YamlStyle ∷ end.MetadataBlock metadata.PlusesStyle ∷ []

abbrev end_with : ℕ → TagEnd
end_with n = get_or all_ends n end.Paragraph

end_with-code : (x : TagEnd) → end_with (end_code x) ≡ x
unfolding all_ends
end_with-code end.Paragraph = refl
end_with-code (end.Heading level.H1) = refl
end_with-code (end.Heading level.H2) = refl
end_with-code (end.Heading level.H3) = refl
end_with-code (end.Heading level.H4) = refl
end_with-code (end.Heading level.H5) = refl
end_with-code (end.Heading level.H6) = refl
end_with-code (end.BlockQuote None) = refl
end_with-code (end.BlockQuote (Some quote.Note)) = refl
end_with-code (end.BlockQuote (Some quote.Tip)) = refl
end_with-code (end.BlockQuote (Some quote.Important)) = refl
end_with-code (end.BlockQuote (Some quote.Warning)) = refl
end_with-code (end.BlockQuote (Some quote.Caution)) = refl
end_with-code end.CodeBlock = refl
end_with-code end.HtmlBlock = refl
end_with-code (end.List true) = refl
end_with-code (end.List false) = refl
end_with-code end.Item = refl
end_with-code end.FootnoteDefinition = refl
end_with-code end.DefinitionList = refl
end_with-code end.DefinitionListTitle = refl
end_with-code end.DefinitionListDefinition = refl
end_with-code end.Table = refl
end_with-code end.TableHead = refl
end_with-code end.TableRow = refl
end_with-code end.TableCell = refl
end_with-code end.Emphasis = refl
end_with-code end.Strong = refl
end_with-code end.Strikethrough = refl
end_with-code end.Superscript = refl
end_with-code end.Subscript = refl
end_with-code end.Link = refl
end_with-code end.Image = refl
end_with-code (end.MetadataBlock metadata.YamlStyle) = refl
end_with-code (end.MetadataBlock metadata.PlusesStyle) = refl

code-is : (a b : ℕ) → nat_eq a b ≡ true → a ≡ b
code-is a b h = grind (arith, nat_tests)

-- Ends that are the same are equal
pub same-is : (a b : TagEnd) → same_end a b ≡ true → a ≡ b
same-is a b h = sym (end_with-code a) ∙ (ap end_with (code-is (end_code a) (end_code b) h) ∙ end_with-code b)

code-same : (n : ℕ) → nat_eq n n ≡ true
code-same n = grind (arith, nat_tests)

pub same-self : (a : TagEnd) → same_end a a ≡ true
same-self a = code-same (end_code a)

-- ---- what was read was there

abbrev Read : Type 0
Read = Grown SourcedLeaf

-- what was read, and then the rest
abbrev written : List (Opened SourcedLeaf) → Trees → List SourcedEvent → List SourcedEvent
written [] f rest = flat_onto f rest
written (o ∷ os) f rest = written os o.before (Start o.tag ∷ flat_onto f rest)

pub flat_onto-joined : (f g : Trees) (rest : List SourcedEvent) → flat_onto (joined f g) rest ≡ flat_onto f (flat_onto g rest)
flat_onto-joined empty g rest = refl
flat_onto-joined (leaf l f) g rest = ap (λ es. Leaf l ∷ es) (flat_onto-joined f g rest)
flat_onto-joined (node t kids f) g rest = ap (λ es. Start t ∷ flat_onto kids (End (end_of t) ∷ es)) (flat_onto-joined f g rest)

written-joined : (os : List (Opened SourcedLeaf)) (f g : Trees) (rest : List SourcedEvent) → written os (joined f g) rest ≡ written os f (flat_onto g rest)
written-joined [] f g rest = flat_onto-joined f g rest
written-joined (o ∷ os) f g rest = ap (λ es. written os o.before (Start o.tag ∷ es)) (flat_onto-joined f g rest)

some-same : {A : Type 0} (x y : A) → Some x ≡ Some y → x ≡ y
some-same x y h = cc

no-some : {A B : Type 0} (x : A) → None ≡ Some x → B
no-some x h = absurd (cc)

sound : (es : List SourcedEvent) (r s : Read) → read_all es r ≡ Some s → written s.opens s.since [] ≡ written r.opens r.since es
sound [] r s h = ap (λ (x : Read). written x.opens x.since []) (sym (some-same r s h))
sound (Leaf l ∷ es) r s h = sound es (record { opens = r.opens; since = joined r.since (leaf l empty) }) s h ∙ written-joined r.opens r.since (leaf l empty) es
sound (Start t ∷ es) r s h = sound es (record { opens = record { tag = t; before = r.since } ∷ r.opens; since = empty }) s h
sound (End k ∷ es) r s h = ended r.opens r.since (λ x j. sound es x s j) h
  where
    closing : (os : List (Opened SourcedLeaf)) (o : Opened SourcedLeaf) (f : Trees) (b : Bool) → ((x : Read) → read_all es x ≡ Some s → written s.opens s.since [] ≡ written x.opens x.since es) → same_end k (end_of o.tag) ≡ b → then_read (closed_if b o.tag o.before os f) (λ x. read_all es x) ≡ Some s → written s.opens s.since [] ≡ written (o ∷ os) f (End k ∷ es)
    closing os o f true again e h = again (record { opens = os; since = joined o.before (node o.tag f empty) }) h ∙ (written-joined os o.before (node o.tag f empty) es ∙ ap (λ x. written os o.before (Start o.tag ∷ flat_onto f (End x ∷ es))) (sym (same-is k (end_of o.tag) e)))
    closing os o f false again e h = no-some s h

    ended : (os : List (Opened SourcedLeaf)) (f : Trees) → ((x : Read) → read_all es x ≡ Some s → written s.opens s.since [] ≡ written x.opens x.since es) → then_read (read_end k os f) (λ x. read_all es x) ≡ Some s → written s.opens s.since [] ≡ written os f (End k ∷ es)
    ended [] f again h = no-some s h
    ended (o ∷ os) f again h = closing os o f (same_end k (end_of o.tag)) again refl h

none-open : (os : List (Opened SourcedLeaf)) → ends_of os ≡ [] → os ≡ []
none-open [] h = refl
none-open (o ∷ os) h = cc

-- where no container is open the events are a forest's
pub reading-balanced : (es : List SourcedEvent) → IsReading es [] → IsBalanced es
reading-balanced es (r, h, k) = (r.since, ap (λ os. written os r.since []) (sym (none-open r.opens k)) ∙ sound es nothing_read r h)

all-closed : (os : List (Opened SourcedLeaf)) (g f : Trees) → if_closed os g ≡ Some f → written os g [] ≡ flat f
all-closed [] g f h = ap flat (some-same g f h)
all-closed (o ∷ os) g f h = no-some f h

-- events of which there is a forest are that forest's
pub flat-of-trees : (es : List SourcedEvent) (f : Trees) → trees_of es ≡ Some f → flat f ≡ es
unfolding trees_of
flat-of-trees es f h = go (read_all es nothing_read) refl h
  where
    go : (o : Option Read) → read_all es nothing_read ≡ o → trees_read o ≡ Some f → flat f ≡ es
    go None e h = no-some f h
    go (Some s) e h = sym (all-closed s.opens s.since f h) ∙ sound es nothing_read s e

-- ---- the open containers say whether there is a forest

none-left : (os : List (Opened SourcedLeaf)) (f : Trees) → (length (ends_of os) == 0) ≡ is_some (if_closed os f)
none-left [] f = refl
none-left (o ∷ os) f = not-zero (length (ends_of os))
  where
    not-zero : (n : ℕ) → (suc n == 0) ≡ false
    not-zero n = grind (arith, nat_tests)

-- the events are a forest's just where no container is open after them
pub reading-whole : (es : List SourcedEvent) (ends : List TagEnd) → IsReading es ends → (length ends == 0) ≡ is_some (trees_of es)
unfolding trees_of
reading-whole es ends (r, h, k) =
    ap (λ os. length os == 0) (sym k) ∙ (none-left r.opens r.since ∙ ap (λ o. is_some (trees_read o)) (sym h))

-- ---- one more event

read_all-append : (xs ys : List SourcedEvent) (r : Read) → read_all (xs ++ ys) r ≡ then_read (read_all xs r) (λ x. read_all ys x)
read_all-append [] ys r = refl
read_all-append (x ∷ xs) ys r = go (λ y. read_all-append xs ys y) (read_one x r)
  where
    go : ((y : Read) → read_all (xs ++ ys) y ≡ then_read (read_all xs y) (λ z. read_all ys z)) → (o : Option Read) → then_read o (λ y. read_all (xs ++ ys) y) ≡ then_read (then_read o (λ y. read_all xs y)) (λ z. read_all ys z)
    go again (Some y) = again y
    go again None = refl

ok-same : (a b : List TagEnd) (r : Result (List TagEnd) Error) → r ≡ Ok a → r ≡ Ok b → a ≡ b
ok-same a b r h k = cc

read-more : (e : SourcedEvent) (r : Read) (ends : List TagEnd) → nested (ends_of r.opens) (unsourced e) ≡ Ok ends → (s : Read) × (read_all (e ∷ []) r ≡ Some s) × (ends_of s.opens ≡ ends)
read-more (Leaf l) r ends h = (record { opens = r.opens; since = joined r.since (leaf l empty) }, refl, ok-same (ends_of r.opens) ends (nested (ends_of r.opens) (unsourced (Leaf l))) refl h)
read-more (Start t) r ends h = (record { opens = record { tag = t; before = r.since } ∷ r.opens; since = empty }, refl, ok-same (end_of t ∷ ends_of r.opens) ends (nested (ends_of r.opens) (unsourced (Start t))) refl h)
read-more (End k) r ends h = ended r.opens r.since h
  where
    closing : (os : List (Opened SourcedLeaf)) (o : Opened SourcedLeaf) (f : Trees) (b : Bool) → (if b then Ok (ends_of os) else Err error.UnexpectedEvent) ≡ Ok ends → (s : Read) × (then_read (closed_if b o.tag o.before os f) (λ x. Some x) ≡ Some s) × (ends_of s.opens ≡ ends)
    closing os o f true h = (record { opens = os; since = joined o.before (node o.tag f empty) }, refl, ok-same (ends_of os) ends (Ok (ends_of os)) refl h)
    closing os o f false h = absurd (cc)

    ended : (os : List (Opened SourcedLeaf)) (f : Trees) → closed (ends_of os) k ≡ Ok ends → (s : Read) × (then_read (read_end k os f) (λ x. Some x) ≡ Some s) × (ends_of s.opens ≡ ends)
    ended [] f h = absurd (cc)
    ended (o ∷ os) f h = closing os o f (same_end k (end_of o.tag)) h

-- one more event that is nested right
pub reading-more : (es : List SourcedEvent) (e : SourcedEvent) (os ends : List TagEnd) → IsReading es os → nested os (unsourced e) ≡ Ok ends → IsReading (es ++ e ∷ []) ends
reading-more es e os ends (r, h, k) n =
    let (s, i, j) = read-more e r ends (rw k n) in
    (s, read_all-append es (e ∷ []) nothing_read ∙ (ap (λ o. then_read o (λ x. read_all (e ∷ []) x)) h ∙ i), j)

-- no event begins a forest's, and no container is open
pub reading-nothing : IsReading {L = SourcedLeaf} [] []
reading-nothing = (nothing_read, refl, refl)

-- A whole that begins at no place where one of its parts doesn't.
use Rattle.std.proofs.Common.{◌≡◌, ◌∙◌, ℕ, List, [], ◌∷◌, ◌++◌, true, false, Option, None, Some, String, ap, append_assoc, arith, map, refl, sym, string_bytes}
use Rattle.std.specs.Global.{Global}
use Rattle.std.specs.Option.{option_map}
use Rattle.tocmark_event.specs.View.{attribute_view}
use Rattle.tocmark_event.specs.declared.event.CodeBlockKindOf.TheVariants as kind
use Rattle.tocmark_event.specs.declared.event.HeadingLevel.{HeadingLevel}
use Rattle.tocmark_event.specs.declared.event.LinkType.{LinkType}
use Rattle.tocmark_event.specs.declared.event.TagOf.TheVariants as tag
use Rattle.tocmark_documents.specs.Packed.{level_byte, link_byte, packed_attribute, packed_byte, packed_heading, packed_list, packed_number, packed_option, packed_range, packed_text, quote_byte, truth_byte}
use Rattle.tocmark_documents.specs.Unpacked.{BeginsNone, own_attribute, own_code, own_link, own_tag, own_text}
use Rattle.tocmark_documents.proofs.PackedCuts.{Cuts, both, byte_cuts, list_cuts, list_viewed, none_alike, none_behind, none_first, number_cut, option_cuts, text_cuts}

pub option_none : {A : Type 0} (f : A → List ℕ) (old : List ℕ) → BeginsNone (packed_byte truth_byte) old → BeginsNone (packed_option f) old
option_none f old lacks None e h = lacks false e h
option_none f old lacks (Some a) e h = lacks true (f a ++ e) h

pub code_none : (old : List ℕ) → BeginsNone (packed_byte truth_byte) old → BeginsNone own_code old
code_none old lacks kind.Indented e h = lacks false e h
code_none old lacks (kind.Fenced info) e h = lacks true (own_text info ++ e) h

number_cuts : Cuts packed_number packed_number
number_cuts x a r s h =
    let p = number_cut x a r s h in
    p.1

pub range_behind : (x : ℕ) (old mid : List ℕ) → old ≡ packed_number x ++ mid → BeginsNone packed_number mid → BeginsNone packed_range old
range_behind x old mid read lacks = none_behind packed_number packed_number packed_number number_cuts x old mid read lacks

-- ---- the attributes of a heading

option_same : (o : Option (String Global)) → packed_option own_text o ≡ packed_option packed_text (option_map string_bytes o)
option_same None = refl
option_same (Some s) = refl

attribute_same : (a : String Global × Option (String Global)) → both own_text (packed_option own_text) a ≡ own_attribute a
attribute_same a = ap (λ z. own_text a.0 ++ z) (option_same a.1)

pub attribute_behind : (x old mid : List ℕ) → old ≡ packed_text x ++ mid → BeginsNone (packed_option own_text) mid → BeginsNone own_attribute old
attribute_behind x old mid read lacks =
    none_alike (both own_text (packed_option own_text)) own_attribute old attribute_same (none_behind packed_text own_text (packed_option own_text) text_cuts x old mid read lacks)

pub attribute_cuts : Cuts packed_attribute own_attribute
attribute_cuts x a r s h =
    let own : packed_attribute x ++ r ≡ own_text a.0 ++ packed_option own_text a.1 ++ s = h ∙ ap (λ z. z ++ s) (sym (attribute_same a)) in
    let rest = text_cuts x.0 a.0 (packed_option packed_text x.1 ++ r) (packed_option own_text a.1 ++ s) (sym (append_assoc (packed_text x.0) (packed_option packed_text x.1) r) ∙ (own ∙ append_assoc (own_text a.0) (packed_option own_text a.1) s)) in
    option_cuts packed_text own_text text_cuts x.1 a.1 r s rest

-- ---- parts in their order

pub four_read : (b : ℕ) (x y z old m1 m2 m3 new : List ℕ) → old ≡ b ∷ m1 → m1 ≡ x ++ m2 → m2 ≡ y ++ m3 → m3 ≡ z ++ new → old ≡ b ∷ (x ++ (y ++ z)) ++ new
four_read b x y z old m1 m2 m3 new r1 r2 r3 r4 =
    let last : m2 ≡ y ++ z ++ new = r3 ∙ (ap (λ m. y ++ m) r4 ∙ sym (append_assoc y z new)) in
    let rest : m1 ≡ x ++ (y ++ z) ++ new = r2 ∙ (ap (λ m. x ++ m) last ∙ sym (append_assoc x (y ++ z) new)) in
    r1 ∙ ap (λ m. b ∷ m) rest

texts_cuts : Cuts (packed_list packed_text) (packed_list own_text)
texts_cuts x a r s h = list_cuts packed_text own_text text_cuts x a r s h

optional_cuts : Cuts (packed_option packed_text) (packed_option own_text)
optional_cuts x a r s h = option_cuts packed_text own_text text_cuts x a r s h

-- ---- links

abbrev pub own_titled : String Global × String Global → List ℕ
own_titled = both own_text own_text

abbrev pub own_leading : String Global × (String Global × String Global) → List ℕ
own_leading = both own_text own_titled

link_whole : (old : List ℕ) → BeginsNone (both (packed_byte link_byte) own_leading) old → BeginsNone own_link old
link_whole old lacks t e h = lacks (t.0, (t.1, (t.2, t.3))) e h

pub link_type_none : (old : List ℕ) → BeginsNone (packed_byte link_byte) old → BeginsNone own_link old
link_type_none old lacks = link_whole old (none_first (packed_byte link_byte) own_leading old lacks)

link_rest : (k : LinkType) (old m1 : List ℕ) → old ≡ link_byte k ∷ m1 → BeginsNone own_leading m1 → BeginsNone own_link old
link_rest k old m1 r1 lacks = link_whole old (none_behind (packed_byte link_byte) (packed_byte link_byte) own_leading (byte_cuts link_byte link_byte) k old m1 r1 lacks)

pub dest_none : (k : LinkType) (old m1 : List ℕ) → old ≡ link_byte k ∷ m1 → BeginsNone own_text m1 → BeginsNone own_link old
dest_none k old m1 r1 lacks = link_rest k old m1 r1 (none_first own_text own_titled m1 lacks)

pub title_none : (k : LinkType) (dest old m1 m2 : List ℕ) → old ≡ link_byte k ∷ m1 → m1 ≡ packed_text dest ++ m2 → BeginsNone own_text m2 → BeginsNone own_link old
title_none k dest old m1 m2 r1 r2 lacks = link_rest k old m1 r1 (none_behind packed_text own_text own_titled text_cuts dest m1 m2 r2 (none_first own_text own_text m2 lacks))

pub id_none : (k : LinkType) (dest title old m1 m2 m3 : List ℕ) → old ≡ link_byte k ∷ m1 → m1 ≡ packed_text dest ++ m2 → m2 ≡ packed_text title ++ m3 → BeginsNone own_text m3 → BeginsNone own_link old
id_none k dest title old m1 m2 m3 r1 r2 r3 lacks = link_rest k old m1 r1 (none_behind packed_text own_text own_titled text_cuts dest m1 m2 r2 (none_behind packed_text own_text own_text text_cuts title m2 m3 r3 lacks))

-- ---- headings

-- the first byte
abbrev pub front : List ℕ → ℕ
front [] = 0
front (b ∷ bs) = b

abbrev pub own_lists : List (String Global) × List (String Global × Option (String Global)) → List ℕ
own_lists = both (packed_list own_text) (packed_list own_attribute)

abbrev pub own_named : Option (String Global) × (List (String Global) × List (String Global × Option (String Global))) → List ℕ
own_named = both (packed_option own_text) own_lists

heading_same : (l : HeadingLevel) (id : Option (String Global)) (cs : List (String Global)) (attrs : List (String Global × Option (String Global))) → level_byte l ∷ (packed_option own_text id ++ (packed_list own_text cs ++ packed_list own_attribute attrs)) ≡ packed_heading l (option_map string_bytes id) (map string_bytes cs) (map (attribute_view string_bytes) attrs)
heading_same l id cs attrs =
    let classes = packed_list packed_text (map string_bytes cs) in
    ap (λ z. level_byte l ∷ (z ++ (packed_list own_text cs ++ packed_list own_attribute attrs))) (option_same id)
    ∙ (ap (λ z. level_byte l ∷ (packed_option packed_text (option_map string_bytes id) ++ (z ++ packed_list own_attribute attrs))) (list_viewed packed_text string_bytes cs)
    ∙ ap (λ z. level_byte l ∷ (packed_option packed_text (option_map string_bytes id) ++ (classes ++ z))) (list_viewed packed_attribute (attribute_view string_bytes) attrs))

heading_whole : (xs : List ℕ) → BeginsNone (both (packed_byte level_byte) own_named) xs → BeginsNone own_tag (19 ∷ xs)
heading_whole xs lacks (tag.Heading l id cs attrs) e h =
    let step : 19 ∷ xs ≡ 19 ∷ (packed_heading l (option_map string_bytes id) (map string_bytes cs.items) (map (attribute_view string_bytes) attrs.items) ++ e) = h in
    let inner : xs ≡ packed_heading l (option_map string_bytes id) (map string_bytes cs.items) (map (attribute_view string_bytes) attrs.items) ++ e = cc in
    lacks (l, (id, (cs.items, attrs.items))) e (inner ∙ ap (λ z. z ++ e) (sym (heading_same l id cs.items attrs.items)))
heading_whole xs lacks t e h =
    let kind : 19 ≡ front (own_tag t ++ e) = ap front h in
    absurd (omega arith)

pub level_none : (xs : List ℕ) → BeginsNone (packed_byte level_byte) xs → BeginsNone own_tag (19 ∷ xs)
level_none xs lacks = heading_whole xs (none_first (packed_byte level_byte) own_named xs lacks)

heading_rest : (l : HeadingLevel) (xs m1 : List ℕ) → xs ≡ level_byte l ∷ m1 → BeginsNone own_named m1 → BeginsNone own_tag (19 ∷ xs)
heading_rest l xs m1 r1 lacks = heading_whole xs (none_behind (packed_byte level_byte) (packed_byte level_byte) own_named (byte_cuts level_byte level_byte) l xs m1 r1 lacks)

pub name_none : (l : HeadingLevel) (xs m1 : List ℕ) → xs ≡ level_byte l ∷ m1 → BeginsNone (packed_option own_text) m1 → BeginsNone own_tag (19 ∷ xs)
name_none l xs m1 r1 lacks = heading_rest l xs m1 r1 (none_first (packed_option own_text) own_lists m1 lacks)

pub classes_none : (l : HeadingLevel) (id : Option (List ℕ)) (xs m1 m2 : List ℕ) → xs ≡ level_byte l ∷ m1 → m1 ≡ packed_option packed_text id ++ m2 → BeginsNone (packed_list own_text) m2 → BeginsNone own_tag (19 ∷ xs)
classes_none l id xs m1 m2 r1 r2 lacks = heading_rest l xs m1 r1 (none_behind (packed_option packed_text) (packed_option own_text) own_lists optional_cuts id m1 m2 r2 (none_first (packed_list own_text) (packed_list own_attribute) m2 lacks))

pub attributes_none : (l : HeadingLevel) (id : Option (List ℕ)) (classes : List (List ℕ)) (xs m1 m2 m3 : List ℕ) → xs ≡ level_byte l ∷ m1 → m1 ≡ packed_option packed_text id ++ m2 → m2 ≡ packed_list packed_text classes ++ m3 → BeginsNone (packed_list own_attribute) m3 → BeginsNone own_tag (19 ∷ xs)
attributes_none l id classes xs m1 m2 m3 r1 r2 r3 lacks = heading_rest l xs m1 r1 (none_behind (packed_option packed_text) (packed_option own_text) own_lists optional_cuts id m1 m2 r2 (none_behind (packed_list packed_text) (packed_list own_text) (packed_list own_attribute) texts_cuts classes m2 m3 r3 lacks))

-- ---- the tags with one part

pub link_tag : (xs : List ℕ) → BeginsNone own_link xs → BeginsNone own_tag (17 ∷ xs)
link_tag xs lacks (tag.Link k d t i) e h =
    let step : 17 ∷ xs ≡ 17 ∷ (own_link (k, d, t, i) ++ e) = h in
    let inner : xs ≡ own_link (k, d, t, i) ++ e = cc in
    lacks (k, d, t, i) e inner
link_tag xs lacks t e h =
    let kind : 17 ≡ front (own_tag t ++ e) = ap front h in
    absurd (omega arith)

pub image_tag : (xs : List ℕ) → BeginsNone own_link xs → BeginsNone own_tag (18 ∷ xs)
image_tag xs lacks (tag.Image k d t i) e h =
    let step : 18 ∷ xs ≡ 18 ∷ (own_link (k, d, t, i) ++ e) = h in
    let inner : xs ≡ own_link (k, d, t, i) ++ e = cc in
    lacks (k, d, t, i) e inner
image_tag xs lacks t e h =
    let kind : 18 ≡ front (own_tag t ++ e) = ap front h in
    absurd (omega arith)

pub quote_tag : (kind : ℕ) (xs : List ℕ) → kind ≡ 20 → BeginsNone (packed_option (packed_byte quote_byte)) xs → BeginsNone own_tag (kind ∷ xs)
quote_tag kind xs is lacks (tag.BlockQuote k) e h =
    let step : 20 ∷ xs ≡ 20 ∷ (packed_option (packed_byte quote_byte) k ++ e) = ap (λ b. b ∷ xs) (sym is) ∙ h in
    let inner : xs ≡ packed_option (packed_byte quote_byte) k ++ e = cc in
    lacks k e inner
quote_tag kind xs is lacks t e h =
    let first : kind ≡ front (own_tag t ++ e) = ap front h in
    absurd (omega arith)

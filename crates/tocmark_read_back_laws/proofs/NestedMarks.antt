-- Which list marker the first line of a text begins with.
use Rattle.std.proofs.Common.{◌≡◌, inl, inr, ℕ, suc, ◌^◌, ◌<◌, Bool, true, false, not, ◌==◌, ◌&&◌, ◌||◌, nat_le, List, [], ◌∷◌, ◌++◌, length, codes, refl, ap, sym, subst, ◌∙◌, arith}
use Rattle.std.specs.Prelude.{Option, Some, None}
use Rattle.std.specs.List.{AllByRecursion, list_any}
use Rattle.std.proofs.lemmas.Bool.Decides.{nat_tests}
use Rattle.tocmark_read_lines.specs.Cells.{filled, cells_of, first_cursor}
use Rattle.tocmark_read_lines.specs.Containers.{item_at, container_at}
use Rattle.tocmark_read_lines.specs.Marks.{is_behind, tail_of, is_rule_byte, is_rule, bullet_at, ordered_at, marker_at}
use Rattle.tocmark_read_lines.specs.declared.cell.Cell.{Cell}
use Rattle.tocmark_read_lines.specs.declared.cell.Cursor.{Cursor}
use Rattle.tocmark_read_blocks.proofs.PlainFronts.{BeginsPlainly, plainly_begins_nothing}
use Rattle.tocmark_read_blocks.proofs.PlainLines.{IsWithin, cells_within, numbered}
use Rattle.tocmark_read_blocks.proofs.PlainSteps.{front, BeginsNothing}
use Rattle.tocmark_text_laws.specs.Items.{is_break}
use Rattle.tocmark_text_laws.specs.ListEnds.{item_mark}
use Rattle.tocmark_layout_laws.proofs.Bullets.{IsBullet, IsNoRule, no_rule}

-- the last byte of the marker that columns begin with, and that of a line
abbrev mark_at : List Cell → Option ℕ
mark_at cs = item_mark (container_at cs (tail_of cs) (first_cursor cs) false)

abbrev pub mark_in : List ℕ → Option ℕ
mark_in l = mark_at (cells_of [] 0 l)

some_cells : (n : ℕ) → nat_le (suc n) 0 ≡ false
some_cells n = grind (arith, nat_tests)

more_cells : (n : ℕ) → nat_le (suc (suc n)) 1 ≡ false
more_cells n = grind (arith, nat_tests)

-- lines that begin nothing

no_container : (x : List ℕ) (cs : List Cell) → BeginsNothing x cs → container_at cs (tail_of cs) front false ≡ None
unfolding container_at item_at
no_container x cs h = rw (h.some, h.quote, h.rule, h.marker) refl

nothing_at : (x : List ℕ) (cs : List Cell) → BeginsNothing x cs → mark_at cs ≡ None
nothing_at x cs h = ap (λ (c : Cursor). item_mark (container_at cs (tail_of cs) c false)) h.ink ∙ ap item_mark (no_container x cs h)

pub plain_mark : (x : List ℕ) → BeginsPlainly x → AllByRecursion IsWithin x → length x < 2 ^ 64 → mark_in x ≡ None
plain_mark x h within fits = ap mark_at (cells_within 0 x within (omega (arith, fits))) ∙ nothing_at x (numbered 0 x) (plainly_begins_nothing 0 x fits h)

-- headings and fences

hash_at : (x : List ℕ) → mark_at (numbered 0 (35 ∷ x)) ≡ None
unfolding container_at item_at is_rule is_rule_byte tail_of marker_at bullet_at ordered_at first_cursor
hash_at x = rw (some_cells (length (numbered 1 x))) refl

tick_at : (x : List ℕ) → mark_at (numbered 0 (96 ∷ x)) ≡ None
unfolding container_at item_at is_rule is_rule_byte tail_of marker_at bullet_at ordered_at first_cursor
tick_at x = rw (some_cells (length (numbered 1 x))) refl

tilde_at : (x : List ℕ) → mark_at (numbered 0 (126 ∷ x)) ≡ None
unfolding container_at item_at is_rule is_rule_byte tail_of marker_at bullet_at ordered_at first_cursor
tilde_at x = rw (some_cells (length (numbered 1 x))) refl

pub hash_mark : (x : List ℕ) → AllByRecursion IsWithin (35 ∷ x) → length (35 ∷ x) < 2 ^ 64 → mark_in (35 ∷ x) ≡ None
hash_mark x within fits = ap mark_at (cells_within 0 (35 ∷ x) within (omega (arith, fits))) ∙ hash_at x

pub tick_mark : (x : List ℕ) → AllByRecursion IsWithin (96 ∷ x) → length (96 ∷ x) < 2 ^ 64 → mark_in (96 ∷ x) ≡ None
tick_mark x within fits = ap mark_at (cells_within 0 (96 ∷ x) within (omega (arith, fits))) ∙ tick_at x

pub tilde_mark : (x : List ℕ) → AllByRecursion IsWithin (126 ∷ x) → length (126 ∷ x) < 2 ^ 64 → mark_in (126 ∷ x) ≡ None
tilde_mark x within fits = ap mark_at (cells_within 0 (126 ∷ x) within (omega (arith, fits))) ∙ tilde_at x

-- thematic breaks

pub stars_mark : mark_in (codes "***") ≡ None
unfolding container_at item_at is_rule is_rule_byte tail_of marker_at bullet_at ordered_at first_cursor is_behind filled
stars_mark = refl

pub hyphens_mark : mark_in (codes "---") ≡ None
unfolding container_at item_at is_rule is_rule_byte tail_of marker_at bullet_at ordered_at first_cursor is_behind filled
hyphens_mark = refl

-- the first line of a quote that is on lines of its own

pub quote_mark : mark_in (codes " > ") ≡ None
unfolding container_at item_at is_rule is_rule_byte tail_of marker_at bullet_at ordered_at first_cursor is_behind filled
quote_mark = refl

-- items

star_at : (x : List ℕ) → is_rule (numbered 0 (42 ∷ 32 ∷ x)) (tail_of (numbered 0 (42 ∷ 32 ∷ x))) 0 ≡ false → mark_at (numbered 0 (42 ∷ 32 ∷ x)) ≡ Some 42
unfolding container_at item_at marker_at bullet_at is_behind first_cursor
star_at x h = rw (some_cells (suc (length (numbered 2 x))), h, more_cells (length (numbered 2 x))) refl

plus_at : (x : List ℕ) → is_rule (numbered 0 (43 ∷ 32 ∷ x)) (tail_of (numbered 0 (43 ∷ 32 ∷ x))) 0 ≡ false → mark_at (numbered 0 (43 ∷ 32 ∷ x)) ≡ Some 43
unfolding container_at item_at marker_at bullet_at is_behind first_cursor
plus_at x h = rw (some_cells (suc (length (numbered 2 x))), h, more_cells (length (numbered 2 x))) refl

hyphen_at : (x : List ℕ) → is_rule (numbered 0 (45 ∷ 32 ∷ x)) (tail_of (numbered 0 (45 ∷ 32 ∷ x))) 0 ≡ false → mark_at (numbered 0 (45 ∷ 32 ∷ x)) ≡ Some 45
unfolding container_at item_at marker_at bullet_at is_behind first_cursor
hyphen_at x h = rw (some_cells (suc (length (numbered 2 x))), h, more_cells (length (numbered 2 x))) refl

bullet_at_front : (b : ℕ) (x : List ℕ) → IsBullet b → is_rule (numbered 0 (b ∷ 32 ∷ x)) (tail_of (numbered 0 (b ∷ 32 ∷ x))) 0 ≡ false → mark_at (numbered 0 (b ∷ 32 ∷ x)) ≡ Some b
bullet_at_front b x (inl e) = subst (λ c. is_rule (numbered 0 (c ∷ 32 ∷ x)) (tail_of (numbered 0 (c ∷ 32 ∷ x))) 0 ≡ false → mark_at (numbered 0 (c ∷ 32 ∷ x)) ≡ Some c) (sym e) (star_at x)
bullet_at_front b x (inr (inl e)) = subst (λ c. is_rule (numbered 0 (c ∷ 32 ∷ x)) (tail_of (numbered 0 (c ∷ 32 ∷ x))) 0 ≡ false → mark_at (numbered 0 (c ∷ 32 ∷ x)) ≡ Some c) (sym e) (plus_at x)
bullet_at_front b x (inr (inr e)) = subst (λ c. is_rule (numbered 0 (c ∷ 32 ∷ x)) (tail_of (numbered 0 (c ∷ 32 ∷ x))) 0 ≡ false → mark_at (numbered 0 (c ∷ 32 ∷ x)) ≡ Some c) (sym e) (hyphen_at x)

pub bullet_mark : (b : ℕ) (x : List ℕ) → IsBullet b → IsNoRule b x → AllByRecursion IsWithin (b ∷ 32 ∷ x) → length (b ∷ 32 ∷ x) < 2 ^ 64 → mark_in (b ∷ 32 ∷ x) ≡ Some b
bullet_mark b x is rule within fits = ap mark_at (cells_within 0 (b ∷ 32 ∷ x) within (omega (arith, fits))) ∙ bullet_at_front b x is (no_rule b x is rule)

-- an item's first line is no thematic break

any_found : (p : ℕ → Bool) (xs : List ℕ) (y : ℕ) (ys : List ℕ) → p y ≡ true → list_any p (xs ++ y ∷ ys) ≡ true
any_found p [] y ys h = ap (λ k. k || list_any p ys) h
any_found p (x ∷ xs) y ys h = ap (λ k. p x || k) (any_found p xs y ys h) ∙ by (p x)
  where
    by : (k : Bool) → (k || true) ≡ true
    by true = refl
    by false = refl

bare_break : (b : ℕ) → IsBullet b → is_break (b ∷ 32 ∷ []) ≡ false
bare_break b (inl e) = subst (λ c. is_break (c ∷ 32 ∷ []) ≡ false) (sym e) refl
bare_break b (inr (inl e)) = subst (λ c. is_break (c ∷ 32 ∷ []) ≡ false) (sym e) refl
bare_break b (inr (inr e)) = subst (λ c. is_break (c ∷ 32 ∷ []) ≡ false) (sym e) refl

broken : (c n k : Bool) → k ≡ true → (c && not k && n) ≡ false
broken true n k h = ap (λ k. not k && n) h
broken false n k h = refl

pub no_break : (b : ℕ) (x : List ℕ) → IsBullet b → IsNoRule b x → is_break (b ∷ 32 ∷ x) ≡ false
no_break b x is (inl e) = subst (λ c. is_break (c ∷ 32 ∷ x) ≡ false) (sym e) refl
no_break b x is (inr (inl e)) = subst (λ xs. is_break (b ∷ 32 ∷ xs) ≡ false) (sym e) (bare_break b is)
no_break b x is (inr (inr h)) =
    broken ((b == 42) || (b == 45) || (b == 95)) _ (list_any p (b ∷ 32 ∷ x))
    (ap (λ (xs : List ℕ). list_any p (b ∷ 32 ∷ xs)) h.is ∙ any_found p (b ∷ 32 ∷ h.before) h.byte h.after (apart (h.byte == 32) (h.byte == b) h.space h.other))
  where
    p : ℕ → Bool
    p = λ x. not ((x == 32) || (x == b))

    apart : (c d : Bool) → c ≡ false → d ≡ false → not (c || d) ≡ true
    apart true d e f = absurd cc
    apart false true e f = absurd cc
    apart false false e f = refl

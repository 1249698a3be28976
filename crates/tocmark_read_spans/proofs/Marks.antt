-- Lists of roles by the numbers of their marks.
use Rattle.std.proofs.Common.{◌≡◌, ℕ, zero, suc, ◌+◌, ◌-◌, List, [], ◌∷◌, map, replicate, take, refl, sym, ap, subst, ◌∙◌, ◌<◌, ◌≤◌, length, get_or, arith}
use Rattle.std.specs.Prelude.{slice_set, Option}
use Rattle.std.proofs.lemmas.Option.{slice_get-get_or}
use Rattle.std.specs.List.{fold, insert}
use Rattle.std.specs.Option.{option_map_or}
use Rattle.std.proofs.lemmas.List.Sums.{fold_more}
use Rattle.tocmark_read_spans.specs.Role.{IsSlot, role_at, with_mark}
use Rattle.tocmark_read_spans.specs.declared.role.MarkedByte.{MarkedByte}
use Rattle.tocmark_read_spans.specs.declared.role.Role.{Role}
use Rattle.tocmark_read_spans.specs.declared.role.Role.TheVariants.{Plain}

-- what is set is mapped
pub map_slice_set : {A B : Type 0} (f : A → B) (l : List A) (i : ℕ) (a : A) → map f (slice_set l i a) ≡ slice_set (map f l) i (f a)
map_slice_set f [] i a = refl
map_slice_set f (x ∷ l) zero a = refl
map_slice_set f (x ∷ l) (suc i) a = ap (λ r. f x ∷ r) (map_slice_set f l i a)

-- what is set at one place twice is what is set last
pub set_again : {A : Type 0} (l : List A) (i j : ℕ) (a b : A) → i ≡ j → slice_set l j b ≡ slice_set (slice_set l i a) j b
set_again l i j a b e = sym (twice l j a b) ∙ ap (λ k. slice_set (slice_set l k a) j b) (sym e)
  where
    twice : {A : Type 0} (l : List A) (i : ℕ) (a b : A) → slice_set (slice_set l i a) i b ≡ slice_set l i b
    twice [] i a b = refl
    twice (x ∷ l) zero a b = refl
    twice (x ∷ l) (suc i) a b = ap (λ r. x ∷ r) (twice l i a b)

-- what is set at two places may be set in either order
pub set_apart : {A : Type 0} (l : List A) (i j : ℕ) (a b : A) → j < i → slice_set (slice_set l j b) i a ≡ slice_set (slice_set l i a) j b
set_apart [] i j a b h = refl
set_apart (x ∷ l) zero j a b h = absurd (omega (arith, h))
set_apart (x ∷ l) (suc i) zero a b h = refl
set_apart (x ∷ l) (suc i) (suc j) a b h = ap (λ r. x ∷ r) (set_apart l i j a b (let k : j < i = omega (arith, h) in k))

-- a mark after all
insert_last : (marks : List MarkedByte) (m : MarkedByte) (roles : List Role) → fold with_mark roles (insert marks (length marks) m) ≡ with_mark (fold with_mark roles marks) m
insert_last [] m roles = refl
insert_last (x ∷ marks) m roles = insert_last marks m (with_mark roles x)

pub slot_last : (marks : List MarkedByte) (place k : ℕ) → k ≡ length marks → IsSlot marks place k
slot_last marks place k e = subst (IsSlot marks place) (sym e) (λ roles r. insert_last marks (record { place = place; role = r }) roles)

-- a mark in front of one that is at a later place
insert_step : (marks : List MarkedByte) (k : ℕ) (d m : MarkedByte) (roles : List Role) → k < length marks → m.place < (get_or marks k d).place → fold with_mark roles (insert marks k m) ≡ fold with_mark roles (insert marks (suc k) m)
insert_step [] k d m roles within later = absurd (omega (arith, within))
insert_step (x ∷ marks) zero d m roles within later = ap (λ rs. fold with_mark rs marks) (set_apart roles x.place m.place x.role m.role later)
insert_step (x ∷ marks) (suc k) d m roles within later = insert_step marks k d m (with_mark roles x) (let w : k < length marks = omega (arith, within) in w) later

pub slot_down : (marks : List MarkedByte) (place k : ℕ) (d : MarkedByte) → 0 < k → k ≤ length marks → place < (get_or marks (k - 1) d).place → IsSlot marks place k → IsSlot marks place (k - 1)
slot_down marks place k d some within later h =
    let next : k ≡ suc (k - 1) = omega (arith, some) in
    λ roles r. insert_step marks (k - 1) d (record { place = place; role = r }) roles (omega (arith, some, within)) later ∙ subst (IsSlot marks place) next h roles r

-- a byte without a number is plain
pub unmarked : (marks : List MarkedByte) (n : ℕ) → map (role_at marks) (replicate n 0) ≡ replicate n Plain
unmarked marks zero = refl
unmarked marks (suc n) = ap (λ r. Plain ∷ r) (unmarked marks n)

-- the number of one more mark gives its byte the role
pub numbered : (marks : List MarkedByte) (at : ℕ) (d : MarkedByte) (numbers : List ℕ) → at < length marks
    → map (role_at marks) (slice_set numbers (get_or marks at d).place (at + 1)) ≡ with_mark (map (role_at marks) numbers) (get_or marks at d)
numbered marks at d numbers within =
    let m = get_or marks at d in
    let next : at + 1 ≡ suc at = omega arith in
    ap (λ n. map (role_at marks) (slice_set numbers m.place n)) next
    ∙ map_slice_set (role_at marks) numbers m.place (suc at)
    ∙ ap (λ (o : Option MarkedByte). slice_set (map (role_at marks) numbers) m.place (option_map_or (λ (k : MarkedByte). k.role) o Plain)) (slice_get-get_or marks at d within)

-- one more mark in a loop over them
pub numbered_step : (marks : List MarkedByte) (at : ℕ) (d : MarkedByte) (before after : List ℕ) (roles : List Role) → at < length marks
    → map (role_at marks) before ≡ fold with_mark roles (take at marks)
    → after ≡ slice_set before (get_or marks at d).place (at + 1)
    → map (role_at marks) after ≡ fold with_mark roles (take (at + 1) marks)
numbered_step marks at d before after roles within h e =
    ap (map (role_at marks)) e
    ∙ numbered marks at d before within
    ∙ ap (λ rs. with_mark rs (get_or marks at d)) h
    ∙ sym (fold_more with_mark roles marks at d within)

-- all marks over plain bytes
pub numbered_all : (marks found : List MarkedByte) (n : ℕ) (zeros after : List ℕ) → found ≡ marks → zeros ≡ replicate n 0
    → map (role_at found) after ≡ fold with_mark (map (role_at found) zeros) found
    → map (role_at marks) after ≡ fold with_mark (replicate n Plain) marks
numbered_all marks found n zeros after f z h =
    ap (λ ms. map (role_at ms) after) (sym f)
    ∙ h
    ∙ ap (λ ms. fold with_mark (map (role_at ms) zeros) ms) f
    ∙ ap (λ (ns : List ℕ). fold with_mark (map (role_at marks) ns) marks) z
    ∙ ap (λ rs. fold with_mark rs marks) (unmarked marks n)
